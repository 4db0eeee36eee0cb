-- The nodes that wait, and those that a collection frees.
use Rattle.std.specs.Prelude.{◌≡◌, ◌≢◌, ◌⊎◌, ℕ, ◌+◌, ◌*◌, ◌<◌, ◌≤◌, nat_le, min, Bool, List, [], ◌∷◌, ◌++◌, map, drop, length, Option, Some, None, option_map, if◌then◌else◌}
use Rattle.std.specs.List.{take_while, prefix_len}
use Rattle.nm_edge.specs.declared.node.NodeId.{NodeId}
use Rattle.nm_model.specs.declared.event.Event.TheVariants.{Give}
use Rattle.nm_model.specs.declared.ledger.Ledger.{Ledger}
use Rattle.nm_model.specs.declared.ledger.Queued.{Queued}
use Rattle.nm_model.specs.declared.reply.Reply.TheVariants.{Freed}
use Rattle.nm_model.specs.Knowledge.{Knowledge}
use Rattle.nm_model.specs.Ledgers.{held, label, unlabelled}
use Rattle.nm_model.specs.Walks.{Entry as LogEntry}
use Rattle.nm_limbo.specs.Queue.{BlockQueue}
use Rattle.nm_order.specs.Reads.{HasRead}
use Rattle.nm_steps.specs.Rules.{knowledge}
use Rattle.nm_steps.specs.Steps.{PassView, Continues}
use Rattle.nm_epoch.specs.Resting.{Settles, epochs, search}
use Rattle.nm_epoch.specs.Scans.{IsSightOf}
use Rattle.nm_epoch.specs.declared.collecting.Collected.{Collected}
use Rattle.nm_epoch.specs.declared.collecting.Entry.{Entry}
use Rattle.nm_epoch.specs.declared.collecting.HeldQueue.{HeldQueue}
use Rattle.nm_epoch.specs.declared.collecting.Tally.{Tally}

-- an entry with its label, as a ledger has it
abbrev pub queued : Entry → Queued
queued e = record { node = e.node; label = Some e.label }

-- the worker holds the ledger of that origin, and these are the entries of its queue, all with
-- labels
abbrev pub IsQueueOf : Knowledge → ℕ → List Entry → Type 0
IsQueueOf k origin es = option_map (λ (l : Ledger). l.queue) (held k.ledgers origin)
    ≡ Some (map queued es)

-- the worker holds the ledger of that origin. In its queue these entries wait, and after them these
-- nodes, which wait for their label
abbrev pub IsQueueThen : Knowledge → ℕ → List Entry → List NodeId → Type 0
IsQueueThen k origin es ns = option_map (λ (l : Ledger). l.queue) (held k.ledgers origin)
    ≡ Some (map queued es ++ map unlabelled ns)

abbrev pub labelled_so : ℕ → NodeId → Entry
labelled_so epoch n = record { node = n; label = epoch }

-- in each held queue the entries without a label have this one now, and those with a label still
-- have it (Fraser, section 5)
abbrev pub TakesLabels : ℕ → Knowledge → Knowledge → Type 0
TakesLabels epoch k l = (o : ℕ) (es : List Entry) (ns : List NodeId) → IsQueueThen k o es ns
    → IsQueueOf l o (es ++ map (labelled_so epoch) ns)

-- its label is at least two below the epoch
abbrev pub is_ripe : ℕ → Entry → Bool
is_ripe epoch e = nat_le (e.label + 2) epoch

-- the node at the front, if it is ripe
abbrev pub ripe_front : ℕ → List Entry → Option NodeId
ripe_front epoch [] = None
ripe_front epoch (e ∷ es) = if is_ripe epoch e then Some e.node else None

-- the longest front of ripe entries
abbrev pub ripe_part : ℕ → List Entry → List Entry
ripe_part epoch es = take_while (is_ripe epoch) es

-- the entries after the ripe front
abbrev pub rest_of : ℕ → List Entry → List Entry
rest_of epoch es = drop (prefix_len (is_ripe epoch) es) es

-- the entry's slot is given to the pool, and its node is freed
abbrev pub freeing : Entry → LogEntry
freeing e = (Give e.node.slot, Freed e.node)

-- ---- what is counted beside a queue

-- the value of a 64-bit counter, which stops at its greatest value
abbrev pub capped : ℕ → ℕ
capped n = min n 18446744073709551615

-- all counts are zero
abbrev pub blank : Tally
blank = record { links = 0; flags = 0; splices = 0; freed = 0 }

-- the counts after n more nodes were freed
abbrev pub freed_more : ℕ → Tally → Tally
freed_more n t = record t { freed = capped (t.freed + n) }

-- a queue has lost what was ripe at its front, and that number is added to its count of freed nodes
pub record HasLost (epoch : ℕ) (h g : HeldQueue) : Type 0 where
  pub origin : g.origin ≡ h.origin
  pub items : g.queue.items ≡ rest_of epoch h.queue.items
  pub counts : g.counts ≡ freed_more (length (ripe_part epoch h.queue.items)) h.counts

-- ---- several queues

-- none of these is of that origin
abbrev pub NoneHas : ℕ → List HeldQueue → Type 0
NoneHas o [] = Unit {0}
NoneHas o (h ∷ hs) = (o ≢ h.origin) × NoneHas o hs

-- these are queues of ledgers that the worker holds, each of another origin, with all that waits in
-- them, labelled
abbrev pub AreHeld : Knowledge → List HeldQueue → Type 0
AreHeld k [] = Unit {0}
AreHeld k (h ∷ hs) = IsQueueOf k h.origin h.queue.items × NoneHas h.origin hs × AreHeld k hs

-- what is ripe at the fronts, queue by queue
abbrev pub ripe_of : ℕ → List HeldQueue → List Entry
ripe_of epoch [] = []
ripe_of epoch (h ∷ hs) = ripe_part epoch h.queue.items ++ ripe_of epoch hs

-- each of these queues has lost what was ripe at its front
abbrev pub HaveLost : ℕ → List HeldQueue → List HeldQueue → Type 0
HaveLost epoch [] [] = Unit {0}
HaveLost epoch (h ∷ hs) (g ∷ gs) = HasLost epoch h g × HaveLost epoch hs gs
HaveLost epoch _ _ = ⊥

-- the number of spare places that a queue keeps, if it has them: room for a try, and for what is
-- cut off until the next collection
abbrev pub spare_kept : ℕ
spare_kept = 256

-- the queue has no more blocks, of 32 places each, than its entries and these spare places need:
-- there are fewer spare places than these and a block, and fewer used up places than a block has
pub record HasFewBlocks (q : BlockQueue Entry) : Type 0 where
  pub spare : q.spare < spare_kept + 32
  pub blocks : 32 * q.blocks < length q.items + q.spare + 32

-- r, which a collection left of q, has so few blocks. It has no more blocks than q had, and as many
-- unless it still has this many spare places
pub record IsTrimmed (q r : BlockQueue Entry) : Type 0 where
  pub few : HasFewBlocks r
  pub fewer : r.blocks ≤ q.blocks
  pub kept : (r.blocks ≡ q.blocks) ⊎ (spare_kept ≤ r.spare)

-- each queue is trimmed so
abbrev pub AreTrimmed : List HeldQueue → List HeldQueue → Type 0
AreTrimmed [] [] = Unit {0}
AreTrimmed (h ∷ hs) (g ∷ gs) = IsTrimmed h.queue g.queue × AreTrimmed hs gs
AreTrimmed _ _ = ⊥

-- the ledgers after a sight of this epoch: if a cut waited for its label, it has this one
abbrev pub ledgers_seen : ℕ → Knowledge → List (Option Ledger)
ledgers_seen epoch k = if k.brief.unlabelled then label epoch k.ledgers else k.ledgers

-- the ledgers of all other origins are as that sight left them: unchanged, or with the label that
-- was missing
abbrev pub KeepsOtherLedgers : ℕ → List HeldQueue → Knowledge → Knowledge → Type 0
KeepsOtherLedgers epoch hs k l = (o : ℕ) → NoneHas o hs
    → held l.ledgers o ≡ held (ledgers_seen epoch k) o

-- the nodes that were retired, of an origin whose ledger is held
abbrev pub retired_of : Knowledge → ℕ → Option (List NodeId)
retired_of k o = option_map (λ (l : Ledger). l.retired) (held k.ledgers o)

-- no more nodes were retired
abbrev pub KeepsRetired : Knowledge → Knowledge → Type 0
KeepsRetired k l = (o : ℕ) → retired_of l o ≡ retired_of k o

-- the log of a collection, oldest entry first: one sight of the epoch, and then, queue by queue, a
-- give of each entry of the longest front whose label is at least two below the epoch read (Fraser,
-- section 5)
abbrev pub IsCollection : ℕ → List HeldQueue → List LogEntry → List LogEntry → Type 0
IsCollection epoch hs old new =
    (mid : List LogEntry) × IsSightOf epoch old mid × (new ≡ mid ++ map freeing (ripe_of epoch hs))

-- ---- the effect of a collection

-- nothing was retired; epochs, the call, what is known of nodes, and private slots are unchanged
pub record OnlyFrees (p q : PassView) : Type 0 where
  pub retired : KeepsRetired (knowledge p.view) (knowledge q.view)
  pub epochs_are : epochs q ≡ epochs p
  pub search_is : search q ≡ search p
  pub nodes : (knowledge q.view).known ≡ (knowledge p.view).known
  pub private : (knowledge q.view).drafts ≡ (knowledge p.view).drafts

-- n nodes at the front of one queue were freed: all that are ripe there
pub record FreesFront (epoch : ℕ) (p q : PassView) (h g : HeldQueue) (n : ℕ) : Type 0 where
  pub on : Continues p q
  pub entries : q.view.log ≡ p.view.log ++ map freeing (ripe_part epoch h.queue.items)
  pub freed : n ≡ length (ripe_part epoch h.queue.items)
  pub lost : HasLost epoch h g
  pub blocks : IsTrimmed h.queue g.queue
  pub queue : IsQueueOf (knowledge q.view) g.origin g.queue.items
  pub others : (o : ℕ) → o ≢ h.origin
      → held (knowledge q.view).ledgers o ≡ held (knowledge p.view).ledgers o
  pub only : OnlyFrees p q

-- n nodes at the fronts of these queues were freed: all that are ripe there
pub record FreesFronts (epoch : ℕ) (p q : PassView) (hs gs : List HeldQueue) (n : ℕ) : Type 0 where
  pub on : Continues p q
  pub entries : q.view.log ≡ p.view.log ++ map freeing (ripe_of epoch hs)
  pub freed : n ≡ length (ripe_of epoch hs)
  pub lost : HaveLost epoch hs gs
  pub blocks : AreTrimmed hs gs
  pub queues : AreHeld (knowledge q.view) gs
  pub others : (o : ℕ) → NoneHas o hs
      → held (knowledge q.view).ledgers o ≡ held (knowledge p.view).ledgers o
  pub only : OnlyFrees p q

-- the epoch was read, and what was ripe at the fronts of these queues was freed, in a tree of this
-- many nodes
pub record Collects (nodes : ℕ) (p q : PassView) (hs gs : List HeldQueue) (r : Collected) : Type 0 where
  pub on : Continues p q
  pub part : IsCollection r.epoch hs p.view.log q.view.log
  pub freed : r.freed ≡ length (ripe_of r.epoch hs)
  pub lost : HaveLost r.epoch hs gs
  pub blocks : AreTrimmed hs gs
  pub queues : AreHeld (knowledge q.view) gs
  pub others : KeepsOtherLedgers r.epoch hs (knowledge p.view) (knowledge q.view)
  pub retired : KeepsRetired (knowledge p.view) (knowledge q.view)
  pub steps : length q.view.log ≤ length p.view.log + nodes
  pub newest : (epoch : ℕ) → HasRead p.view.log epoch → epoch ≤ r.epoch
  pub seen : (epochs q).seen ≡ Some r.epoch
  pub settles : Settles p q
  pub private : (knowledge q.view).drafts ≡ (knowledge p.view).drafts
