-- A worker between two calls.
use Rattle.std.specs.Prelude.{◌≡◌, ◌≢◌, ◌⊎◌, ◌<◌, ◌≤◌, ◌+◌, ◌*◌, ◌==◌, ℕ, zero, suc, false, if◌then◌else◌, map, sum_by, length, List, [], ◌∷◌, Option, Some, None, IsSome, unwrap_or}
use Rattle.nm_edge.specs.Layouts.{Layout}
use Rattle.nm_model.specs.declared.ledger.Ledger.{Ledger}
use Rattle.nm_model.specs.Ledgers.{held, fresh_ledger}
use Rattle.nm_model.specs.Maps.{get}
use Rattle.nm_model.specs.Walks.{Entry}
use Rattle.nm_order.specs.Facts.Fact.{KnowsSlot}
use Rattle.nm_order.specs.Logs.{known_by}
use Rattle.nm_steps.specs.declared.view.Held.{Held}
use Rattle.nm_steps.specs.declared.view.View.{View}
use Rattle.nm_steps.specs.Rules.{knowledge, held_log}
use Rattle.nm_steps.specs.Steps.{TreeView, PassView, fresh_view}
use Rattle.nm_epoch.specs.declared.collecting.HeldQueue.{HeldQueue}
use Rattle.nm_epoch.specs.Collecting.{AreHeld, HasFewBlocks, spare_kept, capped}
use Rattle.nm_epoch.specs.Resting.{IsResting, begun_for, epochs, search}
use Rattle.nm_model.specs.Histories.{call_begun}
use Rattle.nm_walks.specs.Bounds.{cut_bound}
use Rattle.nm_calls.specs.Deletes.{IsRemoving}
use Rattle.nm_walks.specs.Rooms.{TakesRoom}
use Rattle.nm_walks.specs.Telling.{Tells}
use Rattle.nm_walks.specs.WonCounts.{CountsWon, won_links, won_flags, won_splices}
use Rattle.nm_edge.specs.declared.placement.Fit.{Fit}
use Rattle.nm_tree.specs.declared.worker.Counts.{Counts}
use Rattle.nm_calls.specs.declared.deleting.Unfinished.{Unfinished}
use Rattle.nm_tree.specs.declared.worker.Standing.{Standing}
use Rattle.nm_tree.specs.declared.worker.Standing.TheVariants as standing

-- what clauses see of a worker: its pass; the queues that it holds; the pending delete, with its
-- key and the leaf that it flagged; the epoch at which the caller has pinned it; and the order in
-- which it tries the slots of the pool
pub record WorkerView : Type 0 where
  pub pass : PassView
  pub queues : List HeldQueue
  pub pending : Option Unfinished
  pub held : Option ℕ
  pub fit : Fit

-- `pending_in`, `held_in`: the delete that is pending, and the epoch at which the caller has pinned
-- the worker
abbrev pub pending_in : Standing → Option Unfinished
pending_in (standing.Pending n) = Some n
pending_in _ = None

abbrev pub held_in : Standing → Option ℕ
held_in (standing.Held epoch) = Some epoch
held_in _ = None

-- the caller has pinned the worker at this epoch, for no call. The worker knows slot 2, where each
-- walk begins
pub record IsHolding (p : PassView) (epoch : ℕ) : Type 0 where
  pub announcement : (epochs p).announcement ≡ Some epoch
  pub pin : (epochs p).pin ≡ Some epoch
  pub labelled : (epochs p).unlabelled ≡ false
  pub search : search p ≡ begun_for None
  pub known : Tells p (KnowsSlot 2)

-- the worker rests, is pinned by the caller, or stays pinned for a leaf that it has flagged
abbrev pub IsAs : PassView → Option Unfinished → Option ℕ → Type 0
IsAs p None None = IsResting p
IsAs p None (Some epoch) = IsHolding p epoch
IsAs p (Some n) None = IsRemoving p n.key n.leaf
IsAs p (Some n) (Some epoch) = ⊥

-- ---- the queues that a worker holds

-- the queue of that origin is among these
abbrev pub HasOrigin : ℕ → List HeldQueue → Type 0
HasOrigin o [] = ⊥
HasOrigin o (h ∷ hs) = (h.origin ≡ o) ⊎ HasOrigin o hs

-- each origin is above the ones before it
abbrev pub AreAbove : ℕ → List HeldQueue → Type 0
AreAbove o [] = Unit {0}
AreAbove o (h ∷ hs) = (o < h.origin) × AreAbove h.origin hs

-- the origins of these queues ascend
abbrev pub Ascend : List HeldQueue → Type 0
Ascend [] = Unit {0}
Ascend (h ∷ hs) = AreAbove h.origin hs

-- the queue of that origin has that index
abbrev pub QueueStandsAt : ℕ → ℕ → List HeldQueue → Type 0
QueueStandsAt i o [] = ⊥
QueueStandsAt zero o (h ∷ hs) = h.origin ≡ o
QueueStandsAt (suc i) o (h ∷ hs) = QueueStandsAt i o hs

-- the origins are the same, and each queue is unchanged, except for that of one origin
abbrev pub KeepsOtherQueues : ℕ → List HeldQueue → List HeldQueue → Type 0
KeepsOtherQueues o [] [] = Unit {0}
KeepsOtherQueues o (h ∷ hs) (g ∷ gs) =
    (g.origin ≡ h.origin) × ((h.origin ≡ o) ⊎ (g ≡ h)) × KeepsOtherQueues o hs gs
KeepsOtherQueues o _ _ = ⊥

-- each queue has the blocks that it had, or, if it took some, no block more than the waiting nodes
-- and the room of a try need
abbrev pub TakeRoom : List HeldQueue → List HeldQueue → Type 0
TakeRoom [] [] = Unit {0}
TakeRoom (h ∷ hs) (g ∷ gs) = TakesRoom h.queue g.queue × TakeRoom hs gs
TakeRoom _ _ = ⊥

-- no queue has a block more than its waiting nodes, and the spare places that a collection leaves,
-- need
abbrev pub HaveFewBlocks : List HeldQueue → Type 0
HaveFewBlocks [] = Unit {0}
HaveFewBlocks (h ∷ hs) = HasFewBlocks h.queue × HaveFewBlocks hs

-- the queue of that origin is among these, and has less room than a try needs
abbrev pub HasLittleRoom : ℕ → List HeldQueue → Type 0
HasLittleRoom o [] = ⊥
HasLittleRoom o (h ∷ hs) = ((h.origin ≡ o) × (h.queue.spare < cut_bound)) ⊎ HasLittleRoom o hs

-- `waiting_in`, `blocks_in`: how many nodes wait in these queues, and how many blocks they have
abbrev pub waiting_in : List HeldQueue → ℕ
waiting_in hs = sum_by (λ (h : HeldQueue). length h.queue.items) hs

abbrev pub blocks_in : List HeldQueue → ℕ
blocks_in hs = sum_by (λ (h : HeldQueue). h.queue.blocks) hs

-- the queues have few blocks: 32 places a block are at most the waiting nodes and 318 places for
-- each queue. These are the 256 spare places that a collection leaves, and twice at most 31 places:
-- those that are used up, and those that one block less would not leave
abbrev pub AreFewIn : ℕ → List HeldQueue → Type 0
AreFewIn blocks hs = 32 * blocks ≤ waiting_in hs + (spare_kept + 62) * length hs

-- ---- what is counted of an origin

-- the log of a worker among these, or the empty log
abbrev pub log_among : ℕ → List Held → List Entry
log_among o [] = []
log_among o (h ∷ hs) = if h.number == o then h.log else log_among o hs

-- the log of a worker that a pass covers: its own log, or that of a worker that joined it, directly
-- or through others
abbrev pub log_held_of : View → ℕ → List Entry
log_held_of v o = log_among o (held_log v.number v.log ∷ v.others)

-- the ledger of an origin if the worker holds it, else a fresh one
abbrev pub ledger_in : View → ℕ → Ledger
ledger_in v o = unwrap_or (held (knowledge v).ledgers o) fresh_ledger

-- a queue has the right counts: how many links, flags and splices the worker of its origin has won
-- by its log, and how many nodes were freed by its ledger
pub record IsCounted (v : View) (h : HeldQueue) : Type 0 where
  pub won : CountsWon (log_held_of v h.origin) h.counts
  pub freed : h.counts.freed ≡ capped (length (ledger_in v h.origin).freed)

-- each of these queues has the right counts
abbrev pub AreCounted : View → List HeldQueue → Type 0
AreCounted v [] = Unit {0}
AreCounted v (h ∷ hs) = IsCounted v h × AreCounted v hs

-- the counts that a queue gives of its origin; what was retired is what was freed and what waits
abbrev pub counts_in : HeldQueue → Counts
counts_in h = record {
  links = h.counts.links;
  flags = h.counts.flags;
  splices = h.counts.splices;
  retired = capped (h.counts.freed + length h.queue.items);
  freed = h.counts.freed;
  queued = length h.queue.items;
}

-- the counts that the queue of an origin gives, if it is among these
abbrev pub counts_among : List HeldQueue → ℕ → Option Counts
counts_among [] o = None
counts_among (h ∷ hs) o = if h.origin == o then Some (counts_in h) else counts_among hs o

-- the same counts as numbers that a caller reads, at most 2^64 - 1 each: what the worker of an
-- origin has won, by its log, and what became of the nodes that it cut off, by their ledger
pub record IsLedger (v : View) (o : ℕ) (c : Counts) : Type 0 where
  pub links : c.links ≡ capped (won_links (log_held_of v o))
  pub flags : c.flags ≡ capped (won_flags (log_held_of v o))
  pub splices : c.splices ≡ capped (won_splices (log_held_of v o))
  pub retired : c.retired ≡ capped (length (ledger_in v o).retired)
  pub freed : c.freed ≡ capped (length (ledger_in v o).freed)
  pub queued : c.queued ≡ length (ledger_in v o).queue

-- each of these queues gives the counts of its ledger
abbrev pub TellLedgers : View → List HeldQueue → Type 0
TellLedgers v [] = Unit {0}
TellLedgers v (h ∷ hs) = IsLedger v h.origin (counts_in h) × TellLedgers v hs

-- the ledgers of other origins are unchanged
abbrev pub OnlyOwnLedger : PassView → PassView → Type 0
OnlyOwnLedger p q = (o : ℕ) → o ≢ p.view.number
    → held (knowledge q.view).ledgers o ≡ held (knowledge p.view).ledgers o

-- ---- between two calls

-- the queues are those of all ledgers that the worker holds, by ascending origin, each with all
-- that waits in it, labelled, and with few blocks; no slot is private; the worker is pinned only if
-- its caller pinned it or a key is pending
pub record IsBetweenCalls (w : WorkerView) : Type 0 where
  pub queues : AreHeld (knowledge w.pass.view) w.queues
  pub all : (o : ℕ) → IsSome (held (knowledge w.pass.view).ledgers o) → HasOrigin o w.queues
  pub ascend : Ascend w.queues
  pub blocks : HaveFewBlocks w.queues
  pub private : (slot : ℕ) → get (knowledge w.pass.view).drafts slot ≡ None
  pub stands : IsAs w.pass w.pending w.held

-- if no delete is pending, the worker has begun no call that has not ended
abbrev pub IsIdle : WorkerView → Type 0
IsIdle w = w.pending ≡ None → call_begun w.pass.view.number w.pass.view.past ≡ None

-- a worker of that number is among these
abbrev pub HasNumber : ℕ → List Held → Type 0
HasNumber o [] = ⊥
HasNumber o (h ∷ hs) = (h.number ≡ o) ⊎ HasNumber o hs

-- the queues are those of the workers that the view covers
pub record AreOf (v : View) (hs : List HeldQueue) : Type 0 where
  pub each : (o : ℕ) → HasOrigin o hs → HasNumber o (held_log v.number v.log ∷ v.others)
  pub all : (o : ℕ) → HasNumber o (held_log v.number v.log ∷ v.others) → HasOrigin o hs

-- by these logs, their workers hold no private slots
abbrev pub HoldNoSlot : Layout → List Held → Type 0
HoldNoSlot L [] = Unit {0}
HoldNoSlot L (h ∷ hs) = (length (known_by L h.number h.log).drafts ≡ 0) × HoldNoSlot L hs

-- the worker has at most 64 queues, with the right counts, and its own one has the index `home`; it
-- has not resigned; the queues are those of the workers that its view covers, and those that
-- resigned hold no private slots
pub record IsWorker (w : WorkerView) (home : ℕ) : Type 0 where
  pub between : IsBetweenCalls w
  pub counted : AreCounted w.pass.view w.queues
  pub few : length w.queues ≤ 64
  pub own : QueueStandsAt home w.pass.view.number w.queues
  pub alive : w.pass.view.resigned ≡ false
  pub numbers : AreOf w.pass.view w.queues
  pub resigned : HoldNoSlot w.pass.view.layout w.pass.view.others

-- these are worker k, worker k + 1, and so on, which have done nothing yet
abbrev pub AreNew : TreeView → ℕ → List WorkerView → Type 0
AreNew b k [] = Unit {0}
AreNew b k (w ∷ ws) = (w.pass.table ≡ b.table) × (w.pass.view ≡ fresh_view b.layout k)
    × (w.pending ≡ None) × (w.held ≡ None)
    × (map (λ (h : HeldQueue). h.queue.items) w.queues ≡ [] ∷ []) × AreNew b (suc k) ws

-- the pass has done nothing yet
abbrev pub IsFresh : PassView → Type 0
IsFresh p = (k : ℕ) × (p.view ≡ fresh_view p.view.layout k)

-- none of these passes has done anything yet
abbrev pub AreAllFresh : List PassView → Type 0
AreAllFresh [] = Unit {0}
AreAllFresh (p ∷ ps) = IsFresh p × AreAllFresh ps

-- each of these workers claims by that fit
abbrev pub HaveFit : Fit → List WorkerView → Type 0
HaveFit f [] = Unit {0}
HaveFit f (w ∷ ws) = (w.fit ≡ f) × HaveFit f ws

-- the worker of that pass, with an empty queue of its own
abbrev pub IsNewWorker : Fit → PassView → WorkerView → Type 0
IsNewWorker f p w = (w.pass ≡ p) × (w.pending ≡ None) × (w.held ≡ None)
    × (map (λ (h : HeldQueue). h.queue.items) w.queues ≡ [] ∷ []) × (w.fit ≡ f)

-- the workers of these passes, in their order
abbrev pub AreMade : Fit → List PassView → List WorkerView → Type 0
AreMade f [] [] = Unit {0}
AreMade f (p ∷ ps) (w ∷ ws) = IsNewWorker f p w × AreMade f ps ws
AreMade f _ _ = ⊥
