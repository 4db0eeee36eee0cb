-- What a collection that hands out values leaves of its worker.
use Rattle.std.specs.Prelude.{◌≡◌, ◌⊎◌, ◌≤◌, ◌+◌, ◌++◌, ℕ, Bool, true, List, [], ◌∷◌, length, map, All}
use Rattle.nm_model.specs.Walks.{Entry as LogEntry}
use Rattle.nm_order.specs.Reads.{HasRead}
use Rattle.nm_steps.specs.declared.view.View.{View}
use Rattle.nm_steps.specs.Steps.{HasSeenAllOf, IsSamePass}
use Rattle.nm_epoch.specs.declared.collecting.Entry.{Entry}
use Rattle.nm_epoch.specs.declared.collecting.HeldQueue.{HeldQueue}
use Rattle.nm_epoch.specs.declared.handing.HandedOut.{HandedOut}
use Rattle.nm_epoch.specs.Collecting.{AreTrimmed, freed_more, freeing, ripe_part}
use Rattle.nm_epoch.specs.Handing.{NoneIsRipe}
use Rattle.nm_epoch.specs.Scans.{IsSightOf}
use Rattle.nm_calls.specs.HandedBack.{WasCutInner, WasCutWith}
use Rattle.nm_tree.specs.Answers.{KeepsPlace}
use Rattle.nm_tree.specs.Running.{IsFreedInGrace}
use Rattle.nm_tree.specs.Workers.{WorkerView}

-- each leaf among these entries was cut off with the value at its place. Each other entry was cut off
-- when it was no leaf
abbrev pub WereCutWith : View → List Entry → List ℕ → Type 0
WereCutWith v [] ns = ns ≡ []
WereCutWith v (e ∷ es) ns = (WasCutInner v.layout v.past e.node × WereCutWith v es ns)
    ⊎ ((n : ℕ) × (later : List ℕ) × (ns ≡ n ∷ later)
    × WasCutWith v.layout v.past v.stores e.node n × WereCutWith v es later)

-- the queue has lost these ripe entries at its front, which are added to its count of freed nodes. The
-- values are those of the leaves among them
pub record GivesBack (epoch : ℕ) (v : View) (h g : HeldQueue) (freed : List Entry) (values : List ℕ) : Type 0 where
  pub parts : h.queue.items ≡ freed ++ g.queue.items
  pub ripe : ripe_part epoch h.queue.items ≡ freed ++ ripe_part epoch g.queue.items
  pub back : WereCutWith v freed values
  pub origin : g.origin ≡ h.origin
  pub counts : g.counts ≡ freed_more (length freed) h.counts

-- each queue has lost such entries; these are the entries and the values of all, queue by queue
abbrev pub GiveBack : ℕ → View → List HeldQueue → List HeldQueue → List Entry → List ℕ → Type 0
GiveBack epoch v [] [] freed values = (freed ≡ []) × (values ≡ [])
GiveBack epoch v (h ∷ hs) (g ∷ gs) freed values =
    (es : List Entry) × (ns : List ℕ) × (more : List Entry) × (later : List ℕ)
    × (freed ≡ es ++ more) × (values ≡ ns ++ later) × GivesBack epoch v h g es ns
    × GiveBack epoch v hs gs more later
GiveBack epoch v _ _ freed values = ⊥

-- The fields are those of `LeavesCollect`. The freed nodes and the values of the leaves among them
-- are those of the queues, queue by queue (`handed`). Each value is the one that its leaf had right
-- before the leaf was cut off. Each worker that was pinned at the cut of a freed node has unpinned
-- since (`grace`). If there was room for one more value, no ripe node is left at a front (`all`)
pub record LeavesCollectValues (nodes : ℕ) (room : Bool) (w z : WorkerView) (values : List ℕ) (c : HandedOut) : Type
    0 where
  pub same : IsSamePass w.pass z.pass
  pub past : HasSeenAllOf z.pass w.pass
  pub freed : List Entry
  pub handed : GiveBack c.epoch z.pass.view w.queues z.queues freed values
  pub grace : All (λ (e : Entry). IsFreedInGrace z.pass.view e.node) freed
  pub did : (mid : List LogEntry) × IsSightOf c.epoch w.pass.view.log mid
      × (z.pass.view.log ≡ mid ++ map freeing freed)
  pub all : room ≡ true → NoneIsRipe c.epoch z.queues
  pub blocks : AreTrimmed w.queues z.queues
  pub newest : (epoch : ℕ) → HasRead w.pass.view.log epoch → epoch ≤ c.epoch
  pub place : KeepsPlace w z
  pub steps : length z.pass.view.log ≤ length w.pass.view.log + nodes
  pub fit : z.fit ≡ w.fit
