-- Collections that hand out the value of each leaf that they free, in a table with values.
use Rattle.std.specs.Prelude.{◌≡◌, ◌≢◌, ◌⊎◌, ◌≤◌, ◌+◌, ℕ, Bool, true, false, List, [], ◌∷◌, ◌++◌, map, length, take, Some, None}
use Rattle.nm_model.specs.Ledgers.{held}
use Rattle.nm_model.specs.Walks.{Entry as LogEntry}
use Rattle.nm_order.specs.Reads.{HasRead}
use Rattle.nm_steps.specs.Rules.{knowledge, value_of}
use Rattle.nm_steps.specs.Steps.{PassView, Continues}
use Rattle.nm_steps.specs.Values.{HasSeenStores, OnlySees, SeesLeft, is_bare}
use Rattle.nm_epoch.specs.declared.collecting.Entry.{Entry}
use Rattle.nm_epoch.specs.declared.collecting.HeldQueue.{HeldQueue}
use Rattle.nm_epoch.specs.declared.handing.HandedOut.{HandedOut}
use Rattle.nm_epoch.specs.Collecting.{AreHeld, AreTrimmed, IsQueueOf, IsTrimmed, KeepsOtherLedgers, KeepsRetired, NoneHas, OnlyFrees, freed_more, freeing, ripe_front, ripe_part}
use Rattle.nm_epoch.specs.Resting.{Settles, epochs}
use Rattle.nm_epoch.specs.Scans.{IsSightOf}

-- at a moment between p and q, when this entry was at the front of its queue, the pass saw whether the
-- left edge of the entry's slot leads to a node. It leads to none if the node is a leaf (`bare`)
pub record WasFound (origin : ℕ) (p q : PassView) (e : Entry) (bare : Bool) : Type 0 where
  pub at : PassView
  pub after : Continues p at
  pub until : Continues at q
  pub later : List Entry
  pub waits : IsQueueOf (knowledge at.view) origin (e ∷ later)
  pub seen : HasSeenStores at.view
  pub is : bare ≡ is_bare at.view seen e.node.slot

-- the entry was found to be a leaf. After that, when it still was at the front of its queue, the pass
-- read this value of its slot
pub record WasRead (origin : ℕ) (p q : PassView) (e : Entry) (v : ℕ) : Type 0 where
  pub found : WasFound origin p q e true
  pub at : PassView
  pub after : Continues found.at at
  pub until : Continues at q
  pub later : List Entry
  pub waits : IsQueueOf (knowledge at.view) origin (e ∷ later)
  pub seen : HasSeenStores at.view
  pub value : v ≡ value_of at.view.stores e.node.slot

-- these values were read for the leaves among these entries, in their order. Each other entry was found
-- to be no leaf
abbrev pub WereRead : ℕ → PassView → PassView → List Entry → List ℕ → Type 0
WereRead origin p q [] vs = vs ≡ []
WereRead origin p q (e ∷ es) vs = (WasFound origin p q e false × WereRead origin p q es vs)
    ⊎ ((v : ℕ) × (later : List ℕ) × (vs ≡ v ∷ later) × WasRead origin p q e v
    × WereRead origin p q es later)

-- the pass has seen whether the left edge of a slot leads to a node. If it leads to none, the value of
-- the slot was read and written after the others, of which there were `count`
pub record HandsOut (p q : PassView) (slot count result : ℕ) (old new : List ℕ) : Type 0 where
  pub mid : PassView
  pub bare : Bool
  pub looks : SeesLeft p mid slot bare
  pub leaf : bare ≡ true → OnlySees mid q × (result ≡ count + 1)
      × (take result new ≡ take count old ++ value_of q.view.stores slot ∷ [])
  pub other : bare ≡ false → (q ≡ mid) × (result ≡ count) × (new ≡ old)

-- ---- one queue

-- the queue has lost these ripe entries at its front, which are added to its count of freed nodes.
-- These values were read for the leaves among them
pub record HasHandedOut (epoch : ℕ) (p q : PassView) (h g : HeldQueue) (freed : List Entry) (values : List ℕ) : Type
    0 where
  pub parts : h.queue.items ≡ freed ++ g.queue.items
  pub ripe : ripe_part epoch h.queue.items ≡ freed ++ ripe_part epoch g.queue.items
  pub read : WereRead h.origin p q freed values
  pub origin : g.origin ≡ h.origin
  pub counts : g.counts ≡ freed_more (length freed) h.counts

-- these values were handed out for nodes at the front of one queue, which were freed. If there was
-- room for one more value, all that was ripe was freed
pub record HandsFront (epoch : ℕ) (room : Bool) (p q : PassView) (h g : HeldQueue) (values : List ℕ) : Type 0 where
  pub on : Continues p q
  pub freed : List Entry
  pub handed : HasHandedOut epoch p q h g freed values
  pub entries : q.view.log ≡ p.view.log ++ map freeing freed
  pub all : room ≡ true → ripe_front epoch g.queue.items ≡ None
  pub blocks : IsTrimmed h.queue g.queue
  pub queue : IsQueueOf (knowledge q.view) g.origin g.queue.items
  pub others : (o : ℕ) → o ≢ h.origin
      → held (knowledge q.view).ledgers o ≡ held (knowledge p.view).ledgers o
  pub only : OnlyFrees p q

-- ---- several queues

-- each queue has lost such entries; these are the entries and the values of all, queue by queue
abbrev pub HaveHandedOut : ℕ → PassView → PassView → List HeldQueue → List HeldQueue → List Entry → List ℕ → Type 0
HaveHandedOut epoch p q [] [] freed values = (freed ≡ []) × (values ≡ [])
HaveHandedOut epoch p q (h ∷ hs) (g ∷ gs) freed values =
    (es : List Entry) × (vs : List ℕ) × (more : List Entry) × (later : List ℕ)
    × (freed ≡ es ++ more) × (values ≡ vs ++ later) × HasHandedOut epoch p q h g es vs
    × HaveHandedOut epoch p q hs gs more later
HaveHandedOut epoch p q _ _ freed values = ⊥

-- no queue has a ripe node at its front
abbrev pub NoneIsRipe : ℕ → List HeldQueue → Type 0
NoneIsRipe epoch [] = Unit {0}
NoneIsRipe epoch (g ∷ gs) = (ripe_front epoch g.queue.items ≡ None) × NoneIsRipe epoch gs

-- these values were handed out for nodes at the fronts of these queues, which were freed
pub record HandsFronts (epoch : ℕ) (room : Bool) (p q : PassView) (hs gs : List HeldQueue) (values : List ℕ) : Type
    0 where
  pub on : Continues p q
  pub freed : List Entry
  pub handed : HaveHandedOut epoch p q hs gs freed values
  pub entries : q.view.log ≡ p.view.log ++ map freeing freed
  pub all : room ≡ true → NoneIsRipe epoch gs
  pub blocks : AreTrimmed hs gs
  pub queues : AreHeld (knowledge q.view) gs
  pub others : (o : ℕ) → NoneHas o hs
      → held (knowledge q.view).ledgers o ≡ held (knowledge p.view).ledgers o
  pub only : OnlyFrees p q

-- the epoch was read, and then these values were handed out for ripe nodes at the fronts of these
-- queues, in a tree of this many nodes. The nodes were freed. If there was room for one more value,
-- no ripe node is left at a front
pub record CollectsValues (nodes : ℕ) (room : Bool) (p q : PassView) (hs gs : List HeldQueue) (values : List ℕ)
    (r : HandedOut) : Type 0 where
  pub on : Continues p q
  pub freed : List Entry
  pub handed : HaveHandedOut r.epoch p q hs gs freed values
  pub part : (mid : List LogEntry) × IsSightOf r.epoch p.view.log mid
      × (q.view.log ≡ mid ++ map freeing freed)
  pub all : room ≡ true → NoneIsRipe r.epoch gs
  pub blocks : AreTrimmed hs gs
  pub queues : AreHeld (knowledge q.view) gs
  pub others : KeepsOtherLedgers r.epoch hs (knowledge p.view) (knowledge q.view)
  pub retired : KeepsRetired (knowledge p.view) (knowledge q.view)
  pub steps : length q.view.log ≤ length p.view.log + nodes
  pub newest : (epoch : ℕ) → HasRead p.view.log epoch → epoch ≤ r.epoch
  pub seen : (epochs q).seen ≡ Some r.epoch
  pub settles : Settles p q
  pub private : (knowledge q.view).drafts ≡ (knowledge p.view).drafts
