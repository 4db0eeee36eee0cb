-- A swap: what it needs, and what it leaves of the pass and of the worker's own queue.
use Rattle.std.specs.Prelude.{◌≡◌, ◌==◌, ℕ, Bool, true, false, not, List, [], ◌∷◌, ◌++◌, length, option_map, Some, None, if◌then◌else◌}
use Rattle.std.specs.List.{list_all}
use Rattle.nm_edge.specs.Edges.{Edge}
use Rattle.nm_edge.specs.Keys.{IsKey}
use Rattle.nm_edge.specs.declared.edge.Side.{Side}
use Rattle.nm_edge.specs.declared.node.NodeId.{NodeId}
use Rattle.nm_model.specs.declared.event.Event.TheVariants.{Look, Sight, Swap}
use Rattle.nm_model.specs.declared.event.Field.TheVariants.{Birth}
use Rattle.nm_model.specs.declared.event.Op.TheVariants.{Insert}
use Rattle.nm_model.specs.declared.reply.Reply.{Reply}
use Rattle.nm_model.specs.declared.reply.Reply.TheVariants.{BirthIs, Cut, Labelled, Lost}
use Rattle.nm_model.specs.Ledgers.{held, with_cut}
use Rattle.nm_model.specs.Maps.{get}
use Rattle.nm_model.specs.Walks.{Entry, begins_anew}
use Rattle.nm_order.specs.Facts.Since.{ThePin}
use Rattle.nm_order.specs.Facts.Fact.{KnowsSlot, IsBorn, CallIs, EndedAt}
use Rattle.nm_order.specs.Taught.{EdgeLearned}
use Rattle.nm_steps.specs.Rules.{knowledge}
use Rattle.nm_steps.specs.Steps.{Continues, PassView, Stepped, TakesStep}
use Rattle.nm_epoch.specs.Collecting.{IsQueueThen, capped}
use Rattle.nm_epoch.specs.declared.collecting.HeldQueue.{HeldQueue}
use Rattle.nm_epoch.specs.Resting.{epochs, search}
use Rattle.nm_walks.specs.declared.seek_record.WalkEnd.{WalkEnd}
use Rattle.nm_walks.specs.Cleanups.{KeepsLedgers, freed_of_origin}
use Rattle.nm_walks.specs.Labelling.{OnlyLabels}
use Rattle.nm_walks.specs.Making.{IsFilled, KeepsOtherSlots, draft, fills}
use Rattle.nm_walks.specs.Telling.{Tells, OnlyLooks}
use Rattle.nm_walks.specs.WonCounts.{CountsWon}
use Rattle.nm_calls.specs.Maps.{HasReadValue}

-- ---- the step

-- the call is to insert a key, and has neither linked nor swapped yet. A walk of it ended by that edge
-- at the leaf, which has the key and whose birth is known. The private new leaf has the key too
pub record IsSwapping (p : PassView) (parent : ℕ) (side : Side) (leaf new : ℕ) : Type 0 where
  pub key : ℕ
  pub call : Tells p (CallIs Insert key)
  pub unlinked : (search p).linked ≡ false
  pub unswapped : (search p).swapped ≡ false
  pub knows_parent : Tells p (KnowsSlot parent)
  pub knows_leaf : Tells p (KnowsSlot leaf)
  pub ended : Tells p (EndedAt ThePin key leaf parent side key)
  pub born : (b : ℕ) × Tells p (IsBorn leaf b)
  pub birth : ℕ
  pub filled : IsFilled p new birth key 0 0

-- the swap is won: the old leaf waits in the worker's own queue, without a label. The call has
-- swapped, and the new leaf is no longer private
pub record SwapWon (p q : PassView) (parent : ℕ) (side : Side) (new : ℕ) (old : NodeId) : Type 0 where
  pub step : Stepped p q (Swap parent side old.slot new) (Cut (old ∷ []))
  pub queues : (o : ℕ) → held (knowledge q.view).ledgers o
      ≡ (if o == p.view.number then option_map (with_cut (old ∷ [])) (held (knowledge p.view).ledgers o)
      else held (knowledge p.view).ledgers o)
  pub epochs : epochs q ≡ record (epochs p) { unlabelled = true }
  pub search : search q ≡ record (search p) { swapped = true }
  pub given : get (knowledge q.view).drafts new ≡ None
  pub others : KeepsOtherSlots new p q

-- the swap is lost: the edge that was found is read
pub record SwapLost (p q : PassView) (parent : ℕ) (side : Side) (leaf new : ℕ) (e : Edge) : Type 0 where
  pub step : Stepped p q (Swap parent side leaf new) (Lost e)
  pub learned : EdgeLearned (Tells q) parent side e
  pub only : OnlyLooks p q

-- ---- the label of the old leaf

-- it is the worker's own queue, with its counts. After its entries this node waits for its label
pub record HoldsCutsThen (p : PassView) (h : HeldQueue) (node : NodeId) : Type 0 where
  pub own : h.origin ≡ p.view.number
  pub queue : IsQueueThen (knowledge p.view) p.view.number h.queue.items (node ∷ [])
  pub counted : CountsWon p.view.log h.counts
  pub freed : option_map (λ (ns : List NodeId). capped (length ns))
      (freed_of_origin (knowledge p.view) p.view.number) ≡ Some h.counts.freed

-- one step, which labels what waits
pub record Retires (p q : PassView) : Type 0 where
  pub epoch : ℕ
  pub took : TakesStep p q Sight (Labelled epoch)
  pub only : OnlyLabels epoch p q

-- ---- the whole try

-- a walk of a call to insert the key has ended at a leaf with the key. The call has neither linked nor
-- swapped yet, and has a new node, whose birth is stored
pub record MaySwap (p : PassView) (k : ℕ) (r : WalkEnd) (new : NodeId) : Type 0 where
  pub is_key : IsKey k
  pub call : Tells p (CallIs Insert k)
  pub unlinked : (search p).linked ≡ false
  pub unswapped : (search p).swapped ≡ false
  pub parent : Tells p (KnowsSlot r.seek_record.parent)
  pub known : Tells p (KnowsSlot r.seek_record.edge.slot)
  pub ended : Tells p (EndedAt ThePin k r.seek_record.edge.slot r.seek_record.parent r.seek_record.side k)
  pub new_birth : (draft p new.slot).birth ≡ Some new.birth

-- the birth of the leaf was looked at, the new leaf was filled, and a swap of it for the leaf got this
-- reply
abbrev pub Swaps : ℕ → WalkEnd → NodeId → ℕ → Reply → List Entry → List Entry → Type 0
Swaps k r new b reply old after = after
    ≡ ((old ++ (Look r.seek_record.edge.slot Birth, BirthIs b) ∷ []) ++ fills new.slot k 0 0)
    ++ (Swap r.seek_record.parent r.seek_record.side r.seek_record.edge.slot new.slot, reply) ∷ []

-- the old leaf, with its birth
abbrev pub leaf_at : WalkEnd → ℕ → NodeId
leaf_at r b = record { slot = r.seek_record.edge.slot; birth = b }

-- the swap was won, and cut off the leaf, which then got its label
abbrev pub SwapsOut : ℕ → WalkEnd → NodeId → ℕ → ℕ → List Entry → List Entry → Type 0
SwapsOut k r new b epoch old after = (mid : List Entry)
    × Swaps k r new b (Cut (leaf_at r b ∷ [])) old mid × (after ≡ mid ++ (Sight, Labelled epoch) ∷ [])

-- the call, what it has linked and flagged, its pin, and its ledgers except for the leaf that was
-- cut off, are unchanged
pub record KeepsRest (p q : PassView) : Type 0 where
  pub announcement : (epochs q).announcement ≡ (epochs p).announcement
  pub pin : (epochs q).pin ≡ (epochs p).pin
  pub labelled : (epochs p).unlabelled ≡ false → (epochs q).unlabelled ≡ false
  pub call : (search q).call ≡ (search p).call
  pub linked : (search q).linked ≡ (search p).linked
  pub flagged : (search q).flagged ≡ (search p).flagged
  pub ledgers : KeepsLedgers p q

-- a won swap: the new leaf is no longer private
pub record HasSwapped (p q : PassView) (k : ℕ) (r : WalkEnd) (new : NodeId) : Type 0 where
  pub birth : ℕ
  pub epoch : ℕ
  pub part : SwapsOut k r new birth epoch p.view.log q.view.log
  pub rest : KeepsRest p q
  pub given : get (knowledge q.view).drafts new.slot ≡ None
  pub others : KeepsOtherSlots new.slot p q

-- a lost swap: the new leaf is still private, and the edge that was found is known
pub record HasNotSwapped (p q : PassView) (k : ℕ) (r : WalkEnd) (new : NodeId) (e : Edge) : Type 0 where
  pub birth : ℕ
  pub part : Swaps k r new birth (Lost e) p.view.log q.view.log
  pub rest : KeepsRest p q
  pub swapped : (search q).swapped ≡ (search p).swapped
  pub new_birth : (draft q new.slot).birth ≡ Some new.birth
  pub others : KeepsOtherSlots new.slot p q
  pub learned : EdgeLearned (Tells q) r.seek_record.parent r.seek_record.side e

-- ---- a value that was read before

-- entries by which no pin begins or ends
abbrev pub stays_pinned : Entry → Bool
stays_pinned e = not (begins_anew e)

-- a log goes on under the same pin
abbrev pub IsUnderPin : List Entry → List Entry → Type 0
IsUnderPin old new = (more : List Entry) × (new ≡ old ++ more) × (list_all stays_pinned more ≡ true)

-- the value of the leaf was read when the pass was m, after a walk for the key had ended at the leaf.
-- The worker has been pinned since
pub record ValueWas (m p : PassView) (k leaf v : ℕ) : Type 0 where
  pub on : Continues m p
  pub under : IsUnderPin m.view.log p.view.log
  pub read : HasReadValue m k v
  pub at : read.slot ≡ leaf
