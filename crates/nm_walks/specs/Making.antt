-- The contents of a pass's private slots, and the effects of the steps that make nodes.
use Rattle.std.specs.Prelude.{◌≡◌, ◌≢◌, ◌⊎◌, ℕ, ◌<◌, nat_lt, Bool, true, false, if◌then◌else◌, List, [], ◌∷◌, ◌++◌, length, Option, Some, IfSome}
use Rattle.nm_edge.specs.Edges.{Edge}
use Rattle.nm_edge.specs.Ranges.{IsParting, covers}
use Rattle.nm_edge.specs.declared.edge.Side.{Side}
use Rattle.nm_edge.specs.declared.edge.Side.TheVariants.{Left, Right}
use Rattle.nm_edge.specs.declared.node.NodeId.{NodeId}
use Rattle.nm_model.specs.declared.event.Event.TheVariants.{Fill, Link}
use Rattle.nm_model.specs.declared.event.Field.TheVariants.{Key as KeyOf, Edge as EdgeOn}
use Rattle.nm_model.specs.declared.event.Op.TheVariants.{Insert}
use Rattle.nm_model.specs.declared.knowledge.Draft.{Draft}
use Rattle.nm_model.specs.declared.reply.Reply.TheVariants.{Filled, Linked, Lost}
use Rattle.nm_model.specs.Knowledge.{draft_of, is_private}
use Rattle.nm_model.specs.Maps.{get}
use Rattle.nm_model.specs.Searches.{idle, side_of}
use Rattle.nm_model.specs.Walks.{Entry, search_after}
use Rattle.nm_order.specs.Facts.Since.{ThePin}
use Rattle.nm_order.specs.Facts.Fact.{CallIs, KnowsLeaf, ReadKey, EndedAt}
use Rattle.nm_order.specs.Taught.{EdgeLearned}
use Rattle.nm_steps.specs.declared.view.Stored.{Stored}
use Rattle.nm_steps.specs.Rules.{knowledge}
use Rattle.nm_steps.specs.Values.{own_store}
use Rattle.nm_steps.specs.Steps.{PassView, Stepped}
use Rattle.nm_walks.specs.Places.{IsOver}
use Rattle.nm_walks.specs.Telling.{Tells, OnlyLooks}

-- ---- the contents of private slots

-- what is stored in a private slot
abbrev pub draft : PassView → ℕ → Draft
draft p slot = draft_of (knowledge p.view) slot

-- a private slot has a birth, a key and two edges
pub record IsFilled (p : PassView) (slot birth key left right : ℕ) : Type 0 where
  pub has_birth : (draft p slot).birth ≡ Some birth
  pub has_key : (draft p slot).key ≡ Some key
  pub has_left : (draft p slot).left ≡ Some left
  pub has_right : (draft p slot).right ≡ Some right

-- ---- the effect of a step

-- each other slot is unchanged: private with the same contents, or not private
abbrev pub KeepsOtherSlots : ℕ → PassView → PassView → Type 0
KeepsOtherSlots slot p q = (s : ℕ) → s ≢ slot
    → get (knowledge q.view).drafts s ≡ get (knowledge p.view).drafts s

-- each slot other than the claimed one, if one was claimed, is unchanged
abbrev pub KeepsAllBut : Option NodeId → PassView → PassView → Type 0
KeepsAllBut claimed p q = (s : ℕ) → IfSome claimed (λ node. s ≢ node.slot)
    → get (knowledge q.view).drafts s ≡ get (knowledge p.view).drafts s

-- only private slots have changed
pub record OnlyMakes (p q : PassView) : Type 0 where
  pub epochs : (knowledge q.view).brief ≡ (knowledge p.view).brief
  pub known : (knowledge q.view).known ≡ (knowledge p.view).known
  pub ledgers : (knowledge q.view).ledgers ≡ (knowledge p.view).ledgers
  pub search : search_after idle q.view.log ≡ search_after idle p.view.log

-- ---- filling a slot

-- a draft with that key and those edges
abbrev pub with_node : Draft → ℕ → ℕ → ℕ → Draft
with_node d key left right = record d { key = Some key; left = Some left; right = Some right }

-- the three steps that store a key and two edges in a slot
abbrev pub fills : ℕ → ℕ → ℕ → ℕ → List Entry
fills slot key left right = (Fill slot KeyOf key, Filled) ∷ (Fill slot (EdgeOn Left) left, Filled)
    ∷ (Fill slot (EdgeOn Right) right, Filled) ∷ []

-- the key and both edges were stored by three steps, and nothing else changed
abbrev pub HasFilled : PassView → PassView → ℕ → ℕ → ℕ → ℕ → Type 0
HasFilled p q slot key left right =
    q ≡ record p {
      view = record p.view
          { log = p.view.log ++ fills slot key left right; past = q.view.past; stores = q.view.stores };
    }

-- the last store is the worker's own, of this value for the slot. It took no step after it
abbrev pub HasJustStored : PassView → ℕ → ℕ → Type 0
HasJustStored p slot value = (earlier : List Stored)
    × (p.view.stores ≡ own_store p.view slot value earlier (length p.view.past))

-- ---- linking a new node

-- the key of the internal node over two keys: the greater one (Natarajan and Mittal, section 3.2,
-- insert). In a radix tree it is one that has both keys in its range, in different halves
abbrev pub IsRouter : Bool → ℕ → ℕ → ℕ → Type 0
IsRouter false key other router = router ≡ (if nat_lt key other then other else key)
IsRouter true key other router = IsParting key other router

-- two private slots are filled to put a key beside a slot that has another key: one as a leaf with
-- the key, and one as the internal node over both; the slot with the lesser key is on the left
-- (Natarajan and Mittal, section 3.2, insert)
pub record IsFork (p : PassView) (key other leaf new fresh : ℕ) : Type 0 where
  pub router : ℕ
  pub between : IsRouter p.view.layout.radix key other router
  pub new_birth : ℕ
  pub fresh_birth : ℕ
  pub apart : new ≢ fresh
  pub as_leaf : IsFilled p fresh fresh_birth key 0 0
  pub as_fork : ((key < other) × IsFilled p new new_birth router fresh leaf)
      ⊎ ((other < key) × IsFilled p new new_birth router leaf fresh)

-- the edge is the first one that a walk reads; or its node has the call's key in its range, on that
-- side, as a walk of the call has read
abbrev pub IsWithin : PassView → ℕ → ℕ → Side → Type 0
IsWithin p k parent side = ((parent ≡ 2) × (side ≡ Left))
    ⊎ ((v above : ℕ) × (up : Side) × (covers v k ≡ true) × (side_of k v ≡ side)
    × Tells p (ReadKey ThePin k parent above up v))

-- a walk of the call came by that edge to a slot with another key, beside which the call may put
-- its own. In the shape of Natarajan and Mittal it ended there, at a leaf. In a radix tree the
-- edge's node has the key in its range, and the slot is a leaf or does not have the key in its
-- range
abbrev pub IsPlace : Bool → PassView → ℕ → ℕ → ℕ → Side → ℕ → Type 0
IsPlace false p k x parent side key = Tells p (KnowsLeaf x)
    × Tells p (EndedAt ThePin k x parent side key)
IsPlace true p k x parent side key = IsOver p k x key
    × Tells p (ReadKey ThePin k x parent side key) × IsWithin p k parent side

-- the call is to insert a key and has neither linked nor swapped yet. A walk of it came to the slot by that edge
-- and may put the key there. The new nodes put the key beside the slot (Natarajan and Mittal,
-- section 3.2, insert)
pub record IsInserting (p : PassView) (parent : ℕ) (side : Side) (leaf new fresh : ℕ) : Type 0 where
  pub key : ℕ
  pub other : ℕ
  pub call : Tells p (CallIs Insert key)
  pub not_linked : (search_after idle p.view.log).linked ≡ false
  pub not_swapped : (search_after idle p.view.log).swapped ≡ false
  pub place : IsPlace p.view.layout.radix p key leaf parent side other
  pub apart : other ≢ key
  pub new_nodes : IsFork p key other leaf new fresh

-- the link is won: the call has linked, and both slots are no longer private (Natarajan and Mittal,
-- section 3.2, insert)
pub record HasLinked (p q : PassView) (parent : ℕ) (side : Side) (leaf new fresh : ℕ) : Type 0 where
  pub step : (birth : ℕ) → (draft p new).birth ≡ Some birth
      → Stepped p q (Link parent side leaf new) (Linked (record { slot = new; birth = birth }))
  pub new_given : is_private (knowledge q.view) new ≡ false
  pub fresh_given : is_private (knowledge q.view) fresh ≡ false
  pub others : (s : ℕ) → s ≢ new → s ≢ fresh
      → get (knowledge q.view).drafts s ≡ get (knowledge p.view).drafts s
  pub epochs : (knowledge q.view).brief ≡ (knowledge p.view).brief
  pub ledgers : (knowledge q.view).ledgers ≡ (knowledge p.view).ledgers
  pub search : search_after idle q.view.log
      ≡ record (search_after idle p.view.log) { linked = true }

-- the link is lost: the edge that was found is read (Natarajan and Mittal, section 3.2, insert)
pub record HasLost (p q : PassView) (parent : ℕ) (side : Side) (leaf new : ℕ) (e : Edge) : Type 0 where
  pub step : Stepped p q (Link parent side leaf new) (Lost e)
  pub learned : EdgeLearned (Tells q) parent side e
  pub only : OnlyLooks p q
