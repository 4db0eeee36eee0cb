-- New nodes for a key, which are linked into the tree or given back.
use Rattle.std.specs.Prelude.{◌≡◌, ◌≢◌, ◌<◌, ◌≤◌, ◌+◌, ◌⊎◌, ℕ, nat_lt, Bool, true, false, if◌then◌else◌, List, [], ◌∷◌, ◌++◌, length, Option, Some, None}
use Rattle.nm_edge.specs.Edges.{Edge}
use Rattle.nm_edge.specs.declared.edge.Side.{Side}
use Rattle.nm_edge.specs.declared.node.NodeId.{NodeId}
use Rattle.nm_model.specs.declared.event.Event.TheVariants.{Give, Link}
use Rattle.nm_model.specs.declared.event.Op.TheVariants.{Insert}
use Rattle.nm_model.specs.declared.reply.Reply.{Reply}
use Rattle.nm_model.specs.declared.reply.Reply.TheVariants.{Returned, Linked, Lost}
use Rattle.nm_model.specs.declared.trace.Turn.{Turn}
use Rattle.nm_model.specs.Knowledge.{draft_of}
use Rattle.nm_model.specs.Maps.{get}
use Rattle.nm_model.specs.Walks.{Entry}
use Rattle.nm_order.specs.Facts.Fact.{KnowsSlot, CallIs}
use Rattle.nm_order.specs.Hands.{IsPooled}
use Rattle.nm_order.specs.Logs.{known_by}
use Rattle.nm_order.specs.Taught.{EdgeLearned}
use Rattle.nm_pool.specs.Claims.{IsClaimBy}
use Rattle.nm_edge.specs.declared.placement.Fit.{Fit}
use Rattle.nm_steps.specs.declared.view.Stored.{Stored}
use Rattle.nm_steps.specs.Rules.{Extends, answered_turn, knowledge, new_leaf}
use Rattle.nm_steps.specs.Steps.{PassView}
use Rattle.nm_epoch.specs.Resting.{epochs, search}
use Rattle.nm_walks.specs.declared.making.Contents.{Contents}
use Rattle.nm_walks.specs.declared.making.NewNodes.{NewNodes}
use Rattle.nm_walks.specs.declared.seek_record.WalkEnd.{WalkEnd}
use Rattle.nm_walks.specs.Telling.{Tells}
use Rattle.nm_walks.specs.Making.{draft, fills, IsPlace, IsRouter}

-- ---- two private nodes

-- both are private, with their births
pub record HasBothNodes (p : PassView) (f : NewNodes) : Type 0 where
  pub apart : f.internal.slot ≢ f.leaf.slot
  pub new_birth : (draft p f.internal.slot).birth ≡ Some f.internal.birth
  pub fresh_birth : (draft p f.leaf.slot).birth ≡ Some f.leaf.birth
  pub new_within : f.internal.slot ≤ p.view.layout.nodes
  pub fresh_within : f.leaf.slot ≤ p.view.layout.nodes

-- the private slots other than these are unchanged
abbrev pub KeepsBut : NewNodes → PassView → PassView → Type 0
KeepsBut f o p = (s : ℕ) → s ≢ f.internal.slot → s ≢ f.leaf.slot
    → get (knowledge p.view).drafts s ≡ get (knowledge o.view).drafts s

-- the private slots are those that there were, and two new nodes
pub record HoldsNewNodes (o p : PassView) (f : NewNodes) : Type 0 where
  pub ready : HasBothNodes p f
  pub others : KeepsBut f o p
  pub new_was : get (knowledge o.view).drafts f.internal.slot ≡ None
  pub fresh_was : get (knowledge o.view).drafts f.leaf.slot ≡ None

-- the private slots are those that there were, and the two new nodes that an insert keeps over its
-- tries, once it has made them (Natarajan and Mittal, section 3.2, insert)
abbrev pub HasNewNodes : PassView → PassView → Option NewNodes → Type 0
HasNewNodes o p None = (s : ℕ) → get (knowledge p.view).drafts s ≡ get (knowledge o.view).drafts s
HasNewNodes o p (Some f) = HoldsNewNodes o p f

-- the new nodes, if there are any, are ready
abbrev pub IfReady : PassView → Option NewNodes → Type 0
IfReady p None = Unit {0}
IfReady p (Some f) = HasBothNodes p f

-- both nodes are given back, if there are any
abbrev pub Returns : Option NewNodes → List Entry → List Entry → Type 0
Returns None old new = new ≡ old
Returns (Some f) old new = new
    ≡ (old ++ (Give f.internal.slot, Returned f.internal.slot) ∷ [])
    ++ (Give f.leaf.slot, Returned f.leaf.slot) ∷ []

-- the internal node is claimed first and the leaf second; if one of the two claims finds no slot,
-- the other slot is returned
abbrev pub ClaimsNewNodes : Fit → ℕ → List Entry → List Entry → Option NewNodes → Type 0
ClaimsNewNodes fit nodes old new (Some f) =
    (mid : List Entry) × IsClaimBy fit nodes old mid (Some f.internal)
    × IsClaimBy fit nodes mid new (Some f.leaf)
ClaimsNewNodes fit nodes old new None = IsClaimBy fit nodes old new None
    ⊎ ((n : NodeId) × (mid : List Entry) × (all : List Entry) × IsClaimBy fit nodes old mid (Some n)
    × IsClaimBy fit nodes mid all None × (new ≡ all ++ (Give n.slot, Returned n.slot) ∷ []))

-- ---- a link of both

-- the contents of the new internal node: it has that key, and the slot with the lesser key is on
-- its left
abbrev pub inner_of : ℕ → ℕ → ℕ → ℕ → ℕ → Contents
inner_of key other router leaf fresh =
    if nat_lt key other then record { key = router; left = fresh; right = leaf }
    else record { key = router; left = leaf; right = fresh }

-- the call may put its key beside the slot at which its walk ended
pub record MayGrow (p : PassView) (key : ℕ) (r : WalkEnd) (f : NewNodes) : Type 0 where
  pub call : Tells p (CallIs Insert key)
  pub unlinked : (search p).linked ≡ false
  pub unswapped : (search p).swapped ≡ false
  pub parent : Tells p (KnowsSlot r.seek_record.parent)
  pub known : Tells p (KnowsSlot r.seek_record.edge.slot)
  pub within : r.seek_record.edge.slot ≤ p.view.layout.nodes
  pub place : IsPlace p.view.layout.radix p key r.seek_record.edge.slot r.seek_record.parent r.seek_record.side r.key
  pub other : r.key ≢ key
  pub ready : HasBothNodes p f

-- both nodes were filled, and a link of them was tried at the edge by which the walk ended
abbrev pub Grows : Bool → ℕ → WalkEnd → NewNodes → Reply → List Entry → List Entry → Type 0
Grows radix key r f reply old new = (i : Contents) × IsRouter radix key r.key i.key
    × (i ≡ inner_of key r.key i.key r.seek_record.edge.slot f.leaf.slot)
    × (new ≡ ((old ++ fills f.internal.slot i.key i.left i.right) ++ fills f.leaf.slot key 0 0)
    ++ (Link r.seek_record.parent r.seek_record.side r.seek_record.edge.slot f.internal.slot, reply) ∷ [])

-- the worker's epochs and queues, its call, whether it has swapped and what it flagged are unchanged
pub record KeepsCall (p q : PassView) : Type 0 where
  pub epochs : epochs q ≡ epochs p
  pub ledgers : (knowledge q.view).ledgers ≡ (knowledge p.view).ledgers
  pub call : (search q).call ≡ (search p).call
  pub swapped : (search q).swapped ≡ (search p).swapped
  pub flagged : (search q).flagged ≡ (search p).flagged

-- the link was won: the call has linked, and the new nodes are no longer private
pub record HasGrown (radix : Bool) (p q : PassView) (key : ℕ) (r : WalkEnd) (f : NewNodes) : Type 0 where
  pub part : Grows radix key r f (Linked f.internal) p.view.log q.view.log
  pub linked : (search q).linked ≡ true
  pub others : KeepsBut f p q
  pub new_given : get (knowledge q.view).drafts f.internal.slot ≡ None
  pub fresh_given : get (knowledge q.view).drafts f.leaf.slot ≡ None

-- the last turn that was seen is the worker's won link, after all that had been seen. Before it, by
-- the worker's log, the slot was the new leaf of that link, and had this key
pub record HasLinkedLeaf (p q : PassView) (slot key : ℕ) : Type 0 where
  pub before : List Turn
  pub extends : Extends before p.view.past
  pub log : List Entry
  pub parent : ℕ
  pub side : Side
  pub old : ℕ
  pub new : ℕ
  pub node : NodeId
  pub past : q.view.past
      ≡ before ++ answered_turn q.view.number (Link parent side old new) (Linked node) ∷ []
  pub is_log : q.view.log ≡ log ++ (Link parent side old new, Linked node) ∷ []
  pub fresh : new_leaf (known_by q.view.layout q.view.number log) old new ≡ slot
  pub has_key : (draft_of (known_by q.view.layout q.view.number log) slot).key ≡ Some key
  pub pooled : IsPooled q.view.layout slot

-- the worker's last step was the link of this slot, and the last store before it was that of this
-- value for the slot
pub record HasLinkedValue (q : PassView) (slot value : ℕ) : Type 0 where
  pub earlier : List Stored
  pub at : ℕ
  pub own : ℕ
  pub is : q.view.stores ≡ earlier ++ record {
    at = at;
    worker = q.view.number;
    own = own;
    slot = slot;
    value = value;
  } ∷ []
  pub early : at < length q.view.past
  pub last : own + 1 ≡ length q.view.log

-- the link was lost: the new nodes are still ready, and the edge that was found is known
pub record HasNotGrown (radix : Bool) (p q : PassView) (key : ℕ) (r : WalkEnd) (f : NewNodes)
    (e : Edge) : Type 0 where
  pub part : Grows radix key r f (Lost e) p.view.log q.view.log
  pub linked : (search q).linked ≡ (search p).linked
  pub others : KeepsBut f p q
  pub ready : HasBothNodes q f
  pub learned : EdgeLearned (Tells q) r.seek_record.parent r.seek_record.side e
