-- What a pass's log shows after tags, flags and splices.
use Rattle.std.specs.Prelude.{◌≡◌, ◌≢◌, ℕ, ◌≤◌, ◌==◌, true, ◌||◌, List, Some, None, option_map, if◌then◌else◌}
use Rattle.nm_edge.specs.Edges.{Edge, other, tagged}
use Rattle.nm_edge.specs.declared.edge.Side.{Side}
use Rattle.nm_edge.specs.declared.node.NodeId.{NodeId}
use Rattle.nm_model.specs.declared.event.Op.TheVariants.{Delete}
use Rattle.nm_model.specs.declared.event.Event.TheVariants.{Flag, Splice}
use Rattle.nm_model.specs.declared.reply.Reply.TheVariants.{Flagged, Cut, Lost}
use Rattle.nm_model.specs.Ledgers.{held, with_cut}
use Rattle.nm_model.specs.Searches.{idle, is_flagged_in}
use Rattle.nm_model.specs.Walks.{search_after}
use Rattle.nm_order.specs.Facts.Since.{ThePin}
use Rattle.nm_order.specs.Facts.Fact.{KnowsSlot, KnowsLeaf, IsTagged, IsFlagged, IsFrozen, IsBorn, CallIs, EndedAt}
use Rattle.nm_order.specs.Taught.{EdgeLearned}
use Rattle.nm_order.specs.Told.{FrozenTo}
use Rattle.nm_steps.specs.Rules.{knowledge}
use Rattle.nm_steps.specs.Steps.{PassView, Stepped}
use Rattle.nm_walks.specs.Telling.{Tells, OnlyLooks}

-- ---- a tag

-- what is known after an edge was tagged, which was this one before: it is tagged from now on, and
-- exactly this edge; it is not null, and leads to a known slot of the layout; and if it had a flag,
-- it is known as flagged (Natarajan and Mittal, section 3.2, cleanup)
pub record TagTold (p q : PassView) (x : ℕ) (side : Side) (e : Edge) : Type 0 where
  pub marked : Tells q (IsTagged x side e.slot)
  pub frozen : Tells q (IsFrozen x side (tagged e))
  pub not_null : e.slot ≢ 0
  pub leads : Tells q (KnowsSlot e.slot)
  pub within : e.slot ≤ p.view.layout.nodes
  pub flagged : e.flag ≡ true → Tells q (IsFlagged x side e.slot)

-- ---- an edge that is found instead of another

-- what is known of an edge that an exchange found instead of the expected one: it is read. It is
-- flagged if its twin is known as tagged. It leads to a slot of the layout. If it is flagged, it
-- leads from a slot above 5 to a slot above 5
pub record EdgeFound (p q : PassView) (x : ℕ) (side : Side) (e : Edge) : Type 0 where
  pub learned : EdgeLearned (Tells q) x side e
  pub twin : (to : ℕ) → Tells p (IsTagged x (other side) to) → e.flag ≡ true
  pub within : e.slot ≤ p.view.layout.nodes
  pub high : e.flag ≡ true → 6 ≤ e.slot
  pub owner : e.flag ≡ true → 6 ≤ x

-- ---- a flag

-- what a call to delete a key has found: a walk of it ended by that edge at a leaf above slot 5,
-- which has that key and whose birth is known; and the call has won no flag yet (Natarajan and
-- Mittal, section 3.2, delete, injection)
pub record IsToBeFlagged (p : PassView) (parent : ℕ) (side : Side) (leaf : ℕ) : Type 0 where
  pub knows_parent : Tells p (KnowsSlot parent)
  pub knows_leaf : Tells p (KnowsSlot leaf)
  pub is_leaf : Tells p (KnowsLeaf leaf)
  pub high : 6 ≤ leaf
  pub born : (b : ℕ) × Tells p (IsBorn leaf b)
  pub key : ℕ
  pub call : Tells p (CallIs Delete key)
  pub ended : Tells p (EndedAt ThePin key leaf parent side key)
  pub unflagged : (search_after idle p.view.log).flagged ≡ None

-- only what is known of nodes, the walks of the call, and the leaf that it flagged may have changed
-- (Natarajan and Mittal, section 3.2, delete, injection)
pub record OnlyFlags (p q : PassView) : Type 0 where
  pub epochs : (knowledge q.view).brief ≡ (knowledge p.view).brief
  pub private : (knowledge q.view).drafts ≡ (knowledge p.view).drafts
  pub ledgers : (knowledge q.view).ledgers ≡ (knowledge p.view).ledgers
  pub call : (search_after idle q.view.log).call ≡ (search_after idle p.view.log).call
  pub linked : (search_after idle q.view.log).linked ≡ (search_after idle p.view.log).linked
  pub swapped : (search_after idle q.view.log).swapped ≡ (search_after idle p.view.log).swapped
  pub cut : (search_after idle q.view.log).cut ≡ (search_after idle p.view.log).cut

-- the flag is won: the edge is known as flagged, and the node is the one that the call flagged
-- (Natarajan and Mittal, section 3.2, delete, injection)
pub record FlagWon (p q : PassView) (parent : ℕ) (side : Side) (n : NodeId) : Type 0 where
  pub step : Stepped p q (Flag parent side n.slot) (Flagged n)
  pub known : Tells q (IsFlagged parent side n.slot)
  pub flagged : (search_after idle q.view.log).flagged ≡ Some n

-- the flag is lost: another edge was found, and what the call has flagged is unchanged (Natarajan
-- and Mittal, section 3.2, delete, injection)
pub record FlagLost (p q : PassView) (parent : ℕ) (side : Side) (leaf : ℕ) (e : Edge) : Type 0 where
  pub step : Stepped p q (Flag parent side leaf) (Lost e)
  pub found : EdgeFound p q parent side e
  pub flagged : (search_after idle q.view.log).flagged ≡ (search_after idle p.view.log).flagged

-- ---- a splice

-- what a splice cuts off: a chain from the successor down to the parent that is frozen by the
-- facts, below a known ancestor. The parent's edge on one side is kept, and is frozen as this one
-- (Natarajan and Mittal, section 3.2, cleanup; its ledger is ours)
pub record IsToBeCut (p : PassView) (ancestor successor parent : ℕ) (keep : Side)
    (kept : Edge) : Type 0 where
  pub knows_ancestor : Tells p (KnowsSlot ancestor)
  pub nodes : List NodeId
  pub frozen : FrozenTo (Tells p) parent keep successor nodes
  pub kept_so : Tells p (IsFrozen parent keep kept)

-- private slots, the call, and what it linked and flagged, are unchanged (Natarajan and Mittal,
-- section 3.2, cleanup; its ledger is ours)
pub record OnlyCuts (p q : PassView) : Type 0 where
  pub private : (knowledge q.view).drafts ≡ (knowledge p.view).drafts
  pub call : (search_after idle q.view.log).call ≡ (search_after idle p.view.log).call
  pub linked : (search_after idle q.view.log).linked ≡ (search_after idle p.view.log).linked
  pub swapped : (search_after idle q.view.log).swapped ≡ (search_after idle p.view.log).swapped
  pub flagged : (search_after idle q.view.log).flagged ≡ (search_after idle p.view.log).flagged

-- the splice is won: these nodes are appended to the worker's own queue without a label, and wait
-- for one. If the leaf that the call flagged is one of them, the call's leaf is cut (Natarajan and
-- Mittal, section 3.2, cleanup; its ledger is ours)
pub record SpliceWon (p q : PassView) (ancestor : ℕ) (side : Side) (successor parent : ℕ) (keep : Side)
    (ns : List NodeId) : Type 0 where
  pub step : Stepped p q (Splice ancestor side successor parent keep) (Cut ns)
  pub queues : (o : ℕ) → held (knowledge q.view).ledgers o
      ≡ (if o == p.view.number then option_map (with_cut ns) (held (knowledge p.view).ledgers o)
      else held (knowledge p.view).ledgers o)
  pub epochs : (knowledge q.view).brief ≡ record (knowledge p.view).brief { unlabelled = true }
  pub cut : (search_after idle q.view.log).cut
      ≡ ((search_after idle p.view.log).cut
      || is_flagged_in (search_after idle p.view.log).flagged ns)

-- the splice is lost: another edge of the ancestor was found (Natarajan and Mittal, section 3.2,
-- cleanup; its ledger is ours)
pub record SpliceLost (p q : PassView) (ancestor : ℕ) (side : Side) (successor parent : ℕ)
    (keep : Side) (e : Edge) : Type 0 where
  pub step : Stepped p q (Splice ancestor side successor parent keep) (Lost e)
  pub found : EdgeFound p q ancestor side e
  pub only : OnlyLooks p q
