-- A flag that is won is one of a call to delete: it marks the edge to a reached leaf, which has
-- that call's key.
use Rattle.std.proofs.Common.{◌≡◌, ◌≢◌, ℕ, ◌≤◌, ◌==◌, Bool, true, false, cond, ◌&&◌, [], ◌∷◌, ◌++◌, refl, sym, ap, subst, ◌∙◌, arith}
use Rattle.std.specs.Prelude.{Option, Some, None, Result, Ok}
use Rattle.std.proofs.lemmas.Bool.{and_parts, and_from, eqb-true, eq-eqb}
use Rattle.nm_edge.specs.Edges.{Edge, to, is_to}
use Rattle.nm_edge.specs.Layouts.{Layout}
use Rattle.nm_edge.specs.declared.edge.Side.{Side}
use Rattle.nm_edge.specs.declared.edge.Side.TheVariants.{Left, Right}
use Rattle.nm_edge.specs.declared.node.NodeId.{NodeId}
use Rattle.nm_model.specs.declared.event.Op.{Op}
use Rattle.nm_model.specs.declared.event.Op.TheVariants.{Delete}
use Rattle.nm_model.specs.declared.event.Event.TheVariants.{Flag}
use Rattle.nm_model.specs.declared.reply.Reply.{Reply}
use Rattle.nm_model.specs.declared.reply.Reply.TheVariants.{Flagged, Lost}
use Rattle.nm_model.specs.declared.reply.Refused.{Refused}
use Rattle.nm_model.specs.Maps.{is_number, or_else}
use Rattle.nm_model.specs.Memory.{node, edge, child, is_leaf, named}
use Rattle.nm_model.specs.Knowledge.{knows}
use Rattle.nm_model.specs.Paths.{Reached}
use Rattle.nm_model.specs.Step.{reply}
use Rattle.nm_model.specs.Runs.{State, of, refused, answered}
use Rattle.nm_model.specs.Searches.{is_by, is_side, Search}
use Rattle.nm_model.specs.Ordered.{Configuration, ordered, search_of, disorder, disorder_among, disorder_in, may_flag_at, ended_at, refused_in, outcome_in, after_in}
use Rattle.nm_order.specs.Intervals.{key, IsCalled, Marks, FlagsMarkLeaves, OfEachOrdered}
use Rattle.nm_model.proofs.Lists.{any_at}
use Rattle.nm_model.proofs.Numbers.{number_is}
use Rattle.nm_laws.proofs.Steps.{Allowed, allowed}
use Rattle.nm_laws.proofs.Trees.{follow-append}
use Rattle.nm_laws.proofs.Pictures.{IsOnPath}
use Rattle.nm_laws.proofs.Splices.{live_on_path, unmarked_not_queued}
use Rattle.nm_laws.proofs.TreeSlots.{is_to-true, known_live, leaf_known}
use Rattle.nm_laws.proofs.TreeSteps.{Lawful, FlagChecked, flag_checked}
use Rattle.nm_laws.proofs.Views.{picture}
use Rattle.nm_laws.proofs.Outcomes.{same_reply, no_reply}
use Rattle.nm_order.proofs.OrderedMoments.{call_walks}
use Rattle.nm_order.proofs.OrderedLaws.{IsOrdered, neither, each_ordered, law_of_state}
use Rattle.nm_order.proofs.OwnLinks.{MayFlag, may_flag}
use Rattle.nm_order.proofs.OrderedSteps.{ForCall}

-- ---- the tree

module _ (s : State) (h : ℕ → ℕ) (law : Lawful s h) (w p : ℕ) (d : Side) (leaf : ℕ)
    (ok : Allowed s w (Flag p d leaf)) (won : is_to (edge s.memory p d) leaf ≡ true) where
  checked : FlagChecked (of s w) p leaf
  checked = flag_checked s w p d leaf ok.event

  unmarked : edge s.memory p d ≡ to leaf
  unmarked = is_to-true (edge s.memory p d) leaf won

  leaf_slot : leaf ≢ 0
  leaf_slot z = let high = checked.high in absurd (omega arith)

  parent_on : IsOnPath (picture s h) p
  parent_on =
      let range = law.tree.known w p checked.known in
      live_on_path s.layout.nodes (picture s h) p law.tree
      (known_live s.layout.nodes s.memory (of s) h w p law.tree checked.known) (λ z. omega arith) (omega arith)
      (unmarked_not_queued s.layout.nodes (picture s h) p d leaf law.tree unmarked leaf_slot)

  parent_is_reached : Reached s.memory p
  parent_is_reached = record { path = parent_on.path; ends = parent_on.ends; is_slot = parent_on.is_slot }

  leaf_is_reached : Reached s.memory leaf
  leaf_is_reached = record {
    path = parent_on.path ++ d ∷ [];
    ends = follow-append (child s.memory) 1 parent_on.path (d ∷ [])
        ∙ (ap (λ (y : ℕ). child s.memory y d) parent_on.ends ∙ ap (λ (e : Edge). e.slot) unmarked);
    is_slot = leaf_slot;
  }

  is_leaf_now : is_leaf (node s.memory leaf) ≡ true
  is_leaf_now = and_from ((node s.memory leaf).left.slot == 0) ((node s.memory leaf).right.slot == 0)
      (eq-eqb _ 0 (null Left)) (eq-eqb _ 0 (null Right))
    where
      null : (f : Side) → (edge s.memory leaf f).slot ≡ 0
      null = leaf_known s.layout.nodes s.memory (of s) h w leaf law.tree
          (known_live s.layout.nodes s.memory (of s) h w leaf law.tree checked.held) checked.leafy

  pub marks_leaf : (k : ℕ) → key s.memory leaf ≡ k → Marks s.memory p d leaf (named s.memory leaf) k
  marks_leaf k has = record {
    parent_reached = parent_is_reached;
    unmarked = unmarked;
    reached = leaf_is_reached;
    childless = is_leaf_now;
    has_key = has;
    names = refl;
  }

-- ---- the call

same_flagged : (n q : NodeId) → Flagged n ≡ Flagged q → n ≡ q
same_flagged n q h = cc

no_flag : (e : Edge) (n : NodeId) → Lost e ≡ Flagged n → ⊥
no_flag e n h = cc

-- the walk that ends at a leaf which may be flagged has read the call's key there
pub flag_reads : (s : State) (w : ℕ) (S : Search) (p : ℕ) (d : Side) (leaf : ℕ) (m : MayFlag S p d leaf)
    → ForCall s.layout.radix s.memory (knows (of s w)) S.call S.walks → key s.memory leaf ≡ m.call.key
flag_reads s w S p d leaf m law =
    let found = any_at (may_flag_at m.call.key p d leaf) S.walks m.walked in
    let parts = and_parts (is_by leaf p d found.1) (ended_at m.call.key found.1) found.3 in
    let slot = eqb-true found.1.slot leaf (and_parts (found.1.slot == leaf)
    ((found.1.parent == p) && is_side found.1.side d) parts.0).0 in
    let read = number_is found.1.key m.call.key (and_parts found.1.ended (is_number found.1.key m.call.key)
    parts.1).1 in
    ap (key s.memory) (sym slot) ∙ (call_walks s.layout.radix s.memory (knows (of s w)) S.call S.walks m.call
    m.is_call law).1.is_keyed found.0 found.1 m.call.key found.2 read

module _ (L : Layout) (enough : 5 ≤ L.nodes) (c : Configuration) (o : IsOrdered L c) where
  h : ℕ → ℕ
  h = (law_of_state L enough c o).0

  law_here : Lawful c.state h
  unfolding h
  law_here = (law_of_state L enough c o).1

  -- a walk of the call ended at the leaf, and read the call's key there
  of_call : (w p : ℕ) (d : Side) (leaf : ℕ) → disorder c.state.layout (of c.state w) (search_of o.searches w)
      (Flag p d leaf) ≡ None → (k : ℕ) × IsCalled c w Delete k × (key c.state.memory leaf ≡ k)
  of_call w p d leaf order = (
    m.call.key,
    record {
      searches = o.searches;
      are = o.are;
      is_call = m.is_call
          ∙ ap (λ (op : Op). Some (record { op = op; key = m.call.key })) m.is_op;
    },
    flag_reads c.state w
        (search_of o.searches w) p d leaf m (o.law.walks w),
  )
    where
      m : MayFlag (search_of o.searches w) p d leaf
      m = may_flag c.state.layout (of c.state w) (search_of o.searches w) p d leaf order

  flags_mark : FlagsMarkLeaves c
  unfolding outcome_in refused_in reply
  flags_mark w p d leaf n is = go (or_else (refused c.state w (Flag p d leaf)) (disorder_in c w (Flag p d leaf)))
      refl is
    where
      go : (r : Option Refused) → or_else (refused c.state w (Flag p d leaf)) (disorder_in c w (Flag p d leaf)) ≡ r
          → ◌≡◌ {A = Result Reply Refused} (answered r (cond (is_to (edge c.state.memory p d) leaf)
          (Flagged (named c.state.memory leaf)) (Lost (edge c.state.memory p d)))) (Ok (Flagged n))
          → (k : ℕ) × IsCalled c w Delete k × Marks c.state.memory p d leaf n k
      go (Some x) none is = absurd (no_reply x (Flagged n) is)
      go None none is = won (is_to (edge c.state.memory p d) leaf) refl (same_reply _ _ is)
        where
          parts : (refused c.state w (Flag p d leaf) ≡ None) × (disorder_in c w (Flag p d leaf) ≡ None)
          parts = neither (refused c.state w (Flag p d leaf)) (disorder_in c w (Flag p d leaf)) none

          call : (k : ℕ) × IsCalled c w Delete k × (key c.state.memory leaf ≡ k)
          call = of_call w p d leaf (ap (λ ss. disorder_among c.state.layout ss (of c.state w) w (Flag p d leaf))
              (sym o.are) ∙ parts.1)

          won : (b : Bool) → is_to (edge c.state.memory p d) leaf ≡ b
              → cond b (Flagged (named c.state.memory leaf)) (Lost (edge c.state.memory p d)) ≡ Flagged n
              → (k : ℕ) × IsCalled c w Delete k × Marks c.state.memory p d leaf n k
          won true t r = (
            call.0,
            call.1,
            subst (λ (q : NodeId). Marks c.state.memory p d leaf q call.0)
                (same_flagged (named c.state.memory leaf) n r)
                (marks_leaf c.state h law_here w p d leaf (allowed c.state w (Flag p d leaf) parts.0) t call.0 call.2),
          )
          won false t r = absurd (no_flag (edge c.state.memory p d) n r)

pub each_flag_marks : OfEachOrdered FlagsMarkLeaves
each_flag_marks L enough turns keys = flags_mark L enough (after_in (ordered L) turns)
    (each_ordered L enough turns keys)
