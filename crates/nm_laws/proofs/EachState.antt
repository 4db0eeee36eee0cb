-- What every state keeps, in the words of the specs.
use Rattle.std.proofs.Common.{◌≡◌, ℕ, ◌==◌, ◌≢◌, ◌≤◌, ◌⊎◌, inl, inr, true, [], refl, sym, ap, ◌∙◌, arith, true≢false}
use Rattle.std.specs.Prelude.{Option, Some, None, is_some, slice_get, option_map}
use Rattle.std.proofs.lemmas.Bool.{and_from, eq-eqb, eqb-true, or_cases, false_from_ne_true, ltb-false}
use Rattle.std.proofs.lemmas.Option.{none-some}
use Rattle.nm_edge.specs.Edges.{Edge, other}
use Rattle.nm_edge.specs.declared.edge.Side.{Side}
use Rattle.nm_edge.specs.declared.edge.Side.TheVariants.{Left, Right}
use Rattle.nm_model.specs.declared.ledger.Queued.{Queued}
use Rattle.nm_model.specs.declared.ledger.Ledger.{Ledger}
use Rattle.nm_model.specs.Memory.{Memory, node, edge, child, is_leaf}
use Rattle.nm_model.specs.Ledgers.{held, queue_of}
use Rattle.nm_model.specs.Paths.{Reached}
use Rattle.nm_model.specs.Places.{slot_of}
use Rattle.nm_model.specs.Runs.{State, of, start, after}
use Rattle.nm_model.specs.Laws.{OfEachState}
use Rattle.nm_model.specs.declared.knowledge.Draft.{Draft}
use Rattle.nm_model.specs.Knowledge.{knows, draft_of, read, is_null}
use Rattle.nm_model.specs.Lawful.{EachReadStands, KnownLeavesAreLeaves, filled_on, IsQueued, IsWaiting, CanReach, QueuedNodesAreFrozen, TaggedEdgesHaveFlaggedTwins, FlaggedEdgesLeadToLeaves, OnlyThePinnedKnow, ReachIsShared, ReachIsGuarded, EpochsAgree}
use Rattle.nm_laws.proofs.Pictures.{InReach, IsLive, nowhere_else, reached_live}
use Rattle.nm_laws.proofs.Pictures.SeekRecord.{InPool, PrivateTo, InQueue}
use Rattle.nm_laws.proofs.Views.{drafted_on, picture, is_late, label_below, held_queue}
use Rattle.nm_laws.proofs.Lawful.{IsLawful, lawful}

leaf_of : (m : Memory) (x : ℕ) → ((f : Side) → child m x f ≡ 0) → is_leaf (node m x) ≡ true
leaf_of m x null = and_from ((node m x).left.slot == 0) ((node m x).right.slot == 0) (eq-eqb _ 0 (null Left))
    (eq-eqb _ 0 (null Right))

module _ (s : State) (k : IsLawful s) where
  -- the queue of an origin that a worker holds is the one of the picture
  held_is : (w o i : ℕ) (e : Queued) → IsQueued s w o i e → slice_get (held_queue (of s (k.holder o)) o) i ≡ Some e
  held_is w o i e at = go (held (of s w).ledgers o) refl at
    where
      go : (l : Option Ledger) → held (of s w).ledgers o ≡ l → slice_get (queue_of l) i ≡ Some e
          → slice_get (held_queue (of s (k.holder o)) o) i ≡ Some e
      go None is at = absurd (none-some e at)
      go (Some l) is at = ap (λ (y : ℕ). slice_get (held_queue (of s y) o) i)
          (sym (k.law.holders.only w o (ap is_some is))) ∙ (ap (λ x. slice_get (queue_of x) i) is ∙ at)

  queued_at : (w o i x : ℕ) (e : Queued) → IsQueued s w o i e → e.node.slot ≡ x
      → (picture s k.holder).queue o i ≡ Some x
  queued_at w o i x e at slot = ap (option_map slot_of) (held_is w o i e at) ∙ ap Some slot

  waiting_live : (x : ℕ) → IsWaiting s x → IsLive (picture s k.holder) x
  waiting_live x q = record {
    pooled = false_from_ne_true _ (λ h. pool (nowhere_else (picture s k.holder) x InPool (InQueue q.1 q.2)
        (k.law.tree.places x some range.1) h here));
    shared = λ u. false_from_ne_true _ (λ h. hands u
        (nowhere_else (picture s k.holder) x (PrivateTo u) (InQueue q.1 q.2) (k.law.tree.places x some range.1) h
        here));
  }
    where
      here : (picture s k.holder).queue q.1 q.2 ≡ Some x
      here = queued_at q.0 q.1 q.2 x q.3 q.4 q.5

      range : (6 ≤ x) × (x ≤ s.layout.nodes)
      range = k.law.tree.queues q.1 q.2 x here

      some : x ≢ 0
      some z = let r = range in absurd (omega arith)

      pool : InPool ≡ InQueue q.1 q.2 → ⊥
      pool e = cc

      hands : (u : ℕ) → PrivateTo u ≡ InQueue q.1 q.2 → ⊥
      hands u e = cc

  live_of : (x : ℕ) → Reached s.memory x ⊎ IsWaiting s x → IsLive (picture s k.holder) x
  live_of x (inl r) = rw (← r.ends) (reached_live s.layout.nodes (picture s k.holder) k.law.tree r.path
      (rw r.ends r.is_slot))
  live_of x (inr q) = waiting_live x q

  in_reach : (w x : ℕ) → CanReach s w x → InReach (picture s k.holder) w x
  in_reach w x r = record { from = r.from; known = r.known; path = r.path; ends = r.ends; is_slot = r.is_slot }

  queued_nodes_are_frozen : QueuedNodesAreFrozen s
  queued_nodes_are_frozen x side q inner = k.law.tree.queued q.1 q.2 x side (queued_at q.0 q.1 q.2 x q.3 q.4 q.5)
      (λ null. true≢false (sym (leaf_of s.memory x (both side null (k.law.tree.twins x side (waiting_live x q) null)))
      ∙ inner))
    where
      both : (side : Side) → child s.memory x side ≡ 0 → child s.memory x (other side) ≡ 0 → (f : Side)
          → child s.memory x f ≡ 0
      both Left a b Left = a
      both Left a b Right = b
      both Right a b Left = b
      both Right a b Right = a

  tagged_edges : TaggedEdgesHaveFlaggedTwins s
  tagged_edges x side at = k.law.tree.frozen x side (live_of x at)

  flagged_edges : FlaggedEdgesLeadToLeaves s
  flagged_edges x side (inl r) flag = leaf_of s.memory (child s.memory x side)
      (λ f. ap (λ (y : ℕ). child s.memory (child s.memory y side) f) (sym r.ends)
      ∙ k.law.tree.leaf_reached r.path side (ap (λ (y : ℕ). (edge s.memory y side).flag) r.ends ∙ flag) f)
  flagged_edges x side (inr c) flag = leaf_of s.memory (child s.memory x side)
      (λ f. k.law.tree.leaf_known c.0 x side (in_reach c.0 x c.1) flag f)

  reach_is_shared : ReachIsShared s
  reach_is_shared w x r = let l = k.law.tree.guarded w x (in_reach w x r) in (l.pooled, l.shared)

  reach_is_guarded : ReachIsGuarded s
  reach_is_guarded w x pin u o i label e r pinned at slot labelled =
      ltb-false label pin (sym (ap (λ p. is_late p (slice_get (held_queue (of s (k.holder o)) o) i)) pinned
      ∙ (ap (is_late (Some pin)) (held_is u o i e at) ∙ ap (label_below pin) labelled))
      ∙ k.law.tree.unlate w x o i (in_reach w x r) (queued_at u o i x e at slot))

  epochs_agree : EpochsAgree s
  epochs_agree = record {
    announced = k.law.epochs.announced;
    pinned = k.law.epochs.noted;
    sights =
        k.law.epochs.sights;
    scans = k.law.epochs.scans;
  }

  only_the_pinned_know : OnlyThePinnedKnow s
  only_the_pinned_know w x h = k.law.known w x h

  -- a known node, one of whose edges was read as null
  null_read : (w x : ℕ) (side : Side) (o : Option Edge) → read (of s w) x side ≡ o → is_null o ≡ true
      → (child s.memory x side ≡ 0) × (child s.memory x (other side) ≡ 0)
  null_read w x side None is null = absurd (true≢false (sym null))
  null_read w x side (Some e) is null = (here, k.law.tree.twins x side live here)
    where
      here : child s.memory x side ≡ 0
      here = k.law.tree.null_read w x side e is (eqb-true e.slot 0 null)

      known : knows (of s w) x ≡ true
      known = k.law.tree.reads w x side e is

      live : IsLive (picture s k.holder) x
      live = k.law.tree.guarded w x (record {
        from = x;
        known = known;
        path = [];
        ends = refl;
        is_slot = λ z.
            (let r = k.law.tree.known w x known in absurd (omega arith));
      })

  pub known_leaves : KnownLeavesAreLeaves s
  known_leaves w x leaf = elim (or_cases (is_null (read (of s w) x Left)) (is_null (read (of s w) x Right)) leaf) [
    | inl left ↦ (let n = null_read w x Left _ refl left in
        and_from ((node s.memory x).left.slot == 0) ((node s.memory x).right.slot == 0) (eq-eqb _ 0 n.0)
        (eq-eqb _ 0 n.1))
    | inr right ↦ (let n = null_read w x Right _ refl right in
        and_from ((node s.memory x).left.slot == 0) ((node s.memory x).right.slot == 0) (eq-eqb _ 0 n.1)
        (eq-eqb _ 0 n.0))
  ]

  reads_stand : EachReadStands s
  reads_stand w = record {
    known = k.law.tree.reads w;
    flags = k.law.tree.flag_read w;
    tags = k.law.tree.tag_read w;
    nulls = k.law.tree.null_read w;
    drafts = λ x side v is. (k.law.tree.drafts w x side v (same (draft_of (of s w) x) side ∙ is)).1;
  }
    where
      same : (d : Draft) (side : Side) → drafted_on d side ≡ filled_on d side
      same d Left = refl
      same d Right = refl

-- ---- in every run

pub each_read_stands : OfEachState EachReadStands
each_read_stands L enough turns = reads_stand (after (start L) turns) (lawful L enough turns)

pub each_known_leaf : OfEachState KnownLeavesAreLeaves
each_known_leaf L enough turns = known_leaves (after (start L) turns) (lawful L enough turns)

pub each_queue_frozen : OfEachState QueuedNodesAreFrozen
each_queue_frozen L enough turns = queued_nodes_are_frozen (after (start L) turns) (lawful L enough turns)

pub each_tag_twinned : OfEachState TaggedEdgesHaveFlaggedTwins
each_tag_twinned L enough turns = tagged_edges (after (start L) turns) (lawful L enough turns)

pub each_flag_on_leaf : OfEachState FlaggedEdgesLeadToLeaves
each_flag_on_leaf L enough turns = flagged_edges (after (start L) turns) (lawful L enough turns)

pub each_reach_shared : OfEachState ReachIsShared
each_reach_shared L enough turns = reach_is_shared (after (start L) turns) (lawful L enough turns)

pub each_reach_guarded : OfEachState ReachIsGuarded
each_reach_guarded L enough turns = reach_is_guarded (after (start L) turns) (lawful L enough turns)

pub each_epoch_agrees : OfEachState EpochsAgree
each_epoch_agrees L enough turns = epochs_agree (after (start L) turns) (lawful L enough turns)

pub each_knower_pinned : OfEachState OnlyThePinnedKnow
each_knower_pinned L enough turns = only_the_pinned_know (after (start L) turns) (lawful L enough turns)
