-- The laws of the tree at the opening.
use Rattle.std.proofs.Common.{◌≡◌, ℕ, zero, suc, ◌-◌, ◌≢◌, ◌≤◌, inl, inr, true, false, List, [], ◌∷◌, get_or, replicate, refl, sym, ap, subst, ◌∙◌, arith, true≢false, get_or-set_same, get_or-set_other}
use Rattle.std.specs.Prelude.{Option, Some, None}
use mathlib.Core.Path.{fun_ext}
use native.Mathlib.Decide.{ℕ_discrete}
use Rattle.std.proofs.lemmas.Bool.{cases_lt}
use Rattle.std.proofs.lemmas.List.{get_or-replicate, get_or_past, length-replicate, set_past}
use Rattle.std.proofs.lemmas.Option.{none-some}
use Rattle.nm_edge.specs.Edges.{Edge, to, other}
use Rattle.nm_edge.specs.Layouts.{Layout}
use Rattle.nm_edge.specs.declared.edge.Side.{Side}
use Rattle.nm_edge.specs.declared.edge.Side.TheVariants.{Left, Right}
use Rattle.nm_model.specs.declared.memory.Node.{Node}
use Rattle.nm_model.specs.declared.ledger.Ledger.{Ledger}
use Rattle.nm_model.specs.Memory.{blank, edge_of}
use Rattle.nm_model.specs.Ledgers.{held, queue_of, fresh_ledger}
use Rattle.nm_model.specs.Knowledge.{Knowledge, newcomer, unread, unfilled, read_on}
use Rattle.nm_model.specs.Paths.{follow}
use Rattle.nm_model.specs.Runs.{start}
use Rattle.nm_model.proofs.Numbers.{repeated}
use Rattle.nm_laws.proofs.Holders.{none_held}
use Rattle.nm_laws.proofs.Trees.{follow_none, each_side, each_slot}
use Rattle.nm_laws.proofs.Pictures.{Picture, below, TreeLaw, SeekRecord, Stands, Once}
use Rattle.nm_laws.proofs.Pictures.SeekRecord.{InPool, PrivateTo, OnPath, InQueue}
use Rattle.nm_laws.proofs.Views.{picture, view, held_queue, queued_at, drafted_on}
use Rattle.nm_laws.proofs.Pins.{all_new}

-- the opening's picture, with nobody knowing anything
abbrev opened : Layout → Picture
opened L = view (start L).memory (newcomer L) (λ o. o)

edge_six : (L : Layout) (x : ℕ) (d : Side) → (opened L).edges (suc (suc (suc (suc (suc (suc x)))))) d ≡ to 0
edge_six L x d = ap (λ (n : Node). edge_of n d) (repeated (L.nodes - 5) x blank)
    ∙ each_side (λ e. edge_of blank e ≡ to 0) refl refl d

-- nothing waits in a newcomer's queues
pub new_queue : (L : Layout) (u o : ℕ) → held_queue (newcomer L u) o ≡ []
new_queue L u o = elim (ℕ_discrete o u) [
  | yes e ↦ rw e (elim (cases_lt u L.workers) [
    | inl below ↦ ap queue_of (get_or-set_same (replicate L.workers None) u (Some fresh_ledger) None
        (let e = length-replicate {A = Option Ledger} L.workers None in omega arith))
    | inr past ↦ ap (λ ls. queue_of (held ls u)) (set_past (replicate L.workers None) u (Some fresh_ledger)
        (let e = length-replicate {A = Option Ledger} L.workers None in omega arith))
        ∙ ap queue_of (none_held L.workers u)
  ])
  | no ne ↦ ap queue_of (get_or-set_other (replicate L.workers None) u o (Some fresh_ledger) None ne
      ∙ none_held L.workers o)
]

module _ (L : Layout) (enough : 5 ≤ L.nodes) where
  abbrev P : Picture
  P = opened L

  no_queue : (o i x : ℕ) → P.queue o i ≡ Some x → ⊥
  no_queue o i x h = none-some x (sym (ap (λ q. queued_at q i) (new_queue L o o)) ∙ h)

  null : (x : ℕ) (d : Side) → x ≢ 1 → x ≢ 2 → P.edges x d ≡ to 0
  null = each_slot (λ x. (d : Side) → x ≢ 1 → x ≢ 2 → P.edges x d ≡ to 0) (each_side _ (λ a b. refl) (λ a b. refl))
      (λ d a b. absurd (a refl)) (λ d a b. absurd (b refl))
      (each_side _ (λ a b. refl) (λ a b. refl)) (each_side _ (λ a b. refl) (λ a b. refl))
      (each_side _ (λ a b. refl) (λ a b. refl)) (λ x d a b. edge_six L x d)

  -- what holds of a null edge and of the edges of slots 1 and 2 holds of each
  each_edge : (Q : Edge → Type 0) → Q (to 0) → ((d : Side) → Q (P.edges 1 d)) → ((d : Side) → Q (P.edges 2 d))
      → (x : ℕ) (d : Side) → Q (P.edges x d)
  each_edge Q none one two (suc zero) d = one d
  each_edge Q none one two (suc (suc zero)) d = two d
  each_edge Q none one two zero d = subst Q (sym (null zero d (λ h. absurd (omega arith))
      (λ h. absurd (omega arith)))) none
  each_edge Q none one two (suc (suc (suc x))) d = subst Q
      (sym (null (suc (suc (suc x))) d (λ h. absurd (omega arith)) (λ h. absurd (omega arith)))) none

  pub plain : (x : ℕ) (d : Side) → (P.edges x d).flag ≡ false
  plain = each_edge (λ e. e.flag ≡ false) refl (each_side _ refl refl) (each_side _ refl refl)

  untagged : (x : ℕ) (d : Side) → (P.edges x d).tag ≡ false
  untagged = each_edge (λ e. e.tag ≡ false) refl (each_side _ refl refl) (each_side _ refl refl)

  low : (x : ℕ) (d : Side) → below P x d ≤ 5
  low = each_edge (λ e. e.slot ≤ 5) (omega arith) (each_side _ (omega arith) (omega arith))
      (each_side _ (omega arith) (omega arith))

  nothing : (q : List Side) → follow (below P) 0 q ≡ 0
  nothing q = follow_none (below P) (λ d. ap (λ (e : Edge). e.slot)
      (null 0 d (λ h. absurd (omega arith)) (λ h. absurd (omega arith)))) q

  abbrev the_path : ℕ → List Side
  the_path (suc (suc zero)) = Left ∷ []
  the_path (suc (suc (suc zero))) = Left ∷ Left ∷ []
  the_path (suc (suc (suc (suc zero)))) = Left ∷ Right ∷ []
  the_path (suc (suc (suc (suc (suc zero))))) = Right ∷ []
  the_path x = []

  path_is : (q : List Side) → follow (below P) 1 q ≢ 0 → q ≡ the_path (follow (below P) 1 q)
  path_is [] h = refl
  path_is (Left ∷ []) h = refl
  path_is (Right ∷ []) h = refl
  path_is (Left ∷ Left ∷ []) h = refl
  path_is (Left ∷ Right ∷ []) h = refl
  path_is (Right ∷ Left ∷ q) h = absurd (h (nothing q))
  path_is (Right ∷ Right ∷ q) h = absurd (h (nothing q))
  path_is (Left ∷ Left ∷ Left ∷ q) h = absurd (h (nothing q))
  path_is (Left ∷ Left ∷ Right ∷ q) h = absurd (h (nothing q))
  path_is (Left ∷ Right ∷ Left ∷ q) h = absurd (h (nothing q))
  path_is (Left ∷ Right ∷ Right ∷ q) h = absurd (h (nothing q))

  low_path : (q : List Side) → follow (below P) 1 q ≤ 5
  low_path q = go 1 q (omega arith)
    where
      go : (s : ℕ) (q : List Side) → s ≤ 5 → follow (below P) s q ≤ 5
      go s [] h = h
      go s (d ∷ q) h = go (below P s d) q (low s d)

  fixed : (x : ℕ) → x ≢ 0 → P.pool x ≡ false → follow (below P) 1 (the_path x) ≡ x → Once P x
  fixed x some out ends = record { place = OnPath (the_path x); here = ends; only = each }
    where
      each : (q : SeekRecord) → Stands P x q → q ≡ OnPath (the_path x)
      each InPool h = absurd (true≢false (sym h ∙ out))
      each (PrivateTo u) h = absurd (true≢false (sym h))
      each (OnPath q) h = ap OnPath (path_is q (rw h some) ∙ ap the_path h)
      each (InQueue u i) h = absurd (no_queue u i x h)

  pooled : (x : ℕ) → suc (suc (suc (suc (suc (suc x))))) ≤ L.nodes → Once P (suc (suc (suc (suc (suc (suc x))))))
  pooled x inside = record {
    place = InPool;
    here = get_or-replicate (L.nodes - 5) x true false (omega arith);
    only =
        each;
  }
    where
      each : (q : SeekRecord) → Stands P (suc (suc (suc (suc (suc (suc x)))))) q → q ≡ InPool
      each InPool h = refl
      each (PrivateTo u) h = absurd (true≢false (sym h))
      each (OnPath q) h = let l = low_path q in absurd (omega arith)
      each (InQueue u i) h = absurd (no_queue u i _ h)

  places : (x : ℕ) → x ≢ 0 → x ≤ L.nodes → Once P x
  places = each_slot (λ x. x ≢ 0 → x ≤ L.nodes → Once P x) (λ some inside. absurd (some refl))
      (λ some inside. fixed 1 some refl refl) (λ some inside. fixed 2 some refl refl)
      (λ some inside. fixed 3 some refl refl) (λ some inside. fixed 4 some refl refl)
      (λ some inside. fixed 5 some refl refl) (λ x some inside. pooled x inside)

  pool_range : (x : ℕ) → P.pool x ≡ true → (6 ≤ x) × (x ≤ L.nodes)
  pool_range = each_slot (λ x. P.pool x ≡ true → (6 ≤ x) × (x ≤ L.nodes)) out out out out out out
      (λ x h. (
        omega arith,
        elim (cases_lt x (L.nodes - 5))
            [ inl lt ↦ omega arith | inr past ↦ absurd (true≢false (sym h ∙ over x past)) ],
      ))
    where
      out : {x : ℕ} → false ≡ true → (6 ≤ x) × (x ≤ L.nodes)
      out h = absurd (true≢false (sym h))

      over : (x : ℕ) → L.nodes - 5 ≤ x → get_or (replicate (L.nodes - 5) true) x false ≡ false
      over x past = get_or_past (replicate (L.nodes - 5) true) x false
          (let n = length-replicate (L.nodes - 5) true in omega arith)

  twin : (x : ℕ) (d : Side) → below P x d ≡ 0 → below P x (other d) ≡ 0
  twin (suc zero) Left h = absurd (omega arith)
  twin (suc zero) Right h = absurd (omega arith)
  twin (suc (suc zero)) Left h = absurd (omega arith)
  twin (suc (suc zero)) Right h = absurd (omega arith)
  twin zero d h = ap (λ (e : Edge). e.slot) (null zero (other d) (λ h. absurd (omega arith))
      (λ h. absurd (omega arith)))
  twin (suc (suc (suc x))) d h = ap (λ (e : Edge). e.slot)
      (null (suc (suc (suc x))) (other d) (λ h. absurd (omega arith)) (λ h. absurd (omega arith)))

  unread_none : (d : Side) (e : Edge) → read_on unread d ≡ Some e → ⊥
  unread_none Left e h = none-some e h
  unread_none Right e h = none-some e h

  unfilled_none : (d : Side) (v : ℕ) → drafted_on unfilled d ≡ Some v → ⊥
  unfilled_none Left v h = none-some v h
  unfilled_none Right v h = none-some v h

  opened_law : TreeLaw L.nodes P
  opened_law = record {
    room = omega arith;
    nothing = λ d. null 0 d (λ h. absurd (omega arith)) (λ h. absurd (omega arith));
    within = λ x d. let l = low x d in omega arith;
    pools = pool_range;
    privates = λ u x h. absurd (true≢false (sym h));
    queues = λ u i x h. absurd (no_queue u i x h);
    known = λ u x h. absurd (true≢false (sym h));
    root_left = refl;
    second = λ h. absurd (omega arith);
    sentinels = λ x d a b. ap (λ (e : Edge). e.slot) (null x d (λ h. absurd (omega arith)) (λ h. absurd (omega arith)));
    places = places;
    twins = λ x d l. twin x d;
    flags = λ x d l h. absurd (true≢false (sym h ∙ plain x d));
    frozen = λ x d l h. absurd (true≢false (sym h ∙ untagged x d));
    queued = λ u i x d h. absurd (no_queue u i x h);
    leaf_reached = λ q d h. absurd (true≢false (sym h ∙ plain (follow (below P) 1 q) d));
    leaf_known = λ u x d r. absurd (true≢false (sym r.known));
    guarded = λ u x r. absurd (true≢false (sym r.known));
    unlate = λ u x v i r. absurd (true≢false (sym r.known));
    reads = λ u x d e h. absurd (unread_none d e h);
    flag_read = λ u x d e h. absurd (unread_none d e h);
    tag_read = λ u x d e h. absurd (unread_none d e h);
    null_read = λ u x d e h. absurd (unread_none d e h);
    drafts = λ u x d v h. absurd (unfilled_none d v h);
  }

  pub tree_start : TreeLaw L.nodes (picture (start L) (λ o. o))
  tree_start = subst (λ (kn : ℕ → Knowledge). TreeLaw L.nodes (view (start L).memory kn (λ o. o)))
      (fun_ext (λ u. sym (all_new L u))) opened_law
