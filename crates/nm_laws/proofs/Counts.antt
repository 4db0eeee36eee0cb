-- The counts of the places add up to the nodes above slot 5.
use Rattle.std.proofs.Common.{◌≡◌, ℕ, zero, suc, ◌+◌, ◌-◌, ◌==◌, ◌<◌, ◌≤◌, ◌≢◌, inl, inr, eqb, Bool, true, false, cond, List, [], ◌∷◌, length, map, refl, sym, ap, subst, ◌∙◌, arith, true≢false}
use Rattle.std.specs.Prelude.{Option, Some, None, is_some, option_map, slice_get, sum_by, filter}
use native.Mathlib.Decide.{ℕ_discrete}
use Rattle.std.proofs.lemmas.Bool.{cond_both, cond-true, cond-false, cases_lt, eq-eqb, ne_eqb, false_from_ne_true}
use Rattle.std.proofs.lemmas.List.{length-map, get_or_past}
use Rattle.std.proofs.lemmas.Option.{none-some, same_Some, slice_get-map, slice_get-get_or, get_or_from_slice_get}
use Rattle.nm_edge.specs.declared.edge.Side.{Side}
use Rattle.nm_model.specs.declared.knowledge.Draft.{Draft}
use Rattle.nm_model.specs.declared.ledger.Queued.{Queued}
use Rattle.nm_model.specs.declared.ledger.Ledger.{Ledger}
use Rattle.nm_model.specs.Maps.{get, has}
use Rattle.nm_model.specs.Memory.{in_pool}
use Rattle.nm_model.specs.Ledgers.{held, queue_of}
use Rattle.nm_model.specs.Knowledge.{Knowledge, newcomer, is_private}
use Rattle.nm_model.specs.Places.{slot_of}
use Rattle.nm_model.specs.Reports.{tree_slots}
use Rattle.nm_model.specs.Runs.{State, of, start, after}
use Rattle.nm_model.specs.Laws.{OfEachState}
use Rattle.nm_model.specs.Lawful.{CountsAddUp}
use Rattle.nm_model.proofs.Tables.{at_eqb, Above, Ascends}
use Rattle.nm_model.proofs.Counting.{one_if, weight, sum_is_weight, weight_same, weight_none, weight_one, total, total_same, total_add, total_ones, total_weight, total_marks, total_times, times, times_here, times_apart, below_from}
use Rattle.nm_laws.proofs.Pictures.{SeekRecord, Stands, Once}
use Rattle.nm_laws.proofs.Pictures.SeekRecord.{InPool, PrivateTo, OnPath, InQueue}
use Rattle.nm_laws.proofs.Views.{picture, held_queue, queued_at}
use Rattle.nm_laws.proofs.TreeSteps.{Lawful}
use Rattle.nm_laws.proofs.Lawful.{lawful}
use Rattle.nm_laws.proofs.Opening.{new_queue}
use Rattle.nm_laws.proofs.TreeCount.{reached_once, unreached, null_uncounted, total_reached}

-- ---- the keys of a map

abbrev pub keys : List (ℕ × Draft) → List ℕ
keys m = map (λ e. e.0) m

above_times : (m : List (ℕ × Draft)) (s x : ℕ) → x ≤ s → Above m s → times (keys m) x ≡ 0
above_times [] s x le h = refl
above_times (e ∷ es) s x le h =
    let low = h.0 in
    let a = times_apart x e.0 (λ z. absurd (omega arith)) in
    let b = above_times es s x le h.1 in omega arith

has_head : (e : ℕ × Draft) (es : List (ℕ × Draft)) (x : ℕ) → has (e ∷ es) x ≡ cond (eqb x e.0) true (has es x)
has_head e es x = ap (λ (b : Bool). is_some (cond b (Some e.1) (get es x))) (at_eqb x e.0) ∙ go (eqb x e.0)
  where
    go : (b : Bool) → is_some (cond b (Some e.1) (get es x)) ≡ cond b true (has es x)
    go true = refl
    go false = refl

keys_times : (m : List (ℕ × Draft)) (x : ℕ) → Ascends m → times (keys m) x ≡ one_if (has m x)
keys_times [] x h = refl
keys_times (e ∷ es) x h = elim (ℕ_discrete x e.0) [
  | yes z ↦
      let a = times_here x e.0 z in
      let b = above_times es e.0 x (omega arith) h.0 in
      let c : one_if (has (e ∷ es) x) ≡ 1 = ap one_if
      (has_head e es x ∙ cond-true (eqb x e.0) true (has es x) (eq-eqb x e.0 z)) in omega arith
  | no z ↦
      let a = times_apart x e.0 z in
      let b = keys_times es x h.1 in
      let c : one_if (has (e ∷ es) x) ≡ one_if (has es x) = ap one_if
      (has_head e es x ∙ cond-false (eqb x e.0) true (has es x) (ne_eqb x e.0 z)) in omega arith
]

keys_had : (m : List (ℕ × Draft)) (i x : ℕ) → slice_get (keys m) i ≡ Some x → has m x ≡ true
keys_had [] i x at = absurd (none-some x at)
keys_had (e ∷ es) zero x at = has_head e es x ∙ cond-true (eqb x e.0) true (has es x)
    (eq-eqb x e.0 (sym (same_Some e.0 x at)))
keys_had (e ∷ es) (suc i) x at = has_head e es x
    ∙ cond_both (eqb x e.0) true (has es x) (λ b. b ≡ true) (λ _. refl) (λ _. keys_had es i x at)

-- ---- the places of one slot

abbrev pub is_pool : SeekRecord → Bool
is_pool InPool = true
is_pool (PrivateTo w) = false
is_pool (OnPath path) = false
is_pool (InQueue o i) = false

abbrev pub is_hand : SeekRecord → Bool
is_hand InPool = false
is_hand (PrivateTo w) = true
is_hand (OnPath path) = false
is_hand (InQueue o i) = false

abbrev pub is_path : SeekRecord → Bool
is_path InPool = false
is_path (PrivateTo w) = false
is_path (OnPath path) = true
is_path (InQueue o i) = false

abbrev pub is_entry : SeekRecord → Bool
is_entry InPool = false
is_entry (PrivateTo w) = false
is_entry (OnPath path) = false
is_entry (InQueue o i) = true

abbrev pub slots : List Queued → List ℕ
slots q = map slot_of q

module _ (s : State) (h : ℕ → ℕ) (law : Lawful s h) where
  abbrev pub pooled : ℕ → ℕ
  pooled x = one_if (in_pool s.memory x)

  abbrev pub private : ℕ → ℕ
  private x = weight (λ k. times (keys k.drafts) x) s.workers

  abbrev pub reached : ℕ → ℕ
  reached x = times (tree_slots s.layout.nodes s.memory 1) x

  abbrev pub queued_by : Knowledge → ℕ → ℕ
  queued_by k x = weight (λ l. times (slots (queue_of l)) x) k.ledgers

  abbrev pub queued : ℕ → ℕ
  queued x = weight (λ k. queued_by k x) s.workers

  worker_at : (v : ℕ) (k : Knowledge) → slice_get s.workers v ≡ Some k → of s v ≡ k
  worker_at v k at = get_or_from_slice_get s.workers v k (newcomer s.layout v) at

  -- a worker that there is not is a newcomer
  past_is_new : (v : ℕ) → length s.workers ≤ v → of s v ≡ newcomer s.layout v
  past_is_new v past = get_or_past s.workers v (newcomer s.layout v) past

  private_none : (x : ℕ) → ((w : ℕ) → is_private (of s w) x ≡ false) → private x ≡ 0
  private_none x none = weight_none (λ k. times (keys k.drafts) x) s.workers (λ v k at.
      ap (λ y. times (keys y.drafts) x) (sym (worker_at v k at))
      ∙ (keys_times (of s v).drafts x (law.drafts v) ∙ ap one_if (none v)))

  private_one : (x u : ℕ) → is_private (of s u) x ≡ true → ((w : ℕ) → w ≢ u → is_private (of s w) x ≡ false)
      → private x ≡ 1
  private_one x u own others = weight_one (λ k. times (keys k.drafts) x) s.workers u (of s u)
      (slice_get-get_or s.workers u (newcomer s.layout u) inside)
      (keys_times (of s u).drafts x (law.drafts u) ∙ ap one_if own)
      (λ v k at ne. ap (λ y. times (keys y.drafts) x) (sym (worker_at v k at))
      ∙ (keys_times (of s v).drafts x (law.drafts v) ∙ ap one_if (others v ne)))
    where
      inside : u < length s.workers
      inside = elim (cases_lt u (length s.workers)) [
        | inl lt ↦ lt
        | inr past ↦ absurd
            (true≢false (sym own ∙ ap (λ y. is_private y x) (past_is_new u past)))
      ]

  -- an entry of a worker's queue is one of its holder's
  pub at_queue : (v o i x : ℕ) → option_map slot_of (slice_get (held_queue (of s v) o) i) ≡ Some x
      → (v ≡ h o) × ((picture s h).queue o i ≡ Some x)
  at_queue v o i x at = go (held (of s v).ledgers o) refl
    where
      go : (l : Option Ledger) → held (of s v).ledgers o ≡ l → (v ≡ h o) × ((picture s h).queue o i ≡ Some x)
      go None is = absurd (none-some x (sym (ap (λ l. option_map slot_of (slice_get (queue_of l) i)) is) ∙ at))
      go (Some l) is = let e = law.holders.only v o (ap is_some is) in
          (e, ap (λ (y : ℕ). queued_at (held_queue (of s y) o) i) (sym e) ∙ at)

  entry_slot : (q : List Queued) (i y : ℕ) → slice_get (slots q) i ≡ Some y
      → option_map slot_of (slice_get q i) ≡ Some y
  entry_slot q i y at = sym (slice_get-map slot_of q i) ∙ at

  slots_none : (q : List Queued) (x : ℕ) → ((i : ℕ) → option_map slot_of (slice_get q i) ≡ Some x → ⊥)
      → times (slots q) x ≡ 0
  slots_none q x none = weight_none (λ y. one_if (x == y)) (slots q)
      (λ i y at. times_apart x y (λ e. none i (entry_slot q i y at ∙ ap Some (sym e))))

  ledger_is : (k : Knowledge) (o : ℕ) (l : Option Ledger) → slice_get k.ledgers o ≡ Some l → held k.ledgers o ≡ l
  ledger_is k o l at = get_or_from_slice_get k.ledgers o l None at

  queued_by_none : (v x : ℕ) → ((o i : ℕ) → option_map slot_of (slice_get (held_queue (of s v) o) i) ≡ Some x → ⊥)
      → queued_by (of s v) x ≡ 0
  queued_by_none v x none = weight_none (λ l. times (slots (queue_of l)) x) (of s v).ledgers (λ o l at.
      slots_none (queue_of l) x (λ i is. none o i (ap (λ y. option_map slot_of (slice_get (queue_of y) i))
      (ledger_is (of s v) o l at) ∙ is)))

  queued_none : (x : ℕ) → ((o i : ℕ) → (picture s h).queue o i ≡ Some x → ⊥) → queued x ≡ 0
  queued_none x none = weight_none (λ k. queued_by k x) s.workers (λ v k at.
      ap (λ y. queued_by y x) (sym (worker_at v k at))
      ∙ queued_by_none v x (λ o i is. none o i (at_queue v o i x is).1))

  queued_one : (x o i : ℕ) → (picture s h).queue o i ≡ Some x
      → ((p j : ℕ) → (picture s h).queue p j ≡ Some x → (p ≡ o) × (j ≡ i)) → queued x ≡ 1
  queued_one x o i here alone = weight_one (λ k. queued_by k x) s.workers (h o) (of s (h o))
      (slice_get-get_or s.workers (h o) (newcomer s.layout (h o)) inside) mine
      (λ v k at ne. ap (λ y. queued_by y x) (sym (worker_at v k at))
      ∙ queued_by_none v x (λ p j is. let q = at_queue v p j x is in ne (q.0 ∙ ap h (alone p j q.1).0)))
    where
      inside : h o < length s.workers
      inside = elim (cases_lt (h o) (length s.workers)) [
        | inl lt ↦ lt
        | inr past ↦ absurd (none-some x (sym (ap (λ k. queued_at (held_queue k o) i) (past_is_new (h o) past)
            ∙ ap (λ q. queued_at q i) (new_queue s.layout (h o) o)) ∙ here))
      ]

      ledger : o < length (of s (h o)).ledgers
      ledger = elim (cases_lt o (length (of s (h o)).ledgers)) [
        | inl lt ↦ lt
        | inr past ↦ absurd (none-some x (sym (ap (λ l. queued_at (queue_of l) i)
            (get_or_past (of s (h o)).ledgers o None past)) ∙ here))
      ]

      first : (q : List Queued) → option_map slot_of (slice_get q i) ≡ Some x
          → ((j : ℕ) → option_map slot_of (slice_get q j) ≡ Some x → j ≡ i) → times (slots q) x ≡ 1
      first q at only = weight_one (λ y. one_if (x == y)) (slots q) i x (slice_get-map slot_of q i ∙ at)
          (times_here x x refl)
          (λ j y at' ne. times_apart x y (λ e. ne (only j (entry_slot q j y at' ∙ ap Some (sym e)))))

      mine : queued_by (of s (h o)) x ≡ 1
      mine = weight_one (λ l. times (slots (queue_of l)) x) (of s (h o)).ledgers o (held (of s (h o)).ledgers o)
          (slice_get-get_or (of s (h o)).ledgers o None ledger)
          (first (held_queue (of s (h o)) o) here (λ j is. (alone o j is).1))
          (λ p l at ne. slots_none (queue_of l) x (λ j is. ne
          (alone p j (at_queue (h o) p j x (ap (λ y. option_map slot_of (slice_get (queue_of y) j))
          (ledger_is (of s (h o)) p l at) ∙ is)).1).0))

  -- how often a slot is counted in each place
  pub record Counted (x : ℕ) (p : SeekRecord) : Type 0 where
    pub pool : pooled x ≡ one_if (is_pool p)
    pub private : private x ≡ one_if (is_hand p)
    pub reached : reached x ≡ one_if (is_path p)
    pub queued : queued x ≡ one_if (is_entry p)

  -- once in the place where it stands
  pub counted_there : (x : ℕ) → x ≢ 0 → (once : Once (picture s h) x) → Counted x once.place
  counted_there x some once = go once.place once.here once.only
    where
      not_private : (p : SeekRecord) → ((q : SeekRecord) → Stands (picture s h) x q → q ≡ p)
          → ((w : ℕ) → PrivateTo w ≡ p → ⊥) → private x ≡ 0
      not_private p only apart = private_none x (λ w. false_from_ne_true _ (λ i. apart w (only (PrivateTo w) i)))

      not_queued : (p : SeekRecord) → ((q : SeekRecord) → Stands (picture s h) x q → q ≡ p)
          → ((o i : ℕ) → InQueue o i ≡ p → ⊥) → queued x ≡ 0
      not_queued p only apart = queued_none x (λ o i is. apart o i (only (InQueue o i) is))

      not_reached : (p : SeekRecord) → ((q : SeekRecord) → Stands (picture s h) x q → q ≡ p)
          → ((path : List Side) → OnPath path ≡ p → ⊥) → reached x ≡ 0
      not_reached p only apart = unreached s h law.tree x (λ on. apart on.path (only (OnPath on.path) on.ends)) some

      not_pooled : (p : SeekRecord) → ((q : SeekRecord) → Stands (picture s h) x q → q ≡ p) → (InPool ≡ p → ⊥)
          → pooled x ≡ 0
      not_pooled p only apart = ap one_if (false_from_ne_true _ (λ i. apart (only InPool i)))

      go : (p : SeekRecord) → Stands (picture s h) x p → ((q : SeekRecord) → Stands (picture s h) x q → q ≡ p)
          → Counted x p
      go InPool is only = record {
        pool = ap one_if is;
        private = not_private InPool only (λ w e. cc);
        reached = not_reached InPool only (λ q e. cc);
        queued = not_queued InPool only (λ o i e. cc);
      }
      go (PrivateTo w) is only = record {
        pool = not_pooled (PrivateTo w) only (λ e. cc);
        private = private_one x w is (λ v ne. false_from_ne_true _ (λ i. ne (same v w (only (PrivateTo v) i))));
        reached = not_reached (PrivateTo w) only (λ q e. cc);
        queued = not_queued (PrivateTo w) only (λ o i e. cc);
      }
        where
          same : (v w : ℕ) → PrivateTo v ≡ PrivateTo w → v ≡ w
          same v w e = cc
      go (OnPath path) is only = record {
        pool = not_pooled (OnPath path) only (λ e. cc);
        private = not_private (OnPath path) only (λ w e. cc);
        reached = reached_once s h law.tree x (record { path = path; ends = is; is_slot = some });
        queued = not_queued (OnPath path) only (λ o i e. cc);
      }
      go (InQueue o i) is only = record {
        pool = not_pooled (InQueue o i) only (λ e. cc);
        private = not_private (InQueue o i) only (λ w e. cc);
        reached = not_reached (InQueue o i) only (λ q e. cc);
        queued = queued_one x o i is (λ p j at. same p j o i (only (InQueue p j) at));
      }
        where
          same : (p j o i : ℕ) → InQueue p j ≡ InQueue o i → (p ≡ o) × (j ≡ i)
          same p j o i e = (cc, cc)

  -- each slot is counted once
  pub counted_once : (x : ℕ) → x ≢ 0 → Once (picture s h) x → pooled x + (private x + (reached x + queued x)) ≡ 1
  counted_once x some once = go once.place (counted_there x some once)
    where
      go : (p : SeekRecord) → Counted x p → pooled x + (private x + (reached x + queued x)) ≡ 1
      go InPool c = omega arith
      go (PrivateTo w) c = omega arith
      go (OnPath path) c = omega arith
      go (InQueue o i) c = omega arith

  -- slot 0 is not counted
  pub null_uncounted' : pooled 0 + (private 0 + (reached 0 + queued 0)) ≡ 0
  null_uncounted' =
      let a : pooled 0 ≡ 0 = ap one_if (false_from_ne_true _
      (λ i. let r = law.tree.pools 0 i in absurd (omega arith))) in
      let b = private_none 0 (λ w. false_from_ne_true _
      (λ i. let r = law.tree.privates w 0 i in absurd (omega arith))) in
      let c = null_uncounted s h law.tree s.layout.nodes 1 in
      let d = queued_none 0 (λ o i is. let r = law.tree.queues o i 0 is in absurd (omega arith)) in omega arith

  all_slots : total (suc s.layout.nodes) (λ x. pooled x + (private x + (reached x + queued x))) ≡ s.layout.nodes
  all_slots =
      let a = null_uncounted' in
      let b = total_same s.layout.nodes (λ x. pooled (suc x)
      + (private (suc x) + (reached (suc x) + queued (suc x)))) (λ x. 1)
      (λ x lt. counted_once (suc x) (λ z. absurd (omega arith))
      (law.tree.places (suc x) (λ z. absurd (omega arith)) (omega arith))) in
      let c = total_ones s.layout.nodes in omega arith

  -- ---- the sums of the report

  pub total_pooled : total (suc s.layout.nodes) pooled ≡ length (filter (λ free. free) s.memory.pool)
  total_pooled = ap (λ (n : ℕ). total n pooled) size ∙ total_marks s.memory.pool
    where
      size : suc s.layout.nodes ≡ length s.memory.pool
      size = let e = law.roomy.pool in omega arith

  pub total_private : total (suc s.layout.nodes) private ≡ sum_by (λ k. length k.drafts) s.workers
  total_private = total_weight (suc s.layout.nodes) (λ k. times (keys k.drafts)) s.workers
      ∙ (weight_same (λ k. total (suc s.layout.nodes) (times (keys k.drafts))) (λ k. length k.drafts) s.workers
      (λ v k at.
      total_times (suc s.layout.nodes) (keys k.drafts)
      (below_from (suc s.layout.nodes) (keys k.drafts) (λ i x is. inside v k at x (keys_had k.drafts i x is)))
      ∙ length-map k.drafts (λ e. e.0))
      ∙ sym (sum_is_weight (λ k. length k.drafts) s.workers))
    where
      inside : (v : ℕ) (k : Knowledge) → slice_get s.workers v ≡ Some k → (x : ℕ) → has k.drafts x ≡ true
          → x < suc s.layout.nodes
      inside v k at x i = let r = law.tree.privates v x (ap (λ y. is_private y x) (worker_at v k at) ∙ i) in omega arith

  pub total_queued : total (suc s.layout.nodes) queued
      ≡ sum_by (λ k. sum_by (λ l. length (queue_of l)) k.ledgers) s.workers
  total_queued = total_weight (suc s.layout.nodes) (λ k. queued_by k) s.workers
      ∙ (weight_same (λ k. total (suc s.layout.nodes) (queued_by k))
      (λ k. sum_by (λ l. length (queue_of l)) k.ledgers) s.workers (λ v k at.
      total_weight (suc s.layout.nodes) (λ l. times (slots (queue_of l))) k.ledgers
      ∙ (weight_same (λ l. total (suc s.layout.nodes) (times (slots (queue_of l)))) (λ l. length (queue_of l))
      k.ledgers (λ o l is.
      total_times (suc s.layout.nodes) (slots (queue_of l))
      (below_from (suc s.layout.nodes) (slots (queue_of l)) (λ i x here. inside v k at o l is i x here))
      ∙ length-map (queue_of l) slot_of)
      ∙ sym (sum_is_weight (λ l. length (queue_of l)) k.ledgers)))
      ∙ sym (sum_is_weight (λ k. sum_by (λ l. length (queue_of l)) k.ledgers) s.workers))
    where
      inside : (v : ℕ) (k : Knowledge) → slice_get s.workers v ≡ Some k → (o : ℕ) (l : Option Ledger)
          → slice_get k.ledgers o ≡ Some l → (i x : ℕ) → slice_get (slots (queue_of l)) i ≡ Some x
          → x < suc s.layout.nodes
      inside v k at o l is i x here =
          let q = at_queue v o i x (ap (λ y. option_map slot_of (slice_get (held_queue y o) i)) (worker_at v k at)
          ∙ (ap (λ y. option_map slot_of (slice_get (queue_of y) i)) (ledger_is k o l is)
          ∙ entry_slot (queue_of l) i x here)) in
          let r = law.tree.queues o i x q.1 in omega arith

  -- slots 1 to 5 are reached
  pub low_reached : (x : ℕ) → x ≢ 0 → x ≤ 5 → reached x ≡ 1
  low_reached x some low = go once.place once.here
    where
      once : Once (picture s h) x
      once = law.tree.places x some (let room = law.tree.room in omega arith)

      go : (p : SeekRecord) → Stands (picture s h) x p → reached x ≡ 1
      go InPool is = let r = law.tree.pools x is in absurd (omega arith)
      go (PrivateTo w) is = let r = law.tree.privates w x is in absurd (omega arith)
      go (OnPath path) is = reached_once s h law.tree x (record { path = path; ends = is; is_slot = some })
      go (InQueue o i) is = let r = law.tree.queues o i x is in absurd (omega arith)

  at_least_five : 5 ≤ total (suc s.layout.nodes) reached
  at_least_five = subst (λ (n : ℕ). 5 ≤ total n reached) (sym six) (five (s.layout.nodes - 5))
    where
      six : suc s.layout.nodes ≡ suc (suc (suc (suc (suc (suc (s.layout.nodes - 5))))))
      six = let room = law.tree.room in omega arith

      five : (n : ℕ) → 5 ≤ total (suc (suc (suc (suc (suc (suc n)))))) reached
      five n =
          let a = low_reached 1 (λ z. absurd (omega arith)) (omega arith) in
          let b = low_reached 2 (λ z. absurd (omega arith)) (omega arith) in
          let c = low_reached 3 (λ z. absurd (omega arith)) (omega arith) in
          let d = low_reached 4 (λ z. absurd (omega arith)) (omega arith) in
          let e = low_reached 5 (λ z. absurd (omega arith)) (omega arith) in omega arith

  pub counts_add_up : CountsAddUp s
  counts_add_up =
      let all = all_slots in
      let one = total_add (suc s.layout.nodes) pooled (λ x. private x + (reached x + queued x)) in
      let two = total_add (suc s.layout.nodes) private (λ x. reached x + queued x) in
      let three = total_add (suc s.layout.nodes) reached queued in
      let a = total_pooled in
      let b = total_private in
      let c = total_reached s h law.tree in
      let d = total_queued in
      let e = at_least_five in
      omega arith

pub each_state_adds_up : OfEachState CountsAddUp
each_state_adds_up L enough turns = let k = lawful L enough turns in
    counts_add_up (after (start L) turns) k.holder k.law
