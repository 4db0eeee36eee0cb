-- Each count is the number of the slots above 5 that stand in its place.
use Rattle.std.proofs.Common.{◌≡◌, ℕ, suc, ◌+◌, ◌-◌, ◌<◌, ◌≤◌, ◌≢◌, Bool, true, false, List, refl, sym, ap, subst, ◌∙◌, arith}
use Rattle.std.specs.Prelude.{Option, Some, None, option_map, slice_get}
use Rattle.std.proofs.lemmas.Option.{none-some, same_Some}
use Rattle.nm_model.specs.declared.ledger.Queued.{Queued}
use Rattle.nm_model.specs.Lawful.{IsWaiting}
use Rattle.nm_model.specs.Laws.{OfEachState}
use Rattle.nm_model.specs.Memory.{in_pool}
use Rattle.nm_model.specs.Paths.{Reached}
use Rattle.nm_model.specs.Places.{slot_of}
use Rattle.nm_model.specs.Runs.{State, of, start, after}
use Rattle.nm_model.proofs.Counting.{one_if, total, total_same}
use Rattle.nm_laws.specs.Cardinality.{HoldsOfSlots, IsInSomeHands, CountsAreNumbersOfSlots}
use Rattle.nm_laws.proofs.Cardinalities.{cardinality}
use Rattle.nm_laws.proofs.Counts.{is_hand, is_path, is_entry, pooled, private, reached, queued, Counted, counted_there, counted_once, at_queue, null_uncounted', low_reached, total_pooled, total_private, total_queued}
use Rattle.nm_laws.proofs.Lawful.{lawful}
use Rattle.nm_laws.proofs.Pictures.{SeekRecord, Stands, Once}
use Rattle.nm_laws.proofs.Pictures.SeekRecord.{InPool, PrivateTo, OnPath, InQueue}
use Rattle.nm_laws.proofs.TreeCount.{total_reached}
use Rattle.nm_laws.proofs.TreeSteps.{Lawful}
use Rattle.nm_laws.proofs.Views.{picture, held_queue}

-- a sum over the numbers up to N, by its first six and the others
six_apart : (f : ℕ → ℕ) (N : ℕ) → 5 ≤ N → total (suc N) f
    ≡ f 0 + (f 1 + (f 2 + (f 3 + (f 4 + f 5)))) + total (N - 5) (λ x. f (6 + x))
six_apart f N enough = ap (λ (n : ℕ). total n f) six
    ∙ (let rest = total_same (N - 5) (λ x. f (suc (suc (suc (suc (suc (suc x))))))) (λ x. f (6 + x))
    (λ x _. ap f (omega arith)) in omega arith)
  where
    six : suc N ≡ suc (suc (suc (suc (suc (suc (N - 5))))))
    six = omega arith

-- an entry whose slot is told
entry_of : (q : List Queued) (i x : ℕ) → option_map slot_of (slice_get q i) ≡ Some x
    → (e : Queued) × (slice_get q i ≡ Some e) × (e.node.slot ≡ x)
entry_of q i x h = go (slice_get q i) refl h
  where
    go : (o : Option Queued) → slice_get q i ≡ o → option_map slot_of o ≡ Some x
        → (e : Queued) × (slice_get q i ≡ Some e) × (e.node.slot ≡ x)
    go None is h = absurd (none-some x h)
    go (Some e) is h = (e, is, same_Some (slot_of e) x h)

module _ (s : State) (h : ℕ → ℕ) (law : Lawful s h) where
  once : (x : ℕ) → 6 ≤ x → x ≤ s.layout.nodes → Once (picture s h) x
  once x low high = law.tree.places x (λ z. absurd (omega arith)) high

  counted : (x : ℕ) (low : 6 ≤ x) (high : x ≤ s.layout.nodes) → Counted s h law x (once x low high).place
  counted x low high = counted_there s h law x (λ z. absurd (omega arith)) (once x low high)

  sum_of : (x : ℕ) → 6 ≤ x → x ≤ s.layout.nodes → pooled s h law x
      + (private s h law x + (reached s h law x + queued s h law x)) ≡ 1
  sum_of x low high = counted_once s h law x (λ z. absurd (omega arith)) (once x low high)

  -- what is counted once for just the slots above 5 of which something holds
  number : (f : ℕ → ℕ) (P : ℕ → Type 0) (n : ℕ) → total (s.layout.nodes - 5) (λ x. f (6 + x)) ≡ n
      → ((x : ℕ) → 6 ≤ x → x ≤ s.layout.nodes → f x ≤ 1) → ((x : ℕ) → 6 ≤ x → x ≤ s.layout.nodes → f x ≢ 0 → P x)
      → ((x : ℕ) → 6 ≤ x → x ≤ s.layout.nodes → P x → f x ≢ 0) → HoldsOfSlots s P n
  number f P n e small there back = subst (HoldsOfSlots s P) e
      (cardinality (s.layout.nodes - 5) 6 f (λ x. (6 ≤ x) × (x ≤ s.layout.nodes) × P x)
      (λ x low high. small x low (inside x high))
      (λ x low high some. (low, inside x high, there x low (inside x high) some))
      (λ x p. (p.0, (let room = law.tree.room in let high = p.1 in omega arith), back x p.0 p.1 p.2)))
    where
      inside : (x : ℕ) → x < 6 + (s.layout.nodes - 5) → x ≤ s.layout.nodes
      inside x high = let room = law.tree.room in omega arith

  -- ---- each place, by its meaning

  pooled_is : (x : ℕ) → pooled s h law x ≢ 0 → in_pool s.memory x ≡ true
  pooled_is x some = go (in_pool s.memory x) refl
    where
      go : (b : Bool) → in_pool s.memory x ≡ b → in_pool s.memory x ≡ true
      go true is = is
      go false is = absurd (some (ap one_if is))

  in_hands : (x : ℕ) → 6 ≤ x → x ≤ s.layout.nodes → private s h law x ≢ 0 → IsInSomeHands s x
  in_hands x low high some = go (once x low high).place (once x low high).here (counted x low high).private
    where
      go : (p : SeekRecord) → Stands (picture s h) x p → private s h law x ≡ one_if (is_hand p) → IsInSomeHands s x
      go InPool is none = absurd (some none)
      go (PrivateTo w) is one = (w, is)
      go (OnPath path) is none = absurd (some none)
      go (InQueue o i) is none = absurd (some none)

  hands_counted : (x : ℕ) → 6 ≤ x → x ≤ s.layout.nodes → IsInSomeHands s x → private s h law x ≢ 0
  hands_counted x low high (w, is) zero' =
      let one : private s h law x ≡ 1 = (counted x low high).private
      ∙ ap (λ p. one_if (is_hand p)) (sym ((once x low high).only (PrivateTo w) is)) in absurd (omega arith)

  is_reached : (x : ℕ) → 6 ≤ x → x ≤ s.layout.nodes → reached s h law x ≢ 0 → Reached s.memory x
  is_reached x low high some = go (once x low high).place (once x low high).here (counted x low high).reached
    where
      go : (p : SeekRecord) → Stands (picture s h) x p → reached s h law x ≡ one_if (is_path p) → Reached s.memory x
      go InPool is none = absurd (some none)
      go (PrivateTo w) is none = absurd (some none)
      go (OnPath path) is one = record { path = path; ends = is; is_slot = λ z. absurd (omega arith) }
      go (InQueue o i) is none = absurd (some none)

  reached_counted : (x : ℕ) → 6 ≤ x → x ≤ s.layout.nodes → Reached s.memory x → reached s h law x ≢ 0
  reached_counted x low high r zero' =
      let one : reached s h law x ≡ 1 = (counted x low high).reached
      ∙ ap (λ p. one_if (is_path p)) (sym ((once x low high).only (OnPath r.path) r.ends)) in absurd (omega arith)

  is_waiting : (x : ℕ) → 6 ≤ x → x ≤ s.layout.nodes → queued s h law x ≢ 0 → IsWaiting s x
  is_waiting x low high some = go (once x low high).place (once x low high).here (counted x low high).queued
    where
      go : (p : SeekRecord) → Stands (picture s h) x p → queued s h law x ≡ one_if (is_entry p) → IsWaiting s x
      go InPool is none = absurd (some none)
      go (PrivateTo w) is none = absurd (some none)
      go (OnPath path) is none = absurd (some none)
      go (InQueue o i) is one = let e = entry_of (held_queue (of s (h o)) o) i x is in (h o, o, i, e.0, e.1, e.2)

  waiting_counted : (x : ℕ) → 6 ≤ x → x ≤ s.layout.nodes → IsWaiting s x → queued s h law x ≢ 0
  waiting_counted x low high (w, o, i, e, at, is) zero' =
      let there = at_queue s h law w o i x (ap (option_map slot_of) at ∙ ap (λ (y : ℕ). Some y) is) in
      let one : queued s h law x ≡ 1 = (counted x low high).queued
      ∙ ap (λ p. one_if (is_entry p)) (sym ((once x low high).only (InQueue o i) there.1)) in absurd (omega arith)

  -- ---- the sums, without the fixed slots

  -- of the fixed slots nothing but "reached" counts one
  fixed : (x : ℕ) → x ≢ 0 → x ≤ 5 → (pooled s h law x ≡ 0) × (private s h law x ≡ 0) × (reached s h law x ≡ 1)
      × (queued s h law x ≡ 0)
  fixed x some low =
      let once = counted_once s h law x some (law.tree.places x some (let room = law.tree.room in omega arith)) in
      let one = low_reached s h law x some low in
      (omega arith, omega arith, one, omega arith)

  pub counts_are_numbers : CountsAreNumbersOfSlots s
  counts_are_numbers =
      let none = null_uncounted' s h law in
      let one = fixed 1 (λ z. absurd (omega arith)) (omega arith) in
      let two = fixed 2 (λ z. absurd (omega arith)) (omega arith) in
      let three = fixed 3 (λ z. absurd (omega arith)) (omega arith) in
      let four = fixed 4 (λ z. absurd (omega arith)) (omega arith) in
      let five = fixed 5 (λ z. absurd (omega arith)) (omega arith) in
      record {
        pool = number (pooled s h law) (λ x. in_pool s.memory x ≡ true) _
            (let apart = six_apart (pooled s h law) s.layout.nodes law.tree.room in let all = total_pooled s h law in
            omega arith)
            (λ x low high. (let sum = sum_of x low high in omega arith)) (λ x low high some. pooled_is x some)
            (λ x low high is zero'. (let one : pooled s h law x ≡ 1 = ap one_if is in absurd (omega arith)));
        private = number (private s h law) (IsInSomeHands s) _
            (let apart = six_apart (private s h law) s.layout.nodes law.tree.room in
            let all = total_private s h law in omega arith)
            (λ x low high. (let sum = sum_of x low high in omega arith)) in_hands hands_counted;
        reached = number (reached s h law) (Reached s.memory) _
            (let apart = six_apart (reached s h law) s.layout.nodes law.tree.room in
            let all = total_reached s h law.tree in omega arith)
            (λ x low high. (let sum = sum_of x low high in omega arith)) is_reached reached_counted;
        queued = number (queued s h law) (IsWaiting s) _
            (let apart = six_apart (queued s h law) s.layout.nodes law.tree.room in let all = total_queued s h law in
            omega arith)
            (λ x low high. (let sum = sum_of x low high in omega arith)) is_waiting waiting_counted;
      }

pub each_count_is_a_number_of_slots : OfEachState CountsAreNumbersOfSlots
each_count_is_a_number_of_slots L enough turns = let k = lawful L enough turns in
    counts_are_numbers (after (start L) turns) k.holder k.law
