-- Workers that are each promised something, in their order.
use Rattle.std.proofs.Common.{◌≡◌, ◌<◌, ◌++◌, ◌∙◌, ℕ, zero, suc, List, [], ◌∷◌, All, Some, length, map, refl, sym, ap, arith}
use Rattle.std.specs.Prelude.{slice_index_or}
use Rattle.std.proofs.lemmas.List.Elements.{All-map}
use Rattle.std.proofs.lemmas.List.Sums.{sum_by-cons}
use Rattle.nm_files.specs.declared.read.entry.ScriptCall.{ScriptCall}
use Rattle.nm_steps.specs.Steps.{TreeView, IsOf}
use Rattle.nm_tree.specs.Closing.{given_in}
use Rattle.nm_tree.specs.Workers.{WorkerView, AreNew}
use Rattle.nm_serial.specs.declared.threads.Played.{Played}
use Rattle.nm_serial.specs.Threads.{HaveAllPlayed}
use Rattle.nm_serial.proofs.CrewLemmas.{new_stand_for, present_all, present_stand_for}

-- one more of both lists
pub each_pushed : {X Y : Type 0} (R : X → Y → Type 0) (xs : List X) (ys : List Y) (x : X) (y : Y)
    → length ys ≡ length xs → ((k : ℕ) (a : X) (b : Y) → k < length xs
    → R (slice_index_or xs k a) (slice_index_or ys k b)) → R x y
    → (k : ℕ) (a : X) (b : Y) → k < length (xs ++ x ∷ [])
    → R (slice_index_or (xs ++ x ∷ []) k a) (slice_index_or (ys ++ y ∷ []) k b)
each_pushed R [] [] x y len each r zero a b lt = r
each_pushed R [] [] x y len each r (suc k) a b lt = absurd (omega arith)
each_pushed R [] (u ∷ ys) x y len each r k a b lt = absurd (omega arith)
each_pushed R (u ∷ xs) [] x y len each r k a b lt = absurd (omega arith)
each_pushed R (u ∷ xs) (v ∷ ys) x y len each r zero a b lt = each zero a b (omega arith)
each_pushed R (u ∷ xs) (v ∷ ys) x y len each r (suc k) a b lt = each_pushed R xs ys x y (omega arith)
    (λ i c d below. each (suc i) c d (omega arith)) r k a b (omega arith)

-- ---- how many workers they stand for at their ends

-- each stands for as many as before
same_many : (ws : List WorkerView) (ps : List Played) → length ps ≡ length ws
    → ((k : ℕ) (w : WorkerView) (p : Played) → k < length ws
    → length (slice_index_or ps k p).worker.queues ≡ length (slice_index_or ws k w).queues)
    → given_in (map (λ (p : Played). p.worker) ps) ≡ given_in ws
same_many [] [] long each = refl
same_many [] (p ∷ ps) long each = absurd (omega (arith, long))
same_many (w ∷ ws) [] long each = absurd (omega (arith, long))
same_many (w ∷ ws) (p ∷ ps) long each =
    let first : length p.worker.queues ≡ length w.queues = each 0 w p (omega arith) in
    let rest = same_many ws ps (omega (arith, long)) (λ k u q lt. each (suc k) u q (omega (arith, lt))) in
    let one = sum_by-cons (λ (w : WorkerView). length w.queues) w ws in
    let other = sum_by-cons (λ (w : WorkerView). length w.queues) p.worker (map (λ (p : Played). p.worker) ps) in
    omega (arith, first, rest, one, other)

module _ (lets stops : ℕ → ℕ → Type 0) (b : TreeView) (tries : ℕ) (es : List (ℕ × ScriptCall)) (ws : List WorkerView)
    (ps : List Played) (played : HaveAllPlayed lets stops b tries es ws ps) where
  pub ended_are_of : All (λ w. IsOf b w.pass) (map (λ (p : Played). p.worker) ps)
  ended_are_of = All-map (λ (w : WorkerView). IsOf b w.pass) (λ (p : Played). p.worker) ps
      (λ k p lt. (played.each k p.worker p (let long = played.all in omega (arith, lt, long))).own)

  pub ended_stand_for_all : (n : ℕ) → AreNew b 0 ws → length ws ≡ n → b.layout.workers ≡ n
      → given_in (map (λ (p : Played). p.worker) ps) ≡ b.layout.workers
  ended_stand_for_all n new many sizes =
      same_many ws ps played.all (λ k w p lt. (played.each k w p lt).queues)
      ∙ (ap given_in (sym (present_all ws)) ∙ present_stand_for (map Some ws) ∙ new_stand_for b 0 ws new) ∙ many
      ∙ sym sizes
