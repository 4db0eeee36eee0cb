-- In which ledger a node is freed, and what an heir holds.
use Rattle.std.proofs.Common.{◌≡◌, ℕ, zero, suc, ◌+◌, ◌<◌, ◌≤◌, Bool, true, false, not, cond, Option, option_map, is_some, List, [], ◌∷◌, ◌++◌, length, take, drop, slice_index_or, slice_set, refl, ap, arith}
use Rattle.std.specs.List.{prefix_len}
use Rattle.nm_edge.specs.declared.node.NodeId.{NodeId}
use Rattle.nm_model.specs.declared.ledger.Ledger.{Ledger}
use Rattle.nm_model.specs.Maps.{or_else}
use Rattle.nm_model.specs.Ledgers.{queue_of, front_at, free, with_freed, taken_over}

module _ (n : NodeId) where
  abbrev is_not_front : Option Ledger → Bool
  is_not_front l = not (is_some (front_at (queue_of l) n.slot))

  -- by the test of the first ledger: it is the one, or the rest is looked at
  freed_here : (b : Bool) (m j : ℕ) (l x : Option Ledger) (ls rest : List (Option Ledger))
      → cond (not b) (1 + m) 0 ≡ j → x ≡ slice_index_or (l ∷ ls) j x
      → ((k : ℕ) → suc k ≡ j → m ≡ k → x ≡ slice_index_or ls k x → rest ≡ slice_set ls k (option_map (with_freed n) x))
      → cond b (option_map (with_freed n) l ∷ ls) (l ∷ rest) ≡ slice_set (l ∷ ls) j (option_map (with_freed n) x)
  freed_here true m zero l x ls rest at is later = let here : x ≡ l = is in rw here refl
  freed_here true m (suc j) l x ls rest at is later = absurd (let e : 0 ≡ suc j = at in omega (arith, e))
  freed_here false m zero l x ls rest at is later = absurd (let e : 1 + m ≡ 0 = at in omega (arith, e))
  freed_here false m (suc j) l x ls rest at is later = ap (λ xs. l ∷ xs)
      (later j refl (let e : 1 + m ≡ suc j = at in omega (arith, e)) is)

  -- the node is freed in the first ledger whose front it is
  pub free_some : (ls : List (Option Ledger)) (j : ℕ) (x : Option Ledger) → prefix_len is_not_front ls ≡ j
      → j < length ls → x ≡ slice_index_or ls j x
      → free ls n ≡ slice_set ls j (option_map (with_freed n) x)
  free_some [] j x at below is = absurd (omega arith)
  free_some (l ∷ ls) j x at below is =
      freed_here (is_some (front_at (queue_of l) n.slot)) (prefix_len is_not_front ls) j l x ls (free ls n) at is
      (λ k next same there. free_some ls k x same (omega arith) there)

  none_here : (b : Bool) (m : ℕ) (l : Option Ledger) (ls rest freed : List (Option Ledger))
      → suc (length ls) ≤ cond (not b) (1 + m) 0 → (length ls ≤ m → rest ≡ ls) → cond b freed (l ∷ rest) ≡ l ∷ ls
  none_here true m l ls rest freed h later = absurd (let e : suc (length ls) ≤ 0 = h in omega (arith, e))
  none_here false m l ls rest freed h later = ap (λ xs. l ∷ xs)
      (later (let e : suc (length ls) ≤ 1 + m = h in omega (arith, e)))

  -- and in none where there is no such
  pub free_none : (ls : List (Option Ledger)) → length ls ≤ prefix_len is_not_front ls → free ls n ≡ ls
  free_none [] h = refl
  free_none (l ∷ ls) h = none_here (is_some (front_at (queue_of l) n.slot)) (prefix_len is_not_front ls) l ls
      (free ls n) _ h (λ h. free_none ls h)

-- one more ledger is taken over
pub taken_more : (ls ms : List (Option Ledger)) (i : ℕ) (x p : Option Ledger) → i < length ls → length ms ≡ length ls
    → x ≡ slice_index_or (taken_over (take i ls) (take i ms) ++ drop i ls) i x → p ≡ slice_index_or ms i p
    → slice_set (taken_over (take i ls) (take i ms) ++ drop i ls) i (or_else p x)
    ≡ taken_over (take (suc i) ls) (take (suc i) ms) ++ drop (suc i) ls
taken_more [] ms i x p below same at passed = absurd (omega arith)
taken_more (l ∷ ls) [] i x p below same at passed = absurd (omega arith)
taken_more (l ∷ ls) (m ∷ ms) zero x p below same at passed = let here : x ≡ l = at in let there : p ≡ m = passed in
    rw (here, there) refl
taken_more (l ∷ ls) (m ∷ ms) (suc i) x p below same at passed = ap (λ xs. or_else m l ∷ xs)
    (taken_more ls ms i x p (omega arith) (omega arith) at passed)
