-- What holds of the empty log, and of a log with one entry more, holds of every part of an ordered
-- run.
use Rattle.std.proofs.Common.{ℕ, List, [], ◌∷◌, ◌++◌, sym, subst}
use Rattle.std.proofs.lemmas.List.{append-nil, append_assoc}
use Rattle.nm_edge.specs.Layouts.{Layout}
use Rattle.nm_model.specs.Walks.{Entry}
use Rattle.nm_order.specs.Logs.{IsLogOf}
use Rattle.nm_order.proofs.LastEntries.{log_before}

module _ {X : Type 0} where
  -- a list, taken apart from its end
  pub data FromTheEnd : List X → Type 0 where
    nothing : FromTheEnd []
    one_more : (xs : List X) (x : X) → FromTheEnd xs → FromTheEnd (xs ++ x ∷ [])

  on_from : (xs ys : List X) → FromTheEnd xs → FromTheEnd (xs ++ ys)
  on_from xs [] f = subst FromTheEnd (sym (append-nil xs)) f
  on_from xs (y ∷ ys) f = subst FromTheEnd (append_assoc xs (y ∷ []) ys) (on_from (xs ++ y ∷ []) ys (one_more xs y f))

  pub from_the_end : (xs : List X) → FromTheEnd xs
  from_the_end xs = on_from [] xs nothing

module _ (L : Layout) (w : ℕ) (P : List Entry → Type 0) (first : P [])
    (step : (log : List Entry) (e : Entry) → IsLogOf L w (log ++ e ∷ []) → P log → P (log ++ e ∷ [])) where
  by_end : (log : List Entry) → FromTheEnd log → IsLogOf L w log → P log
  by_end _ nothing l = first
  by_end _ (one_more log e f) l = step log e l (by_end log f (log_before L w log e l))

  pub each_log : (log : List Entry) → IsLogOf L w log → P log
  each_log log = by_end log (from_the_end log)
