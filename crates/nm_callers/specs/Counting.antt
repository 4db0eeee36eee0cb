-- A counter in a map: a number that calls raise by one, each in one step.
use Rattle.std.specs.Prelude.{◌≡◌, ◌≢◌, ◌⊎◌, ◌==◌, ◌&&◌, ◌+◌, ℕ, suc, false, not, if◌then◌else◌, List, [], ◌∷◌, ◌++◌, Some, None, All}
use Rattle.nm_model.specs.declared.event.Op.TheVariants.{Has, Insert}
use Rattle.nm_calls.specs.MapHistories.{GivesEach, MapAct, PlainMap, is_plain, map_after}
use Rattle.nm_lending.specs.declared.knowing.Visit.{Visit}
use Rattle.nm_puts.specs.Replaced.{HasReplaced}
use Rattle.nm_set.specs.Seats.{MemberView}
use Rattle.nm_shared.specs.Sharing.{CallerView, HasHeardNote}
use Rattle.nm_tree.specs.Workers.{WorkerView}

-- the caller made two visits more: it looked at the number, and then raised it. The second worker first
-- heard what the caller had seen. After that, and before the end of its visit, it won a swap: right before
-- the swap the map had the key with this number, and right after it with the next one
pub record Raised (was now : CallerView) (k number : ℕ) : Type 0 where
  pub between : CallerView
  pub looked : Visit MemberView
  pub first : between.visits ≡ was.visits ++ looked ∷ []
  pub visit : Visit MemberView
  pub more : now.visits ≡ between.visits ++ visit ∷ []
  pub begun : WorkerView
  pub heard : HasHeardNote visit.was.worker between.note begun
  pub replaced : HasReplaced begun.pass visit.left.worker.pass k number (number + 1)

-- ---- the sum

-- the act leaves the key as it is, or is a put that raises its number by one
abbrev pub RaisesOrReads : ℕ → MapAct → Type 0
RaisesOrReads k a = (a.act.key ≢ k)
    ⊎ ((a.left ≡ None) × ((a.act.op ≡ Has) ⊎ (a.act.answer ≡ false)))
    ⊎ ((a.left ≡ Some (a.value + 1)) × (a.act.op ≡ Insert) × (a.act.answer ≡ false))

-- how many of these acts are puts of the key
abbrev pub puts_of : ℕ → List MapAct → ℕ
puts_of k [] = 0
puts_of k (a ∷ acts) = if (k == a.act.key) && not (is_plain a) then suc (puts_of k acts) else puts_of k acts

-- if each act of a history of a plain map leaves a counter as it is or raises it by one, then it ends
-- with the number at first and one for each put of its key
abbrev pub CountersEndWithTheSum : Type 0
CountersEndWithTheSum = (m : PlainMap) (acts : List MapAct) (k first : ℕ) → GivesEach m acts → m k ≡ Some first
    → All (RaisesOrReads k) acts → map_after m acts k ≡ Some (first + puts_of k acts)
