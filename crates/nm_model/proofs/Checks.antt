-- The checks that may refuse an event, one behind the other.
use Rattle.std.proofs.Common.{◌≡◌, ℕ, ◌≤◌, Bool, false, ◌||◌, cond, ap, ◌∙◌}
use Rattle.std.specs.Prelude.{Option, Some, None, nat_lt}
use Rattle.std.proofs.lemmas.Bool.{cond-false, le-ltb}
use Rattle.nm_model.specs.declared.reply.Refused.{Refused}
use Rattle.nm_model.specs.Step.{outside}

-- a slot of the range is not outside of it
pub not_outside : (low n s : ℕ) → low ≤ s → s ≤ n → outside low n s ≡ false
not_outside low n s least most = ap (λ (b : Bool). b || nat_lt n s) (le-ltb s low least) ∙ le-ltb n s most

-- a check that passes_then, and those that follow
pub passes_then : (b : Bool) (r : Refused) (o : Option Refused) → b ≡ false → o ≡ None → cond b (Some r) o ≡ None
passes_then b r o is rest = cond-false b (Some r) o is ∙ rest
