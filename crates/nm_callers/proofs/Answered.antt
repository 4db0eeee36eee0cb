-- Of what is answered.
use Rattle.std.proofs.Common.{◌≡◌, sym, subst}
use Rattle.std.specs.Prelude.{Option, Result, Ok, Err, IfOk, IfSome}
use Rattle.std.specs.Result.{result_ok}

-- where an error is left out
pub if_answered : {A E : Type 0} (r : Result A E) (o : Option A) (P : A → Type 0) → o ≡ result_ok r → IfOk r P
    → IfSome o P
if_answered {A} (Ok b) o P is holds = subst (λ (x : Option A). IfSome x P) (sym is) holds
if_answered {A} (Err e) o P is holds = subst (λ (x : Option A). IfSome x P) (sym is) tt

-- of each answer
pub each_ok : {A E : Type 0} (r : Result A E) (P Q : A → Type 0) → ((a : A) → P a → Q a) → IfOk r P → IfOk r Q
each_ok (Ok b) P Q then' is = then' b is
each_ok (Err e) P Q then' is = tt
