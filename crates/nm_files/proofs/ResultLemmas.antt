-- What is so of each result.
use Rattle.std.specs.Prelude.{Result, Ok, Err, OnOk, IfErr}

-- what follows from the one follows where all went well
pub ok_then : {X E : Type 0} {P Q : Type 0} (r : Result X E) → (P → Q) → OnOk r P → OnOk r Q
ok_then (Ok x) f p = f p
ok_then (Err e) f p = tt

-- what is so of each error
pub err_always : {X E : Type 0} (r : Result X E) (P : E → Type 0) → ((e : E) → P e) → IfErr r P
err_always (Ok x) P p = tt
err_always (Err e) P p = p e
