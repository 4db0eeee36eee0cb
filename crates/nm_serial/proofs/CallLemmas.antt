-- Calls that a worker may be asked.
use Rattle.std.proofs.Common.{◌≡◌, Bool, inr, sym}
use Rattle.std.specs.Prelude.{Option, Some, None, IfSome, Result}
use Rattle.nm_serial.specs.declared.answer.Answer.{Answer}
use Rattle.nm_serial.specs.Answers.{change_answer}
use Rattle.nm_calls.specs.declared.fault.CallFault.{CallFault}
use Rattle.nm_tree.specs.Workers.{WorkerView}
use Rattle.nm_serial.specs.Makes.{HasSearched}

-- a worker that was not held was asked, and that is what its line tells
pub has_searched : (did : Result Bool CallFault → Type 0) (w z : WorkerView) (r : Result Bool CallFault)
    (o : Option Answer) → w.held ≡ None → did r → o ≡ change_answer r → IfSome o (HasSearched did w z)
has_searched did w z r (Some a) free done is = inr (free, (r, done, sym is))
has_searched did w z r None free done is = tt
