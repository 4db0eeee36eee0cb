use Rattle.std.proofs.Common.{◌≡◌, ◌++◌, List, Option, drop, length}
use Rattle.std.specs.Prelude.{sum_by}
use Rattle.nm_serial.specs.declared.answer.Answer.{Answer}
use Rattle.nm_tree.specs.Workers.{WorkerView}
use Rattle.nm_serial.specs.Crews.{AreCrewOf, PlaysAll, stands_for}
use Rattle.nm_serial.proofs.one_thread.play.Given as goal

abbrev pub invariant-loop-entry : goal.invariant-loop-entry
invariant-loop-entry l = record {
  own : AreCrewOf l.tree l.crew.items;
  count : length l.crew.items ≡ length l.fn.crew.items;
  whole : sum_by stands_for l.crew.items ≡ sum_by stands_for l.fn.crew.items;
  goes_on : (more : List Answer) (z : List (Option WorkerView))
      → PlaysAll l.tree l.header.tries (drop l.entry-index l.calls) more l.crew.items z
      → PlaysAll l.tree l.header.tries l.calls (l.answers.items ++ more) l.fn.crew.items z;
}
