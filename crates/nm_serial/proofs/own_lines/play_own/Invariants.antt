use Rattle.std.proofs.Common.{◌≡◌, ◌+◌, ◌++◌, List, drop, length}
use Rattle.nm_serial.specs.declared.answer.Answer.{Answer}
use Rattle.nm_tree.specs.Workers.{WorkerView}
use Rattle.nm_steps.specs.Steps.{IsOf}
use Rattle.nm_serial.specs.Makes.{PlaysOwn, StopsOwn}
use Rattle.nm_serial.specs.declared.own_lines.Stop.{Stop}
use Rattle.nm_serial.proofs.own_lines.play_own.Given as goal

abbrev pub invariant-loop-entry : goal.invariant-loop-entry
invariant-loop-entry g l = record {
  own : IsOf l.lines.tree.now l.worker.pass;
  number : l.worker.pass.view.number ≡ l.fn.worker.pass.view.number;
  queues : length l.worker.queues ≡ length l.fn.worker.queues;
  line : l.line ≡ 2 + l.entry-index;
  goes_on : (more : List Answer) (z : WorkerView) → PlaysOwn (g.G.Gate.lets l.lines.gate.now) l.lines.tree.now
      l.lines.tries l.number l.line (drop l.entry-index l.lines.calls.now) more l.worker z
      → PlaysOwn (g.G.Gate.lets l.lines.gate.now) l.lines.tree.now l.lines.tries l.number 2 l.lines.calls.now
      (l.answers.items ++ more) l.fn.worker z;
  stops_on : (s : Stop) (z : WorkerView) → StopsOwn (g.G.Gate.lets l.lines.gate.now)
      (g.G.Gate.stops l.lines.gate.now) l.lines.tree.now l.lines.tries l.number l.line
      (drop l.entry-index l.lines.calls.now) l.worker z s
      → StopsOwn (g.G.Gate.lets l.lines.gate.now) (g.G.Gate.stops l.lines.gate.now) l.lines.tree.now l.lines.tries
      l.number 2 l.lines.calls.now l.fn.worker z s;
}
