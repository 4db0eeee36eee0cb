use Rattle.std.proofs.Common.{rules, ◌≡◌}
use Rattle.std.specs.Prelude.{None}
use Rattle.nm_tree.specs.Answers.{HasAnswered}
use Rattle.nm_serial.proofs.CallLemmas.{has_searched}
use Rattle.nm_serial.proofs.making.has.Goals as goal

pub returns-clause-did : goal.returns-clause-did
returns-clause-did c =
    let free : c.args.worker.now.held ≡ None = search rules in
    has_searched (HasAnswered c.args.tree.now.layout c.args.tries c.args.key c.args.worker.now c.has.new.worker)
    c.args.worker.now c.has.new.worker c.has.result c.of_change.result free c.has.ensures.leaves.did
    c.of_change.ensures
