use Rattle.std.proofs.Common.{sym, subst}
use Rattle.nm_calls.specs.Scans.{IsStretch}
use Rattle.nm_calls.proofs.ScanLooks.{stretch_begins}
use Rattle.nm_calls.proofs.stretches.begin.Goals as goal

pub returns-clause-walks : goal.returns-clause-walks
returns-clause-walks c =
    let did = c.look_edge-first.ensures in
    subst (IsStretch c.args.plan.now.side c.args.plan.now.end 0 c.look_edge-first.new.pass) (sym c.stretch_to.ensures)
    (stretch_begins c.args.plan.now.side c.args.at c.args.plan.now.end c.args.pass.now c.look_edge-first.new.pass
    c.look_edge-first.result did.step did.told c.requires.at c.requires.top.0 c.requires.top.1)
