use Rattle.std.proofs.Common.{refl, sym, subst, arith}
use Rattle.nm_tree.specs.declared.closing.Report.{Report}
use Rattle.nm_tree.specs.Closing.{IsClosed}
use Rattle.nm_serial.specs.Endings.{ending_lines}
use Rattle.nm_serial.proofs.WorkerLemmas.{all_are_of}
use Rattle.nm_serial.proofs.outcome.put_end.Goals as goal

pub end-requires : goal.end-requires
end-requires c = record { own = all_are_of c.args.tree c.args.workers.items c.requires.own }

-- no more nodes wait than there are slots
pub put_report-requires : goal.put_report-requires
put_report-requires c =
    let closed = subst
    (λ (r : Report). IsClosed c.args.tree c.args.workers.items r.queues.items r.keys.items r.free r.reached)
    (sym c.into_report-report.ensures) c.in-Ok.ensures.closed in
    let sum = closed.says.sum in
    let most = closed.ends.fits.most in
    record { few = omega (arith, sum, most) }

pub returns-in-Ok-put_report-clause-text : goal.returns-in-Ok-put_report-clause-text
returns-in-Ok-put_report-clause-text c =
    let report = c.into_report-report.result in
    let closed = subst
    (λ (r : Report). IsClosed c.args.tree c.args.workers.items r.queues.items r.keys.items r.free r.reached)
    (sym c.into_report-report.ensures) c.in-Ok.ensures.closed in (
      ending_lines report.queues.items report.keys.items report.free report.reached,
      record {
        queues = report.queues.items;
        keys = report.keys.items;
        free = report.free;
        reached = report.reached;
        closed = closed;
        text_is = refl;
      },
      c.in-Ok-put_report.ensures,
    )
