use Rattle.std.proofs.Common.{arith}
use Rattle.std.specs.Prelude.{take}
use Rattle.nm_edge.specs.declared.edge.Side.TheVariants.{Right}
use Rattle.nm_steps.proofs.Growing.{goes_on_itself}
use Rattle.nm_calls.specs.NearKeys.{bound}
use Rattle.nm_calls.specs.PlainWalks.{WasSo}
use Rattle.nm_calls.specs.Scans.{end_of}
use Rattle.nm_callers.proofs.RangesRead.{absent_so, stands_so, told_in, told_was}
use Rattle.nm_callers.proofs.ranges.read_range.Goals as goal

pub returns-in-Ok-clause-found : goal.returns-in-Ok-clause-found
returns-in-Ok-clause-found c k key stands within =
    let w = c.args.worker.now.pass in
    let z = c.scan.new.worker.pass in
    let s = c.in-Ok.scanned in
    told_in Right (WasSo w z) (bound Right c.args.from) (end_of Right c.args.below s.next)
    (take s.count c.scan.new.out) c.in-Ok.ensures.moment k key within
    (stands_so w w z z.view.past (omega arith) (goes_on_itself z.view.past) k stands)

pub returns-in-Ok-clause-missed : goal.returns-in-Ok-clause-missed
returns-in-Ok-clause-missed c k absent has =
    let w = c.args.worker.now.pass in
    let z = c.scan.new.worker.pass in
    let s = c.in-Ok.scanned in
    absent_so w w z z.view.past (omega arith) (goes_on_itself z.view.past) k absent
    (told_was Right (WasSo w z) (bound Right c.args.from) (end_of Right c.args.below s.next)
    (take s.count c.scan.new.out) c.in-Ok.ensures.moment k has)
