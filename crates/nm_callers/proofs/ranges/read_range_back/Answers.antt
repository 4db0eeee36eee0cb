use Rattle.std.proofs.Common.{arith}
use Rattle.std.specs.Prelude.{take}
use Rattle.nm_edge.specs.declared.edge.Side.TheVariants.{Left}
use Rattle.nm_steps.proofs.Growing.{goes_on_itself}
use Rattle.nm_calls.specs.NearKeys.{bound}
use Rattle.nm_calls.specs.PlainWalks.{WasSo}
use Rattle.nm_calls.specs.Scans.{end_of}
use Rattle.nm_callers.proofs.RangesRead.{absent_so, stands_so, told_in, told_was}
use Rattle.nm_callers.proofs.ranges.read_range_back.Goals as goal

pub returns-in-Ok-clause-found : goal.returns-in-Ok-clause-found
returns-in-Ok-clause-found c k key stands within =
    let w = c.args.worker.now.pass in
    let z = c.scan_back.new.worker.pass in
    let s = c.in-Ok.scanned in
    told_in Left (WasSo w z) (bound Left c.args.from) (end_of Left c.args.least s.next)
    (take s.count c.scan_back.new.out) c.in-Ok.ensures.moment k key within
    (stands_so w w z z.view.past (omega arith) (goes_on_itself z.view.past) k stands)

pub returns-in-Ok-clause-missed : goal.returns-in-Ok-clause-missed
returns-in-Ok-clause-missed c k absent has =
    let w = c.args.worker.now.pass in
    let z = c.scan_back.new.worker.pass in
    let s = c.in-Ok.scanned in
    absent_so w w z z.view.past (omega arith) (goes_on_itself z.view.past) k absent
    (told_was Left (WasSo w z) (bound Left c.args.from) (end_of Left c.args.least s.next)
    (take s.count c.scan_back.new.out) c.in-Ok.ensures.moment k has)
