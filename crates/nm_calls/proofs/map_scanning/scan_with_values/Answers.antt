use Rattle.std.proofs.Common.{ap}
use Rattle.std.proofs.lemmas.Result.{IfErr-weaker}
use Rattle.nm_calls.proofs.PlainLooks.{may_end}
use Rattle.nm_calls.proofs.ScanLooks.{after_lost_pin, after_scan}
use Rattle.nm_calls.proofs.ScannedEntries.{had_entries}
use Rattle.nm_calls.specs.MapScans.{keys_of}
use Rattle.nm_calls.proofs.map_scanning.scan_with_values.Goals as goal

pub returns-in_default-clause-after : goal.returns-in_default-clause-after
returns-in_default-clause-after c =
    after_lost_pin c.args.side c.args.shared.now.layout c.args.tries c.args.from c.args.to (keys_of c.args.out.now)
    c.args.pass.now c.pin.new.pass c.if-tries-eq0.false
    c.pin.ensures.on c.in_default.ensures.moved c.in_default.ensures.rests c.pin.ensures.hands

pub unpin-requires-clause-may : goal.unpin-requires-clause-may
unpin-requires-clause-may c = may_end c.in-Ok._epoch c.pin.new.pass c.scan_and_read-scanned.new.pass
    c.in-Ok.ensures.at c.scan_and_read-scanned.ensures.only

pub returns-clause-after : goal.returns-clause-after
returns-clause-after c =
    let o = c.args.pass.now in
    let a = c.pin.new.pass in
    let p = c.scan_and_read-scanned.new.pass in
    let q = c.unpin.new.pass in
    let did = c.scan_and_read-scanned.ensures in
    after_scan c.args.side c.args.shared.now.layout c.args.tries c.args.from c.args.to c.get.result c.in-Ok._epoch
    (keys_of c.args.out.now) (keys_of c.scan_and_read-scanned.new.out) o a p q c.scan_and_read-scanned.result
    c.get.ensures.number
    c.pin.ensures.on c.in-Ok.ensures.pinned c.pin.ensures.hands did.on did.only did.looks c.unpin.ensures.took
    c.unpin.ensures.rests c.unpin.ensures.hands
    c.know_run.ensures.seen c.know_run.ensures.fits c.requires.rests.unpinned c.know_run-2.ensures.seen did.told
    did.count did.next did.early did.given_up did.busy
    (IfErr-weaker c.scan_and_read-scanned.result _ _ (λ e kept. ap keys_of kept) did.kept)

pub returns-clause-finds : goal.returns-clause-finds
returns-clause-finds c =
    had_entries c.args.pass.now c.pin.new.pass c.scan_and_read-scanned.new.pass c.unpin.new.pass
    c.know_run.ensures.seen c.know_run.ensures.fits c.requires.rests.unpinned c.pin.ensures.on c.unpin.ensures.took
    c.scan_and_read-scanned.new.out c.scan_and_read-scanned.result c.scan_and_read-scanned.ensures.read
