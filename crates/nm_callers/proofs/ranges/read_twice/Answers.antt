use Rattle.std.proofs.Common.{◌≡◌, ℕ, ap, arith, sym}
use Rattle.std.specs.Prelude.{take}
use Rattle.nm_steps.specs.Steps.{PassView}
use Rattle.nm_steps.proofs.Seeing.{same_then}
use Rattle.nm_walks.specs.WonCounts.{won_links, won_splices}
use Rattle.nm_calls.proofs.Adding.{cuts_none}
use Rattle.nm_calls.proofs.PlainLooks.{call_adds}
use Rattle.nm_progress.specs.Alone.{IsAlone}
use Rattle.nm_progress.proofs.RunningAlone.{alone_before, alone_later}
use Rattle.nm_callers.specs.Taking.{StaysThroughout}
use Rattle.nm_callers.proofs.RangesRead.{agree, equal}
use Rattle.nm_callers.proofs.Unchanged.{stays_alone}
use Rattle.nm_callers.proofs.ranges.read_twice.Goals as goal

pub returns : goal.returns
returns c =
    let w = c.args.worker.now.pass in
    let x = c.scan.new.worker.pass in
    let z = c.scan-2.new.worker.pass in
    let from = c.args.from in
    let below = c.args.below in
    let s = c.in-Ok.first in
    let t = c.in-Ok-scan.second in
    let one = take s.count c.scan.new.out in
    let two = take t.count c.scan-2.new.out in
    let did = c.scan.ensures in
    let then = c.scan-2.ensures in
    let first = c.in-Ok.ensures in
    let second = c.in-Ok-scan.ensures in
    let layout = sym (ap (λ (p : PassView). p.view.layout) then.same) in
    let links : won_links z.view.log ≡ won_links w.view.log =
    (let a = did.won.links in let b = then.won.links in omega (arith, a, b)) in
    let splices : won_splices z.view.log ≡ won_splices w.view.log = (
    let a = cuts_none _ _ (call_adds _ _ w.view.log x.view.log first.did.1) in
    let b = cuts_none _ _ (call_adds _ _ x.view.log z.view.log second.did.1) in
    omega (arith, a, b)
    ) in
    let stays : IsAlone w z → (k : ℕ) → StaysThroughout z.view.layout w.view.past z.view.past k = stays_alone w z
    c.know_run.ensures.seen c.know_run-2.ensures.seen c.know_run-2.ensures.fits
    (same_then w x z did.same then.same) links splices in
    record {
      agree = agree w x z from below s.next t.next one two layout did.past then.past first.moment second.moment;
      unchanged = stays;
      same = λ alone. equal w x z from below s.next t.next one two layout did.past then.past first.moment
          second.moment (stays alone);
      whole = λ alone two. (
        first.whole (alone_before w x z did.same did.past then.past alone) two,
        second.whole
            (alone_later w x z did.same did.past then.past alone) two,
      );
    }
