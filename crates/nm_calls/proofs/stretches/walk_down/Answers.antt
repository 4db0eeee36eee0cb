use Rattle.std.proofs.Common.{◌+◌, ◌*◌, ◌∙◌, refl, ap, sym, subst, arith}
use Rattle.nm_walks.specs.Bounds.{reach}
use Rattle.nm_walks.proofs.GoingOn.{goes_then, only_then, pinned_in_still}
use Rattle.nm_calls.specs.MapScans.{EndsAt}
use Rattle.nm_calls.proofs.PlainLooks.{looks_in, looks_then, no_looks}
use Rattle.nm_calls.proofs.ScanLooks.{goes_here, only_here, stretch_sooner, too_far}
use Rattle.nm_calls.proofs.stretches.walk_down.Goals as goal

pub loop-node-init : goal.loop-node-init
loop-node-init c =
    let o = c.args.pass.now in
    let some = c.reach-node-end.ensures.some in
    let size = c.reach-node-end.ensures.reach in
    let layout = ap reach c.layout-layout.ensures in
    record {
      inside = omega (arith, some, size, layout);
      looks = looks_in _ o.view.log o.view.log (omega arith) (no_looks o.view.log);
      walks = c.requires.walks;
      kept = c.requires.kept;
      entry = refl;
      hit = λ what null. absurd (c.requires.some what null);
      on = goes_here c.args.shared.now o c.requires.pinned;
      only = only_here o;
    }

pub read_on-on-requires-clause-pinned : goal.read_on-on-requires-clause-pinned
read_on-on-requires-clause-pinned c = pinned_in_still c.args.shared.now c.args.pass.now c.loop-node.pass
    c.loop-node.invariant.on c.requires.pinned

pub read_on-on-requires-clause-known : goal.read_on-on-requires-clause-known
read_on-on-requires-clause-known c = c.loop-node.invariant.walks.known (c.is_null.ensures.no c.if-is_null.false)

pub loop-node-preserved : goal.loop-node-preserved
loop-node-preserved c =
    let o = c.args.pass.now in
    let p = c.loop-node.pass in
    let q = c.read_on-on.new.pass in
    let held = c.loop-node.invariant in
    let did = c.read_on-on.ensures in
    let walked = did.walks c.args.plan.now.end c.loop-node._node held.walks held.kept in
    let below = c.loop-node-test.true in
    let size = c.reach-node-end.ensures.reach in
    let layout = ap reach c.layout-layout.ensures in
    record {
      inside = omega (arith, below, size, layout);
      looks = looks_in ((c.loop-node._node + 1) * 4) o.view.log q.view.log (omega arith)
          (looks_then o.view.log p.view.log q.view.log held.looks did.looks);
      walks = walked.0;
      kept = walked.1;
      entry = did.entry ∙ held.entry;
      hit = λ what. subst (EndsAt q c.read_on-on.result) (sym c.slot.ensures)
          (did.hit c.args.plan.now.end c.loop-node._node held.walks);
      on = goes_then o p q held.on did.on;
      only = only_then o p q held.only did.only;
    }

pub returns-then-is_null-clause-looks : goal.returns-then-is_null-clause-looks
returns-then-is_null-clause-looks c =
    let held = c.loop-node.invariant in
    let inside = held.inside in
    looks_in (reach c.args.shared.now.layout * 4) c.args.pass.now.view.log c.loop-node.pass.view.log
    (omega (arith, inside)) held.looks

pub returns-then-is_null-clause-walks : goal.returns-then-is_null-clause-walks
returns-then-is_null-clause-walks c = stretch_sooner c.args.plan.now.side c.args.plan.now.end c.loop-node._node
    c.loop-node.pass c.loop-node.stretch c.loop-node.invariant.walks

pub returns-clause-looks : goal.returns-clause-looks
returns-clause-looks c =
    let held = c.loop-node.invariant in
    let inside = held.inside in
    looks_in (reach c.args.shared.now.layout * 4) c.args.pass.now.view.log c.loop-node.pass.view.log
    (omega (arith, inside)) held.looks

pub returns-clause-walks : goal.returns-clause-walks
returns-clause-walks c = stretch_sooner c.args.plan.now.side c.args.plan.now.end c.loop-node._node c.loop-node.pass
    c.loop-node.stretch c.loop-node.invariant.walks

pub returns-clause-long : goal.returns-clause-long
returns-clause-long c some =
    let o = c.args.pass.now in
    let p = c.loop-node.pass in
    let held = c.loop-node.invariant in
    let inside = held.inside in
    let end = c.loop-node-test.false in
    let size = c.reach-node-end.ensures.reach in
    let layout = ap reach c.layout-layout.ensures in
    too_far c.args.shared.now p (pinned_in_still c.args.shared.now o p held.on c.requires.pinned)
    c.args.plan.now.side c.args.plan.now.end c.loop-node._node c.loop-node.stretch held.walks some
    (omega (arith, inside, end, size, layout))
