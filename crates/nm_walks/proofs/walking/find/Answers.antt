use Rattle.std.proofs.Common.{refl, ap, subst, arith}
use Rattle.nm_walks.specs.Bounds.{reach}
use Rattle.nm_walks.specs.Telling.{OnwardTold}
use Rattle.nm_walks.specs.Walks.{Reads}
use Rattle.nm_walks.proofs.Adding.{end_adds, walk_adds}
use Rattle.nm_walks.proofs.GoingOn.{goes_then, only_then, pinned_in_still}
use Rattle.nm_walks.proofs.ShortWalks.{too_long}
use Rattle.nm_walks.proofs.Walked.{finds_on, finds_out}
use Rattle.nm_walks.proofs.walking.find.Goals as goal

pub read_node-on-requires-clause-pinned : goal.read_node-on-requires-clause-pinned
read_node-on-requires-clause-pinned c = pinned_in_still c.args.shared.now c.args.pass.now c.loop-below.pass
    c.loop-below.invariant.on c.requires.pinned

pub loop-below-preserved : goal.loop-below-preserved
loop-below-preserved c =
    let o = c.args.pass.now in
    let p = c.loop-below.pass in
    let q = c.read_node-on.new.pass in
    let t = c.loop-below.seek_record in
    let on = c.read_node-on.result in
    let told : OnwardTold p q c.args.key t.edge.slot on.found on.side on.next = subst
    (λ n. OnwardTold p q c.args.key n on.found on.side on.next) c.slot-node.ensures c.read_node-on.ensures.told in
    let read : Reads c.args.key t.edge.slot p.view.log q.view.log on = subst
    (λ n. Reads c.args.key n p.view.log q.view.log on) c.slot-node.ensures c.read_node-on.ensures.looks in
    let below = c.loop-below-test.true in
    let size = c.reach-below-end.ensures.reach in
    let layout = ap reach c.layout-layout.ensures in
    record {
      inside = omega (arith, below, size, layout);
      finding = finds_on c.args.shared.now.layout c.args.key c.loop-below._below o p q t on
          c.loop-below.invariant.finding read told (c.is_null.ensures.no c.if-is_null.false)
          c.further-seek_record.result c.further-seek_record.ensures.seek_record c.further-seek_record.ensures.edge;
      on = goes_then o p q c.loop-below.invariant.on c.read_node-on.ensures.on;
      only = only_then o p q c.loop-below.invariant.only c.read_node-on.ensures.only;
    }

pub returns-then-is_null : goal.returns-then-is_null
returns-then-is_null c =
    let o = c.args.pass.now in
    let p = c.loop-below.pass in
    let q = c.read_node-on.new.pass in
    let t = c.loop-below.seek_record in
    let on = c.read_node-on.result in
    let L = c.args.shared.now.layout in
    let told : OnwardTold p q c.args.key t.edge.slot on.found on.side on.next = subst
    (λ n. OnwardTold p q c.args.key n on.found on.side on.next) c.slot-node.ensures c.read_node-on.ensures.told in
    let read : Reads c.args.key t.edge.slot p.view.log q.view.log on = subst
    (λ n. Reads c.args.key n p.view.log q.view.log on) c.slot-node.ensures c.read_node-on.ensures.looks in
    let below = c.loop-below-test.true in
    let size = c.reach-below-end.ensures.reach in
    let layout = ap reach c.layout-layout.ensures in
    let out = finds_out L c.args.key c.loop-below._below o p q t on c.loop-below.invariant.finding read told
    (c.is_null.ensures.yes c.if-is_null.true) (omega (arith, below, size, layout)) in
    record {
      walk = out.0;
      steps = (end_adds L c.args.key o.view.log q.view.log out.0.0 out.0.1 on.found out.0.2).steps;
      on = goes_then o p q c.loop-below.invariant.on c.read_node-on.ensures.on;
      only = only_then o p q c.loop-below.invariant.only c.read_node-on.ensures.only;
      found = (t.edge.slot, t.parent, t.side, out.1);
    }

pub returns-in-Ended : goal.returns-in-Ended
returns-in-Ended c =
    let came = c.in-Ended.ensures.came refl in
    record {
      walk = came.0;
      steps = (end_adds c.args.shared.now.layout c.args.key c.args.pass.now.view.log c.descend.new.pass.view.log
          came.0.0 came.0.1 c.in-Ended.end.key came.0.2).steps;
      on = c.descend.ensures.on;
      only = c.descend.ensures.only;
      found = (
        c.in-Ended.end.seek_record.edge.slot,
        c.in-Ended.end.seek_record.parent,
        c.in-Ended.end.seek_record.side,
        came.1,
      );
    }

pub returns : goal.returns
returns c =
    let o = c.args.pass.now in
    let p = c.loop-below.pass in
    let walk = c.loop-below.invariant.finding.walk in
    let above = (walk_adds c.args.key c.loop-below._below o.view.log p.view.log c.loop-below.seek_record walk.0
    walk.1).steps in
    let inside = c.loop-below.invariant.inside in
    let end = c.loop-below-test.false in
    let size = c.reach-below-end.ensures.reach in
    let layout = ap reach c.layout-layout.ensures in
    record {
      walk = too_long c.args.shared.now c.args.key c.requires.key c.loop-below._below o.view.log
          c.loop-below.seek_record walk.0 p (pinned_in_still c.args.shared.now o p c.loop-below.invariant.on
          c.requires.pinned) walk.1 (omega (arith, inside, end, size, layout));
      steps = omega (arith, above, inside);
      on = c.loop-below.invariant.on;
      only = c.loop-below.invariant.only;
      found = tt;
    }
