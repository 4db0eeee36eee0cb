use Rattle.std.proofs.Common.{◌≤◌, ◌+◌, ◌*◌, ℕ, refl, sym, ap, subst, ◌∙◌, arith}
use Rattle.nm_edge.specs.declared.edge.Side.TheVariants.{Left}
use Rattle.nm_model.specs.Memory.{infinity_0}
use Rattle.nm_walks.specs.Bounds.{reach}
use Rattle.nm_calls.specs.NearKeys.{IsDescent}
use Rattle.nm_walks.specs.Telling.{OnwardTold}
use Rattle.nm_walks.specs.Walks.{Reads}
use Rattle.nm_calls.specs.declared.near_key.KeysWalk.{KeysWalk}
use Rattle.nm_walks.proofs.GoingOn.{goes_then, only_then, pinned_in_still}
use Rattle.nm_calls.proofs.NearLooks.{descent_begins, descent_goes_on, descent_too_long}
use Rattle.nm_walks.proofs.PlainLooks.{read_added}
use Rattle.nm_calls.proofs.PlainLooks.{look_added, looks_in, looks_then}
use Rattle.nm_calls.proofs.near_key.walk_down.Goals as goal

pub loop-node-init : goal.loop-node-init
loop-node-init c =
    let o = c.args.pass.now in
    let q = c.look_edge.new.pass in
    let edge = c.look_edge.result in
    let did = c.look_edge.ensures in
    let some = c.reach-node-end.ensures.some in
    let size = c.reach-node-end.ensures.reach in
    let layout = ap reach c.layout-layout.ensures in
    record {
      inside = omega (arith, some, size, layout);
      looks = looks_in _ o.view.log q.view.log (omega arith) (look_added o q 2 Left edge did.step);
      under_way = subst (λ (n : ℕ). IsDescent c.args.shared.now.layout 0 o q
          (record { from = c.args.from; low = 0; high = infinity_0; node = n; leaf = 0; found = 0 }))
          (sym c.slot-first.ensures)
          (descent_begins c.args.shared.now.layout o q edge did.step did.told c.args.from c.requires.key);
      from = refl;
      on = did.on;
      only = did.only;
    }

pub loop-node-preserved : goal.loop-node-preserved
loop-node-preserved c =
    let o = c.args.pass.now in
    let p = c.loop-node.pass in
    let q = c.read_node-on.new.pass in
    let walk = c.loop-node.walk in
    let on = c.read_node-on.result in
    let held = c.loop-node.invariant in
    let did = c.read_node-on.ensures in
    let now = c.read_so-walk.ensures in
    let next = c.read_so-walk.result in
    let below = c.loop-node-test.true in
    let size = c.reach-node-end.ensures.reach in
    let layout = ap reach c.layout-layout.ensures in
    let few : c.loop-node._node + 2 ≤ reach c.args.shared.now.layout = omega (arith, below, size, layout) in
    record {
      inside = omega (arith, few);
      looks = looks_in (1 + (c.loop-node._node + 1) * (3 * 1)) o.view.log q.view.log (omega arith)
          (looks_then o.view.log p.view.log q.view.log held.looks
          (read_added c.args.from walk.node p.view.log q.view.log on did.looks));
      under_way = subst (IsDescent c.args.shared.now.layout (c.loop-node._node + 1) o q) (sym now.walk)
          (descent_goes_on c.args.shared.now.layout c.loop-node._node o p q walk next.low next.high on
          (subst (λ (k : ℕ). Reads k walk.node p.view.log q.view.log on) (sym held.from) did.looks) did.leaf
          held.under_way c.if-walk-eq0.false now.raised now.lowered now.passed now.capped few
          (subst (λ (k : ℕ). OnwardTold p q k walk.node on.found on.side on.next) (sym held.from) did.told)
          (now.least held.under_way.least) (now.most held.under_way.most) now.below now.above);
      from = ap (λ (d : KeysWalk). d.from) now.walk ∙ held.from;
      on = goes_then o p q held.on did.on;
      only = only_then o p q held.only did.only;
    }

pub returns-clause-long : goal.returns-clause-long
returns-clause-long c some =
    let o = c.args.pass.now in
    let p = c.loop-node.pass in
    let held = c.loop-node.invariant in
    let inside = held.inside in
    let end = c.loop-node-test.false in
    let size = c.reach-node-end.ensures.reach in
    let layout = ap reach c.layout-layout.ensures in
    descent_too_long c.args.shared.now c.loop-node._node o p c.loop-node.walk c.args.from held.under_way held.from
    (pinned_in_still c.args.shared.now o p held.on c.requires.pinned) c.requires.key
    (omega (arith, inside, end, size, layout)) some
