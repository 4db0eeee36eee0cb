use Rattle.std.proofs.Common.{◌<◌, ◌+◌, ◌*◌, ◌∙◌, ℕ, map, length, sym, ap, subst, arith}
use Rattle.std.proofs.Math.Nat.{add-mul}
use Rattle.std.proofs.lemmas.List.{length-map}
use Rattle.std.specs.Prelude.{All}
use Rattle.nm_edge.specs.declared.edge.Side.TheVariants.{Left}
use Rattle.nm_walks.specs.Bounds.{reach}
use Rattle.nm_calls.specs.InTurns.{AddsLooks, HasBegun, key_of, most_looks}
use Rattle.nm_calls.proofs.Adding.{mul_below}
use Rattle.nm_walks.proofs.GoingOn.{goes_then, only_then, pinned_in_still}
use Rattle.nm_calls.proofs.InTurnsLooks.{same_count, begun_so, all_in_all, passed_any, given_up}
use Rattle.nm_calls.proofs.PlainLooks.{look_added, looks_in, looks_then, not_shorter}
use Rattle.nm_calls.proofs.many.walk_all.Goals as goal

pub loop-turn-init : goal.loop-turn-init
loop-turn-init c =
    let o = c.args.pass.now in
    let q = c.look_edge.new.pass in
    let edge = c.look_edge.result in
    let some = c.reach-turn-end.ensures.some in
    let size = c.reach-turn-end.ensures.reach in
    let layout = ap reach c.layout-layout.ensures in
    record {
      inside = omega (arith, some, size, layout);
      looks = looks_in _ o.view.log q.view.log (omega arith) (look_added o q 2 Left edge c.look_edge.ensures.step);
      under_way = begun_so c.args.what (length o.view.log) o q
          (omega arith) edge c.look_edge.ensures.step c.look_edge.ensures.told c.begin_each.new.queries
          (subst (λ n. All (HasBegun n) c.begin_each.new.queries) c.slot-first.ensures c.begin_each.ensures.begun);
      keys = c.begin_each.ensures.keys;
      on = c.look_edge.ensures.on;
      only = c.look_edge.ensures.only;
    }

pub take_turns-requires-clause-under_way : goal.take_turns-requires-clause-under_way
take_turns-requires-clause-under_way c =
    let p = c.loop-turn.pass in
    let from = length c.args.pass.now.view.log in
    passed_any c.args.what 0 p c.loop-turn._turn c.loop-turn.queries
    (all_in_all c.args.what from c.loop-turn._turn p c.loop-turn.queries c.loop-turn.invariant.under_way)

pub loop-turn-preserved : goal.loop-turn-preserved
loop-turn-preserved c =
    let o = c.args.pass.now in
    let p = c.loop-turn.pass in
    let q = c.take_turns.new.pass in
    let held = c.loop-turn.invariant in
    let did = c.take_turns.ensures in
    let n = length c.args.queries.now in
    let below = c.loop-turn-test.true in
    let size = c.reach-turn-end.ensures.reach in
    let layout = ap reach c.layout-layout.ensures in
    let count = same_count c.loop-turn.queries c.args.queries.now held.keys in
    let more = add-mul c.loop-turn._turn 1 (3 * n) in
    record {
      inside = omega (arith, below, size, layout);
      looks = looks_in (1 + (c.loop-turn._turn + 1) * (3 * n)) o.view.log q.view.log (omega (arith, count, more))
          (looks_then o.view.log p.view.log q.view.log held.looks did.looks);
      under_way = did.under_way (length o.view.log) c.loop-turn._turn (not_shorter o p held.looks) held.under_way;
      keys = did.keys ∙ held.keys;
      on = goes_then o p q held.on did.on;
      only = only_then o p q held.only did.only;
    }

pub returns-clause-under_way : goal.returns-clause-under_way
returns-clause-under_way c =
    passed_any c.args.what (length c.args.pass.now.view.log) c.loop-turn.pass c.loop-turn._turn c.loop-turn.queries
    c.loop-turn.invariant.under_way

pub returns-then-have_ended-clause-under_way : goal.returns-then-have_ended-clause-under_way
returns-then-have_ended-clause-under_way c =
    passed_any c.args.what (length c.args.pass.now.view.log) c.loop-turn.pass c.loop-turn._turn c.loop-turn.queries
    c.loop-turn.invariant.under_way

pub returns-clause-given_up : goal.returns-clause-given_up
returns-clause-given_up c none =
    let o = c.args.pass.now in
    let p = c.loop-turn.pass in
    let held = c.loop-turn.invariant in
    let keys = map key_of c.args.queries.now in
    let n = length c.args.queries.now in
    let inside = held.inside in
    let end = c.loop-turn-test.false in
    let size = c.reach-turn-end.ensures.reach in
    let far = reach c.args.shared.now.layout in
    let layout = ap reach c.layout-layout.ensures in
    let below : c.loop-turn._turn < far = omega (arith, inside) in
    let few = mul_below c.loop-turn._turn far (3 * n) below in
    given_up c.args.what c.args.shared.now o.view.log p
    (pinned_in_still c.args.shared.now o p held.on c.requires.pinned) c.loop-turn._turn c.loop-turn.queries keys
    held.keys (all_in_all c.args.what (length o.view.log) c.loop-turn._turn p c.loop-turn.queries held.under_way)
    (c.have_ended-2.ensures.goes_on none)
    (omega (arith, inside, end, size, layout)) (subst (λ (m : ℕ). AddsLooks (most_looks far m) o.view.log p.view.log)
    (sym (length-map c.args.queries.now key_of)) (looks_in (most_looks far n) o.view.log p.view.log
    (omega (arith, few)) held.looks))
