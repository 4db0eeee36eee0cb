use Rattle.std.proofs.Common.{◌≤◌, ◌+◌, ◌*◌, ◌∙◌, ℕ, false, [], ◌∷◌, length, refl, sym, ap, subst, arith}
use Rattle.nm_edge.specs.Layouts.{Layout}
use Rattle.nm_edge.specs.declared.edge.Side.TheVariants.{Left}
use Rattle.nm_order.specs.Facts.Fact.{KnowsSlot}
use Rattle.nm_walks.specs.Bounds.{reach}
use Rattle.nm_walks.specs.Telling.{Tells}
use Rattle.nm_walks.proofs.GoingOn.{goes_then, own_still, only_then, pinned_in_still}
use Rattle.nm_walks.proofs.PlainLooks.{read_added}
use Rattle.nm_calls.specs.PlainWalks.{HasPassed, after_entries}
use Rattle.nm_calls.proofs.MapMoments.{ends_at}
use Rattle.nm_calls.proofs.PlainLooks.{comes_first_after, comes_on, look_added, looks_in, looks_then, not_shorter, passed_in_all, reads_after}
use Rattle.nm_calls.specs.declared.many.Query.{Query}
use Rattle.nm_calls.specs.declared.scan_plan.What.TheVariants.{Keys}
use Rattle.nm_calls.specs.InTurns.{IsUnderWay}
use Rattle.nm_calls.proofs.InTurnsLooks.{given_up, one_of}
use Rattle.nm_calls.proofs.values.find_leaf.Goals as goal

pub loop-node-init : goal.loop-node-init
loop-node-init c =
    let o = c.args.pass.now in
    let q = c.look_edge.new.pass in
    let edge = c.look_edge.result in
    let did = c.look_edge.ensures in
    let some = c.reach-node-end.ensures.some in
    let size = c.reach-node-end.ensures.reach in
    let layout = ap reach c.layout-layout.ensures in
    let there = did.told.root refl refl in
    record {
      inside = omega (arith, some, size, layout);
      some = λ none. there (sym c.slot-node.ensures ∙ none);
      looks = looks_in _ o.view.log q.view.log (omega arith) (look_added o q 2 Left edge did.step);
      came = subst (HasPassed 0 (after_entries (length o.view.log) q).view.log c.args.key) (sym c.slot-node.ensures)
          (comes_first_after (length o.view.log) o q edge did.step (omega arith) there c.args.key);
      known = subst (λ (n : ℕ). Tells q (KnowsSlot n)) (sym c.slot-node.ensures) (did.told.learned.leads there);
      within = subst (λ (n : ℕ). n ≤ c.args.shared.now.layout.nodes) (sym c.slot-node.ensures)
          (subst (λ (L : Layout). edge.slot ≤ L.nodes) c.requires.pinned.own.layout did.told.within);
      on = did.on;
      only = did.only;
    }

pub read_node-on-requires-clause-pinned : goal.read_node-on-requires-clause-pinned
read_node-on-requires-clause-pinned c = pinned_in_still c.args.shared.now c.args.pass.now c.loop-node.pass
    c.loop-node.invariant.on c.requires.pinned

pub loop-node-preserved : goal.loop-node-preserved
loop-node-preserved c =
    let o = c.args.pass.now in
    let p = c.loop-node.pass in
    let q = c.read_node-on.new.pass in
    let x = c.loop-node.node in
    let on = c.read_node-on.result in
    let held = c.loop-node.invariant in
    let did = c.read_node-on.ensures in
    let below = c.loop-node-test.true in
    let size = c.reach-node-end.ensures.reach in
    let layout = ap reach c.layout-layout.ensures in
    let some = c.is_null.ensures.no c.if-is_null.false in
    let from = length o.view.log in
    record {
      inside = omega (arith, below, size, layout);
      some = λ none. some (sym c.slot-node-in-loop-node.ensures ∙ none);
      looks = looks_in (1 + (c.loop-node._node + 1) * (3 * 1)) o.view.log q.view.log (omega arith)
          (looks_then o.view.log p.view.log q.view.log held.looks
          (read_added c.args.key x p.view.log q.view.log on did.looks));
      came = subst (HasPassed (c.loop-node._node + 1) (after_entries from q).view.log c.args.key)
          (sym c.slot-node-in-loop-node.ensures)
          (comes_on (after_entries from p) (after_entries from q) c.loop-node._node c.args.key x on
          (reads_after from c.args.key x p.view.log q.view.log on (not_shorter o p held.looks) did.looks) held.came
          some);
      known = subst (λ (n : ℕ). Tells q (KnowsSlot n)) (sym c.slot-node-in-loop-node.ensures)
          (did.told.learned.leads some);
      within = subst (λ (n : ℕ). n ≤ c.args.shared.now.layout.nodes) (sym c.slot-node-in-loop-node.ensures) did.within;
      on = goes_then o p q held.on did.on;
      only = only_then o p q held.only did.only;
    }

pub returns-then-is_null : goal.returns-then-is_null
returns-then-is_null c =
    let o = c.args.pass.now in
    let p = c.loop-node.pass in
    let q = c.read_node-on.new.pass in
    let x = c.loop-node.node in
    let on = c.read_node-on.result in
    let held = c.loop-node.invariant in
    let did = c.read_node-on.ensures in
    let below = c.loop-node-test.true in
    let size = c.reach-node-end.ensures.reach in
    let layout = ap reach c.layout-layout.ensures in
    let went = goes_then o p q held.on did.on in
    let from = length o.view.log in
    record {
      looks = looks_in _ o.view.log q.view.log (omega (arith, below, size, layout))
          (looks_then o.view.log p.view.log q.view.log held.looks
          (read_added c.args.key x p.view.log q.view.log on did.looks));
      ended = record {
        parent = held.came.0;
        side = held.came.1;
        walk = ends_at (after_entries from p) (after_entries from q) c.loop-node._node c.args.key x on
            (reads_after from c.args.key x p.view.log q.view.log on (not_shorter o p held.looks) did.looks) held.came
            (c.is_null.ensures.yes c.if-is_null.true);
        high = did.told.high;
        within = subst (λ (L : Layout). x ≤ L.nodes) (sym
            (own_still c.args.shared.now o q c.requires.pinned.own went.same).layout) held.within;
      };
      gave = tt;
      on = went;
      only = only_then o p q held.only did.only;
    }

pub returns-clause-gave : goal.returns-clause-gave
returns-clause-gave c =
    let o = c.args.pass.now in
    let p = c.loop-node.pass in
    let k = c.args.key in
    let x = c.loop-node.node in
    let held = c.loop-node.invariant in
    let inside = held.inside in
    let end = c.loop-node-test.false in
    let size = c.reach-node-end.ensures.reach in
    let layout = ap reach c.layout-layout.ensures in
    let query : Query = record { key = k; found = false; value = 0; node = x } in
    let came = passed_in_all (length o.view.log) c.loop-node._node k x p.view.log held.came in
    let under : IsUnderWay Keys 0 c.loop-node._node p query =
    record {
      is_key = c.requires.key;
      comes = λ some. came;
      known = λ some. held.known;
      ends =
          λ none. absurd (held.some none);
      leaf = λ values none. absurd (held.some none);
    } in
    given_up Keys c.args.shared.now o.view.log p
    (pinned_in_still c.args.shared.now o p held.on c.requires.pinned) c.loop-node._node (query ∷ []) (k ∷ []) refl
    (one_of (IsUnderWay Keys 0 c.loop-node._node p) query under) (0, omega arith, λ _. held.some)
    (omega (arith, inside, end, size, layout)) (looks_in _ o.view.log p.view.log (omega (arith, inside)) held.looks)
