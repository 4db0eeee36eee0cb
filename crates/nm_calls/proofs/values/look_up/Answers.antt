use Rattle.std.proofs.Common.{◌≡◌, ◌≤◌, ℕ, [], length, ap, subst, sym, arith}
use Rattle.nm_edge.specs.Layouts.{IsLayout, Layout}
use Rattle.nm_model.specs.Walks.{WalkEnds, since_pin}
use Rattle.nm_steps.specs.Steps.{PassView}
use Rattle.nm_walks.proofs.GoingOn.{own_still}
use Rattle.nm_calls.specs.PlainWalks.{after_entries}
use Rattle.nm_calls.proofs.NearValues.{read_later}
use Rattle.nm_calls.proofs.values.look_up.Goals as goal

pub returns-clause-found : goal.returns-clause-found
returns-clause-found c =
    let o = c.args.pass.now in
    let p = c.find_leaf.new.pass in
    let q = c.look_value-value.new.pass in
    let k = c.args.key in
    let n = length o.view.log in
    let leaf = c.in-Some.leaf in
    let ended = c.in-Some.ensures.ended in
    let looks = c.look_value-value.ensures.looks in
    let walk = subst (λ (v : ℕ). WalkEnds k (since_pin [] (after_entries n p).view.log) leaf.slot ended.parent
    ended.side v)
    c.if-leaf-key.false ended.walk in
    let same = c.find_leaf.ensures.on.same in
    let layout : IsLayout p.view.layout = subst (λ (x : PassView). IsLayout x.view.layout) (sym same)
    c.requires.pinned.run.fits in
    let fits = subst (λ (x : PassView). IsLayout x.view.layout) (sym looks.same) layout in
    read_later n p q (ap (λ (x : PassView). x.view.log) looks.same) fits k leaf.slot c.look_value-value.result
    c.requires.key (ended.parent, ended.side, walk) looks.seen c.look_value-value.ensures.value

pub look_value-value-requires-clause-own : goal.look_value-value-requires-clause-own
look_value-value-requires-clause-own c = own_still c.args.shared.now c.args.pass.now c.find_leaf.new.pass
    c.requires.pinned.own c.find_leaf.ensures.on.same

pub look_value-value-requires-clause-slot : goal.look_value-value-requires-clause-slot
look_value-value-requires-clause-slot c =
    let own = own_still c.args.shared.now c.args.pass.now c.find_leaf.new.pass c.requires.pinned.own
    c.find_leaf.ensures.on.same in
    let leaf = c.in-Some.leaf in
    let same : leaf.key ≡ c.args.key = c.if-leaf-key.false in
    let le = c.requires.key in
    let high = c.in-Some.ensures.ended.high (omega (arith, same, le)) in
    (omega (arith, high), subst (λ (L : Layout). leaf.slot ≤ L.nodes) own.layout c.in-Some.ensures.ended.within)
