use Rattle.std.proofs.Common.{subst, ℕ}
use Rattle.std.proofs.lemmas.Result.{IfOk-weaker, IfErr-weaker}
use Rattle.nm_edge.specs.Keys.{IsKey}
use Rattle.nm_calls.specs.NearKeys.{GiveUp, IsNearBy, WasNear}
use Rattle.nm_calls.specs.PlainWalks.{HasEndedSo, WasSo}
use Rattle.nm_calls.proofs.NearLooks.{near_by}
use Rattle.nm_calls.proofs.NearValues.{near_was}
use Rattle.nm_calls.proofs.PlainLooks.{after_no_pin, after_walks, may_end, was_so}
use Rattle.nm_calls.proofs.near_key.nearest_with_value.Goals as goal

pub returns-in_default-clause-after : goal.returns-in_default-clause-after
returns-in_default-clause-after c =
    after_no_pin c.args.side c.args.shared.now.layout c.args.tries c.args.key c.args.pass.now c.pin.new.pass
    c.if-tries-eq0.false
    c.pin.ensures.on c.in_default.ensures.moved c.in_default.ensures.rests c.pin.ensures.hands

pub unpin-requires-clause-may : goal.unpin-requires-clause-may
unpin-requires-clause-may c = may_end c.in-Ok._epoch c.pin.new.pass c.walk_on_and_read-found.new.pass
    c.in-Ok.ensures.at c.walk_on_and_read-found.ensures.only

pub returns-clause-after : goal.returns-clause-after
returns-clause-after c =
    let L = c.args.shared.now.layout in
    let side = c.args.side in
    let o = c.args.pass.now in
    let a = c.pin.new.pass in
    let p = c.walk_on_and_read-found.new.pass in
    let q = c.unpin.new.pass in
    let r = c.walk_on_and_read-found.result in
    let on = c.walk_on_and_read-found.ensures.on in
    let so = was_so o a p q c.know_run.ensures.seen c.know_run.ensures.fits c.requires.rests.unpinned
    c.pin.ensures.on on c.know_run-2.ensures.seen c.unpin.ensures.took in
    let is_key = subst IsKey c.get.ensures.number c.get.ensures.fits in
    let moment = IfOk-weaker r _ (λ found. WasNear side o q c.args.key found)
    (λ found n. near_by side (HasEndedSo p) (WasSo o q) so c.args.key is_key found
    (subst (λ (k : ℕ). IsNearBy side (HasEndedSo p) k found) c.get.ensures.number n))
    c.walk_on_and_read-found.ensures.near in
    let gives = IfErr-weaker r _ (λ e. GiveUp side L c.args.tries c.args.key a.view.log p.view.log)
    (λ e gives. subst (λ (k : ℕ). GiveUp side L c.args.tries k a.view.log p.view.log) c.get.ensures.number
    gives) c.walk_on_and_read-found.ensures.given_up in
    after_walks side L c.args.tries c.args.key c.in-Ok._epoch o a p q r c.pin.ensures.on c.in-Ok.ensures.pinned
    c.pin.ensures.hands on c.walk_on_and_read-found.ensures.only c.walk_on_and_read-found.ensures.looks
    c.unpin.ensures.took c.unpin.ensures.rests c.unpin.ensures.hands moment gives c.walk_on_and_read-found.ensures.busy

pub returns-clause-finds : goal.returns-clause-finds
returns-clause-finds c =
    near_was c.args.pass.now c.pin.new.pass c.walk_on_and_read-found.new.pass c.unpin.new.pass
    c.know_run.ensures.seen c.know_run.ensures.fits c.requires.rests.unpinned c.pin.ensures.on
    c.walk_on_and_read-found.ensures.on c.unpin.ensures.took c.args.side c.get.result
    c.walk_on_and_read-found.new.value c.walk_on_and_read-found.result
    c.walk_on_and_read-found.ensures.near c.walk_on_and_read-found.ensures.read
