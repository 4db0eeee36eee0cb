use Rattle.std.proofs.Common.{[], ◌∷◌, length, subst, ℕ}
use Rattle.std.specs.Prelude.{IfErr}
use Rattle.std.proofs.lemmas.Result.{IfOk-weaker}
use Rattle.nm_edge.specs.Keys.{IsKey}
use Rattle.nm_calls.specs.InTurns.{GiveUp}
use Rattle.nm_calls.specs.Maps.{HasLookedUp, WasMapped}
use Rattle.nm_calls.proofs.MapMoments.{get_after_walk, get_without_pin, was_mapped}
use Rattle.nm_calls.proofs.PlainLooks.{may_end}
use Rattle.nm_calls.proofs.values.get.Goals as goal

pub returns-in_default : goal.returns-in_default
returns-in_default c = get_without_pin c.args.shared.now.layout c.args.tries c.args.key c.args.pass.now
    c.pin.new.pass c.if-tries-eq0.false c.pin.ensures.on c.in_default.ensures.moved c.in_default.ensures.rests
    c.pin.ensures.hands

pub unpin-requires-clause-may : goal.unpin-requires-clause-may
unpin-requires-clause-may c = may_end c.in-Ok._epoch c.pin.new.pass c.look_up-found.new.pass c.in-Ok.ensures.at
    c.look_up-found.ensures.only

pub returns : goal.returns
returns c =
    let o = c.args.pass.now in
    let a = c.pin.new.pass in
    let p = c.look_up-found.new.pass in
    let q = c.unpin.new.pass in
    let r = c.look_up-found.result in
    let on = c.look_up-found.ensures.on in
    let k = c.args.key in
    let is_key = subst IsKey c.get.ensures.number c.get.ensures.fits in
    let moment = IfOk-weaker r _ (WasMapped q.view.layout o.view.past q.view.past q.view.stores q.view.number k)
    (λ found h. was_mapped o a p c.know_run.ensures.seen c.know_run.ensures.fits c.requires.rests.unpinned
    c.pin.ensures.on on k is_key q c.unpin.ensures.took c.know_run-2.ensures.seen (length a.view.log) found
    (subst (λ (j : ℕ). HasLookedUp (length a.view.log) p j found) c.get.ensures.number h))
    c.look_up-found.ensures.found in
    get_after_walk c.args.shared.now.layout c.args.tries k c.in-Ok._epoch o a p q r c.pin.ensures.on
    c.in-Ok.ensures.pinned c.pin.ensures.hands on c.look_up-found.ensures.only c.look_up-found.ensures.looks
    c.unpin.ensures.took c.unpin.ensures.rests c.unpin.ensures.hands moment
    (subst (λ (j : ℕ). IfErr r (λ e. GiveUp c.args.shared.now.layout (j ∷ []) a.view.log p.view.log))
    c.get.ensures.number c.look_up-found.ensures.missed) c.look_up-found.ensures.busy
