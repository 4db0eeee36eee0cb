use Rattle.std.proofs.Common.{[], ◌∷◌, ℕ, length, subst}
use Rattle.std.specs.Prelude.{IfErr}
use Rattle.std.proofs.lemmas.Result.{IfOk-weaker}
use Rattle.nm_edge.specs.Keys.{IsKey}
use Rattle.nm_calls.specs.InTurns.{GiveUp}
use Rattle.nm_calls.specs.Maps.{HasLookedUp, MapGaveUnderPin}
use Rattle.nm_calls.proofs.MapMoments.{mapped_under_pin}
use Rattle.nm_calls.proofs.values.get_pinned.Goals as goal

pub returns : goal.returns
returns c =
    let p = c.args.pass.now in
    let q = c.look_up-answer.new.pass in
    let r = c.look_up-answer.result in
    let k = c.args.key in
    let same = c.get.ensures.number in
    let is_key = subst IsKey same c.get.ensures.fits in
    record {
      on = c.look_up-answer.ensures.on;
      only = c.look_up-answer.ensures.only;
      looks = c.look_up-answer.ensures.looks;
      moment = IfOk-weaker r _ (MapGaveUnderPin p q k)
          (λ found h. mapped_under_pin p q c.know_run.ensures.seen c.know_run-2.ensures.fits
          c.look_up-answer.ensures.on.same c.look_up-answer.ensures.on.past k is_key c.know_run-2.ensures.seen found
          (subst (λ (j : ℕ). HasLookedUp (length p.view.log) q j found) same h)) c.look_up-answer.ensures.found;
      busy = c.look_up-answer.ensures.busy;
      missed = subst (λ (j : ℕ). IfErr r (λ e. GiveUp c.args.shared.now.layout (j ∷ []) p.view.log q.view.log)) same
          c.look_up-answer.ensures.missed;
    }
