use Rattle.std.proofs.Common.{ℕ, subst}
use Rattle.nm_steps.specs.Values.{SawLeft, no_step}
use Rattle.nm_steps.proofs.ValueSteps.{asked_to_look_left, can_left_by_key}
use Rattle.nm_steps.proofs.pass.Shared.look_at_left.Goals as goal

pub load-requires : goal.load-requires
load-requires g c = asked_to_look_left _ _ _ _ _ _ c.requires.pick
    (can_left_by_key _ _ _ _ _ _ c.self.invariant.laid (rw (← c.self.view_is) at c.requires.can))

pub returns : goal.returns
returns g c = record {
  table = c.load.ensures.0;
  seat = c.load.ensures.1;
  saw = subst (λ (x : ℕ). SawLeft x no_step c.args.seat.now.me c.load.result c.load.new.seat.me) c.requires.pick
      c.load.ensures.2;
}
