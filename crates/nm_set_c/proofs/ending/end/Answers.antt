use Rattle.std.proofs.Common.{refl, inl}
use Rattle.std.specs.Prelude.{None}
use Rattle.nm_set_c.specs.Sets.{EndsOwned}
use Rattle.nm_set_c.proofs.ending.end.Goals as goal

pub returns-in-Ok : goal.returns-in-Ok
unfolding EndsOwned
returns-in-Ok c = inl (
  c.in-Set.set,
  c.in-Set.is,
  inl
      (refl, record { report = c.in-Ok.report; values = None }, refl, (c.in-Ok.ensures.says, refl)),
)
