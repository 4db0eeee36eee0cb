use Rattle.std.proofs.Common.{refl, inl}
use Rattle.std.specs.Prelude.{Some}
use Rattle.nm_set_c.specs.Sets.{EndsOwned}
use Rattle.nm_set_c.proofs.maps.end.Goals as goal

pub returns-in-Ok : goal.returns-in-Ok
unfolding EndsOwned
returns-in-Ok c = inl (
  c.in-Map.map,
  c.in-Map.is,
  inl (
    refl,
    record { report = c.in-Ok.left.report; values = Some c.in-Ok.left.values },
    refl,
    (c.in-Ok.left.values, refl, c.in-Ok.ensures.says),
  ),
)
