use Rattle.std.proofs.Common.{ap, ◌∙◌}
use Rattle.nm_edge.specs.Layouts.{Layout}
use Rattle.nm_callers.proofs.GettingOn.{near_interfered}
use Rattle.nm_callers.proofs.beside.prev_beside.Goals as goal

pub returns : goal.returns
returns c busy =
    let radix = ap (λ (L : Layout). L.radix) c.requires.may.own.layout ∙ c.requires.radix in
    near_interfered _ _ c.args.tries radix c.prev.ensures.past (c.prev.ensures.interfered busy)
