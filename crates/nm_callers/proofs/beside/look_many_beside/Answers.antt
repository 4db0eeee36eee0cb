use Rattle.std.proofs.Common.{ap, ◌∙◌}
use Rattle.nm_edge.specs.Layouts.{Layout}
use Rattle.nm_callers.proofs.GettingOn.{many_interfered}
use Rattle.nm_callers.proofs.beside.look_many_beside.Goals as goal

pub returns : goal.returns
returns c busy =
    let radix = ap (λ (L : Layout). L.radix) c.requires.may.own.layout ∙ c.requires.radix in
    many_interfered _ _ c.args.tries radix c.has_many.ensures.past (c.has_many.ensures.interfered busy)
