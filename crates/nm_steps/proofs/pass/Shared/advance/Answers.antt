use Rattle.std.proofs.Common.{rules, arith, ◌≤◌}
use Rattle.nm_steps.specs.Rules.{knowledge, known_births}
use Rattle.nm_model.specs.Step.{last_number}
use Rattle.nm_steps.proofs.Asking.{advance_seen}
use Rattle.nm_steps.proofs.Noting.{tied_after, noted_moved, noted_behind, takes_step}
use Rattle.nm_steps.proofs.pass.Shared.advance.Goals as goal

pub unreachable-requires : goal.unreachable-requires
unreachable-requires c = absurd (let s = advance_seen _ _ _ (rw (← c.pass.view_is) at c.requires.may) in
    search (rules, s))

pub overflow_add-seen : goal.overflow_add-seen
overflow_add-seen c = let small : c.in-Some.seen ≤ last_number = search (rules, c.pass.invariant.small) in
    omega (arith, small)

pub overflow_add-pass : goal.overflow_add-pass
overflow_add-pass c = let small : c.in-Some.seen ≤ last_number = search (rules, c.pass.invariant.small) in
    omega (arith, small)

pub overflow_add-result : goal.overflow_add-result
overflow_add-result c = let small : c.in-Some.seen ≤ last_number = search (rules, c.pass.invariant.small) in
    omega (arith, small)

pub invariant_of-pass : goal.invariant_of-pass
invariant_of-pass c = tied_after _ _ _ _ _ _ _ _ c.pass.invariant (rw (← c.pass.view_is) at c.requires.may)
    c.exchange-found.ensures (noted_moved c.pass.inside.seat.me.0.layout (knowledge c.pass.inside.seat.me.0)
    (known_births c.pass.inside.seat.me.0) c.pass.inside.brief c.in-Some.seen c.exchange-found.result
    c.pass.invariant.brief_is (search rules) (search rules))

pub invariant_of-pass-else-found-seen : goal.invariant_of-pass-else-found-seen
invariant_of-pass-else-found-seen c = tied_after _ _ _ _ _ _ _ _ c.pass.invariant
    (rw (← c.pass.view_is) at c.requires.may) c.exchange-found.ensures
    (noted_behind c.pass.inside.seat.me.0.layout (knowledge c.pass.inside.seat.me.0)
    (known_births c.pass.inside.seat.me.0) c.pass.inside.brief c.in-Some.seen c.exchange-found.result
    c.pass.invariant.brief_is (search rules) (search rules))

pub returns-then-found-seen-clause-took : goal.returns-then-found-seen-clause-took
returns-then-found-seen-clause-took c = takes_step _ _ _ _ _ _ _ _ _ c.pass.invariant
    (rw (← c.pass.view_is) at c.requires.may) c.exchange-found.ensures (search rules) c.pass.view_is

pub returns-else-found-seen-clause-took : goal.returns-else-found-seen-clause-took
returns-else-found-seen-clause-took c = takes_step _ _ _ _ _ _ _ _ _ c.pass.invariant
    (rw (← c.pass.view_is) at c.requires.may) c.exchange-found.ensures (search rules) c.pass.view_is
