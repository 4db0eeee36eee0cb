use Rattle.std.proofs.Common.{rules, arith, ◌≤◌}
use Rattle.nm_model.specs.Step.{last_number}
use Rattle.nm_steps.proofs.Asking.{announce_seen}
use Rattle.nm_steps.proofs.Noting.{ready, announcement_in, tied_after, takes_step}
use Rattle.nm_steps.proofs.pass.Shared.announce.Goals as goal

pub unreachable-requires : goal.unreachable-requires
unreachable-requires c = absurd (let s = announce_seen _ _ _ (rw (← c.pass.view_is) at c.requires.may) in
    search (rules, s))

pub overflow_add-seen : goal.overflow_add-seen
overflow_add-seen c = let small : c.in-Some.seen ≤ last_number = search (rules, c.pass.invariant.small) in
    omega (arith, small)

pub store-requires-clause-ready : goal.store-requires-clause-ready
store-requires-clause-ready c = rw (← c.self.view_is)
    (ready _ _ _ _ _ _ _ _ _ c.self.invariant.laid c.pass.invariant (search rules) (search rules)
    (rw (← c.pass.view_is) at c.requires.may) (announcement_in c.self.inside.layout c.pass.inside.seat
    c.pass.inside.number c.pass.inside.announcement_word c.pass.inside.brief c.pass.invariant (search rules)) tt)

pub invariant_of-pass : goal.invariant_of-pass
invariant_of-pass c = tied_after _ _ _ _ _ _ _ _ c.pass.invariant (rw (← c.pass.view_is) at c.requires.may)
    c.store.ensures (search rules)

pub returns : goal.returns
returns c = takes_step _ _ _ _ _ _ _ _ _ c.pass.invariant (rw (← c.pass.view_is) at c.requires.may) c.store.ensures
    (search rules) c.pass.view_is
