use Rattle.nm_laws.proofs.Shapes.{reachable_shaped}
use Rattle.nm_laws.proofs.Configurations.{reached_state, plain_reached, plain_outcome_kept, plain_ok_kept, ordered_reached, ordered_ok_kept, roomy_kept}
use Rattle.nm_core.proofs.pure_core.Core.apply.Goals as goal

pub apply-requires : goal.apply-requires
apply-requires c = reachable_shaped _ (reached_state _ c.self.invariant)

pub invariant_of-self : goal.invariant_of-self
invariant_of-self c = plain_reached c.self.inside.machine c.apply.new.self c.args.worker c.args.event c.apply.result
    c.self.inside.searches c.in-None.is c.read_key.ensures c.self.invariant c.apply.ensures.outcome
    c.apply.ensures.ok c.apply.ensures.err

pub apply-requires-in-Some-clause-shaped : goal.apply-requires-in-Some-clause-shaped
apply-requires-in-Some-clause-shaped c = reachable_shaped _ (reached_state _ c.self.invariant)

pub apply-requires-in-Some-clause-sized : goal.apply-requires-in-Some-clause-sized
apply-requires-in-Some-clause-sized c = roomy_kept c.self.inside.machine c.self.inside.searches c.in-Some.searches
    c.in-Some.is c.self.invariant

pub invariant_of-self-in-Some : goal.invariant_of-self-in-Some
invariant_of-self-in-Some c =
    let done = c.apply-in-Some.ensures in
    ordered_reached c.self.inside.machine c.apply-in-Some.new.machine c.args.worker c.args.event
    c.apply-in-Some.result c.self.inside.searches c.in-Some.searches c.apply-in-Some.new.self c.in-Some.is
    c.read_key.ensures c.self.invariant done.outcome done.state done.learned done.err_state done.err_told

pub returns-in-None-clause-outcome : goal.returns-in-None-clause-outcome
returns-in-None-clause-outcome c = rw (← c.self.view_is)
    (plain_outcome_kept c.self.inside.machine c.apply.new.self c.args.worker c.args.event c.apply.result
    c.self.inside.searches c.in-None.is c.apply.ensures.outcome)

pub returns-in-None-clause-ok : goal.returns-in-None-clause-ok
returns-in-None-clause-ok c = rw (← c.self.view_is)
    (plain_ok_kept c.self.inside.machine c.apply.new.self c.args.worker c.args.event c.apply.result
    c.self.inside.searches c.in-None.is c.apply.ensures.ok)

pub returns-in-Some-clause-ok : goal.returns-in-Some-clause-ok
returns-in-Some-clause-ok c =
    let done = c.apply-in-Some.ensures in
    rw (← c.self.view_is) (ordered_ok_kept c.self.inside.machine c.apply-in-Some.new.machine c.args.worker
    c.args.event c.apply-in-Some.result c.self.inside.searches c.in-Some.searches c.apply-in-Some.new.self
    c.in-Some.is done.state done.learned)
