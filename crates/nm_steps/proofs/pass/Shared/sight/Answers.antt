use Rattle.std.proofs.Common.{rules}
use Rattle.nm_steps.proofs.Noting.{ready, tied_after, may_sight, takes_step}
use Rattle.nm_steps.specs.Rules.{knowledge}
use Rattle.nm_steps.specs.Steps.{sight_reply}
use Rattle.nm_steps.proofs.Sighting.{sight_answers}
use Rattle.nm_steps.proofs.pass.Shared.sight.Goals as goal

pub load-found-requires-clause-ready : goal.load-found-requires-clause-ready
load-found-requires-clause-ready c = rw (← c.self.view_is)
    (ready _ _ _ _ _ _ _ _ _ c.self.invariant.laid c.pass.invariant (search rules) (search rules) (may_sight _ _ _)
    c.epoch-word.ensures tt)

pub invariant_of-pass : goal.invariant_of-pass
invariant_of-pass c = tied_after _ _ _ _ _ _ _ _ c.pass.invariant (may_sight _ _ _) c.load-found.ensures (search rules)

pub returns-clause-reply : goal.returns-clause-reply
returns-clause-reply c = sight_answers _ _ _ c.pass.inside.brief c.note_sight.new.brief
    (knowledge c.args.pass.now.view).brief (sight_reply c.sighted-reply.result) c.load-found.result
    (tied_after _ _ _ _ _ c.note_sight.new.brief _ _ c.pass.invariant (may_sight _ _ _) c.load-found.ensures
    (search rules)) c.note_sight.ensures c.sighted-reply.ensures (search rules)

pub returns-clause-took : goal.returns-clause-took
returns-clause-took c = takes_step _ _ _ _ _ _ _ _ _ c.pass.invariant (may_sight _ _ _) c.load-found.ensures
    (search rules) c.pass.view_is
