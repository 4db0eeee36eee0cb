use Rattle.std.proofs.Common.{refl}
use Rattle.nm_set.specs.Ends.{set_of}
use Rattle.nm_callers.proofs.OneMember.{reported}
use Rattle.nm_callers.proofs.sets.end_by.Goals as goal

pub returns-in-Ok : goal.returns-in-Ok
returns-in-Ok c =
    reported (set_of c.args.member) c.args.member.worker c.args.key c.in-Ok.report refl c.requires.one
    c.know_run.ensures.own c.know_run.ensures.turns c.requires.added c.in-Ok.ensures.says
