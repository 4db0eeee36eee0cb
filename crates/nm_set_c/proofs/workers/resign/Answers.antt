use Rattle.std.proofs.Common.{refl, inl, inr}
use Rattle.std.specs.Prelude.{⊤}
use Rattle.nm_set_c.specs.Workers.{TellsResign}
use Rattle.nm_set_c.specs.declared.outcome.Outcome.TheVariants.{Done}
use Rattle.nm_set_c.specs.declared.owner.Owner.TheVariants.{Worker}
use Rattle.nm_set_c.proofs.Owners.{does_owned}
use Rattle.nm_set_c.proofs.workers.resign.Goals as goal

pub returns-in-Ok : goal.returns-in-Ok
returns-in-Ok c = let d = (c.in-Ok.ensures).done in
    does_owned Worker (TellsResign c.args.leaver) ⊤ c.args.heir c.in-Worker.member c.in-Ok.heir Done c.in-Worker.is
    (inl (refl, d.0, d.1, d.2, d.3))

pub returns-in-Err : goal.returns-in-Err
returns-in-Err c =
    does_owned Worker (TellsResign c.args.leaver) ⊤ c.args.heir c.in-Worker.member c.in-Err.error.member
    c.of_staying.result c.in-Worker.is
    (inr (c.in-Err.error.reason, c.of_staying.ensures, (c.in-Err.ensures).reason, (c.in-Err.ensures).refused))
