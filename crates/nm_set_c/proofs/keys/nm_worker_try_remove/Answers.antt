use Rattle.std.proofs.Common.{rules}
use Rattle.std.specs.Prelude.{⊤}
use Rattle.nm_set_c.specs.Handles.{held_by}
use Rattle.nm_set_c.specs.Workers.{TellsTryRemove}
use Rattle.nm_set_c.specs.declared.owner.Owner.TheVariants.{Worker}
use Rattle.nm_set_c.proofs.Owners.{told, told_worker}
use Rattle.nm_set_c.proofs.keys.nm_worker_try_remove.Goals as goal

pub returns-in_default-new : goal.returns-in_default-new
returns-in_default-new c = search (rules, told_worker)

pub returns : goal.returns
returns c = record {
  tells = (
    c.of_answer-outcome.result,
    search rules,
    told Worker
        (TellsTryRemove c.args.tries c.args.key) ⊤ (held_by c.args.worker.now) (held_by c.put-2.new.self)
        c.in-Worker.member c.try_remove.new.self c.of_answer-outcome.result (search rules) (search rules)
        (search rules),
  );
}
