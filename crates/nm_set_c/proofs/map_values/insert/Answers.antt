use Rattle.std.proofs.Common.{ℕ, inl, subst}
use Rattle.nm_set_c.specs.Maps.{InsertsValue}
use Rattle.nm_set_c.specs.Owners.{HasDone}
use Rattle.nm_set_c.specs.Workers.{TellsAnswer}
use Rattle.nm_set_c.proofs.map_values.insert.Goals as goal

pub returns : goal.returns
unfolding HasDone
returns c = record {
  tells = inl (
    c.in-Some.ensures.0,
    subst (λ (k : ℕ). TellsAnswer (InsertsValue c.args.member.now.tree c.args.options.now k c.args.value)
        c.args.member.now c.insert.new.self c.of_answer.result) c.in-Some.ensures.1 (record {
          answer = c.insert.result;
          told = c.of_answer.ensures;
          tree = c.insert.ensures.tree;
          says = record { says = c.insert.ensures.says; puts = c.insert.ensures.puts };
        }),
  );
}
