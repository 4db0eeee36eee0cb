use Rattle.std.proofs.Common.{ℕ, inl, subst}
use Rattle.nm_set_c.specs.Maps.{FindsOrInserts}
use Rattle.nm_set_c.specs.Owners.{HasDone}
use Rattle.nm_set_c.proofs.map_values.get_or_insert.Goals as goal

pub returns : goal.returns
unfolding HasDone
returns c = record {
  tells = inl (
    c.in-Some.ensures.0,
    subst (λ (k : ℕ). FindsOrInserts c.args.options.now k c.args.value c.args.found.now c.write_there.new.found
        c.args.member.now c.insert-answer.new.self c.of_answer.result) c.in-Some.ensures.1 (record {
          answer = c.insert-answer.result;
          told = c.of_answer.ensures;
          tree = c.insert-answer.ensures.tree;
          says = record { says = c.insert-answer.ensures.says; puts = c.insert-answer.ensures.puts };
          there = c.insert-answer.new.found;
          finds = c.insert-answer.ensures.finds;
          written = c.write_there.ensures;
        }),
  );
}
