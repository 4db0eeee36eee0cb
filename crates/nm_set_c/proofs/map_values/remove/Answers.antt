use Rattle.std.proofs.Common.{ℕ, inl, subst}
use Rattle.nm_set_c.specs.Maps.{TakesValue}
use Rattle.nm_set_c.specs.Owners.{HasDone}
use Rattle.nm_set_c.proofs.map_values.remove.Goals as goal

pub returns : goal.returns
unfolding HasDone
returns c = record {
  tells = inl (
    c.in-Some.ensures.0,
    subst (λ (k : ℕ). TakesValue c.args.options.now k c.args.value.now c.write_taken.new.value c.args.member.now
        c.remove-answer.new.self c.of_answer.result) c.in-Some.ensures.1 (record {
          answer = c.remove-answer.result;
          told = c.of_answer.ensures;
          tree = c.remove-answer.ensures.tree;
          says = c.remove-answer.ensures.says;
          taken = c.remove-answer.new.taken;
          takes = c.remove-answer.ensures.takes;
          written = c.write_taken.ensures;
        }),
  );
}
