use Rattle.std.proofs.Common.{ℕ, inl, subst}
use Rattle.nm_set.specs.NextKeys.{AskedNext}
use Rattle.nm_set_c.specs.MapEntries.{FindsEntry}
use Rattle.nm_set_c.specs.Owners.{HasDone}
use Rattle.nm_set_c.proofs.map_entries.next.Goals as goal

pub returns : goal.returns
unfolding HasDone
returns c = record {
  tells = inl (
    c.in-Some.ensures.0,
    subst (λ (k : ℕ). FindsEntry (λ b. AskedNext b.layout c.args.tries k) c.args.found.now c.tell_found.new.found
        c.args.value.now c.write_value.new.value c.args.member.now c.next_with_value-answer.new.self
        c.tell_found.result) c.in-Some.ensures.1 (record {
          answer = c.next_with_value-answer.result;
          told = c.tell_found.ensures.told;
          written = c.tell_found.ensures.written;
          tree = c.next_with_value-answer.ensures.tree;
          says = c.next_with_value-answer.ensures.says;
          there = c.next_with_value-answer.new.value;
          finds = c.next_with_value-answer.ensures.finds;
          valued = c.write_value.ensures;
        }),
  );
}
