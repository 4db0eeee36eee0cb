use Rattle.std.proofs.Common.{ℕ, inl, subst}
use Rattle.nm_set_c.specs.MapRemoves.{RemovesIf}
use Rattle.nm_set_c.specs.Owners.{HasDone}
use Rattle.nm_set_c.proofs.map_removing.remove_if.Goals as goal

pub returns : goal.returns
unfolding HasDone
returns c = record {
  tells = inl (
    c.in-Some.ensures.0,
    subst (λ (k : ℕ). RemovesIf c.args.options.now k c.args.expected c.args.found.now c.write_other.new.found
        c.args.member.now c.remove_if-done.new.self c.of_remove.result) c.in-Some.ensures.1 (record {
          done = c.remove_if-done.result;
          told = c.of_remove.ensures;
          tree = c.remove_if-done.ensures.tree;
          says = c.remove_if-done.ensures.says;
          written = c.write_other.ensures;
        }),
  );
}
