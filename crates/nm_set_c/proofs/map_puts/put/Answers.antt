use Rattle.std.proofs.Common.{ℕ, inl, subst}
use Rattle.nm_set_c.specs.MapPuts.{PutsValue}
use Rattle.nm_set_c.specs.Owners.{HasDone}
use Rattle.nm_set_c.proofs.map_puts.put.Goals as goal

pub returns : goal.returns
unfolding HasDone
returns c = record {
  tells = inl (
    c.in-Some.ensures.0,
    subst (λ (k : ℕ). PutsValue c.args.condition c.args.options.now k c.args.value c.args.found.now
        c.write_found.new.found c.args.member.now c.put-done.new.self c.of_put.result) c.in-Some.ensures.1 (record {
          done = c.put-done.result;
          told = c.of_put.ensures;
          tree = c.put-done.ensures.tree;
          says = c.put-done.ensures.says;
          written = c.write_found.ensures;
        }),
  );
}
