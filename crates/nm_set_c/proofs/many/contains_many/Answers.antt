use Rattle.std.proofs.Common.{rules, ◌∙◌, inr, map, refl, ap}
use Rattle.std.specs.Prelude.{Ok}
use Rattle.nm_set_c.specs.Lookups.{lookup_of}
use Rattle.nm_set_c.specs.Owners.{HasDone}
use Rattle.nm_set_c.proofs.many.contains_many.Goals as goal

pub returns-in-Ok-ask : goal.returns-in-Ok-ask
unfolding HasDone
returns-in-Ok-ask c = inr (record {
  asked = c.in-Ok.queries.items;
  answered = c.ask.new.queries.items;
  keys = c.in-Ok.ensures.keys;
  answer = Ok c.in-Ok-ask.field-0;
  told = refl;
  tree = c.ask.ensures.tree;
  says = c.in-Ok-ask.ensures.says;
  written = c.write_answers.ensures ∙ ap (map lookup_of) (search rules);
  kept = tt;
})
