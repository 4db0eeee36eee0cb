use Rattle.std.proofs.Common.{rules, ◌∙◌, inr, map, refl, ap, subst}
use Rattle.std.specs.Prelude.{Ok, Err}
use Rattle.nm_set.specs.declared.fault.PinnedGetFault.{PinnedGetFault}
use Rattle.nm_set.specs.declared.fault.PinnedGetFault.TheVariants as getting
use Rattle.nm_set.specs.Maps.{SaysPinnedGetMany}
use Rattle.nm_set_c.specs.Lookups.{map_lookup_of}
use Rattle.nm_set_c.specs.Owners.{HasDone}
use Rattle.nm_set_c.proofs.map_many.get_many_pinned.Goals as goal

pub returns-in-Ok-ask : goal.returns-in-Ok-ask
unfolding HasDone
returns-in-Ok-ask c = inr (record {
  asked = c.in-Ok.queries.items;
  answered = c.ask.new.queries.items;
  keys = c.in-Ok.ensures.keys;
  answer = Ok c.in-Ok-ask.field-0;
  told = refl;
  tree = c.ask.ensures.tree;
  says = c.in-Ok-ask.ensures.says;
  written = c.write_answers.ensures ∙ ap (map map_lookup_of) (search rules);
  kept = tt;
})

pub returns : goal.returns
unfolding HasDone
returns c = inr (record {
  asked = c.in-Ok.queries.items;
  answered = c.ask.new.queries.items;
  keys = c.in-Ok.ensures.keys;
  answer = Err getting.Busy;
  told = refl;
  tree = c.ask.ensures.tree;
  says = subst (λ (f : PinnedGetFault). SaysPinnedGetMany c.args.member.now.tree.layout c.in-Ok.queries.items
      c.ask.new.queries.items c.args.member.now.worker c.ask.new.member.worker (Err f)) c.in-Err-Busy.field-0-is
      c.in-Err-Busy.ensures.says;
  written = tt;
  kept = refl;
})
