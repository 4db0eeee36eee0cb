use Rattle.std.proofs.Common.{rules, ◌∙◌}
use Rattle.std.proofs.Math.Seq.{map-set_same}
use Rattle.std.proofs.lemmas.List.Elements.{AllWithin-more_set}
use Rattle.nm_calls.specs.InTurns.{HasBegun, key_of}
use Rattle.nm_calls.proofs.many.begin_each.Goals as goal

pub loop-index-preserved : goal.loop-index-preserved
loop-index-preserved c = record {
  begun = AllWithin-more_set c.loop-index.queries c.loop-index.index c.begun_at-begun.result (search rules)
      (HasBegun c.args.first) c.loop-index.invariant.begun c.begun_at-begun.ensures.begun;
  keys = map-set_same key_of c.loop-index.queries c.loop-index.index c.begun_at-begun.result
      c.index-queries-index.result (search rules) ∙ c.loop-index.invariant.keys;
}
