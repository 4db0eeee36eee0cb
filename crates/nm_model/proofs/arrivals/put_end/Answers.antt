use Rattle.std.proofs.Common.{rules, refl}
use Rattle.std.proofs.lemmas.List.Edits.{map_over_more}
use Rattle.nm_model.specs.Searches.{ended}
use Rattle.nm_model.proofs.Lists.{map_over_kept}
use Rattle.nm_model.proofs.arrivals.put_end.Goals.{then-goes_on_yet, else-goes_on_yet}
use Rattle.nm_model.proofs.arrivals.put_end.Goals as goal

pub loop-index-preserved : goal.loop-index-preserved
loop-index-preserved c = elim c.if-goes_on_yet.branch [
  | then-goes_on_yet w ↦ rw (w.arrivals-is, w.ended.ensures)
      (map_over_more (ended c.args.key c.args.slot c.args.side) c.args.arrivals.now.items c.loop-index.arrivals.items
      c.loop-index.index w.index-then-goes_on_yet.result.now (search rules) c.loop-index.invariant
      w.index-then-goes_on_yet.ensures)
  | else-goes_on_yet w ↦ rw w.arrivals-is (map_over_kept (ended c.args.key c.args.slot c.args.side)
      c.args.arrivals.now.items c.loop-index.arrivals.items c.loop-index.index c.index.result.now (search rules)
      c.loop-index.invariant c.index.ensures (w.if-goes_on_yet.ensures refl))
]
