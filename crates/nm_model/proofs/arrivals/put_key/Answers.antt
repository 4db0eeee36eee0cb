use Rattle.std.proofs.Common.{rules, refl}
use Rattle.std.proofs.lemmas.List.Edits.{map_over_more}
use Rattle.nm_model.specs.Searches.{keyed}
use Rattle.nm_model.proofs.Lists.{map_over_kept}
use Rattle.nm_model.proofs.arrivals.put_key.Goals.{then-waits_at, else-waits_at}
use Rattle.nm_model.proofs.arrivals.put_key.Goals as goal

pub loop-index-preserved : goal.loop-index-preserved
loop-index-preserved c = elim c.if-waits_at.branch [
  | then-waits_at w ↦ rw (w.arrivals-is, w.keyed.ensures)
      (map_over_more (keyed c.args.slot c.args.key) c.args.arrivals.now.items c.loop-index.arrivals.items
      c.loop-index.index w.index-then-waits_at.result.now (search rules) c.loop-index.invariant
      w.index-then-waits_at.ensures)
  | else-waits_at w ↦ rw w.arrivals-is (map_over_kept (keyed c.args.slot c.args.key) c.args.arrivals.now.items
      c.loop-index.arrivals.items c.loop-index.index c.index.result.now (search rules) c.loop-index.invariant
      c.index.ensures (w.if-waits_at.ensures.stays c.args.key refl))
]
