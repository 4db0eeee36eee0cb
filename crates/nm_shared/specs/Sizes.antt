-- A set of a new size.
use Rattle.std.specs.Prelude.{◌↔◌, ℕ}
use Rattle.nm_edge.specs.Keys.{IsKey}
use Rattle.nm_model.specs.Acts.{InSet}
use Rattle.nm_model.specs.Headline.{words_after}
use Rattle.nm_set.specs.Ends.{SaysEnded}
use Rattle.nm_set.specs.Seats.{MemberView, SetView}
use Rattle.nm_tree.specs.declared.closing.Report.{Report}

-- after all turns of the old set, up to its end, it had exactly the keys that the new set has after
-- what its last member has seen, before any other member can act
pub record HasSameKeys (old : SetView) (r : Report) (m : MemberView) : Type 0 where
  pub ended : SaysEnded old r
  pub same : (k : ℕ) → IsKey k → InSet (words_after old.tree.layout ended.says.turns) k
      ↔ InSet (words_after m.worker.pass.view.layout m.worker.pass.view.past) k
