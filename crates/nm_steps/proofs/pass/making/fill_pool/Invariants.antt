use Rattle.std.proofs.Common.{◌≡◌, ◌+◌}
use Rattle.nm_edge.specs.Layouts.{IsLayout}
use Rattle.nm_steps.specs.Packing.{words_of}
use Rattle.nm_steps.proofs.OpeningWords.{given_below}
use Rattle.nm_steps.proofs.pass.making.fill_pool.Given as goal

abbrev pub invariant-loop-slot : goal.invariant-loop-slot
invariant-loop-slot l = record {
  end : l.slot-end ≡ l.layout.nodes + 1;
  fits : IsLayout l.layout;
  words_are : l.tree.items ≡ words_of l.layout (given_below l.layout l.slot);
}
