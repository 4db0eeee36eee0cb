use Rattle.std.proofs.Common.{◌≡◌, ◌≤◌, [], length}
use Rattle.nm_edge.specs.Layouts.{IsLayout}
use Rattle.nm_edge.specs.Words.{words}
use Rattle.nm_steps.specs.Steps.{AreFresh}
use Rattle.nm_steps.specs.Values.{HasValuesIf}
use Rattle.nm_steps.proofs.Cutting.{left_from}
use Rattle.nm_steps.proofs.pass.making.dealt.Given as goal

abbrev pub invariant-loop-number : goal.invariant-loop-number
invariant-loop-number l = record {
  end : l.workers ≡ l.layout.workers;
  fits : IsLayout l.layout;
  table : l.seat.table_id ≡ l.table.shared.table_id;
  key : l.table.shared.key ≡ l.layout;
  words_are : words l.layout ≤ l.table.shared.table_id.words;
  kind : HasValuesIf l.values (record { table = l.table.shared.table_id; layout = l.layout });
  same_table : l.table.shared.table_id ≡ l.fn.table.shared.table_id;
  view : l.seat.me.0 ≡ left_from l.layout l.number;
  empty : l.seat.me.1 ≡ [];
  count : length l.passes.items ≡ l.number;
  fresh : AreFresh (record { table = l.table.shared.table_id; layout = l.layout }) 0 l.passes.items;
}
