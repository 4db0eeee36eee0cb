use Rattle.std.proofs.Common.{◌≡◌, ℕ, rules}
use Rattle.std.specs.Prelude.{Some, slice_get}
use Rattle.nm_steps.proofs.Growing.{goes_on_itself}
use Rattle.nm_tree.specs.declared.map_closing.MapReport.{MapReport}
use Rattle.nm_set.specs.Ends.{SaysMapEnded}
use Rattle.nm_set.specs.Seats.{SetView}
use Rattle.nm_callers.specs.Returning.{IsLeftIn}
use Rattle.nm_callers.proofs.left_values.close_for_least.Goals as goal

-- the first key of a report has the first value
first_is_left : (s : SetView) (r : MapReport) (k v : ℕ) → SaysMapEnded s r → slice_get r.report.keys.items 0 ≡ Some k
    → slice_get r.values.keyed 0 ≡ Some v → IsLeftIn s k v
first_is_left s r k v ended key value =
    let c = ended.says in
    record {
      turns = c.says.turns;
      stores = c.stores;
      holds = record {
        until = c.says.turns;
        from = goes_on_itself c.says.turns;
        ends = goes_on_itself c.says.turns;
        held = c.held;
        linked = c.linked;
        swapped = c.swapped;
        order = c.order;
      };
      is = c.each 0 k v key value;
    }

pub returns : goal.returns
returns c = first_is_left c.args.map c.in-Ok.left c.in_ok-key.field-0.now c.in_ok-value.value c.in-Ok.ensures.says
    (search rules) (search rules)
