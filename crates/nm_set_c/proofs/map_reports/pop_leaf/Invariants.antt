use Rattle.std.proofs.Common.{◌≡◌, ◌++◌, List, length}
use Rattle.nm_epoch.specs.declared.collecting.Entry.{Entry}
use Rattle.nm_set_c.specs.MapReports.{AreNoLeaves}
use Rattle.nm_set_c.proofs.map_reports.pop_leaf.Given as goal

abbrev pub invariant-loop-entry : goal.invariant-loop-entry
invariant-loop-entry l = record {
  before : (es : List Entry) × (l.fn.held.queue.items ≡ es ++ l.held.queue.items) × AreNoLeaves l.values es;
  origin : l.held.origin ≡ l.fn.held.origin;
  counts : l.held.counts ≡ l.fn.held.counts;
}

abbrev pub decreases-loop-entry : goal.decreases-loop-entry
decreases-loop-entry l = length l.held.queue.items
