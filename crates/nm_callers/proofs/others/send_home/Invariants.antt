use Rattle.std.proofs.Common.{◌≡◌, ◌+◌, ◌<◌, ℕ, [], length}
use Rattle.nm_order.specs.Logs.{part_of}
use Rattle.nm_edge.specs.declared.placement.Fit.{Fit}
use Rattle.nm_set.specs.Seats.{AreNewMembers}
use Rattle.nm_callers.proofs.others.send_home.Given as goal

abbrev pub invariant-loop-other : goal.invariant-loop-other
invariant-loop-other l = record {
  same : l.member ≡ l.fn.member;
  left : (n : ℕ) × (f : Fit) × AreNewMembers l.fn.member.tree f n l.other-iterator.rest.items
      × (n + length l.other-iterator.rest.items ≡ length l.fn.others.items)
      × ((i : ℕ) → i < n → part_of i l.fn.member.worker.pass.view.past ≡ []);
}
