-- The report's keys are those of the old set, and those of the new one.
use Rattle.std.proofs.Common.{ℕ, arith}
use Rattle.nm_edge.specs.declared.placement.Fit.{Fit}
use Rattle.nm_steps.specs.Steps.{TreeView}
use Rattle.nm_set.specs.Ends.{SaysEnded}
use Rattle.nm_set.specs.Filling.{HasFilled}
use Rattle.nm_set.specs.Seats.{MemberView, SetView}
use Rattle.nm_tree.specs.declared.closing.Report.{Report}
use Rattle.nm_shared.specs.Sizes.{HasSameKeys}

pub same_keys : (old : SetView) (r : Report) (b : TreeView) (f : Fit) (n : ℕ) (m : MemberView) → SaysEnded old r
    → HasFilled b f n r.keys.items m → HasSameKeys old r m
same_keys old r b f n m ended filled = record {
  ended = ended;
  same = λ k key. (
    λ there. (filled.holds k key).1 ((ended.says.headline.set k).1 (there, omega (arith, key))),
    λ there. ((ended.says.headline.set k).0 ((filled.holds k key).0 there)).0,
  );
}
