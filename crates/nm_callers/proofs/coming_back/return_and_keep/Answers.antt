use Rattle.std.proofs.Common.{◌∙◌, ◌∷◌, ◌++◌, [], ap}
use Rattle.nm_tree.specs.Workers.{WorkerView}
use Rattle.nm_callers.proofs.ClosedMembers.{came_back_same}
use Rattle.nm_callers.proofs.coming_back.return_and_keep.Goals as goal

pub returns : goal.returns
returns c = λ _.
    let kept = c.in-Ok.ensures.kept in
    let same = came_back_same c.args.member.worker kept.0 c.close.result c.requires.free c.close.ensures.did kept.1 in
    kept.2 ∙ ap (λ (w : WorkerView). record c.args.set.now { kept = c.args.set.now.kept ++ w ∷ [] }) same
