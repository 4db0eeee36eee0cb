-- A worker that is not pinned and announces nothing rests.
use Rattle.std.proofs.Common.{◌≤◌, arith}
use Rattle.nm_edge.specs.Layouts.{IsLayout}
use Rattle.nm_order.specs.Unpinned.{HasNoCall}
use Rattle.nm_order.proofs.OutsidePins.{unpinned_workers_have_no_call}
use Rattle.nm_steps.specs.Rules.{knowledge}
use Rattle.nm_steps.specs.Steps.{PassView, IsOfRun}
use Rattle.nm_epoch.specs.Resting.{IsResting, IsUnpinned, search}

pub rests_now : (p : PassView) → IsOfRun p.view.layout p.view.number p.view.log → IsLayout p.view.layout
    → IsUnpinned p → IsResting p
rests_now p run fits away =
    let enough : 5 ≤ p.view.layout.nodes = let least = fits.least in omega arith in
    let rest : HasNoCall (knowledge p.view) (search p) = unpinned_workers_have_no_call p.view.layout enough
    p.view.number p.view.log run.is_part away.unpinned in
    record { unpinned = away.unpinned; silent = away.silent; labelled = rest.labelled; idle = rest.idle }
