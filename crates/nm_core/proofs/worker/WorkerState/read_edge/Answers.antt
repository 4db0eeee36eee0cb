use Rattle.std.proofs.Common.{ap, ◌∙◌}
use Rattle.nm_model.specs.Knowledge.{Knowledge}
use Rattle.nm_core.proofs.Meeting.{met_has}
use Rattle.nm_core.proofs.worker.WorkerState.read_edge.Goals as goal

pub replace-requires : goal.replace-requires
replace-requires c =
    let same = ap (λ (k : Knowledge). k.known) (c.self.view_is ∙ c.in_ok-meet.ensures.ok) in
    rw same (met_has c.args.self.now.known c.slot.result c.args.slot c.requires)
