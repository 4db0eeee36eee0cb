use Rattle.std.proofs.Common.{ap}
use Rattle.nm_shared.specs.Sharing.{SharedView}
use Rattle.nm_shared.proofs.Borrowed.{none_free}
use Rattle.nm_shared.proofs.shared_set.SharedSet.borrow.Goals as goal

pub returns-in-Err-clause-refused : goal.returns-in-Err-clause-refused
returns-in-Err-clause-refused g c = none_free c.args.self.now c.caller.inside.visits c.in-Err.visits
    c.caller.inside.note c.args.caller c.self.inside.workers.table c.caller.view_is
    (ap (λ (s : SharedView). s.table) c.self.view_is) c.in-Err.ensures.refused
