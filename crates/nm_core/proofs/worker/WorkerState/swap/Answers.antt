use Rattle.std.proofs.Common.{◌≡◌, false, ap, sym, ◌∙◌}
use Rattle.nm_model.specs.Maps.{has}
use Rattle.nm_model.specs.Knowledge.{Knowledge}
use Rattle.nm_core.proofs.Meeting.{unmet}
use Rattle.nm_core.proofs.worker.WorkerState.swap.Goals as goal

pub returns-then-not-is_met-clause-err : goal.returns-then-not-is_met-clause-err
returns-then-not-is_met-clause-err c =
    let k = c.args.self.now in
    let known = ap (λ (s : Knowledge). has s.known c.args.new) c.self.view_is in
    let absent : has k.known c.args.new ≡ false = sym known ∙ sym c.if-not-is_met.ensures in
    unmet k _ c.args.new c.remove.new.self c.requires.is_slot absent
    (c.self-2.view_is ∙ (c.in-Err.ensures.err ∙ c.in_ok-meet.ensures.ok)) c.remove.ensures
