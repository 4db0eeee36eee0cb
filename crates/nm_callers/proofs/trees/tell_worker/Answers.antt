use Rattle.std.proofs.Common.{ap, subst}
use Rattle.nm_steps.specs.Rules.{Extends}
use Rattle.nm_callers.proofs.trees.tell_worker.Goals as goal

pub returns-clause-heard : goal.returns-clause-heard
returns-clause-heard c = record {
  goes_on = subst (Extends c.hear.new.worker.pass.view.past)
      (ap (λ n. n.past) c.note-note.ensures.note) c.hear.ensures.heard;
}
