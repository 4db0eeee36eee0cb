use Rattle.std.proofs.Common.{◌≡◌, false, subst}
use Rattle.nm_model.specs.declared.event.Op.TheVariants.{Delete}
use Rattle.nm_calls.specs.Moments.{AnswerHasMoment}
use Rattle.nm_callers.proofs.Answered.{if_answered}
use Rattle.nm_callers.proofs.trees.delete_then_miss.Goals as goal

pub returns-in-Ok-true : goal.returns-in-Ok-true
returns-in-Ok-true c = record {
  missed = λ none. if_answered c.look_told.result c.ok.result (λ b. b ≡ false) c.ok.ensures.value
      (c.look_told.ensures.missed c.args.deleter.now.pass
      (subst (λ b. AnswerHasMoment c.args.deleter.now.pass c.delete.new.worker.pass Delete c.args.key b)
      c.in-Ok-true.field-0-test c.in-Ok-true.ensures.says.moment) none);
}
