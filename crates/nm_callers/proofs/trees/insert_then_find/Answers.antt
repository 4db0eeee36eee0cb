use Rattle.std.proofs.Common.{◌≡◌, true, subst}
use Rattle.nm_model.specs.declared.event.Op.TheVariants.{Insert}
use Rattle.nm_calls.specs.Moments.{AnswerHasMoment}
use Rattle.nm_callers.proofs.Answered.{if_answered}
use Rattle.nm_callers.proofs.trees.insert_then_find.Goals as goal

pub returns-in-Ok-true : goal.returns-in-Ok-true
returns-in-Ok-true c = record {
  found = λ none. if_answered c.look_told.result c.ok.result (λ b. b ≡ true) c.ok.ensures.value
      (c.look_told.ensures.found c.args.one.now.pass
      (subst (λ b. AnswerHasMoment c.args.one.now.pass c.insert.new.worker.pass Insert c.args.key b)
      c.in-Ok-true.field-0-test c.in-Ok-true.ensures.says.moment) none);
}
