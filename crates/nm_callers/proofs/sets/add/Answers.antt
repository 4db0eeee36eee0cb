use Rattle.std.proofs.Common.{rules, ◌∙◌, Bool, List, sym, ap, subst, arith}
use Rattle.nm_model.specs.declared.event.Op.TheVariants.{Insert}
use Rattle.nm_model.specs.Walks.{Entry}
use Rattle.nm_calls.specs.Moments.{AnswerHasMoment}
use Rattle.nm_walks.specs.WonCounts.{won_flags}
use Rattle.nm_epoch.specs.Collecting.{capped}
use Rattle.nm_set.proofs.Managing.{was_made}
use Rattle.nm_callers.proofs.OneMember.{own_log, capped_none}
use Rattle.nm_callers.proofs.sets.add.Goals as goal

pub returns-in-Ok-true-clause-added : goal.returns-in-Ok-true-clause-added
returns-in-Ok-true-clause-added c told =
    let w = c.args.member.now.worker in
    let z = c.try_insert.new.self.worker in
    let did = was_made w z c.in-Ok-true.field-0 c.in-Ok-true.ensures.says.says in
    let none = capped_none (won_flags w.pass.view.log)
    (ap (λ (l : List Entry). capped (won_flags l)) (sym (own_log w.pass.view))
    ∙ (sym c.stats.ensures.flags ∙ c.if-stats-ne0.false)) in
    let won = did.won.flags in
    record {
      key = search rules;
      start = w.pass;
      moment = subst (λ (b : Bool). AnswerHasMoment w.pass z.pass Insert c.args.key b) c.in-Ok-true.field-0-test
          did.moment;
      unflagged = omega (arith, none, won);
    }
