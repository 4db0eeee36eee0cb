use Rattle.std.proofs.Common.{◌-◌, ◌+◌, ℕ, Bool, refl, subst, arith}
use Rattle.std.specs.Prelude.{Result}
use Rattle.nm_calls.specs.declared.fault.CallFault.{CallFault}
use Rattle.nm_set.specs.declared.managed.Options.{Options}
use Rattle.nm_set.specs.Managed.{Answers, round_bound}
use Rattle.nm_set.specs.Rounds.{AnswersIn}
use Rattle.nm_set.proofs.Managing.{answers_at_last, was_busy}
use Rattle.nm_set.proofs.member.Member.retry.Goals as goal

pub returns-clause-says : goal.returns-clause-says
returns-clause-says g c =
    let b = c.args.self.now.tree in
    let h = c.args.options.now in
    let m = c.args.self.now.worker in
    let z = c.ask_with_retries.new.self.worker in
    let r = c.ask_with_retries.result in
    let some = c.if-options-eq0.false in
    let rest : AnswersIn b h c.args.op c.args.key ((h.rounds - 1) + 1) m z r = subst
    (λ (g : Options). AnswersIn b g c.args.op c.args.key (g.rounds + 1) m z r) c.without_one.ensures
    c.ask_with_retries.ensures.says in
    λ w first.
    let busy = subst (λ (q : Result Bool CallFault). Answers c.args.op c.args.key (round_bound h.tries b.layout)
    h.tries w m q) (c.if-not-is_busy.ensures.yes refl) first in
    subst (λ (n : ℕ). AnswersIn b h c.args.op c.args.key n w z r) (omega (arith, some))
    (answers_at_last b h c.args.op c.args.key 1 ((h.rounds - 1) + 1) w m z r (omega arith)
    (was_busy b h c.args.op c.args.key w m busy) rest)
