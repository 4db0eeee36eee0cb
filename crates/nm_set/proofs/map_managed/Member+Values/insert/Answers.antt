use Rattle.std.proofs.Common.{rules, ◌≡◌, ◌+◌, inr, sym, subst}
use Rattle.std.specs.Prelude.{None, Err}
use Rattle.nm_model.specs.declared.event.Op.TheVariants.{Insert}
use Rattle.nm_steps.specs.Steps.{TreeView}
use Rattle.nm_steps.specs.Values.{HasValues}
use Rattle.nm_calls.specs.declared.fault.CallFault.{CallFault}
use Rattle.nm_set.specs.Rounds.{AnswersIn, Finishes}
use Rattle.nm_set.proofs.Managing.{finish_err, pending_manages}
use Rattle.nm_set.proofs.MapManaging.{inserts_then, moves_earlier}
use Rattle.nm_set.proofs.map_managed.Member+Values.insert.Goals as goal

pub returns-clause-says : goal.returns-clause-says
returns-clause-says c =
    let b = c.args.self.now.tree in
    let h = c.args.options.now in
    let w = c.args.self.now.worker in
    let y = c.finish_with_retries.new.self.worker in
    let z = c.ask_value_with_retries.new.self.worker in
    let r = c.ask_value_with_retries.result in
    let free : w.held ≡ None = search rules in
    inr (
      free,
      inserts_then b h c.args.key w y c.in-Ok._done c.in-Ok.ensures.says z r
          c.ask_value_with_retries.ensures.frees (subst
          (λ (d : TreeView). AnswersIn d h Insert c.args.key (h.rounds + 1)
          y z r) c.finish_with_retries.ensures.tree c.ask_value_with_retries.ensures.says),
    )

pub returns-clause-puts : goal.returns-clause-puts
returns-clause-puts c =
    let w = c.args.self.now.worker in
    let y = c.finish_with_retries.new.self.worker in
    let z = c.ask_value_with_retries.new.self.worker in
    let has : HasValues c.finish_with_retries.new.self.tree = subst HasValues
    (sym c.finish_with_retries.ensures.tree) c.know_run.ensures.values in
    (moves_earlier Insert c.args.key c.args.value c.ask_value_with_retries.new.found w.pass y.pass z.pass
    c.ask_value_with_retries.result c.in-Ok.ensures.says.on.past (c.ask_value_with_retries.ensures.moves has)).0

pub returns-clause-finds : goal.returns-clause-finds
returns-clause-finds c =
    let w = c.args.self.now.worker in
    let y = c.finish_with_retries.new.self.worker in
    let z = c.ask_value_with_retries.new.self.worker in
    let has : HasValues c.finish_with_retries.new.self.tree = subst HasValues
    (sym c.finish_with_retries.ensures.tree) c.know_run.ensures.values in
    (moves_earlier Insert c.args.key c.args.value c.ask_value_with_retries.new.found w.pass y.pass z.pass
    c.ask_value_with_retries.result c.in-Ok.ensures.says.on.past (c.ask_value_with_retries.ensures.moves has)).1

pub returns-in_default-clause-says : goal.returns-in_default-clause-says
returns-in_default-clause-says c =
    let b = c.args.self.now.tree in
    let h = c.args.options.now in
    let w = c.args.self.now.worker in
    let z = c.finish_with_retries.new.self.worker in
    let free : w.held ≡ None = search rules in
    let f = c.in_default.ensures.says in
    inr (
      free,
      pending_manages b h Insert c.args.key w z
          (subst (λ (g : CallFault). Finishes b h w z (Err g))
          (finish_err b h w z c.in_default.field-0 f) f),
    )
