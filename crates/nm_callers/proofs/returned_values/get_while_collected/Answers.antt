use Rattle.std.proofs.Common.{ℕ, sym, subst}
use Rattle.std.specs.Prelude.{IfSome, take}
use Rattle.nm_tree.specs.Workers.{WorkerView}
use Rattle.nm_callers.specs.Returning.{HasNotComeBack}
use Rattle.nm_callers.proofs.NotBack.{if_found}
use Rattle.nm_callers.proofs.returned_values.get_while_collected.Goals as goal

pub returns-clause-kept : goal.returns-clause-kept
returns-clause-kept c =
    let p = c.get_pinned-found.new.worker.pass in
    let q = c.tell_worker.new.to.pass in
    let o = c.take_back-back.new.worker.pass.view in
    let back = take c.take_back-back.result c.take_back-back.new.out in
    subst (λ (x : WorkerView). IfSome c.found_value.result
    (λ (v : ℕ). HasNotComeBack q.view c.args.key v x.pass.view back)) (sym c.tell_worker.ensures.from)
    (if_found c.args.reader.now.pass p q o c.args.key back c.know_run.ensures.turns c.know_run-2.ensures.turns
    c.tell_worker.ensures.to c.tell_worker.ensures.past c.tell_worker.ensures.heard.goes_on
    c.take_back-back.ensures.back c.get_pinned-found.result c.found_value.result c.found_value.ensures
    c.get_pinned-found.ensures.moment)
