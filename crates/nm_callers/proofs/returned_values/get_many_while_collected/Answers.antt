use Rattle.std.proofs.Common.{ℕ, true, ◌≡◌, sym, subst}
use Rattle.std.specs.Prelude.{All, take}
use Rattle.nm_tree.specs.Workers.{WorkerView}
use Rattle.nm_callers.specs.Returning.{HasNotComeBack}
use Rattle.nm_callers.proofs.NotBack.{each_found}
use Rattle.nm_callers.proofs.returned_values.get_many_while_collected.Goals as goal

pub returns-clause-kept : goal.returns-clause-kept
returns-clause-kept c =
    let p = c.get_many_pinned.new.worker.pass in
    let q = c.tell_worker.new.to.pass in
    let o = c.take_back-back.new.worker.pass.view in
    let xs = c.get_many_pinned.new.queries in
    let back = take c.take_back-back.result c.take_back-back.new.out in
    subst (λ (x : WorkerView). All (λ y. y.found ≡ true → HasNotComeBack q.view y.key y.value x.pass.view back) xs)
    (sym c.tell_worker.ensures.from)
    (each_found c.args.reader.now.pass p q o back c.know_run.ensures.turns c.know_run-2.ensures.turns
    c.tell_worker.ensures.to c.tell_worker.ensures.past c.tell_worker.ensures.heard.goes_on
    c.take_back-back.ensures.back xs c.in-Ok.ensures.moment)
