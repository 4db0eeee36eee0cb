use Rattle.std.proofs.Common.{ap, subst, sym}
use Rattle.std.specs.Prelude.{IfSome, Ok}
use Rattle.nm_calls.specs.Maps.{MapGaveUnderPin}
use Rattle.nm_tree.specs.Workers.{WorkerView}
use Rattle.nm_callers.specs.Mapping.{GotAfterPut}
use Rattle.nm_callers.proofs.Answered.{each_ok, if_answered}
use Rattle.nm_callers.proofs.GotAfterPut.{got_after_put}
use Rattle.nm_callers.proofs.taken_values.put_then_get_pinned.Goals as goal

pub returns-clause-got : goal.returns-clause-got
returns-clause-got c =
    let before = c.args.writer.now.pass in
    let writer = c.insert_with_value.new.worker.pass in
    let asked = c.tell_worker.new.to.pass in
    let reader = c.get_pinned.new.worker.pass in
    let put = c.in-Ok-true.ensures.puts c.requires.values (ap Ok c.in-Ok-true.field-0-test) in
    let Got = GotAfterPut before writer reader c.args.key c.args.value in
    subst (λ (w : WorkerView). IfSome c.ok.result (GotAfterPut before w.pass reader c.args.key c.args.value))
    (sym c.tell_worker.ensures.from)
    (if_answered c.get_pinned.result c.ok.result Got c.ok.ensures.value
    (each_ok c.get_pinned.result (MapGaveUnderPin asked reader c.args.key) Got
    (λ found gave. got_after_put before writer asked reader c.args.key c.args.value found put
    c.tell_worker.ensures.heard c.get_pinned.ensures.past gave)
    c.get_pinned.ensures.moment))
