use Rattle.std.proofs.Common.{rules, ◌≡◌, sym, ap, subst}
use Rattle.std.specs.Prelude.{IfSome, Ok, Some}
use Rattle.nm_edge.specs.Keys.{IsKey}
use Rattle.nm_model.specs.declared.event.Op.TheVariants.{Insert}
use Rattle.nm_steps.proofs.Seeing.{seen_through, stores_through}
use Rattle.nm_tree.specs.Workers.{WorkerView}
use Rattle.nm_calls.specs.Maps.{MapGave}
use Rattle.nm_calls.specs.Moments.{AnswerHasMoment}
use Rattle.nm_callers.specs.Mapping.{AreOfOneMap}
use Rattle.nm_callers.proofs.KeptAfterPut.{is_kept_told}
use Rattle.nm_callers.proofs.Mapped.{gave_earlier, is_found, of_found}
use Rattle.nm_callers.proofs.OneMap.{told_of_one_map}
use Rattle.nm_callers.proofs.maps.insert_then_get_told.Goals as goal

pub returns-clause-found : goal.returns-clause-found
returns-clause-found c none unreplaced =
    let o = c.args.one.now.pass in
    let p = c.insert_with_value.new.worker.pass in
    let m = c.tell_worker.new.to.pass in
    let q = c.get-found.new.worker.pass in
    let e = c.get-found.ensures in
    let history = c.know_run-2.ensures.turns.plain_set in
    let is_key = subst IsKey c.get-number.ensures.number c.get-number.ensures.fits in
    let layout : p.view.layout ≡ q.view.layout = search rules in
    let on = seen_through p m q c.tell_worker.ensures.heard e.past in
    let put = c.in-Ok-true.ensures.puts c.requires.values (ap Ok c.in-Ok-true.field-0-test) in
    let moment = subst (λ b. AnswerHasMoment o p Insert c.args.key b) c.in-Ok-true.field-0-test
    c.in-Ok-true.ensures.says.moment in
    of_found c.get-found.result c.ok.result (MapGave m q c.args.key) (λ found. found ≡ Some c.args.value)
    c.ok.ensures.value
    (λ found later. let gave = gave_earlier p m q c.tell_worker.ensures.heard c.args.key found later in
    is_kept_told o p q c.args.key c.args.value c.know_run.ensures.seen c.know_run-2.ensures.seen
    c.know_run-2.ensures.fits history layout on (stores_through p.view.stores m.view.stores q.view.stores
    c.tell_worker.ensures.heard_stores e.stores) put none unreplaced found
    (is_found o p q c.args.key is_key history layout on moment none found gave) gave)
    e.moment

pub returns-clause-one_map : goal.returns-clause-one_map
returns-clause-one_map c =
    let o = c.args.one.now.pass in
    let p = c.insert_with_value.new.worker.pass in
    let m = c.tell_worker.new.to.pass in
    let q = c.get-found.new.worker.pass in
    let e = c.get-found.ensures in
    let layout : p.view.layout ≡ q.view.layout = search rules in
    subst (λ (w : WorkerView). IfSome c.ok.result (λ found. IfSome found
    (AreOfOneMap q.view.layout o.view.past q.view.past w.pass.view.number c.args.key c.args.value)))
    (sym c.tell_worker.ensures.from)
    (of_found c.get-found.result c.ok.result (MapGave m q c.args.key)
    (λ found. IfSome found (AreOfOneMap q.view.layout o.view.past q.view.past p.view.number c.args.key
    c.args.value)) c.ok.ensures.value
    (λ found later. told_of_one_map o p q c.args.key c.args.value
    (subst IsKey c.get-number.ensures.number c.get-number.ensures.fits) c.know_run.ensures.seen
    c.know_run-2.ensures.seen c.know_run-2.ensures.fits layout (seen_through p m q c.tell_worker.ensures.heard e.past)
    (stores_through p.view.stores m.view.stores q.view.stores c.tell_worker.ensures.heard_stores e.stores)
    (c.in-Ok-true.ensures.puts c.requires.values (ap Ok c.in-Ok-true.field-0-test)) found
    (gave_earlier p m q c.tell_worker.ensures.heard c.args.key found later))
    e.moment)
