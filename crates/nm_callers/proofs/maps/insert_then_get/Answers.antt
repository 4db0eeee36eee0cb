use Rattle.std.proofs.Common.{◌≡◌, sym, ap, subst}
use Rattle.std.specs.Prelude.{IfSome, Ok, Some}
use Rattle.nm_edge.specs.Keys.{IsKey}
use Rattle.nm_model.specs.declared.event.Op.TheVariants.{Insert}
use Rattle.nm_steps.specs.Steps.{PassView}
use Rattle.nm_calls.specs.Maps.{MapGave}
use Rattle.nm_calls.specs.Moments.{AnswerHasMoment}
use Rattle.nm_callers.specs.Mapping.{AreOfOneMap, PutsThenGets}
use Rattle.nm_callers.proofs.KeptAfterPut.{is_kept}
use Rattle.nm_callers.proofs.Mapped.{is_found, of_found}
use Rattle.nm_callers.proofs.OneMap.{got_of_one_map}
use Rattle.nm_callers.proofs.maps.insert_then_get.Goals as goal

pub returns-clause-answers : goal.returns-clause-answers
returns-clause-answers c =
    let p = c.insert_with_value.new.worker.pass in
    let q = c.get-found.new.worker.pass in
    of_found c.get-found.result c.ok.result (MapGave p q c.args.key)
    (PutsThenGets c.args.worker.now.pass q c.args.key c.args.value) c.ok.ensures.value
    (λ found gave. record {
      mid = p;
      put = c.in-Ok-true.ensures.puts c.requires.values
          (ap Ok c.in-Ok-true.field-0-test);
      on = c.get-found.ensures.past;
      gave = gave;
    }) c.get-found.ensures.moment

pub returns-clause-found : goal.returns-clause-found
returns-clause-found c none unreplaced =
    let o = c.args.worker.now.pass in
    let p = c.insert_with_value.new.worker.pass in
    let q = c.get-found.new.worker.pass in
    let e = c.get-found.ensures in
    let history = c.know_run.ensures.turns.plain_set in
    let some = is_found o p q c.args.key (subst IsKey c.get-number.ensures.number c.get-number.ensures.fits) history
    (sym (ap (λ (z : PassView). z.view.layout) e.same)) e.past
    (subst (λ b. AnswerHasMoment o p Insert c.args.key b) c.in-Ok-true.field-0-test c.in-Ok-true.ensures.says.moment)
    none in
    of_found c.get-found.result c.ok.result (MapGave p q c.args.key) (λ found. found ≡ Some c.args.value)
    c.ok.ensures.value
    (λ found gave. is_kept o p q c.args.key c.args.value c.know_run.ensures.seen c.know_run.ensures.fits history
    e.same e.past e.stores (c.in-Ok-true.ensures.puts c.requires.values (ap Ok c.in-Ok-true.field-0-test)) none
    unreplaced found (some found gave) gave)
    e.moment

pub returns-clause-one_map : goal.returns-clause-one_map
returns-clause-one_map c =
    let o = c.args.worker.now.pass in
    let p = c.insert_with_value.new.worker.pass in
    let q = c.get-found.new.worker.pass in
    let e = c.get-found.ensures in
    of_found c.get-found.result c.ok.result (MapGave p q c.args.key)
    (λ found. IfSome found (AreOfOneMap q.view.layout o.view.past q.view.past q.view.number c.args.key
    c.args.value)) c.ok.ensures.value
    (got_of_one_map o p q c.args.key c.args.value (subst IsKey c.get-number.ensures.number c.get-number.ensures.fits)
    c.know_run.ensures.seen c.know_run.ensures.fits e.same e.past e.stores
    (c.in-Ok-true.ensures.puts c.requires.values (ap Ok c.in-Ok-true.field-0-test)))
    e.moment
