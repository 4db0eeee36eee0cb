use Rattle.std.proofs.Common.{◌≤◌, ap, arith, subst, sym}
use Rattle.nm_edge.specs.Layouts.{IsLayout, Layout}
use Rattle.nm_steps.specs.Steps.{PassView}
use Rattle.nm_walks.proofs.ValueLooks.{goes_by_value}
use Rattle.nm_calls.proofs.FoundValues.{leaf_within}
use Rattle.nm_calls.proofs.ManyValues.{so_still}
use Rattle.nm_calls.proofs.NearValues.{read_later}
use Rattle.nm_calls.proofs.StayingValues.{value_still_later}
use Rattle.nm_calls.proofs.map_many.read_value.Goals as goal

pub overflow_cast-query : goal.overflow_cast-query
overflow_cast-query c =
    let walked = c.requires.walked in
    let query = c.args.query.now in
    let within = (leaf_within c.args.pass.now c.know_run.ensures.fits c.know_run.ensures.seen query.key query.value
    walked.is_key (walked.leaf c.if-query.true)).1 in
    let most = c.know_run.ensures.fits.most in
    omega (arith, within, most)

pub look_value-query-requires-clause-slot : goal.look_value-query-requires-clause-slot
look_value-query-requires-clause-slot c =
    let walked = c.requires.walked in
    let query = c.args.query.now in
    let within = leaf_within c.args.pass.now c.know_run.ensures.fits c.know_run.ensures.seen query.key query.value
    walked.is_key (walked.leaf c.if-query.true) in
    let high = within.0 in
    (omega (arith, high), subst (λ (L : Layout). query.value ≤ L.nodes) c.requires.pinned.own.layout within.1)

pub returns-then-query-clause-answer : goal.returns-then-query-clause-answer
returns-then-query-clause-answer c n walked =
    let p = c.args.pass.now in
    let q = c.look_value-query.new.pass in
    let query = c.args.query.now in
    let looks = c.look_value-query.ensures.looks in
    let log = ap (λ (x : PassView). x.view.log) looks.same in
    let fits = subst (λ (x : PassView). IsLayout x.view.layout) (sym looks.same) c.know_run.ensures.fits in
    record {
      is_key = walked.is_key;
      ends = so_still p q log n query.key query.found walked.ends;
      read = λ found. read_later n p q log fits query.key query.value c.look_value-query.result walked.is_key
          (walked.leaf found) looks.seen c.look_value-query.ensures.value;
    }

pub returns-then-query-clause-stays : goal.returns-then-query-clause-stays
returns-then-query-clause-stays c n k v is_key read =
    let p = c.args.pass.now in
    let q = c.look_value-query.new.pass in
    let looks = c.look_value-query.ensures.looks in
    let on = goes_by_value p q looks c.know_run.ensures.fits in
    value_still_later p q c.know_run.ensures.fits on.same looks.past looks.stores
    (ap (λ (x : PassView). x.view.log) looks.same) looks.seen n k v is_key read
