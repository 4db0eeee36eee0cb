use Rattle.std.proofs.Common.{rules, ◌<◌, ◌∙◌, refl, length, arith}
use Rattle.std.proofs.Math.Seq.{map-set_same}
use Rattle.nm_walks.proofs.GoingOn.{goes_then, only_then, pinned_in_still}
use Rattle.nm_calls.specs.InTurns.{key_of}
use Rattle.nm_calls.proofs.InTurnsLooks.{same_count}
use Rattle.nm_calls.proofs.ManyValues.{read_more, unread_still}
use Rattle.nm_calls.proofs.ScanLooks.{goes_here, only_here}
use Rattle.nm_calls.proofs.map_many.read_values.Goals as goal

pub loop-index-init : goal.loop-index-init
loop-index-init c =
    let o = c.args.pass.now in
    record {
      walked = λ k d low less. c.requires.walked k d less;
      answers = λ n walked. (λ k d low less. absurd (omega (arith, less)), λ k d low less. walked k d less);
      keys = refl;
      log = refl;
      on = goes_here c.args.shared.now o c.requires.pinned;
      only = only_here o;
    }

pub returns-clause-answers : goal.returns-clause-answers
returns-clause-answers c n walked i d below =
    let end = c.loop-index-test.false in
    let count = same_count c.loop-index.queries c.args.queries.now c.loop-index.invariant.keys in
    (c.loop-index.invariant.answers n walked).0 i d (omega arith) (omega (arith, below, end, count))

pub read_value-requires-clause-pinned : goal.read_value-requires-clause-pinned
read_value-requires-clause-pinned c = pinned_in_still c.args.shared.now c.args.pass.now c.loop-index.pass
    c.loop-index.invariant.on c.requires.pinned

pub loop-index-preserved : goal.loop-index-preserved
loop-index-preserved c =
    let o = c.args.pass.now in
    let p = c.loop-index.pass in
    let q = c.read_value.new.pass in
    let held = c.loop-index.invariant in
    let did = c.read_value.ensures in
    let queries = c.loop-index.queries in
    let i = c.loop-index.index in
    let x = c.read_value.new.query in
    record {
      walked = unread_still p q did.log 0 queries i (length c.args.queries.now) x held.walked;
      answers = λ n walked. (
          let so_far = held.answers n walked in
          let below : i < length queries = search rules in
          let count = same_count queries c.args.queries.now held.keys in
          let query = c.index-queries-index.result in (
            read_more p q did.log n (did.stays n) queries i below x
                (did.answer n (so_far.1 i query (omega arith) (omega (arith, below, count)))) so_far.0,
            unread_still p q did.log n queries i (length c.args.queries.now) x so_far.1,
          )
          );
      keys = map-set_same key_of queries i x c.index-queries-index.result (search rules) ∙ held.keys;
      log = did.log ∙ held.log;
      on = goes_then o p q held.on did.on;
      only = only_then o p q held.only did.only;
    }
