use Rattle.std.proofs.Common.{rules, ◌∙◌, ◌≤◌, ◌+◌, ◌*◌, length, arith}
use Rattle.std.proofs.Math.Seq.{map-set_same}
use Rattle.nm_calls.specs.InTurns.{key_of}
use Rattle.nm_walks.proofs.GoingOn.{goes_then, only_then}
use Rattle.nm_calls.proofs.InTurnsLooks.{same_count, turned, turned_so_far}
use Rattle.nm_calls.proofs.PlainLooks.{looks_in, looks_then, not_shorter}
use Rattle.nm_calls.proofs.many.take_turns.Goals as goal

pub loop-index-preserved : goal.loop-index-preserved
loop-index-preserved c =
    let o = c.args.pass.now in
    let p = c.loop-index.pass in
    let q = c.take_turn.new.pass in
    let held = c.loop-index.invariant in
    let did = c.take_turn.ensures in
    let queries = c.loop-index.queries in
    let i = c.loop-index.index in
    let x = c.index-queries-index.result in
    let y = c.take_turn.new.query in
    record {
      looks = looks_in (3 * (c.loop-index.index + 1)) o.view.log q.view.log (omega arith)
          (looks_then o.view.log p.view.log q.view.log held.looks did.looks);
      under_way = turned c.args.what 0 p q (omega arith) did.looks did.on queries i (search rules) x y
          (λ n u. did.under_way 0 n (omega arith) u) 0 held.under_way;
      further = λ from n le all. (
          let so_far = held.further from n le all in
          let long = not_shorter o p held.looks in
          let later : from ≤ length p.view.log = omega (arith, le, long) in (
            turned c.args.what from p q later did.looks did.on queries i (search rules) x y
                (λ m u. did.under_way from m later u) n so_far.0,
            turned_so_far c.args.what from p q later did.looks did.on queries i (search rules) x y
                (λ m u. did.under_way from m later u) n so_far.0 so_far.1,
          )
          );
      keys = map-set_same key_of c.loop-index.queries c.loop-index.index c.take_turn.new.query
          c.index-queries-index.result (search rules) ∙ held.keys;
      on = goes_then o p q held.on did.on;
      only = only_then o p q held.only did.only;
    }

pub returns-clause-under_way : goal.returns-clause-under_way
returns-clause-under_way c from n le all i d below =
    let end = c.loop-index-test.false in
    let count = same_count c.loop-index.queries c.args.queries.now c.loop-index.invariant.keys in
    (c.loop-index.invariant.further from n le all).1 i d (omega arith) (omega (arith, below, end, count))
