use Rattle.std.proofs.Common.{◌+◌, sym, subst}
use Rattle.nm_calls.specs.InTurns.{IsUnderWay}
use Rattle.nm_walks.specs.Telling.{OnwardTold}
use Rattle.nm_walks.specs.Walks.{Reads}
use Rattle.nm_calls.proofs.InTurnsLooks.{gone_on, ended_further}
use Rattle.nm_calls.proofs.many.take_turn.Goals as goal

pub returns-clause-under_way : goal.returns-clause-under_way
returns-clause-under_way c from n le under_way =
    let p = c.args.pass.now in
    let q = c.read_node-on.new.pass in
    let query = c.args.query.now in
    let on = c.read_node-on.result in
    subst (IsUnderWay c.args.what from (n + 1) q) (sym c.read_so.ensures.query)
    (gone_on c.args.what from p q le n query on
    (subst (λ k. Reads k query.node p.view.log q.view.log on) c.get.ensures.number c.read_node-on.ensures.looks)
    (subst (λ k. OnwardTold p q k query.node on.found on.side on.next) c.get.ensures.number
    c.read_node-on.ensures.told) under_way c.if-query-eq0.false)

pub returns-then-query-eq0-clause-under_way : goal.returns-then-query-eq0-clause-under_way
returns-then-query-eq0-clause-under_way c from n le under_way =
    ended_further c.args.what from c.args.pass.now n c.args.query.now c.if-query-eq0.true under_way
