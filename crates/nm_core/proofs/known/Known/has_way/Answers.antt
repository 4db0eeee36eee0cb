use Rattle.std.proofs.Common.{◌-◌, ◌+◌, Some, sym, ◌∙◌, arith}
use Rattle.nm_core.proofs.ChainLemmas.{leads_from}
use Rattle.nm_core.proofs.known.Known.has_way.Goals as goal

pub loop-preserved : goal.loop-preserved
loop-preserved c =
    let on = leads_from (c.args.fuel - c.loop.counter) (c.args.fuel - (c.loop.counter + 1)) c.loop.self
    c.loop.at.slot c.args.to (omega arith) c.if-at-to.false (Some c.in-Some.next.slot)
    (sym c.in-Some.ensures.next) in
    record {
      leads = rw c.next.ensures.same (sym on ∙ c.loop.invariant.leads);
      same = c.next.ensures.same ∙ c.loop.invariant.same;
    }
