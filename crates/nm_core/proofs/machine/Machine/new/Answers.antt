use Rattle.std.proofs.Common.{sym, arith}
use Rattle.std.proofs.lemmas.List.FromFn.{map-range_with_len_more}
use Rattle.nm_model.specs.Knowledge.{newcomer}
use Rattle.nm_core.proofs.machine.Machine.new.Goals as goal

pub loop-number-preserved : goal.loop-number-preserved
loop-number-preserved c =
    let more = map-range_with_len_more (newcomer c.args.layout) 0 c.loop-number.number c.loop-number.number
    (omega arith) in
    rw (c.in_ok-push.ensures.items, c.in_ok-new.ensures, c.loop-number.invariant) (sym more)
