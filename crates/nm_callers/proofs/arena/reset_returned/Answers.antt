use Rattle.std.specs.Prelude.{take}
use Rattle.nm_callers.proofs.ArenaResets.{resets_returned}
use Rattle.nm_callers.proofs.Returned.{values_are_back}
use Rattle.nm_callers.proofs.arena.reset_returned.Goals as goal

pub returns-clause-only : goal.returns-clause-only
returns-clause-only c =
    let z = c.reclaim-count.new.self.worker in
    let did = c.reclaim-count.ensures.says in
    resets_returned z.pass.view (take c.reclaim-count.result.handed.values c.reclaim-count.new.out)
    c.args.objects.now c.reset_each.new.objects (values_are_back did.twice z did.hands.leaves)
    c.reset_each.ensures.only
