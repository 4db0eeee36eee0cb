use Rattle.std.proofs.Common.{sym, subst}
use Rattle.std.proofs.lemmas.Result.{IfOk-weaker}
use Rattle.nm_laws.specs.LeafPaths.{AreKeysFromTheLeft, KeysAreFromTheLeft}
use Rattle.nm_laws.proofs.KeysOfPaths.{each_state_tells_keys_from_the_left}
use Rattle.nm_laws.proofs.Reachable.{of_reachable}
use Rattle.nm_laws.proofs.Configurations.{reached_state}
use Rattle.nm_order.specs.Intervals.{KeysAscend}
use Rattle.nm_order.proofs.OrderedLaws.{each_key_ascends}
use Rattle.nm_core.proofs.Reached.{tells_the_set, of_ordered}
use Rattle.nm_core.proofs.pure_core.Core.keys.Goals as goal

pub returns-clause-paths : goal.returns-clause-paths
returns-clause-paths c = rw (← c.self.view_is) (IfOk-weaker c.keys.result _ _
    (λ found is. subst (AreKeysFromTheLeft c.self.inside.machine.memory) (sym is)
    (of_reachable KeysAreFromTheLeft each_state_tells_keys_from_the_left _ (reached_state _ c.self.invariant)))
    c.keys.ensures)

pub returns-clause-set : goal.returns-clause-set
returns-clause-set c = rw (← c.self.view_is) (tells_the_set _ c.self.invariant)

pub returns-clause-ascend : goal.returns-clause-ascend
returns-clause-ascend c = rw (← c.self.view_is) (of_ordered _ c.self.invariant KeysAscend each_key_ascends)
