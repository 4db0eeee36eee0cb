-- The laws of radix trees, of each ordered run.
use Rattle.std.proofs.Common.{◌≤◌, List, [], length, subst}
use Rattle.nm_model.specs.Memory.{child}
use Rattle.nm_model.specs.Ordered.{ordered, after_in, trace_in}
use Rattle.nm_model.specs.Walks.{Entry, since_pin}
use Rattle.nm_order.specs.Intervals.{OfEachOrdered, key}
use Rattle.nm_order.specs.Ranges.{IsNested, RangesNest, PathsAreShort, OfEachRadixLog, WalksAreShort, WalksPassRouters}
use Rattle.nm_order.proofs.OrderedLaws.{each_ordered, law_of_state}
use Rattle.nm_order.proofs.RadixMoments.{rooted}
use Rattle.nm_order.proofs.RadixDepths.{path_short}
use Rattle.nm_order.proofs.PartWalks.{comes_in_log, passes_in_log}
use Rattle.nm_order.proofs.StaleRuns.{any_walk_is_short, any_walk_passes_routers}

pub each_range_nests : OfEachOrdered RangesNest
each_range_nests L enough turns keys radix x up r =
    let o = each_ordered L enough turns keys in
    subst (IsNested (child (after_in (ordered L) turns).state.memory)
    (key (after_in (ordered L) turns).state.memory)) r.ends ((o.law.nested radix).nests r.path (rw r.ends up))

pub each_path_is_short : OfEachOrdered PathsAreShort
each_path_is_short L enough turns keys radix path there =
    let o = each_ordered L enough turns keys in
    let l = law_of_state L enough (after_in (ordered L) turns) o in
    path_short (child (after_in (ordered L) turns).state.memory) (key (after_in (ordered L) turns).state.memory)
    (rooted (after_in (ordered L) turns).state l.0 l.1 o.law.fixed o.law.order (o.law.nested radix)) path there

-- ---- by the log of one worker

pub walks_are_short : OfEachRadixLog WalksAreShort
walks_are_short L enough radix w log l = subst (λ (log : List Entry). WalksAreShort (since_pin [] log)) l.is_part
    (λ k slot parent side small walk. (
    let same = comes_in_log w (trace_in (ordered L) l.turns) k slot parent side walk in
    subst (λ (looks : List Entry). length looks ≤ 129) same.1
    (any_walk_is_short L enough l.turns l.keys radix w k slot parent side small same.0)
    ))

pub walks_pass_routers : OfEachRadixLog WalksPassRouters
walks_pass_routers L enough radix w log l = subst (λ (log : List Entry). WalksPassRouters (since_pin [] log)) l.is_part
    (λ k slot parent side v small walk. any_walk_passes_routers L enough l.turns l.keys radix w k slot parent side v
    small (passes_in_log w (trace_in (ordered L) l.turns) k slot parent side v walk))
