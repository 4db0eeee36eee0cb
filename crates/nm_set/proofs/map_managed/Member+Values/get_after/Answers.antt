use Rattle.std.proofs.Common.{◌-◌, ◌+◌, inr, ℕ, refl, subst, arith}
use Rattle.std.specs.Prelude.{Err}
use Rattle.nm_calls.specs.declared.fault.CallFault.{CallFault}
use Rattle.nm_tree.specs.Calls.{LeavesGet}
use Rattle.nm_tree.specs.Workers.{WorkerView}
use Rattle.nm_set.specs.declared.managed.Options.{Options}
use Rattle.nm_set.specs.MapRounds.{GetsIn}
use Rattle.nm_set.specs.Maps.{ManagesGet}
use Rattle.nm_set.proofs.MapManaging.{get_failed, gets_at_last, gets_now, gets_once, got_at_once, pending_gets, unless_pending}
use Rattle.nm_set.proofs.map_managed.Member+Values.get_after.Goals as goal

pub finish_and_get-requires : goal.finish_and_get-requires
finish_and_get-requires c = record { free = c.requires.begun.1.held }

pub get_again-requires-clause-free : goal.get_again-requires-clause-free
get_again-requires-clause-free c = c.requires.begun.1.held

pub get_again-requires-clause-none : goal.get_again-requires-clause-none
get_again-requires-clause-none c = (get_failed c.args.self.now.tree.layout c.args.options.now.tries c.args.key
    c.requires.begun.0 c.args.self.now.worker c.args.fault (c.if-is_pending.ensures.no refl) c.requires.begun.1).2

pub returns-then-is_pending-clause-says : goal.returns-then-is_pending-clause-says
returns-then-is_pending-clause-says c = λ w free l.
    let b = c.args.self.now.tree in
    let h = c.args.options.now in
    let k = c.args.key in
    let x = c.args.self.now.worker in
    let z = c.finish_and_get.new.self.worker in
    subst (λ (v : WorkerView). ManagesGet b h k v z c.finish_and_get.result)
    (pending_gets b.layout h.tries k w x c.args.fault (c.if-is_pending.ensures.yes refl) l)
    c.finish_and_get.ensures.says

pub returns-then-options-eq0-clause-says : goal.returns-then-options-eq0-clause-says
returns-then-options-eq0-clause-says c = λ w free l.
    let none = c.if-options-eq0.true in
    got_at_once c.args.self.now.tree c.args.options.now c.args.key w c.args.self.now.worker (Err c.args.fault) free
    (unless_pending c.args.fault (c.if-is_pending.ensures.no refl)) (λ is. none) l

pub returns-clause-says : goal.returns-clause-says
returns-clause-says c = λ w free l.
    let b = c.args.self.now.tree in
    let h = c.args.options.now in
    let k = c.args.key in
    let x = c.args.self.now.worker in
    let z = c.get_again.new.self.worker in
    let r = c.get_again.result in
    let some = c.if-options-eq0.false in
    let failed = get_failed b.layout h.tries k w x c.args.fault (c.if-is_pending.ensures.no refl) l in
    let busy = subst (λ (f : CallFault). LeavesGet b.layout h.tries k w x (Err f)) failed.0 l in
    let once = gets_once b.layout h.tries k w x _ free failed.1 (inr (free, busy)) in
    let rest = subst (λ (g : Options). GetsIn b g k (g.rounds + 1) x z r) c.without_one.ensures
    c.get_again.ensures.says in
    let same : GetsIn b h k ((h.rounds - 1) + 1) x z r =
    record { answers = rest.answers; stores = rest.stores; frees = rest.frees } in
    gets_now b h k w z r free failed.1 (subst (λ (n : ℕ). GetsIn b h k n w z r) (omega (arith, some))
    (gets_at_last b h k ((h.rounds - 1) + 1) w x z r once same))
