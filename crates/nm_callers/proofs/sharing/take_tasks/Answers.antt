use Rattle.std.proofs.Common.{◌≡◌, ◌<◌, ◌+◌, ◌∙◌, ℕ, List, [], ◌∷◌, length, length-append, sym, ap, subst, arith}
use Rattle.std.specs.Prelude.{Option, Ok}
use Rattle.nm_tree.specs.Workers.{WorkerView}
use Rattle.nm_set.specs.Popping.{SaysManagedPop}
use Rattle.nm_callers.specs.Queues.{HasWorked}
use Rattle.nm_callers.proofs.Working.{takes_one}
use Rattle.nm_callers.proofs.sharing.take_tasks.Goals as goal

pub loop-turn-preserved : goal.loop-turn-preserved
loop-turn-preserved c =
    let b = c.loop-turn.member.tree in
    let h = c.args.options.now in
    let k = c.in-Ok-Some.task in
    let w : WorkerView = c.args.member.now.worker in
    let x : WorkerView = c.loop-turn.member.worker in
    let z : WorkerView = c.pop_first.new.self.worker in
    let before : List ℕ = c.loop-turn.taken.items in
    let says = subst (λ (o : Option ℕ). SaysManagedPop ◌<◌ b h x z (Ok o)) c.in-Ok-Some.field-0-is
    c.in-Ok-Some.ensures.says in
    let size : length c.push_reserved.new.self.items
    ≡ length before + 1 = ap (λ (ks : List ℕ). length ks) c.push_reserved.ensures.items
    ∙ length-append before (k ∷ []) in
    let few = c.loop-turn.invariant.few in
    let room = c.loop-turn.invariant.room in
    let same = c.push_reserved.ensures.capacity in
    record {
      tree = c.pop_first.ensures.tree ∙ c.loop-turn.invariant.tree;
      did = subst (λ (n : ℕ). HasWorked w z 0 n) (sym size)
          (takes_one b h k w x z (length before) c.loop-turn.invariant.did says);
      few = omega (arith, few, size);
      room = omega (arith, room, same);
    }
