use Rattle.std.proofs.Common.{◌≡◌, ◌++◌, ◌∷◌, [], rules}
use Rattle.std.proofs.lemmas.List.Elements.{All-head, All-tail, All-push}
use Rattle.nm_tree.specs.Calls.{MayCall}
use Rattle.nm_tree.specs.Workers.{WorkerView}
use Rattle.set_bench.proofs.grown.parted.Goals as goal

pub loop-worker-preserved-in-Continue-1 : goal.loop-worker-preserved-in-Continue-1
loop-worker-preserved-in-Continue-1 c =
    let pushed : c.push.new.self.items ≡ c.loop-worker.workers.items ++ c.in-Some.worker ∷ [] = search rules in
    let i = c.loop-worker.invariant in
    let P : WorkerView → Type 0 = λ w. MayCall c.args.tree.now w in
    let all = rw c.in-Some.ensures.steps.0 at i.left in
    record {
      threads = rw pushed (All-push P c.loop-worker.workers.items c.in-Some.worker i.threads
          (All-head P c.in-Some.worker c.next.new.self.rest.items all));
      others = i.others;
      left = All-tail P c.in-Some.worker c.next.new.self.rest.items all;
    }

pub loop-worker-preserved : goal.loop-worker-preserved
loop-worker-preserved c =
    let pushed : c.push-else-has_thread.new.self.items
    ≡ c.loop-worker.others.items ++ c.in-Some.worker ∷ [] = search rules in
    let i = c.loop-worker.invariant in
    let P : WorkerView → Type 0 = λ w. MayCall c.args.tree.now w in
    let all = rw c.in-Some.ensures.steps.0 at i.left in
    record {
      threads = i.threads;
      others = rw pushed (All-push P c.loop-worker.others.items c.in-Some.worker i.others
          (All-head P c.in-Some.worker c.next.new.self.rest.items all));
      left = All-tail P c.in-Some.worker c.next.new.self.rest.items all;
    }
