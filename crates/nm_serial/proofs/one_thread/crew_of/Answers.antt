use Rattle.std.proofs.Common.{◌≡◌, ◌++◌, ◌∷◌, [], IfSome, Option, Some, rules, append_assoc}
use Rattle.std.proofs.lemmas.List.Elements.{All-head, All-tail, All-push}
use Rattle.nm_steps.specs.Steps.{IsOf}
use Rattle.nm_tree.specs.Workers.{WorkerView}
use Rattle.nm_serial.proofs.one_thread.crew_of.Goals as goal

pub loop-worker-preserved : goal.loop-worker-preserved
loop-worker-preserved c =
    let pushed : c.push.new.self.items ≡ c.loop-worker.crew.items ++ Some c.in-Some.worker ∷ [] = search rules in
    let i = c.loop-worker.invariant in
    let cut = c.in-Some.ensures.steps.0 in
    let P : WorkerView → Type 0 = λ w. IsOf c.args.tree.now w.pass in
    let all = rw cut at i.left in
    record {
      own = rw pushed (All-push (λ (o : Option WorkerView). IfSome o (λ w. IsOf c.args.tree.now w.pass))
          c.loop-worker.crew.items (Some c.in-Some.worker) i.own
          (All-head P c.in-Some.worker c.next.new.self.rest.items all));
      left = All-tail P c.in-Some.worker c.next.new.self.rest.items all;
      places = rw (pushed, append_assoc) (rw cut at i.places);
    }
