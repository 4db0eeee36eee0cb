use Rattle.std.proofs.Common.{◌≡◌, ◌++◌, rules}
use Rattle.std.proofs.lemmas.List.Elements.{All-append}
use Rattle.nm_tree.specs.Calls.{MayCall}
use Rattle.nm_tree.specs.Workers.{WorkerView}
use Rattle.set_bench.proofs.Owned.{all_are_of}
use Rattle.set_bench.proofs.grown.Grown.close.Goals as goal

pub close-requires : goal.close-requires
close-requires g c =
    let P : WorkerView → Type 0 = λ w. MayCall c.self.inside.tree w in
    let joined : c.append.new.self.items ≡ c.self.inside.workers.items ++ c.self.inside.others.items = search rules in
    record {
      own = rw joined (all_are_of c.self.inside.tree
          (c.self.inside.workers.items ++ c.self.inside.others.items)
          (All-append P c.self.inside.workers.items c.self.inside.others.items c.self.invariant.0 c.self.invariant.1));
    }
