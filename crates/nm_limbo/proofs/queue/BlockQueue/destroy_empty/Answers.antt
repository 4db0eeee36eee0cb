use Rattle.std.proofs.Common.{◌≡◌, [], ◌+◌, length, replicate, None, ap, ◌∙◌, arith}
use Rattle.std.proofs.lemmas.List.{replicate-append-replicate}
use Rattle.nm_limbo.specs.Queue.{items_in, left_in, laid}
use Rattle.nm_limbo.proofs.queue.BlockQueue.destroy_empty.Goals as goal

pub free-requires : goal.free-requires
free-requires g c =
    let q = c.self.inside in let is = c.self.invariant.1 in let s = left_in q.used q.popped q.len in
    let none : items_in q.used ≡ [] = ap (λ w. w.items) c.self.view_is ∙ c.requires in
    let long : q.popped + s ≡ length q.used.slots = omega (arith, is.whole, ap length none) in (
      is.alloc.0,
      is.laid_out ∙ ap (λ xs. laid q.popped xs s) none ∙ replicate-append-replicate q.popped s None
          ∙ ap (λ k. replicate k None) long,
    )
