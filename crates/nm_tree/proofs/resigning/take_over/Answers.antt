use Rattle.std.proofs.Common.{◌≡◌, ℕ, ◌+◌, ◌<◌, ◌≤◌, List, [], ◌∷◌, ◌++◌, length, append_assoc, ap, ◌∙◌, arith}
use Rattle.std.specs.Prelude.{vec_capacity, insert}
use Rattle.std.proofs.lemmas.List.{length-append}
use Rattle.nm_epoch.specs.declared.collecting.HeldQueue.{HeldQueue}
use Rattle.nm_tree.specs.Resigning.{merged, place_in}
use Rattle.nm_tree.proofs.Merging.{length-merged, inserted_there}
use Rattle.nm_tree.proofs.resigning.take_over.Goals as goal

-- how many queues there are, and how many are still to come
module _ (hs more front gs : List HeldQueue) (q : HeldQueue) (now : List HeldQueue) (all : more ≡ front ++ gs)
    (rest : List HeldQueue) (last : front ≡ rest ++ q ∷ []) (is : now ≡ merged hs gs) (room : ℕ)
    (enough : length hs + length more ≤ room) where
  long : length now ≡ length hs + length gs
  long = ap (λ (l : List HeldQueue). length l) is ∙ length-merged hs gs

  less : length now < room
  less =
      let a : length more ≡ length front + length gs = ap (λ (l : List HeldQueue). length l) all
      ∙ length-append front gs in
      let b : length front ≡ length rest + 1 = ap (λ (l : List HeldQueue). length l) last
      ∙ length-append rest (q ∷ []) in
      omega (arith, long, a, b, enough)

pub put_at-requires : goal.put_at-requires
put_at-requires c =
    let t = c.loop-queue.invariant.taken in
    let less' = less c.args.queues.now.items c.args.more.items c.loop-queue.more.items t.0 c.in-Some.queue
    c.loop-queue.queues.items t.1 c.pop.new.self.items (rw c.in-Some.is at c.pop.ensures.items) t.2
    (vec_capacity c.args.queues.now) c.requires.room in
    let same = c.loop-queue.invariant.capacity in
    let within = c.place_of-place.ensures.within in
    let value = ap (λ (l : List HeldQueue). length l) c.as_slice.ensures.value in
    (omega (arith, within, value), omega (arith, less', same))

pub loop-queue-preserved : goal.loop-queue-preserved
loop-queue-preserved c =
    let t = c.loop-queue.invariant.taken in
    let last = rw c.in-Some.is at c.pop.ensures.items in
    let q = c.in-Some.queue in
    let place : c.place_of-place.result ≡ place_in q.origin (merged c.args.queues.now.items t.0) =
    c.place_of-place.ensures.place ∙ (ap (λ (l : List HeldQueue). place_in q.origin l) c.as_slice.ensures.value
    ∙ ap (λ (l : List HeldQueue). place_in q.origin l) t.2) in
    record {
      taken = (
        q ∷ t.0,
        t.1 ∙ (ap (λ (l : List HeldQueue). l ++ t.0) last ∙ append_assoc c.pop.new.self.items (q ∷ []) t.0),
        c.put_at.ensures.items ∙ (ap (λ (l : List HeldQueue). insert l c.place_of-place.result q) t.2
            ∙ (ap (λ (n : ℕ). insert (merged c.args.queues.now.items t.0) n q) place
            ∙ inserted_there q (merged c.args.queues.now.items t.0))),
      );
      capacity = c.put_at.ensures.capacity ∙ c.loop-queue.invariant.capacity;
    }
