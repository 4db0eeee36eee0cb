use Rattle.std.proofs.Common.{ℕ, ◌++◌, length, sym, ap, ◌∙◌, arith, rules}
use Rattle.std.specs.Prelude.{Option, option_to_list}
use Rattle.std.proofs.lemmas.List.{length-append}
use Rattle.nm_edge.specs.Layouts.{Layout}
use Rattle.nm_model.specs.Reports.{keys_below}
use Rattle.nm_model.proofs.SetKeys.{none_there}
use Rattle.nm_edge.specs.Words.{IsSlot}
use Rattle.nm_model.specs.Paths.{Reached}
use Rattle.nm_tree.specs.Ended.{IsEndOf, end_of}
use Rattle.nm_tree.proofs.Ends.{layout_is, low_child, few_reached}
use Rattle.nm_tree.proofs.LeavesFound.{as_many, leaf_more, next_reached, no_leaves, root_reached, taken_reached}
use Rattle.nm_tree.proofs.Parts.{begun, passed, part_within, gone_on, room_left, all_found, all_visited, popped_fewer, visited_fewer}
use Rattle.nm_tree.proofs.reporting.walk.walk.Goals as goal

pub loop-part-init : goal.loop-part-init
loop-part-init c = record {
  walk = λ e. begun c.args.layout.nodes (end_of c.args.layout c.args.words.now.core e).memory c.args.found.now.items
      c.args.waiting.now.items (let least = e.fits.least in omega (arith, least)) c.requires.first c.requires.root;
  leaves = λ e. no_leaves c.args.layout (end_of c.args.layout c.args.words.now.core e).memory c.args.found.now.items
      c.args.leaves.now.items c.requires.first c.requires.no_leaf;
  parts = λ e. root_reached (end_of c.args.layout c.args.words.now.core e).memory c.args.layout.nodes
      c.args.waiting.now.items c.requires.root;
  stack = let one = ap length c.requires.root in omega (arith, one);
  key_room = c.requires.key_room;
  leaf_room = c.requires.leaf_room;
  part_room = c.requires.part_room;
}

pub node-top-requires-clause-slot : goal.node-top-requires-clause-slot
node-top-requires-clause-slot c =
    let some = c.if-part-ne0.true in (
      omega (arith, some),
      part_within c.args.layout.nodes (end_of c.args.layout c.args.words.now.core c.requires.ended).memory
          c.loop-part.visited c.loop-part.found.items c.loop-part.waiting.items c.pop.new.self.items c.in-Some.part
          c.in-Some.ensures.items (c.loop-part.invariant.walk c.requires.ended),
    )

pub overflow_add-visited : goal.overflow_add-visited
overflow_add-visited c =
    let left = room_left c.args.layout.nodes (end_of c.args.layout c.args.words.now.core c.requires.ended).memory
    c.loop-part.visited c.loop-part.found.items c.loop-part.waiting.items c.pop.new.self.items c.in-Some.part
    c.node-top.result
    (low_child c.args.layout c.args.words.now.core c.requires.ended) c.in-Some.ensures.items c.if-part-ne0.true
    c.if-part-ne0-2.true (c.node-top.ensures c.requires.ended)
    (few_reached c.args.layout c.args.words.now.core c.requires.ended) (c.loop-part.invariant.walk c.requires.ended) in
    let one = left.0 in
    let most = c.requires.ended.fits.most in
    omega (arith, one, most)

pub put_below-requires : goal.put_below-requires
put_below-requires c =
    let left = room_left c.args.layout.nodes (end_of c.args.layout c.args.words.now.core c.requires.ended).memory
    c.loop-part.visited c.loop-part.found.items c.loop-part.waiting.items c.pop.new.self.items c.in-Some.part
    c.node-top.result
    (low_child c.args.layout c.args.words.now.core c.requires.ended) c.in-Some.ensures.items c.if-part-ne0.true
    c.if-part-ne0-2.true (c.node-top.ensures c.requires.ended)
    (few_reached c.args.layout c.args.words.now.core c.requires.ended) (c.loop-part.invariant.walk c.requires.ended) in
    let one = left.0 in
    let size = ap length c.in-Some.ensures.items ∙ length-append c.pop.new.self.items _ in
    omega (arith, one, size, c.loop-part.invariant.stack, c.loop-part.invariant.part_room, c.pop.ensures.capacity)

pub put_key-requires-clause-keys : goal.put_key-requires-clause-keys
put_key-requires-clause-keys c =
    let left = room_left c.args.layout.nodes (end_of c.args.layout c.args.words.now.core c.requires.ended).memory
    c.loop-part.visited c.loop-part.found.items c.loop-part.waiting.items c.pop.new.self.items c.in-Some.part
    c.node-top.result
    (low_child c.args.layout c.args.words.now.core c.requires.ended) c.in-Some.ensures.items c.if-part-ne0.true
    c.if-part-ne0-2.true (c.node-top.ensures c.requires.ended)
    (few_reached c.args.layout c.args.words.now.core c.requires.ended) (c.loop-part.invariant.walk c.requires.ended) in
    let key = left.1 in
    let same = ap (λ (o : Option ℕ). length (option_to_list o)) c.set_key.ensures in
    omega (arith, key, same, c.loop-part.invariant.key_room)

pub put_key-requires-clause-leaves : goal.put_key-requires-clause-leaves
put_key-requires-clause-leaves c =
    let left = room_left c.args.layout.nodes (end_of c.args.layout c.args.words.now.core c.requires.ended).memory
    c.loop-part.visited c.loop-part.found.items c.loop-part.waiting.items c.pop.new.self.items c.in-Some.part
    c.node-top.result
    (low_child c.args.layout c.args.words.now.core c.requires.ended) c.in-Some.ensures.items c.if-part-ne0.true
    c.if-part-ne0-2.true (c.node-top.ensures c.requires.ended)
    (few_reached c.args.layout c.args.words.now.core c.requires.ended) (c.loop-part.invariant.walk c.requires.ended) in
    let key = left.1 in
    let same = ap (λ (o : Option ℕ). length (option_to_list o)) c.set_key.ensures in
    let many = as_many c.args.layout (end_of c.args.layout c.args.words.now.core c.requires.ended).memory
    c.loop-part.found.items c.loop-part.leaves.items (c.loop-part.invariant.leaves c.requires.ended) in
    omega (arith, key, same, many, c.loop-part.invariant.leaf_room)

pub loop-part-smaller-then-part-ne0-2 : goal.loop-part-smaller-then-part-ne0-2
loop-part-smaller-then-part-ne0-2 c = visited_fewer c.loop-part.waiting.items c.pop.new.self.items
    c.put_below.new.waiting.items c.in-Some.part c.node-top.result.left.slot c.node-top.result.right.slot
    c.in-Some.ensures.items c.if-part-ne0-2.true c.put_below.ensures.items

pub loop-part-preserved-then-part-ne0-2 : goal.loop-part-preserved-then-part-ne0-2
loop-part-preserved-then-part-ne0-2 c = record {
  walk = λ e. gone_on c.args.layout.nodes (end_of c.args.layout c.args.words.now.core e).memory c.loop-part.visited
      c.loop-part.found.items c.put_key.new.found.items c.loop-part.waiting.items c.pop.new.self.items
      c.put_below.new.waiting.items c.in-Some.part c.node-top.result
      (low_child c.args.layout c.args.words.now.core e) c.in-Some.ensures.items c.if-part-ne0.true
      c.if-part-ne0-2.true (c.node-top.ensures e)
      (c.put_key.ensures.items ∙ ap (λ (o : Option ℕ). c.loop-part.found.items ++ option_to_list o)
      c.set_key.ensures) c.put_below.ensures.items (c.loop-part.invariant.walk e);
  leaves = λ e. leaf_more c.args.layout (end_of c.args.layout c.args.words.now.core e).memory c.loop-part.found.items
      c.put_key.new.found.items c.loop-part.leaves.items c.put_key.new.leaves.items c.node-top.result
      c.in-Some.part.slot c.set_key.result
      (slot_there e) (reached_there e) (c.node-top.ensures e) c.set_key.ensures c.put_key.ensures.items
      c.put_key.ensures.slots (c.loop-part.invariant.leaves e);
  parts = λ e. next_reached (end_of c.args.layout c.args.words.now.core e).memory c.loop-part.waiting.items
      c.pop.new.self.items c.put_below.new.waiting.items c.in-Some.part c.node-top.result
      c.in-Some.ensures.items c.if-part-ne0.true (c.node-top.ensures e) c.put_below.ensures.items
      (c.loop-part.invariant.parts e);
  stack =
      let size = ap length c.in-Some.ensures.items ∙ length-append c.pop.new.self.items _ in
      let next = ap length c.put_below.ensures.items ∙ length-append c.pop.new.self.items _ in
      omega (arith, size, next, c.loop-part.invariant.stack);
  key_room = omega (arith, c.loop-part.invariant.key_room, c.put_key.ensures.room);
  leaf_room = omega (arith, c.loop-part.invariant.leaf_room, c.put_key.ensures.leaf_room);
  part_room = omega (arith, c.loop-part.invariant.part_room, c.pop.ensures.capacity, c.put_below.ensures.room);
}
  where
    slot_there : (e : IsEndOf c.args.layout c.args.words.now.core) → IsSlot c.args.layout c.in-Some.part.slot
    slot_there e =
        let some = c.if-part-ne0.true in (
          omega (arith, some),
          part_within c.args.layout.nodes (end_of c.args.layout c.args.words.now.core e).memory c.loop-part.visited
              c.loop-part.found.items c.loop-part.waiting.items c.pop.new.self.items c.in-Some.part
              c.in-Some.ensures.items (c.loop-part.invariant.walk e),
        )

    reached_there : (e : IsEndOf c.args.layout c.args.words.now.core)
        → Reached (end_of c.args.layout c.args.words.now.core e).memory c.in-Some.part.slot
    reached_there e = (taken_reached (end_of c.args.layout c.args.words.now.core e).memory c.loop-part.waiting.items
        c.pop.new.self.items c.in-Some.part c.in-Some.ensures.items (c.loop-part.invariant.parts e)).1
        c.if-part-ne0.true

pub loop-part-smaller : goal.loop-part-smaller
loop-part-smaller c = popped_fewer c.loop-part.waiting.items c.pop.new.self.items c.in-Some.part c.in-Some.ensures.items

pub loop-part-preserved : goal.loop-part-preserved
loop-part-preserved c = record {
  walk = λ e. passed c.args.layout.nodes (end_of c.args.layout c.args.words.now.core e).memory c.loop-part.visited
      c.loop-part.found.items c.loop-part.waiting.items c.pop.new.self.items c.in-Some.part c.in-Some.ensures.items
      (none_there c.in-Some.part.slot c.in-Some.part.depth c.else-part-ne0.either) (c.loop-part.invariant.walk e);
  leaves = c.loop-part.invariant.leaves;
  parts = λ e. (taken_reached (end_of c.args.layout c.args.words.now.core e).memory c.loop-part.waiting.items
      c.pop.new.self.items c.in-Some.part c.in-Some.ensures.items (c.loop-part.invariant.parts e)).0;
  stack =
      let size = ap length c.in-Some.ensures.items ∙ length-append c.pop.new.self.items _ in
      omega (arith, size, c.loop-part.invariant.stack);
  key_room = c.loop-part.invariant.key_room;
  leaf_room = c.loop-part.invariant.leaf_room;
  part_room = omega (arith, c.loop-part.invariant.part_room, c.pop.ensures.capacity);
}

pub returns-clause-keys : goal.returns-clause-keys
returns-clause-keys c = λ e.
    all_found c.args.layout.nodes (end_of c.args.layout c.args.words.now.core e).memory c.loop-part.visited
    c.loop-part.found.items c.loop-part.waiting.items (search rules) (c.loop-part.invariant.walk e)
    ∙ ap (λ (l : Layout). keys_below l.nodes (end_of c.args.layout c.args.words.now.core e).memory 1)
    (sym (layout_is c.args.layout c.args.words.now.core e))

pub returns-clause-visited : goal.returns-clause-visited
returns-clause-visited c = λ e. all_visited c.args.layout.nodes (end_of c.args.layout c.args.words.now.core e).memory
    c.loop-part.visited c.loop-part.found.items c.loop-part.waiting.items (search rules) (c.loop-part.invariant.walk e)
