use Rattle.std.proofs.Common.{rules, map, sym}
use Rattle.nm_model.specs.Queues.{unlabelled}
use Rattle.nm_model.proofs.QueueIndices.{covers_those_before, queue_appended, queue_restored}
use Rattle.nm_model.proofs.queue.Queue.append.Goals as goal

pub index_from-requires : goal.index_from-requires
index_from-requires c =
    rw c.as_slice.ensures.value
    (covers_those_before c.self.inside.entries.items (map unlabelled c.args.nodes.now)
    c.append_unlabelled.new.entries.items c.len-before.result _ _ c.self.inside.indices c.self.invariant
    c.in_ok-append_unlabelled.ensures.ok (search rules))

pub invariant_of-self-then-is_err : goal.invariant_of-self-then-is_err
invariant_of-self-then-is_err c =
    queue_restored c.self.inside.entries.items (map unlabelled c.args.nodes.now)
    c.append_unlabelled.new.entries.items c.len-before.result _ _ c.self.inside.indices c.self.invariant
    c.in_ok-append_unlabelled.ensures.ok (search rules)
    c.index_from.new.indices c.truncate.new.self.items c.truncate.ensures.items
    (rw (sym c.as_slice.ensures.value) (search rules))

pub invariant_of-self-else-is_err : goal.invariant_of-self-else-is_err
invariant_of-self-else-is_err c =
    queue_appended c.self.inside.entries.items (map unlabelled c.args.nodes.now)
    c.append_unlabelled.new.entries.items c.len-before.result _ _ c.self.inside.indices c.self.invariant
    c.in_ok-append_unlabelled.ensures.ok (search rules)
    c.index_from.new.indices (rw (sym c.as_slice.ensures.value) (search rules))
