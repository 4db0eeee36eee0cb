use Rattle.std.proofs.Common.{◌≡◌, ◌≤◌, ◌+◌, ◌++◌, map, take, length, vec_len}
use Rattle.std.specs.Prelude.{vec_capacity}
use Rattle.nm_model.specs.Queues.{unlabelled}
use Rattle.nm_model.proofs.queue.append_unlabelled.Given as goal

-- the nodes so far are in, and there is room for all
abbrev pub invariant-loop-node : goal.invariant-loop-node
invariant-loop-node l =
    record {
      items : l.entries.items ≡ l.initial.entries.items ++ map unlabelled (take l.node-index l.nodes);
      len : vec_len l.entries ≡ vec_len l.initial.entries + l.node-index;
      room : vec_len l.initial.entries + length l.nodes ≤ vec_capacity l.entries;
    }
