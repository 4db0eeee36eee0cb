use Rattle.std.proofs.Common.{◌≡◌, ◌++◌, drop}
use Rattle.nm_files.specs.Replies.{spaced_nodes}
use Rattle.nm_files.proofs.write.reply.put_spaced_nodes.Given as goal

abbrev pub invariant-loop-node : goal.invariant-loop-node
invariant-loop-node l = l.out.items ++ spaced_nodes (drop l.node-index l.nodes) ≡ l.fn.out.items ++ spaced_nodes l.nodes
