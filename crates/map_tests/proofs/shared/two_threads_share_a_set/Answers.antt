use denote.Param.Send.{sendable}
use Rattle.std.proofs.Crossing.{crosses}
use Rattle.nm_shared.proofs.Sending.{shared_sync, caller_send}
use Rattle.map_tests.proofs.shared.two_threads_share_a_set.Goals as goal

pub join-both-requires-send-F : goal.join-both-requires-send-F
join-both-requires-send-F c κs within = search (sendable, crosses, shared_sync, caller_send) depth 60

pub join-both-requires-send-A : goal.join-both-requires-send-A
join-both-requires-send-A c κs within = search (sendable, crosses, shared_sync, caller_send) depth 60
