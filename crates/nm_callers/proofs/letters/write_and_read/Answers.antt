use denote.Param.Send.{sendable}
use Rattle.std.proofs.Crossing.{crosses}
use Rattle.nm_set.proofs.Sending.{member_send}
use Rattle.nm_callers.proofs.letters.write_and_read.Goals as goal

pub join-requires-send-F : goal.join-requires-send-F
join-requires-send-F g c κs within = search (sendable, crosses, member_send) depth 60

pub join-requires-send-A : goal.join-requires-send-A
join-requires-send-A g c κs within = search (sendable, crosses, member_send) depth 60
