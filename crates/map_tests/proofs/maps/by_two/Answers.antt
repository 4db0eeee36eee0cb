use denote.Param.Send.{sendable}
use Rattle.nm_set.proofs.Sending.{member_send}
use Rattle.map_tests.proofs.maps.by_two.Goals as goal

pub join-requires-send-F : goal.join-requires-send-F
join-requires-send-F g c κs within = search (sendable, member_send) depth 20
