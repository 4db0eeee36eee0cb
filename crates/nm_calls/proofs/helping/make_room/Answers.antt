use Rattle.nm_calls.proofs.Rooms.{room_made}
use Rattle.nm_calls.proofs.helping.make_room.Goals as goal

pub returns-clause-blocks : goal.returns-clause-blocks
returns-clause-blocks c = room_made c.args.queue.now c.reserve.new.self c.reserve.result c.reserve.ensures.grown
    c.reserve.ensures.balanced c.reserve.ensures.ok c.reserve.ensures.refused
