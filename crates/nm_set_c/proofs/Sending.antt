-- What a handle owns may go from thread to thread.
use denote.Enum.Declared.{shape}
use denote.Param.Send.{IsSend, enum_send, recorded_send, sendable}
use Rattle.std.proofs.Crossing.{crosses}
use Rattle.nm_epoch.proofs.collecting.HeldQueue.TheSendSync as queue
use Rattle.nm_set.proofs.Sending.{member_send, set_send}
use Rattle.nm_set_c.specs.contracts.owner.Owner as owner
use Rattle.nm_set_c.specs.contracts.remains.Remains as remains
use Rattle.nm_set_c.proofs.SentWords.{sent_words}

-- what is left of a set or a map, as a field of another type
remains_send : IsSend (remains.the_field).row
remains_send = search (sendable, crosses, sent_words, queue.the_send) depth 80

-- a set, a worker, a map, a worker of a map, what is left of one, or nothing
pub owner_send : IsSend owner.the_row
owner_send = recorded_send _ _ _ owner.the_type.to_one (enum_send (shape owner.the_type) (
  (search (set_send) depth 5, tt),
  (
    (search (member_send) depth 5, tt),
    (
      (search (set_send) depth 5, tt),
      ((search (member_send) depth 5, tt), ((remains_send, tt), (tt, tt))),
    ),
  ),
))
