-- Members, sets and maps may go from thread to thread.
use denote.Param.Send.{IsSend, IsSync, part_keyless, sendable}
use denote.RattleType.{RattleType}
use Rattle.std.proofs.Crossing.{crosses}
use Rattle.atomic_table.specs.contracts.shared.Seat as seat
use Rattle.atomic_table.proofs.shared.Seat.TheSendSync as seat_crosses
use Rattle.counted_slot.proofs.Counted.TheSendSync as counted
use Rattle.nm_steps.specs.contracts.pass.Pass as pass
use Rattle.nm_steps.specs.contracts.pass.notes.Note as note
use Rattle.nm_edge.proofs.placement.Placement.TheSendSync as placement
use Rattle.nm_epoch.proofs.collecting.HeldQueue.TheSendSync as queue
use Rattle.nm_tree.specs.contracts.worker.Worker as worker
use Rattle.nm_tree.proofs.worker.Worker.TheSendSync as worker_crosses
use Rattle.nm_tree.proofs.tree.Tree.TheSendSync as tree
use Rattle.nm_lending.proofs.lending.Lending.TheSendSync as seats
use Rattle.nm_lending.proofs.lending.Loan.TheSendSync as way_back
use Rattle.nm_set.specs.contracts.posting.Letter as letter
use Rattle.nm_set.proofs.posting.Letter.TheSendSync as letter_crosses
use Rattle.nm_set.specs.contracts.home.Home as home
use Rattle.nm_set.proofs.home.Home.TheSendSync as home_crosses
use Rattle.nm_set.specs.contracts.member.Member as member
use Rattle.nm_set.specs.contracts.set.Set as set
use Rattle.nm_set.specs.declared.contents.Contents as contents

-- what a reference to a table's seat gives is a part of the seat
seat_sync : (S V : RattleType) → IsSend S → IsSync (seat.the_row S V)
seat_sync S V s = record { shared = λ d b o κ q. part_keyless (seat.the_row S V) (seat_crosses.the_send S V s) q d b o }

pass_sync : IsSync pass.the_row
pass_sync = search (sendable, crosses, seat_sync) depth 20

worker_sync : IsSync worker.the_row
worker_sync = search (sendable, crosses, pass_sync, placement.the_sync, queue.the_sync) depth 80

note_sync : IsSync note.the_row
note_sync = search (sendable, crosses, seat_sync) depth 20

letter_sync : IsSync letter.the_row
letter_sync = search (sendable, crosses, note_sync) depth 20

home_sync : IsSync home.the_row
home_sync = search (
  sendable,
  crosses,
  tree.the_sync,
  counted.the_sync,
  seats.the_sync,
  worker_crosses.the_send,
  letter_crosses.the_send,
  letter_sync,
  worker_sync,
) depth 60

pub member_send : (V : RattleType) (g : contents.Ghosts V.Denot) → IsSend (member.the_row V g)
member_send V g = search (
  sendable,
  crosses,
  home_crosses.the_send,
  home_sync,
  worker_crosses.the_send,
  way_back.the_send,
) depth 60

pub set_send : (V : RattleType) (g : contents.Ghosts V.Denot) → IsSend (set.the_row V g)
set_send V g = search (sendable, crosses, home_crosses.the_send, home_sync, tree.the_send, worker_crosses.the_send)
    depth 80
