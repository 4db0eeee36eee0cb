-- A reference to a shared set may be shared, and its callers may go from thread to thread.
use denote.Param.Send.{IsSend, IsSync, part_keyless, sendable}
use denote.RattleType.{RattleType}
use Rattle.std.proofs.Crossing.{crosses}
use Rattle.atomic_table.specs.contracts.shared.Seat as seat
use Rattle.atomic_table.proofs.shared.Seat.TheSendSync as seat_crosses
use Rattle.counted_slot.proofs.Counted.TheSendSync as counted
use Rattle.nm_steps.specs.contracts.pass.Pass as pass
use Rattle.nm_steps.specs.contracts.pass.notes.Note as note
use Rattle.nm_edge.proofs.placement.Placement.TheSendSync as placement
use Rattle.nm_epoch.proofs.collecting.HeldQueue.TheSendSync as queue
use Rattle.nm_tree.proofs.worker.Worker.TheSendSync as worker_crosses
use Rattle.nm_tree.specs.contracts.worker.Worker as worker
use Rattle.nm_tree.proofs.tree.Tree.TheSendSync as tree
use Rattle.nm_set.specs.contracts.posting.Letter as letter
use Rattle.nm_set.proofs.posting.Letter.TheSendSync as letter_crosses
use Rattle.nm_set.specs.contracts.home.Home as home
use Rattle.nm_set.proofs.home.Home.TheSendSync as home_crosses
use Rattle.nm_set.specs.contracts.set.Set as set
use Rattle.nm_set.specs.declared.contents.Contents as contents
use Rattle.nm_set.proofs.Sending.{member_send, set_send}
use Rattle.nm_lending.proofs.lending.Lending.TheSendSync as lending
use Rattle.nm_lending.proofs.lending.Caller.TheSendSync as visitor
use Rattle.nm_shared.specs.contracts.shared_set.Worker as shared_worker
use Rattle.nm_shared.specs.contracts.shared_set.Caller as caller
use Rattle.nm_shared.specs.contracts.shared_set.SharedSet as shared

-- what a reference to a table's seat gives is a part of the seat
seat_sync : (S V : RattleType) → IsSend S → IsSync (seat.the_row S V)
seat_sync S V s = record {
  shared = λ d b o κ q. part_keyless (seat.the_row S V) (seat_crosses.the_send S V s) q d b o;
}

pass_sync : IsSync pass.the_row
pass_sync = search (sendable, crosses, seat_sync) depth 20

worker_sync : IsSync worker.the_row
worker_sync = search (sendable, crosses, pass_sync, placement.the_sync, queue.the_sync) depth 80

note_send : IsSend note.the_row
note_send = search (sendable, crosses, seat_crosses.the_send) depth 20

note_sync : IsSync note.the_row
note_sync = search (sendable, crosses, seat_sync) depth 20

letter_sync : IsSync letter.the_row
letter_sync = search (sendable, crosses, note_sync) depth 20

home_sync : IsSync home.the_row
home_sync = search (
  sendable,
  crosses,
  tree.the_sync,
  counted.the_sync,
  lending.the_sync,
  worker_crosses.the_send,
  letter_crosses.the_send,
  letter_sync,
  worker_sync,
) depth 60

module _ (V : RattleType) (g : contents.Ghosts V.Denot) where
  pub worker_send : IsSend (shared_worker.the_row V g)
  worker_send = search (sendable, crosses, member_send) depth 60

  set_sync : IsSync (set.the_row V g)
  set_sync = search (sendable, crosses, home_crosses.the_send, home_sync, tree.the_sync, worker_sync) depth 80

  pub shared_sync : IsSync (shared.the_row V g)
  shared_sync = search (sendable, crosses, set_sync, lending.the_sync, worker_send) depth 80

  pub caller_send : IsSend (caller.the_row V g)
  caller_send = search (sendable, crosses, visitor.the_send, worker_send, note_send) depth 80
