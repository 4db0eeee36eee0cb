-- The answers to the lines of a script, by the results of their calls.
use Rattle.std.specs.Prelude.{ℕ, Bool, Option, Some, None, Result, Ok, Err}
use Rattle.nm_epoch.specs.declared.answers.Advance.{Advance}
use Rattle.nm_epoch.specs.declared.answers.Advance.TheVariants as advance
use Rattle.nm_epoch.specs.declared.collecting.Collected.{Collected}
use Rattle.nm_calls.specs.declared.fault.CallFault.{CallFault}
use Rattle.nm_calls.specs.declared.fault.CallFault.TheVariants as fault
use Rattle.nm_tree.specs.declared.fault.PinFault.{PinFault}
use Rattle.nm_tree.specs.declared.fault.PinFault.TheVariants as pinning
use Rattle.nm_serial.specs.declared.answer.Answer.{Answer}
use Rattle.nm_serial.specs.declared.answer.Answer.TheVariants as answer
use Rattle.nm_serial.specs.declared.answer.Refusal.TheVariants as refusal

-- the answer to a look-up, an insert, a delete or a finish; none if memory was refused
abbrev pub change_answer : Result Bool CallFault → Option Answer
change_answer (Ok b) = Some (answer.Said b)
change_answer (Err fault.Busy) = Some answer.Busy
change_answer (Err fault.Full) = Some answer.Full
change_answer (Err fault.NoMemory) = None
change_answer (Err fault.Unfinished) = Some answer.Unfinished
change_answer (Err fault.Pending) = Some answer.Pending
change_answer (Err fault.Pinned) = Some (answer.Refused refusal.Held)

-- `pin_answer`, `advance_answer`, `collection_answer`: the answer to a pin, to an advance of the
-- epoch, and to a collection
abbrev pub pin_answer : Result ℕ PinFault → Answer
pin_answer (Ok epoch) = answer.Pinned epoch
pin_answer (Err (pinning.Moved epoch)) = answer.Moved epoch
pin_answer (Err pinning.Pending) = answer.Pending
pin_answer (Err pinning.Pinned) = answer.Refused refusal.Held

abbrev pub advance_answer : Advance → Answer
advance_answer (advance.Moved epoch) = answer.Moved epoch
advance_answer (advance.Held worker epoch) = answer.Held worker epoch
advance_answer (advance.Lost epoch) = answer.Lost epoch
advance_answer advance.Spent = answer.Spent

abbrev pub collection_answer : Collected → Answer
collection_answer c = answer.Collected c.epoch c.freed
