-- What calls return to C.
use Rattle.std.specs.Prelude.{◌≡◌, ℤ, pos, negsuc, Bool, true, false, Result, Ok, Err}
use Rattle.nm_calls.specs.declared.fault.CallFault.{CallFault}
use Rattle.nm_calls.specs.declared.fault.CallFault.TheVariants as fault
use Rattle.nm_model.specs.declared.new_error.NewError.{NewError}
use Rattle.nm_model.specs.declared.new_error.NewError.TheVariants as making
use Rattle.nm_puts.specs.declared.putting.PutOutcome.{PutOutcome}
use Rattle.nm_puts.specs.declared.putting.PutOutcome.TheVariants as put
use Rattle.nm_set.specs.declared.fault.MemberFault.{MemberFault}
use Rattle.nm_set.specs.declared.fault.MemberFault.TheVariants as taking
use Rattle.nm_tree.specs.declared.removing.RemoveOutcome.{RemoveOutcome}
use Rattle.nm_tree.specs.declared.removing.RemoveOutcome.TheVariants as removal
use Rattle.nm_tree.specs.declared.resigning.ResignReason.{ResignReason}
use Rattle.nm_tree.specs.declared.resigning.ResignReason.TheVariants as staying
use Rattle.nm_tree.specs.declared.closing.CloseReason.{CloseReason}
use Rattle.nm_tree.specs.declared.closing.CloseReason.TheVariants as because
use Rattle.nm_set_c.specs.declared.outcome.Outcome.{Outcome}
use Rattle.nm_set_c.specs.declared.outcome.Outcome.TheVariants as outcome

-- the number of an outcome in the header
unfoldable pub code_of : Outcome → ℤ
code_of outcome.No = pos 0
code_of outcome.Yes = pos 1
code_of outcome.Done = pos 2
code_of outcome.Inserted = pos 3
code_of outcome.Replaced = pos 4
code_of outcome.Absent = pos 5
code_of outcome.Other = pos 6
code_of outcome.Closed = negsuc 0
code_of outcome.Open = negsuc 1
code_of outcome.Kind = negsuc 2
code_of outcome.Key = negsuc 3
code_of outcome.Number = negsuc 4
code_of outcome.Nodes = negsuc 5
code_of outcome.Workers = negsuc 6
code_of outcome.NoMemory = negsuc 7
code_of outcome.Busy = negsuc 8
code_of outcome.Full = negsuc 9
code_of outcome.Unfinished = negsuc 10
code_of outcome.Pending = negsuc 11
code_of outcome.Pinned = negsuc 12
code_of outcome.NotPinned = negsuc 13
code_of outcome.Behind = negsuc 14
code_of outcome.Lost = negsuc 15
code_of outcome.Spent = negsuc 16
code_of outcome.Attached = negsuc 17
code_of outcome.Closing = negsuc 18
code_of outcome.NotAll = negsuc 19
code_of outcome.Uncounted = negsuc 20
code_of outcome.InUse = negsuc 21
code_of outcome.NoWorker = negsuc 22

-- the number is the code of an outcome that has this property
abbrev pub IsCodeOf : (Outcome → Type 0) → ℤ → Type 0
IsCodeOf P n = (o : Outcome) × (n ≡ code_of o) × P o

-- ---- the results of the calls of a set and its workers, as outcomes

-- `of_bool`, `of_fault`, `of_answer`, `of_put`, `of_remove`, `of_new`, `of_taking`, `of_staying`,
-- `of_reason`: the outcome for the result of a call of `nm_set`
abbrev pub of_bool : Bool → Outcome
of_bool true = outcome.Yes
of_bool false = outcome.No

abbrev pub of_fault : CallFault → Outcome
of_fault fault.Busy = outcome.Busy
of_fault fault.Full = outcome.Full
of_fault fault.NoMemory = outcome.NoMemory
of_fault fault.Unfinished = outcome.Unfinished
of_fault fault.Pending = outcome.Pending
of_fault fault.Pinned = outcome.Pinned

abbrev pub of_answer : Result Bool CallFault → Outcome
of_answer (Ok b) = of_bool b
of_answer (Err f) = of_fault f

abbrev pub of_put : Result PutOutcome CallFault → Outcome
of_put (Ok put.Inserted) = outcome.Inserted
of_put (Ok (put.Replaced value)) = outcome.Replaced
of_put (Ok put.Absent) = outcome.Absent
of_put (Ok (put.Other value)) = outcome.Other
of_put (Err f) = of_fault f

abbrev pub of_remove : Result RemoveOutcome CallFault → Outcome
of_remove (Ok removal.Removed) = outcome.Yes
of_remove (Ok removal.Absent) = outcome.Absent
of_remove (Ok (removal.Other value)) = outcome.Other
of_remove (Err f) = of_fault f

abbrev pub of_new : NewError → Outcome
of_new making.Nodes = outcome.Nodes
of_new making.Workers = outcome.Workers
of_new making.NoMemory = outcome.NoMemory

abbrev pub of_taking : MemberFault → Outcome
of_taking taking.Number = outcome.Number
of_taking taking.Attached = outcome.Attached
of_taking taking.NoWorker = outcome.NoWorker
of_taking taking.Closing = outcome.Closing
of_taking taking.Uncounted = outcome.Uncounted

abbrev pub of_staying : ResignReason → Outcome
of_staying staying.Number = outcome.Number
of_staying staying.Attached = outcome.Attached
of_staying staying.Pending = outcome.Pending
of_staying staying.Held = outcome.Pinned
of_staying staying.NoMemory = outcome.NoMemory

abbrev pub of_reason : CloseReason → Outcome
of_reason because.Attached = outcome.Attached
of_reason (because.NotAll given made) = outcome.NotAll
of_reason because.NoMemory = outcome.NoMemory
