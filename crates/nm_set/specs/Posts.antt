-- Stamps that workers publish in their mailboxes, for the other workers of their set.
use Rattle.std.specs.Prelude.{◌≡◌, ◌⊎◌, ◌<◌, ◌≤◌, ◌+◌, ℕ, List, ◌++◌, Option, Some, None, Result, Ok, Err, is_some, if◌then◌else◌}
use Rattle.nm_model.specs.declared.trace.Turn.{Turn}
use Rattle.nm_order.specs.Logs.{part_of}
use Rattle.nm_steps.specs.Rules.{Extends, ExtendsStores}
use Rattle.nm_steps.specs.Steps.{TreeView, Notice, HasHeard, HasSeenAllOf, IsNoteOf}
use Rattle.nm_progress.specs.Pending.{leaf_after}
use Rattle.nm_walks.specs.WonCounts.{won_links, won_flags}
use Rattle.nm_epoch.specs.Collecting.{capped}
use Rattle.nm_tree.specs.Workers.{WorkerView}
use Rattle.nm_tree.specs.declared.resigning.ResignReason.{ResignReason}
use Rattle.nm_set.specs.declared.fault.ObserveFault.{ObserveFault}
use Rattle.nm_set.specs.declared.fault.ObserveFault.TheVariants as posting
use Rattle.nm_set.specs.declared.home.Site.{Site}
use Rattle.nm_set.specs.declared.posting.Stamp.{Stamp}
use Rattle.nm_set.specs.Seats.{IsAbsence, IsResident, IsTicketOf, MemberView, Stays}
use Rattle.nm_lending.specs.Views.{CallerView, LendingView}

-- 1 if a delete of worker i is pending by these turns, else 0
abbrev pub pending_by : ℕ → List Turn → ℕ
pending_by i turns = if is_some (leaf_after i None turns) then 1 else 0

-- by these turns worker i has inserted and removed the numbers of keys in the stamp, each counted
-- up to 2^64 - 1: the links that it has won, and the flags, without that of a pending delete
pub record HasTally (i : ℕ) (p : Stamp) (turns : List Turn) : Type 0 where
  pub inserted : p.inserted ≡ capped (won_links (part_of i turns))
  pub removed : p.removed + pending_by i turns ≡ capped (won_flags (part_of i turns))

-- the stamp has what this worker has done so far
abbrev pub IsTallyOf : WorkerView → Stamp → Type 0
IsTallyOf w p = HasTally w.pass.view.number p w.pass.view.past

-- what clauses see of a returned worker: its tree; the worker as it was returned; what it had done;
-- and a note of all that it had seen
pub record ReturnedView : Type 0 where
  pub tree : TreeView
  pub worker : Option WorkerView
  pub done : Stamp
  pub note : Notice

-- this very worker was returned, with what it has done, and with a note of what it has seen, of
-- which its log is its part
pub record IsReturned (w : WorkerView) (r : ReturnedView) : Type 0 where
  pub worker : r.worker ≡ Some w
  pub tally : IsTallyOf w r.done
  pub note : IsNoteOf w.pass r.note
  pub own : part_of w.pass.view.number r.note.past ≡ w.pass.view.log

-- no worker was found; or the worker of number i was found on its seat, stays for that reason, and was
-- returned as it was found
abbrev pub IsSentBack : MemberView → ℕ → ResignReason → Option ReturnedView → Type 0
IsSentBack m i why None = IsAbsence why
IsSentBack m i why (Some r) = (r.tree ≡ m.tree) × (w : WorkerView)
    × IsResident m.tree m.worker.fit i w × Stays w why × IsReturned w r

-- the worker sat down on one of these seats, and left this ticket, with what it has done and a note
-- of what it has seen
pub record HasSat (s : LendingView Site) (w : WorkerView) (done : Stamp) (note : Notice)
    (t : CallerView WorkerView Site) : Type 0 where
  pub tally : IsTallyOf w done
  pub noted : IsNoteOf w.pass note
  pub own : part_of w.pass.view.number note.past ≡ w.pass.view.log
  pub sat : IsTicketOf s w t

-- what was seen extends what worker i had seen when it had inserted and removed the numbers of keys
-- in the stamp
pub record ComesBehind (i : ℕ) (p : Stamp) (seen : List Turn) : Type 0 where
  pub before : List Turn
  pub goes_on : Extends seen before
  pub tally : HasTally i p before

-- a note of that tree that extends what worker i had won when it published the stamp
pub record IsLetter (b : TreeView) (i : ℕ) (p : Stamp) (note : Notice) : Type 0 where
  pub table : note.table ≡ b.table
  pub told : ComesBehind i p note.past

-- a worker has heard the stamp of worker i: what worker i had seen then, and all that the worker
-- itself had seen before, happens before all that it does from now on; hearing does nothing else
pub record HasHeardOf (b : TreeView) (i : ℕ) (p : Stamp) (w z : WorkerView) : Type 0 where
  pub same : HasHeard w.pass z.pass
  pub past : HasSeenAllOf z.pass w.pass
  pub stores : ExtendsStores z.pass.view.stores w.pass.view.stores
  pub told : ComesBehind i p z.pass.view.past
  pub rest : z ≡ record w { pass = z.pass }

-- if there was a stamp, the worker has heard it; if there was none, or another worker is at that
-- mailbox, nothing has changed
abbrev pub Hears : TreeView → ℕ → WorkerView → WorkerView → Result (Option Stamp) ObserveFault → Type 0
Hears b i w z (Ok (Some p)) = HasHeardOf b i p w z
Hears b i w z (Ok None) = z ≡ w
Hears b i w z (Err posting.Busy) = z ≡ w
Hears b i w z (Err posting.Number) = ⊥

-- the call returns `Number`, and changes nothing, exactly if no worker has that number
abbrev pub ReadsNote : TreeView → ℕ → WorkerView → WorkerView → Result (Option Stamp) ObserveFault → Type 0
ReadsNote b i w z r = ((i < b.layout.workers) × Hears b i w z r)
    ⊎ ((b.layout.workers ≤ i) × (r ≡ Err posting.Number) × (z ≡ w))

-- ---- the order of two workers

-- by these turns worker i has inserted nothing, and removed nothing
pub record HasWonNothing (i : ℕ) (turns : List Turn) : Type 0 where
  pub links : won_links (part_of i turns) ≡ 0
  pub flags : won_flags (part_of i turns) ≡ 0

-- what was seen extends all that worker i had inserted and removed by the turns `told`: it extends
-- these turns, or a beginning of them after which worker i has won nothing, and at whose end none
-- of its deletes was pending
pub record HasHeardAll (i : ℕ) (told seen : List Turn) : Type 0 where
  pub before : List Turn
  pub goes_on : Extends seen before
  pub all : Extends before told
      ⊎ ((more : List Turn) × (told ≡ before ++ more) × HasWonNothing i more × (leaf_after i None before ≡ None))

-- in one run worker i had inserted and removed the numbers of keys in p, which are below 2^64 - 1,
-- with no delete pending. If a reader has heard a stamp of worker i whose numbers are not less, it
-- has heard of all of them
abbrev pub LettersAreInOrder : Type 0
LettersAreInOrder = (run told seen : List Turn) (i : ℕ) (p q : Stamp) → Extends run told
    → Extends run seen → HasTally i p told → leaf_after i None told ≡ None → ComesBehind i q seen
    → p.inserted ≤ q.inserted → p.removed ≤ q.removed → p.inserted < 18446744073709551615
    → p.removed < 18446744073709551615 → HasHeardAll i told seen
