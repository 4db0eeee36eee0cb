-- What the parts of a managed call leave, for the contracts inside this crate.
use Rattle.std.specs.Prelude.{◌≡◌, ◌+◌, ◌*◌, ℕ, Bool, Option, Some, None, Result, Ok, Err}
use Rattle.nm_edge.specs.Layouts.{IsLayout, Layout}
use Rattle.nm_model.specs.declared.event.Op.{Op}
use Rattle.nm_model.specs.declared.event.Op.TheVariants.{Delete, Insert}
use Rattle.nm_steps.specs.Steps.{TreeView, HasSeen}
use Rattle.nm_epoch.specs.declared.answers.Advance.{Advance}
use Rattle.nm_epoch.specs.declared.answers.Advance.TheVariants as advance
use Rattle.nm_calls.specs.Won.{HasWon}
use Rattle.nm_calls.specs.declared.fault.CallFault.{CallFault}
use Rattle.nm_calls.specs.declared.fault.CallFault.TheVariants as fault
use Rattle.nm_tree.specs.Answers.{FinishHasMoment, FinishTold, FreesNone}
use Rattle.nm_tree.specs.Workers.{WorkerView, IsBetweenCalls}
use Rattle.nm_set.specs.declared.fault.Fullness.{Fullness}
use Rattle.nm_set.specs.declared.fault.InsertFault.{InsertFault}
use Rattle.nm_set.specs.declared.fault.InsertFault.TheVariants as inserting
use Rattle.nm_set.specs.declared.managed.Options.{Options}
use Rattle.nm_set.specs.Managed.{Answers, Collects, FindsBehind, GoesOn, Manages, MetInterference, Prepares, Since, StaysPending, WasFull, of_insert, round_bound}

-- what a worker has seen, and what it holds between two calls, as `Member::know_run` shows it
pub record IsKnown (w : WorkerView) : Type 0 where
  pub seen : HasSeen w.pass.view
  pub between : IsBetweenCalls w
  pub fits : IsLayout w.pass.view.layout

-- the steps of n rounds
abbrev pub rounds_bound : TreeView → Options → ℕ → ℕ
rounds_bound b h n = n * round_bound h.tries b.layout

-- the worker has gone on, in at most `most` steps; nothing is pending, and it has won nothing
pub record IsOnward (most : ℕ) (w z : WorkerView) : Type 0 where
  pub on : GoesOn most w z
  pub none : z.pending ≡ None
  pub won : HasWon w.pass.view.log z.pass.view.log 0 0

-- n calls of the tree in a row were busy
pub record WereBusy (b : TreeView) (h : Options) (op : Op) (n : ℕ) (w z : WorkerView) : Type 0 where
  pub onward : IsOnward (rounds_bound b h n) w z
  pub met : MetInterference op w.pass z.pass (n * h.tries)

-- at most n calls of the tree, made until one is not busy
abbrev pub AnswersIn : TreeView → Options → Op → ℕ → ℕ → WorkerView → WorkerView → Result Bool CallFault → Type 0
AnswersIn b h op k n = Answers op k (rounds_bound b h n) (n * h.tries)

-- a call that goes on with a pending remove, with the tries of all rounds. If the remove is not
-- finished, the worker lacks room, or others changed edges (`lost`). It has freed no node (`frees`)
pub record Finishes (b : TreeView) (h : Options) (w z : WorkerView) (r : Result Bool CallFault) : Type 0 where
  pub on : GoesOn (rounds_bound b h (h.rounds + 1)) w z
  pub told : FinishTold w z r
  pub moment : FinishHasMoment w z r
  pub won : HasWon w.pass.view.log z.pass.view.log 0 0
  pub lost : r ≡ Err fault.Unfinished → StaysPending h w z
  pub frees : FreesNone w z

-- the worker that an advance found announcing another epoch than the one that it read; of two
-- advances the one that the second found, or else the one that the first found
abbrev pub found_behind : Advance → Advance → Option ℕ
found_behind first (advance.Held worker at) = Some worker
found_behind (advance.Held worker at) second = Some worker
found_behind first second = None

-- two attempts to advance the epoch, and a collection; `behind` is the worker that was found to
-- hold it back
pub record IsRelieved (L : Layout) (w z : WorkerView) (behind : Option ℕ) : Type 0 where
  pub onward : IsOnward (L.nodes + 2 * L.workers + 2) w z
  pub finds : Since w.pass z.pass (FindsBehind w.pass.view.number behind)
  pub collects : Collects w z.pass

-- the remove of an earlier call is finished, and the worker has collected if many nodes waited
pub record IsReady (b : TreeView) (h : Options) (w z : WorkerView) : Type 0 where
  pub onward : IsOnward (rounds_bound b h (h.rounds + 2)) w z
  pub prepares : (op : Op) → Prepares h op w z.pass

-- `plain`, `with_fullness`: the result of an insert that is not full; and that of an insert which
-- found no free slot, with the worker that was found to hold the epoch back, and how many nodes
-- wait
abbrev pub plain : Result Bool CallFault → Result Bool InsertFault
plain (Ok answer) = Ok answer
plain (Err f) = Err (inserting.Other f)

abbrev pub with_fullness : Option ℕ → ℕ → Result Bool CallFault → Result Bool InsertFault
with_fullness behind waiting (Err fault.Full) =
    Err (inserting.Full (record { waiting = waiting; behind = behind }))
with_fullness behind waiting told = plain told

-- an insert that collects once if no slot is free
pub record Inserts (b : TreeView) (h : Options) (k : ℕ) (w z : WorkerView) (r : Result Bool InsertFault) : Type 0 where
  pub answers : Answers Insert k (rounds_bound b h (2 * h.rounds + 3)) ((h.rounds + 1) * h.tries) w z
      (of_insert r)
  pub full : of_insert r ≡ Err fault.Full → (f : Fullness) × (r ≡ Err (inserting.Full f)) × WasFull w z f

-- a remove, with retries, which is finished if it has flagged its leaf. If it is not finished, the
-- worker lacks room, or others changed edges (`lost`)
pub record Removes (b : TreeView) (h : Options) (k : ℕ) (w z : WorkerView) (r : Result Bool CallFault) : Type 0 where
  pub answers : Answers Delete k (rounds_bound b h (2 * h.rounds + 2)) ((h.rounds + 1) * h.tries) w z r
  pub lost : r ≡ Err fault.Unfinished → StaysPending h w z

-- a managed insert, with its two numbers
abbrev pub ManagesInsert : TreeView → Options → ℕ → WorkerView → WorkerView → Result Bool InsertFault → Type 0
ManagesInsert b h k w z r = Manages b h Insert k w z (of_insert r)
    × ((f : Fullness) → r ≡ Err (inserting.Full f) → WasFull w z f)
