-- Managed pops of the least and of the greatest key, of all keys or of those up to a bound.
use Rattle.std.specs.Prelude.{◌≡◌, ◌⊎◌, ◌≤◌, ◌+◌, ◌*◌, ℕ, true, Option, Some, None, IsSome, Result, Ok, Err, IfOk, IfErr}
use Rattle.nm_edge.specs.Keys.{IsKey}
use Rattle.nm_edge.specs.Layouts.{Layout}
use Rattle.nm_model.specs.declared.event.Op.TheVariants.{Delete}
use Rattle.nm_steps.specs.Steps.{TreeView}
use Rattle.nm_calls.specs.PlainWalks.{WasSo}
use Rattle.nm_calls.specs.Won.{HasWon}
use Rattle.nm_calls.specs.declared.deleting.Unfinished.{Unfinished}
use Rattle.nm_calls.specs.declared.fault.CallFault.{CallFault}
use Rattle.nm_calls.specs.declared.fault.CallFault.TheVariants as fault
use Rattle.nm_progress.specs.Alone.{RunsAlone}
use Rattle.nm_tree.specs.Answers.{FailsAlone, LacksRoom}
use Rattle.nm_tree.specs.Popping.{TakesOf, WereMissing}
use Rattle.nm_tree.specs.Workers.{WorkerView}
use Rattle.nm_set.specs.Asked.{UnlessPinned}
use Rattle.nm_set.specs.declared.managed.Options.{Options}
use Rattle.nm_set.specs.Managed.{GoesOn, MetInterference, StaysPending, round_bound}

-- which errors a pop returns, and what is pending then: nothing, except after `Unfinished` and
-- `Pending`. After `NoMemory` the worker's own queue has less room than a try needs. After
-- `Unfinished` one of these keys is pending that was in the set at a moment (linearization point) of
-- the call, and each key before it was absent at a moment of its own; after `Pending` the same key is
-- pending as before
abbrev pub PopLeft : (ℕ → Type 0) → (ℕ → ℕ → Type 0) → WorkerView → WorkerView
    → Result (Option ℕ) CallFault → Type 0
PopLeft Among Before w z (Err fault.Unfinished) =
    (n : Unfinished) × (z.pending ≡ Some n) × Among n.key × WasSo w.pass z.pass n.key true
    × WereMissing Before w.pass z.pass n.key
PopLeft Among Before w z (Err fault.Pending) = IsSome w.pending × (z.pending ≡ w.pending)
PopLeft Among Before w z (Err fault.NoMemory) = (z.pending ≡ None) × LacksRoom z
PopLeft Among Before w z (Err fault.Full) = ⊥
PopLeft Among Before w z (Err fault.Pinned) = ⊥
PopLeft Among Before w z _ = z.pending ≡ None

-- the flags that a pop has won, by its result
abbrev pub flags_told_by_pop : Result (Option ℕ) CallFault → ℕ
flags_told_by_pop (Ok (Some key)) = 1
flags_told_by_pop (Err fault.Unfinished) = 1
flags_told_by_pop _ = 0

-- `pop_round_bound`, `pop_rounds_bound`: the most steps of a round, which is a call that finds a key and a
-- managed remove; and those of a managed pop
abbrev pub pop_round_bound : Options → Layout → ℕ
pop_round_bound h L = (3 * h.rounds + 6) * round_bound h.tries L

abbrev pub pop_rounds_bound : Options → Layout → ℕ
pop_rounds_bound h L = (h.rounds + 1) * (round_bound h.tries L + pop_round_bound h L)

-- one of these keys was popped, or there was none; the pop has won the flags that its result implies and no
-- more, and has made at most `most` steps. If it was busy with two tries or more, it met interference
-- at least `times` times. If the worker ran alone, an error is due to fewer than two tries, or to a
-- lack of room (`alone`). A remove stays pending for a lack of room, or because others changed edges
-- (`pending`)
pub record Pops (Among : ℕ → Type 0) (Before : ℕ → ℕ → Type 0) (h : Options) (most times : ℕ)
    (w z : WorkerView) (r : Result (Option ℕ) CallFault) : Type 0 where
  pub took : IfOk r (TakesOf Among Before w.pass z.pass)
  pub left : PopLeft Among Before w z r
  pub won : HasWon w.pass.view.log z.pass.view.log 0 (flags_told_by_pop r)
  pub on : GoesOn most w z
  pub busy : r ≡ Err fault.Busy → 2 ≤ h.tries → MetInterference Delete w.pass z.pass times
  pub alone : RunsAlone w.pass z.pass → IfErr r (FailsAlone 2 1 h.tries z)
  pub pending : (r ≡ Err fault.Pending) ⊎ (r ≡ Err fault.Unfinished) → StaysPending h w z

-- what a caller learns from a managed pop of one of these keys, for the order in which keys are
-- popped
abbrev pub SaysManagedPopOf : (ℕ → Type 0) → (ℕ → ℕ → Type 0) → TreeView → Options → WorkerView
    → WorkerView → Result (Option ℕ) CallFault → Type 0
SaysManagedPopOf Among Before b h w z r =
    UnlessPinned (Pops Among Before h (pop_rounds_bound h b.layout) (h.rounds + 1) w z r) w z r

-- the same of all keys
abbrev pub SaysManagedPop : (ℕ → ℕ → Type 0) → TreeView → Options → WorkerView → WorkerView
    → Result (Option ℕ) CallFault → Type 0
SaysManagedPop = SaysManagedPopOf IsKey
