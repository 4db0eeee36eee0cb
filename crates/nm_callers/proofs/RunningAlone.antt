-- Calls of a worker that runs alone are answered.
use Rattle.std.proofs.Common.{◌≡◌, ◌∙◌, ◌+◌, ◌<◌, ◌≤◌, ◌⊎◌, inl, inr, ℕ, Bool, refl, ap, arith}
use Rattle.std.specs.Prelude.{Option, None, Result, Ok, Err}
use Rattle.nm_edge.specs.Keys.{IsKey}
use Rattle.nm_edge.specs.Layouts.{Layout}
use Rattle.nm_model.specs.declared.event.Op.{Op}
use Rattle.nm_model.specs.declared.event.Op.TheVariants.{Insert, Delete}
use Rattle.nm_steps.specs.Steps.{TreeView}
use Rattle.nm_calls.specs.declared.fault.CallFault.{CallFault}
use Rattle.nm_calls.specs.declared.fault.CallFault.TheVariants as fault
use Rattle.nm_progress.specs.Alone.{RunsAlone}
use Rattle.nm_progress.proofs.RunningAlone.{runs_before, runs_later}
use Rattle.nm_tree.specs.Answers.{InsertTold, LacksRoom}
use Rattle.nm_tree.specs.Calls.{LeavesInsert, LeavesDelete}
use Rattle.nm_tree.specs.Popping.{SaysPop}
use Rattle.nm_tree.specs.Workers.{WorkerView}
use Rattle.nm_set.specs.declared.managed.Options.{Options}
use Rattle.nm_set.specs.Managed.{Manages, SaysManaged}
use Rattle.nm_set.specs.Popping.{Pops, SaysManagedPop, pop_rounds_bound}
use Rattle.nm_set.proofs.Managing.{none_there, stays_alone}
use Rattle.nm_callers.specs.AnsweredAlone.{IsAnswered, IsAnsweredWithRoom}

-- ---- calls of a tree

module _ (L : Layout) (t k : ℕ) (w z : WorkerView) where
  insert_answered : (r : Result Bool CallFault) → 1 ≤ t → w.pending ≡ None → LeavesInsert L t k w z r
      → RunsAlone w.pass z.pass → IsAnswered r
  insert_answered (Ok answer) some none l runs = tt
  insert_answered (Err fault.Busy) some none l runs = let less = l.alone runs in absurd (omega (arith, some, less))
  insert_answered (Err fault.Full) some none l runs = tt
  insert_answered (Err fault.NoMemory) some none l runs = tt
  insert_answered (Err fault.Unfinished) some none l runs = absurd l.says.told
  insert_answered (Err fault.Pending) some none l runs = none_there w.pending none l.says.told.0
  insert_answered (Err fault.Pinned) some none l runs = absurd l.says.told

  still_none : (r : Result Bool CallFault) → w.pending ≡ None → InsertTold w z r → z.pending ≡ None
  still_none (Ok answer) none told = told.1
  still_none (Err fault.Busy) none told = told.1
  still_none (Err fault.Full) none told = told.0.1
  still_none (Err fault.NoMemory) none told = told.0.1
  still_none (Err fault.Unfinished) none told = absurd told
  still_none (Err fault.Pending) none told = ap (λ (v : WorkerView). v.pending) told.1 ∙ none
  still_none (Err fault.Pinned) none told = absurd told

  delete_answered : (r : Result Bool CallFault) → 2 ≤ t → w.pending ≡ None → LeavesDelete L t k w z r
      → RunsAlone w.pass z.pass → IsAnsweredWithRoom z r
  delete_answered (Ok answer) some none l runs room = tt
  delete_answered (Err fault.Busy) some none l runs room = let less = l.alone runs in absurd (omega (arith, some, less))
  delete_answered (Err fault.Full) some none l runs room = tt
  delete_answered (Err fault.NoMemory) some none l runs room = tt
  delete_answered (Err fault.Unfinished) some none l runs room = by (l.alone runs)
    where
      by : (t < 2) ⊎ LacksRoom z → ⊥
      by (inl less) = omega (arith, some, less)
      by (inr lacks) = room lacks
  delete_answered (Err fault.Pending) some none l runs room = none_there w.pending none l.says.told.0
  delete_answered (Err fault.Pinned) some none l runs room = absurd l.says.told

pub both_answered : (L : Layout) (t k : ℕ) (w x z : WorkerView) (q r : Result Bool CallFault) → 2 ≤ t
    → w.pending ≡ None → LeavesInsert L t k w x q → LeavesDelete L t k x z r → RunsAlone w.pass z.pass
    → IsAnswered q × IsAnsweredWithRoom z r
both_answered L t k w x z q r some none first last runs =
    let before = runs_before w.pass x.pass z.pass first.says.same first.says.past last.says.past runs in
    let later = runs_later w.pass x.pass z.pass first.says.same first.says.past last.says.past runs in (
      insert_answered L t k w x q (omega (arith, some)) none first before,
      delete_answered L t k x z r some
          (still_none L t k w x q none first.says.told) last later,
    )

pub pop_answered : (L : Layout) (t : ℕ) (w z : WorkerView) (r : Result (Option ℕ) CallFault) → 2 ≤ t
    → w.pending ≡ None → SaysPop ◌<◌ L t w z r → RunsAlone w.pass z.pass → IsAnsweredWithRoom z r
pop_answered L t w z (Ok taken) some none s runs room = tt
pop_answered L t w z (Err fault.Busy) some none s runs room = let less = s.alone runs in
    absurd (omega (arith, some, less))
pop_answered L t w z (Err fault.Full) some none s runs room = tt
pop_answered L t w z (Err fault.NoMemory) some none s runs room = tt
pop_answered L t w z (Err fault.Unfinished) some none s runs room = by (s.alone runs)
  where
    by : (t < 2) ⊎ LacksRoom z → ⊥
    by (inl less) = omega (arith, some, less)
    by (inr lacks) = room lacks
pop_answered L t w z (Err fault.Pending) some none s runs room = none_there w.pending none s.told.0
pop_answered L t w z (Err fault.Pinned) some none s runs room = absurd s.told

-- ---- managed calls

pub was_managed : (op : Op) (b : TreeView) (h : Options) (k : ℕ) (w z : WorkerView) (r : Result Bool CallFault)
    → w.held ≡ None → SaysManaged op b h k w z r → Manages b h op k w z r
was_managed op b h k w z r free (inl pinned) = none_there w.held free pinned.0
was_managed op b h k w z r free (inr did) = did.1

module _ (b : TreeView) (h : Options) (k : ℕ) (w z : WorkerView) (some : 1 ≤ h.tries) where
  room_or : (h.tries < 1) ⊎ LacksRoom z → (LacksRoom z → ⊥) → ⊥
  room_or (inl less) room = omega (arith, some, less)
  room_or (inr lacks) room = room lacks

  pub managed_answered : (op : Op) (r : Result Bool CallFault) → Manages b h op k w z r → RunsAlone w.pass z.pass
      → IsAnsweredWithRoom z r
  managed_answered op (Ok answer) m runs room = tt
  managed_answered op (Err fault.Busy) m runs room = let less = m.alone runs in absurd (omega (arith, some, less))
  managed_answered op (Err fault.Full) m runs room = tt
  managed_answered op (Err fault.NoMemory) m runs room = tt
  managed_answered op (Err fault.Unfinished) m runs room = room_or (m.alone runs) room
  managed_answered op (Err fault.Pending) m runs room = room_or
      (stays_alone h w z runs.alone (m.pending (inl refl))) room
  managed_answered op (Err fault.Pinned) m runs room = absurd m.answers.left

  -- an insert needs no room if nothing is pending
  pub managed_insert : (r : Result Bool CallFault) → w.pending ≡ None → Manages b h Insert k w z r
      → RunsAlone w.pass z.pass → IsAnswered r
  managed_insert (Ok answer) none m runs = tt
  managed_insert (Err fault.Busy) none m runs = let less = m.alone runs in absurd (omega (arith, some, less))
  managed_insert (Err fault.Full) none m runs = tt
  managed_insert (Err fault.NoMemory) none m runs = tt
  managed_insert (Err fault.Unfinished) none m runs = absurd (let no = m.answers.left.0 in cc)
  managed_insert (Err fault.Pending) none m runs = none_there w.pending none m.answers.left.0
  managed_insert (Err fault.Pinned) none m runs = absurd m.answers.left

pub both_managed : (b : TreeView) (h : Options) (k : ℕ) (w x z : WorkerView) (q r : Result Bool CallFault)
    → 1 ≤ h.tries → w.held ≡ None → w.pending ≡ None → SaysManaged Insert b h k w x q
    → SaysManaged Delete b h k x z r → RunsAlone w.pass z.pass → IsAnswered q × IsAnsweredWithRoom z r
both_managed b h k w x z q r some free none put taken runs =
    let first = was_managed Insert b h k w x q free put in
    let on = first.answers.on in
    let last = was_managed Delete b h k x z r on.held taken in
    let past = last.answers.on.past in (
      managed_insert b h k w x some q none first (runs_before w.pass x.pass z.pass on.same on.past past runs),
      managed_answered b h k x z some Delete r last (runs_later w.pass x.pass z.pass on.same on.past past runs),
    )

-- ---- a pop

pub popped_alone : (b : TreeView) (h : Options) (w z : WorkerView) (r : Result (Option ℕ) CallFault) → 2 ≤ h.tries
    → w.held ≡ None → SaysManagedPop ◌<◌ b h w z r → RunsAlone w.pass z.pass → IsAnsweredWithRoom z r
popped_alone b h w z r some free (inl pinned) runs room = none_there w.held free pinned.0
popped_alone b h w z r some free (inr did) runs room = by r did.1
  where
    room_or : {A : Type 0} → (h.tries < 1) ⊎ LacksRoom z → A
    room_or (inl less) = absurd (omega (arith, some, less))
    room_or (inr lacks) = absurd (room lacks)

    by : (r : Result (Option ℕ) CallFault) → Pops IsKey ◌<◌ h (pop_rounds_bound h b.layout) (h.rounds + 1) w z
        r → IsAnswered r
    by (Ok taken) m = tt
    by (Err fault.Busy) m = let less = m.alone runs in absurd (omega (arith, some, less))
    by (Err fault.Full) m = tt
    by (Err fault.NoMemory) m = tt
    by (Err fault.Unfinished) m = room_or (m.alone runs)
    by (Err fault.Pending) m = room_or (stays_alone h w z runs.alone (m.pending (inl refl)))
    by (Err fault.Pinned) m = absurd m.left
