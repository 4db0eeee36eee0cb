-- Where a slot stays free, a call does not find each slot taken; so what is not answered lacks room.
use Rattle.std.proofs.Common.{◌≡◌, ◌∙◌, ◌⊎◌, inl, inr, ◌<◌, ◌≤◌, ◌+◌, ℕ, zero, suc, Bool, true, false, true≢false, List, [], ◌∷◌, ◌++◌, append_assoc, length, length-append, refl, sym, ap, subst, arith}
use Rattle.std.specs.Prelude.{Contains, None, Result, Ok, Err}
use Rattle.nm_edge.specs.Layouts.{Layout, IsLayout}
use Rattle.nm_model.specs.declared.event.Event.{Event}
use Rattle.nm_model.specs.declared.event.Event.TheVariants.{Claim, Look}
use Rattle.nm_model.specs.declared.event.Field.TheVariants.{Birth}
use Rattle.nm_model.specs.declared.event.Op.{Op}
use Rattle.nm_model.specs.declared.event.Op.TheVariants.{Delete, Insert}
use Rattle.nm_model.specs.declared.reply.Reply.{Reply}
use Rattle.nm_model.specs.declared.reply.Reply.TheVariants.{BirthIs, Taken}
use Rattle.nm_model.specs.declared.trace.Turn.{Turn}
use Rattle.nm_model.specs.Headline.{Headline, StandsAt, TellsWhatStands, words_after}
use Rattle.nm_model.specs.Memory.{node}
use Rattle.nm_model.specs.Step.{last_number}
use Rattle.nm_theorem.proofs.HeadlineOfRuns.{each_run_has_it}
use Rattle.nm_progress.specs.Alone.{RunsAlone}
use Rattle.nm_steps.specs.Steps.{HasSeen, PassView, TreeView}
use Rattle.nm_calls.specs.declared.fault.CallFault.{CallFault}
use Rattle.nm_calls.specs.declared.fault.CallFault.TheVariants as fault
use Rattle.nm_puts.specs.declared.putting.Condition.{Condition}
use Rattle.nm_puts.specs.declared.putting.PutOutcome.{PutOutcome}
use Rattle.nm_tree.specs.Answers.{FoundNoSlot, HasMade, LacksRoom}
use Rattle.nm_tree.specs.Workers.{WorkerView}
use Rattle.nm_set.specs.declared.managed.Options.{Options}
use Rattle.nm_set.specs.Asked.{UnlessPinned}
use Rattle.nm_set.specs.Managed.{IsLeft, ManagesIn}
use Rattle.nm_set.specs.MapPuts.{SaysManagedPut}
use Rattle.nm_set.proofs.Managing.{none_there, stays_alone}
use Rattle.nm_callers.specs.Enough.{IsAnswer, StaysFree, WasInUse}

-- ---- turns

same_birth : (b : ℕ) → ◌≡◌ {A = Reply} (BirthIs last_number) (BirthIs b) → b ≡ last_number
same_birth b e = cc

record SplitAt (ts : List Turn) (t : Turn) : Type 0 where
  before : List Turn
  rest : List Turn
  are : ts ≡ before ++ t ∷ rest

split_at : (ts : List Turn) (t : Turn) → Contains ts t → SplitAt ts t
split_at [] t (i, below, at) = absurd (omega (arith, below))
split_at (x ∷ ts) t (zero, below, at) = record { before = []; rest = ts; are = ap (λ (y : Turn). y ∷ ts) at }
split_at (x ∷ ts) t (suc i, below, at) = let r = split_at ts t (i, omega (arith, below), at) in
    record { before = x ∷ r.before; rest = r.rest; are = ap (λ (l : List Turn). x ∷ l) r.are }

module _ (p q : PassView) (seen : HasSeen q.view) (fits : IsLayout q.view.layout) where
  abbrev L : Layout
  L = q.view.layout

  headline : Headline L q.view.past
  headline = subst (Headline L) (sym seen.are) (each_run_has_it L fits true seen.events seen.keys)

  -- what a worker has read since p stood at a moment since p
  record Stood (w : ℕ) (e : Event) (r : Reply) : Type 0 where
    so_far : List Turn
    rest : List Turn
    are : q.view.past ≡ so_far ++ rest
    later : length p.view.past ≤ length so_far
    stands : TellsWhatStands (words_after L so_far) w e r

  stood : (turns : List Turn) → q.view.past ≡ p.view.past ++ turns → (w : ℕ) (e : Event) (r : Reply)
      → HasMade w turns e r → Stood w e r
  stood turns is w e r made =
      let t : Turn = record { worker = w; event = e; outcome = Ok r } in
      let at = split_at turns t made in
      let whole : q.view.past ≡ (p.view.past ++ at.before) ++ t ∷ at.rest = is
      ∙ (ap (λ (l : List Turn). p.view.past ++ l) at.are
      ∙ sym (append_assoc p.view.past at.before (t ∷ at.rest))) in
      record {
        so_far = p.view.past ++ at.before;
        rest = t ∷ at.rest;
        are = whole;
        later = (let n = length-append p.view.past at.before in omega (arith, n));
        stands = headline.reads (p.view.past ++ at.before) at.rest t r whole refl;
      }

  pub found_one : StaysFree p q → FoundNoSlot p q → ⊥
  found_one free (turns, is, finds) = by (finds free.slot free.low free.within)
    where
      by : HasMade q.view.number turns (Claim free.slot) Taken
          ⊎ HasMade q.view.number turns (Look free.slot Birth) (BirthIs last_number) → ⊥
      by (inl made) = let s = stood turns is q.view.number (Claim free.slot) Taken made in
          true≢false (sym (free.pooled s.so_far s.rest s.are s.later) ∙ s.stands)
      by (inr made) = let s = stood turns is q.view.number (Look free.slot Birth) (BirthIs last_number) made in
          free.births s.so_far s.rest s.are s.later (same_birth (node (words_after L s.so_far) free.slot).birth
          s.stands)

  -- a slot that was found taken stood at another place than in the pool
  placed : (s : ℕ) → 6 ≤ s → s ≤ L.nodes → Stood q.view.number (Claim s) Taken → WasInUse p q s
  placed s low within at =
      let one = headline.places at.so_far at.rest at.are s low within in
      record {
        so_far = at.so_far;
        rest = at.rest;
        are = at.are;
        later = at.later;
        used = inl (
          one.place,
          λ pool. true≢false (sym (subst (StandsAt L at.so_far s) pool one.here) ∙ at.stands),
          one.here,
        );
      }

  pub in_use : FoundNoSlot p q → (s : ℕ) → 6 ≤ s → s ≤ L.nodes → WasInUse p q s
  in_use (turns, is, finds) s low within = by (finds s low within)
    where
      by : HasMade q.view.number turns (Claim s) Taken
          ⊎ HasMade q.view.number turns (Look s Birth) (BirthIs last_number) → WasInUse p q s
      by (inl made) = placed s low within (stood turns is q.view.number (Claim s) Taken made)
      by (inr made) = let at = stood turns is q.view.number (Look s Birth) (BirthIs last_number) made in
          record {
            so_far = at.so_far;
            rest = at.rest;
            are = at.are;
            later = at.later;
            used = inr (same_birth (node (words_after L at.so_far) s).birth at.stands);
          }

-- ---- managed calls

-- after a put that was full each slot was in use
pub put_was_full : (b : TreeView) (h : Options) (when : Condition) (k v : ℕ) (w z : WorkerView)
    (r : Result PutOutcome CallFault) → HasSeen z.pass.view → IsLayout z.pass.view.layout
    → SaysManagedPut b h when k v w z r → r ≡ Err fault.Full
    → (s : ℕ) → 6 ≤ s → s ≤ z.pass.view.layout.nodes → WasInUse w.pass z.pass s
put_was_full b h when k v w z r seen fits (inl pinned) is = absurd (let no = sym is ∙ pinned.1 in cc)
put_was_full b h when k v w z r seen fits (inr (free, m)) is =
    in_use w.pass z.pass seen fits (subst (IsLeft Insert k w z) is m.answers.left).2

module _ (map : Bool) (b : TreeView) (h : Options) (op : Op) (k : ℕ) (w z : WorkerView) (some : 1 ≤ h.tries)
    (runs : RunsAlone w.pass z.pass) (slots : FoundNoSlot w.pass z.pass → ⊥) (room : LacksRoom z → ⊥) where
  room_or : (h.tries < 1) ⊎ LacksRoom z → ⊥
  room_or (inl less) = omega (arith, some, less)
  room_or (inr lacks) = room lacks

  managed_answers : (r : Result Bool CallFault) → ManagesIn map b h op k w z r → IsAnswer r
  managed_answers (Ok answer) m = tt
  managed_answers (Err fault.Busy) m = let less = m.alone runs in omega (arith, some, less)
  managed_answers (Err fault.Full) m = slots m.answers.left.2
  managed_answers (Err fault.NoMemory) m = room m.answers.left.2
  managed_answers (Err fault.Unfinished) m = room_or (m.alone runs)
  managed_answers (Err fault.Pending) m = room_or (stays_alone h w z runs.alone (m.pending (inl refl)))
  managed_answers (Err fault.Pinned) m = m.answers.left

  pub answers_with_enough : (r : Result Bool CallFault) → w.held ≡ None
      → UnlessPinned (ManagesIn map b h op k w z r) w z r → IsAnswer r
  answers_with_enough r free (inl pinned) = none_there w.held free pinned.0
  answers_with_enough r free (inr did) = managed_answers r did.1

-- a remove is never full
pub removes_with_room : (map : Bool) (b : TreeView) (h : Options) (k : ℕ) (w z : WorkerView) → 1 ≤ h.tries
    → RunsAlone w.pass z.pass → (LacksRoom z → ⊥) → (r : Result Bool CallFault) → w.held ≡ None
    → UnlessPinned (ManagesIn map b h Delete k w z r) w z r → IsAnswer r
removes_with_room map b h k w z some runs room r free (inl pinned) = none_there w.held free pinned.0
removes_with_room map b h k w z some runs room r free (inr did) = by r did.1
  where
    either : (h.tries < 1) ⊎ LacksRoom z → ⊥
    either (inl less) = omega (arith, some, less)
    either (inr lacks) = room lacks

    by : (r : Result Bool CallFault) → ManagesIn map b h Delete k w z r → IsAnswer r
    by (Err fault.Full) m = absurd (let no = m.answers.left.0 in cc)
    by (Ok answer) m = tt
    by (Err fault.Busy) m = let less = m.alone runs in omega (arith, some, less)
    by (Err fault.NoMemory) m = room m.answers.left.2
    by (Err fault.Unfinished) m = either (m.alone runs)
    by (Err fault.Pending) m = either (stays_alone h w z runs.alone (m.pending (inl refl)))
    by (Err fault.Pinned) m = m.answers.left
