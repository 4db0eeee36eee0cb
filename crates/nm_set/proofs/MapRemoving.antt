-- What managed removes that expect a value leave, by what each part of them leaves.
use Rattle.std.proofs.Common.{◌≡◌, ◌≢◌, ◌≤◌, inr, ℕ, ◌+◌, ◌*◌, Bool, true, false, length, refl, ◌∙◌, arith}
use Rattle.std.specs.Prelude.{Some, None, Result, Ok, Err}
use Rattle.std.proofs.Math.Nat.{add-mul, mul-le-mul_right}
use Rattle.nm_edge.specs.Layouts.{Layout}
use Rattle.nm_model.specs.declared.event.Op.TheVariants.{Delete}
use Rattle.nm_steps.specs.Steps.{TreeView}
use Rattle.nm_walks.specs.Bounds.{reach}
use Rattle.nm_calls.specs.Maps.{HasTaken}
use Rattle.nm_calls.specs.declared.fault.CallFault.{CallFault}
use Rattle.nm_calls.specs.declared.fault.CallFault.TheVariants as fault
use Rattle.nm_tree.specs.declared.removing.RemoveOutcome.{RemoveOutcome}
use Rattle.nm_tree.specs.declared.removing.RemoveOutcome.TheVariants as outcome
use Rattle.nm_tree.specs.Answers.{FreesNone, IfTaken}
use Rattle.nm_tree.specs.Calls.{LeavesDelete}
use Rattle.nm_tree.specs.Removing.{AsDelete, IfOther, SaysOther, outcome_of}
use Rattle.nm_tree.specs.Workers.{IsIdle, WorkerView}
use Rattle.nm_tree.proofs.RemovesIf.{as_done, as_if, if_other, not_other}
use Rattle.nm_tree.proofs.Unfreed.{delete_frees_none}
use Rattle.nm_set.specs.declared.managed.Options.{Options}
use Rattle.nm_set.specs.Managed.{Answers, round_bound}
use Rattle.nm_set.specs.MapRemoves.{FoundOther, ManagesOther, RemovesIn, RemovesOnce, SaysRemoveIf}
use Rattle.nm_set.specs.Maps.{SaysChange, TookMeanwhile}
use Rattle.nm_set.specs.Rounds.{AnswersIn, Finishes, WereBusy, rounds_bound}
use Rattle.nm_set.proofs.Managing.{answers_last, delete_answers, finished, finishes_first, goes_more, goes_then, in_tries, lose_by_call, removes_at_last, removes_plain, wins_after}
use Rattle.nm_set.proofs.MapManaging.{gave_earlier, moves_earlier, removes_then, took_before, took_now}

-- ---- one call of the tree

found_once : (L : Layout) (t k v : ℕ) (w z : WorkerView) (found : ℕ) → SaysOther L t k v w z found
    → FoundOther k v (round_bound t L) w z found
found_once L t k v w z found s = record {
  other = s.other;
  map = s.map;
  none = s.free.1;
  won = s.won;
  on = record {
    same = s.same;
    past = s.past;
    queues = lose_by_call w.pass.view.number w.queues z.queues s.queues;
    steps = in_tries t L (length w.pass.view.log) (length z.pass.view.log) (t * (4 * reach L + 512)) refl s.steps;
    held = s.held;
    fit = s.fit;
  };
  frees = s.frees;
}

frees_once : (L : Layout) (t k v : ℕ) (w z : WorkerView) (r : Result RemoveOutcome CallFault)
    → AsDelete r (LeavesDelete L t k w z) → IfOther r (SaysOther L t k v w z) → FreesNone w z
frees_once L t k v w z (Ok outcome.Removed) l s = delete_frees_none L t k w z (Ok true) l.did
frees_once L t k v w z (Ok outcome.Absent) l s = delete_frees_none L t k w z (Ok false) l.did
frees_once L t k v w z (Ok (outcome.Other found)) l s = s.frees
frees_once L t k v w z (Err e) l s = delete_frees_none L t k w z (Err e) l.did

pub removes_once : (L : Layout) (t k v : ℕ) (w z : WorkerView) (r : Result RemoveOutcome CallFault)
    → w.pending ≡ None → AsDelete r (LeavesDelete L t k w z)
    → AsDelete r (λ d. IfTaken d (HasTaken w.pass z.pass k v)) → IfOther r (SaysOther L t k v w z)
    → RemovesOnce L t k v w z r
removes_once L t k v w z r none l takes other = record {
  answers = as_if (LeavesDelete L t k w z) (Answers Delete k (round_bound t L) t w z) r
      (λ d same h. delete_answers L t k w z d none h) l;
  takes = takes;
  other = if_other (SaysOther L t k v w z) (FoundOther k v (round_bound t L) w z) r
      (λ found s. found_once L t k v w z found s) other;
  frees = frees_once L t k v w z r l other;
}

-- ---- calls in a row

module _ (b : TreeView) (h : Options) (k v : ℕ) where
  abbrev round : ℕ
  round = round_bound h.tries b.layout

  -- the last of at most `rounds` removes, after n that were busy
  pub removes_last : (n rounds : ℕ) (w x z : WorkerView) (r : Result RemoveOutcome CallFault) → n + 1 ≤ rounds
      → (r ≡ Err fault.Busy → n + 1 ≡ rounds) → WereBusy b h Delete n w x → FreesNone w x
      → RemovesOnce b.layout h.tries k v x z r → RemovesIn b h k v rounds w z r
  removes_last n rounds w x z r few all first before once =
      let steps = add-mul n 1 round in
      let le = mul-le-mul_right round few in
      record {
        answers = as_if (Answers Delete k round h.tries x z) (AnswersIn b h Delete k rounds w z) r
            (λ d same a. answers_last b h Delete k n rounds w x z d few (λ is. all (same fault.Busy is)) first a)
            once.answers;
        takes = as_if (λ d. IfTaken d (HasTaken x.pass z.pass k v)) (λ d. IfTaken d (HasTaken w.pass z.pass k v)) r
            (λ d same t. moves_earlier Delete k 0 v w.pass x.pass z.pass d first.onward.on.past t) once.takes;
        other = if_other (FoundOther k v round x z) (FoundOther k v (rounds_bound b h rounds) w z) r
            (λ found o. record {
              other = o.other;
              map = gave_earlier w.pass x.pass z.pass k (Some found) first.onward.on.past o.map;
              none = o.none;
              won = wins_after 0 0 w x z first.onward.won o.won;
              on = goes_more (n * round + round) (rounds * round) w z (omega (arith, steps, le))
                  (goes_then w x z first.onward.on o.on);
              frees = o.frees ∙ before;
            }) once.other;
        frees = once.frees ∙ before;
      }

  -- ---- the whole call

  module _ (w y : WorkerView) (free : w.held ≡ None) (answer : Bool)
      (f : Finishes b h w y (Ok answer)) where
    other_then : (z : WorkerView) (found : ℕ) → FoundOther k v ((h.rounds + 1) * round) y z found
        → ManagesOther b h k v w z found
    other_then z found o =
        let came = finished b h w y answer f in
        let sum = add-mul (h.rounds + 1) (h.rounds + 1) round in
        let le = mul-le-mul_right {m = (h.rounds + 1) + (h.rounds + 1)} {n = 2 * h.rounds + 2} round (omega arith) in
        record {
          free = free;
          finds = record {
            other = o.other;
            map = gave_earlier w.pass y.pass z.pass k (Some found) came.on.past o.map;
            none = o.none;
            won = wins_after 0 0 w y z came.won o.won;
            on = goes_more ((h.rounds + 1) * round + (h.rounds + 1) * round) ((2 * h.rounds + 2) * round) w z
                (omega (arith, sum, le)) (goes_then w y z came.on o.on);
            frees = o.frees ∙ f.frees;
          };
          begun = y.pass;
          first = finishes_first b h w y answer f;
          later = o.map;
        }

    pub removes_managed : (z : WorkerView) (r : Result RemoveOutcome CallFault) → r ≢ Err fault.Unfinished
        → RemovesIn b h k v (h.rounds + 1) y z r → SaysRemoveIf b h k v w z r
    removes_managed z r other i = record {
      says = as_if (AnswersIn b h Delete k (h.rounds + 1) y z) (SaysChange Delete b h k w z) r
          (λ d same a. inr (
            free,
            removes_then b h k w y answer f z d i.frees
                (removes_plain b h k y z d (λ is. other (same fault.Unfinished is)) a),
          )) i.answers;
      takes = as_if (λ d. IfTaken d (HasTaken y.pass z.pass k v)) (λ d. IfTaken d (TookMeanwhile w.pass z.pass k v)) r
          (λ d same t. took_now w.pass y.pass z.pass k v d f.on.past t) i.takes;
      other = if_other (FoundOther k v ((h.rounds + 1) * round) y z) (ManagesOther b h k v w z) r (other_then z)
          i.other;
    }

    -- it has flagged its leaf, and was finished, or not
    pub ended_so : (x z : WorkerView) → IsIdle y
        → RemovesIn b h k v (h.rounds + 1) y x (Err fault.Unfinished) → (d : Result Bool CallFault)
        → Finishes b h x z d
        → SaysChange Delete b h k w z d × IfTaken d (TookMeanwhile w.pass z.pass k v)
    ended_so x z idle i d last = (
      inr (
        free,
        removes_then b h k w y answer f z d (last.frees ∙ i.frees)
            (removes_at_last b h k y x z idle (finished b h w y answer f).none i.answers d last),
      ),
      took_before w.pass y.pass x.pass z.pass k v d f.on.past i.takes last.on.past last.on.same,
    )

  pub removes_ended : (w z : WorkerView) (removed : Bool)
      → SaysChange Delete b h k w z (Ok removed) × IfTaken (Ok removed) (TookMeanwhile w.pass z.pass k v)
      → SaysRemoveIf b h k v w z (Ok (outcome_of removed))
  removes_ended w z removed s = record {
    says = as_done (SaysChange Delete b h k w z) removed s.0;
    takes = as_done (λ d. IfTaken d (TookMeanwhile w.pass z.pass k v)) removed s.1;
    other = not_other (ManagesOther b h k v w z) removed;
  }
