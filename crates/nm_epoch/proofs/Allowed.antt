-- Which steps a worker's epochs and its call allow.
use Rattle.std.proofs.lemmas.Bool.{lt-leb}
use Rattle.std.proofs.Common.{◌<◌, ◌≡◌, ◌⊎◌, ℕ, List, Bool, true, false, not, cond, ◌||◌, refl, sym, ap, subst, ◌∙◌, arith}
use Rattle.std.specs.Prelude.{Option, Some, None, IsSome, is_none, is_some, nat_le, unwrap_or, slice_index_or}
use Rattle.nm_edge.specs.Keys.{IsKey}
use Rattle.nm_edge.specs.Layouts.{Layout}
use Rattle.nm_model.specs.Walks.{Entry, search_after}
use Rattle.nm_model.specs.declared.event.Op.{Op}
use Rattle.nm_model.specs.declared.event.Event.TheVariants.{Announce, Advance, Leave, LeaveWith, Scan, SightFor}
use Rattle.nm_model.specs.declared.reply.Refused.{Refused}
use Rattle.nm_model.specs.Searches.{idle}
use Rattle.nm_model.specs.Ordered.{has_put_in}
use Rattle.nm_model.specs.Memory.{opening}
use Rattle.nm_model.specs.Step.{refusal, is_held_back, last_number, others_scanned}
use Rattle.nm_laws.proofs.Steps.{passed}
use Rattle.nm_steps.specs.declared.view.View.{View}
use Rattle.nm_steps.specs.Rules.{knowledge}
use Rattle.nm_steps.specs.Steps.{PassView, MayStep, fresh_view}
use Rattle.nm_steps.proofs.Extending.{neither}
use Rattle.nm_epoch.specs.Resting.{IsResting, epochs, search}
use Rattle.nm_epoch.proofs.Marks.{marks, IsLooking, one_for_each, all_others}
use Rattle.nm_epoch.specs.Scans.{lets_pass}
use Rattle.nm_model.proofs.Checks.{passes_then}

-- a check that does not fail, with none behind it
pub passes : (b : Bool) (r : Refused) → b ≡ false → cond b (Some r) None ≡ None
passes b r is = ap (λ (x : Bool). cond x (Some r) None) is

-- a value that is there
is_there : (o : Option ℕ) → IsSome o → is_none o ≡ false
is_there None h = sym h
is_there (Some e) h = refl

pub may_announce : (p : PassView) → IsSome (epochs p).seen → (epochs p).pin ≡ None → MayStep p Announce
unfolding refusal
may_announce p seen pin = record {
  looked = tt;
  allowed = λ m h. passes _ _ (neither (is_none (epochs p).seen) (is_some (epochs p).pin) (is_there _ seen)
      (ap is_some pin));
  ordered = refl;
  births = tt;
  key = tt;
}

pub may_sight_for : (p : PassView) (op : Op) (key : ℕ) → IsSome (epochs p).announcement → (epochs p).pin ≡ None
    → IsKey key → MayStep p (SightFor op key)
unfolding refusal
may_sight_for p op key announcement pin is = record {
  looked = tt;
  allowed = λ m h. passes _ _ (neither (is_none (epochs p).announcement) (is_some (epochs p).pin)
      (is_there _ announcement) (ap is_some pin));
  ordered = refl;
  births = tt;
  key = is;
}

pub may_leave : (p : PassView) → (epochs p).unlabelled ≡ false → (search p).linked ≡ false → (search p).swapped ≡ false
    → (search p).flagged ≡ None → MayStep p Leave
unfolding refusal
may_leave p labelled linked swapped flagged = record {
  looked = tt;
  allowed = λ m h. passes _ _ labelled;
  ordered = passes _ _ (neither (has_put_in (search p)) (is_some (search p).flagged)
      (neither (search p).linked (search p).swapped linked swapped) (ap is_some flagged));
  births = tt;
  key = tt;
}

-- what a worker that may leave has
pub leave_labelled : (p : PassView) → MayStep p Leave → (epochs p).unlabelled ≡ false
unfolding refusal
leave_labelled p may = (passed _ _ _ (may.allowed (opening p.view.layout) tt)).0

pub leave_with_labelled : (p : PassView) (answer : Bool) → MayStep p (LeaveWith answer) → (epochs p).unlabelled ≡ false
unfolding refusal
leave_with_labelled p answer may = (passed _ _ _ (may.allowed (opening p.view.layout) tt)).0

-- a worker that has done nothing yet rests
pub fresh_rests : (L : Layout) (k : ℕ) (p : PassView) → p.view ≡ fresh_view L k → IsResting p
fresh_rests L k p fresh = record {
  unpinned = ap (λ (v : View). (knowledge v).brief.pin) fresh;
  silent = ap (λ (v : View). (knowledge v).brief.announcement) fresh;
  labelled = ap (λ (v : View). (knowledge v).brief.unlabelled) fresh;
  idle = ap (λ (v : View). search_after idle v.log) fresh;
}

-- another worker may be scanned once the epoch was read
pub may_scan : (p : PassView) (u : ℕ) → u < p.view.layout.workers → IsSome (epochs p).seen → MayStep p (Scan u)
unfolding refusal
may_scan p u below seen = record {
  looked = tt;
  allowed = λ m h. passes_then _ _ _ (lt-leb p.view.layout.workers u below) (passes _ _ (is_there _ seen));
  ordered = refl;
  births = tt;
  key = tt;
}

-- an own pin that lets the epoch pass does not hold it back
frees : (pin : Option ℕ) (e : ℕ) → lets_pass pin e ≡ true → is_held_back pin (Some e) ≡ false
frees None e h = refl
frees (Some a) e h = ap not h

-- once all workers let it pass, the epoch may be moved on
pub may_advance : (me e n : ℕ) (old : List Entry) (p : PassView) → me ≡ p.view.number → me < n
    → n ≡ p.view.layout.workers → e < last_number → IsLooking me e n old p → MayStep p Advance
unfolding refusal
may_advance me e n old p own there all small h = record {
  looked = tt;
  allowed = λ m x. passes_then _ _ _
      (neither (is_none (epochs p).seen) (not (others_scanned p.view.number (marks p))
      || is_held_back (epochs p).pin (epochs p).seen) (ap is_none h.seen)
      (neither (not (others_scanned p.view.number (marks p))) (is_held_back (epochs p).pin (epochs p).seen)
      (ap not (all_others p.view.number (marks p) (λ v below. subst
      (λ (w : ℕ). (v ≡ w) ⊎ (slice_index_or (marks p) v false ≡ true)) own
      (h.marked v (let size = one_for_each p in omega arith)))))
      (ap (λ (o : Option ℕ). is_held_back (epochs p).pin o) h.seen ∙ frees (epochs p).pin e (h.own there))))
      (passes _ _ (ap (λ (o : Option ℕ). nat_le last_number (unwrap_or o 0)) h.seen ∙ lt-leb last_number e small));
  ordered = refl;
  births = tt;
  key = tt;
}
