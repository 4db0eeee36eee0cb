-- What an ordered core keeps of a worker's call is what that worker's log tells.
use Rattle.std.proofs.Common.{◌≡◌, ℕ, ◌<◌, ◌==◌, Bool, true, false, cond, List, [], ◌∷◌, ◌++◌, length, replicate, set, get_or, refl, sym, ap, subst, ◌∙◌, length-set, Result, Ok, Err}
use Rattle.std.specs.Prelude.{Option, Some, None, IfSome, option_map}
use Rattle.std.proofs.lemmas.Bool.{eqb-true, eqb-false}
use Rattle.std.proofs.lemmas.List.{get_or-replicate, get_or-set_same, get_or-set_other, length-replicate}
use Rattle.nm_edge.specs.Layouts.{Layout}
use Rattle.nm_model.specs.declared.event.Event.{Event}
use Rattle.nm_model.specs.declared.reply.Reply.{Reply}
use Rattle.nm_model.specs.declared.reply.Refused.{Refused}
use Rattle.nm_model.specs.Searches.{Search, idle, searched}
use Rattle.nm_model.specs.Walks.{Entry, logged_by, log_of, search_after}
use Rattle.nm_model.specs.Runs.{reply_of}
use Rattle.nm_model.specs.Ordered.{Configuration, ordered, search_of, learned_from, refused_in, applied_in, next_in, outcome_in, after_in, trace_in, SearchesTellTheLogs}
use Rattle.nm_laws.proofs.Configurations.{refused_next, refused_outcome, allowed_next, allowed_outcome}

at_applied : (c : Configuration) (t : ℕ × Event) (ss : List Search) → c.searches ≡ Some ss
    → (applied_in c t.0 t.1).searches ≡ Some (learned_from ss t.0 t.1 (reply_of c.state t.0 t.1))
unfolding applied_in
at_applied c t ss is = ap (option_map (λ ss. learned_from ss t.0 t.1 (reply_of c.state t.0 t.1))) is

all_idle : (L : Layout) (w : ℕ) → w < L.workers → search_of (replicate L.workers idle) w ≡ idle
all_idle L w below = get_or-replicate L.workers w idle idle below

module _ (w : ℕ) where
  -- after these events, with what was known before them
  record Tells (c : Configuration) (ts : List (ℕ × Event)) (before : Search) : Type 0 where
    known : List Search
    is_known : (after_in c ts).searches ≡ Some known
    tells : search_of known w ≡ search_after before (log_of w (trace_in c ts))

  -- the log of a turn and of the turns behind it
  log_from : (c : Configuration) (t : ℕ × Event) (ts : List (ℕ × Event)) (o : Result Reply Refused) → outcome_in c t ≡ o
      → log_of w (trace_in c (t ∷ ts)) ≡ cond (t.0 == w)
      (logged_by (record { worker = t.0; event = t.1; outcome = o })) [] ++ log_of w (trace_in (next_in c t) ts)
  unfolding trace_in
  log_from c t ts o is = ap (λ (o : Result Reply Refused). cond (t.0 == w)
      (logged_by (record { worker = t.0; event = t.1; outcome = o })) [] ++ log_of w (trace_in (next_in c t) ts)) is

  nothing : (b : Bool) (log : List Entry) → cond b [] [] ++ log ≡ log
  nothing true log = refl
  nothing false log = refl

  -- one turn, and then the others
  one_more : (c : Configuration) (t : ℕ × Event) (ts : List (ℕ × Event)) (before after : Search)
      → search_after before (log_of w (trace_in c (t ∷ ts)))
      ≡ search_after after (log_of w (trace_in (next_in c t) ts)) → Tells (next_in c t) ts after
      → Tells c (t ∷ ts) before
  unfolding after_in
  one_more c t ts before after same rest = record {
    known = rest.known;
    is_known = rest.is_known;
    tells = rest.tells
        ∙ sym same;
  }

  tells : (ts : List (ℕ × Event)) (c : Configuration) (ss : List Search) → c.searches ≡ Some ss → w < length ss
      → Tells c ts (search_of ss w)
  unfolding after_in trace_in
  tells [] c ss is below = record { known = ss; is_known = is; tells = refl }
  tells (t ∷ ts) c ss is below = go (λ later there inside. tells ts (next_in c t) later there inside)
      (refused_in c t.0 t.1) refl
    where
      Rest : Type 0
      Rest = (later : List Search) → (next_in c t).searches ≡ Some later → w < length later
          → Tells (next_in c t) ts (search_of later w)

      r : Reply
      r = reply_of c.state t.0 t.1

      now : List Search
      now = learned_from ss t.0 t.1 r

      still : Rest → (search_of now w ≡ search_of ss w) → (t.0 == w) ≡ false → outcome_in c t ≡ Ok r
          → (next_in c t).searches ≡ Some now → Tells c (t ∷ ts) (search_of ss w)
      still rest same other told there = one_more c t ts (search_of ss w) (search_of now w)
          (ap (search_after (search_of ss w)) (log_from c t ts (Ok r) told
          ∙ ap (λ (b : Bool). cond b ((t.1, r) ∷ []) [] ++ log_of w (trace_in (next_in c t) ts)) other)
          ∙ ap (λ (s : Search). search_after s (log_of w (trace_in (next_in c t) ts))) (sym same))
          (rest now there (subst (λ (n : ℕ). w < n) (sym (length-set ss t.0 _)) below))

      own : Rest → (search_of now w ≡ searched (search_of ss w) t.1 r) → (t.0 == w) ≡ true → outcome_in c t ≡ Ok r
          → (next_in c t).searches ≡ Some now → Tells c (t ∷ ts) (search_of ss w)
      own rest same here told there = one_more c t ts (search_of ss w) (search_of now w)
          (ap (search_after (search_of ss w)) (log_from c t ts (Ok r) told
          ∙ ap (λ (b : Bool). cond b ((t.1, r) ∷ []) [] ++ log_of w (trace_in (next_in c t) ts)) here)
          ∙ ap (λ (s : Search). search_after s (log_of w (trace_in (next_in c t) ts))) (sym same))
          (rest now there (subst (λ (n : ℕ). w < n) (sym (length-set ss t.0 _)) below))

      learned : (next_in c t ≡ applied_in c t.0 t.1) → (next_in c t).searches ≡ Some now
      learned e = ap (λ (d : Configuration). d.searches) e ∙ searches_now
        where
          searches_now : (applied_in c t.0 t.1).searches ≡ Some now
          searches_now = at_applied c t ss is

      by : Rest → (b : Bool) → (t.0 == w) ≡ b → outcome_in c t ≡ Ok r → (next_in c t).searches ≡ Some now
          → Tells c (t ∷ ts) (search_of ss w)
      by rest true here told there =
          let e = eqb-true t.0 w here in
          own rest (subst (λ (x : ℕ). get_or (set ss x (searched (get_or ss x idle) t.1 r)) w idle
          ≡ searched (get_or ss w idle) t.1 r) (sym e) (get_or-set_same ss w _ idle below)) here told there
      by rest false other told there = still rest (get_or-set_other ss t.0 w _ idle
          (λ e. eqb-false t.0 w other (sym e))) other told there

      go : Rest → (o : Option Refused) → refused_in c t.0 t.1 ≡ o → Tells c (t ∷ ts) (search_of ss w)
      go rest (Some x) why = one_more c t ts (search_of ss w) (search_of ss w)
          (ap (search_after (search_of ss w)) (log_from c t ts (Err x) (refused_outcome c t x why)
          ∙ nothing (t.0 == w) (log_of w (trace_in (next_in c t) ts))))
          (rest ss (ap (λ (d : Configuration). d.searches) (refused_next c t x why) ∙ is) below)
      go rest None why = by rest (t.0 == w) refl (allowed_outcome c t why) (learned (allowed_next c t why))

at_known : (o : Option (List Search)) (known : List Search) (P : List Search → Type 0) → o ≡ Some known → P known
    → IfSome o P
at_known o known P is p = rw is p

pub searches_tell : SearchesTellTheLogs
searches_tell L ts w below =
    let t = tells w ts (ordered L) _ refl (subst (λ (n : ℕ). w < n) (sym (length-replicate L.workers idle)) below) in
    at_known (after_in (ordered L) ts).searches t.known _ t.is_known
    (t.tells ∙ ap (λ (s : Search). search_after s (log_of w (trace_in (ordered L) ts))) (all_idle L w below))
