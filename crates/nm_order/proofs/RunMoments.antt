-- Moments of a run: what a turn adds to a worker's log, and a pin that stands since a moment.
use Rattle.std.proofs.Common.{◌≡◌, ℕ, ◌==◌, Bool, true, false, cond, ◌||◌, List, [], ◌∷◌, ◌++◌, refl, ap, ◌∙◌}
use Rattle.std.specs.Prelude.{Result, Ok, Err}
use Rattle.std.specs.List.{list_any}
use Rattle.std.proofs.lemmas.List.Folds.{list_any-append}
use Rattle.nm_model.specs.declared.event.Event.{Event}
use Rattle.nm_model.specs.declared.reply.Reply.{Reply}
use Rattle.nm_model.specs.declared.reply.Refused.{Refused}
use Rattle.nm_model.specs.Walks.{Entry, logged_by, log_of, begins_anew}
use Rattle.nm_model.specs.declared.trace.Turn.{Turn}
use Rattle.nm_model.specs.Ordered.{Configuration, next_in, outcome_in, after_in, trace_in}
use Rattle.nm_order.specs.Moments.{PinStands}
use Rattle.nm_order.proofs.WalksOfRuns.{trace_in-append, log-append}

-- what a turn adds to a worker's log
abbrev pub entries : ℕ → Configuration → ℕ × Event → List Entry
entries u c t = cond (t.0 == u) (logged_by (record { worker = t.0; event = t.1; outcome = outcome_in c t })) []

-- a turn that adds neither a pin nor a leave, and then others
pub stands_behind : (u : ℕ) (c : Configuration) (t : ℕ × Event) (ts : List (ℕ × Event))
    → list_any begins_anew (entries u c t) ≡ false → PinStands u (trace_in (next_in c t) ts)
    → PinStands u (trace_in c (t ∷ ts))
unfolding trace_in
stands_behind u c t ts first rest = list_any-append begins_anew (entries u c t)
    (log_of u (trace_in (next_in c t) ts)) ∙ (ap (λ (b : Bool). b
    || list_any begins_anew (log_of u (trace_in (next_in c t) ts))) first ∙ rest)

-- a pin that stands in a run stands with a turn more, which adds neither a pin nor a leave
pub stands_longer : (u : ℕ) (c d : Configuration) (ts : List (ℕ × Event)) (t : ℕ × Event) → after_in c ts ≡ d
    → PinStands u (trace_in c ts) → list_any begins_anew (entries u d t) ≡ false
    → PinStands u (trace_in c (ts ++ t ∷ []))
unfolding trace_in
stands_longer u c d ts t leads stands none =
    ap (λ (l : List Turn). list_any begins_anew (log_of u l)) (trace_in-append c ts (t ∷ []))
    ∙ (ap (list_any begins_anew) (log-append u (trace_in c ts) (trace_in (after_in c ts) (t ∷ [])))
    ∙ (list_any-append begins_anew (log_of u (trace_in c ts)) (log_of u (trace_in (after_in c ts) (t ∷ [])))
    ∙ (ap (λ (b : Bool). b || list_any begins_anew (log_of u (trace_in (after_in c ts) (t ∷ [])))) stands
    ∙ (ap (λ (x : Configuration). list_any begins_anew (log_of u (trace_in x (t ∷ [])))) leads
    ∙ stands_behind u d t [] none refl))))

pub refused_entries : (u : ℕ) (c : Configuration) (t : ℕ × Event) (x : Refused) → outcome_in c t ≡ Err x
    → entries u c t ≡ []
refused_entries u c t x is = ap (λ (o : Result Reply Refused). cond (t.0 == u)
    (logged_by (record { worker = t.0; event = t.1; outcome = o })) []) is ∙ by (t.0 == u)
  where
    by : (b : Bool) → ◌≡◌ {A = List Entry} (cond b [] []) []
    by true = refl
    by false = refl

pub allowed_entries : (u : ℕ) (c : Configuration) (t : ℕ × Event) (r : Reply) → outcome_in c t ≡ Ok r
    → entries u c t ≡ cond (t.0 == u) ((t.1, r) ∷ []) []
allowed_entries u c t r is = ap (λ (o : Result Reply Refused). cond (t.0 == u)
    (logged_by (record { worker = t.0; event = t.1; outcome = o })) []) is
