-- An answer stands in each history of the turns that it ends, and of those that go on from them.
use Rattle.std.proofs.Common.{◌≡◌, ℕ, ◌+◌, ◌<◌, ◌≤◌, ◌==◌, inl, inr, Bool, true, false, cond, List, [], ◌∷◌, ◌++◌, length, append_assoc, length-append, refl, sym, ap, subst, ◌∙◌, arith}
use Rattle.std.specs.Prelude.{Option, Some, None, unwrap_or, Result, Ok, All}
use Rattle.std.proofs.lemmas.Bool.{cases_lt, eq-eqb}
use Rattle.std.proofs.lemmas.Option.{none-some, same_Some}
use Rattle.nm_edge.specs.Layouts.{Layout, IsLayout}
use Rattle.nm_model.specs.declared.event.Event.{Event}
use Rattle.nm_model.specs.declared.event.Event.TheVariants.{Sight, SightFor, Leave, LeaveWith}
use Rattle.nm_model.specs.declared.reply.Reply.{Reply}
use Rattle.nm_model.specs.declared.reply.Reply.TheVariants.{Pinned, Departed}
use Rattle.nm_model.specs.declared.reply.Refused.{Refused}
use Rattle.nm_model.specs.declared.trace.Turn.{Turn}
use Rattle.nm_model.specs.declared.arrivals.Call.{Call}
use Rattle.nm_model.specs.Searches.{Search, idle}
use Rattle.nm_model.specs.Walks.{search_after}
use Rattle.nm_model.specs.Ordered.{HasKey, ordered, search_of, after_in, trace_in}
use Rattle.nm_model.specs.Acts.{Act}
use Rattle.nm_order.specs.History.{pin_of}
use Rattle.nm_order.specs.Logs.{part_of}
use Rattle.nm_order.proofs.LastEntries.{ToldBy, told_by_part}
use Rattle.nm_order.proofs.RealTime.{begins_with}
use Rattle.nm_model.specs.Histories.{Called, called_in, call_by, call_after, call_begun, IsAct, answer_turn}
use Rattle.nm_model.specs.Histories.IsAct.{IsAnswered, IsPending}
use Rattle.nm_theorem.specs.EachRun.{AnswersStand}
use Rattle.nm_theorem.proofs.Runs.{enough_of}
use Rattle.nm_theorem.proofs.HistoriesOfRuns.{with_pin, call_is, call_join, still_called, history_of_run}

-- ---- the call of a pin, by the turns

-- a pin is one of the turns so far
pin_by : (n : ℕ) (so : Option Called) (e : Event) (o : Result Reply Refused) (c : Called)
    → ((d : Called) → so ≡ Some d → d.pin < n) → call_by n so e o ≡ Some c → c.pin < n + 1
pin_by n so Sight (Ok (Pinned m)) c below is = absurd (none-some c is)
pin_by n so (SightFor op key) (Ok (Pinned m)) c below is =
    let e = ap (λ (d : Called). d.pin) (same_Some (record { pin = n; op = op; key = key }) c is) in omega (arith, e)
pin_by n so Leave (Ok Departed) c below is = absurd (none-some c is)
pin_by n so (LeaveWith answer) (Ok Departed) c below is = absurd (none-some c is)
pin_by n so e o c below is = let b = below c is in omega (arith, b)

pin_in : (w n : ℕ) (so : Option Called) (ts : List Turn) (c : Called) → ((d : Called) → so ≡ Some d → d.pin < n)
    → call_after w n so ts ≡ Some c → c.pin < n + length ts
pin_in w n so [] c below is = let b = below c is in omega (arith, b)
pin_in w n so (t ∷ ts) c below is =
    let b = pin_in w (n + 1) (cond (t.worker == w) (call_by n so t.event t.outcome) so) ts c (go (t.worker == w))
    is in omega (arith, b)
  where
    go : (b : Bool) → (d : Called) → cond b (call_by n so t.event t.outcome) so ≡ Some d → d.pin < n + 1
    go true d at = pin_by n so t.event t.outcome d below at
    go false d at = let b = below d at in omega (arith, b)

pub pin_below : (w : ℕ) (ts : List Turn) (c : Called) → call_begun w ts ≡ Some c → c.pin < length ts
pin_below w ts c is = let b = pin_in w 0 None ts c (λ d at. absurd (none-some d at)) is in omega (arith, b)

-- an answer ends the call
answered_none : (w : ℕ) (before : List Turn) (answer : Bool) → call_begun w (before ++ answer_turn w answer ∷ []) ≡ None
answered_none w before answer = call_join w 0 None before (answer_turn w answer ∷ [])
    ∙ ap (λ (b : Bool). cond b None (call_begun w before)) (eq-eqb w w refl)

-- so no call with a pin before the answer stands behind it
none_behind : (w : ℕ) (before : List Turn) (answer : Bool) (since : List Turn) (c : Called) → c.pin < length before
    → call_begun w ((before ++ answer_turn w answer ∷ []) ++ since) ≡ Some c → ⊥
none_behind w before answer since c less is =
    none-some c (sym (answered_none w before answer)
    ∙ still_called w (before ++ answer_turn w answer ∷ []) since c is
    (let l = length-append before (answer_turn w answer ∷ []) in omega (arith, l, less)))

-- a call that there was not began later
began_later : (w : ℕ) (was since : List Turn) (c : Called) → call_begun w was ≡ None
    → call_begun w (was ++ since) ≡ Some c → length was ≤ c.pin
began_later w was since c none is = elim (cases_lt c.pin (length was)) [
  | inl less ↦ absurd (none-some c (sym none ∙ still_called w was since c is less))
  | inr le ↦ le
]

-- ---- the moment of an act

-- that of a call answered here is not behind the answer
module _ (w : ℕ) (before later : List Turn) (answer : Bool) (c : Called) (called : call_begun w before ≡ Some c) where
  abbrev turns : List Turn
  turns = (before ++ answer_turn w answer ∷ []) ++ later

  not_later : (a : Act) → a.worker ≡ w → called_in a ≡ c → IsAct turns a
      → (c.pin < a.moment) × (a.moment ≤ length before)
  not_later a own is (IsAnswered first rest all then' late early) =
      let at : call_begun w first ≡ Some c = ap (λ (v : ℕ). call_begun v first) (sym own)
      ∙ (then' ∙ ap (λ (d : Called). Some d) is) in
      let pin : a.pin ≡ c.pin = ap (λ (d : Called). d.pin) is in (
        omega (arith, late, pin),
        elim (cases_lt (length before) (length first)) [
          | inl less ↦ absurd (let mid = begins_with (before ++ answer_turn w answer ∷ []) later first
              (record { worker = a.worker; event = LeaveWith a.answer; outcome = Ok Departed } ∷ rest) all
              (let l = length-append before (answer_turn w answer ∷ []) in omega (arith, l, less)) in
              none_behind w before answer mid.0 c (pin_below w before c called) (ap (call_begun w) (sym mid.1) ∙ at))
          | inr le ↦ (let e = early in omega (arith, le, e))
        ],
      )
  not_later a own is (IsPending then' late early) =
      absurd (none_behind w before answer later c (pin_below w before c called)
      (ap (λ (v : ℕ). call_begun v turns) (sym own) ∙ (then' ∙ ap (λ (d : Called). Some d) is)))

-- ---- the answer

pub answers_stand : AnswersStand
answers_stand L fits events keys was since w pin op k answer are none call = record {
  since = since;
  pin = pin;
  are = are;
  call = call;
  begins = began_later w was since (record { pin = pin; op = op; key = k }) none call;
  history = history_of_run L fits events keys;
  each = λ later acts h.
      let whole : trace_in (ordered L) events ++ later
      ≡ ((was ++ since) ++ answer_turn w answer ∷ []) ++ later = ap (λ (ts : List Turn). ts ++ later) are in
      let a = h.answered (was ++ since) later w answer (record { pin = pin; op = op; key = k })
      (whole ∙ append_assoc (was ++ since) (answer_turn w answer ∷ []) later) call in
      let at = not_later w (was ++ since) later answer (record { pin = pin; op = op; key = k }) call a.0 a.2 a.3
      (subst (λ (ts : List Turn). IsAct ts a.0) whole (h.each a.0 a.1)) in (
        a.0,
        a.1,
        a.2,
        a.3,
        a.4,
        at.0,
        (let l = ap (λ (ts : List Turn). length ts) are in
            let m = length-append (was ++ since) (answer_turn w answer ∷ []) in let le = at.1 in
            omega (arith, l, m, le)),
      );
}

-- ---- the call of a pin, by the log

-- the worker's part of the turns of a run tells what call they have begun
pub call_by_log : (L : Layout) → IsLayout L → (w : ℕ) → w < L.workers → (events : List (ℕ × Event))
    → All (λ t. HasKey t.1) events → (call : Option Call)
    → (search_after idle (part_of w (trace_in (ordered L) events))).call ≡ call
    → call_begun w (trace_in (ordered L) events) ≡ with_pin (pin_of L events w) call
call_by_log L fits w below events keys call is =
    let t : ToldBy L w (part_of w (trace_in (ordered L) events)) (after_in (ordered L) events) = told_by_part L
    (enough_of L fits) w below events keys in
    call_is L (enough_of L fits) w events keys
    ∙ ap (with_pin (pin_of L events w)) (ap (λ (l : Option (List Search)). (search_of (unwrap_or l []) w).call)
    t.is_ordered.are ∙ (ap (λ (s : Search). s.call) t.search ∙ is))
