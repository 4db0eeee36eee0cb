-- What a call has added to a log, as turns that its worker made.
use Rattle.std.proofs.Common.{◌≡◌, ◌<◌, inl, inr, ℕ, zero, suc, ◌+◌, ◌==◌, Bool, true, false, cond, List, [], ◌∷◌, ◌++◌, refl, sym, ap, subst, ◌∙◌, arith, true≢false}
use Rattle.std.specs.Prelude.{Contains, Result, Ok, Err}
use Rattle.std.proofs.lemmas.Bool.{eqb-true, or_cases}
use Rattle.std.proofs.lemmas.List.{append_cancel_left}
use Rattle.std.proofs.lemmas.List.Elements.{Contains-append_cases, Contains-append_left, Contains-append_right}
use Rattle.nm_model.specs.declared.event.Event.{Event}
use Rattle.nm_model.specs.declared.reply.Refused.{Refused}
use Rattle.nm_model.specs.declared.reply.Reply.{Reply}
use Rattle.nm_model.specs.declared.trace.Turn.{Turn}
use Rattle.nm_model.specs.Walks.{Entry as LogEntry, logged_by}
use Rattle.nm_order.specs.Logs.{is_leaver, part_of, takes_part}
use Rattle.nm_order.proofs.AnswersSince.{part-append}
use Rattle.nm_steps.specs.Rules.{Extends}
use Rattle.nm_steps.specs.Steps.{HasSeen, IsSamePass, PassView}
use Rattle.nm_tree.specs.Answers.{HasMade}

-- what a call adds to the log is the worker's part of what it has seen since
pub part_since : (p q : PassView) (adds : List LogEntry) → HasSeen p.view → HasSeen q.view → IsSamePass p q
    → (e : Extends q.view.past p.view.past) → q.view.log ≡ p.view.log ++ adds → part_of p.view.number e.more ≡ adds
part_since p q adds seen_p seen_q same e is =
    let number : q.view.number ≡ p.view.number = ap (λ (s : PassView). s.view.number) same in
    append_cancel_left p.view.log _ adds
    (ap (λ (l : List LogEntry). l ++ part_of p.view.number e.more) (sym seen_p.is_part)
    ∙ (sym (part-append p.view.number p.view.past e.more)
    ∙ (ap (part_of p.view.number) (sym e.is)
    ∙ (ap (λ (w : ℕ). part_of w q.view.past) (sym number) ∙ (seen_q.is_part ∙ is)))))

-- what is in the part of a worker was made by it, except a join
pub made_by : (w : ℕ) (e : Event) (r : Reply) (ts : List Turn) → is_leaver w e ≡ false
    → Contains (part_of w ts) (e, r) → HasMade w ts e r
made_by w e r [] plain (i, below, at) = absurd (omega (arith, below))
made_by w e r (t ∷ ts) plain there = elim (Contains-append_cases
    (cond (takes_part w t.worker t.event) (logged_by t) []) (part_of w ts) (e, r) there) [
      | inl here ↦ Contains-append_left (t ∷ []) ts (record { worker = w; event = e; outcome = Ok r })
          (by t.worker t.event t.outcome (takes_part w t.worker t.event) refl here)
      | inr rest ↦ Contains-append_right (t ∷ []) ts (record { worker = w; event = e; outcome = Ok r })
          (made_by w e r ts plain rest)
    ]
  where
    by : (v : ℕ) (d : Event) (o : Result Reply Refused) (b : Bool) → takes_part w v d ≡ b
        → Contains (cond b (logged_by (record { worker = v; event = d; outcome = o })) []) (e, r)
        → Contains {X = Turn} (record { worker = v; event = d; outcome = o } ∷ [])
        (record { worker = w; event = e; outcome = Ok r })
    by v d o false is (i, below, at) = absurd (omega (arith, below))
    by v d (Err x) true is (i, below, at) = absurd (omega (arith, below))
    by v d (Ok q) true is (suc i, below, at) = absurd (omega (arith, below))
    by v d (Ok q) true is (zero, below, at) =
        let event : d ≡ e = ap (λ (x : LogEntry). x.0) at in
        let reply : q ≡ r = ap (λ (x : LogEntry). x.1) at in
        let own : v ≡ w = elim (or_cases (v == w) (is_leaver w d) is) [
          | inl same ↦ eqb-true v w same
          | inr joins ↦ absurd (true≢false (sym joins ∙ (ap (is_leaver w) event ∙ plain)))
        ] in (
          zero,
          omega arith,
          subst (λ (n : ℕ). ◌≡◌ {A = Turn} (record { worker = n; event = d; outcome = Ok q })
              (record { worker = w; event = e; outcome = Ok r })) (sym own)
              (subst (λ (f : Event). ◌≡◌ {A = Turn} (record { worker = w; event = f; outcome = Ok q })
              (record { worker = w; event = e; outcome = Ok r })) (sym event)
              (ap (λ (y : Reply). record { worker = w; event = e; outcome = Ok y }) reply)),
        )
