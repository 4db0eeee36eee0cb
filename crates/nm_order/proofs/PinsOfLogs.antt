-- Who is pinned is what the own log tells.
use Rattle.std.proofs.Common.{◌≡◌, ℕ, ◌==◌, Bool, true, false, cond, List, [], ◌∷◌, ◌++◌, refl, sym, ap, subst, ◌∙◌, true≢false}
use Rattle.std.specs.Prelude.{Option, Some, None, Result, Ok, Err}
use native.Mathlib.Decide.{ℕ_discrete}
use Rattle.std.proofs.lemmas.Bool.{cond-true, cond-false, eq-eqb, ne_eqb}
use Rattle.nm_model.specs.declared.event.Event.{Event}
use Rattle.nm_model.specs.declared.event.Event.TheVariants.{Sight, SightFor, Leave, LeaveWith}
use Rattle.nm_model.specs.declared.reply.Reply.{Reply}
use Rattle.nm_model.specs.declared.reply.Reply.TheVariants.{Pinned, Departed}
use Rattle.nm_model.specs.declared.reply.Refused.{Refused}
use Rattle.nm_model.specs.Knowledge.{Knowledge}
use Rattle.nm_model.specs.Learning.{learn}
use Rattle.nm_model.specs.Runs.{State, of, start, after, trace, next, outcome, answered, unless_refused, refused, reply_of, applied}
use Rattle.nm_model.specs.Walks.{Entry, logged_by, log_of, begins_anew}
use Rattle.nm_laws.proofs.Steps.{Allowed, allowed}
use Rattle.nm_laws.proofs.Pins.{all_new}
use Rattle.nm_laws.proofs.Lawful.{IsLawful, lawful_start, lawful_step}
use Rattle.nm_order.specs.Pinned.{pinned_by, pinned_after, PinsAreTold}
use Rattle.nm_order.proofs.KnowledgeStays.{learned_stays, answers}
use Rattle.nm_order.proofs.CallWalks.{others_stay, own_knows}

pub pinned_join : (pin : Option ℕ) (xs ys : List Entry)
    → pinned_after pin (xs ++ ys) ≡ pinned_after (pinned_after pin xs) ys
pinned_join pin [] ys = refl
pinned_join pin (x ∷ xs) ys = pinned_join (pinned_by pin x) xs ys

-- what one entry does to the pin that is known
anew_pin : (w : ℕ) (k : Knowledge) (e : Event) (r : Reply) → begins_anew (e, r) ≡ true
    → (learn w k e r).brief.pin ≡ pinned_by k.brief.pin (e, r)
unfolding learn
anew_pin w k Sight (Pinned n) anew = refl
anew_pin w k (SightFor op key) (Pinned n) anew = refl
anew_pin w k Leave Departed anew = refl
anew_pin w k (LeaveWith answer) Departed anew = refl
anew_pin w k e r anew = absurd (true≢false (sym anew))

same_pin : (pin : Option ℕ) (e : Event) (r : Reply) → begins_anew (e, r) ≡ false → pinned_by pin (e, r) ≡ pin
same_pin pin Sight (Pinned n) none = absurd (true≢false none)
same_pin pin (SightFor op key) (Pinned n) none = absurd (true≢false none)
same_pin pin Leave Departed none = absurd (true≢false none)
same_pin pin (LeaveWith answer) Departed none = absurd (true≢false none)
same_pin pin e r none = refl

module _ (s : State) (lawful : IsLawful s) (t : ℕ × Event) (u : ℕ) where
  abbrev pub own_entry : Result Reply Refused → List Entry
  own_entry (Ok r) = (t.1, r) ∷ []
  own_entry (Err x) = []

  own_pin : Allowed s t.0 t.1 → (b : Bool) → begins_anew (t.1, reply_of s t.0 t.1) ≡ b
      → (learn t.0 (of s t.0) t.1 (reply_of s t.0 t.1)).brief.pin
      ≡ pinned_by (of s t.0).brief.pin (t.1, reply_of s t.0 t.1)
  own_pin ok true anew = anew_pin t.0 (of s t.0) t.1 (reply_of s t.0 t.1) anew
  own_pin ok false none = (learned_stays s.memory (of s t.0) t.0 t.1 (reply_of s t.0 t.1)
      (answers s lawful.holder lawful.law t.0 t.1 ok) none).pin
      ∙ sym (same_pin (of s t.0).brief.pin t.1 (reply_of s t.0 t.1) none)

  pub pin_step : (of (next s t) u).brief.pin ≡ pinned_after (of s u).brief.pin
      (cond (t.0 == u) (own_entry (outcome s t)) [])
  unfolding next outcome
  pin_step = go (refused s t.0 t.1) refl
    where
      nothing : (b : Bool) (pin : Option ℕ) → pin ≡ pinned_after pin (cond b [] [])
      nothing true pin = refl
      nothing false pin = refl

      go : (o : Option Refused) → refused s t.0 t.1 ≡ o
          → (of (unless_refused o s (applied s t.0 t.1)) u).brief.pin
          ≡ pinned_after (of s u).brief.pin (cond (t.0 == u) (own_entry (answered o (reply_of s t.0 t.1))) [])
      go (Some r) is = nothing (t.0 == u) (of s u).brief.pin
      go None is = elim (ℕ_discrete u t.0) [
        | yes e ↦ subst (λ (v : ℕ). (of (applied s t.0 t.1) v).brief.pin
            ≡ pinned_after (of s v).brief.pin (cond (t.0 == v) ((t.1, reply_of s t.0 t.1) ∷ []) [])) (sym e)
            (ap (λ (k : Knowledge). k.brief.pin) (own_knows s lawful.holder lawful.law t.0 t.1 ok)
            ∙ (own_pin ok (begins_anew (t.1, reply_of s t.0 t.1)) refl
            ∙ ap (pinned_after (of s t.0).brief.pin) (sym
            (cond-true (t.0 == t.0) ((t.1, reply_of s t.0 t.1) ∷ []) [] (eq-eqb t.0 t.0 refl)))))
        | no ne ↦ (others_stay s lawful.holder lawful.law t.0 t.1 ok u ne).pin
            ∙ ap (pinned_after (of s u).brief.pin) (sym (cond-false (t.0 == u) ((t.1, reply_of s t.0 t.1) ∷ []) []
            (ne_eqb t.0 u (λ z. ne (sym z)))))
      ]
        where
          ok : Allowed s t.0 t.1
          ok = allowed s t.0 t.1 is

  lawful_then : IsLawful (next s t)
  unfolding next
  lawful_then = go (refused s t.0 t.1) refl
    where
      go : (o : Option Refused) → refused s t.0 t.1 ≡ o → IsLawful (unless_refused o s (applied s t.0 t.1))
      go (Some r) is = lawful
      go None is = lawful_step s t.0 t.1 lawful (allowed s t.0 t.1 is)

pins_from : (ts : List (ℕ × Event)) (s : State) → IsLawful s → (u : ℕ)
    → (of (after s ts) u).brief.pin ≡ pinned_after (of s u).brief.pin (log_of u (trace s ts))
unfolding after trace
pins_from [] s lawful u = refl
pins_from (t ∷ ts) s lawful u = pins_from ts (next s t) (lawful_then s lawful t u) u
    ∙ (ap (λ (p : Option ℕ). pinned_after p (log_of u (trace (next s t) ts))) (pin_step s lawful t u)
    ∙ (ap (λ (l : List Entry). pinned_after (pinned_after (of s u).brief.pin (cond (t.0 == u) l []))
    (log_of u (trace (next s t) ts))) (entry_is (outcome s t))
    ∙ sym (pinned_join (of s u).brief.pin (cond (t.0 == u)
    (logged_by (record { worker = t.0; event = t.1; outcome = outcome s t })) []) (log_of u (trace (next s t) ts)))))
  where
    entry_is : (o : Result Reply Refused) → own_entry s lawful t u o
        ≡ logged_by (record { worker = t.0; event = t.1; outcome = o })
    entry_is (Ok r) = refl
    entry_is (Err x) = refl

pub pins_are_told : PinsAreTold
pins_are_told L enough turns w = pins_from turns (start L) (lawful_start L enough) w
    ∙ ap (λ (p : Option ℕ). pinned_after p (log_of w (trace (start L) turns)))
    (ap (λ (k : Knowledge). k.brief.pin) (all_new L w))
