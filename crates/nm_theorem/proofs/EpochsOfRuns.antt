-- While a worker is pinned at an epoch, the epoch is that one or the next, by the turns alone: the
-- pin that a sight confirms stays until the worker leaves.
use Rattle.std.proofs.Common.{◌≡◌, ◌⊎◌, ℕ, ◌+◌, ◌==◌, Bool, true, cond, ◌&&◌, List, [], ◌∷◌, ◌++◌, refl, sym, ap, subst, ◌∙◌, true≢false, false}
use Rattle.std.specs.Prelude.{Option, Some, None, Result, Ok, Err}
use Rattle.std.specs.List.{list_any}
use Rattle.std.proofs.lemmas.Bool.{cond_both, eqb-true, eq-eqb, or_parts, false_from_ne_true}
use Rattle.std.proofs.lemmas.Option.{none-some}
use Rattle.nm_edge.specs.Layouts.{Layout, IsLayout}
use Rattle.nm_model.specs.declared.event.Event.{Event}
use Rattle.nm_model.specs.declared.event.Event.TheVariants.{Sight, SightFor, Leave, LeaveWith}
use Rattle.nm_model.specs.declared.reply.Reply.{Reply}
use Rattle.nm_model.specs.declared.reply.Reply.TheVariants.{Saw, Labelled, Pinned}
use Rattle.nm_model.specs.declared.reply.Refused.{Refused}
use Rattle.nm_model.specs.declared.trace.Turn.{Turn}
use Rattle.nm_model.specs.Memory.{Memory}
use Rattle.nm_model.specs.Knowledge.{Knowledge}
use Rattle.nm_model.specs.Step.{confirmed, reply_sight, reply}
use Rattle.nm_model.specs.Runs.{State, of, outcome, reply_of}
use Rattle.nm_model.specs.Laws.{PinsAreNear}
use Rattle.nm_model.specs.Ordered.{Configuration, opening_of, refused_in, next_in, outcome_in, after_in, trace_in}
use Rattle.nm_laws.proofs.Configurations.{refused_next, refused_outcome, allowed_outcome, allowed_state, state_outcome, after_in-append}
use Rattle.nm_laws.proofs.Lawful.{IsLawful}
use Rattle.nm_laws.proofs.Pins.{pins_stay_near}
use Rattle.nm_order.specs.Pinned.{pinned_by, pinned_after}
use Rattle.nm_order.proofs.PinsOfLogs.{own_entry, pin_step}
use Rattle.nm_model.specs.Headline.{confirms, departs, leaves, IsPinned, EpochStaysNear}
use Rattle.nm_theorem.proofs.Runs.{Parts, parts_of, Head, head_of, told_in, lawful_opening, lawful_next, lawful_after, of_state_after}
use Rattle.nm_theorem.proofs.FreedOfRuns.{state_says}
use Rattle.nm_theorem.proofs.WrittenWords.{run_words}

-- ---- one entry of a worker

-- who is pinned is not pinned anew by a sight
sight_keeps : (k : Knowledge) (e n : ℕ) → k.brief.pin ≡ Some e → (P : Reply → Type 0) → P (Labelled n) → P (Saw n)
    → P (reply_sight k n)
sight_keeps k e n pin P labelled saw = cond_both k.brief.unlabelled (Labelled n)
    (confirmed k.brief.pin k.brief.announcement n) P (λ _. labelled) (λ _. by k.brief.pin pin)
  where
    by : (p : Option ℕ) → p ≡ Some e → P (confirmed p k.brief.announcement n)
    by None is = absurd (none-some e is)
    by (Some q) is = saw

entry_keeps : (s : State) (w e : ℕ) (v : Event) → (of s w).brief.pin ≡ Some e
    → departs v (Ok (reply_of s w v)) ≡ false → pinned_by (Some e) (v, reply_of s w v) ≡ Some e
unfolding reply
entry_keeps s w e Sight pin stays = sight_keeps (of s w) e s.memory.epoch pin
    (λ r. pinned_by (Some e) (Sight, r) ≡ Some e) refl refl
entry_keeps s w e (SightFor op key) pin stays = sight_keeps (of s w) e s.memory.epoch pin
    (λ r. pinned_by (Some e) (SightFor op key, r) ≡ Some e) refl refl
entry_keeps s w e Leave pin stays = absurd (true≢false stays)
entry_keeps s w e (LeaveWith answer) pin stays = absurd (true≢false stays)
entry_keeps s w e v pin stays = refl

entry_pins : (pin : Option ℕ) (e : ℕ) (v : Event) → confirms v (Ok (Pinned e)) ≡ true
    → pinned_by pin (v, Pinned e) ≡ Some e
entry_pins pin e Sight pins = refl
entry_pins pin e (SightFor op key) pins = refl
entry_pins pin e v pins = absurd (true≢false (sym pins))

-- ---- one turn

module _ (w e : ℕ) (c : Configuration) (lawful : IsLawful c.state) (t : ℕ × Event) where
  -- a turn that is no leave of the worker leaves its pin
  turn_keeps : (of c.state w).brief.pin ≡ Some e → leaves w (told_in c t) ≡ false
      → (of (next_in c t).state w).brief.pin ≡ Some e
  turn_keeps pin stays = go (refused_in c t.0 t.1) refl
    where
      own : (b : Bool) → (t.0 == w) ≡ b → (is : refused_in c t.0 t.1 ≡ None)
          → pinned_after (Some e) (cond b (own_entry c.state lawful t w (outcome c.state t)) []) ≡ Some e
      own false other is = refl
      own true mine is = ap (λ (o : Result Reply Refused). pinned_after (Some e) (own_entry c.state lawful t w o))
          (state_outcome c t is)
          ∙ entry_keeps c.state t.0 e t.1 (ap (λ (u : ℕ). (of c.state u).brief.pin) (eqb-true t.0 w mine) ∙ pin)
          (ap (departs t.1) (sym (allowed_outcome c t is))
          ∙ (ap (λ (b : Bool). b && departs t.1 (outcome_in c t)) (sym mine) ∙ stays))

      go : (o : Option Refused) → refused_in c t.0 t.1 ≡ o → (of (next_in c t).state w).brief.pin ≡ Some e
      go (Some x) is = ap (λ (d : Configuration). (of d.state w).brief.pin) (refused_next c t x is) ∙ pin
      go None is = ap (λ (s : State). (of s w).brief.pin) (sym (allowed_state c t is)) ∙ (pin_step c.state lawful t w
          ∙ (ap (λ (p : Option ℕ). pinned_after p (cond (t.0 == w) (own_entry c.state lawful t w (outcome c.state t))
          [])) pin ∙ own (t.0 == w) refl is))

  -- the sight that confirms a pin pins
  turn_pins : t.0 ≡ w → confirms t.1 (Ok (Pinned e)) ≡ true → outcome_in c t ≡ Ok (Pinned e)
      → (of (next_in c t).state w).brief.pin ≡ Some e
  turn_pins mine pins is = go (refused_in c t.0 t.1) refl
    where
      no_reply : (x : Refused) → ◌≡◌ {A = Result Reply Refused} (Err x) (Ok (Pinned e)) → ⊥
      no_reply x e = cc

      go : (o : Option Refused) → refused_in c t.0 t.1 ≡ o → (of (next_in c t).state w).brief.pin ≡ Some e
      go (Some x) why = absurd (no_reply x (sym (refused_outcome c t x why) ∙ is))
      go None why = ap (λ (s : State). (of s w).brief.pin) (sym (allowed_state c t why)) ∙ (pin_step c.state lawful t w
          ∙ (ap (λ (b : Bool). pinned_after (of c.state w).brief.pin
          (cond b (own_entry c.state lawful t w (outcome c.state t)) [])) (eq-eqb t.0 w mine)
          ∙ (ap (λ (o : Result Reply Refused). pinned_after (of c.state w).brief.pin
          (own_entry c.state lawful t w o)) (state_says c t (Pinned e) is)
          ∙ entry_pins (of c.state w).brief.pin e t.1 pins)))

-- ---- runs

pin_stays : (w e : ℕ) (ts : List (ℕ × Event)) (c : Configuration) → IsLawful c.state
    → (of c.state w).brief.pin ≡ Some e → list_any (leaves w) (trace_in c ts) ≡ false
    → (of (after_in c ts).state w).brief.pin ≡ Some e
unfolding after_in trace_in
pin_stays w e [] c lawful pin stays = pin
pin_stays w e (t ∷ ts) c lawful pin stays =
    let parts = or_parts (leaves w (told_in c t)) (list_any (leaves w) (trace_in (next_in c t) ts)) stays in
    pin_stays w e ts (next_in c t) (lawful_next c t lawful) (turn_keeps w e c lawful t pin parts.0) parts.1

module _ (L : Layout) (fits : IsLayout L) (b : Bool) (ts : List (ℕ × Event)) where
  -- the pin of a worker is at the epoch that its sight has named
  pin_at : (w e : ℕ) (p : IsPinned w (trace_in (opening_of L b) ts)) → p.sight.outcome ≡ Ok (Pinned e)
      → (of (after_in (opening_of L b) ts).state w).brief.pin ≡ Some e
  unfolding after_in
  pin_at w e p named =
      let q : Parts (opening_of L b) ts p.before (p.sight ∷ p.since) = parts_of (opening_of L b) ts p.before
      (p.sight ∷ p.since) p.are in
      let h : Head (after_in (opening_of L b) q.early) q.late p.sight p.since = head_of
      (after_in (opening_of L b) q.early) q.late p.sight p.since (sym q.rest_is) in
      let lawful = lawful_after q.early (opening_of L b) (lawful_opening L fits b) in
      let pinned = turn_pins w e (after_in (opening_of L b) q.early) lawful h.event
      (ap (λ (t : Turn). t.worker) (sym h.turn_is) ∙ p.own)
      (ap (λ (v : Event). confirms v (Ok (Pinned e))) (ap (λ (t : Turn). t.event) (sym h.turn_is))
      ∙ (ap (confirms p.sight.event) (sym named) ∙ p.pins))
      (ap (λ (t : Turn). t.outcome) (sym h.turn_is) ∙ named) in
      let stays = pin_stays w e h.others (next_in (after_in (opening_of L b) q.early) h.event)
      (lawful_next (after_in (opening_of L b) q.early) h.event lawful) pinned
      (ap (list_any (leaves w)) (sym h.rest_is) ∙ false_from_ne_true (list_any (leaves w) p.since) p.stays) in
      ap (λ (us : List (ℕ × Event)). (of (after_in (opening_of L b) us).state w).brief.pin)
      (q.all ∙ ap (λ (us : List (ℕ × Event)). q.early ++ us) h.all)
      ∙ (ap (λ (d : Configuration). (of d.state w).brief.pin)
      (after_in-append (opening_of L b) q.early (h.event ∷ h.others)) ∙ stays)

  pub epoch_stays_near : EpochStaysNear L (trace_in (opening_of L b) ts)
  epoch_stays_near w e p named = subst (λ (n : ℕ). (n ≡ e) ⊎ (n ≡ e + 1))
      (ap (λ (m : Memory). m.epoch) (sym (run_words L fits b ts)))
      (of_state_after PinsAreNear (λ M enough. pins_stay_near M) L fits b ts w e (pin_at w e p named))
