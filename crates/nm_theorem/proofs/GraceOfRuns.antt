-- Grace, by the turns alone: who was pinned at a cut is so by its last sight and no leave since.
use Rattle.std.proofs.Common.{◌≡◌, ℕ, zero, suc, ◌==◌, Bool, true, false, cond, ◌&&◌, List, [], ◌∷◌, ◌++◌, length, map, refl, sym, ap, ◌∙◌, arith, true≢false}
use Rattle.std.specs.Prelude.{Option, Some, None, Result, Ok, Err, Contains}
use Rattle.std.specs.List.{list_any}
use Rattle.std.proofs.lemmas.Bool.{cond-true, eq-eqb, or_parts, false_from_ne_true}
use Rattle.nm_edge.specs.Layouts.{Layout, IsLayout}
use Rattle.nm_edge.specs.declared.node.NodeId.{NodeId}
use Rattle.nm_model.specs.declared.event.Event.{Event}
use Rattle.nm_model.specs.declared.event.Event.TheVariants.{Sight, SightFor, Leave, LeaveWith}
use Rattle.nm_model.specs.declared.reply.Reply.{Reply}
use Rattle.nm_model.specs.declared.reply.Reply.TheVariants.{Cut, Freed, Pinned, Departed}
use Rattle.nm_model.specs.declared.reply.Refused.{Refused}
use Rattle.nm_model.specs.declared.trace.Turn.{Turn}
use Rattle.nm_model.specs.Runs.{State, of, after, trace}
use Rattle.nm_model.specs.Ordered.{opening_of, after_in, trace_in, accepted, turn_of}
use Rattle.nm_model.specs.Walks.{Entry, logged_by, log_of}
use Rattle.nm_order.specs.Pinned.{pinned_by, pinned_after}
use Rattle.nm_order.proofs.PinsOfLogs.{pins_are_told, pinned_join}
use Rattle.nm_order.proofs.WalksOfRuns.{log-append}
use Rattle.nm_laws.proofs.Configurations.{ordered_runs, opening_state}
use Rattle.nm_laws.proofs.OrderedRuns.{grace_in}
use Rattle.nm_model.specs.Headline.{nodes_cut_of, nodes_freed_of, confirms, departs, leaves, IsPinned, Grace}
use Rattle.nm_theorem.proofs.Runs.{Parts, parts_of, reached_opening, enough_of, take_first}

-- ---- outcomes

pub cut_outcome : (n : NodeId) (o : Result Reply Refused) → Contains (nodes_cut_of o) n
    → (ns : List NodeId) × (o ≡ Ok (Cut ns)) × Contains ns n
cut_outcome n (Ok (Cut ns)) c = (ns, refl, c)
cut_outcome n o c = absurd (let b = c.1 in omega (arith, b))

pub freed_outcome : (n : NodeId) (o : Result Reply Refused) → Contains (nodes_freed_of o) n → o ≡ Ok (Freed n)
freed_outcome n (Ok (Freed m)) (zero, b, e) = ap (λ (x : NodeId). Ok (Freed x)) e
freed_outcome n (Ok (Freed m)) (suc k, b, e) = absurd (omega (arith, b))
freed_outcome n o c = absurd (let b = c.1 in omega (arith, b))

-- ---- who is pinned

-- an entry that is no leave leaves a pin
entry_stays : (e : ℕ) (v : Event) (r : Reply) → departs v (Ok r) ≡ false
    → (d : ℕ) × (pinned_by (Some e) (v, r) ≡ Some d)
entry_stays e Sight (Pinned n) stays = (n, refl)
entry_stays e (SightFor op key) (Pinned n) stays = (n, refl)
entry_stays e Leave Departed stays = absurd (true≢false stays)
entry_stays e (LeaveWith answer) Departed stays = absurd (true≢false stays)
entry_stays e v r stays = (e, refl)

entry_pins : (pin : Option ℕ) (v : Event) (o : Result Reply Refused) → confirms v o ≡ true
    → (d : ℕ) × (pinned_after pin (logged_by (record { worker = 0; event = v; outcome = o })) ≡ Some d)
entry_pins pin Sight (Ok (Pinned n)) pins = (n, refl)
entry_pins pin (SightFor op key) (Ok (Pinned n)) pins = (n, refl)
entry_pins pin v o pins = absurd (true≢false (sym pins))

module _ (w : ℕ) where
  turn_stays : (e : ℕ) (t : Turn) (b : Bool) → (t.worker == w) ≡ b → leaves w t ≡ false
      → (d : ℕ) × (pinned_after (Some e) (cond b (logged_by t) []) ≡ Some d)
  turn_stays e t false is stays = (e, refl)
  turn_stays e t true is stays = go t.outcome (ap (λ (b : Bool). b && departs t.event t.outcome) (sym is) ∙ stays)
    where
      go : (o : Result Reply Refused) → departs t.event o ≡ false
          → (d : ℕ) × (pinned_after (Some e) (logged_by (record { worker = t.worker; event = t.event; outcome = o }))
          ≡ Some d)
      go (Ok r) none = entry_stays e t.event r none
      go (Err x) none = (e, refl)

  pin_stays : (ts : List Turn) (e : ℕ) → list_any (leaves w) ts ≡ false
      → (d : ℕ) × (pinned_after (Some e) (log_of w ts) ≡ Some d)
  pin_stays [] e stays = (e, refl)
  pin_stays (t ∷ ts) e stays =
      let parts = or_parts (leaves w t) (list_any (leaves w) ts) stays in
      let first = turn_stays e t (t.worker == w) refl parts.0 in
      let rest = pin_stays ts first.0 parts.1 in (
        rest.0,
        pinned_join (Some e) (cond (t.worker == w) (logged_by t) []) (log_of w ts)
            ∙ (ap (λ (p : Option ℕ). pinned_after p (log_of w ts)) first.1 ∙ rest.1),
      )

  turn_pins : (pin : Option ℕ) (t : Turn) → t.worker ≡ w → confirms t.event t.outcome ≡ true
      → (d : ℕ) × (pinned_after pin (cond (t.worker == w) (logged_by t) []) ≡ Some d)
  turn_pins pin t own pins =
      let p = entry_pins pin t.event t.outcome pins in
      (p.0, ap (pinned_after pin) (cond-true (t.worker == w) (logged_by t) [] (eq-eqb t.worker w own)) ∙ p.1)

  pub is_pinned : (turns : List Turn) → IsPinned w turns → (d : ℕ) × (pinned_after None (log_of w turns) ≡ Some d)
  is_pinned turns p =
      let pin = turn_pins (pinned_after None (log_of w p.before)) p.sight p.own p.pins in
      let stays = pin_stays p.since pin.0 (false_from_ne_true (list_any (leaves w) p.since) p.stays) in (
        stays.0,
        ap (λ (l : List Turn). pinned_after None (log_of w l)) p.are
            ∙ (ap (pinned_after None) (log-append w p.before (p.sight ∷ p.since))
            ∙ (pinned_join None (log_of w p.before) (log_of w (p.sight ∷ p.since))
            ∙ (pinned_join (pinned_after None (log_of w p.before))
            (cond (p.sight.worker == w) (logged_by p.sight) []) (log_of w p.since)
            ∙ (ap (λ (q : Option ℕ). pinned_after q (log_of w p.since)) pin.1 ∙ stays.1)))),
      )

  -- a turn that was refused is in no log
  accepted_log : (ts : List Turn) → log_of w (accepted ts) ≡ log_of w ts
  accepted_log [] = refl
  accepted_log (t ∷ ts) = go t.outcome (accepted_log ts)
    where
      nothing : (b : Bool) → ◌≡◌ {A = List Entry} (cond b [] []) []
      nothing true = refl
      nothing false = refl

      go : (o : Result Reply Refused) → log_of w (accepted ts) ≡ log_of w ts
          → log_of w (accepted (record { worker = t.worker; event = t.event; outcome = o } ∷ ts))
          ≡ log_of w (record { worker = t.worker; event = t.event; outcome = o } ∷ ts)
      go (Ok r) rest = ap (λ (l : List Entry). cond (t.worker == w) ((t.event, r) ∷ []) [] ++ l) rest
      go (Err x) rest = rest ∙ ap (λ (l : List Entry). l ++ log_of w ts) (sym (nothing (t.worker == w)))

-- ---- runs

module _ (L : Layout) (fits : IsLayout L) (b : Bool) where
  -- the pin of a worker is what the turns tell
  pub pin_is : (ts : List (ℕ × Event)) (w : ℕ) → (of (after_in (opening_of L b) ts).state w).brief.pin
      ≡ pinned_after None (log_of w (trace_in (opening_of L b) ts))
  pin_is ts w =
      let run = ordered_runs (opening_of L b) ts in
      let plain : List (ℕ × Event) = map turn_of (accepted (trace_in (opening_of L b) ts)) in
      ap (λ (s : State). (of s w).brief.pin) (run.0 ∙ ap (λ (s : State). after s plain) (opening_state L b))
      ∙ (pins_are_told L (enough_of L fits) plain w
      ∙ (ap (λ (s : State). pinned_after None (log_of w (trace s plain))) (sym (opening_state L b))
      ∙ (ap (λ (l : List Turn). pinned_after None (log_of w l)) run.1
      ∙ ap (pinned_after None) (accepted_log w (trace_in (opening_of L b) ts)))))

  pub grace_of_run : (ts : List (ℕ × Event)) → Grace (trace_in (opening_of L b) ts)
  grace_of_run ts before between rest cut free n all in_cut in_free w pinned =
      let c = cut_outcome n cut.outcome in_cut in
      let p : Parts (opening_of L b) ts before (cut ∷ (between ++ free ∷ rest)) = parts_of (opening_of L b) ts before
      (cut ∷ (between ++ free ∷ rest)) all in
      let pin = is_pinned w before pinned in
      grace_in (opening_of L b) (reached_opening L fits b) ts before between rest cut free c.0 n w pin.0 all c.1 c.2
      (freed_outcome n free.outcome in_free)
      (ap (λ (es : List (ℕ × Event)). (of (after_in (opening_of L b) es).state w).brief.pin)
      (take_first ts p.early p.late (length before) p.all p.size)
      ∙ (pin_is p.early w ∙ (ap (λ (l : List Turn). pinned_after None (log_of w l)) (sym p.first_is) ∙ pin.1)))
