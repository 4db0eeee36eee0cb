-- What is read is what the turns have written: each reply is of the memory, which is that of the
-- words.
use Rattle.std.proofs.Common.{◌≡◌, ℕ, ◌+◌, inl, inr, ◌==◌, Bool, true, cond, not, ◌||◌, ◌&&◌, List, ◌∷◌, ◌++◌, refl, sym, ap, subst, ◌∙◌, true≢false}
use Rattle.std.specs.Prelude.{Option, Some, None, is_some, nat_lt, Result, Ok, Err}
use Rattle.std.proofs.lemmas.Bool.{cond_both, or_parts, not-false, eqb-true, eq-eqb}
use Rattle.std.proofs.lemmas.Option.{same_Some}
use Rattle.nm_edge.specs.Edges.{Edge, is_to}
use Rattle.nm_edge.specs.Layouts.{Layout, IsLayout}
use Rattle.nm_model.specs.declared.event.Event.{Event}
use Rattle.nm_model.specs.declared.event.Event.TheVariants.{Sight, SightFor, Scan, Advance, Claim, Give, Look, Fill, Link, Flag, Tag, Splice, Swap}
use Rattle.nm_model.specs.declared.event.Field.TheVariants.{Key, Edge as EdgeOn, Birth}
use Rattle.nm_model.specs.declared.reply.Reply.{Reply}
use Rattle.nm_model.specs.declared.reply.Reply.TheVariants.{Labelled, Pinned, Missed, Moved, Behind, Claimed, Taken, Returned, Freed, Linked, Lost}
use Rattle.nm_model.specs.declared.reply.Refused.{Refused}
use Rattle.nm_model.specs.declared.reply.Refused.TheVariants.{NoSlot, NotPrivate, NotReady}
use Rattle.nm_model.specs.declared.trace.Turn.{Turn}
use Rattle.nm_model.specs.Maps.{is_number}
use Rattle.nm_model.specs.Memory.{Memory, node, edge, announcement, in_pool}
use Rattle.nm_model.specs.Ledgers.{front_of}
use Rattle.nm_model.specs.Knowledge.{Knowledge, is_private, draft_of}
use Rattle.nm_model.specs.Step.{refusal, reply, reply_sight, confirmed, reply_scan, reply_exchange, node_of, node_linked, outside, is_edge, is_early}
use Rattle.nm_model.specs.Lawful.{EpochsAgree}
use Rattle.nm_model.specs.Runs.{State, of, reply_of, outcome}
use Rattle.nm_model.specs.Ordered.{Configuration, opening_of, refused_in, outcome_in, after_in, trace_in}
use Rattle.nm_laws.proofs.Steps.{Allowed, allowed, third}
use Rattle.nm_laws.proofs.TreeSlots.{is_to-true}
use Rattle.nm_laws.proofs.Configurations.{refused_outcome, allowed_outcome, allowed_by_state, state_outcome}
use Rattle.nm_laws.proofs.EachState.{each_epoch_agrees}
use Rattle.nm_order.specs.NewNodes.{LinksNameNewNodes}
use Rattle.nm_order.proofs.LinkedNodes.{links_name_new_nodes}
use Rattle.nm_model.specs.Headline.{TellsTheEpoch, TellsWhatStands, words_after}
use Rattle.nm_theorem.proofs.Runs.{Parts, parts_of, Head, head_of, of_state_after}
use Rattle.nm_theorem.proofs.WrittenWords.{run_words}

-- what the reads of a state rely on
record Agrees (s : State) : Type 0 where
  epochs : EpochsAgree s
  links : LinksNameNewNodes s

sight_tells : (m : Memory) (w : ℕ) (k : Knowledge) → announcement m w ≡ k.brief.announcement
    → TellsTheEpoch m w (reply_sight k m.epoch)
sight_tells m w k announced = cond_both k.brief.unlabelled (Labelled m.epoch)
    (confirmed k.brief.pin k.brief.announcement m.epoch) (TellsTheEpoch m w) (λ _. refl)
    (λ _. by k.brief.pin k.brief.announcement announced)
  where
    by : (p a : Option ℕ) → announcement m w ≡ a → TellsTheEpoch m w (confirmed p a m.epoch)
    by (Some p) a is = refl
    by None None is = refl
    by None (Some a) is = cond_both (a == m.epoch) (Pinned m.epoch) (Missed m.epoch) (TellsTheEpoch m w)
        (λ here. (refl, is ∙ ap Some (eqb-true a m.epoch here)))
        (λ away. (refl, λ same. true≢false (sym (eq-eqb a m.epoch (same_Some a m.epoch (sym is ∙ same))) ∙ away)))

scan_tells : (m : Memory) (w u : ℕ) → TellsWhatStands m w (Scan u) (reply_scan (announcement m u))
scan_tells m w u = go (announcement m u) refl
  where
    go : (o : Option ℕ) → announcement m u ≡ o → TellsWhatStands m w (Scan u) (reply_scan o)
    go None is = inl (refl, is)
    go (Some e) is = inr (e, refl, is)

module _ (c : Configuration) (w : ℕ) (agrees : Agrees c.state) where
  abbrev m : Memory
  m = c.state.memory

  exchange : (e : Edge) (x : ℕ) (won : Reply) (P : Reply → Type 0) → (is_to e x ≡ true → P won) → P (Lost e)
      → P (reply_exchange e x won)
  exchange e x won P first lost = cond_both (is_to e x) won (Lost e) P first (λ _. lost)

  one_more : (y v : ℕ) → Allowed c.state w (Fill y Birth v) → v ≡ (node c.state.memory y).birth + 1
  unfolding refusal
  one_more y v ok =
      let early = third (outside 6 c.state.layout.nodes y || (is_edge Birth && nat_lt c.state.layout.nodes v))
      (not (is_private (of c.state w) y)) (is_early (draft_of (of c.state w) y) Birth v
      (node c.state.memory y).birth) NoSlot NotPrivate NotReady _ ok.event in
      eqb-true v ((node c.state.memory y).birth + 1)
      (not-false (v == (node c.state.memory y).birth + 1)
      (or_parts (is_some (draft_of (of c.state w) y).birth) (not (v == (node c.state.memory y).birth + 1)) early).1)

  reply_tells : (e : Event) → Allowed c.state w e → outcome c.state (w, e) ≡ Ok (reply_of c.state w e)
      → TellsWhatStands c.state.memory w e (reply_of c.state w e)
  unfolding reply
  reply_tells Sight ok is = sight_tells c.state.memory w (of c.state w) (agrees.epochs.announced w)
  reply_tells (SightFor op key) ok is = sight_tells c.state.memory w (of c.state w) (agrees.epochs.announced w)
  reply_tells (Scan u) ok is = scan_tells c.state.memory w u
  reply_tells Advance ok is = cond_both (is_number (of c.state w).brief.seen c.state.memory.epoch)
      (Moved (c.state.memory.epoch + 1)) (Behind c.state.memory.epoch) (TellsWhatStands c.state.memory w Advance)
      (λ _. refl) (λ _. refl)
  reply_tells (Claim y) ok is = cond_both (in_pool c.state.memory y) (Claimed y) Taken
      (TellsWhatStands c.state.memory w (Claim y)) (λ there. (refl, there)) (λ away. away)
  reply_tells (Give y) ok is = cond_both (is_private (of c.state w) y) (Returned y)
      (Freed (node_of (front_of (of c.state w).ledgers y))) (TellsWhatStands c.state.memory w (Give y)) (λ _. refl)
      (λ _. tt)
  reply_tells (Look s Key) ok is = refl
  reply_tells (Look s (EdgeOn side)) ok is = refl
  reply_tells (Look s Birth) ok is = refl
  reply_tells (Fill y Birth v) ok is = one_more y v ok
  reply_tells (Link p d leaf new) ok is = exchange (edge c.state.memory p d) leaf
      (Linked (node_linked (of c.state w) new)) (TellsWhatStands c.state.memory w (Link p d leaf new))
      (λ won. (
        is_to-true (edge c.state.memory p d) leaf won,
        agrees.links w p d leaf new
            (node_linked (of c.state w) new) (is ∙ ap (λ (b : Bool). Ok
            (cond b (Linked (node_linked (of c.state w) new)) (Lost (edge c.state.memory p d)))) won),
      )) refl
  reply_tells (Flag p d leaf) ok is = exchange (edge c.state.memory p d) leaf _
      (TellsWhatStands c.state.memory w (Flag p d leaf)) (λ won. (is_to-true (edge c.state.memory p d) leaf won, refl))
      refl
  reply_tells (Tag p d) ok is = refl
  reply_tells (Splice a d y p keep) ok is = exchange (edge c.state.memory a d) y _
      (TellsWhatStands c.state.memory w (Splice a d y p keep)) (λ _. tt) refl
  reply_tells (Swap p d leaf new) ok is = exchange (edge c.state.memory p d) leaf _
      (TellsWhatStands c.state.memory w (Swap p d leaf new)) (λ _. tt) refl
  reply_tells _ ok is = tt

no_reply : {r : Reply} (x : Refused) → ◌≡◌ {A = Result Reply Refused} (Err x) (Ok r) → ⊥
no_reply x e = cc

same_reply : {r s : Reply} → ◌≡◌ {A = Result Reply Refused} (Ok r) (Ok s) → r ≡ s
same_reply e = cc

turn_tells : (c : Configuration) → Agrees c.state → (t : ℕ × Event) (r : Reply) → outcome_in c t ≡ Ok r
    → TellsWhatStands c.state.memory t.0 t.1 r
turn_tells c agrees t r is = go (refused_in c t.0 t.1) refl
  where
    go : (o : Option Refused) → refused_in c t.0 t.1 ≡ o → TellsWhatStands c.state.memory t.0 t.1 r
    go (Some x) refused = absurd (no_reply x (sym (refused_outcome c t x refused) ∙ is))
    go None is_allowed = subst (TellsWhatStands c.state.memory t.0 t.1)
        (same_reply (sym (allowed_outcome c t is_allowed) ∙ is))
        (reply_tells c t.0 agrees t.1 (allowed c.state t.0 t.1 (allowed_by_state c t.0 t.1 is_allowed))
        (state_outcome c t is_allowed))

pub reads_tell : (L : Layout) → IsLayout L → (b : Bool) (events : List (ℕ × Event)) (before rest : List Turn)
    (t : Turn) (r : Reply) → trace_in (opening_of L b) events ≡ before ++ t ∷ rest → t.outcome ≡ Ok r
    → TellsWhatStands (words_after L before) t.worker t.event r
reads_tell L fits b events before rest t r all is =
    let p : Parts (opening_of L b) events before (t ∷ rest) = parts_of (opening_of L b) events before (t ∷ rest) all in
    let h : Head (after_in (opening_of L b) p.early) p.late t rest = head_of (after_in (opening_of L b) p.early)
    p.late t rest (sym p.rest_is) in
    let agrees : Agrees (after_in (opening_of L b) p.early).state =
    record {
      epochs = of_state_after EpochsAgree each_epoch_agrees L fits b p.early;
      links = of_state_after
          LinksNameNewNodes links_name_new_nodes L fits b p.early;
    } in
    subst (λ (m : Memory). TellsWhatStands m t.worker t.event r)
    (sym (run_words L fits b p.early) ∙ ap (words_after L) (sym p.first_is))
    (subst (λ (u : Turn). TellsWhatStands (after_in (opening_of L b) p.early).state.memory u.worker u.event r)
    (sym h.turn_is)
    (turn_tells (after_in (opening_of L b) p.early) agrees h.event r
    (sym (ap (λ (u : Turn). u.outcome) h.turn_is) ∙ is)))
