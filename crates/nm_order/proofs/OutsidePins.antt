-- A worker that is not pinned has no call and no unlabelled cut: a leave ends the call and is
-- refused while a label is missing, and what adds to either asks for a pin.
use Rattle.std.proofs.Common.{◌≡◌, ℕ, ◌≤◌, ◌==◌, false, List, [], ◌∷◌, ◌++◌, refl, sym, ap, subst, ◌∙◌, true≢false}
use Rattle.std.specs.Prelude.{Option, Some, None, is_none}
use Rattle.std.proofs.lemmas.Bool.{cond_both}
use Rattle.std.proofs.lemmas.Option.{none-some}
use Rattle.nm_edge.specs.Layouts.{Layout}
use Rattle.nm_model.specs.declared.event.Event.{Event}
use Rattle.nm_model.specs.declared.event.Event.TheVariants.{Sight, SightFor, Announce, Leave, LeaveWith, Scan, Advance, Claim, Give, Look, Fill, Link, Flag, Tag, Splice, Join, Swap}
use Rattle.nm_model.specs.declared.event.Field.{Field}
use Rattle.nm_model.specs.declared.reply.Reply.{Reply}
use Rattle.nm_model.specs.declared.reply.Reply.TheVariants.{Saw, Labelled, Pinned, Missed, Announced, Departed, Moved, Behind, Claimed, Returned, Freed, Filled, Was, Joined}
use Rattle.nm_model.specs.declared.arrivals.Call.{Call}
use Rattle.nm_model.specs.declared.knowledge.Brief.{Brief}
use Rattle.nm_model.specs.Knowledge.{Knowledge}
use Rattle.nm_model.specs.Learning.{learn, learn_sight, learn_scan, resigned, inheriting}
use Rattle.nm_model.specs.Memory.{Memory}
use Rattle.nm_model.specs.Runs.{State, of, refusal_of}
use Rattle.nm_model.specs.Searches.{Search, idle, searched, begun, look_for}
use Rattle.nm_model.specs.Step.{refusal}
use Rattle.nm_model.specs.Walks.{Entry, search_after}
use Rattle.nm_laws.proofs.Epochs.{alike_link, alike_flag, alike_tag, alike_splice, alike_swap}
use Rattle.nm_laws.proofs.Steps.{allowed, passed, second}
use Rattle.nm_laws.proofs.Configurations.{allowed_by_state}
use Rattle.nm_laws.proofs.Learned.{scan_teaches, look_teaches}
use Rattle.nm_order.specs.Logs.{known_by, IsLogOf}
use Rattle.nm_order.specs.Unpinned.{HasNoCall, UnpinnedWorkersHaveNoCall}
use Rattle.nm_order.proofs.LastEntries.{known_more, search_more, PartOf, LastEntry, last_entry}
use Rattle.nm_order.proofs.LastEntries.PartOf.{Own, Resigns}
use Rattle.nm_order.proofs.LogInduction.{each_log}

abbrev Law : Knowledge → Search → Type 0
Law k s = k.brief.pin ≡ None → HasNoCall k s

-- ---- one event

after_sight : (k : Knowledge) (s : Search) (call : Option Call) (r : Reply) → Law k s
    → Law (learn_sight k r) (begun s call r)
after_sight k s call (Saw e) law = λ pin. record { labelled = (law pin).labelled; idle = (law pin).idle }
after_sight k s call (Labelled e) law = λ pin. record { labelled = refl; idle = (law pin).idle }
after_sight k s call (Pinned e) law = λ pin. absurd (none-some e (sym pin))
after_sight k s call (Missed e) law = λ pin. record { labelled = (law pin).labelled; idle = (law pin).idle }
after_sight k s call _ law = law

-- where the epochs and the search stay
same_brief : (k l : Knowledge) (s : Search) → l.brief ≡ k.brief → Law k s → Law l s
same_brief k l s same law = λ pin. let had = law (sym (ap (λ (b : Brief). b.pin) same) ∙ pin) in
    record { labelled = ap (λ (b : Brief). b.unlabelled) same ∙ had.labelled; idle = had.idle }

join_stays : (w : ℕ) (k : Knowledge) (v : ℕ) (r : Reply) → (learn w k (Join v) r).brief ≡ k.brief
unfolding learn
join_stays w k v (Joined ls) = cond_both (w == v) (resigned k) (inheriting k ls)
    (λ (l : Knowledge). l.brief ≡ k.brief) (λ _. refl) (λ _. refl)
join_stays w k v _ = refl

-- a look without a call finds nothing for one
no_walks : (x : ℕ) (f : Field) (r : Reply) (s : Search) → s ≡ idle → look_for s s.call x f r ≡ idle
no_walks x f r s none = ap (λ (s : Search). look_for s s.call x f r) none

-- what is refused to a worker that is not pinned cannot leave it unpinned
pinned : (before after : Option ℕ) → is_none before ≡ false → after ≡ before → after ≡ None → ⊥
pinned before after some same none = true≢false (sym (ap is_none (sym same ∙ none)) ∙ some)

module _ (L : Layout) (m : Memory) (w : ℕ) (k : Knowledge) (s : Search) (law : Law k s) where
  after_event : (e : Event) (r : Reply) → refusal L m k w e ≡ None → Law (learn w k e r) (searched s e r)
  unfolding refusal learn searched
  after_event Sight r ok = after_sight k s None r law
  after_event (SightFor op key) r ok = after_sight k s (Some (record { op = op; key = key })) r law
  after_event Leave Departed ok = λ pin. record { labelled = (passed _ _ _ ok).0; idle = refl }
  after_event (LeaveWith answer) Departed ok = λ pin. record { labelled = (passed _ _ _ ok).0; idle = refl }
  after_event Announce (Announced e) ok = λ pin. record { labelled = (law pin).labelled; idle = (law pin).idle }
  after_event (Scan u) r ok = same_brief k (learn_scan k u r) s
      (ap (λ (l : Knowledge). l.brief) (scan_teaches k u r)) law
  after_event Advance (Moved e) ok = λ pin. record { labelled = (law pin).labelled; idle = (law pin).idle }
  after_event Advance (Behind e) ok = λ pin. record { labelled = (law pin).labelled; idle = (law pin).idle }
  after_event (Claim x) (Claimed y) ok = λ pin. record { labelled = (law pin).labelled; idle = (law pin).idle }
  after_event (Give x) (Returned y) ok = λ pin. record { labelled = (law pin).labelled; idle = (law pin).idle }
  after_event (Give x) (Freed n) ok = λ pin. record { labelled = (law pin).labelled; idle = (law pin).idle }
  after_event (Look x f) r ok = λ pin.
      let had = same_brief k (learn w k (Look x f) r) s (ap (λ (l : Knowledge). l.brief) (look_teaches k x f r)) law
      pin in
      record { labelled = had.labelled; idle = no_walks x f r s had.idle }
  after_event (Fill x f v) Filled ok = λ pin. record { labelled = (law pin).labelled; idle = (law pin).idle }
  after_event (Link p side leaf new) r ok = λ pin. absurd
      (pinned k.brief.pin _ (second _ (is_none k.brief.pin) _ _ _ ok) (alike_link w k p side leaf new r).pin pin)
  after_event (Flag p side leaf) r ok = λ pin. absurd
      (pinned k.brief.pin _ (second _ (is_none k.brief.pin) _ _ _ ok) (alike_flag w k p side leaf r).pin pin)
  after_event (Tag p side) (Was e) ok = λ pin. absurd
      (pinned k.brief.pin _ (second _ (is_none k.brief.pin) _ _ _ ok) (alike_tag w k p side e).pin pin)
  after_event (Splice a side x p keep) r ok = λ pin. absurd
      (pinned k.brief.pin _ (second _ (is_none k.brief.pin) _ _ _ ok) (alike_splice w k a side x p keep r).pin pin)
  after_event (Swap p side leaf new) r ok =
      λ pin. absurd (pinned k.brief.pin _ (second _ (is_none k.brief.pin) _ _ _ ok)
      (alike_swap w k p side leaf new r).pin pin)
  after_event (Join v) r ok = same_brief k (learn w k (Join v) r) s (join_stays w k v r) law
  after_event _ _ ok = law

-- ---- logs

-- what a state allows of one worker alone, that worker's knowledge allows
by_own : (s : State) (w : ℕ) (e : Event) → refusal_of s w e ≡ None → refusal s.layout s.memory (of s w) w e ≡ None
unfolding refusal
by_own s w (Join v) ok = refl
by_own s w e ok = ok

join_allowed : (L : Layout) (m : Memory) (k : Knowledge) (w v : ℕ) → refusal L m k w (Join v) ≡ None
unfolding refusal
join_allowed L m k w v = refl

module _ (L : Layout) (enough : 5 ≤ L.nodes) (w : ℕ) where
  abbrev OfLog : List Entry → Type 0
  OfLog log = Law (known_by L w log) (search_after idle log)

  more : (log : List Entry) (entry : Entry) → IsLogOf L w (log ++ entry ∷ []) → OfLog log → OfLog (log ++ entry ∷ [])
  more log entry l law = go (last_entry L enough w log entry l)
    where
      k : Knowledge
      k = known_by L w log

      next : (M : Layout) (m : Memory) → refusal M m k w entry.0 ≡ None → OfLog (log ++ entry ∷ [])
      next M m ok =
          subst (λ (l : Knowledge). Law l (search_after idle (log ++ entry ∷ []))) (sym (known_more w _ log entry))
          (subst (λ (t : Search). Law (learn w k entry.0 entry.1) t) (sym (search_more idle log entry))
          (after_event M m w k (search_after idle log) law entry.0 entry.1 ok))

      go : LastEntry L w log entry → OfLog (log ++ entry ∷ [])
      go e = by e.takes
        where
          by : PartOf w e.by entry.0 → OfLog (log ++ entry ∷ [])
          by (Own own) =
              let ok = by_own e.before.state e.by entry.0
              (allowed e.before.state e.by entry.0 (allowed_by_state e.before e.by entry.0 e.is_allowed)).event in
              next e.before.state.layout e.before.state.memory
              (subst (λ (l : Knowledge). refusal e.before.state.layout e.before.state.memory l w entry.0 ≡ None)
              e.told.knows
              (subst (λ (u : ℕ). refusal e.before.state.layout e.before.state.memory (of e.before.state u) u entry.0
              ≡ None) own ok))
          by (Resigns v is) = next L e.before.state.memory
              (subst (λ (x : Event). refusal L e.before.state.memory k w x ≡ None) (sym is)
              (join_allowed L e.before.state.memory k w v))

  none_yet : OfLog []
  none_yet pin = record { labelled = refl; idle = refl }

pub unpinned_workers_have_no_call : UnpinnedWorkersHaveNoCall
unpinned_workers_have_no_call L enough w log l = each_log L w (OfLog L enough w) (none_yet L enough w)
    (more L enough w) log l
