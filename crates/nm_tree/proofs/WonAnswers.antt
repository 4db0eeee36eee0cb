-- In each ordered run each accepted turn is of a worker of the core, and before a true answer of an
-- insert or a delete its worker has won a link or a flag.
use Rattle.std.proofs.Common.{◌≡◌, ℕ, zero, suc, ◌<◌, ◌==◌, inl, inr, ◌⊎◌, Bool, true, false, ◌&&◌, ◌||◌, List, [], ◌∷◌, ◌++◌, refl, sym, ap, subst, ◌∙◌, arith}
use Rattle.std.specs.Prelude.{Ok, All, Contains}
use Rattle.std.specs.List.{list_any}
use Rattle.std.proofs.lemmas.Bool.{eq-eqb}
use Rattle.std.proofs.lemmas.List.Folds.{list_any-append}
use Rattle.nm_edge.specs.Layouts.{Layout, IsLayout}
use Rattle.nm_model.specs.declared.event.Op.{Op}
use Rattle.nm_model.specs.declared.event.Op.TheVariants.{Has, Insert, Delete}
use Rattle.nm_model.specs.declared.event.Event.{Event}
use Rattle.nm_model.specs.declared.event.Event.TheVariants.{LeaveWith, Link, Flag}
use Rattle.nm_model.specs.declared.reply.Reply.{Reply}
use Rattle.nm_model.specs.declared.reply.Reply.TheVariants.{Departed, Linked, Flagged}
use Rattle.nm_model.specs.declared.trace.Turn.{Turn}
use Rattle.nm_model.specs.Ordered.{Configuration, HasKey, ordered, refused_in, next_in, outcome_in, after_in, trace_in}
use Rattle.nm_laws.proofs.Configurations.{allowed_by_state}
use Rattle.nm_laws.proofs.Steps.{allowed}
use Rattle.nm_order.specs.Exchanges.{MayAnswer, HasWonInsert, HasFlagged}
use Rattle.nm_order.specs.History.{pin_of}
use Rattle.nm_order.specs.Intervals.{IsCalled}
use Rattle.nm_order.proofs.RunExchanges.{each_true_delete, each_true_insert, first_keys}
use Rattle.nm_order.proofs.WalksOfRuns.{trace_in-append}
use Rattle.nm_model.specs.Histories.{call_begun, answer_turn}
use Rattle.nm_theorem.proofs.HistoriesOfRuns.{called_is}
use Rattle.nm_theorem.proofs.Runs.{Parts, Head, parts_of, head_of, enough_of, layout_next}
use Rattle.nm_theorem.proofs.StaysOfRuns.{was_allowed}
use Rattle.nm_tree.specs.Running.{AreOfWorkers, WinsIn, TrueAnswersHaveWon, wins}

-- ---- the workers of accepted turns

staffed : (L : Layout) (ts : List (ℕ × Event)) (c : Configuration) → c.state.layout ≡ L → (t : Turn) (r : Reply)
    → Contains (trace_in c ts) t → t.outcome ≡ Ok r → t.worker < L.workers
unfolding trace_in refused_in
staffed L [] c same t r there is = let b = there.1 in absurd (omega (arith, b))
staffed L (x ∷ ts) c same t r (zero, below, at) is =
    let won : outcome_in c x ≡ Ok r = ap (λ (u : Turn). u.outcome) at ∙ is in
    subst (λ (w : ℕ). w < L.workers) (ap (λ (u : Turn). u.worker) at)
    (subst (λ (l : Layout). x.0 < l.workers) same (allowed c.state x.0 x.1
    (allowed_by_state c x.0 x.1 (was_allowed c x r won))).worker)
staffed L (x ∷ ts) c same t r (suc i, below, at) is = staffed L ts (next_in c x) (layout_next c x ∙ same) t r
    (i, omega (arith, below), at) is

pub turns_are_of_workers : (L : Layout) (events : List (ℕ × Event)) → AreOfWorkers L (trace_in (ordered L) events)
turns_are_of_workers L events t r there is = staffed L events (ordered L) refl t r there is

-- ---- exchanges

won_in : (L : Layout) (ts before since : List (ℕ × Event)) (op : Op) (w : ℕ) (e : Event) (r : Reply)
    → ts ≡ before ++ (w, e) ∷ since → outcome_in (after_in (ordered L) before) (w, e) ≡ Ok r
    → wins op e (Ok r) ≡ true → WinsIn op w (trace_in (ordered L) ts)
unfolding trace_in
won_in L ts before since op w e r are told won =
    let such : Turn → Bool = λ t. (t.worker == w) && wins op t.event t.outcome in
    ap (λ (us : List Turn). list_any such us) (ap (trace_in (ordered L)) are
    ∙ trace_in-append (ordered L) before ((w, e) ∷ since))
    ∙ (list_any-append such (trace_in (ordered L) before) (trace_in (after_in (ordered L) before) ((w, e) ∷ since))
    ∙ (ap (λ (b : Bool). list_any such (trace_in (ordered L) before)
    || (b || list_any such (trace_in (next_in (after_in (ordered L) before) (w, e)) since)))
    ((λ i. eq-eqb w w refl i && wins op e (told i)) ∙ won) ∙ either (list_any such (trace_in (ordered L) before))))
  where
    either : (b : Bool) → (b || true) ≡ true
    either true = refl
    either false = refl

linked : (L : Layout) (ts : List (ℕ × Event)) (w k : ℕ) → HasWonInsert L ts w k
    → WinsIn Insert w (trace_in (ordered L) ts)
linked L ts w k i = won_in L ts i.before i.since Insert w (Link i.parent i.side i.leaf i.new) (Linked i.linked)
    i.is_run i.won refl

flagged : (L : Layout) (ts : List (ℕ × Event)) (w k : ℕ) → HasFlagged L ts w k
    → WinsIn Delete w (trace_in (ordered L) ts)
flagged L ts w k f = won_in L ts f.before f.since Delete w (Flag f.parent f.side f.leaf) (Flagged f.flagged) f.is_run
    f.won refl

module _ (L : Layout) (fits : IsLayout L) (ts : List (ℕ × Event)) (keys : All (λ t. HasKey t.1) ts) where
  won_before : (before since : List (ℕ × Event)) (w k : ℕ) (op : Op) → ts ≡ before ++ since
      → MayAnswer (after_in (ordered L) before) w op k true → (op ≡ Has) ⊎ WinsIn op w (trace_in (ordered L) before)
  won_before before since w k Has are may = inl refl
  won_before before since w k Insert are may = inr
      (linked L before w k (each_true_insert L (enough_of L fits) before
      (first_keys before since (subst (λ (us : List (ℕ × Event)). All (λ t. HasKey t.1) us) are keys)) w k may))
  won_before before since w k Delete are may = inr
      (flagged L before w k (each_true_delete L (enough_of L fits) before
      (first_keys before since (subst (λ (us : List (ℕ × Event)). All (λ t. HasKey t.1) us) are keys)) w k may))

  pub true_answers_have_won : TrueAnswersHaveWon (trace_in (ordered L) ts)
  true_answers_have_won before since w c are called =
      subst (λ (us : List Turn). (c.op ≡ Has) ⊎ WinsIn c.op w us) (sym p.first_is)
      (won_before p.early p.late w c.key c.op p.all (record { called = call.1; leaves = leaves }))
    where
      turn : Turn
      turn = answer_turn w true

      p : Parts (ordered L) ts before (turn ∷ since)
      p = parts_of (ordered L) ts before (turn ∷ since) are

      h : Head (after_in (ordered L) p.early) p.late turn since
      h = head_of (after_in (ordered L) p.early) p.late turn since (sym p.rest_is)

      event_is : h.event ≡ (w, LeaveWith true)
      event_is = λ i. ((sym h.turn_is i).worker, (sym h.turn_is i).event)

      leaves : outcome_in (after_in (ordered L) p.early) (w, LeaveWith true) ≡ Ok Departed
      leaves = ap (outcome_in (after_in (ordered L) p.early)) (sym event_is)
          ∙ ap (λ (t : Turn). t.outcome) (sym h.turn_is)

      call : (c.pin ≡ pin_of L p.early w) × IsCalled (after_in (ordered L) p.early) w c.op c.key
      call = called_is L (enough_of L fits) w p.early
          (first_keys p.early p.late (subst (λ (us : List (ℕ × Event)). All (λ t. HasKey t.1) us) p.all keys)) c
          (ap (call_begun w) (sym p.first_is) ∙ called)
