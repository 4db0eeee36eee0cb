-- An answer that a worker's log ends with has its moment, in each run of which the log is a part.
use Rattle.std.proofs.Common.{◌≡◌, ℕ, ◌≤◌, Bool, true, false, List, [], ◌∷◌, ◌++◌, refl, sym, ap, subst, ◌∙◌}
use Rattle.std.specs.Prelude.{Option, unwrap_or, Ok, All}
use Rattle.nm_edge.specs.Layouts.{Layout}
use Rattle.nm_model.specs.declared.event.Op.{Op}
use Rattle.nm_model.specs.declared.event.Op.TheVariants.{Has, Insert, Delete}
use Rattle.nm_model.specs.declared.event.Event.{Event}
use Rattle.nm_model.specs.declared.event.Event.TheVariants.{LeaveWith, Join}
use Rattle.nm_model.specs.declared.reply.Reply.{Reply}
use Rattle.nm_model.specs.declared.reply.Reply.TheVariants.{Departed}
use Rattle.nm_model.specs.Searches.{Search, idle}
use Rattle.nm_model.specs.Walks.{Entry, search_after}
use Rattle.nm_model.specs.Ordered.{ordered, search_of, outcome_in, after_in}
use Rattle.nm_laws.proofs.Configurations.{allowed_outcome}
use Rattle.nm_order.specs.Intervals.{HasKey}
use Rattle.nm_order.specs.Exchanges.{MayAnswer, HasFlagged}
use Rattle.nm_order.specs.Answered.{HasMoment, IsAnsweredIn, AnswersHaveMoments, PendingDeletesHaveFlagged}
use Rattle.nm_order.proofs.LastEntries.{ToldBy, told_by_part, LastTurn, last_turn, PartOf, part_or}
use Rattle.nm_order.proofs.LastEntries.PartOf.{Own, Resigns}
use Rattle.nm_order.proofs.RunExchanges.{each_true_insert}
use Rattle.nm_order.proofs.LegalAnswers.{each_other_answer}
use Rattle.nm_order.proofs.FlagFates.{Fate, fates, each_true_delete_cuts}
use Rattle.nm_order.proofs.OwnTurns.{own_search}
use Rattle.nm_model.specs.declared.arrivals.Call.{Call}
use Rattle.std.proofs.lemmas.Option.{same_Some}

pub moment_of : (L : Layout) → 5 ≤ L.nodes → (turns : List (ℕ × Event)) → All (λ t. HasKey t.1) turns
    → (w : ℕ) (op : Op) (k : ℕ) (answer : Bool) → MayAnswer (after_in (ordered L) turns) w op k answer
    → HasMoment L turns w op k answer
moment_of L enough turns keys w Has k answer may = each_other_answer L enough turns keys w Has k answer may refl
moment_of L enough turns keys w Insert k true may = each_true_insert L enough turns keys w k may
moment_of L enough turns keys w Insert k false may = each_other_answer L enough turns keys w Insert k false may refl
moment_of L enough turns keys w Delete k true may = each_true_delete_cuts L enough turns keys w k may
moment_of L enough turns keys w Delete k false may = each_other_answer L enough turns keys w Delete k false may refl

pub answers_have_moments : AnswersHaveMoments
answers_have_moments L enough w log op k answer called l = by
    (last_turn w l.turns l.keys (ordered L) log (LeaveWith answer, Departed) l.is_part)
  where
    by : LastTurn w (ordered L) l.turns log (LeaveWith answer, Departed) → IsAnsweredIn L l.turns w op k answer
    by t = on (part_or w t.turn.0 t.turn.1 t.takes)
      where
        is_leave : t.turn.1 ≡ LeaveWith answer
        is_leave = ap (λ (x : Entry). x.0) t.is_entry

        told : ToldBy L w log (after_in (ordered L) t.before)
        told = subst (λ (x : List Entry). ToldBy L w x (after_in (ordered L) t.before)) t.is_before
            (told_by_part L enough w l.worker t.before t.keys)

        on : PartOf w t.turn.0 t.turn.1 → IsAnsweredIn L l.turns w op k answer
        on (Resigns v is) = absurd (differ (sym is_leave ∙ is))
          where
            differ : LeaveWith answer ≡ Join v → ⊥
            differ e = cc
        on (Own own) = record {
          before = t.before;
          since = t.since;
          is_run = t.is_run ∙ ap (λ (u : ℕ × Event). t.before ++ u ∷ t.since) turn;
          may = may;
          moment = moment_of L enough t.before t.keys w op k answer may;
        }
          where
            turn : t.turn ≡ (w, LeaveWith answer)
            turn = λ i. (own i, is_leave i)

            may : MayAnswer (after_in (ordered L) t.before) w op k answer
            may = record {
              called = record {
                searches = told.is_ordered.searches;
                are = told.is_ordered.are;
                is_call = ap
                    (λ (S : Search). S.call) told.search ∙ called;
              };
              leaves = ap (outcome_in (after_in (ordered L) t.before)) (sym turn)
                  ∙ (allowed_outcome (after_in (ordered L) t.before) t.turn t.is_allowed
                  ∙ ap (λ (r : Reply). Ok r) (ap (λ (x : Entry). x.1) t.is_entry));
            }

pub pending_deletes_have_flagged : PendingDeletesHaveFlagged
pending_deletes_have_flagged L enough w log k n called flagged l = subst
    (λ (j : ℕ). (f : HasFlagged L l.turns w j) × (f.flagged ≡ n)) same_key (f.flag, f.is_node)
  where
    told : ToldBy L w log (after_in (ordered L) l.turns)
    told = subst (λ (x : List Entry). ToldBy L w x (after_in (ordered L) l.turns)) l.is_part
        (told_by_part L enough w l.worker l.turns l.keys)

    own : own_search (after_in (ordered L) l.turns) w ≡ search_after idle log
    own = ap (λ (x : Option (List Search)). search_of (unwrap_or x []) w) told.is_ordered.are ∙ told.search

    f : Fate L enough l.turns w n
    f = fates L enough l.turns l.keys w n (ap (λ (S : Search). S.flagged) own ∙ flagged)

    same_key : f.k ≡ k
    same_key = ap (λ (c : Call). c.key) (same_Some (record { op = Delete; key = f.k })
        (record { op = Delete; key = k }) (sym f.is_call ∙ (ap (λ (S : Search). S.call) own ∙ called)))
