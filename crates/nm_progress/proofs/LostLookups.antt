-- A look-up that is busy.
use Rattle.std.proofs.Common.{◌≡◌, ℕ, zero, suc, ◌≤◌, inl, inr, List, [], ◌∷◌, ◌++◌, append_assoc, refl, sym, ap, subst, ◌∙◌, arith}
use Rattle.std.specs.Prelude.{All}
use Rattle.nm_model.specs.declared.event.Event.{Event}
use Rattle.nm_model.specs.declared.event.Event.TheVariants.{SightFor, Leave}
use Rattle.nm_model.specs.declared.event.Op.TheVariants.{Has}
use Rattle.nm_model.specs.declared.reply.Reply.TheVariants.{Departed}
use Rattle.nm_model.specs.declared.trace.Turn.{Turn}
use Rattle.nm_model.specs.Walks.{Entry}
use Rattle.nm_model.specs.Ordered.{ordered, after_in, trace_in}
use Rattle.nm_order.specs.Intervals.{HasKey}
use Rattle.nm_order.specs.Logs.{part_of}
use Rattle.nm_order.proofs.OrderedLaws.{each_ordered}
use Rattle.nm_order.proofs.RunExchanges.{first_keys}
use Rattle.nm_order.proofs.WalksOfRuns.{trace_in-append}
use Rattle.nm_steps.specs.Steps.{PassView, IsSamePass, HasSeen, HasSeenAllOf}
use Rattle.nm_calls.specs.PlainWalks.{events_of}
use Rattle.nm_progress.specs.Moves.{number_of}
use Rattle.nm_progress.specs.Tries.{reshapes_of_others}
use Rattle.nm_progress.proofs.LostTries.{later_keys}
use Rattle.nm_progress.proofs.SplitTurns.{ordered_after, number-append}
use Rattle.nm_progress.specs.Lookups.{WasReshaped, BusyLookupsMetInterference}
use Rattle.nm_progress.proofs.LostPins.{turns_between, lost_pins_were_moved_past, keys_seen, part_added}
use Rattle.nm_progress.proofs.Parts.{Longer, pin_longer}
use Rattle.nm_progress.proofs.WalkInterference.{SplitPart, split_part, Strays, strays_longer, all_interference, lost_strays}

-- between the begin and the end of a call of which such parts of the log are, as many as others have
-- linked or cut off nodes
pub was_reshaped : (t : ℕ) (p q : PassView) → HasSeen p.view → HasSeen q.view → (enough : 5 ≤ p.view.layout.nodes)
    → IsSamePass p q → HasSeenAllOf q p → (pinned walked : List Entry) → Longer p.view.log pinned
    → Strays p.view.layout enough p.view.number t pinned walked → q.view.log ≡ walked ++ (Leave, Departed) ∷ []
    → WasReshaped p q t
was_reshaped t p q seen_p seen_q enough same on pinned walked begun strays leaves = record {
  turns = on.goes_on.more;
  is = on.goes_on.is;
  reshaped = subst (λ (ts : List Turn). t ≤ number_of (reshapes_of_others p.view.number) ts)
      (turns_between p q seen_p seen_q same on.goes_on)
      (counted (split_part w begun.entries (after_in (ordered p.view.layout) (events_of p.view.past))
      (events_of on.goes_on.more) (walking.entries ++ (Leave, Departed) ∷ []) part));
}
  where
    w : ℕ
    w = p.view.number

    keys : All (λ t. HasKey t.1) ((events_of p.view.past) ++ (events_of on.goes_on.more))
    keys = keys_seen p q seen_p seen_q same on.goes_on

    walking : Longer pinned walked
    walking = strays_longer p.view.layout enough p.view.number t pinned walked strays

    part : part_of p.view.number (trace_in (after_in (ordered p.view.layout) (events_of p.view.past))
        (events_of on.goes_on.more)) ≡ begun.entries ++ (walking.entries ++ (Leave, Departed) ∷ [])
    part = part_added p q seen_p seen_q same on.goes_on _
        (leaves ∙ (ap (λ (l : List Entry). l ++ (Leave, Departed) ∷ []) walking.are
        ∙ (ap (λ (l : List Entry). (l ++ walking.entries) ++ (Leave, Departed) ∷ []) begun.are
        ∙ (append_assoc (p.view.log ++ begun.entries) walking.entries ((Leave, Departed) ∷ [])
        ∙ append_assoc p.view.log begun.entries (walking.entries ++ (Leave, Departed) ∷ [])))))

    counted : SplitPart p.view.number (after_in (ordered p.view.layout) (events_of p.view.past))
        (events_of on.goes_on.more) begun.entries (walking.entries ++ (Leave, Departed) ∷ [])
        → t ≤ number_of (reshapes_of_others p.view.number)
        (trace_in (after_in (ordered p.view.layout) (events_of p.view.past)) (events_of on.goes_on.more))
    counted s = inner (split_part p.view.number walking.entries
        (after_in (after_in (ordered p.view.layout) (events_of p.view.past)) s.before) s.since ((Leave, Departed) ∷ [])
        s.is_since)
      where
        more_keys : All (λ t. HasKey t.1) (s.before ++ s.since)
        more_keys = subst (λ (l : List (ℕ × Event)). All (λ t. HasKey t.1) l) s.is_run
            (later_keys (events_of p.view.past) (events_of on.goes_on.more) keys)

        inner : SplitPart p.view.number (after_in (after_in (ordered p.view.layout) (events_of p.view.past))
            s.before) s.since walking.entries ((Leave, Departed) ∷ [])
            → t ≤ number_of (reshapes_of_others p.view.number)
            (trace_in (after_in (ordered p.view.layout) (events_of p.view.past)) (events_of on.goes_on.more))
        inner r =
            let o = ordered_after p.view.number p.view.layout enough s.before (first_keys s.before s.since more_keys)
            (after_in (ordered p.view.layout) (events_of p.view.past))
            (each_ordered p.view.layout enough (events_of p.view.past)
            (first_keys (events_of p.view.past) (events_of on.goes_on.more) keys)) in
            let since_keys = subst (λ (l : List (ℕ × Event)). All (λ t. HasKey t.1) l) r.is_run
            (later_keys s.before s.since more_keys) in
            let all = all_interference p.view.layout enough p.view.number t
            (after_in (after_in (ordered p.view.layout) (events_of p.view.past)) s.before) o r.before
            (first_keys r.before r.since since_keys) pinned walked strays
            (ap (λ (l : List Entry). pinned ++ l) r.is_before ∙ sym walking.are) in
            let run = ap (λ (l : List (ℕ × Event)). number_of (reshapes_of_others p.view.number)
            (trace_in (after_in (ordered p.view.layout) (events_of p.view.past)) l)) s.is_run in
            let parts = ap (number_of (reshapes_of_others p.view.number))
            (trace_in-append (after_in (ordered p.view.layout) (events_of p.view.past)) s.before s.since)
            ∙ number-append (reshapes_of_others p.view.number)
            (trace_in (after_in (ordered p.view.layout) (events_of p.view.past)) s.before)
            (trace_in (after_in (after_in (ordered p.view.layout) (events_of p.view.past)) s.before) s.since) in
            let run' = ap (λ (l : List (ℕ × Event)). number_of (reshapes_of_others p.view.number)
            (trace_in (after_in (after_in (ordered p.view.layout) (events_of p.view.past)) s.before) l))
            r.is_run in
            let parts' = ap (number_of (reshapes_of_others p.view.number))
            (trace_in-append (after_in (after_in (ordered p.view.layout) (events_of p.view.past)) s.before)
            r.before r.since) ∙ number-append (reshapes_of_others p.view.number)
            (trace_in (after_in (after_in (ordered p.view.layout) (events_of p.view.past)) s.before) r.before)
            (trace_in (after_in (after_in (after_in (ordered p.view.layout) (events_of p.view.past)) s.before)
            r.before) r.since) in
            omega (arith, all, run, parts, run', parts')

pub busy_lookups_met_interference : BusyLookupsMetInterference
busy_lookups_met_interference k zero p q seen_p seen_q enough same on missed = inl refl
busy_lookups_met_interference k (suc t) p q seen_p seen_q enough same on (inl moved) = inr
    (inl (lost_pins_were_moved_past p q seen_p seen_q enough same on (SightFor Has k) refl t moved))
busy_lookups_met_interference k (suc t) p q seen_p seen_q enough same on
    (inr (pinned, walked, epoch, pin, walks, leaves)) =
    inr (inr (was_reshaped (suc t) p q seen_p seen_q enough same on pinned walked
    (pin_longer (SightFor Has k) (suc t) p.view.log pinned epoch pin)
    (lost_strays p.view.layout enough p.view.number k (suc t) pinned walked walks) leaves))
