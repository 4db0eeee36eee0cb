-- A try to cut off the flagged leaf is lost only if another worker changes an edge meanwhile. So a
-- worker that runs alone loses none.
use Rattle.std.proofs.Common.{◌≡◌, ℕ, zero, suc, ◌+◌, ◌≤◌, inl, inr, ◌⊎◌, List, ◌++◌, refl, sym, ap, subst, ◌∙◌, arith}
use Rattle.std.specs.Prelude.{All}
use Rattle.nm_edge.specs.Layouts.{Layout}
use Rattle.nm_model.specs.declared.event.Event.TheVariants.{SightFor}
use Rattle.nm_model.specs.declared.event.Op.TheVariants.{Delete}
use Rattle.nm_model.specs.Ordered.{ordered, after_in}
use Rattle.nm_model.specs.Walks.{Entry}
use Rattle.nm_order.specs.Intervals.{HasKey}
use Rattle.nm_order.specs.Logs.{known_by, IsLogOf}
use Rattle.nm_order.proofs.OrderedLaws.{each_ordered}
use Rattle.nm_order.proofs.PartsOfRuns.{logs_tell}
use Rattle.nm_order.proofs.RunExchanges.{first_keys}
use Rattle.nm_steps.specs.Rules.{Extends}
use Rattle.nm_steps.specs.Steps.{PassView, IsSamePass, HasSeen}
use Rattle.nm_walks.specs.Cleanups.{CleanupLost}
use Rattle.nm_calls.specs.Deletes.{LostRemovals, leaf_of}
use Rattle.nm_calls.specs.PlainWalks.{events_of}
use Rattle.nm_calls.proofs.PlainLooks.{as_events}
use Rattle.nm_progress.specs.Alone.{IsAlone, DeletesAloneAreFinished, FinishesAloneAreAnswered}
use Rattle.nm_progress.proofs.AloneCalls.{own_events, pin_mute, none_flagged, none_pends}
use Rattle.nm_progress.proofs.LostCleanups.{NeedsOthers, never_within, own_trace}
use Rattle.nm_progress.proofs.InterferedRemovals.{Flagging, flag_needs, removal_needs, removal_steady, removals_steady}
use Rattle.nm_progress.proofs.InterferedTries.{flags_steady}
use Rattle.nm_progress.proofs.LostPins.{keys_seen, part_on, part_added}
use Rattle.nm_progress.proofs.LostTries.{later_keys}
use Rattle.nm_progress.proofs.MoreTries.{log_prefix}
use Rattle.nm_progress.proofs.Parts.{Longer, longer_these, longer_then, longer_none, pin_longer, seeks_longer, cleanup_longer}
use Rattle.nm_progress.proofs.Steady.{Steady, steady_call}

-- ---- by what p and q have seen

module _ (p q : PassView) (seen_p : HasSeen p.view) (seen_q : HasSeen q.view) (enough : 5 ≤ p.view.layout.nodes)
    (same : IsSamePass p q) (alone : IsAlone p q) where
  abbrev goes_on : Extends q.view.past p.view.past
  goes_on = record { more = alone.turns; is = alone.is }

  keys : All (λ t. HasKey t.1) (events_of p.view.past ++ events_of alone.turns)
  keys = keys_seen p q seen_p seen_q same goes_on

  seen_alone : IsLogOf p.view.layout p.view.number q.view.log
  seen_alone = record {
    worker = seen_p.worker;
    turns = events_of p.view.past
        ++ events_of alone.turns;
    keys = keys;
    is_part = part_on p q seen_p seen_q same goes_on;
  }

  is_never : NeedsOthers p.view.layout enough p.view.number p.view.log q.view.log → ⊥
  is_never h =
      let past_keys = first_keys (events_of p.view.past) (events_of alone.turns) keys in
      h.never (after_in (ordered p.view.layout) (events_of p.view.past))
      (each_ordered p.view.layout enough (events_of p.view.past) past_keys)
      (logs_tell p.view.layout (events_of p.view.past) p.view.number seen_p.worker
      ∙ ap (known_by p.view.layout p.view.number) (as_events p.view seen_p).is_part)
      (record {
        past = events_of p.view.past;
        keys = past_keys;
        is = refl;
        is_part =
            (as_events p.view seen_p).is_part;
      }) (events_of alone.turns)
      (later_keys (events_of p.view.past) (events_of alone.turns) keys)
      (own_trace p.view.number (events_of alone.turns) (after_in (ordered p.view.layout) (events_of p.view.past))
      (own_events p.view.number alone.turns alone.own)) (part_added p q seen_p seen_q same goes_on h.entries h.are)

pub finishes_alone_are_answered : FinishesAloneAreAnswered
finishes_alone_are_answered k zero n p q seen_p seen_q enough crew same on alone removing tried = refl
finishes_alone_are_answered k (suc t) n p q seen_p seen_q enough crew same on alone removing (mid, before, try) =
    absurd (is_never p q seen_p seen_q enough same alone
    (never_within L enough w p.view.log mid q.view.log q.view.log
    (longer_these first.entries p.view.log mid first.are)
    (removal_needs L enough w k seen_p.worker crew n mid q.view.log flagging try
    (seen_alone p q seen_p seen_q enough same alone)) (longer_none q.view.log q.view.log refl)))
  where
    L : Layout
    L = p.view.layout

    w : ℕ
    w = p.view.number

    first : Steady p.view.log mid
    first = removals_steady p.view.layout enough p.view.number k n t p.view.log mid before

    flagging : Flagging k n mid
    flagging =
        let last = steady_call mid q.view.log (removal_steady p.view.layout enough p.view.number k n mid q.view.log
        try) in record { call = sym last.0 ∙ removing.call; flagged = sym last.1 ∙ removing.flagged }

pub deletes_alone_are_finished : DeletesAloneAreFinished
deletes_alone_are_finished k tries n p q seen_p seen_q enough same on runs resting
    (pinned, epoch, pin, (f, c, mid, leaf, (t, before, count, tried, won), after)) = by after
  where
    L : Layout
    L = p.view.layout

    w : ℕ
    w = p.view.number

    alone : IsAlone p q
    alone = runs.alone

    flagged : Longer before mid
    flagged = longer_then before won.ended mid (seeks_longer p.view.layout k before won.ended c f.end won.walk)
        (longer_then won.ended _ mid (longer_these _ won.ended _ refl) (longer_these _ _ mid won.entries))

    begun : Longer p.view.log before
    begun = let flags = flags_steady p.view.layout enough p.view.number k t pinned before tried in
        longer_then p.view.log pinned before (pin_longer (SightFor Delete k) tries p.view.log pinned epoch pin)
        (longer_these flags.entries pinned before flags.are)

    by : ((f.left ≡ 0) × (q.view.log ≡ mid)) ⊎ ((m : ℕ) × (cleaned : List Entry) × (f.left ≡ m + 1)
        × CleanupLost f.end.seek_record c mid cleaned × LostRemovals p.view.layout k (leaf_of f.end f.birth) m cleaned
        q.view.log) → tries ≤ 1
    by (inl (none, is)) =
        let first = none_flagged p q seen_p seen_q enough same runs.alone (none_pends p seen_p resting runs.rests) k
        t pinned before (pin_mute Delete k tries p.view.log pinned epoch pin) tried
        (longer_then before mid q.view.log flagged (longer_none mid q.view.log is)) in
        omega (arith, first, none, count)
    by (inr (m, cleaned, left, cleanup, removals)) = absurd (is_never p q seen_p seen_q enough same alone
        (never_within p.view.layout enough p.view.number p.view.log before cleaned q.view.log begun lost
        (longer_these rest.entries cleaned q.view.log rest.are)))
      where
        rest : Steady cleaned q.view.log
        rest = removals_steady p.view.layout enough p.view.number k (leaf_of f.end f.birth) m cleaned q.view.log
            removals

        cleaned_log : IsLogOf p.view.layout p.view.number cleaned
        cleaned_log = log_prefix p.view.layout p.view.number cleaned rest.entries
            (subst (IsLogOf p.view.layout p.view.number) rest.are (seen_alone p q seen_p seen_q enough same alone))

        mid_log : IsLogOf p.view.layout p.view.number mid
        mid_log = let longer = cleanup_longer f.end.seek_record c mid cleaned (inr cleanup) in
            log_prefix p.view.layout p.view.number mid longer.entries
            (subst (IsLogOf p.view.layout p.view.number) longer.are cleaned_log)

        lost : NeedsOthers p.view.layout enough p.view.number before cleaned
        lost = flag_needs p.view.layout enough p.view.number k f.end c f.birth (leaf_of f.end f.birth) before mid
            cleaned won cleanup mid_log cleaned_log
