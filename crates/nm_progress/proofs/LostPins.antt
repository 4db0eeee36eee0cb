-- Each try of a pin that was lost was lost to a move of the epoch by another worker.
use Rattle.std.proofs.Common.{◌≡◌, ℕ, zero, suc, ◌+◌, ◌<◌, ◌≤◌, ◌==◌, Bool, true, false, cond, not, ◌&&◌, ◌||◌, List, [], ◌∷◌, ◌++◌, append_assoc, refl, sym, ap, subst, ◌∙◌, arith, true≢false}
use Rattle.std.specs.Prelude.{Option, Some, None, Result, Ok, Err, All}
use Rattle.std.specs.List.{list_any}
use Rattle.std.proofs.lemmas.Bool.{or_parts}
use Rattle.std.proofs.lemmas.Option.{same_Some}
use Rattle.std.proofs.lemmas.List.{append-nil, append_cancel_left}
use Rattle.std.proofs.lemmas.List.Folds.{list_any-append}
use Rattle.nm_edge.specs.Layouts.{Layout}
use Rattle.nm_model.specs.declared.event.Event.{Event}
use Rattle.nm_model.specs.declared.event.Event.TheVariants.{Sight, SightFor, Announce, Advance, Leave}
use Rattle.nm_model.specs.declared.reply.Reply.{Reply}
use Rattle.nm_model.specs.declared.reply.Reply.TheVariants.{Saw, Labelled, Pinned, Missed, Announced, Departed}
use Rattle.nm_model.specs.declared.reply.Refused.{Refused}
use Rattle.nm_model.specs.declared.trace.Turn.{Turn}
use Rattle.nm_model.specs.Knowledge.{Knowledge}
use Rattle.nm_model.specs.Learning.{learn}
use Rattle.nm_model.specs.Step.{reply_sight, confirmed}
use Rattle.nm_model.specs.Runs.{of, reply_of}
use Rattle.nm_model.specs.Walks.{Entry, logged_by, log_of}
use Rattle.nm_model.specs.Ordered.{Configuration, ordered, after_in, trace_in}
use Rattle.nm_laws.proofs.Configurations.{after_in-append}
use Rattle.nm_order.specs.Intervals.{HasKey}
use Rattle.nm_order.specs.Logs.{takes_part, part_of, known_by, IsLogOf}
use Rattle.nm_order.proofs.LastEntries.{known_more, log_before}
use Rattle.nm_order.proofs.OrderedLaws.{each_ordered, law_of_state}
use Rattle.nm_order.proofs.PartsOfRuns.{logs_tell}
use Rattle.nm_order.proofs.WalksOfRuns.{trace_in-append}
use Rattle.nm_order.proofs.PendingLeaves.{sight_told}
use Rattle.nm_steps.specs.Rules.{Extends}
use Rattle.nm_steps.specs.Steps.{PassView, IsSamePass, HasSeen}
use Rattle.nm_calls.specs.PlainWalks.{events_of}
use Rattle.nm_calls.proofs.PlainLooks.{as_events, events_go_on}
use Rattle.nm_epoch.specs.Tries.{LostTries, after_sight, IsMoved}
use Rattle.nm_progress.specs.Moves.{number_of, moves_on, moves, moves_of_others, is_sight}
use Rattle.nm_progress.proofs.Moves.{epochs_are_the_moves, missed_pins_are_moves}
use Rattle.nm_progress.proofs.SplitTurns.{SplitTurn, split_turn, none_of_log}
use Rattle.nm_progress.proofs.Covers.{one_if}
use Rattle.nm_progress.specs.Pins.{LostPinsWereMovedPast}

-- ---- parts

pub part-append : (w : ℕ) (xs ys : List Turn) → part_of w (xs ++ ys) ≡ part_of w xs ++ part_of w ys
part-append w [] ys = refl
part-append w (t ∷ xs) ys = ap (λ (l : List Entry). cond (takes_part w t.worker t.event) (logged_by t) [] ++ l)
    (part-append w xs ys) ∙ sym (append_assoc (cond (takes_part w t.worker t.event) (logged_by t) []) (part_of w xs)
    (part_of w ys))

-- an entry moves the epoch
abbrev pub is_move : Entry → Bool
is_move e = moves_on e.0 (Ok e.1)

-- where no entry of a worker's part does, all moves are of others
pub all_of_others : (w : ℕ) (turns : List Turn) → list_any is_move (log_of w turns) ≡ false
    → number_of (moves_of_others w) turns ≡ number_of moves turns
all_of_others w [] none = refl
all_of_others w (t ∷ ts) none = go (t.worker == w) t.outcome none (all_of_others w ts)
  where
    err : (e : Event) (x : Refused) → moves_on e (Err x) ≡ false
    err Advance x = refl
    err e x = refl

    none_err : (x : Refused) → one_if (moves_on t.event (Err x)) ≡ 0
    none_err x = ap one_if (err t.event x)

    go : (b : Bool) (o : Result Reply Refused) → list_any is_move
        (cond b (logged_by (record { worker = t.worker; event = t.event; outcome = o })) [] ++ log_of w ts) ≡ false
        → (list_any is_move (log_of w ts) ≡ false → number_of (moves_of_others w) ts ≡ number_of moves ts)
        → cond (not b && moves_on t.event o) 1 0 + number_of (moves_of_others w) ts
        ≡ cond (moves_on t.event o) 1 0 + number_of moves ts
    go false (Ok r) none rest = let same = rest none in omega (arith, same)
    go false (Err x) none rest = let same = rest none in omega (arith, same)
    go true (Ok r) none rest =
        let parts = or_parts (moves_on t.event (Ok r)) (list_any is_move (log_of w ts)) none in
        let same = rest parts.1 in
        let zero_is = ap one_if parts.0 in
        omega (arith, same, zero_is)
    go true (Err x) none rest = let same = rest none in let zero_is = none_err x in omega (arith, same, zero_is)

-- ---- the tries of a pin

seen_at_sight : (w : ℕ) (k : Knowledge) (e : ℕ) → (learn w k Sight (Saw e)).brief.seen ≡ Some e
unfolding learn
seen_at_sight w k e = refl

seen_at_miss : (w : ℕ) (k : Knowledge) (sight : Event) (e : ℕ) → is_sight sight ≡ true
    → (learn w k sight (Missed e)).brief.seen ≡ Some e
unfolding learn
seen_at_miss w k Sight e is = refl
seen_at_miss w k (SightFor op key) e is = refl
seen_at_miss w k event e is = absurd (true≢false (sym is))

seen_at_leave : (w : ℕ) (k : Knowledge) → (learn w k Leave Departed).brief.seen ≡ k.brief.seen
unfolding learn
seen_at_leave w k = refl

no_move : (sight : Event) (e : ℕ) → is_sight sight ≡ true → is_move (sight, Missed e) ≡ false
no_move Sight e is = refl
no_move (SightFor op key) e is = refl
no_move event e is = absurd (true≢false (sym is))

module _ (L : Layout) (enough : 5 ≤ L.nodes) (w : ℕ) (sight : Event) (sees : is_sight sight ≡ true)
    (old : List Entry) (first : ℕ) where
  -- after so many lost tries the worker has read an epoch that is later by as many
  record Raised (n : ℕ) (new : List Entry) : Type 0 where
    epoch : ℕ
    seen : (known_by L w new).brief.seen ≡ Some epoch
    later : first + n ≤ epoch
    entries : List Entry
    are : new ≡ after_sight old first ++ entries
    quiet : list_any is_move entries ≡ false

  raised : (n : ℕ) (new : List Entry) → LostTries sight n (after_sight old first) new → IsLogOf L w new → Raised n new
  raised zero new is l = record {
    epoch = first;
    seen = ap (λ (l : List Entry). (known_by L w l).brief.seen) is
        ∙ (ap (λ (k : Knowledge). k.brief.seen) (known_more w _ old (Sight, Saw first))
        ∙ seen_at_sight w (known_by L w old) first);
    later = omega arith;
    entries = [];
    are = is ∙ sym (append-nil (after_sight old first));
    quiet = refl;
  }
  raised (suc n) new (mid, tries, try) l = more (raised n mid tries before)
    where
      a : ℕ
      a = try.0

      e : ℕ
      e = try.1

      whole : IsLogOf L w ((mid ++ (Announce, Announced try.0) ∷ []) ++ (sight, Missed try.1) ∷ [])
      whole = subst (IsLogOf L w) try.2 l

      before : IsLogOf L w mid
      before = log_before L w mid (Announce, Announced try.0)
          (log_before L w (mid ++ (Announce, Announced try.0) ∷ []) (sight, Missed try.1) whole)

      more : Raised n mid → Raised (suc n) new
      more r = record {
        epoch = try.1;
        seen = ap (λ (l : List Entry). (known_by L w l).brief.seen) try.2
            ∙ (ap (λ (k : Knowledge). k.brief.seen) (known_more w _ (mid ++ (Announce, Announced try.0) ∷ [])
            (sight, Missed try.1)) ∙ seen_at_miss w (known_by L w (mid ++ (Announce, Announced try.0) ∷ [])) sight
            try.1 sees);
        later = let m = missed_pins_are_moves L enough w mid sight try.0 try.1 r.epoch sees whole r.seen in
            let up = m.later in let same = same_Some r.epoch try.0 (sym r.seen ∙ m.read_last) in let low = r.later in
            omega (arith, up, same, low);
        entries = r.entries ++ (Announce, Announced try.0) ∷ (sight, Missed try.1) ∷ [];
        are = try.2 ∙ (append_assoc mid ((Announce, Announced try.0) ∷ []) ((sight, Missed try.1) ∷ [])
            ∙ (ap (λ (l : List Entry). l ++ (Announce, Announced try.0) ∷ (sight, Missed try.1) ∷ []) r.are
            ∙ append_assoc (after_sight old first) r.entries
            ((Announce, Announced try.0) ∷ (sight, Missed try.1) ∷ [])));
        quiet = list_any-append is_move r.entries ((Announce, Announced try.0) ∷ (sight, Missed try.1) ∷ [])
            ∙ (ap (λ (b : Bool). b || list_any is_move ((Announce, Announced try.0) ∷ (sight, Missed try.1) ∷ []))
            r.quiet ∙ ap (λ (b : Bool). b || false) (no_move sight try.1 sees));
      }

-- ---- the first sight

saw_shows : (k : Knowledge) (n e : ℕ) → reply_sight k n ≡ Saw e → n ≡ e
saw_shows k n e is = by k.brief.unlabelled k.brief.pin k.brief.announcement is
  where
    miss : (b : Bool) → cond b (Pinned n) (Missed n) ≡ Saw e → n ≡ e
    miss true told = absurd (differ told)
      where
        differ : Pinned n ≡ Saw e → ⊥
        differ i = cc
    miss false told = absurd (differ told)
      where
        differ : Missed n ≡ Saw e → ⊥
        differ i = cc

    by : (b : Bool) (pin announced : Option ℕ) → cond b (Labelled n) (confirmed pin announced n) ≡ Saw e → n ≡ e
    by true pin announced told = absurd (differ told)
      where
        differ : Labelled n ≡ Saw e → ⊥
        differ i = cc
    by false (Some p) announced told = cc
    by false None None told = cc
    by false None (Some a) told = miss (a == n) told

-- ---- between what was seen before and after

-- what the events behind a run add to a worker's part
part_more : (L : Layout) (w : ℕ) (past more : List (ℕ × Event)) (old new entries : List Entry)
    → part_of w (trace_in (ordered L) past) ≡ old → part_of w (trace_in (ordered L) (past ++ more)) ≡ new
    → new ≡ old ++ entries
    → part_of w (trace_in (after_in (ordered L) past) more) ≡ entries
part_more L w past more old new entries is_old is_new are = append_cancel_left old _ _
    (ap (λ (l : List Entry). l ++ part_of w (trace_in (after_in (ordered L) past) more)) (sym is_old)
    ∙ (sym (part-append w (trace_in (ordered L) past) (trace_in (after_in (ordered L) past) more))
    ∙ (ap (part_of w) (sym (trace_in-append (ordered L) past more)) ∙ (is_new ∙ are))))

module _ (L : Layout) (enough : 5 ≤ L.nodes) (w : ℕ) (worker : w < L.workers) (past more : List (ℕ × Event))
    (keys : All (λ t. HasKey t.1) (past ++ more)) where
  c : Configuration
  c = after_in (ordered L) past

  -- the epoch that the first entry of a part tells, by a sight
  first_epoch : (e : ℕ) (rest : List Entry) → part_of w (trace_in (after_in (ordered L) past) more)
      ≡ (Sight, Saw e) ∷ rest → (after_in (ordered L) past).state.memory.epoch ≤ e
  first_epoch e rest is = by (split_turn w more (after_in (ordered L) past) [] (Sight, Saw e) rest is)
    where
      by : SplitTurn w (after_in (ordered L) past) more [] (Sight, Saw e) rest
          → (after_in (ordered L) past).state.memory.epoch ≤ e
      by a = let grown = epochs_are_the_moves (after_in (ordered L) past) a.before in let at = told in
          omega (arith, grown, at)
        where
          told : (after_in (after_in (ordered L) past) a.before).state.memory.epoch ≡ e
          told = saw_shows (of (after_in (after_in (ordered L) past) a.before).state a.turn.0)
              (after_in (after_in (ordered L) past) a.before).state.memory.epoch e
              (sym (sight_told (after_in (after_in (ordered L) past) a.before).state a.turn.0)
              ∙ (ap (reply_of (after_in (after_in (ordered L) past) a.before).state a.turn.0)
              (sym (ap (λ (k : Entry). k.0) a.is_entry)) ∙ ap (λ (k : Entry). k.1) a.is_entry))

  pub moved_between : (old new : List Entry) → part_of w (trace_in (ordered L) past) ≡ old
      → part_of w (trace_in (ordered L) (past ++ more)) ≡ new → (sight : Event) → is_sight sight ≡ true → (n : ℕ)
      → IsMoved sight (suc n) old new
      → suc n ≤ number_of (moves_of_others w) (trace_in (after_in (ordered L) past) more)
  moved_between old new is_old is_new sight sees n (first, mid, tries, leaves) = counted
      (raised L enough w sight sees old first (suc n) mid tries log_mid)
    where
      log_new : IsLogOf L w (mid ++ (Leave, Departed) ∷ [])
      log_new = record { worker = worker; turns = past ++ more; keys = keys; is_part = is_new ∙ leaves }

      log_mid : IsLogOf L w mid
      log_mid = log_before L w mid (Leave, Departed) log_new

      counted : Raised L enough w sight sees old first (suc n) mid
          → suc n ≤ number_of (moves_of_others w) (trace_in (after_in (ordered L) past) more)
      counted r =
          let grown = epochs_are_the_moves (after_in (ordered L) past) more in
          let low = first_epoch first _ part in
          let high = last in
          let others = all_of_others w (trace_in (after_in (ordered L) past) more)
          (none_of_log w is_move (trace_in (after_in (ordered L) past) more)
          (ap (list_any is_move) part ∙ quiet)) in
          let up = r.later in
          omega (arith, grown, low, high, others, up)
        where
          part : part_of w (trace_in (after_in (ordered L) past) more)
              ≡ (Sight, Saw first) ∷ (r.entries ++ (Leave, Departed) ∷ [])
          part = part_more L w past more old new _ is_old is_new
              (leaves ∙ (ap (λ (l : List Entry). l ++ (Leave, Departed) ∷ []) r.are
              ∙ (append_assoc (after_sight old first) r.entries ((Leave, Departed) ∷ [])
              ∙ append_assoc old ((Sight, Saw first) ∷ []) (r.entries ++ (Leave, Departed) ∷ []))))

          quiet : list_any is_move ((Sight, Saw first) ∷ (r.entries ++ (Leave, Departed) ∷ [])) ≡ false
          quiet = list_any-append is_move r.entries ((Leave, Departed) ∷ []) ∙ ap (λ (b : Bool). b || false) r.quiet

          seen : (of (after_in (ordered L) (past ++ more)).state w).brief.seen ≡ Some r.epoch
          seen = ap (λ (k : Knowledge). k.brief.seen) (logs_tell L (past ++ more) w worker
              ∙ (ap (known_by L w) (is_new ∙ leaves) ∙ known_more w _ mid (Leave, Departed)))
              ∙ (seen_at_leave w (known_by L w mid) ∙ r.seen)

          last : r.epoch ≤ (after_in (after_in (ordered L) past) more).state.memory.epoch
          last = subst (λ (d : Configuration). r.epoch ≤ d.state.memory.epoch)
              (after_in-append (ordered L) past more) ((law_of_state L enough (after_in (ordered L) (past ++ more))
              (each_ordered L enough (past ++ more) keys)).1.epochs.sights w r.epoch seen)

-- ---- by what a pass has seen

-- the turns between are those of the events between
pub turns_between : (p q : PassView) → HasSeen p.view → HasSeen q.view → IsSamePass p q
    → (e : Extends q.view.past p.view.past) → trace_in (after_in (ordered p.view.layout) (events_of p.view.past))
    (events_of e.more) ≡ e.more
turns_between p q seen_p seen_q same e =
    append_cancel_left p.view.past _ e.more
    (ap (λ (ts : List Turn). ts ++ trace_in (after_in (ordered p.view.layout) (events_of p.view.past))
    (events_of e.more)) (as_events p.view seen_p).are
    ∙ (sym (trace_in-append (ordered p.view.layout) (events_of p.view.past) (events_of e.more))
    ∙ (ap (trace_in (ordered p.view.layout)) (sym (events_go_on q.view.past p.view.past e))
    ∙ (ap (λ (l : Layout). trace_in (ordered l) (events_of q.view.past))
    (sym (ap (λ (s : PassView). s.view.layout) same)) ∙ (sym (as_events q.view seen_q).are ∙ e.is)))))

-- what a later moment of a pass has seen is a run of its worker
pub part_seen : (p q : PassView) → HasSeen q.view → IsSamePass p q
    → part_of p.view.number (trace_in (ordered p.view.layout) (events_of q.view.past)) ≡ q.view.log
part_seen p q seen_q same = (λ i. part_of (number i) (trace_in (ordered (layout i)) (events_of q.view.past)))
    ∙ (as_events q.view seen_q).is_part
  where
    number : p.view.number ≡ q.view.number
    number = sym (ap (λ (s : PassView). s.view.number) same)

    layout : p.view.layout ≡ q.view.layout
    layout = sym (ap (λ (s : PassView). s.view.layout) same)

module _ (p q : PassView) (seen_p : HasSeen p.view) (seen_q : HasSeen q.view) (same : IsSamePass p q)
    (e : Extends q.view.past p.view.past) where
  pub keys_seen : All (λ t. HasKey t.1) (events_of p.view.past ++ events_of e.more)
  keys_seen = subst (λ (l : List (ℕ × Event)). All (λ t. HasKey t.1) l) (events_go_on q.view.past p.view.past e)
      (as_events q.view seen_q).keys

  -- also as what the events between add to what the earlier moment has seen
  pub part_on : part_of p.view.number (trace_in (ordered p.view.layout) (events_of p.view.past ++ events_of e.more))
      ≡ q.view.log
  part_on = ap (λ (l : List (ℕ × Event)). part_of p.view.number (trace_in (ordered p.view.layout) l))
      (sym (events_go_on q.view.past p.view.past e)) ∙ part_seen p q seen_q same

  pub part_added : (entries : List Entry) → q.view.log ≡ p.view.log ++ entries
      → part_of p.view.number (trace_in (after_in (ordered p.view.layout) (events_of p.view.past)) (events_of e.more))
      ≡ entries
  part_added entries are = part_more p.view.layout p.view.number (events_of p.view.past) (events_of e.more)
      p.view.log q.view.log entries (as_events p.view seen_p).is_part part_on are

pub lost_pins_were_moved_past : LostPinsWereMovedPast
lost_pins_were_moved_past p q seen_p seen_q enough same on sight sees tries moved = record {
  turns = on.goes_on.more;
  is = on.goes_on.is;
  moved = subst (λ (ts : List Turn). suc tries ≤ number_of (moves_of_others p.view.number) ts)
      (turns_between p q seen_p seen_q same on.goes_on)
      (moved_between p.view.layout enough p.view.number seen_p.worker (events_of p.view.past)
      (events_of on.goes_on.more)
      (keys_seen p q seen_p seen_q same on.goes_on) p.view.log q.view.log (as_events p.view seen_p).is_part
      (part_on p q seen_p seen_q same on.goes_on) sight sees tries moved);
}
