-- A call alone is answered.
use Rattle.std.proofs.Common.{◌≡◌, ℕ, zero, suc, ◌+◌, ◌≤◌, inl, inr, ◌==◌, Bool, true, false, cond, not, ◌&&◌, ◌||◌, List, [], ◌∷◌, ◌++◌, append_assoc, refl, sym, ap, subst, ◌∙◌, arith, true≢false}
use Rattle.std.specs.Prelude.{Option, None, Result, Ok, Err, All}
use Rattle.std.specs.List.{list_any}
use Rattle.std.proofs.lemmas.Bool.{or_parts, eq-eqb, eqb-true, eqb-false, false_from_ne_true, and_from}
use Rattle.std.proofs.lemmas.List.{append-nil, append_cancel_left}
use Rattle.nm_edge.specs.Edges.{Edge, other}
use Rattle.nm_edge.specs.Layouts.{Layout}
use Rattle.nm_edge.specs.declared.edge.Side.{Side}
use Rattle.nm_edge.specs.declared.edge.Side.TheVariants.{Left}
use Rattle.nm_model.specs.declared.event.Event.{Event}
use Rattle.nm_model.specs.declared.event.Event.TheVariants.{SightFor, Look, Link, Flag}
use Rattle.nm_model.specs.declared.event.Field.TheVariants.{Edge as EdgeOn}
use Rattle.nm_model.specs.declared.event.Op.{Op}
use Rattle.nm_model.specs.declared.event.Op.TheVariants.{Insert, Delete}
use Rattle.nm_model.specs.declared.reply.Reply.{Reply}
use Rattle.nm_model.specs.declared.reply.Reply.TheVariants.{EdgeIs}
use Rattle.nm_model.specs.declared.reply.Refused.{Refused}
use Rattle.nm_model.specs.declared.trace.Turn.{Turn}
use Rattle.nm_model.specs.Memory.{edge}
use Rattle.nm_model.specs.Paths.{Reached}
use Rattle.nm_model.specs.Knowledge.{Knowledge}
use Rattle.nm_model.specs.Runs.{State, of, reply_of}
use Rattle.nm_model.specs.Step.{reply}
use Rattle.nm_model.specs.Searches.{Search, idle}
use Rattle.nm_model.specs.Walks.{Entry, logged_by, search_after}
use Rattle.nm_model.specs.Ordered.{Configuration, ordered, next_in, outcome_in, after_in, trace_in}
use Rattle.nm_laws.proofs.Pictures.{IsLive, reached_live}
use Rattle.nm_laws.proofs.TreeSteps.{Lawful}
use Rattle.nm_laws.proofs.Views.{picture}
use Rattle.nm_order.specs.Intervals.{HasKey}
use Rattle.nm_order.specs.Logs.{is_leaver, part_of, known_after, known_by, IsLogOf}
use Rattle.nm_order.proofs.PartsOfRuns.{logs_tell}
use Rattle.nm_order.proofs.OrderedLaws.{IsOrdered, ordered_next, each_ordered, law_of_state}
use Rattle.nm_order.proofs.RunExchanges.{first_keys}
use Rattle.nm_order.proofs.WalksOfRuns.{all_before, all_behind}
use Rattle.nm_order.proofs.PendingLeaves.{each_flagged_leaf_is_pending}
use Rattle.nm_edge.specs.declared.placement.Fit.{Fit}
use Rattle.nm_steps.specs.Rules.{Extends}
use Rattle.nm_steps.specs.Steps.{PassView, IsSamePass, HasSeen}
use Rattle.nm_calls.specs.PlainWalks.{events_of}
use Rattle.nm_calls.proofs.PlainLooks.{as_events}
use Rattle.nm_epoch.specs.Resting.{IsResting}
use Rattle.nm_epoch.specs.Tries.{LostTries, IsPinnedBy}
use Rattle.nm_walks.specs.declared.making.NewNodes.{NewNodes}
use Rattle.nm_walks.specs.declared.seek_record.ChainEdge.{ChainEdge}
use Rattle.nm_walks.specs.declared.seek_record.SeekRecord.{SeekRecord}
use Rattle.nm_walks.specs.declared.seek_record.WalkEnd.{WalkEnd}
use Rattle.nm_calls.specs.declared.fault.CallFault.TheVariants as fault
use Rattle.nm_walks.specs.Walks.{Walks, IsBroken}
use Rattle.nm_calls.specs.Inserts.{LostInserts, InsertDid}
use Rattle.nm_calls.specs.Deletes.{LostFlags, DeleteDid}
use Rattle.nm_progress.specs.Changes.{is_bare, Expects}
use Rattle.nm_progress.specs.Changes.Expects.{ToLink, ToFlag}
use Rattle.nm_progress.specs.Moves.{number_of, moves, moves_of_others}
use Rattle.nm_progress.specs.Paid.{links_on, flags_on, cuts_on, tags_on}
use Rattle.nm_progress.specs.Tries.{changes_edge, losing, reshapes_of_others}
use Rattle.nm_progress.proofs.LostTries.{later_keys}
use Rattle.nm_progress.proofs.LostCleanups.{is_edge_change, quiet_mute, changes_turn, none_refused, interferes_too, calm_too}
use Rattle.nm_progress.proofs.MoreTries.{is_loud, Plain, plain_these, plain_then, log_prefix, AddsNone, adds_these, adds_then}
use Rattle.nm_progress.proofs.Reshapes.{is_reshape, calm_turns}
use Rattle.nm_progress.proofs.SplicesPaid.{FlagOrigin, flag_origin}
use Rattle.nm_progress.proofs.SplicesPaid.FlagOrigin.{Before, Now}
use Rattle.nm_progress.proofs.SplitTurns.{SplitTurn, split_turn, ordered_after, part_teaches, number_split}
use Rattle.nm_progress.proofs.CountedTries.{known_longer}
use Rattle.nm_progress.proofs.Covers.{one_if}
use Rattle.nm_order.specs.Totals.{NothingIsPending}
use Rattle.nm_progress.specs.Pending.{NonePends, leaf_after}
use Rattle.nm_progress.proofs.PendingTurns.{leaf_is_told, nothing_is_pending}
use Rattle.nm_progress.specs.Alone.{IsAlone, NoOtherPends, LookupsAloneAreAnswered, InsertsAloneAreAnswered, DeletesAloneAreNotBusy, ManyAloneAreAnswered, NearAloneAreAnswered}
use Rattle.nm_progress.specs.Lookups.{WasBusy, WasReshaped}
use Rattle.nm_progress.specs.Pins.{WasMovedPast}
use Rattle.nm_progress.specs.Walked.{ManyWereBusy, NearWasBusy}
use Rattle.nm_progress.proofs.LostPins.{keys_seen, part_on, part_added}
use Rattle.nm_progress.proofs.LostLookups.{busy_lookups_met_interference}
use Rattle.nm_progress.proofs.LostWalked.{busy_many_met_interference, busy_near_met_interference}
use Rattle.nm_progress.proofs.Interfered.{Interferes, Ran, ran_on}
use Rattle.nm_progress.proofs.InterferedTries.{IsLostInsert, IsLostFlag, insert_longer, flag_longer, link_plain, flag_plain, bare_at}
use Rattle.nm_progress.proofs.InterferedCalls.{moved}
use Rattle.nm_progress.proofs.Parts.{Longer, longer_these, longer_then, longer_none, plain_longer, reads_longer, help_longer, returns_longer}
use Rattle.nm_progress.proofs.WalkReads.{WalkRead, walk_read, onto_parent}
use Rattle.nm_progress.proofs.WalkInterference.{SplitPart, split_part, walk_plain, OnPath, walk_path, not_too_long}

-- ---- turns of one worker alone

none_own : (b : Bool) (x : Bool) → b ≡ true → (not b && x) ≡ false
none_own true x is = refl
none_own false x is = absurd (true≢false (sym is))

-- of such turns none is of another
own_none : (w : ℕ) (is_such : Turn → Bool) (ts : List Turn) → All (λ t. t.worker ≡ w) ts
    → number_of (λ t. not (t.worker == w) && is_such t) ts ≡ 0
own_none w is_such [] own = refl
own_none w is_such (t ∷ ts) own =
    let rest = own_none w is_such ts (λ i d below. own (suc i) d (omega (arith, below))) in
    let one = ap one_if (none_own (t.worker == w) (is_such t) (eq-eqb t.worker w (own 0 t (omega arith)))) in
    omega (arith, rest, one)

same_turns : (past a b run : List Turn) → run ≡ past ++ a → run ≡ past ++ b → a ≡ b
same_turns past a b run is is' = append_cancel_left past a b (sym is ∙ is')

pub own_events : (w : ℕ) (ts : List Turn) → All (λ t. t.worker ≡ w) ts → All (λ t. t.0 ≡ w) (events_of ts)
own_events w [] own i d below = absurd (omega (arith, below))
own_events w (t ∷ ts) own zero d below = own 0 t (omega arith)
own_events w (t ∷ ts) own (suc i) d below = own_events w ts (λ j e l. own (suc j) e (omega (arith, l))) i d
    (omega (arith, below))

-- so none has moved the epoch on, nor linked or cut off a node
pub none_moved : (p q : PassView) (n : ℕ) → IsAlone p q → WasMovedPast p q n → n ≡ 0
none_moved p q n alone m =
    let same_is = same_turns p.view.past m.turns alone.turns q.view.past m.is alone.is in
    let none = ap (λ (l : List Turn). number_of (moves_of_others p.view.number) l) same_is
    ∙ own_none p.view.number moves alone.turns alone.own in
    let few = m.moved in
    omega (arith, none, few)

pub none_reshaped : (p q : PassView) (n : ℕ) → IsAlone p q → WasReshaped p q n → n ≡ 0
none_reshaped p q n alone m =
    let same_is = same_turns p.view.past m.turns alone.turns q.view.past m.is alone.is in
    let none = ap (λ (l : List Turn). number_of (reshapes_of_others p.view.number) l) same_is
    ∙ own_none p.view.number is_reshape alone.turns alone.own in
    let few = m.reshaped in
    omega (arith, none, few)

pub lookups_alone_are_answered : LookupsAloneAreAnswered
lookups_alone_are_answered k tries p q seen_p seen_q enough same on alone missed = by
    (busy_lookups_met_interference k tries p q seen_p seen_q enough same on missed)
  where
    by : WasBusy p q tries → tries ≡ 0
    by (inl none) = none
    by (inr (inl m)) = none_moved p q tries alone m
    by (inr (inr m)) = none_reshaped p q tries alone m

-- ---- under a plain pin

pub many_alone : (p q : PassView) (tries : ℕ) → IsAlone p q → ManyWereBusy p q tries → tries ≡ 0
many_alone p q tries alone (inl none) = none
many_alone p q tries alone (inr (inl m)) = none_moved p q tries alone m
many_alone p q tries alone (inr (inr m)) = let none = none_reshaped p q 1 alone m.1 in absurd (omega (arith, none))

pub near_alone : (p q : PassView) (tries : ℕ) → IsAlone p q → NearWasBusy p q tries → tries ≤ 1
near_alone p q tries alone (inl so) = let none = many_alone p q tries alone so in omega (arith, none)
near_alone p q tries alone (inr (times, half, m)) = let none = none_reshaped p q times alone m in
    omega (arith, half, none)

pub many_alone_are_answered : ManyAloneAreAnswered
many_alone_are_answered ks tries p q seen_p seen_q enough same on missed alone = many_alone p q tries alone
    (busy_many_met_interference ks tries p q seen_p seen_q enough same on missed)

pub near_alone_are_answered : NearAloneAreAnswered
near_alone_are_answered side k tries p q seen_p seen_q enough same on missed alone = near_alone p q tries alone
    (busy_near_met_interference side k tries p q seen_p seen_q enough same on missed)

-- ---- entries that change no edge

abbrev pub Mute : List Entry → List Entry → Type 0
Mute = AddsNone is_edge_change

mute_these : (more old new : List Entry) → list_any is_edge_change more ≡ false → new ≡ old ++ more → Mute old new
mute_these = adds_these is_edge_change

mute_then : (old mid new : List Entry) → Mute old mid → Mute mid new → Mute old new
mute_then = adds_then is_edge_change

pins_mute : (op : Op) (k n : ℕ) (old new : List Entry) → LostTries (SightFor op k) n old new → Mute old new
pins_mute op k zero old new is = mute_these [] old new refl (is ∙ sym (append-nil old))
pins_mute op k (suc n) old new h = mute_then old h.0 new (pins_mute op k n old h.0 h.1)
    (mute_then h.0 _ new (mute_these _ h.0 _ refl refl) (mute_these _ _ new refl h.2.2))

pub pin_mute : (op : Op) (k tries : ℕ) (old new : List Entry) (epoch : ℕ)
    → IsPinnedBy (SightFor op k) tries old new epoch → Mute old new
pin_mute op k tries old new epoch h = mute_then old _ new (mute_these _ old _ refl refl)
    (mute_then _ h.2 new (pins_mute op k h.1 _ h.2 h.4)
    (mute_then h.2 _ new (mute_these _ h.2 _ refl refl) (mute_these _ _ new refl h.5.1)))

-- ---- turns of one worker alone that change no edge

-- turns of one worker alone whose part changes no edge change none
mute_turns : (w : ℕ) (c : Configuration) (ts : List (ℕ × Event)) → All (λ t. t.0 ≡ w) ts
    → list_any is_edge_change (part_of w (trace_in c ts)) ≡ false → number_of changes_turn (trace_in c ts) ≡ 0
unfolding trace_in
mute_turns w c [] own mute = refl
mute_turns w c (t ∷ ts) own mute = go (outcome_in c t) mute
    (mute_turns w (next_in c t) ts (λ i d below. own (suc i) d (omega (arith, below))))
  where
    takes : (b : Bool) → (t.0 == w) ≡ true → ((t.0 == w) || b) ≡ true
    takes b is = ap (λ (x : Bool). x || b) is

    go : (o : Result Reply Refused) → list_any is_edge_change
        (cond ((t.0 == w) || is_leaver w t.1) (logged_by (record { worker = t.0; event = t.1; outcome = o })) []
        ++ part_of w (trace_in (next_in c t) ts)) ≡ false
        → (list_any is_edge_change (part_of w (trace_in (next_in c t) ts)) ≡ false
        → number_of changes_turn (trace_in (next_in c t) ts) ≡ 0)
        → cond (changes_edge t.1 o) 1 0 + number_of changes_turn (trace_in (next_in c t) ts) ≡ 0
    go (Ok r) mute rest =
        let parts = or_parts (changes_edge t.1 (Ok r)) (list_any is_edge_change (part_of w (trace_in (next_in c t) ts)))
        (ap (λ (b : Bool). list_any is_edge_change (cond b ((t.1, r) ∷ []) []
        ++ part_of w (trace_in (next_in c t) ts))) (sym
        (takes (is_leaver w t.1) (eq-eqb t.0 w (own 0 t (omega arith))))) ∙ mute) in
        let same = rest parts.1 in
        let zero_is = ap one_if parts.0 in
        omega (arith, same, zero_is)
    go (Err x) mute rest =
        let same = rest (skip ((t.0 == w) || is_leaver w t.1) mute) in
        let zero_is = ap one_if (none_refused t.1 x) in
        omega (arith, same, zero_is)
      where
        skip : (b : Bool) → list_any is_edge_change (cond b [] [] ++ part_of w (trace_in (next_in c t) ts)) ≡ false
            → list_any is_edge_change (part_of w (trace_in (next_in c t) ts)) ≡ false
        skip true is = is
        skip false is = is

-- ---- a tree without flags

abbrev Clean : Configuration → Type 0
Clean c = (y : ℕ) (g : Side) → Reached c.state.memory y → (edge c.state.memory y g).flag ≡ false

module _ (L : Layout) (enough : 5 ≤ L.nodes) where
  clean_turns : (ts : List (ℕ × Event)) → All (λ t. HasKey t.1) ts → (c : Configuration) → IsOrdered L c
      → number_of changes_turn (trace_in c ts) ≡ 0 → Clean c → Clean (after_in c ts)
  unfolding after_in trace_in
  clean_turns [] keys c o calm clean = clean
  clean_turns (t ∷ ts) keys c o calm clean = clean_turns ts (λ i d below. keys (suc i) d (omega (arith, below)))
      (next_in c t) (ordered_next L enough c t (keys 0 t (omega arith)) o)
      (parts (changes_edge t.1 (outcome_in c t)) calm).1 next
    where
      parts : (b : Bool) → cond b 1 0 + number_of changes_turn (trace_in (next_in c t) ts) ≡ 0
          → (b ≡ false) × (number_of changes_turn (trace_in (next_in c t) ts) ≡ 0)
      parts true is = absurd (omega (arith, is))
      parts false is = (refl, omega (arith, is))

      unflagged : flags_on t.1 (outcome_in c t) ≡ true → ⊥
      unflagged is = true≢false (sym (by (links_on t.1 (outcome_in c t)) (flags_on t.1 (outcome_in c t))
          (cuts_on t.1 (outcome_in c t) || tags_on t.1 (outcome_in c t)) is)
          ∙ (parts (changes_edge t.1 (outcome_in c t)) calm).0)
        where
          by : (a b x : Bool) → b ≡ true → (a || (b || x)) ≡ true
          by true b x is = refl
          by false true x is = refl
          by false false x is = absurd (true≢false (sym is))

      next : (y : ℕ) (g : Side) → Reached (next_in c t).state.memory y
          → (edge (next_in c t).state.memory y g).flag ≡ false
      next y g r = false_from_ne_true _ (λ flag. on (flag_origin L enough c t (keys 0 t (omega arith)) o y g r flag))
        where
          on : FlagOrigin L enough c t (keys 0 t (omega arith)) o y g → ⊥
          on (Before p d reached flag leads) = true≢false (sym flag ∙ clean p d reached)
          on (Now leaf is at won) = unflagged won

  -- no edge of a reached node has a mark then
  bare_edge : (c : Configuration) (o : IsOrdered L c) → Clean c → (x : ℕ) (d : Side) → Reached c.state.memory x
      → is_bare (edge c.state.memory x d) ≡ true
  bare_edge c o clean x d r = and_from (not (edge c.state.memory x d).flag) (not (edge c.state.memory x d).tag)
      (ap not (clean x d r)) (ap not (false_from_ne_true _ tagged))
    where
      law : (h : ℕ → ℕ) × Lawful c.state h
      law = law_of_state L enough c o

      live : IsLive (picture c.state law.0) x
      live = subst (IsLive (picture c.state law.0)) r.ends
          (reached_live c.state.layout.nodes (picture c.state law.0) law.1.tree r.path
          (λ z. r.is_slot (sym r.ends ∙ z)))

      tagged : (edge c.state.memory x d).tag ≡ true → ⊥
      tagged tag = true≢false (sym (law.1.tree.frozen x d live tag) ∙ clean x (other d) r)

  look_edge : (s : State) (u x : ℕ) (d : Side) (e : Edge) → reply_of s u (Look x (EdgeOn d)) ≡ EdgeIs e
      → edge s.memory x d ≡ e
  unfolding reply
  look_edge s u x d e is = cc

  -- what a walk reads there, by the turns of one worker alone
  module _ (w : ℕ) (c : Configuration) (o : IsOrdered L c) (clean : Clean c) (ts : List (ℕ × Event))
      (keys : All (λ t. HasKey t.1) ts) (calm : number_of changes_turn (trace_in c ts) ≡ 0) where
    reshapes_none : number_of is_reshape (trace_in c ts) ≡ 0
    reshapes_none = let few = calm_too (trace_in c ts) in omega (arith, few, calm)

    parent_reached : (k n : ℕ) (old new : List Entry) (s : SeekRecord) (chain : List ChainEdge)
        → Walks k n old new s chain → old ++ part_of w (trace_in c ts) ≡ new → Reached c.state.memory s.parent
    parent_reached k zero old new s chain h whole =
        record {
          path = Left ∷ [];
          ends = (law_of_state L enough c o).1.tree.root_left
              ∙ sym (ap (λ (s : SeekRecord). s.parent) h.0);
          is_slot = λ z. absurd
              (let two = ap (λ (s : SeekRecord). s.parent) h.0 in omega (arith, z, two));
        }
    parent_reached k (suc n) old new s chain (mid, t, d, on, walk, some, reads, is, more) whole = by
        (walk_path L enough w c o ts keys reshapes_none k n old mid t d walk _ (whole ∙ (reads.2 ∙ three mid _ _ _)))
      where
        three : (l : List Entry) (a b e : Entry) → ((l ++ a ∷ []) ++ b ∷ []) ++ e ∷ [] ≡ l ++ a ∷ b ∷ e ∷ []
        three [] a b e = refl
        three (x ∷ l) a b e = ap (λ (l : List Entry). x ∷ l) (three l a b e)

        by : OnPath L enough w c o ts keys reshapes_none k n t → Reached c.state.memory s.parent
        by p = record { path = p.sides; ends = p.ends ∙ sym at; is_slot = λ z. p.is_slot (sym at ∙ z) }
          where
            at : s.parent ≡ t.edge.slot
            at = ap (λ (s : SeekRecord). s.parent) is ∙ onto_parent t on.side on.next

    read_bare : (k n : ℕ) (old new : List Entry) (s : SeekRecord) (chain : List ChainEdge)
        → Walks k n old new s chain → IsLogOf L w new → old ++ part_of w (trace_in c ts) ≡ new → is_bare s.edge ≡ true
    read_bare k n old new s chain walk l whole = by (walk_read L enough w k n old new s chain walk l)
      where
        by : WalkRead L enough w old new s → is_bare s.edge ≡ true
        by r = on (split_turn w ts c r.first (Look s.parent (EdgeOn s.side), EdgeIs s.edge) r.tail
            (append_cancel_left old _ _ (whole ∙ r.are)))
          where
            on : SplitTurn w c ts r.first (Look s.parent (EdgeOn s.side), EdgeIs s.edge) r.tail → is_bare s.edge ≡ true
            on a = ap is_bare (sym told) ∙ bare_edge (after_in c a.before)
                (ordered_after w L enough a.before keys' c o) (clean_turns a.before keys' c o calm' clean) s.parent
                s.side there
              where
                keys' : All (λ t. HasKey t.1) a.before
                keys' = first_keys a.before (a.turn ∷ a.since)
                    (subst (λ (l : List (ℕ × Event)). All (λ t. HasKey t.1) l) a.is_run keys)

                calm' : number_of changes_turn (trace_in c a.before) ≡ 0
                calm' = let all = ap (λ (l : List (ℕ × Event)). number_of changes_turn (trace_in c l)) a.is_run in
                    let parts = number_split changes_turn c a.before a.turn a.since in omega (arith, calm, all, parts)

                there : Reached (after_in c a.before).state.memory s.parent
                there = (calm_turns L enough a.before keys' c o
                    (let few = calm_too (trace_in c a.before) in omega (arith, few, calm')) s.parent
                    (parent_reached k n old new s chain walk whole)).reached

                told : edge (after_in c a.before).state.memory s.parent s.side ≡ s.edge
                told = look_edge (after_in c a.before).state a.turn.0 s.parent s.side s.edge
                    (ap (reply_of (after_in c a.before).state a.turn.0) (sym (ap (λ (k : Entry). k.0) a.is_entry))
                    ∙ ap (λ (k : Entry). k.1) a.is_entry)

-- ---- nothing is pending

-- where a worker rests and no other has a delete pending, none is
pub none_pends : (p : PassView) → HasSeen p.view → IsResting p → NoOtherPends p → NonePends p.view.layout p.view.past
none_pends p seen resting others u here = by (u == p.view.number) refl
  where
    own : leaf_after p.view.number None p.view.past ≡ None
    own = leaf_is_told p.view.number idle p.view.past
        ∙ (ap (λ (l : List Entry). (search_after idle l).flagged)
        (ap (part_of p.view.number) (as_events p.view seen).are ∙ (as_events p.view seen).is_part)
        ∙ ap (λ (s : Search). s.flagged) resting.idle)

    by : (b : Bool) → (u == p.view.number) ≡ b → leaf_after u None p.view.past ≡ None
    by true is = subst (λ (v : ℕ). leaf_after v None p.view.past ≡ None) (sym (eqb-true u p.view.number is)) own
    by false is = others u here (eqb-false u p.view.number is)

-- ---- a call alone, by what p and q have seen

-- the turns of a part of it, by worker w alone
record AloneWalk (L : Layout) (enough : 5 ≤ L.nodes) (w : ℕ) (begun walked : List Entry) : Type 0 where
  from : Configuration
  is_ordered : IsOrdered L from
  is_clean : Clean from
  knows : of from.state w ≡ known_by L w begun
  ran : Ran L enough w begun from
  turns : List (ℕ × Event)
  has_keys : All (λ t. HasKey t.1) turns
  calm : number_of changes_turn (trace_in from turns) ≡ 0
  is_walk : begun ++ part_of w (trace_in from turns) ≡ walked

module _ (p q : PassView) (seen_p : HasSeen p.view) (seen_q : HasSeen q.view) (enough : 5 ≤ p.view.layout.nodes)
    (same : IsSamePass p q) (alone : IsAlone p q) (rests : NonePends p.view.layout p.view.past) where
  abbrev goes_on : Extends q.view.past p.view.past
  goes_on = record { more = alone.turns; is = alone.is }

  keys : All (λ t. HasKey t.1) ((events_of p.view.past) ++ (events_of alone.turns))
  keys = keys_seen p q seen_p seen_q same goes_on

  past_keys : All (λ t. HasKey t.1) (events_of p.view.past)
  past_keys = first_keys (events_of p.view.past) (events_of alone.turns) keys

  log_q : IsLogOf p.view.layout p.view.number q.view.log
  log_q = record {
    worker = seen_p.worker;
    turns = (events_of p.view.past)
        ++ (events_of alone.turns);
    keys = keys;
    is_part = part_on p q seen_p seen_q same goes_on;
  }

  pends_not : NothingIsPending p.view.layout (events_of p.view.past)
  pends_not = nothing_is_pending p.view.layout enough (events_of p.view.past) past_keys
      (subst (NonePends p.view.layout) (as_events p.view seen_p).are rests)

  o : IsOrdered p.view.layout (after_in (ordered p.view.layout) (events_of p.view.past))
  o = each_ordered p.view.layout enough (events_of p.view.past) past_keys

  clean : Clean (after_in (ordered p.view.layout) (events_of p.view.past))
  clean y g r = false_from_ne_true _ (λ flag.
      let n = each_flagged_leaf_is_pending p.view.layout enough (events_of p.view.past) past_keys y g r flag in
      pends_not n.worker n.key n.flag)

  own_parts : (xs ys : List (ℕ × Event)) → All (λ t. t.0 ≡ p.view.number) (xs ++ ys)
      → All (λ t. t.0 ≡ p.view.number) xs × All (λ t. t.0 ≡ p.view.number) ys
  own_parts xs ys all = (
    all_before (λ t. t.0 ≡ p.view.number) xs ys all,
    all_behind (λ t. t.0 ≡ p.view.number) xs ys
        all,
  )

  alone_walk : (begun walked : List Entry) → Mute p.view.log begun → Plain begun walked → Longer walked q.view.log
      → AloneWalk p.view.layout enough p.view.number begun walked
  alone_walk begun walked pin walk rest = made (split_part p.view.number pin.entries
      (after_in (ordered p.view.layout) (events_of p.view.past)) (events_of alone.turns) (walk.entries ++ rest.entries)
      parts)
    where
      parts : part_of p.view.number (trace_in (after_in (ordered p.view.layout) (events_of p.view.past))
          (events_of alone.turns)) ≡ pin.entries ++ (walk.entries ++ rest.entries)
      parts = part_added p q seen_p seen_q same goes_on _
          (rest.are ∙ (ap (λ (l : List Entry). l ++ rest.entries)
          (walk.are ∙ ap (λ (l : List Entry). l ++ walk.entries) pin.are)
          ∙ (append_assoc (p.view.log ++ pin.entries) walk.entries rest.entries
          ∙ append_assoc p.view.log pin.entries (walk.entries ++ rest.entries))))

      made : SplitPart p.view.number (after_in (ordered p.view.layout) (events_of p.view.past))
          (events_of alone.turns) pin.entries (walk.entries ++ rest.entries)
          → AloneWalk p.view.layout enough p.view.number begun walked
      made s = inner (split_part p.view.number walk.entries
          (after_in (after_in (ordered p.view.layout) (events_of p.view.past)) s.before) s.since rest.entries
          s.is_since)
        where
          own : All (λ t. t.0 ≡ p.view.number) s.before × All (λ t. t.0 ≡ p.view.number) s.since
          own = own_parts s.before s.since (subst (λ (l : List (ℕ × Event)). All (λ t. t.0 ≡ p.view.number) l)
              s.is_run (own_events p.view.number alone.turns alone.own))

          more_keys : All (λ t. HasKey t.1) (s.before ++ s.since)
          more_keys = subst (λ (l : List (ℕ × Event)). All (λ t. HasKey t.1) l) s.is_run
              (later_keys (events_of p.view.past) (events_of alone.turns) keys)

          first : All (λ t. HasKey t.1) s.before
          first = first_keys s.before s.since more_keys

          known : of (after_in (after_in (ordered p.view.layout) (events_of p.view.past)) s.before).state
              p.view.number ≡ known_by p.view.layout p.view.number begun
          known = part_teaches p.view.number p.view.layout enough s.before
              (after_in (ordered p.view.layout) (events_of p.view.past)) o
              ∙ (ap (known_after p.view.number (of (after_in (ordered p.view.layout) (events_of p.view.past)).state
              p.view.number)) s.is_before
              ∙ (ap (λ (k : Knowledge). known_after p.view.number k pin.entries)
              (logs_tell p.view.layout (events_of p.view.past) p.view.number seen_p.worker
              ∙ ap (known_by p.view.layout p.view.number) (as_events p.view seen_p).is_part)
              ∙ (sym (known_longer p.view.number _ p.view.log pin.entries)
              ∙ ap (known_by p.view.layout p.view.number) (sym pin.are))))

          inner : SplitPart p.view.number (after_in (after_in (ordered p.view.layout) (events_of p.view.past))
              s.before) s.since walk.entries rest.entries → AloneWalk p.view.layout enough p.view.number begun walked
          inner r = record {
            from = after_in (after_in (ordered p.view.layout) (events_of p.view.past)) s.before;
            is_ordered = ordered_after p.view.number p.view.layout enough s.before first
                (after_in (ordered p.view.layout) (events_of p.view.past)) o;
            is_clean = clean_turns p.view.layout enough s.before first
                (after_in (ordered p.view.layout) (events_of p.view.past)) o
                (mute_turns p.view.number (after_in (ordered p.view.layout) (events_of p.view.past)) s.before own.0
                (ap (list_any is_edge_change) s.is_before ∙ pin.quiet)) clean;
            knows = known;
            ran = subst (λ (l : List Entry). Ran p.view.layout enough p.view.number l
                (after_in (after_in (ordered p.view.layout) (events_of p.view.past)) s.before)) (sym pin.are)
                (ran_on p.view.layout enough p.view.number p.view.log pin.entries
                (after_in (ordered p.view.layout) (events_of p.view.past))
                (record {
                  past = events_of p.view.past;
                  keys = past_keys;
                  is = refl;
                  is_part =
                      (as_events p.view seen_p).is_part;
                }) s.before first s.is_before);
            turns = r.before;
            has_keys = first_keys r.before r.since (subst (λ (l : List (ℕ × Event)). All (λ t. HasKey t.1) l)
                r.is_run (later_keys s.before s.since more_keys));
            calm = mute_turns p.view.number (after_in (after_in (ordered p.view.layout) (events_of p.view.past))
                s.before) r.before (own_parts r.before r.since
                (subst (λ (l : List (ℕ × Event)). All (λ t. t.0 ≡ p.view.number) l) r.is_run own.1)).0
                (ap (list_any is_edge_change) r.is_before ∙ quiet_mute walk.entries walk.quiet);
            is_walk = ap (λ (l : List Entry). begun ++ l) r.is_before ∙ sym walk.are;
          }

  log_to : (log : List Entry) → Longer log q.view.log → IsLogOf p.view.layout p.view.number log
  log_to log rest = log_prefix p.view.layout p.view.number log rest.entries
      (subst (IsLogOf p.view.layout p.view.number) rest.are log_q)

  -- no walk of the first try reads an edge with a mark, nor is one too long
  bare_walk : (k n : ℕ) (begun walked : List Entry) (s : SeekRecord) (chain : List ChainEdge) → Mute p.view.log begun
      → Walks k n begun walked s chain → Longer walked q.view.log → is_bare s.edge ≡ true
  bare_walk k n begun walked s chain pin walk rest =
      let a = alone_walk begun walked pin (walk_plain k n begun walked s chain walk) rest in
      read_bare p.view.layout enough p.view.number a.from a.is_ordered a.is_clean a.turns a.has_keys a.calm k n begun
      walked s chain walk (log_to walked rest) a.is_walk

  not_tagged : (e : Edge) → is_bare e ≡ true → e.tag ≡ true → ⊥
  not_tagged e bare tag = by e.flag e.tag bare tag
    where
      by : (f t : Bool) → (not f && not t) ≡ true → t ≡ true → ⊥
      by true t bare tag = true≢false (sym bare)
      by false true bare tag = true≢false (sym bare)
      by false false bare tag = true≢false (sym tag)

  pub none_broken : (k : ℕ) (begun new : List Entry) → Mute p.view.log begun → IsBroken p.view.layout k begun new
      → Longer new q.view.log → ⊥
  none_broken k begun new pin (inl long) rest =
      let a = alone_walk begun new pin (walk_plain k long.1 begun new long.2 long.3 long.4) rest in
      not_too_long p.view.layout enough p.view.number a.from a.is_ordered a.turns a.has_keys
      (let few = calm_too (trace_in a.from a.turns) in let calm = a.calm in omega (arith, few, calm)) k begun new
      long a.is_walk
  none_broken k begun new pin (inr deep) rest = not_tagged deep.3.edge
      (bare_walk k deep.1 begun deep.2 deep.3 deep.4 pin deep.7
      (longer_then deep.2 new q.view.log (reads_longer k deep.3.edge.slot deep.2 new deep.5 deep.8) rest)) deep.10

  -- nor is its exchange lost
  pub none_lost : (k : ℕ) (r : WalkEnd) (c : List ChainEdge) (e : Edge) (n : ℕ) (begun walked before : List Entry)
      (exchange : Event) → Mute p.view.log begun → Walks k n begun walked r.seek_record c → Plain walked before
      → is_loud (losing exchange e) ≡ false
      → Expects r.seek_record.parent r.seek_record.side r.seek_record.edge.slot exchange
      → Longer (before ++ losing exchange e ∷ []) q.view.log → ⊥
  none_lost k r c e n begun walked before exchange pin walk plain quiet expects rest = refuse
      (alone_walk begun _ pin whole_try rest)
    where
      to_before : Plain begun before
      to_before = plain_then begun walked before (walk_plain k n begun walked r.seek_record c walk) plain

      whole_try : Plain begun (before ++ losing exchange e ∷ [])
      whole_try = plain_then begun before _ to_before
          (plain_these (losing exchange e ∷ []) before _ (ap (λ (b : Bool). b || false) quiet) refl)

      walked_rest : Longer walked q.view.log
      walked_rest = longer_then walked before q.view.log (plain_longer walked before plain)
          (longer_then before _ q.view.log (longer_these (losing exchange e ∷ []) before _ refl) rest)

      interfered : Interferes p.view.layout enough p.view.number begun (before ++ losing exchange e ∷ []) 1
      interfered = bare_at p.view.layout enough p.view.number k r c e n begun walked before _ exchange walk plain
          expects (bare_walk k n begun walked r.seek_record c pin walk walked_rest) (longer_none _ _ refl)
          (log_to before (longer_then before _ q.view.log (longer_these (losing exchange e ∷ []) before _ refl) rest))

      refuse : AloneWalk p.view.layout enough p.view.number begun (before ++ losing exchange e ∷ []) → ⊥
      refuse a =
          let some = interfered.counted a.from a.is_ordered a.knows a.ran a.turns a.has_keys
          (append_cancel_left begun _ _ (a.is_walk ∙ interfered.are)) in
          let few = interferes_too p.view.number (trace_in a.from a.turns) in
          let calm = a.calm in
          absurd (omega (arith, some, few, calm))

  -- so an insert loses no try, nor does a delete
  none_inserted : (fit : Fit) (k n : ℕ) (f : Option NewNodes) (begun new : List Entry) → Mute p.view.log begun
      → LostInserts fit p.view.layout k n f begun new → Longer new q.view.log → n ≡ 0
  none_inserted fit k zero f begun new pin tried rest = refl
  none_inserted fit k (suc zero) g begun new pin (f, mid, before, try) rest = absurd
      (one (subst (λ (l : List Entry). IsLostInsert fit p.view.layout k f g l new) before.1 try))
    where
      one : IsLostInsert fit p.view.layout k f g begun new → ⊥
      one (inl (c, broken, same)) = none_broken k begun new pin broken rest
      one (inr (made, r, c, e, mid, link, forked, helps)) = none_lost k r c e link.walk.0.0 begun link.walk.0.1 _
          (Link r.seek_record.parent r.seek_record.side r.seek_record.edge.slot made.internal.slot) pin link.walk.0.4
          (link_plain p.view.layout k fit f made r c e begun mid link) refl (ToLink made.internal.slot)
          (longer_then _ mid q.view.log (longer_none _ mid link.grows.3)
          (longer_then mid new q.view.log (help_longer r c e mid new helps) rest))
  none_inserted fit k (suc (suc n)) g begun new pin (f, mid, before, try) rest = absurd
      (let none = none_inserted fit k (suc n) f begun mid pin before
      (longer_then mid new q.view.log (insert_longer fit p.view.layout k f g mid new try) rest) in omega (arith, none))

  pub none_flagged : (k n : ℕ) (begun new : List Entry) → Mute p.view.log begun
      → LostFlags p.view.layout k n begun new → Longer new q.view.log → n ≡ 0
  none_flagged k zero begun new pin tried rest = refl
  none_flagged k (suc zero) begun new pin (c, mid, before, try) rest = absurd
      (one (subst (λ (l : List Entry). IsLostFlag p.view.layout k c l new) before try))
    where
      one : IsLostFlag p.view.layout k c begun new → ⊥
      one (inl broken) = none_broken k begun new pin broken rest
      one (inr (r, b, e, mid, flag, helps)) = none_lost k r c e flag.walk.0.0 begun flag.walk.0.1 _
          (Flag r.seek_record.parent r.seek_record.side r.seek_record.edge.slot) pin flag.walk.0.4
          (flag_plain p.view.layout k r c b e begun mid flag) refl ToFlag
          (longer_then _ mid q.view.log (longer_none _ mid flag.entries)
          (longer_then mid new q.view.log (help_longer r c e mid new helps) rest))
  none_flagged k (suc (suc n)) begun new pin (c, mid, before, try) rest = absurd
      (let none = none_flagged k (suc n) begun mid pin before
      (longer_then mid new q.view.log (flag_longer p.view.layout k c mid new try) rest) in omega (arith, none))

pub inserts_alone_are_answered : InsertsAloneAreAnswered
inserts_alone_are_answered fit k tries p q seen_p seen_q enough same on runs resting did = by did
  where
    alone : IsAlone p q
    alone = runs.alone

    rests : NonePends p.view.layout p.view.past
    rests = none_pends p seen_p resting runs.rests

    by : InsertDid fit p.view.layout tries k p.view.log q.view.log (Err fault.Busy) → tries ≡ 0
    by (inl none) = none.0
    by (inr (inl m)) = none_moved p q tries alone (moved p q seen_p seen_q enough same on (SightFor Insert k) refl
        tries m.0 m.1)
    by (inr (inr (pinned, epoch, pin, (f, mid, back, tried, returns, leaves)))) = none_inserted p q seen_p seen_q
        enough same alone rests fit k tries f pinned mid (pin_mute Insert k tries p.view.log pinned epoch pin) tried
        (longer_then mid back q.view.log (returns_longer f mid back returns) (longer_these _ back q.view.log leaves))

pub deletes_alone_are_not_busy : DeletesAloneAreNotBusy
deletes_alone_are_not_busy k tries p q seen_p seen_q enough same on runs resting did = by did
  where
    alone : IsAlone p q
    alone = runs.alone

    rests : NonePends p.view.layout p.view.past
    rests = none_pends p seen_p resting runs.rests

    by : DeleteDid p.view.layout tries k p.view.log q.view.log (Err fault.Busy) → tries ≡ 0
    by (inl none) = none.0
    by (inr (inl m)) = none_moved p q tries alone (moved p q seen_p seen_q enough same on (SightFor Delete k) refl
        tries m.0 m.1)
    by (inr (inr (pinned, epoch, pin, (c, mid, tried, leaves)))) = none_flagged p q seen_p seen_q enough same alone
        rests k tries pinned mid (pin_mute Delete k tries p.view.log pinned epoch pin) tried
        (longer_these _ mid q.view.log leaves)
