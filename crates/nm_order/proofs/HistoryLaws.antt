-- Each ordered run has a history: its calls, in the order of their moments, as a history of one
-- plain set.
use Rattle.std.proofs.Common.{◌≡◌, ◌+◌, ℕ, ◌≤◌, inl, inr, ◌⊎◌, true, false, List, [], ◌∷◌, ◌++◌, append_assoc, append-nil, length, map, refl, sym, ap, subst, ◌∙◌, arith, true≢false}
use Rattle.std.specs.Prelude.{Option, Some, unwrap_or, Ok, Contains, All}
use Rattle.nm_edge.specs.declared.edge.Side.{Side}
use Rattle.nm_order.specs.Removals.{is_splice}
use Rattle.nm_order.proofs.FlaggedNodes.{FlaggedLeaf}
use Rattle.nm_order.proofs.OrderedMoments.{Lasting}
use Rattle.nm_model.specs.Laws.{slots_of}
use Rattle.std.specs.List.{list_any}
use Rattle.std.proofs.lemmas.Option.{none-some, same_Some}
use Rattle.nm_edge.specs.Layouts.{Layout}
use Rattle.nm_edge.specs.declared.node.NodeId.{NodeId}
use Rattle.nm_model.specs.declared.event.Op.{Op}
use Rattle.nm_model.specs.declared.event.Op.TheVariants.{Has, Insert, Delete}
use Rattle.nm_model.specs.declared.event.Event.{Event}
use Rattle.nm_model.specs.declared.event.Event.TheVariants.{LeaveWith, Link}
use Rattle.nm_model.specs.declared.reply.Reply.TheVariants.{Linked, Cut}
use Rattle.nm_model.specs.declared.arrivals.Call.{Call}
use Rattle.nm_model.specs.Memory.{opening}
use Rattle.nm_model.specs.Paths.{Reached}
use Rattle.nm_model.specs.Searches.{Search, idle}
use Rattle.nm_model.specs.Walks.{begins_anew}
use Rattle.nm_model.specs.Ordered.{Configuration, outcome_in, ordered, search_of, next_in, after_in, trace_in}
use Rattle.nm_model.proofs.Numbers.{repeated}
use Rattle.nm_model.specs.Acts.{InSet, Act, IsAmong, nothing, leaf_keys, HasInARow}
use Rattle.nm_order.specs.Intervals.{key, HasKey, IsCalled}
use Rattle.nm_order.specs.Moments.{OfEachOrderedRun, PinStands}
use Rattle.nm_order.specs.Exchanges.{HasWonInsert, HasFlagged}
use Rattle.nm_order.specs.Removals.{HasWonDelete}
use Rattle.nm_order.specs.History.{HasChanged, IsActOfRun, IsDeleteOf, LeadsTo, RunHasHistory}
use Rattle.nm_order.specs.History.IsActOfRun.{IsAnswered, IsPending}
use Rattle.nm_order.proofs.OrderedLaws.{IsOrdered, each_ordered}
use Rattle.nm_order.proofs.OwnTurns.{own_search, stands_parts}
use Rattle.nm_order.proofs.OwnLinks.{links_once}
use Rattle.nm_order.proofs.RunMoments.{entries}
use Rattle.nm_order.proofs.RunExchanges.{first_keys, is_own_call, linked_at}
use Rattle.nm_order.proofs.WalksOfRuns.{over_turns}
use Rattle.nm_order.proofs.CutTurns.{cut_shows, mapped_among}
use Rattle.nm_order.proofs.FlagFates.{own_flagged, Fate, StandsStill, CutSince, fates, one_more}
use Rattle.nm_order.proofs.PendingLeaves.{own_learns, flag_noted}
use Rattle.nm_order.proofs.TotalsOfRuns.{empty_first}
use Rattle.nm_order.proofs.Timelines.{replays_from, Follows, follows_replays, follows_in_order, Row, follows_row, all_at, SplitAt, split_at}
use Rattle.nm_order.proofs.Histories.{Changed, Calls, ActState, Kept, Answered, next, changed_goes, goes}
use Rattle.nm_order.proofs.Histories.ActState.{Ended, Live}

module _ (L : Layout) (enough : 5 ≤ L.nodes) where
  -- ---- the acts of a run

  abbrev Some_acts : List (ℕ × Event) → Type 0
  Some_acts ts = (acts : List Act) × Kept L ts acts × Answered L ts acts

  no_change_first : (w : ℕ) (op : Op) → Changed (ordered L) w op → ⊥
  no_change_first w Has x = x
  no_change_first w Insert x = true≢false (sym x ∙ ap (λ (S : Search). S.linked) (repeated L.workers w idle))
  no_change_first w Delete x = none-some x.0 (sym (ap (λ (S : Search). S.flagged) (repeated L.workers w idle)) ∙ x.1)

  no_turn_first : (before since : List (ℕ × Event)) (t : ℕ × Event) → [] ≡ before ++ t ∷ since → ⊥
  no_turn_first [] since t e = cc
  no_turn_first (x ∷ before) since t e = cc

  acts_first : Some_acts []
  unfolding after_in
  acts_first = (
    [],
    record {
      follows = tt;
      once = tt;
      each = λ a none. absurd none;
      live = λ w op k called did.
          absurd (no_change_first w op did);
    },
    λ before since w op k answer is may. absurd
        (no_turn_first before since (w, LeaveWith answer) is),
  )

  acts_of : (ts : List (ℕ × Event)) → All (λ t. HasKey t.1) ts → Some_acts ts
  acts_of = over_turns Some_acts acts_first (λ ts t keys old. next L enough ts t keys old.0 old.1 old.2)

  -- ---- a change that was made, stays made

  changed_through : (w : ℕ) (op : Op) (since before : List (ℕ × Event)) → All (λ t. HasKey t.1) (before ++ since)
      → PinStands w (trace_in (after_in (ordered L) before) since) → Changed (after_in (ordered L) before) w op
      → Changed (after_in (ordered L) (before ++ since)) w op
  changed_through w op [] before keys stands did = subst
      (λ (l : List (ℕ × Event)). Changed (after_in (ordered L) l) w op) (sym (append-nil before)) did
  changed_through w op (t ∷ since) before keys stands did =
      let parts = stands_parts L w (after_in (ordered L) before) t since stands in
      let joined : (before ++ t ∷ []) ++ since ≡ before ++ t ∷ since = append_assoc before (t ∷ []) since in
      let keys' : All (λ t. HasKey t.1) ((before ++ t ∷ []) ++ since) = subst
      (λ (l : List (ℕ × Event)). All (λ t. HasKey t.1) l) (sym joined) keys in
      subst (λ (l : List (ℕ × Event)). Changed (after_in (ordered L) l) w op) joined
      (changed_through w op since (before ++ t ∷ []) keys'
      (subst (λ (d : Configuration). PinStands w (trace_in d since)) (sym (one_more L enough before t)) parts.1)
      (subst (λ (d : Configuration). Changed d w op) (sym (one_more L enough before t))
      (changed_goes L enough before t (first_keys (before ++ t ∷ []) since keys') w op parts.0 did)))

  module _ (ts : List (ℕ × Event)) (keys : All (λ t. HasKey t.1) ts) (w : ℕ) where
    -- an insert that has linked
    inserted_changed : (k : ℕ) → HasWonInsert L ts w k → Changed (after_in (ordered L) ts) w Insert
    inserted_changed k f = subst (λ (l : List (ℕ × Event)). Changed (after_in (ordered L) l) w Insert) (sym whole)
        (changed_through w Insert f.since (f.before ++ turn ∷ []) keys'
        (subst (λ (d : Configuration). PinStands w (trace_in d f.since)) (sym (one_more L enough f.before turn))
        f.stands)
        (subst (λ (d : Configuration). Changed d w Insert) (sym (one_more L enough f.before turn)) now))
      where
        turn : ℕ × Event
        turn = (w, Link f.parent f.side f.leaf f.new)

        whole : ts ≡ (f.before ++ turn ∷ []) ++ f.since
        whole = f.is_run ∙ sym (append_assoc f.before (turn ∷ []) f.since)

        keys' : All (λ t. HasKey t.1) ((f.before ++ turn ∷ []) ++ f.since)
        keys' = subst (λ (l : List (ℕ × Event)). All (λ t. HasKey t.1) l) whole keys

        then_ordered : IsOrdered L (after_in (ordered L) f.before)
        then_ordered = each_ordered L enough f.before
            (first_keys f.before (turn ∷ []) (first_keys (f.before ++ turn ∷ []) f.since keys'))

        now : (own_search (next_in (after_in (ordered L) f.before) (w, Link f.parent f.side f.leaf f.new)) w).linked
            ≡ true
        now = ap (λ (S : Search). S.linked) (own_learns L enough (after_in (ordered L) f.before) then_ordered w
            (Link f.parent f.side f.leaf f.new) (Linked f.linked) f.won)
            ∙ links_once.done (own_search (after_in (ordered L) f.before) w) (Link f.parent f.side f.leaf f.new)
            (Linked f.linked) refl

    -- a delete whose leaf is cut
    deleted_changed : (k : ℕ) → HasWonDelete L ts w k → Changed (after_in (ordered L) ts) w Delete
    deleted_changed k f = subst (λ (l : List (ℕ × Event)). Changed (after_in (ordered L) l) w Delete) (sym whole)
        (changed_through w Delete f.since (f.before ++ f.cut ∷ []) keys'
        (subst (λ (d : Configuration). PinStands w (trace_in d f.since)) (sym (one_more L enough f.before f.cut))
        parts.1)
        (subst (λ (d : Configuration). Changed d w Delete) (sym (one_more L enough f.before f.cut))
        (f.flag.flagged, kept, gone)))
      where
        whole : ts ≡ (f.before ++ f.cut ∷ []) ++ f.since
        whole = f.is_run ∙ sym (append_assoc f.before (f.cut ∷ []) f.since)

        keys' : All (λ t. HasKey t.1) ((f.before ++ f.cut ∷ []) ++ f.since)
        keys' = subst (λ (l : List (ℕ × Event)). All (λ t. HasKey t.1) l) whole keys

        keys'' : All (λ t. HasKey t.1) (f.before ++ f.cut ∷ [])
        keys'' = first_keys (f.before ++ f.cut ∷ []) f.since keys'

        then_keys : All (λ t. HasKey t.1) f.before
        then_keys = first_keys f.before (f.cut ∷ []) keys''

        then_ordered : IsOrdered L (after_in (ordered L) f.before)
        then_ordered = each_ordered L enough f.before then_keys

        parts : (list_any begins_anew (entries w (after_in (ordered L) f.before) f.cut) ≡ false)
            × PinStands w (trace_in (next_in (after_in (ordered L) f.before) f.cut) f.since)
        parts = stands_parts L w (after_in (ordered L) f.before) f.cut f.since f.stands

        kept : (own_search (next_in (after_in (ordered L) f.before) f.cut) w).flagged ≡ Some f.flag.flagged
        kept = (goes L enough f.before f.cut keys'' w parts.0).flagged f.flag.flagged
            (flag_noted L enough f.before then_keys w k f.flag)

        gone : Reached (next_in (after_in (ordered L) f.before) f.cut).state.memory f.flag.flagged.slot → ⊥
        gone = (((cut_shows L enough (after_in (ordered L) f.before) f.cut then_ordered f.nodes f.won).0
            f.flag.flagged.slot).1 (mapped_among (λ (n : NodeId). n.slot) f.nodes f.flag.flagged f.among)).gone

    to_changed : (op : Op) (k : ℕ) → HasChanged L ts w op k → Changed (after_in (ordered L) ts) w op
    to_changed Has k x = x
    to_changed Insert k x = inserted_changed k x
    to_changed Delete k x = deleted_changed k x

    is_called : (op : Op) (k : ℕ) → Calls (after_in (ordered L) ts) w op k → IsCalled (after_in (ordered L) ts) w op k
    is_called op k called = let o = each_ordered L enough ts keys in
        record {
          searches = o.searches;
          are = o.are;
          is_call = sym
              (ap (λ (l : Option (List Search)). (search_of (unwrap_or l []) w).call) o.are) ∙ called;
        }

    pub from_changed : (op : Op) (k : ℕ) → Calls (after_in (ordered L) ts) w op k
        → Changed (after_in (ordered L) ts) w op → HasChanged L ts w op k
    from_changed Has k called x = x
    from_changed Insert k called x = linked_at L enough ts keys w k (is_called Insert k called) x
    from_changed Delete k called x = on f.fate
      where
        f : Fate L enough ts w x.0
        f = fates L enough ts keys w x.0 x.1

        same_key : f.k ≡ k
        same_key = ap (λ (c : Call). c.key) (same_Some (record { op = Delete; key = f.k })
            (record { op = Delete; key = k }) (sym f.is_call ∙ called))

        on : StandsStill L enough (after_in (ordered L) ts) w x.0 ⊎ CutSince L enough ts w f.k x.0
            → HasWonDelete L ts w k
        on (inl still) = absurd (x.2 still.reached)
        on (inr cut) = subst (HasWonDelete L ts w) same_key cut.deleted

  -- ---- the history

  is_act : (ts : List (ℕ × Event)) → All (λ t. HasKey t.1) ts → (a : Act) → ActState L ts a → IsActOfRun L ts a
  is_act ts keys a (Ended before since is may pin later within past) = IsAnswered before since is may pin later within
  is_act ts keys a (Live called did answer pin later within) = IsPending
      (is_called ts keys a.worker a.op a.key called) (from_changed ts keys a.worker a.op a.key called did) answer pin
      later within

  moment : {acts : List Act} (before : List (ℕ × Event))
      → SplitAt (ordered L) (after_in (ordered L) before) (0 + length before) acts
      → LeadsTo acts (length before) (InSet (after_in (ordered L) before).state.memory)
  moment before s = record {
    first = s.first;
    later = s.later;
    are = s.are;
    so_far = λ a there. (let e = s.so_far a there in omega arith);
    beyond = λ a there. (let e = s.beyond a there in omega arith);
    replays = replays_from (InSet (opening L)) nothing s.first (InSet (after_in (ordered L) before).state.memory)
        (λ k small. ((λ x. empty_first L k small x), (λ none. absurd none))) s.replays;
  }

  has_history : (ts : List (ℕ × Event)) → All (λ t. HasKey t.1) ts → RunHasHistory L ts
  has_history ts keys = by (acts_of ts keys)
    where
      row_of : (acts : List Act) → Kept L ts acts → (before since : List (ℕ × Event)) (t : ℕ × Event)
          → ts ≡ before ++ t ∷ since → Row (after_in (ordered L) before) t (0 + length before + 1) acts
      row_of acts kept before since t run = follows_row (ordered L) before since t 0 acts
          (subst (λ (l : List (ℕ × Event)). Follows (ordered L) l 0 acts) run kept.follows)

      linked : (acts : List Act) (before : List (ℕ × Event)) (w p : ℕ) (d : Side) (leaf new : ℕ) (n : NodeId) (k : ℕ)
          → outcome_in (after_in (ordered L) before) (w, Link p d leaf new) ≡ Ok (Linked n)
          → IsCalled (after_in (ordered L) before) w Insert k
          → Row (after_in (ordered L) before) (w, Link p d leaf new) (0 + length before + 1) acts
          → HasInARow acts (k ∷ []) (length before + 1) (λ a. (a.worker ≡ w) × (a.op ≡ Insert) × (a.answer ≡ true))
      linked acts before w p d leaf new n k is called r = record {
        front = r.front;
        row = r.row;
        back = r.back;
        are = r.are;
        are_keys = ap (map (λ (a : Act). a.key)) a.1 ∙ ap (λ (j : ℕ). j ∷ []) a.2;
        at = λ b there. all_at (0 + length before + 1) r.row r.changes.at b there ∙ omega arith;
        each = λ b there. elim (subst (λ (l : List Act). IsAmong l b) a.1 there) [
          | inl is ↦ subst (λ (y : Act). (y.worker ≡ w) × (y.op ≡ Insert) × (y.answer ≡ true)) is (a.3, a.4, a.5)
          | inr none ↦ absurd none
        ];
      }
        where
          a : (a : Act) × (r.row ≡ a ∷ []) × (a.key ≡ k) × (a.worker ≡ w) × (a.op ≡ Insert) × (a.answer ≡ true)
          a = r.changes.link k (is_own_call (after_in (ordered L) before) w Insert k called) (Linked n) is refl

      cut_row : (acts : List Act) (before : List (ℕ × Event)) → All (λ t. HasKey t.1) before
          → (t : ℕ × Event) (ns : List NodeId) → outcome_in (after_in (ordered L) before) t ≡ Ok (Cut ns)
          → is_splice t.1 ≡ true
          → Row (after_in (ordered L) before) t (0 + length before + 1) acts
          → HasInARow acts (leaf_keys (after_in (ordered L) before).state.memory (slots_of ns)) (length before + 1)
          (IsDeleteOf L before ns)
      cut_row acts before first t ns is splice r = record {
        front = r.front;
        row = r.row;
        back = r.back;
        are = r.are;
        are_keys = r.changes.cut ns is splice;
        at = λ b there. all_at (0 + length before + 1) r.row r.changes.at b there ∙ omega arith;
        each = λ b there. owned_by b (r.changes.owner ns is splice b there);
      }
        where
          owned_by : (b : Act) → (n : NodeId) × Contains ns n
              × ((own_search (after_in (ordered L) before) b.worker).flagged ≡ Some n)
              × (key (after_in (ordered L) before).state.memory n.slot ≡ b.key) × (b.op ≡ Delete) × (b.answer ≡ true)
              → IsDeleteOf L before ns b
          owned_by b w =
              let own = subst (λ (k : ℕ). (f : HasFlagged L before b.worker k) × Contains ns f.flagged) same_key
              (f.flag, subst (Contains ns) (sym f.is_node) w.1) in
              (w.4, w.5, own.0, own.1)
            where
              f : Fate L enough before b.worker w.0
              f = fates L enough before first b.worker w.0 w.2

              leaf : FlaggedLeaf (after_in (ordered L) before).state
                  (own_search (after_in (ordered L) before) b.worker) b.worker w.0
              leaf = own_flagged L enough before first b.worker w.0 w.2

              same_key : f.k ≡ b.key
              same_key = ap (λ (c : Call). c.key) (same_Some (record { op = Delete; key = f.k }) leaf.call
                  (sym f.is_call ∙ leaf.is_call)) ∙ (sym (ap (λ (y : Lasting). y.key) leaf.lasts) ∙ w.3)

      by : (acts : List Act) × Kept L ts acts × Answered L ts acts → RunHasHistory L ts
      by acts = (
        acts.0,
        record {
          replays = replays_from (InSet (opening L)) nothing acts.0 (InSet (after_in (ordered L) ts).state.memory)
              (λ k small. ((λ s. empty_first L k small s), (λ none. absurd none)))
              (follows_replays (ordered L) ts 0 acts.0 acts.1.follows);
          in_order = follows_in_order (ordered L) ts 0 acts.0 acts.1.follows 0 false (omega arith);
          once = acts.1.once;
          links = λ before since w p d leaf new n k run is called. linked acts.0 before w p d leaf new n k is called
              (row_of acts.0 acts.1 before since (w, Link p d leaf new) run);
          cuts = λ before since t ns run is splice. cut_row acts.0 before
              (first_keys before (t ∷ since)
              (subst (λ (l : List (ℕ × Event)). All (λ t. HasKey t.1) l) run keys)) t ns is splice
              (row_of acts.0 acts.1 before since t run);
          moments = λ before since run. moment before (split_at (ordered L) before since 0 acts.0
              (subst (λ (l : List (ℕ × Event)). Follows (ordered L) l 0 acts.0) run acts.1.follows));
          each = λ a there. is_act ts keys a (acts.1.each a there);
          answered = acts.2;
          pending = λ w op k called did. acts.1.live w op k (is_own_call (after_in (ordered L) ts) w op k called)
              (to_changed ts keys w op k did);
        },
      )

pub each_run_has_a_history : OfEachOrderedRun RunHasHistory
each_run_has_a_history L enough turns keys = has_history L enough turns keys
