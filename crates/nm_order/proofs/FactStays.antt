-- Each fact that a log holds is held by it with one entry more, while no pin begins or ends.
use Rattle.std.proofs.Common.{◌≡◌, ℕ, inl, inr, true, false, List, [], ◌∷◌, ◌++◌, refl, sym, ap, subst, ◌∙◌}
use Rattle.std.specs.Prelude.{Option, Some, None, Contains}
use Rattle.nm_edge.specs.Edges.{Edge}
use Rattle.nm_edge.specs.declared.edge.Side.{Side}
use Rattle.nm_edge.specs.declared.node.NodeId.{NodeId}
use Rattle.nm_model.specs.declared.event.Field.{Field}
use Rattle.nm_model.specs.declared.event.Event.{Event}
use Rattle.nm_model.specs.declared.event.Event.TheVariants.{Look}
use Rattle.nm_model.specs.declared.reply.Reply.{Reply}
use Rattle.nm_model.specs.declared.arrivals.Call.{Call}
use Rattle.nm_model.specs.declared.arrivals.Arrival.{Arrival}
use Rattle.nm_model.specs.Knowledge.{Knowledge}
use Rattle.nm_model.specs.Learning.{learn}
use Rattle.nm_model.specs.Runs.{State, of}
use Rattle.nm_model.specs.Searches.{Search, idle, searched, walked, look_for, later_walked}
use Rattle.nm_model.specs.Walks.{GrowsTo, begins_anew, search_after}
use Rattle.nm_model.specs.Ordered.{search_of}
use Rattle.nm_laws.proofs.Steps.{allowed}
use Rattle.nm_laws.proofs.SearchesGrow.{only_grow}
use Rattle.nm_laws.proofs.TreeSteps.{Lawful}
use Rattle.nm_laws.proofs.Configurations.{allowed_by_state}
use Rattle.nm_order.specs.Logs.{known_by}
use Rattle.nm_order.specs.Facts.{Since, Fact, Arrived, arrivals, HoldsIn, Holds, IsTrueIn, FactsStay}
use Rattle.nm_order.specs.Facts.Since.{ThePin, TheFlag}
use Rattle.nm_order.specs.Facts.Fact.{IsPinned, KnowsSlot, KnowsLeaf, IsTagged, IsFlagged, IsFrozen, IsBorn, CallIs, Came, ReadKey, EndedAt}
use Rattle.nm_order.proofs.OrderedLaws.{law_of_state}
use Rattle.nm_order.proofs.LastEntries.{known_more, search_more, PartOf, LastEntry, last_entry}
use Rattle.nm_order.proofs.LastEntries.PartOf.{Own, Resigns}
use Rattle.nm_order.proofs.KnowledgeStays.{Answers, Stays, NullsStand, learned_stays, leaf_stays, answers}
use Rattle.nm_order.proofs.CallWalks.{GoesOn, goes_on_so}
use Rattle.nm_order.proofs.CallWalks.GoesOn.{Same, Looked}
use Rattle.nm_order.proofs.FactLaws.{AllKept, all_kept, true_in, told_holds}

-- ---- arrivals stay

-- each arrival of a list has one in another that it grew to
abbrev Among : List Arrival → List Arrival → Type 0
Among xs ys = (a : Arrival) → Contains xs a → (b : Arrival) × Contains ys b × GrowsTo a b

as_was : (xs : List Arrival) → Among xs xs
as_was xs a there = (a, there, record { slot = refl; parent = refl; side = refl; key = λ v is. is; ended = λ is. is })

-- the walks since the flag take a look as all walks do
looked_since : (s : Search) (x : ℕ) (f : Field) (r : Reply) (c : Call) → s.call ≡ Some c
    → Among s.later (walked c.key s.later x f r)
unfolding searched
looked_since s x f r c is = subst (λ (o : Option Call). Among s.later
    (look_for (record s { walks = s.later }) o x f r).walks) is
    (only_grow (record s { walks = s.later }) (Look x f) r refl).walks

later_stays : (s : Search) (e : Event) (r : Reply) → begins_anew (e, r) ≡ false → Among s.later (searched s e r).later
later_stays s e r stands = go (goes_on_so s e r stands)
  where
    go : GoesOn s e r (searched s e r) → Among s.later (searched s e r).later
    go (Same call walks later) = rw later (as_was s.later)
    go (Looked x f is becomes) = rw becomes (by s.call refl)
      where
        by : (o : Option Call) → s.call ≡ o → Among s.later (look_for s o x f r).later
        by None at = as_was s.later
        by (Some c) at = since s.flagged
          where
            since : (n : Option NodeId) → Among s.later (later_walked n c.key s.later x f r)
            since None = as_was s.later
            since (Some n) = looked_since s x f r c at

arrivals_stay : (s : Search) (e : Event) (r : Reply) → begins_anew (e, r) ≡ false → (since : Since)
    → Among (arrivals s since) (arrivals (searched s e r) since)
arrivals_stay s e r stands ThePin = (only_grow s e r stands).walks
arrivals_stay s e r stands TheFlag = later_stays s e r stands

-- ---- facts stay

module _ (s : State) (w : ℕ) (S : Search) (l : Knowledge) (T : Search) (stays : Stays s.memory (of s w) l)
    (call : T.call ≡ S.call) (walks : (since : Since) → Among (arrivals S since) (arrivals T since))
    (nulls : NullsStand s.memory (of s w)) where
  record Follows (since : Since) (k x p : ℕ) (d : Side) (a : Arrived S since k x p d) : Type 0 where
    now : Arrived T since k x p d
    key : (n : ℕ) → a.arrival.key ≡ Some n → now.arrival.key ≡ Some n
    ended : a.arrival.ended ≡ true → now.arrival.ended ≡ true

  follows : (since : Since) (k x p : ℕ) (d : Side) (a : Arrived S since k x p d) → Follows since k x p d a
  follows since k x p d a =
      let b = walks since a.arrival a.among in
      record {
        now = record {
          call = a.call;
          is_call = call ∙ a.is_call;
          is_for = a.is_for;
          arrival = b.0;
          among = b.1;
          is_slot = b.2.slot ∙ a.is_slot;
          is_parent = b.2.parent ∙ a.is_parent;
          is_side = b.2.side ∙ a.is_side;
        };
        key = λ n is. b.2.key n is;
        ended = λ is. b.2.ended is;
      }

  held_still : (fact : Fact) → HoldsIn (of s w) S fact → IsTrueIn s w fact → HoldsIn l T fact
  held_still (IsPinned epoch) holds is = stays.pin ∙ holds
  held_still (KnowsSlot x) holds is = stays.known x holds
  held_still (KnowsLeaf x) holds is = leaf_stays s.memory (of s w) l nulls stays x holds
  held_still (IsTagged x d to) holds is = elim (stays.reads x d) [
    | inl same ↦ (holds.0, same ∙ holds.1, holds.2, holds.3)
    | inr new ↦ (new.0, new.1, new.2.tag is.0, new.2.slot ∙ is.1)
  ]
  held_still (IsFlagged x d to) holds is = elim (stays.reads x d) [
    | inl same ↦ (holds.0, same ∙ holds.1, holds.2, holds.3)
    | inr new ↦ (new.0, new.1, new.2.flag is.0, new.2.slot ∙ is.1)
  ]
  held_still (IsFrozen x d e) holds is = elim (stays.reads x d) [
    | inl same ↦ (same ∙ holds.0, holds.1)
    | inr new ↦ (new.1 ∙ ap Some (new.2.frozen (ap (λ (y : Edge). y.tag) is.0 ∙ is.1) ∙ is.0), holds.1)
  ]
  held_still (IsBorn x b) holds is = elim (stays.births x) [
    | inl same ↦ same ∙ holds
    | inr new ↦ new ∙ ap Some is
  ]
  held_still (CallIs op k) holds is = call ∙ holds
  held_still (Came since k x p d) holds is = (follows since k x p d holds).now
  held_still (ReadKey since k x p d n) holds is = let f = follows since k x p d holds.0 in (f.now, f.key n holds.1)
  held_still (EndedAt since k x p d n) holds is = let f = follows since k x p d holds.0 in
      (f.now, f.key n holds.1, f.ended holds.2)

pub facts_stay : FactsStay
facts_stay L enough w log entry l stands fact holds = go (last_entry L enough w log entry l)
  where
    go : LastEntry L w log entry → Holds L w (log ++ entry ∷ []) fact
    go last =
        let o = last.told.is_ordered in
        let law = law_of_state L enough last.before o in
        let before = told_holds L w log last.before last.told fact holds in
        let known : learn w (of last.before.state w) entry.0 entry.1
        ≡ known_by L w (log ++ entry ∷ []) = ap (λ (k : Knowledge). learn w k entry.0 entry.1) last.told.knows
        ∙ sym (known_more w _ log entry) in
        let search : searched (search_of o.searches w) entry.0 entry.1
        ≡ search_after idle (log ++ entry ∷ []) = ap (λ (s : Search). searched s entry.0 entry.1)
        last.told.search ∙ sym (search_more idle log entry) in
        subst (λ (k : Knowledge). HoldsIn k (search_after idle (log ++ entry ∷ [])) fact) known
        (subst (λ (s : Search). HoldsIn (learn w (of last.before.state w) entry.0 entry.1) s fact) search
        (held_still last.before.state w (search_of o.searches w) (learn w (of last.before.state w) entry.0 entry.1)
        (searched (search_of o.searches w) entry.0 entry.1)
        (learned_stays last.before.state.memory (of last.before.state w) w entry.0 entry.1 is_answered stands)
        (only_grow (search_of o.searches w) entry.0 entry.1 stands).call
        (arrivals_stay (search_of o.searches w) entry.0 entry.1 stands) (law.1.tree.null_read w) fact before
        (true_in L enough last.before o w (kept o.searches o.are w) fact before)))
      where
        kept : AllKept last.before
        kept = subst AllKept last.leads (all_kept L enough last.turns last.keys)

        is_answered : Answers last.before.state.memory entry.0 entry.1
        is_answered = by last.takes
          where
            law : (h : ℕ → ℕ) × Lawful last.before.state h
            law = law_of_state L enough last.before last.told.is_ordered

            by : PartOf w last.by entry.0 → Answers last.before.state.memory entry.0 entry.1
            by (Own is) = subst (λ (r : Reply). Answers last.before.state.memory entry.0 r) last.replied
                (answers last.before.state law.0 law.1 last.by entry.0
                (allowed last.before.state last.by entry.0 (allowed_by_state last.before last.by entry.0
                last.is_allowed)))
            by (Resigns v is) = subst (λ (e : Event). Answers last.before.state.memory e entry.1) (sym is) tt
