-- Over a whole ordered run: an answer that changes nothing was right at a moment since the pin of
-- its call.
use Rattle.std.proofs.Common.{◌≡◌, ℕ, ◌≤◌, ◌==◌, Bool, true, false, not, List, [], refl, sym, ap, subst, ◌∙◌, arith, true≢false}
use Rattle.std.specs.Prelude.{Option, Some, is_none, slice_get, All}
use Rattle.std.specs.List.{list_any}
use Rattle.std.proofs.lemmas.Bool.{and_parts, eq-eqb, not-true}
use Rattle.std.proofs.lemmas.Option.{same_Some}
use Rattle.nm_edge.specs.Layouts.{Layout}
use Rattle.nm_model.specs.declared.event.Op.{Op}
use Rattle.nm_model.specs.declared.event.Op.TheVariants.{Has, Insert, Delete}
use Rattle.nm_model.specs.declared.event.Event.{Event}
use Rattle.nm_model.specs.declared.arrivals.Arrival.{Arrival}
use Rattle.nm_model.specs.Maps.{is_number}
use Rattle.nm_model.specs.Searches.{Search}
use Rattle.nm_model.specs.Walks.{log_of, since_pin, IsOfWalk}
use Rattle.nm_model.specs.Ordered.{ordered, ended_at, ended_beside, shows, after_in, trace_in}
use Rattle.nm_model.specs.Acts.{InSet, Gives}
use Rattle.nm_order.specs.Intervals.{HasKey, IsCalled}
use Rattle.nm_order.specs.Moments.{OfEachOrderedRun}
use Rattle.nm_order.specs.WalkAnswers.{WasSoUnderPin}
use Rattle.nm_order.specs.Legal.{changes, WasLegal, OtherAnswersWereLegal}
use Rattle.nm_model.proofs.Lists.{any_at}
use Rattle.nm_model.proofs.Numbers.{number_is}
use Rattle.nm_order.proofs.RunWalks.{walk_of, of_key, called_then}
use Rattle.nm_order.proofs.WalkTells.{any_walk_tells}
use Rattle.nm_order.proofs.OwnTurns.{own_search}
use Rattle.nm_order.proofs.RunExchanges.{shown}

module _ (L : Layout) (enough : 5 ≤ L.nodes) (turns : List (ℕ × Event)) (keys : All (λ t. HasKey t.1) turns) (w : ℕ)
    (op : Op) (k : ℕ) (called : IsCalled (after_in (ordered L) turns) w op k) where
  -- what an arrival that has ended tells
  told : (i : ℕ) (a : Arrival) → slice_get (own_search (after_in (ordered L) turns) w).walks i ≡ Some a
      → a.ended ≡ true → (n : ℕ) × (a.key ≡ Some n) × WasSoUnderPin L turns w k (n == k)
  told i a at done =
      let walk : IsOfWalk k (since_pin [] (log_of w (trace_in (ordered L) turns))) a = walk_of L enough turns keys w
      op k called i a at in
      let e = walk.ends done in
      let small = of_key L enough turns keys w op k called in
      (e.0, e.1, any_walk_tells L enough turns keys w k a.slot a.parent a.side e.0 (omega (arith, small)) e.2)

  legal : (b answer : Bool) (t : WasSoUnderPin L turns w k b)
      → Gives (InSet (after_in (ordered L) t.before).state.memory) op k answer → WasLegal L turns w op k answer
  legal b answer t gives = record {
    before = t.before;
    since = t.since;
    is_run = t.is_run;
    called = called_then L enough turns keys w op k called t.before t.since t.is_run t.stands;
    stands = t.stands;
    gives = gives;
  }

  -- a walk ended at a leaf with the key
  found : list_any (ended_at k) (own_search (after_in (ordered L) turns) w).walks ≡ true
      → WasSoUnderPin L turns w k true
  found any =
      let b = any_at (ended_at k) (own_search (after_in (ordered L) turns) w).walks any in
      let parts = and_parts b.1.ended (is_number b.1.key k) b.3 in
      let t = told b.0 b.1 b.2 parts.0 in
      let same : t.0 ≡ k = same_Some t.0 k (sym t.1 ∙ number_is b.1.key k parts.1) in
      subst (WasSoUnderPin L turns w k) (eq-eqb t.0 k same) t.2

  -- a walk ended at a leaf with another key
  beside : list_any (ended_beside k) (own_search (after_in (ordered L) turns) w).walks ≡ true
      → WasSoUnderPin L turns w k false
  beside any =
      let b = any_at (ended_beside k) (own_search (after_in (ordered L) turns) w).walks any in
      let parts = and_parts b.1.ended (not (is_number b.1.key k)) b.3 in
      let t = told b.0 b.1 b.2 parts.0 in
      subst (WasSoUnderPin L turns w k) (not-true (t.0 == k)
      (ap (λ (o : Option ℕ). not (is_number o k)) (sym t.1) ∙ parts.1)) t.2

  unchanged : (answer : Bool) → changes op answer ≡ false
      → shows (own_search (after_in (ordered L) turns) w) op k answer ≡ true → WasLegal L turns w op k answer
  unchanged = by op refl
    where
      S : Search
      S = own_search (after_in (ordered L) turns) w

      by : (o : Op) → op ≡ o → (answer : Bool) → changes o answer ≡ false
          → shows (own_search (after_in (ordered L) turns) w) o k answer ≡ true → WasLegal L turns w op k answer
      by Has is true plain seen = let l = found seen in
          legal true true l (subst (λ (o : Op). Gives (InSet (after_in (ordered L) l.before).state.memory) o k true)
          (sym is) l.gives)
      by Has is false plain seen = let b = beside seen in
          legal false false b (subst (λ (o : Op). Gives (InSet (after_in (ordered L) b.before).state.memory) o k false)
          (sym is) b.gives)
      by Insert is true plain seen = absurd (true≢false plain)
      by Insert is false plain seen =
          let l = found (and_parts (list_any (ended_at k) S.walks) (not S.linked) seen).0 in
          legal true false l (subst (λ (o : Op). Gives (InSet (after_in (ordered L) l.before).state.memory) o k
          false) (sym is) l.gives)
      by Delete is true plain seen = absurd (true≢false plain)
      by Delete is false plain seen =
          let b = beside (and_parts (list_any (ended_beside k) S.walks) (is_none S.flagged) seen).0 in
          legal false false b (subst (λ (o : Op). Gives (InSet (after_in (ordered L) b.before).state.memory) o k
          false) (sym is) b.gives)

pub each_other_answer : OfEachOrderedRun OtherAnswersWereLegal
each_other_answer L enough turns keys w op k answer may plain = unchanged L enough turns keys w op k may.called
    answer plain (shown L enough turns keys w op k answer may)
