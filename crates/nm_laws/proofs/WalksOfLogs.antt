-- Each arrival that a search knows is one of a walk in the log since the pin.
use Rattle.std.proofs.Common.{◌≡◌, ◌≢◌, inl, inr, ℕ, zero, suc, ◌==◌, true, false, cond, ◌&&◌, ◌||◌, List, [], ◌∷◌, ◌++◌, map, append_assoc, true≢false, refl, sym, subst, ◌∙◌, arith}
use Rattle.std.specs.Prelude.{Option, Some, None, is_none, All}
use Rattle.std.specs.List.{list_any}
use Rattle.std.proofs.lemmas.Bool.{cond_both, eqb-true, eqb-false, and_parts, or_cases}
use Rattle.std.proofs.lemmas.Option.{none-some, same_Some}
use Rattle.nm_edge.specs.Edges.{Edge}
use Rattle.nm_edge.specs.declared.edge.Side.{Side}
use Rattle.nm_edge.specs.declared.edge.Side.TheVariants.{Left, Right}
use Rattle.nm_model.specs.declared.event.Field.{Field}
use Rattle.nm_model.specs.declared.event.Field.TheVariants.{Key, Edge as EdgeOn}
use Rattle.nm_model.specs.declared.event.Event.{Event}
use Rattle.nm_model.specs.declared.event.Event.TheVariants.{Sight, SightFor, Leave, LeaveWith, Look, Link, Flag, Splice, Swap}
use Rattle.nm_model.specs.declared.reply.Reply.{Reply}
use Rattle.nm_model.specs.declared.reply.Reply.TheVariants.{Pinned, Departed, KeyIs, EdgeIs, Linked, Flagged, Cut}
use Rattle.nm_model.specs.declared.arrivals.Call.{Call}
use Rattle.nm_model.specs.declared.arrivals.Arrival.{Arrival}
use Rattle.nm_model.specs.Searches.{Search, idle, side_of, is_side, turns, is_by, goes_on, is_first, new_arrival, with_arrival, keyed, ended, walk_edge, walked, look_for, searched}
use Rattle.nm_model.specs.Walks.{Entry, IsPart, WalkComes, WalkReads, IsOfWalk, search_after, begins_anew, since_pin, ArrivalsAreWalks}
use Rattle.nm_model.specs.Walks.IsPart.{nothing, takes, skips}
use Rattle.nm_model.specs.Walks.Leads.{begins, leads_on}

-- of each element, one by one
abbrev Each : {X : Type 0} → (X → Type 0) → List X → Type 0
Each P [] = Unit {0}
Each P (x ∷ xs) = P x × Each P xs

each_all : {X : Type 0} (P : X → Type 0) (xs : List X) → Each P xs → All P xs
each_all P [] each i d below = absurd (omega (arith, below))
each_all P (x ∷ xs) each zero d below = each.0
each_all P (x ∷ xs) each (suc i) d below = each_all P xs each.1 i d (omega (arith, below))

-- ---- parts of a log that grows

part_more : {xs ys : List Entry} (e : Entry) → IsPart xs ys → IsPart xs (ys ++ e ∷ [])
part_more e nothing = skips nothing
part_more e (takes p) = takes (part_more e p)
part_more e (skips p) = skips (part_more e p)

part_end : {xs ys : List Entry} (e : Entry) → IsPart xs ys → IsPart (xs ++ e ∷ []) (ys ++ e ∷ [])
part_end e nothing = takes nothing
part_end e (takes p) = takes (part_end e p)
part_end e (skips p) = skips (part_end e p)

module _ (k : ℕ) (log : List Entry) (e : Entry) where
  more : (a : Arrival) → IsOfWalk k log a → IsOfWalk k (log ++ e ∷ []) a
  more a w = record {
    comes = record { looks = w.comes.looks; leads = w.comes.leads; is_part = part_more e w.comes.is_part };
    reads = λ v is. let r = w.reads v is in
        record { looks = r.looks; leads = r.leads; is_part = part_more e r.is_part };
    ends = λ is. let r = w.ends is in (
      r.0,
      r.1,
      record {
        looks = r.2.looks;
        leads = r.2.leads;
        null = r.2.null;
        is_null = r.2.is_null;
        is_part =
            part_more e r.2.is_part;
      },
    );
  }

  all_more : (ws : List Arrival) → Each (IsOfWalk k log) ws → Each (IsOfWalk k (log ++ e ∷ [])) ws
  all_more [] all = tt
  all_more (a ∷ ws) all = (more a all.0, all_more ws all.1)

-- ---- a look at a key

module _ (k : ℕ) (log : List Entry) (slot v : ℕ) where
  abbrev key_look : Entry
  key_look = (Look slot Key, KeyIs v)

  with_key : (a : Arrival) → a.slot ≡ slot → a.key ≡ None → IsOfWalk k log a
      → IsOfWalk k (log ++ key_look ∷ []) (record a { key = Some v })
  with_key a at none w = record {
    comes = record { looks = w.comes.looks; leads = w.comes.leads; is_part = part_more key_look w.comes.is_part };
    reads = λ u is. record {
      looks = w.comes.looks;
      leads = w.comes.leads;
      is_part = subst (λ (f : Entry). IsPart (w.comes.looks ++ f ∷ []) (log ++ key_look ∷ []))
          (λ i. (Look (sym at i) Key, KeyIs (same_Some v u is i))) (part_end key_look w.comes.is_part);
    };
    ends = λ is. let r = w.ends is in absurd (none-some r.0 (sym none ∙ r.1));
  }

  key_read : (a : Arrival) → IsOfWalk k log a → IsOfWalk k (log ++ key_look ∷ []) (keyed slot v a)
  key_read a w = cond_both ((a.slot == slot) && is_none a.key) (record a { key = Some v }) a
      (IsOfWalk k (log ++ key_look ∷ []))
      (λ both. let parts = and_parts (a.slot == slot) (is_none a.key) both in
      with_key a (eqb-true a.slot slot parts.0) (is_none_none a.key parts.1) w)
      (λ _. more k log key_look a w)
    where
      is_none_none : (o : Option ℕ) → is_none o ≡ true → o ≡ None
      is_none_none None is = refl
      is_none_none (Some n) is = absurd (true≢false (sym is))

  keys_read : (ws : List Arrival) → Each (IsOfWalk k log) ws
      → Each (IsOfWalk k (log ++ key_look ∷ [])) (map (keyed slot v) ws)
  keys_read [] all = tt
  keys_read (a ∷ ws) all = (key_read a all.0, keys_read ws all.1)

-- ---- a look at an edge

same_side : (d e : Side) → is_side d e ≡ true → d ≡ e
same_side Left Left is = refl
same_side Right Right is = refl
same_side Left Right is = absurd (true≢false (sym is))
same_side Right Left is = absurd (true≢false (sym is))

-- where a walk goes on by a side, its key is known, and that is the side
pub turned : (k : ℕ) (o : Option ℕ) (side : Side) → turns k o side ≡ true
    → (v : ℕ) × (o ≡ Some v) × (side_of k v ≡ side)
turned k None side is = absurd (true≢false (sym is))
turned k (Some v) side is = (v, refl, same_side (side_of k v) side is)

module _ (k : ℕ) (log : List Entry) (slot : ℕ) (side : Side) (e : Edge) where
  abbrev edge_look : Entry
  edge_look = (Look slot (EdgeOn side), EdgeIs e)

  -- a walk that waits at the slot with its key, and the look at its edge
  both_looks : (a : Arrival) (v : ℕ) → a.slot ≡ slot → side_of k v ≡ side
      → (r : WalkReads k log a.slot a.parent a.side v)
      → IsPart (r.looks ++ (Look a.slot Key, KeyIs v) ∷ (Look a.slot (EdgeOn (side_of k v)), EdgeIs e) ∷ [])
      (log ++ edge_look ∷ [])
  both_looks a v at turn r =
      subst (λ (f : Entry). IsPart (r.looks ++ (Look a.slot Key, KeyIs v) ∷ f ∷ []) (log ++ edge_look ∷ []))
      (λ i. (Look (sym at i) (EdgeOn (sym turn i)), EdgeIs e))
      (subst (λ (fs : List Entry). IsPart fs (log ++ edge_look ∷ []))
      (append_assoc r.looks ((Look a.slot Key, KeyIs v) ∷ []) (edge_look ∷ [])) (part_end edge_look r.is_part))

  ending : e.slot ≡ 0 → (a : Arrival) → IsOfWalk k log a → IsOfWalk k (log ++ edge_look ∷ []) (ended k slot side a)
  ending null a w = cond_both (goes_on k slot side a) (record a { ended = true }) a (IsOfWalk k (log ++ edge_look ∷ []))
      (λ both.
      let parts = and_parts (a.slot == slot) (turns k a.key side) both in
      let turn = turned k a.key side parts.1 in
      let r = w.reads turn.0 turn.1 in
      let old = more k log edge_look a w in
      record {
        comes = old.comes;
        reads = old.reads;
        ends = λ is. (
          turn.0,
          turn.1,
          record {
            looks = r.looks;
            leads = r.leads;
            null = e;
            is_null = null;
            is_part =
                both_looks a turn.0 (eqb-true a.slot slot parts.0) turn.2 r;
          },
        );
      })
      (λ _. more k log edge_look a w)

  endings : e.slot ≡ 0 → (ws : List Arrival) → Each (IsOfWalk k log) ws
      → Each (IsOfWalk k (log ++ edge_look ∷ [])) (map (ended k slot side) ws)
  endings null [] all = tt
  endings null (a ∷ ws) all = (ending null a all.0, endings null ws all.1)

  -- the new arrival
  arriving : WalkComes k (log ++ edge_look ∷ []) e.slot slot side
      → IsOfWalk k (log ++ edge_look ∷ []) (new_arrival e.slot slot side)
  arriving comes = record {
    comes = comes;
    reads = λ v is. absurd (none-some v is);
    ends = λ is. absurd
        (true≢false (sym is));
  }

  first_comes : e.slot ≢ 0 → is_first slot side ≡ true → WalkComes k (log ++ edge_look ∷ []) e.slot slot side
  first_comes there is =
      let parts = and_parts (slot == 2) (is_side side Left) is in
      subst (λ (d : Side). WalkComes k (log ++ edge_look ∷ []) e.slot slot d) (sym (same_side side Left parts.1))
      (subst (λ (x : ℕ). WalkComes k (log ++ edge_look ∷ []) e.slot x Left) (sym (eqb-true slot 2 parts.0))
      (record {
        looks = (Look 2 (EdgeOn Left), EdgeIs e) ∷ [];
        leads = begins e there;
        is_part = subst (λ (f : Entry). IsPart (f ∷ []) (log ++ edge_look ∷ []))
            (λ i. (Look (eqb-true slot 2 parts.0 i) (EdgeOn (same_side side Left parts.1 i)), EdgeIs e))
            (last_alone log);
      }))
    where
      last_alone : (log : List Entry) → IsPart (edge_look ∷ []) (log ++ edge_look ∷ [])
      last_alone [] = takes nothing
      last_alone (f ∷ fs) = skips (last_alone fs)

  next_comes : e.slot ≢ 0 → (a : Arrival) → goes_on k slot side a ≡ true → IsOfWalk k log a
      → WalkComes k (log ++ edge_look ∷ []) e.slot slot side
  next_comes there a is w =
      let parts = and_parts (a.slot == slot) (turns k a.key side) is in
      let at = eqb-true a.slot slot parts.0 in
      let turn = turned k a.key side parts.1 in
      let r = w.reads turn.0 turn.1 in
      subst (λ (d : Side). WalkComes k (log ++ edge_look ∷ []) e.slot slot d) turn.2
      (subst (λ (x : ℕ). WalkComes k (log ++ edge_look ∷ []) e.slot x (side_of k turn.0)) at
      (record {
        looks = r.looks ++ (Look a.slot Key, KeyIs turn.0) ∷ (Look a.slot (EdgeOn (side_of k turn.0)), EdgeIs e) ∷ [];
        leads = leads_on r.leads turn.0 e there;
        is_part = both_looks a turn.0 at turn.2 r;
      }))

  any_comes : e.slot ≢ 0 → (ws : List Arrival) → Each (IsOfWalk k log) ws → list_any (goes_on k slot side) ws ≡ true
      → WalkComes k (log ++ edge_look ∷ []) e.slot slot side
  any_comes there [] all is = absurd (true≢false (sym is))
  any_comes there (a ∷ ws) all is = elim (or_cases (goes_on k slot side a) (list_any (goes_on k slot side) ws) is) [
    | inl here ↦ next_comes there a here all.0
    | inr later ↦ any_comes there ws all.1 later
  ]

  all_and : (ws : List Arrival) (a : Arrival) → Each (IsOfWalk k (log ++ edge_look ∷ [])) ws
      → IsOfWalk k (log ++ edge_look ∷ []) a → Each (IsOfWalk k (log ++ edge_look ∷ [])) (ws ++ a ∷ [])
  all_and [] a all new = (new, tt)
  all_and (b ∷ ws) a all new = (all.0, all_and ws a all.1 new)

  entered : (ws : List Arrival) → Each (IsOfWalk k log) ws → WalkComes k (log ++ edge_look ∷ []) e.slot slot side
      → Each (IsOfWalk k (log ++ edge_look ∷ [])) (with_arrival ws e.slot slot side)
  entered ws all comes = cond_both (list_any (is_by e.slot slot side) ws) ws
      (ws ++ new_arrival e.slot slot side ∷ []) (Each (IsOfWalk k (log ++ edge_look ∷ [])))
      (λ _. all_more k log edge_look ws all) (λ _. all_and ws (new_arrival e.slot slot side)
      (all_more k log edge_look ws all) (arriving comes))

  not_null : (e.slot == 0) ≡ false → e.slot ≢ 0
  not_null is = eqb-false e.slot 0 is

  edge_read : (ws : List Arrival) → Each (IsOfWalk k log) ws
      → Each (IsOfWalk k (log ++ edge_look ∷ [])) (walk_edge k ws slot side e.slot)
  edge_read ws all = cond_both (e.slot == 0) (map (ended k slot side) ws)
      (cond (is_first slot side || list_any (goes_on k slot side) ws) (with_arrival ws e.slot slot side) ws)
      (Each (IsOfWalk k (log ++ edge_look ∷ [])))
      (λ null. endings (eqb-true e.slot 0 null) ws all)
      (λ there. cond_both (is_first slot side || list_any (goes_on k slot side) ws)
      (with_arrival ws e.slot slot side) ws (Each (IsOfWalk k (log ++ edge_look ∷ [])))
      (λ on. entered ws all (elim (or_cases (is_first slot side) (list_any (goes_on k slot side) ws) on) [
        | inl first ↦ first_comes (not_null there) first
        | inr some ↦ any_comes (not_null there) ws all some
      ]))
      (λ _. all_more k log edge_look ws all))

-- ---- any look

look_read : (k : ℕ) (log : List Entry) (ws : List Arrival) (slot : ℕ) (f : Field) (r : Reply)
    → Each (IsOfWalk k log) ws → Each (IsOfWalk k (log ++ (Look slot f, r) ∷ [])) (walked k ws slot f r)
look_read k log ws slot Key (KeyIs v) all = keys_read k log slot v ws all
look_read k log ws slot (EdgeOn side) (EdgeIs e) all = edge_read k log slot side e ws all
look_read k log ws slot f r all = all_more k log (Look slot f, r) ws all

-- ---- a whole log

-- what a search knows after a part of a log
abbrev KnowsWalks : Search → List Entry → Type 0
KnowsWalks s so_far = (c : Call) → s.call ≡ Some c → Each (IsOfWalk c.key so_far) s.walks

looks_on : (s : Search) (so_far : List Entry) (slot : ℕ) (f : Field) (r : Reply) → KnowsWalks s so_far
    → KnowsWalks (look_for s s.call slot f r) (so_far ++ (Look slot f, r) ∷ [])
looks_on s so_far slot f r knows c = go s.call refl
  where
    go : (o : Option Call) → s.call ≡ o → (look_for s o slot f r).call ≡ Some c
        → Each (IsOfWalk c.key (so_far ++ (Look slot f, r) ∷ [])) (look_for s o slot f r).walks
    go None at is = all_more c.key so_far (Look slot f, r) s.walks (knows c is)
    go (Some d) at is =
        let same : d ≡ c = same_Some d c (sym at ∙ is) in
        subst (λ (b : Call). Each (IsOfWalk c.key (so_far ++ (Look slot f, r) ∷ [])) (walked b.key s.walks slot f r))
        (sym same) (look_read c.key so_far s.walks slot f r (knows c is))

one_more : (s : Search) (so_far : List Entry) (e : Event) (r : Reply) → KnowsWalks s so_far
    → KnowsWalks (searched s e r) (cond (begins_anew (e, r)) [] (so_far ++ (e, r) ∷ []))
unfolding searched
one_more s so_far Sight (Pinned n) knows c is = tt
one_more s so_far (SightFor op key) (Pinned n) knows c is = tt
one_more s so_far Leave Departed knows c is = tt
one_more s so_far (LeaveWith answer) Departed knows c is = tt
one_more s so_far (Look slot f) r knows c is = looks_on s so_far slot f r knows c is
one_more s so_far (Link p side leaf new) (Linked n) knows c is = all_more c.key so_far
    (Link p side leaf new, Linked n) s.walks (knows c is)
one_more s so_far (Flag p side leaf) (Flagged n) knows c is = all_more c.key so_far (Flag p side leaf, Flagged n)
    s.walks (knows c is)
one_more s so_far (Splice a side x p keep) (Cut ns) knows c is = all_more c.key so_far
    (Splice a side x p keep, Cut ns) s.walks (knows c is)
one_more s so_far (Swap p side leaf new) (Cut ns) knows c is =
    all_more c.key so_far (Swap p side leaf new, Cut ns) s.walks (knows c is)
one_more s so_far e r knows c is = all_more c.key so_far (e, r) s.walks (knows c is)

all_known : (log : List Entry) (s : Search) (so_far : List Entry) → KnowsWalks s so_far
    → KnowsWalks (search_after s log) (since_pin so_far log)
all_known [] s so_far knows = knows
all_known (e ∷ es) s so_far knows = all_known es (searched s e.0 e.1) (cond (begins_anew e) [] (so_far ++ e ∷ []))
    (one_more s so_far e.0 e.1 knows)

pub arrivals_are_walks : ArrivalsAreWalks
arrivals_are_walks log c is = each_all (IsOfWalk c.key (since_pin [] log)) (search_after idle log).walks
    (all_known log idle [] (λ c is. tt) c is)
