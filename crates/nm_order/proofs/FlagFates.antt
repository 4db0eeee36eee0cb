-- In every ordered run: a leaf that a call flagged is reached still, and then the walks that began
-- after the flag can end nowhere else; or it was cut since the flag.
use Rattle.std.proofs.Common.{◌≡◌, ◌≢◌, ℕ, suc, ◌≤◌, inl, inr, ◌⊎◌, ◌==◌, Bool, true, false, cond, ◌||◌, not, List, [], ◌∷◌, ◌++◌, append_assoc, refl, sym, ap, subst, ◌∙◌, arith, true≢false, get_or-set_same, get_or-set_other}
use native.Mathlib.Decide.{ℕ_discrete}
use Rattle.std.specs.Prelude.{Option, Some, None, option_map, unwrap_or, Result, Ok, slice_get, Contains, All}
use Rattle.std.specs.List.{list_any}
use Rattle.std.proofs.lemmas.Bool.{eqb-true, eq-eqb, and_parts, or_parts, or_cases}
use Rattle.std.proofs.lemmas.Option.{none-some, same_Some, slice_get_within, get_or_from_slice_get}
use Rattle.nm_edge.specs.Layouts.{Layout}
use Rattle.nm_edge.specs.Ranges.{covers}
use Rattle.nm_edge.specs.declared.edge.Side.{Side}
use Rattle.nm_edge.specs.declared.edge.Side.TheVariants.{Left, Right}
use Rattle.nm_edge.specs.declared.node.NodeId.{NodeId}
use Rattle.nm_model.specs.declared.event.Op.TheVariants.{Delete}
use Rattle.nm_model.specs.declared.event.Event.{Event}
use Rattle.nm_model.specs.declared.event.Event.TheVariants.{Flag, Splice}
use Rattle.nm_model.specs.declared.reply.Reply.{Reply}
use Rattle.nm_model.specs.declared.reply.Reply.TheVariants.{Flagged, Cut}
use Rattle.nm_model.specs.declared.reply.Refused.{Refused}
use Rattle.nm_model.specs.declared.arrivals.Call.{Call}
use Rattle.nm_model.specs.declared.arrivals.Arrival.{Arrival}
use Rattle.nm_model.specs.Memory.{Memory, node, named, child, is_leaf}
use Rattle.nm_model.specs.Knowledge.{knows}
use Rattle.nm_model.specs.Paths.{follow, Reached}
use Rattle.nm_model.specs.Step.{write}
use Rattle.nm_model.specs.Laws.{slots_of}
use Rattle.nm_model.specs.Runs.{State, of, refused, reply_of, applied}
use Rattle.nm_model.specs.Searches.{Search, idle, searched, is_node, is_flagged_in}
use Rattle.nm_model.specs.Walks.{begins_anew}
use Rattle.nm_model.specs.Ordered.{Configuration, ordered, search_of, learned_from, has_removed, ended_elsewhere, refused_in, applied_in, next_in, outcome_in, after_in, trace_in, disorder, disorder_in}
use Rattle.nm_model.proofs.Lists.{any_at}
use Rattle.nm_model.proofs.Numbers.{repeated}
use Rattle.nm_laws.proofs.Steps.{Allowed, allowed}
use Rattle.nm_laws.proofs.SearchesGrow.{only_grow, look_beside, begun_is, search_goes}
use Rattle.nm_laws.proofs.Configurations.{after_in-append, refused_next, allowed_next, allowed_outcome}
use Rattle.nm_laws.proofs.Outcomes.{same_reply}
use Rattle.nm_order.specs.Intervals.{HasKey, IsCalled, InInterval, Marks, key}
use Rattle.nm_order.specs.Moments.{OfEachOrderedRun, PinStands}
use Rattle.nm_order.specs.Exchanges.{MayAnswer, HasFlagged}
use Rattle.nm_order.specs.Removals.{HasWonDelete, TrueDeletesHaveDeleted}
use Rattle.nm_order.specs.Facts.Since.{TheFlag}
use Rattle.nm_order.proofs.OrderedLaws.{IsOrdered, neither, ordered_next, each_ordered, law_of_state, has_child, keys_lie, one_leaf_for}
use Rattle.nm_order.proofs.OrderedInduction.{IsKept, each_run_keeps}
use Rattle.nm_order.proofs.OrderedMoments.{Lasting, lasting, call_walks}
use Rattle.nm_order.proofs.OnwardSlots.{EachOnward, EachNow}
use Rattle.nm_order.proofs.RunMoments.{entries, stands_behind, allowed_entries}
use Rattle.nm_order.proofs.OwnTurns.{own_search, OwnTurn, own_turn, stands_parts}
use Rattle.nm_order.proofs.OwnTurns.OwnTurn.{Quiet, Own}
use Rattle.nm_order.proofs.OwnFlags.{each_flag_marks}
use Rattle.nm_order.proofs.RunExchanges.{first_keys, is_own_call, shown}
use Rattle.nm_order.proofs.FactLaws.{all_kept, leaf_is}
use Rattle.nm_order.proofs.CallWalks.{WalksKept, shape_after}
use Rattle.nm_order.proofs.FlaggedLeaves.{FlagStep, flag_step, anew_unflagged}
use Rattle.nm_order.proofs.FlaggedLeaves.FlagStep.{SameFlag, NewFlag}
use Rattle.nm_order.proofs.LaterFlagLaws.{EachFlagKept, flags_step, flags_start}
use Rattle.nm_order.proofs.WalksOfRuns.{over_turns}
use Rattle.nm_order.proofs.CutTurns.{CutOrNot, cut_or_not, cut_shows, uncut_stays, mapped_among}
use Rattle.nm_order.proofs.CutTurns.CutOrNot.{StaysReached, IsCutNow}
use Rattle.nm_order.proofs.TurnEdges.{nothing_below, stays_gone}
use Rattle.nm_order.proofs.FlaggedNodes.{FlaggedLeaf, each_flagged_leaf}
use Rattle.nm_order.proofs.FlaggedNodes.{memory_is}
use Rattle.nm_order.proofs.LaterOnward.{later_onward}
use Rattle.nm_order.proofs.RadixTrees.{Nests}
use Rattle.nm_order.proofs.RadixWays.{EachIn, Rooted, none_has}
use Rattle.nm_order.proofs.RadixMoments.{rooted}
use Rattle.nm_order.proofs.RadixLater.{later_in}
use Rattle.nm_order.proofs.OwnLinks.{first_flag}

-- ---- the mark of an own splice

data CutStep (s : Search) (e : Event) (r : Reply) (t : Search) : Type 0 where
  SameCut : t.cut ≡ s.cut → CutStep s e r t
  Splices : (a x p : ℕ) (d keep : Side) (ns : List NodeId) → e ≡ Splice a d x p keep → r ≡ Cut ns
      → t.cut ≡ (s.cut || is_flagged_in s.flagged ns) → t.flagged ≡ s.flagged → CutStep s e r t

cut_step : (s : Search) (e : Event) (r : Reply) → begins_anew (e, r) ≡ false → CutStep s e r (searched s e r)
cut_step s = search_goes (CutStep s) s (λ x f r. SameCut (ap (λ (t : Search). t.cut) (look_beside s s.call x f r)))
    (λ p side leaf new n. SameCut refl) (λ p side leaf n. SameCut refl)
    (λ a side x p keep ns. Splices a x p side keep ns refl refl refl refl) (λ p side leaf new ns. SameCut refl)
    (λ e r. SameCut refl)

-- the leaf that is found among the nodes of a cut
flagged_among : (n : NodeId) (ns : List NodeId) → is_flagged_in (Some n) ns ≡ true → Contains (slots_of ns) n.slot
flagged_among n ns any =
    let b = any_at (is_node n) ns any in
    let same : n.slot ≡ b.1.slot = eqb-true n.slot b.1.slot
    (and_parts (n.slot == b.1.slot) (n.birth == b.1.birth) b.3).0 in
    subst (Contains (slots_of ns)) (sym same) (mapped_among (λ (y : NodeId). y.slot) ns b.1
    (b.0, slice_get_within ns b.0 b.1 b.2, get_or_from_slice_get ns b.0 b.1 b.1 b.2))

-- a call that has flagged no leaf has cut none
abbrev EachUnflaggedUncut : State → List Search → Type 0
EachUnflaggedUncut s ss = (u : ℕ) → (search_of ss u).flagged ≡ None → (search_of ss u).cut ≡ false

uncut_step : IsKept EachUnflaggedUncut
uncut_step s h law w births ss l kept e ok ordered has u = elim (ℕ_discrete u w) [
  | yes is ↦ rw (
    is,
    get_or-set_same ss w (searched (search_of ss w) e (reply_of s w e)) idle
        (let size = l.sized in let lt = ok.worker in omega arith),
  ) (own (search_of ss w) (kept w) e (reply_of s w e))
  | no ne ↦ rw (get_or-set_other ss w u (searched (search_of ss w) e (reply_of s w e)) idle ne) (kept u)
]
  where
    own : (S : Search) → (S.flagged ≡ None → S.cut ≡ false) → (e : Event) (r : Reply)
        → (searched S e r).flagged ≡ None → (searched S e r).cut ≡ false
    own S was e r none = go (begins_anew (e, r)) refl
      where
        go : (b : Bool) → begins_anew (e, r) ≡ b → (searched S e r).cut ≡ false
        go true anew = ap (λ (t : Search). t.cut) (begun_is S e r anew)
        go false stands = by (flag_step S e r stands) (cut_step S e r stands)
          where
            by : FlagStep S e r (searched S e r) → CutStep S e r (searched S e r) → (searched S e r).cut ≡ false
            by (NewFlag p leaf d m is_flag is_flagged flagged later) cut = absurd (none-some m (sym none ∙ flagged))
            by (SameFlag flagged) (SameCut same) = same ∙ was (sym flagged ∙ none)
            by (SameFlag flagged) (Splices a x p d keep ns is_splice is_cut cuts same) =
                cuts ∙ (ap (λ (b : Bool). b || is_flagged_in S.flagged ns) (was (sym flagged ∙ none))
                ∙ ap (λ (m : Option NodeId). is_flagged_in m ns) (sym flagged ∙ none))

-- ---- a run with one turn more

pub nothing_follows : (w : ℕ) (c : Configuration) → PinStands w (trace_in c [])
unfolding trace_in
nothing_follows w c = refl

pub more_stands : (w : ℕ) (c : Configuration) (since : List (ℕ × Event)) (t : ℕ × Event) (L : Layout)
    → PinStands w (trace_in c since) → list_any begins_anew (entries w (after_in c since) t) ≡ false
    → PinStands w (trace_in c (since ++ t ∷ []))
unfolding after_in trace_in
more_stands w c [] t L stands none = stands_behind w c t [] none refl
more_stands w c (s ∷ since) t L stands none = let parts = stands_parts L w c s since stands in
    stands_behind w c s (since ++ t ∷ []) parts.0 (more_stands w (next_in c s) since t L parts.1 none)

module _ (L : Layout) (enough : 5 ≤ L.nodes) where
  pub one_more : (ts : List (ℕ × Event)) (t : ℕ × Event)
      → after_in (ordered L) (ts ++ t ∷ []) ≡ next_in (after_in (ordered L) ts) t
  unfolding after_in
  one_more ts t = after_in-append (ordered L) ts (t ∷ [])

  -- turns behind some first ones
  pub behind_is : (ts before since : List (ℕ × Event)) (t : ℕ × Event) → ts ≡ before ++ t ∷ since
      → after_in (ordered L) ts ≡ after_in (next_in (after_in (ordered L) before) t) since
  unfolding after_in
  behind_is ts before since t is = ap (after_in (ordered L)) is ∙ after_in-append (ordered L) before (t ∷ since)

  longer_flag : (ts : List (ℕ × Event)) (t : ℕ × Event) (w k : ℕ)
      → list_any begins_anew (entries w (after_in (ordered L) ts) t) ≡ false → HasFlagged L ts w k
      → HasFlagged L (ts ++ t ∷ []) w k
  longer_flag ts t w k none f = record {
    before = f.before;
    since = f.since ++ t ∷ [];
    parent = f.parent;
    side = f.side;
    leaf = f.leaf;
    flagged = f.flagged;
    is_run = ap (λ (us : List (ℕ × Event)). us ++ t ∷ []) f.is_run
        ∙ append_assoc f.before ((w, Flag f.parent f.side f.leaf) ∷ f.since) (t ∷ []);
    called = f.called;
    won = f.won;
    marks = f.marks;
    stands = more_stands w (next_in (after_in (ordered L) f.before) (w, Flag f.parent f.side f.leaf)) f.since t L
        f.stands
        (subst (λ (c : Configuration). list_any begins_anew (entries w c t) ≡ false)
        (behind_is ts f.before f.since (w, Flag f.parent f.side f.leaf) f.is_run) none);
  }

  -- ---- what becomes of the flagged leaf

  -- of a slot and what lasts of it: where it is a leaf, it is that one
  abbrev pub EndsAt : ℕ → ℕ → Lasting → Type 0
  EndsAt x y t = t.leaf ≡ true → y ≡ x

  -- where it is an internal node, its range has the key
  abbrev pub EndsIn : ℕ → ℕ → ℕ → Lasting → Type 0
  EndsIn k x y t = (t.leaf ≡ true → y ≡ x) × (t.leaf ≡ false → 6 ≤ y → covers t.key k ≡ true)

  -- a search that goes on from a slot can end at that leaf alone
  abbrev pub EndsOn : Configuration → ℕ → NodeId → ℕ → Type 0
  EndsOn c k n x = (c.state.layout.radix ≡ false → EachOnward (child c.state.memory) (key c.state.memory)
      (lasting c.state.memory) k (EndsAt n.slot) x)
      × (c.state.layout.radix ≡ true → EachIn (child c.state.memory) (key c.state.memory) (lasting c.state.memory) k
      (EndsIn k n.slot) x)

  -- the walks after the flag can end at that slot alone
  abbrev pub LaterEnds : Configuration → ℕ → NodeId → Type 0
  LaterEnds c w n = (call : Call) → (own_search c w).call ≡ Some call → (i : ℕ) (a : Arrival)
      → slice_get (own_search c w).later i ≡ Some a → EndsOn c call.key n a.slot

  pub record StandsStill (c : Configuration) (w : ℕ) (n : NodeId) : Type 0 where
    pub reached : Reached c.state.memory n.slot
    pub uncut : (own_search c w).cut ≡ false
    pub later : LaterEnds c w n

  pub record CutSince (ts : List (ℕ × Event)) (w k : ℕ) (n : NodeId) : Type 0 where
    pub deleted : HasWonDelete L ts w k
    pub is_node : deleted.flag.flagged ≡ n
    pub gone : Reached (after_in (ordered L) ts).state.memory n.slot → ⊥

  pub record Fate (ts : List (ℕ × Event)) (w : ℕ) (n : NodeId) : Type 0 where
    pub k : ℕ
    pub is_call : (own_search (after_in (ordered L) ts) w).call ≡ Some (record { op = Delete; key = k })
    pub flag : HasFlagged L ts w k
    pub is_node : flag.flagged ≡ n
    pub fate : StandsStill (after_in (ordered L) ts) w n ⊎ CutSince ts w k n

  abbrev Fates : List (ℕ × Event) → Type 0
  Fates ts = (w : ℕ) (n : NodeId) → (own_search (after_in (ordered L) ts) w).flagged ≡ Some n → Fate ts w n

  -- the flagged leaf of a call
  pub own_flagged : (ts : List (ℕ × Event)) → All (λ t. HasKey t.1) ts → (w : ℕ) (n : NodeId)
      → (own_search (after_in (ordered L) ts) w).flagged ≡ Some n
      → FlaggedLeaf (after_in (ordered L) ts).state (own_search (after_in (ordered L) ts) w) w n
  own_flagged ts keys w n has =
      let o = each_ordered L enough ts keys in
      let is : own_search (after_in (ordered L) ts) w
      ≡ search_of o.searches w = ap (λ (l : Option (List Search)). search_of (unwrap_or l []) w) o.are in
      subst (λ (S : Search). FlaggedLeaf (after_in (ordered L) ts).state S w n) (sym is)
      (each_flagged_leaf L enough ts keys o.searches o.are w n (ap (λ (S : Search). S.flagged) (sym is) ∙ has))

  -- in the tree as it is now, the call's search comes to no other leaf
  ends_now : (c : Configuration) → IsOrdered L c → (w : ℕ) (n : NodeId) (S : Search) → FlaggedLeaf c.state S w n
      → Reached c.state.memory n.slot → (call : Call) → S.call ≡ Some call
      → EachNow (child c.state.memory) (key c.state.memory) (lasting c.state.memory) call.key (EndsAt n.slot)
  ends_now c o w n S f r call is q goes some leaf =
      one_leaf_for L enough c o call.key _ n.slot (record { path = q; ends = refl; goes = goes })
      (subst (λ (k : ℕ). InInterval c.state.memory k n.slot) has_key (keys_lie L enough c o n.slot r)) some
      r.is_slot leaf (ap (λ (t : Lasting). t.leaf) f.lasts)
    where
      has_key : key c.state.memory n.slot ≡ call.key
      has_key = ap (λ (t : Lasting). t.key) f.lasts ∙ ap (λ (x : Call). x.key)
          (same_Some f.call call (sym f.is_call ∙ is))

  -- and in a radix tree each node that it passes has the key in its range
  ends_in_now : (c : Configuration) → IsOrdered L c → c.state.layout.radix ≡ true → (w : ℕ) (n : NodeId) (S : Search)
      → FlaggedLeaf c.state S w n → Reached c.state.memory n.slot → (call : Call) → S.call ≡ Some call
      → EachNow (child c.state.memory) (key c.state.memory) (lasting c.state.memory) call.key (EndsIn call.key n.slot)
  ends_in_now c o radix w n S f r call is q goes some = (
    ends_now c o w n S f r call is q goes some,
    λ inner up. go
        (covers (key c.state.memory (follow (child c.state.memory) 1 q)) call.key) refl inner up,
  )
    where
      root : Rooted (child c.state.memory) (key c.state.memory)
      root = rooted c.state (law_of_state L enough c o).0 (law_of_state L enough c o).1 o.law.fixed o.law.order
          (o.law.nested radix)

      has_key : key c.state.memory n.slot ≡ call.key
      has_key = ap (λ (t : Lasting). t.key) f.lasts ∙ ap (λ (x : Call). x.key)
          (same_Some f.call call (sym f.is_call ∙ is))

      null : (g : Side) → child c.state.memory n.slot g ≡ 0
      null g = by g (and_parts ((node c.state.memory n.slot).left.slot == 0)
          ((node c.state.memory n.slot).right.slot == 0) (ap (λ (t : Lasting). t.leaf) f.lasts))
        where
          by : (g : Side) → (((node c.state.memory n.slot).left.slot == 0) ≡ true)
              × (((node c.state.memory n.slot).right.slot == 0) ≡ true) → child c.state.memory n.slot g ≡ 0
          by Left both = eqb-true (node c.state.memory n.slot).left.slot 0 both.0
          by Right both = eqb-true (node c.state.memory n.slot).right.slot 0 both.1

      go : (b : Bool) → covers (key c.state.memory (follow (child c.state.memory) 1 q)) call.key ≡ b
          → is_leaf (node c.state.memory (follow (child c.state.memory) 1 q)) ≡ false
          → 6 ≤ follow (child c.state.memory) 1 q → b ≡ true
      go true has inner up = refl
      go false out inner up =
          let under = has_child L enough c o (follow (child c.state.memory) 1 q) inner in
          absurd (none_has (child c.state.memory) (key c.state.memory) root call.key q goes some up under.0 under.1
          out r.path (rw r.ends r.is_slot) (rw r.ends null) (ap (key c.state.memory) r.ends ∙ has_key))

  module _ (ts : List (ℕ × Event)) (t : ℕ × Event) (keys : All (λ t. HasKey t.1) (ts ++ t ∷ [])) (w : ℕ)
      (n : NodeId) where
    abbrev c : Configuration
    c = after_in (ordered L) ts

    abbrev c' : Configuration
    c' = next_in (after_in (ordered L) ts) t

    pub first : All (λ t. HasKey t.1) ts
    first = first_keys ts (t ∷ []) keys

    pub has_key : HasKey t.1
    has_key = last_key ts keys
      where
        last_key : (ts : List (ℕ × Event)) → All (λ t. HasKey t.1) (ts ++ t ∷ []) → HasKey t.1
        last_key [] keys = keys 0 t (omega arith)
        last_key (u ∷ ts) keys = last_key ts (λ i d below. keys (suc i) d (omega arith))

    o : IsOrdered L (after_in (ordered L) ts)
    o = each_ordered L enough ts first

    o' : IsOrdered L (next_in (after_in (ordered L) ts) t)
    o' = ordered_next L enough c t has_key o

    module _ (none : list_any begins_anew (entries w c t) ≡ false) (was : (own_search c w).flagged ≡ Some n)
        (now : (own_search c' w).flagged ≡ Some n) (same_call : (own_search c' w).call ≡ (own_search c w).call) where
      flagged_now : FlaggedLeaf c'.state (own_search c' w) w n
      flagged_now = subst (λ (d : Configuration). FlaggedLeaf d.state (own_search d w) w n) (one_more ts t)
          (own_flagged (ts ++ t ∷ []) keys w n (ap (λ (d : Configuration). (own_search d w).flagged) (one_more ts t)
          ∙ now))

      later_next : Reached c'.state.memory n.slot → LaterEnds c w n → LaterEnds c' w n
      unfolding refused_in applied_in
      later_next r ends call is i a at = go (refused_in c t.0 t.1) refl
        where
          go : (x : Option Refused) → refused_in c t.0 t.1 ≡ x → EndsOn c' call.key n a.slot
          go (Some x) why = subst (λ (d : Configuration). EndsOn d call.key n a.slot) (sym (refused_next c t x why))
              (ends call (sym same_call ∙ is) i a (ap (λ (d : Configuration). slice_get (own_search d w).later i)
              (sym (refused_next c t x why)) ∙ at))
          go None why = subst (λ (d : Configuration). EndsOn d call.key n a.slot) (sym (allowed_next c t why)) (
            (λ search. later_onward c.state (shape search) (law_of_state L enough c o).0
                (law_of_state L enough c o).1 t.0 o.searches o.law (all_kept L enough ts first o.searches o.are) t.1 ok
                w call
                (ap (λ (S : Search). S.call) (sym own_is) ∙ (sym same_call ∙ is)) n
                (ap (λ (S : Search). S.flagged) (sym own_is) ∙ was) (EndsAt n.slot)
                (subst (λ (d : Configuration). EachNow (child d.state.memory) (key d.state.memory)
                (lasting d.state.memory) call.key (EndsAt n.slot)) (allowed_next c t why)
                (ends_now c' o' w n (own_search c' w) flagged_now r call is))
                (λ j b there. (ends call (sym same_call ∙ is) j b
                (ap (λ (S : Search). slice_get S.later j) own_is ∙ there)).0 (shape search))
                stands i a there),
            (λ radix. later_in c.state (shape radix) (law_of_state L enough c o).0 (law_of_state L enough c o).1 t.0
                o.searches o.law (all_kept L enough ts first o.searches o.are) t.1 ok (nests_then radix) w call
                (ap (λ (S : Search). S.call) (sym own_is) ∙ (sym same_call ∙ is)) n
                (ap (λ (S : Search). S.flagged) (sym own_is) ∙ was) (EndsIn call.key n.slot) (λ y t holds. holds.1)
                (subst (λ (d : Configuration). EachNow (child d.state.memory) (key d.state.memory)
                (lasting d.state.memory) call.key (EndsIn call.key n.slot)) (allowed_next c t why)
                (ends_in_now c' o' (ap (λ (d : Configuration). d.state.layout.radix) (allowed_next c t why) ∙ radix)
                w n (own_search c' w) flagged_now r call is))
                (λ j b there. (ends call (sym same_call ∙ is) j b
                (ap (λ (S : Search). slice_get S.later j) own_is ∙ there)).1 (shape radix))
                stands i a there),
          )
            where
              shape : {b : Bool} → (applied c.state t.0 t.1).layout.radix ≡ b → c.state.layout.radix ≡ b
              shape is = sym (shape_after c.state t.0 t.1) ∙ is

              then : IsOrdered L (applied_in (after_in (ordered L) ts) t.0 t.1)
              then = subst (IsOrdered L) (allowed_next c t why) o'

              ok : Allowed c.state t.0 t.1
              ok = allowed c.state t.0 t.1 (neither (refused c.state t.0 t.1) (disorder_in c t.0 t.1) why).0

              nests_then : (applied c.state t.0 t.1).layout.radix ≡ true
                  → Nests (child (write c.state.memory (of c.state t.0) t.0 t.1))
                  (key (write c.state.memory (of c.state t.0) t.0 t.1))
              nests_then radix = subst (λ (m : Memory). Nests (child m) (key m))
                  (memory_is c.state (law_of_state L enough c o).0 (law_of_state L enough c o).1 t.0 t.1 ok)
                  (then.law.nested radix).nests

              own_is : own_search c w ≡ search_of o.searches w
              own_is = ap (λ (l : Option (List Search)). search_of (unwrap_or l []) w) o.are

              own_then : own_search (applied_in c t.0 t.1) w
                  ≡ search_of (learned_from o.searches t.0 t.1 (reply_of c.state t.0 t.1)) w
              own_then = ap (λ (l : Option (List Search)). search_of
                  (unwrap_or (option_map (λ ss. learned_from ss t.0 t.1 (reply_of c.state t.0 t.1)) l) []) w) o.are

              there : slice_get (search_of (learned_from o.searches t.0 t.1 (reply_of c.state t.0 t.1)) w).later i
                  ≡ Some a
              there = ap (λ (S : Search). slice_get S.later i) (sym own_then)
                  ∙ (ap (λ (d : Configuration). slice_get (own_search d w).later i) (sym (allowed_next c t why)) ∙ at)

              stands : w ≡ t.0 → begins_anew (t.1, reply_of c.state t.0 t.1) ≡ false
              stands same = (or_parts (begins_anew (t.1, reply_of c.state t.0 t.1)) false
                  (sym (ap (list_any begins_anew)
                  (allowed_entries w c t (reply_of c.state t.0 t.1) (allowed_outcome c t why)
                  ∙ ap (λ (b : Bool). cond b ((t.1, reply_of c.state t.0 t.1) ∷ []) []) (eq-eqb t.0 w (sym same))))
                  ∙ none)).0

      -- it is reached still, or this turn cuts it
      longer : Fate ts w n → (Reached c'.state.memory n.slot → (own_search c w).cut ≡ false
          → (own_search c' w).cut ≡ false) → Fate (ts ++ t ∷ []) w n
      unfolding longer_flag
      longer f uncut = record {
        k = f.k;
        is_call = ap (λ (d : Configuration). (own_search d w).call) (one_more ts t) ∙ (same_call ∙ f.is_call);
        flag = longer_flag ts t w f.k none f.flag;
        is_node = f.is_node;
        fate = by f.fate;
      }
        where
          named_is : named c.state.memory n.slot ≡ f.flag.flagged
          named_is = (λ i. record { slot = n.slot; birth = same_birth i }) ∙ sym f.is_node
            where
              same_birth : (node c.state.memory n.slot).birth ≡ n.birth
              same_birth = ap (λ (y : Lasting). y.birth) (own_flagged ts first w n was).lasts

          flag_known : knows (of c.state w) n.slot ≡ true
          flag_known = (own_flagged ts first w n was).known

          by : StandsStill c w n ⊎ CutSince ts w f.k n
              → StandsStill (after_in (ordered L) (ts ++ t ∷ [])) w n ⊎ CutSince (ts ++ t ∷ []) w f.k n
          by (inr was) = inr (record {
            deleted = record {
              before = was.deleted.before;
              cut = was.deleted.cut;
              since = was.deleted.since ++ t ∷ [];
              nodes = was.deleted.nodes;
              is_run = ap (λ (us : List (ℕ × Event)). us ++ t ∷ []) was.deleted.is_run
                  ∙ append_assoc was.deleted.before (was.deleted.cut ∷ was.deleted.since) (t ∷ []);
              won = was.deleted.won;
              flag = was.deleted.flag;
              among = was.deleted.among;
              stands = more_stands w (after_in (ordered L) was.deleted.before) (was.deleted.cut ∷ was.deleted.since)
                  t L was.deleted.stands
                  (subst (λ (d : Configuration). list_any begins_anew (entries w d t) ≡ false)
                  (ap (after_in (ordered L)) was.deleted.is_run
                  ∙ after_in-append (ordered L) was.deleted.before (was.deleted.cut ∷ was.deleted.since)) none);
            };
            is_node = was.is_node;
            gone = subst (λ (d : Configuration). Reached d.state.memory n.slot → ⊥) (sym (one_more ts t))
                (stays_gone L enough c t o (nothing_below L enough c' t o') w n.slot flag_known was.gone);
          })
          by (inl still) = on (cut_or_not L enough c t has_key o n.slot still.reached)
            where
              on : CutOrNot L enough c t n.slot → StandsStill (after_in (ordered L) (ts ++ t ∷ [])) w n
                  ⊎ CutSince (ts ++ t ∷ []) w f.k n
              on (StaysReached r) = inl (subst (λ (d : Configuration). StandsStill d w n) (sym (one_more ts t))
                  (record { reached = r; uncut = uncut r still.uncut; later = later_next r still.later }))
              on (IsCutNow ns is among gone) = inr (record {
                deleted = record {
                  before = ts;
                  cut = t;
                  since = [];
                  nodes = ns;
                  is_run = refl;
                  won = is;
                  flag =
                      f.flag;
                  among = subst (Contains ns) named_is among;
                  stands = stands_behind w c t [] none
                      (nothing_follows w (next_in c t));
                };
                is_node = f.is_node;
                gone = subst (λ (d : Configuration). Reached d.state.memory n.slot → ⊥) (sym (one_more ts t)) gone;
              })

    -- ---- the worker's own turn

    -- an own splice that cuts the flagged leaf leaves it unreached
    still_uncut : (r : Reply) → t.0 ≡ w → outcome_in c t ≡ Ok r → begins_anew (t.1, r) ≡ false
        → own_search c' w ≡ searched (own_search c w) t.1 r → (own_search c w).flagged ≡ Some n
        → Reached c'.state.memory n.slot → (own_search c w).cut ≡ false → (own_search c' w).cut ≡ false
    still_uncut r own is stands learned was reached uncut = by (cut_step (own_search c w) t.1 r stands)
      where
        by : CutStep (own_search c w) t.1 r (searched (own_search c w) t.1 r) → (own_search c' w).cut ≡ false
        by (SameCut same) = ap (λ (S : Search). S.cut) learned ∙ (same ∙ uncut)
        by (Splices a x p d keep ns is_splice is_cut cuts flagged) = ap (λ (S : Search). S.cut) learned
            ∙ (cuts ∙ (ap (λ (b : Bool). b || is_flagged_in (own_search c w).flagged ns) uncut
            ∙ (ap (λ (m : Option NodeId). is_flagged_in m ns) was ∙ on (is_flagged_in (Some n) ns) refl)))
          where
            on : (b : Bool) → is_flagged_in (Some n) ns ≡ b → b ≡ false
            on false h = refl
            on true h = absurd ((((cut_shows L enough c t o ns (is ∙ ap (λ (y : Reply). Ok y) is_cut)).0 n.slot).1
                (flagged_among n ns h)).gone reached)

    fate_next : Fates ts → (own_search c' w).flagged ≡ Some n → Fate (ts ++ t ∷ []) w n
    fate_next fates now = by (own_turn L w c t o)
      where
        by : OwnTurn w c t → Fate (ts ++ t ∷ []) w n
        by (Quiet same none) =
            let was : (own_search c w).flagged ≡ Some n = ap (λ (S : Search). S.flagged) (sym same) ∙ now in
            longer (ap (list_any begins_anew) none) was now (ap (λ (S : Search). S.call) same) (fates w n was)
            (λ r uncut. ap (λ (S : Search). S.cut) same ∙ uncut)
        by (Own r is won here learned order) = go (begins_anew (t.1, r)) refl
          where
            now_is : (searched (own_search c w) t.1 r).flagged ≡ Some n
            now_is = ap (λ (S : Search). S.flagged) (sym learned) ∙ now

            go : (b : Bool) → begins_anew (t.1, r) ≡ b → Fate (ts ++ t ∷ []) w n
            go true anew = absurd (none-some n (sym (anew_unflagged (own_search c w) t.1 r anew) ∙ now_is))
            go false stands = on (flag_step (own_search c w) t.1 r stands)
              where
                none : list_any begins_anew (entries w c t) ≡ false
                none = ap (list_any begins_anew) here ∙ ap (λ (b : Bool). b || false) stands

                same_call : (own_search c' w).call ≡ (own_search c w).call
                same_call = ap (λ (S : Search). S.call) learned ∙ (only_grow (own_search c w) t.1 r stands).call

                on : FlagStep (own_search c w) t.1 r (searched (own_search c w) t.1 r) → Fate (ts ++ t ∷ []) w n
                on (SameFlag flagged) =
                    let was : (own_search c w).flagged ≡ Some n = sym flagged ∙ now_is in
                    longer none was now same_call (fates w n was) (still_uncut r is won stands learned was)
                on (NewFlag p leaf d m is_flag is_flagged flagged later) = record {
                  k = marked.0;
                  is_call = ap (λ (d : Configuration). (own_search d w).call) (one_more ts t)
                      ∙ (same_call ∙ is_own_call c w Delete marked.0 marked.1);
                  flag = record {
                    before = ts;
                    since = [];
                    parent = p;
                    side = d;
                    leaf = leaf;
                    flagged = m;
                    is_run = ap (λ (u : ℕ × Event). ts ++ u ∷ []) turn;
                    called = marked.1;
                    won = won_flag;
                    marks = marked.2;
                    stands = nothing_follows w (next_in c (w, Flag p d leaf));
                  };
                  is_node = same_node;
                  fate = inl (subst (λ (d : Configuration). StandsStill d w n) (sym (one_more ts t)) (record {
                    reached = uncut_stays L enough c t o (λ ns cut. differ ns (sym won ∙ cut)) n.slot
                        (subst (Reached c.state.memory) at_leaf marked.2.reached);
                    uncut = by_cut (cut_step (own_search c w) t.1 r stands);
                    later = λ call is i a at. absurd (none-some a
                        (sym (ap (λ (l : List Arrival). slice_get l i) no_later) ∙ at));
                  }));
                }
                  where
                    turn : t ≡ (w, Flag p d leaf)
                    turn = λ i. (is i, is_flag i)

                    won_flag : outcome_in c (w, Flag p d leaf) ≡ Ok (Flagged m)
                    won_flag = ap (outcome_in c) (sym turn) ∙ (won ∙ ap (λ (y : Reply). Ok y) is_flagged)

                    marked : (k : ℕ) × IsCalled c w Delete k × Marks c.state.memory p d leaf m k
                    marked = each_flag_marks L enough ts first w p d leaf m won_flag

                    same_node : m ≡ n
                    same_node = same_Some m n (sym flagged ∙ now_is)

                    at_leaf : leaf ≡ n.slot
                    at_leaf = sym (ap (λ (y : NodeId). y.slot) marked.2.names) ∙ ap (λ (y : NodeId). y.slot) same_node

                    differ : (ns : List NodeId) → ◌≡◌ {A = Result Reply Refused} (Ok r) (Ok (Cut ns)) → ⊥
                    differ ns e = apart m ns (sym is_flagged ∙ same_reply r (Cut ns) e)
                      where
                        apart : (m : NodeId) (ns : List NodeId) → Flagged m ≡ Cut ns → ⊥
                        apart m ns e = cc

                    unflagged : (own_search c w).flagged ≡ None
                    unflagged = first_flag c.state.layout (of c.state w) (own_search c w) p leaf d
                        (subst (λ (e : Event). disorder c.state.layout (of c.state w) (own_search c w) e ≡ None)
                        is_flag order)

                    own_is : own_search c w ≡ search_of o.searches w
                    own_is = ap (λ (l : Option (List Search)). search_of (unwrap_or l []) w) o.are

                    none_cut : (own_search c w).cut ≡ false
                    none_cut = ap (λ (S : Search). S.cut) own_is
                        ∙ each_run_keeps EachUnflaggedUncut uncut_step L enough
                        (λ u none. ap (λ (S : Search). S.cut) (repeated L.workers u idle)) ts first o.searches o.are w
                        (ap (λ (S : Search). S.flagged) (sym own_is) ∙ unflagged)

                    by_cut : CutStep (own_search c w) t.1 r (searched (own_search c w) t.1 r)
                        → (own_search c' w).cut ≡ false
                    by_cut (SameCut same) = ap (λ (S : Search). S.cut) learned ∙ (same ∙ none_cut)
                    by_cut (Splices a x q f keep ns is_splice is_cut cuts same) = ap (λ (S : Search). S.cut) learned
                        ∙ (cuts ∙ (ap (λ (b : Bool). b || is_flagged_in (own_search c w).flagged ns) none_cut
                        ∙ ap (λ (y : Option NodeId). is_flagged_in y ns) unflagged))

                    no_later : (own_search c' w).later ≡ []
                    no_later = ap (λ (S : Search). S.later) learned ∙ (later ∙ (ap (λ (S : Search). S.later) own_is
                        ∙ (each_run_keeps EachFlagKept flags_step L enough (flags_start L) ts first o.searches o.are
                        w).none (ap (λ (S : Search). S.flagged) (sym own_is) ∙ unflagged)))

  pub fates : (ts : List (ℕ × Event)) → All (λ t. HasKey t.1) ts → Fates ts
  unfolding after_in
  fates = over_turns Fates (λ w n has. absurd (none-some n
      (sym (ap (λ (S : Search). S.flagged) (repeated L.workers w idle)) ∙ has)))
      (λ ts t keys fates w n now. fate_next ts t keys w n fates
      (ap (λ (d : Configuration). (own_search d w).flagged) (sym (one_more ts t)) ∙ now))

  -- ---- a true delete

  module _ (turns : List (ℕ × Event)) (keys : All (λ t. HasKey t.1) turns) (w k : ℕ)
      (may : MayAnswer (after_in (ordered L) turns) w Delete k true) where
    S : Search
    S = own_search (after_in (ordered L) turns) w

    end : IsOrdered L (after_in (ordered L) turns)
    end = each_ordered L enough turns keys

    own_end : own_search (after_in (ordered L) turns) w ≡ search_of end.searches w
    own_end = ap (λ (l : Option (List Search)). search_of (unwrap_or l []) w) end.are

    -- where the leaf is reached still, no walk after the flag can have ended elsewhere
    pub not_elsewhere : (n : NodeId) → LaterEnds (after_in (ordered L) turns) w n
        → list_any (ended_elsewhere n.slot) (own_search (after_in (ordered L) turns) w).later ≡ true → ⊥
    not_elsewhere n ends any = true≢false (sym (and_parts b.1.ended (not (b.1.slot == n.slot)) b.3).1
        ∙ ap not (eq-eqb b.1.slot n.slot same))
      where
        b : (i : ℕ) × (a : Arrival) × (slice_get (own_search (after_in (ordered L) turns) w).later i ≡ Some a)
            × (ended_elsewhere n.slot a ≡ true)
        b = any_at (ended_elsewhere n.slot) (own_search (after_in (ordered L) turns) w).later any

        there : slice_get (search_of end.searches w).later b.0 ≡ Some b.1
        there = ap (λ (T : Search). slice_get T.later b.0) (sym own_end) ∙ b.2

        kept : WalksKept (after_in (ordered L) turns).state end.searches w
        kept = all_kept L enough turns keys end.searches end.are w

        is_call : (own_search (after_in (ordered L) turns) w).call ≡ Some (record { op = Delete; key = k })
        is_call = is_own_call (after_in (ordered L) turns) w Delete k may.called

        some : b.1.slot ≢ 0
        some z =
            let f = call_walks (after_in (ordered L) turns).state.layout.radix
            (after_in (ordered L) turns).state.memory (knows (of (after_in (ordered L) turns).state w))
            (search_of end.searches w).call (search_of end.searches w).later (record { op = Delete; key = k })
            (ap (λ (T : Search). T.call) (sym own_end) ∙ is_call) (kept.law TheFlag) in
            let range = (law_of_state L enough (after_in (ordered L) turns) end).1.tree.known w b.1.slot
            (f.1.is_known b.0 b.1 there) in absurd (omega arith)

        leaf : is_leaf (node (after_in (ordered L) turns).state.memory b.1.slot) ≡ true
        leaf = (leaf_is L enough (after_in (ordered L) turns) end w b.1.slot
            (kept.ends TheFlag b.0 b.1 there (and_parts b.1.ended (not (b.1.slot == n.slot)) b.3).0))

        same : b.1.slot ≡ n.slot
        same = by (after_in (ordered L) turns).state.layout.radix refl
            (ends (record { op = Delete; key = k }) is_call b.0 b.1 b.2) leaf
          where
            by : (shape : Bool) → (after_in (ordered L) turns).state.layout.radix ≡ shape
                → EndsOn (after_in (ordered L) turns) k n b.1.slot
                → is_leaf (node (after_in (ordered L) turns).state.memory b.1.slot) ≡ true → b.1.slot ≡ n.slot
            by false search on leaf = on.0 search [] tt some leaf
            by true radix on leaf = (on.1 radix [] tt tt some).0 leaf

    has_deleted : HasWonDelete L turns w k
    has_deleted = by (own_search (after_in (ordered L) turns) w).flagged refl
        (shown L enough turns keys w Delete k true may)
      where
        by : (o : Option NodeId) → (own_search (after_in (ordered L) turns) w).flagged ≡ o
            → has_removed (own_search (after_in (ordered L) turns) w) o ≡ true → HasWonDelete L turns w k
        by None is removed = absurd (true≢false (sym removed))
        by (Some n) is removed = on f.fate
          where
            f : Fate turns w n
            f = fates turns keys w n is

            same_key : f.k ≡ k
            same_key = ap (λ (c : Call). c.key) (same_Some (record { op = Delete; key = f.k })
                (record { op = Delete; key = k }) (sym f.is_call
                ∙ is_own_call (after_in (ordered L) turns) w Delete k may.called))

            on : StandsStill (after_in (ordered L) turns) w n ⊎ CutSince turns w f.k n → HasWonDelete L turns w k
            on (inr cut) = subst (HasWonDelete L turns w) same_key cut.deleted
            on (inl still) = elim (or_cases (own_search (after_in (ordered L) turns) w).cut
                (list_any (ended_elsewhere n.slot) (own_search (after_in (ordered L) turns) w).later) removed) [
                  | inl own ↦ absurd (true≢false (sym own ∙ still.uncut))
                  | inr elsewhere ↦ absurd (not_elsewhere n still.later elsewhere)
                ]

pub each_true_delete_cuts : OfEachOrderedRun TrueDeletesHaveDeleted
each_true_delete_cuts L enough turns keys w k may = has_deleted L enough turns keys w k may
