-- Each history of a run with stores is one of a plain map.
use Rattle.std.proofs.Common.{◌≡◌, ◌⊎◌, inl, inr, ℕ, suc, ◌+◌, ◌<◌, ◌≤◌, ◌==◌, Bool, true, false, cond, List, [], ◌∷◌, ◌++◌, append-nil, append_assoc, length, map, refl, sym, ap, subst, ◌∙◌, arith, eq-eqb, ne_eqb, true≢false}
use Rattle.std.specs.Prelude.{◌↔◌, All, AllPairs, Contains, Option, None, Some, Ok, filter, is_none, nat_le, slice_index_or}
use Rattle.std.proofs.lemmas.Bool.{cases_lt, eqb-true, le-leb, leb-true, lt-leb}
use Rattle.std.proofs.lemmas.List.{length-append, map-append}
use Rattle.std.proofs.lemmas.Option.{none-some, same_Some}
use Rattle.nm_edge.specs.Keys.{IsKey}
use Rattle.nm_edge.specs.Layouts.{Layout, IsLayout}
use Rattle.nm_edge.specs.declared.edge.Side.{Side}
use Rattle.nm_edge.specs.declared.node.NodeId.{NodeId}
use Rattle.nm_model.specs.declared.event.Event.{Event}
use Rattle.nm_model.specs.declared.event.Event.TheVariants.{Swap}
use Rattle.nm_model.specs.declared.event.Op.TheVariants.{Insert, Delete}
use Rattle.nm_model.specs.declared.reply.Reply.TheVariants.{Cut}
use Rattle.nm_model.specs.declared.trace.Turn.{Turn}
use Rattle.nm_model.specs.Acts.{Act, InSet, IsAmong, Replays, changed, nothing}
use Rattle.nm_model.specs.Headline.{IsWonSwap, words_after}
use Rattle.nm_model.specs.Histories.{HasHistory, IsAct, IsHistory}
use Rattle.nm_model.specs.Histories.IsAct.{IsAnswered, IsPending}
use Rattle.nm_model.specs.Memory.{Memory, node}
use Rattle.nm_model.specs.Ordered.{HasKey, ordered, trace_in}
use Rattle.nm_order.specs.Logs.{part_of}
use Rattle.nm_order.proofs.RealTime.{begins_with}
use Rattle.nm_order.proofs.RunExchanges.{first_keys}
use Rattle.nm_order.proofs.Timelines.{replays_from}
use Rattle.nm_theorem.proofs.HistoriesOfRuns.{history_of_run}
use Rattle.nm_theorem.proofs.Runs.{Parts, parts_of}
use Rattle.nm_steps.specs.declared.view.Stored.{Stored}
use Rattle.nm_steps.specs.Rules.{IsStored, answered_turn}
use Rattle.nm_steps.proofs.Growing.{goes_on_itself}
use Rattle.nm_calls.specs.KeptValues.{NoneCuts}
use Rattle.nm_calls.specs.MapHistories.{GetsAreOfTheMap, GivesEach, HistoriesAreOfMaps, IsMapHistory, IsPutOf, MapAct, PlainMap, PutsBySwap, PutsItsValue, PutsThere, TakesItsValue, ValuesWerePut, found_by, is_plain, is_won_swap, map_after, map_at, no_map}
use Rattle.nm_calls.specs.Maps.{HoldsStores, IsInMap, value_at}
use Rattle.nm_calls.proofs.HandedStores.{value_until_cut}
use Rattle.nm_calls.proofs.KeptValues.{held_in_all, one_slot}
use Rattle.nm_calls.proofs.OverATurn.{same_over_turn}
use Rattle.nm_calls.proofs.PlainMaps.{Agree, In, Last, Sorted, Valued, act_in, act_of, after_join, agree_empty, agree_put, all_in, all_kept, all_pairs, contained_in, contains_in, filter_parts, from_filter, gives_at, gives_join, in_left, in_parts, in_right, keys_of_acts, last_of, none_kept, put_last, sorted_join, split_in, untouched, valued}
use Rattle.nm_calls.proofs.PlainMaps.Last.{Put, Taken, Untouched}
use Rattle.nm_calls.proofs.WonSwaps.{IsSwapOf, SwapShown, swap_or_not, swap_shown}

-- an act's moment is within the turns
moment_within : (turns : List Turn) (a : Act) → IsAct turns a → (1 ≤ a.moment) × (a.moment ≤ length turns)
moment_within turns a (IsAnswered before since is called late early) =
    let long = ap (λ (ts : List Turn). length ts) is ∙ length-append before _ in
    (omega (arith, late), omega (arith, long, early))
moment_within turns a (IsPending called late early) = (omega (arith, late), early)

abbrev up_to : ℕ → MapAct → Bool
up_to n x = nat_le x.act.moment n

-- ---- acts in the order of their moments

abbrev early : ℕ → List Act → List Act
early n acts = filter (λ (a : Act). nat_le a.moment n) acts

abbrev just_at : ℕ → List Act → List Act
just_at n acts = filter (λ (a : Act). a.moment == n) acts

abbrev Rises : List Act → Type 0
Rises [] = Unit {0}
Rises (a ∷ acts) = ((b : Act) → IsAmong acts b → a.moment ≤ b.moment) × Rises acts

pub place_of : (acts : List Act) (a : Act) → IsAmong acts a
    → (i : ℕ) × (i < length acts) × ((d : Act) → slice_index_or acts i d ≡ a)
place_of [] a there = absurd there
place_of (b ∷ acts) a (inl is) = (0, omega arith, λ d. is)
place_of (b ∷ acts) a (inr there) =
    let r = place_of acts a there in let less = r.1 in (suc r.0, omega (arith, less), r.2)

rises : (acts : List Act) → AllPairs (λ (a b : Act). a.moment ≤ b.moment) acts → Rises acts
rises [] order = tt
rises (x ∷ xs) order = (
  λ b at. let r = place_of xs b at in let below = r.1 in
      subst (λ (c : Act). x.moment ≤ c.moment) (r.2 x)
      (order 0 (suc r.0) x (omega arith) (omega (arith, below))),
  rises xs (λ i j d less inside. order (suc i) (suc j) d (omega (arith, less)) (omega (arith, inside))),
)

none_early : (n : ℕ) (acts : List Act) → ((b : Act) → IsAmong acts b → n < b.moment) → early n acts ≡ []
none_early n [] late = refl
none_early n (a ∷ acts) late =
    ap (λ (b : Bool). cond b (a ∷ early n acts) (early n acts)) (lt-leb a.moment n (late a (inl refl)))
    ∙ none_early n acts (λ b at. late b (inr at))

all_early : (n : ℕ) (acts : List Act) → ((b : Act) → IsAmong acts b → b.moment ≤ n) → early n acts ≡ acts
all_early n [] soon = refl
all_early n (a ∷ acts) soon =
    ap (λ (b : Bool). cond b (a ∷ early n acts) (early n acts)) (le-leb a.moment n (soon a (inl refl)))
    ∙ ap (λ (l : List Act). a ∷ l) (all_early n acts (λ b at. soon b (inr at)))

-- those of one moment more
split_early : (n m : ℕ) → m ≡ n + 1 → (acts : List Act) → Rises acts
    → early m acts ≡ early n acts ++ just_at m acts
split_early n m next [] r = refl
split_early n m next (a ∷ acts) r = by (cases_lt n a.moment) (cases_lt m a.moment) (split_early n m next acts r.1)
  where
    kept : a.moment ≤ m → early m (a ∷ acts) ≡ a ∷ early m acts
    kept le = ap (λ (b : Bool). cond b (a ∷ early m acts) (early m acts)) (le-leb a.moment m le)

    past : n < a.moment → early n (a ∷ acts) ≡ early n acts
    past less = ap (λ (b : Bool). cond b (a ∷ early n acts) (early n acts)) (lt-leb a.moment n less)

    none' : n < a.moment → early n acts ≡ []
    none' less = none_early n acts (λ b at. let le = r.0 b at in omega (arith, less, le))

    by : (n < a.moment) ⊎ (a.moment ≤ n) → (m < a.moment) ⊎ (a.moment ≤ m)
        → early m acts ≡ early n acts ++ just_at m acts
        → early m (a ∷ acts) ≡ early n (a ∷ acts) ++ just_at m (a ∷ acts)
    by (inr le) later rest =
        kept (omega (arith, le, next))
        ∙ (ap (λ (l : List Act). a ∷ l) rest
        ∙ sym (λ i. cond (le-leb a.moment n le i) (a ∷ early n acts) (early n acts)
        ++ cond (ne_eqb a.moment m (λ e. omega (arith, e, le, next)) i) (a ∷ just_at m acts) (just_at m acts)))
    by (inl less) (inl late) rest =
        ap (λ (b : Bool). cond b (a ∷ early m acts) (early m acts)) (lt-leb a.moment m late)
        ∙ (rest
        ∙ sym (λ i. past less i
        ++ cond (ne_eqb a.moment m (λ e. omega (arith, e, late)) i) (a ∷ just_at m acts) (just_at m acts)))
    by (inl less) (inr le) rest =
        kept le
        ∙ (ap (λ (l : List Act). a ∷ l) (rest ∙ ap (λ (l : List Act). l ++ just_at m acts) (none' less))
        ∙ sym (λ i. (past less ∙ none' less) i
        ++ cond (eq-eqb a.moment m (omega (arith, le, less, next)) i) (a ∷ just_at m acts) (just_at m acts)))

from_just_at : (n : ℕ) (acts : List Act) (a : Act) → IsAmong (just_at n acts) a → IsAmong acts a × (a.moment ≡ n)
from_just_at n [] a at = absurd at
from_just_at n (b ∷ acts) a at = by (b.moment == n) refl at (from_just_at n acts a)
  where
    by : (x : Bool) → (b.moment == n) ≡ x → IsAmong (cond x (b ∷ just_at n acts) (just_at n acts)) a
        → (IsAmong (just_at n acts) a → IsAmong acts a × (a.moment ≡ n)) → IsAmong (b ∷ acts) a × (a.moment ≡ n)
    by true is (inl same) rest = (inl same, ap (λ (c : Act). c.moment) (sym same) ∙ eqb-true b.moment n is)
    by true is (inr there) rest = let r = rest there in (inr r.0, r.1)
    by false is there rest = let r = rest there in (inr r.0, r.1)

-- acts that follow others
replays_rest : (S mid last : ℕ → Type 0) (xs ys : List Act) → Replays S xs mid → Replays S (xs ++ ys) last
    → Replays mid ys last
replays_rest S mid last [] ys r q = replays_from S mid ys last r q
replays_rest S mid last (x ∷ xs) ys r q = replays_rest (changed S x.op x.key x.answer) mid last xs ys r.2 q.2

-- acts of one moment
sorted_same : (n : ℕ) (xs : List MapAct) → ((x : MapAct) → In xs x → (x.act.moment ≡ n) × (x.left ≡ None)) → Sorted xs
sorted_same n [] each = tt
sorted_same n (x ∷ xs) each = (
  λ y at. let a = (each x (inl refl)).0 in let b = (each y (inr at)).0 in (
    omega (arith, a, b),
    λ put. absurd (true≢false (sym (ap (λ (l : Option ℕ). is_none l) (each y (inr at)).1) ∙ put)),
  ),
  sorted_same n xs (λ y at. each y (inr at)),
)

-- ---- turns

pub same_split : (xs ys us vs : List Turn) (x y : Turn) → xs ++ x ∷ us ≡ ys ++ y ∷ vs → length xs ≡ length ys
    → (xs ≡ ys) × (x ≡ y)
same_split [] [] us vs x y is long = (refl, (let head : x ≡ y = cc in head))
same_split [] (b ∷ ys) us vs x y is long = absurd (omega (arith, long))
same_split (a ∷ xs) [] us vs x y is long = absurd (omega (arith, long))
same_split (a ∷ xs) (b ∷ ys) us vs x y is long =
    let head : a ≡ b = cc in
    let tail : xs ++ x ∷ us ≡ ys ++ y ∷ vs = cc in
    let r = same_split xs ys us vs x y tail (omega (arith, long)) in
    ((λ i. head i ∷ r.0 i), r.1)

same_first : (xs ys us vs : List Turn) → xs ++ us ≡ ys ++ vs → length xs ≡ length ys → xs ≡ ys
same_first xs ys us vs is long =
    let part = begins_with xs us ys vs is (omega (arith, long)) in
    let size = ap (λ (ts : List Turn). length ts) part.1 ∙ length-append xs part.0 in
    sym (part.1 ∙ by part.0 (omega (arith, size, long)))
  where
    by : (ts : List Turn) → length ts ≡ 0 → xs ++ ts ≡ xs
    by [] none' = append-nil xs
    by (t ∷ ts) none' = absurd (omega (arith, none'))

-- ---- a run with a history

module _ (L : Layout) (fits : IsLayout L) (events : List (ℕ × Event)) (keys : All (λ t. HasKey t.1) events)
    (stores : List Stored) (held : HoldsStores L (trace_in (ordered L) events) (trace_in (ordered L) events) stores)
    (acts : List Act) (h : IsHistory L (trace_in (ordered L) events) acts) where
  abbrev turns : List Turn
  turns = trace_in (ordered L) events

  is_key_of : (a : Act) → IsAmong acts a → IsKey a.key
  is_key_of = keys_of_acts acts nothing (InSet (words_after L turns)) h.replays

  rising : Rises acts
  rising = rises acts h.in_order

  with_value : (so_far : List Turn) (k : ℕ) → (i : InSet (words_after L so_far) k)
      → IsInMap L so_far stores k (value_at (length so_far) stores i.slot)
  with_value so_far k i =
      record { slot = i.slot; reached = i.reached; leaf = i.leaf; has_key = i.has_key; has_value = refl }

  abbrev in_set : (so_far : List Turn) (k v : ℕ) → IsInMap L so_far stores k v → InSet (words_after L so_far) k
  in_set so_far k v i = record { slot = i.slot; reached = i.reached; leaf = i.leaf; has_key = i.has_key }

  one_value : (so_far rest : List Turn) → turns ≡ so_far ++ rest → (k u v : ℕ) → IsInMap L so_far stores k u
      → IsInMap L so_far stores k v → u ≡ v
  one_value so_far rest is k u v i j =
      sym i.has_value
      ∙ (ap (value_at (length so_far) stores)
      (one_slot L fits events keys so_far rest is i.slot j.slot i.reached j.reached i.leaf j.leaf
      (i.has_key ∙ sym j.has_key))
      ∙ j.has_value)

  -- whether a key is there at a moment
  there_or_not : (so_far rest : List Turn) → turns ≡ so_far ++ rest → (k : ℕ) → IsKey k
      → InSet (words_after L so_far) k ⊎ (InSet (words_after L so_far) k → ⊥)
  there_or_not so_far rest is k is_key = by (map_after no_map v.xs k) refl
    where
      v : Valued no_map (early (length so_far) acts) (InSet (words_after L so_far)) (λ a u. Unit {0})
      v = valued (λ a u. Unit {0}) (early (length so_far) acts) nothing (InSet (words_after L so_far)) no_map
          agree_empty
          (h.moments so_far rest is) (λ a among. (0, tt))

      by : (o : Option ℕ) → map_after no_map v.xs k ≡ o
          → InSet (words_after L so_far) k ⊎ (InSet (words_after L so_far) k → ⊥)
      by None gone = inr (λ there. let r = (v.agree k is_key).0 there in none-some r.0 (sym gone ∙ r.1))
      by (Some u) has = inl ((v.agree k is_key).1 u has)

  -- the map has just what is there after these turns
  abbrev HasJust : List Turn → PlainMap → Type 0
  HasJust so_far m = (k v : ℕ) → IsKey k → (m k ≡ Some v) ↔ IsInMap L so_far stores k v

  agree_of : (so_far : List Turn) (m : PlainMap) → HasJust so_far m → Agree (InSet (words_after L so_far)) m
  agree_of so_far m had k is_key = (
    λ there. (value_at (length so_far) stores there.slot, (had k _ is_key).1 (with_value so_far k there)),
    λ v is. in_set so_far k v ((had k v is_key).0 is),
  )

  -- ---- over one turn

  -- the put of a turn, if it is a won swap
  record PutPart (so_far : List Turn) (t : Turn) (m : PlainMap) : Type 0 where
    ys : List MapAct
    are_puts : (x : MapAct) → In ys x → (is_plain x ≡ false) × (x.act.answer ≡ false)
    gives : GivesEach m ys
    order : Sorted ys
    at : (x : MapAct) → In ys x → x.act.moment ≡ length so_far + 1
    agree : Agree (InSet (words_after L so_far)) (map_after m ys)
    kept : (k v : ℕ) → IsKey k → InSet (words_after L (so_far ++ t ∷ [])) k → map_after m ys k ≡ Some v
        → IsInMap L (so_far ++ t ∷ []) stores k v
    back : is_won_swap t.event t.outcome ≡ false → (k v : ℕ) → IsKey k → map_after m ys k ≡ Some v
        → IsInMap L so_far stores k v
    swaps : (w p : ℕ) (side : Side) (old new : ℕ) (ns : List NodeId)
        → t ≡ answered_turn w (Swap p side old new) (Cut ns)
        → (a : MapAct) × In ys a
        × IsPutOf L stores so_far w old new (answered_turn w (Swap p side old new) (Cut ns)) a
    replaces : (x : MapAct) → In ys x → PutsBySwap L turns stores x

  -- a leaf that no swap takes out keeps its value
  kept_over : (so_far rest : List Turn) (t : Turn) → turns ≡ so_far ++ t ∷ rest → (k v : ℕ)
      → (i : IsInMap L so_far stores k v) → InSet (words_after L (so_far ++ t ∷ [])) k
      → ((ns : List NodeId) (s : IsWonSwap (words_after L so_far) t.event ns) → t.outcome ≡ Ok (Cut ns)
      → i.slot ≡ s.old → ⊥)
      → IsInMap L (so_far ++ t ∷ []) stores k v
  kept_over so_far rest t is k v i still other =
      let was = same_over_turn L fits events keys turns stores held so_far rest t is k (in_set so_far k v i) still
      other in
      subst (λ (u : ℕ). IsInMap L (so_far ++ t ∷ []) stores k u)
      (one_value so_far (t ∷ rest) is k (value_at (length (so_far ++ t ∷ [])) stores still.slot) v was i)
      (with_value (so_far ++ t ∷ []) k still)

  -- a turn that is no won swap swaps no leaf
  none_swapped : (t : Turn) → is_won_swap t.event t.outcome ≡ false → (m : Memory) (x : ℕ) (ns : List NodeId)
      (s : IsWonSwap m t.event ns) → t.outcome ≡ Ok (Cut ns) → x ≡ s.old → ⊥
  none_swapped t plain m x ns s won at = true≢false (sym (λ i. is_won_swap (s.is_swap i) (won i)) ∙ plain)

  no_put : (so_far rest : List Turn) (t : Turn) → turns ≡ so_far ++ t ∷ rest → (m : PlainMap) → HasJust so_far m
      → is_won_swap t.event t.outcome ≡ false → PutPart so_far t m
  no_put so_far rest t is m had plain = record {
    ys = [];
    are_puts = λ x at. absurd at;
    gives = tt;
    order = tt;
    at = λ x at. absurd at;
    agree = agree_of so_far m had;
    kept = λ k v is_key still has.
        let i = (had k v is_key).0 has in
        kept_over so_far rest t is k v i still (none_swapped t plain (words_after L so_far) i.slot);
    back = λ _ k v is_key has. (had k v is_key).0 has;
    swaps = λ w p side old new ns is_swap.
        absurd (true≢false (sym (λ i. is_won_swap ((is_swap i).event) ((is_swap i).outcome)) ∙ plain));
    replaces = λ x at. absurd at;
  }

  module _ (so_far rest : List Turn) (w p : ℕ) (side : Side) (old new : ℕ) (ns : List NodeId)
      (is : turns ≡ so_far ++ answered_turn w (Swap p side old new) (Cut ns) ∷ rest) (m : PlainMap)
      (had : HasJust so_far m) where
    abbrev swap : Turn
    swap = answered_turn w (Swap p side old new) (Cut ns)

    abbrev now : List Turn
    now = so_far ++ swap ∷ []

    shown : SwapShown L so_far w p side old new ns
    shown = swap_shown L fits events keys so_far rest w p side old new ns is

    abbrev old_value : ℕ
    old_value = value_at (length so_far) stores old

    abbrev new_value : ℕ
    new_value = value_at (length now) stores new

    abbrev found_old : IsInMap L so_far stores shown.of_key old_value
    found_old = record {
      slot = old;
      reached = shown.old_reached;
      leaf = shown.old_leaf;
      has_key = shown.old_key;
      has_value = refl;
    }

    abbrev left_new : IsInMap L now stores shown.of_key new_value
    left_new = record {
      slot = new;
      reached = shown.new_reached;
      leaf = shown.new_leaf;
      has_key = shown.new_key;
      has_value = refl;
    }

    abbrev act : Act
    act = record {
      worker = w;
      pin = shown.pin;
      op = Insert;
      key = shown.of_key;
      answer = false;
      moment = length
          so_far + 1;
    }

    abbrev its_put : MapAct
    its_put = record { act = act; value = old_value; left = Some new_value }

    -- the worker had stored the new value
    its_store : IsStored stores w (length (part_of w so_far)) new
    its_store = held.swapped so_far (rest ++ held.from.more) w p side old new ns
        (held.from.is
        ∙ (ap (λ (ts : List Turn). ts ++ held.from.more) is ∙ append_assoc so_far (swap ∷ rest) held.from.more))

    its_value : its_store.stored.value ≡ new_value
    its_value =
        sym (value_until_cut L fits events keys so_far [] rest w (Swap p side old new) (Cut ns) swap refl
        (is ∙ sym (append_assoc so_far (swap ∷ []) rest)) new shown.new_reached none_cut stores
        (held_in_all L fits turns events stores held) held.order its_store)
        ∙ ap (λ (ts : List Turn). value_at (length ts) stores new) (append-nil now)
      where
        none_cut : NoneCuts [] new
        none_cut before since t e c =
            absurd (let long = ap (λ (ts : List Turn). length ts) e ∙ length-append before (t ∷ since) in
            omega (arith, long))

    is_put : IsPutOf L stores so_far w old new swap its_put
    is_put = record {
      worker = refl;
      moment = refl;
      call = shown.call;
      op = refl;
      answer = refl;
      found = found_old;
      in_old = refl;
      value = new_value;
      leaves = refl;
      left = left_new;
      in_new = refl;
      stored = its_store;
      same = its_value;
    }

    kept_then : (k v : ℕ) → IsKey k → InSet (words_after L now) k → map_after m (its_put ∷ []) k ≡ Some v
        → IsInMap L now stores k v
    kept_then k v is_key still has = by (k == shown.of_key) refl has
      where
        old_of : (q : ℕ) (g : Side) (a b : ℕ) → Swap p side old new ≡ Swap q g a b → a ≡ old
        old_of q g a b e = cc

        by : (b : Bool) → (k == shown.of_key) ≡ b → cond b (Some new_value) (m k) ≡ Some v → IsInMap L now stores k v
        by true same e = subst (λ (j : ℕ). IsInMap L now stores j v) (sym (eqb-true k shown.of_key same))
            (subst (λ (u : ℕ). IsInMap L now stores shown.of_key u) (same_Some new_value v e) left_new)
        by false apart e =
            let i = (had k v is_key).0 e in
            kept_over so_far rest swap is k v i still
            (λ ms won told at. true≢false
            (sym (eq-eqb k shown.of_key
            (sym i.has_key ∙ (ap (λ (x : ℕ). (node (words_after L so_far) x).key)
            (at ∙ old_of won.parent won.side won.old won.new won.is_swap) ∙ shown.old_key))) ∙ apart))

    put_part : PutPart so_far swap m
    put_part = record {
      ys = its_put ∷ [];
      are_puts = are_puts;
      gives = ((had shown.of_key old_value shown.is_key).1 found_old, tt);
      order = ((λ y at. absurd at), tt);
      at = at;
      agree = agree_put (InSet (words_after L so_far)) m act old_value new_value
          (in_set so_far shown.of_key old_value found_old)
          (agree_of so_far m had);
      kept = kept_then;
      back = λ plain. absurd (true≢false plain);
      swaps = λ u q g a b ms e. (its_put, inl refl, of_swap u q g a b ms e);
      replaces = replaces;
    }
      where
        are_puts : (x : MapAct) → In (its_put ∷ []) x → (is_plain x ≡ false) × (x.act.answer ≡ false)
        are_puts x (inl e) = (ap is_plain (sym e), ap (λ (y : MapAct). y.act.answer) (sym e))
        are_puts x (inr none') = absurd none'

        at : (x : MapAct) → In (its_put ∷ []) x → x.act.moment ≡ length so_far + 1
        at x (inl e) = ap (λ (y : MapAct). y.act.moment) (sym e)
        at x (inr none') = absurd none'

        replaces : (x : MapAct) → In (its_put ∷ []) x → PutsBySwap L turns stores x
        replaces x (inl e) = subst (PutsBySwap L turns stores) e (record {
          before = so_far;
          since = rest;
          parent = p;
          side = side;
          old = old;
          new = new;
          nodes = ns;
          are = is;
          is = is_put;
        })
        replaces x (inr none') = absurd none'

        of_swap : (u q : ℕ) (g : Side) (a b : ℕ) (ms : List NodeId) → swap ≡ answered_turn u (Swap q g a b) (Cut ms)
            → IsPutOf L stores so_far u a b (answered_turn u (Swap q g a b) (Cut ms)) its_put
        of_swap u q g a b ms e =
            let event : Swap p side old new ≡ Swap q g a b = ap (λ (t : Turn). t.event) e in
            let worker : w ≡ u = ap (λ (t : Turn). t.worker) e in
            let olds : old ≡ a = cc in
            let news : new ≡ b = cc in
            subst (λ (t : Turn). IsPutOf L stores so_far u a b t its_put) e
            (subst (λ (x : ℕ). IsPutOf L stores so_far x a b swap its_put) worker
            (subst (λ (x : ℕ). IsPutOf L stores so_far w x b swap its_put) olds
            (subst (λ (x : ℕ). IsPutOf L stores so_far w old x swap its_put) news is_put)))

  put_of : (so_far rest : List Turn) (t : Turn) → turns ≡ so_far ++ t ∷ rest → (m : PlainMap) → HasJust so_far m
      → PutPart so_far t m
  put_of so_far rest t is m had = by (swap_or_not t.event t.outcome)
    where
      by : IsSwapOf t.event t.outcome ⊎ (is_won_swap t.event t.outcome ≡ false) → PutPart so_far t m
      by (inr plain) = no_put so_far rest t is m had plain
      by (inl s) =
          let same : t ≡ answered_turn t.worker (Swap s.parent s.side s.old s.new) (Cut s.nodes)
          = λ i. record { worker = t.worker; event = s.is i; outcome = s.won i } in
          subst (λ (u : Turn). PutPart so_far u m) (sym same)
          (put_part so_far rest t.worker s.parent s.side s.old s.new s.nodes
          (is ∙ ap (λ (u : Turn). so_far ++ u ∷ rest) same) m had)

  -- ---- what was so far is a history

  record Built (so_far : List Turn) : Type 0 where
    xs : List MapAct
    are : map act_of (filter is_plain xs) ≡ early (length so_far) acts
    gives : GivesEach no_map xs
    order : Sorted xs
    within : (x : MapAct) → In xs x → x.act.moment ≤ length so_far
    holds : (first rest : List Turn) → so_far ≡ first ++ rest → HasJust first (map_at xs (length first))
    puts : (x : MapAct) → In xs x → PutsItsValue L turns stores x
    takes : (x : MapAct) → In xs x → TakesItsValue L turns stores x
    swaps : (before since : List Turn) (w p : ℕ) (side : Side) (old new : ℕ) (ns : List NodeId)
        → so_far ≡ before ++ answered_turn w (Swap p side old new) (Cut ns) ∷ since
        → (a : MapAct) × In xs a
        × IsPutOf L stores before w old new (answered_turn w (Swap p side old new) (Cut ns)) a
    replaces : (x : MapAct) → In xs x → is_plain x ≡ false → PutsBySwap L turns stores x

  at_first : early 0 acts ≡ []
  at_first = none_early 0 acts (λ b at. let least = (moment_within turns b (h.each b at)).0 in omega (arith, least))

  no_turns : (first rest : List Turn) → [] ≡ first ++ rest → first ≡ []
  no_turns [] rest is = refl
  no_turns (t ∷ first) rest is = absurd (let long = ap (λ (ts : List Turn). length ts) is in omega (arith, long))

  nothing_built : Built []
  nothing_built = record {
    xs = [];
    are = sym at_first;
    gives = tt;
    order = tt;
    within = λ x at. absurd at;
    holds = λ first rest is. subst (λ (ts : List Turn). HasJust ts no_map) (sym (no_turns first rest is)) has_none;
    puts = λ x at. absurd at;
    takes = λ x at. absurd at;
    swaps = λ before since w p side old new ns is.
        absurd (let long = ap (λ (ts : List Turn). length ts) is
        ∙ length-append before (answered_turn w (Swap p side old new) (Cut ns) ∷ since) in omega (arith, long));
    replaces = λ x at. absurd at;
  }
    where
      has_none : HasJust [] no_map
      has_none k v is_key = (
        λ is. absurd (none-some v is),
        λ i. absurd ((subst (λ (l : List Act). Replays nothing l (InSet (words_after L []))) at_first
            (h.moments [] turns refl) k is_key).1 (in_set [] k v i)),
      )

  -- ---- one turn more

  module _ (so_far rest : List Turn) (t : Turn) (is : turns ≡ so_far ++ t ∷ rest) (b : Built so_far) where
    abbrev next : List Turn
    next = so_far ++ t ∷ []

    split : turns ≡ next ++ rest
    split = is ∙ sym (append_assoc so_far (t ∷ []) rest)

    one_more : length next ≡ length so_far + 1
    one_more = length-append so_far (t ∷ [])

    abbrev m0 : PlainMap
    m0 = map_after no_map b.xs

    had : HasJust so_far m0
    had = subst (λ (l : List MapAct). HasJust so_far (map_after no_map l))
        (all_kept (up_to (length so_far)) b.xs (λ x at. le-leb x.act.moment (length so_far) (b.within x at)))
        (b.holds so_far [] (sym (append-nil so_far)))

    part : PutPart so_far t m0
    part = put_of so_far rest t is m0 had

    abbrev m1 : PlainMap
    m1 = map_after m0 part.ys

    abbrev these : List Act
    these = just_at (length next) acts

    acts_are : early (length next) acts ≡ early (length so_far) acts ++ these
    acts_are = split_early (length so_far) (length next) one_more acts rising

    replay : Replays (InSet (words_after L so_far)) these (InSet (words_after L next))
    replay = replays_rest nothing (InSet (words_after L so_far)) (InSet (words_after L next))
        (early (length so_far) acts) these (h.moments so_far (t ∷ rest) is)
        (subst (λ (l : List Act). Replays nothing l (InSet (words_after L next))) acts_are (h.moments next rest split))

    -- the value of an insert is the one that its key has right after its moment, and right before it
    abbrev Good : Act → ℕ → Type 0
    Good a v = (InSet (words_after L next) a.key → IsInMap L next stores a.key v)
        × (is_won_swap t.event t.outcome ≡ false → InSet (words_after L so_far) a.key
        → IsInMap L so_far stores a.key v)

    choose : (a : Act) → IsAmong these a → (v : ℕ) × Good a v
    choose a among = by (there_or_not next rest split a.key is_key)
        (there_or_not so_far (t ∷ rest) is a.key is_key)
      where
        is_key : IsKey a.key
        is_key = is_key_of a (from_just_at (length next) acts a among).0

        by : InSet (words_after L next) a.key ⊎ (InSet (words_after L next) a.key → ⊥)
            → InSet (words_after L so_far) a.key ⊎ (InSet (words_after L so_far) a.key → ⊥) → (v : ℕ) × Good a v
        by (inl i) was = (
          value_at (length next) stores i.slot,
          (
            λ j. with_value next a.key i,
            λ plain j. same_over_turn L fits events keys turns stores held so_far rest t is a.key j i
                (none_swapped t plain (words_after L so_far) j.slot),
          ),
        )
        by (inr gone) (inl i) = (
          value_at (length so_far) stores i.slot,
          (λ j. absurd (gone j), λ plain j. with_value so_far a.key i),
        )
        by (inr gone) (inr none') = (0, (λ j. absurd (gone j), λ plain j. absurd (none' j)))

    calls : Valued m1 these (InSet (words_after L next)) Good
    calls = valued Good these (InSet (words_after L so_far)) (InSet (words_after L next)) m1 part.agree replay choose

    abbrev m2 : PlainMap
    m2 = map_after m1 calls.xs

    of_these : (x : MapAct) → In calls.xs x → IsAmong acts x.act × (x.act.moment ≡ length next)
    of_these x at = from_just_at (length next) acts x.act
        (subst (λ (l : List Act). IsAmong l x.act) calls.are (act_in calls.xs x at))

    is_call : (x : MapAct) → In calls.xs x → is_plain x ≡ true
    is_call x at = ap (λ (l : Option ℕ). is_none l) (calls.plain x at)

    -- an act of this moment that puts a value there
    put_now : (k u : ℕ) (xs : List MapAct) → ((x : MapAct) → In xs x → In calls.xs x) → (front back : List MapAct)
        (a : MapAct) → xs ≡ front ++ a ∷ back → PutsThere a u → a.act.key ≡ k
        → In calls.xs a × (a.act.op ≡ Insert) × (a.act.answer ≡ true) × (a.value ≡ u)
    put_now k u xs among front back a are (inl (left, o, true', val)) key = (
      among a (subst (λ (l : List MapAct). In l a) (sym are) (in_right front (a ∷ back) a (inl refl))),
      o,
      true',
      val,
    )
    put_now k u xs among front back a are (inr left) key =
        let at = among a (subst (λ (l : List MapAct). In l a) (sym are) (in_right front (a ∷ back) a (inl refl))) in
        absurd (none-some u (sym (calls.plain a at) ∙ left))

    has_then : (k u : ℕ) → IsKey k → m2 k ≡ Some u → IsInMap L next stores k u
    has_then k u is_key has = by (last_of calls.xs m1 k)
      where
        there : InSet (words_after L next) k
        there = (calls.agree k is_key).1 u has

        by : Last calls.xs m1 k → IsInMap L next stores k u
        by (Untouched none') = part.kept k u is_key there (sym (untouched calls.xs m1 k none') ∙ has)
        by (Taken gone) = absurd (none-some u (sym gone ∙ has))
        by (Put front back a x are puts e none') =
            let p = put_now k x calls.xs (λ y at. at) front back a are puts e in
            let same : x ≡ u = same_Some x u (sym (put_last front back a m1 k x puts e none')
            ∙ (ap (λ (l : List MapAct). map_after m1 l k) (sym are) ∙ has)) in
            subst (λ (y : ℕ). IsInMap L next stores k y) (p.3 ∙ same)
            (subst (λ (j : ℕ). IsInMap L next stores j a.value) e
            ((calls.good a p.0 p.1 p.2).0 (subst (InSet (words_after L next)) (sym e) there)))

    has_just : HasJust next m2
    has_just k u is_key = (
      has_then k u is_key,
      λ i.
          let r = (calls.agree k is_key).0 (in_set next k u i) in
          r.1 ∙ ap (λ (y : ℕ). Some y) (one_value next rest split k r.0 u (has_then k r.0 is_key r.1) i),
    )

    abbrev all : List MapAct
    all = b.xs ++ (part.ys ++ calls.xs)

    late : (y : MapAct) → In (part.ys ++ calls.xs) y → y.act.moment ≡ length so_far + 1
    late y at = by (in_parts part.ys calls.xs y at)
      where
        by : In part.ys y ⊎ In calls.xs y → y.act.moment ≡ length so_far + 1
        by (inl put) = part.at y put
        by (inr call) = (of_these y call).1 ∙ one_more

    all_within : (x : MapAct) → In all x → x.act.moment ≤ length next
    all_within x at = by (in_parts b.xs (part.ys ++ calls.xs) x at)
      where
        by : In b.xs x ⊎ In (part.ys ++ calls.xs) x → x.act.moment ≤ length next
        by (inl old) = let le = b.within x old in let long = one_more in omega (arith, le, long)
        by (inr more) = let is' = late x more in let long = one_more in omega (arith, is', long)

    all_are : map act_of (filter is_plain all) ≡ early (length next) acts
    all_are =
        ap (map act_of)
        (filter_parts is_plain b.xs (part.ys ++ calls.xs)
        ∙ ap (λ (l : List MapAct). filter is_plain b.xs ++ l)
        (filter_parts is_plain part.ys calls.xs
        ∙ (λ i. none_kept is_plain part.ys (λ x at. (part.are_puts x at).0) i ++ all_kept is_plain calls.xs is_call i)))
        ∙ (map-append act_of (filter is_plain b.xs) calls.xs
        ∙ ((λ i. b.are i ++ calls.are i) ∙ sym acts_are))

    all_gives : GivesEach no_map all
    all_gives = gives_join b.xs (part.ys ++ calls.xs) no_map b.gives
        (gives_join part.ys calls.xs m0 part.gives calls.gives)

    all_order : Sorted all
    all_order =
        sorted_join b.xs (part.ys ++ calls.xs) b.order
        (sorted_join part.ys calls.xs part.order
        (sorted_same (length next) calls.xs (λ x at. ((of_these x at).1, calls.plain x at)))
        (λ x y at there.
        let m = part.at x at in
        let n = (of_these y there).1 in
        let long = one_more in
        (omega (arith, m, n, long), λ put. absurd (true≢false (sym (is_call y there) ∙ put)))))
        (λ x y at there.
        let le = b.within x at in
        let m = late y there in
        (omega (arith, le, m), λ put. omega (arith, le, m)))

    all_holds : (first last : List Turn) → next ≡ first ++ last → HasJust first (map_at all (length first))
    all_holds first last e = by (cases_lt (length so_far) (length first))
      where
        size : length next ≡ length first + length last
        size = ap (λ (ts : List Turn). length ts) e ∙ length-append first last

        by : (length so_far < length first) ⊎ (length first ≤ length so_far)
            → HasJust first (map_at all (length first))
        by (inl less) =
            let same : next ≡ first = same_first next first [] last (append-nil next ∙ e)
            (let long = one_more in let s = size in omega (arith, less, long, s)) in
            subst (λ (ts : List Turn). HasJust ts (map_at all (length ts))) same
            (subst (λ (l : List MapAct). HasJust next (map_after no_map l))
            (sym (all_kept (up_to (length next)) all
            (λ x at. le-leb x.act.moment (length next) (all_within x at))))
            (subst (HasJust next) (sym (after_join b.xs (part.ys ++ calls.xs) no_map
            ∙ after_join part.ys calls.xs m0)) has_just))
        by (inr le) =
            let mid = begins_with first last so_far (t ∷ []) (sym e) le in
            subst (λ (l : List MapAct). HasJust first (map_after no_map l))
            (sym (filter_parts (up_to (length first)) b.xs (part.ys ++ calls.xs)
            ∙ (ap (λ (l : List MapAct). filter (up_to (length first)) b.xs ++ l)
            (none_kept (up_to (length first)) (part.ys ++ calls.xs)
            (λ y at. lt-leb y.act.moment (length first) (let m = late y at in omega (arith, m, le))))
            ∙ append-nil (filter (up_to (length first)) b.xs))))
            (b.holds first mid.0 mid.1)

    all_puts : (x : MapAct) → In all x → PutsItsValue L turns stores x
    all_puts x at = by (in_parts b.xs (part.ys ++ calls.xs) x at)
      where
        of_call : In calls.xs x → PutsItsValue L turns stores x
        of_call at o true' first last is' size u i =
            let same : next ≡ first = same_first next first rest last (sym split ∙ is')
            (sym (size ∙ (of_these x at).1)) in
            let j : IsInMap L next stores x.act.key u
            = subst (λ (ts : List Turn). IsInMap L ts stores x.act.key u) (sym same) i in
            one_value next rest split x.act.key x.value u
            ((calls.good x at o true').0 (in_set next x.act.key u j)) j

        more : In part.ys x ⊎ In calls.xs x → PutsItsValue L turns stores x
        more (inl put) = λ o true' first last is' size u i.
            absurd (true≢false (sym true' ∙ (part.are_puts x put).1))
        more (inr call) = of_call call

        by : In b.xs x ⊎ In (part.ys ++ calls.xs) x → PutsItsValue L turns stores x
        by (inl old) = b.puts x old
        by (inr there) = more (in_parts part.ys calls.xs x there)

    -- what a delete of this moment has found
    found_before : (x : MapAct) → In calls.xs x → x.act.op ≡ Delete → x.act.answer ≡ true
        → is_won_swap t.event t.outcome ≡ false → InSet (words_after L so_far) x.act.key
        → IsInMap L so_far stores x.act.key x.value
    found_before x at o true' plain was = by front_is.0 front_is.1 front_is.2
      where
        front_is : (front back : List MapAct) × (calls.xs ≡ front ++ x ∷ back)
        front_is = split_in calls.xs x at

        is_key : IsKey x.act.key
        is_key = is_key_of x.act (of_these x at).0

        by : (front back : List MapAct) → calls.xs ≡ front ++ x ∷ back → IsInMap L so_far stores x.act.key x.value
        by front back are = last (last_of front m1 x.act.key)
          where
            found : map_after m1 front x.act.key ≡ Some x.value
            found = gives_at front back x m1 (subst (GivesEach m1) are calls.gives)
                ∙ (λ i. found_by (o i) (true' i) x.value)

            last : Last front m1 x.act.key → IsInMap L so_far stores x.act.key x.value
            last (Untouched none') = part.back plain x.act.key x.value is_key
                (sym (untouched front m1 x.act.key none') ∙ found)
            last (Taken gone) = absurd (none-some x.value (sym gone ∙ found))
            last (Put f g a u parts puts e none') =
                let p = put_now x.act.key u front
                (λ y there. subst (λ (l : List MapAct). In l y) (sym are) (in_left front (x ∷ back) y there))
                f g a parts puts e in
                let same : u ≡ x.value = same_Some u x.value
                (sym (put_last f g a m1 x.act.key u puts e none')
                ∙ (ap (λ (l : List MapAct). map_after m1 l x.act.key) (sym parts) ∙ found)) in
                subst (λ (y : ℕ). IsInMap L so_far stores x.act.key y) (p.3 ∙ same)
                (subst (λ (j : ℕ). IsInMap L so_far stores j a.value) e
                ((calls.good a p.0 p.1 p.2).1 plain (subst (InSet (words_after L so_far)) (sym e) was)))

    all_takes : (x : MapAct) → In all x → TakesItsValue L turns stores x
    all_takes x at = by (in_parts b.xs (part.ys ++ calls.xs) x at)
      where
        of_call : In calls.xs x → TakesItsValue L turns stores x
        of_call at o true' first last u is' size plain w i =
            let same = same_split so_far first rest last t u (sym is ∙ is')
            (let m = (of_these x at).1 in let long = one_more in omega (arith, size, m, long)) in
            let j : IsInMap L so_far stores x.act.key w
            = subst (λ (ts : List Turn). IsInMap L ts stores x.act.key w) (sym same.0) i in
            one_value so_far (t ∷ rest) is x.act.key x.value w
            (found_before x at o true' (ap (λ (y : Turn). is_won_swap y.event y.outcome) same.1 ∙ plain)
            (in_set so_far x.act.key w j)) j

        more : In part.ys x ⊎ In calls.xs x → TakesItsValue L turns stores x
        more (inl put) = λ o true' first last u is' size plain w i.
            absurd (true≢false (sym true' ∙ (part.are_puts x put).1))
        more (inr call) = of_call call

        by : In b.xs x ⊎ In (part.ys ++ calls.xs) x → TakesItsValue L turns stores x
        by (inl old) = b.takes x old
        by (inr there) = more (in_parts part.ys calls.xs x there)

    module _ (before since : List Turn) (w p : ℕ) (side : Side) (old new : ℕ) (ns : List NodeId)
        (e : so_far ++ t ∷ [] ≡ before ++ answered_turn w (Swap p side old new) (Cut ns) ∷ since) where
      abbrev its_swap : Turn
      its_swap = answered_turn w (Swap p side old new) (Cut ns)

      size : length next ≡ length before + length (its_swap ∷ since)
      size = ap (λ (ts : List Turn). length ts) e ∙ length-append before (its_swap ∷ since)

      all_swaps : (a : MapAct) × In all a × IsPutOf L stores before w old new its_swap a
      all_swaps = by (cases_lt (length before) (length so_far))
        where
          by : (length before < length so_far) ⊎ (length so_far ≤ length before)
              → (a : MapAct) × In all a × IsPutOf L stores before w old new its_swap a
          by (inl less) =
              let long = length-append before (its_swap ∷ []) in
              let mid = begins_with (before ++ its_swap ∷ []) since so_far (t ∷ [])
              (append_assoc before (its_swap ∷ []) since ∙ sym e) (omega (arith, long, less)) in
              let r = b.swaps before mid.0 w p side old new ns (mid.1 ∙ append_assoc before (its_swap ∷ []) mid.0) in
              (r.0, in_left b.xs (part.ys ++ calls.xs) r.0 r.1, r.2)
          by (inr le) =
              let same = same_split so_far before [] since t its_swap e
              (let s = size in let long = one_more in omega (arith, le, s, long)) in
              let r = part.swaps w p side old new ns same.1 in (
                r.0,
                in_right b.xs (part.ys ++ calls.xs) r.0 (in_left part.ys calls.xs r.0 r.1),
                subst (λ (ts : List Turn). IsPutOf L stores ts w old new its_swap r.0) same.0 r.2,
              )

    all_replaces : (x : MapAct) → In all x → is_plain x ≡ false → PutsBySwap L turns stores x
    all_replaces x at put = by (in_parts b.xs (part.ys ++ calls.xs) x at)
      where
        more : In part.ys x ⊎ In calls.xs x → PutsBySwap L turns stores x
        more (inl there) = part.replaces x there
        more (inr call) = absurd (true≢false (sym (is_call x call) ∙ put))

        by : In b.xs x ⊎ In (part.ys ++ calls.xs) x → PutsBySwap L turns stores x
        by (inl old) = b.replaces x old put
        by (inr there) = more (in_parts part.ys calls.xs x there)

    built_next : Built (so_far ++ t ∷ [])
    built_next = record {
      xs = all;
      are = all_are;
      gives = all_gives;
      order = all_order;
      within = all_within;
      holds = all_holds;
      puts = all_puts;
      takes = all_takes;
      swaps = all_swaps;
      replaces = all_replaces;
    }

  build : (rest so_far : List Turn) → turns ≡ so_far ++ rest → Built so_far → Built turns
  build [] so_far is b = subst Built (sym (is ∙ append-nil so_far)) b
  build (t ∷ rest) so_far is b =
      build rest (so_far ++ t ∷ []) (is ∙ sym (append_assoc so_far (t ∷ []) rest)) (built_next so_far rest t is b)

  made : Built turns
  made = build turns [] refl nothing_built

  pub map_history : (xs : List MapAct) × IsMapHistory L turns stores acts xs
  map_history = (
    made.xs,
    record {
      are = made.are ∙ all_early (length turns) acts (λ a at. (moment_within turns a (h.each a at)).1);
      gives = made.gives;
      in_order = all_pairs made.xs made.order;
      moments = λ so_far rest is. made.holds so_far rest is;
      puts = all_in (PutsItsValue L turns stores) made.xs made.puts;
      takes = all_in (TakesItsValue L turns stores) made.xs made.takes;
      swaps = λ before since w p side old new ns is.
          let r = made.swaps before since w p side old new ns is in (r.0, contains_in made.xs r.0 r.1, r.2);
      replaces = λ a there. made.replaces a (contained_in made.xs a there);
    },
  )

pub histories_are_of_maps : HistoriesAreOfMaps
histories_are_of_maps L fits events keys was stores held = (
  subst (HasHistory L) (sym p.first_is) (history_of_run L fits p.early first),
  λ acts h. of_acts acts
      (subst (λ (ts : List Turn). IsHistory L ts acts) p.first_is h),
)
  where
    p : Parts (ordered L) events held.until held.ends.more
    p = parts_of (ordered L) events held.until held.ends.more held.ends.is

    first : All (λ t. HasKey t.1) p.early
    first = first_keys p.early p.late (subst (λ (ts : List (ℕ × Event)). All (λ t. HasKey t.1) ts) p.all keys)

    whole : HoldsStores L held.until held.until stores
    whole = record {
      until = held.until;
      from = goes_on_itself held.until;
      ends = goes_on_itself held.until;
      held = held.held;
      linked = held.linked;
      swapped = held.swapped;
      order = held.order;
    }

    of_acts : (acts : List Act) → IsHistory L (trace_in (ordered L) p.early) acts
        → (xs : List MapAct) × IsMapHistory L held.until stores acts xs
    of_acts acts h =
        let holds : HoldsStores L (trace_in (ordered L) p.early) (trace_in (ordered L) p.early) stores = subst
        (λ (ts : List Turn). HoldsStores L ts ts stores) p.first_is whole in
        let r = map_history L fits p.early first stores holds acts h in
        (r.0, subst (λ (ts : List Turn). IsMapHistory L ts stores acts r.0) (sym p.first_is) r.1)

pub gets_are_of_the_map : GetsAreOfTheMap
gets_are_of_the_map L ts stores acts valued h so_far rest is k is_key (Some v) gives =
    (h.moments so_far rest is k v is_key).1 gives
gets_are_of_the_map L ts stores acts valued h so_far rest is k is_key None gives = go
    (map_at valued (length so_far) k) refl
  where
    go : (o : Option ℕ) → map_at valued (length so_far) k ≡ o → o ≡ None
    go None at = refl
    go (Some v) at = absurd (gives v ((h.moments so_far rest is k v is_key).0 at))

pub values_were_put : ValuesWerePut
values_were_put valued n k v has = by (last_of now no_map k)
  where
    now : List MapAct
    now = filter (up_to n) valued

    by : Last now no_map k → (a : MapAct) × Contains valued a × PutsThere a v × (a.act.key ≡ k) × (a.act.moment ≤ n)
    by (Untouched none') = absurd (none-some v (sym (untouched now no_map k none') ∙ has))
    by (Taken gone) = absurd (none-some v (sym gone ∙ has))
    by (Put front back a u are puts e none') =
        let there = from_filter (up_to n) valued a (subst (λ (l : List MapAct). In l a) (sym are)
        (in_right front (a ∷ back) a (inl refl))) in
        let same : u ≡ v = same_Some u v (sym (put_last front back a no_map k u puts e none')
        ∙ (ap (λ (l : List MapAct). map_after no_map l k) (sym are) ∙ has)) in (
          a,
          contains_in valued a there.0,
          subst (PutsThere a) same puts,
          e,
          leb-true a.act.moment n there.1,
        )
