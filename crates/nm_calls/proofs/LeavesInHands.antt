-- A leaf with a store is in its worker's hands until the link or the swap that puts it in, and a path from
-- the root reaches it right after: by turns with the headline alone.
use Rattle.std.proofs.Common.{◌≡◌, ◌⊎◌, inl, inr, ℕ, zero, suc, ◌+◌, ◌-◌, ◌<◌, ◌≤◌, ◌==◌, ◌&&◌, ◌||◌, not, Bool, true, false, cond, List, [], ◌∷◌, ◌++◌, append-nil, append_assoc, length, length-set, refl, sym, ap, subst, ◌∙◌, arith, true≢false}
use Rattle.std.specs.Prelude.{Contains, None, Ok, Err, Option, Result, Some, filter, option_map, slice_get}
use Rattle.std.proofs.lemmas.Bool.{cases_lt, eq-eqb, eqb-true}
use Rattle.std.proofs.lemmas.List.{get_or_past, length-append, length-replicate}
use Rattle.std.proofs.lemmas.List.Elements.{All-contains, Contains-append_cases}
use Rattle.std.proofs.lemmas.Option.{none-some, same_Some}
use Rattle.nm_edge.specs.Layouts.{Layout}
use Rattle.nm_edge.specs.declared.edge.Side.{Side}
use Rattle.nm_edge.specs.declared.edge.Side.TheVariants.{Left, Right}
use Rattle.nm_edge.specs.declared.node.NodeId.{NodeId}
use Rattle.nm_model.specs.declared.event.Event.{Event}
use Rattle.nm_model.specs.declared.event.Event.TheVariants.{Advance, Announce, Claim, Fill, Flag, Give, Leave, LeaveWith, Link, Splice, Swap, Tag}
use Rattle.nm_model.specs.declared.event.Field.TheVariants.{Birth, Edge as EdgeOn, Key}
use Rattle.nm_model.specs.declared.reply.Reply.{Reply}
use Rattle.nm_model.specs.declared.reply.Reply.TheVariants.{Announced, Claimed, Cut, Departed, Filled, Flagged, Freed, Linked, Moved, Returned, Was}
use Rattle.nm_model.specs.declared.reply.Refused.{Refused}
use Rattle.nm_model.specs.declared.trace.Turn.{Turn}
use Rattle.nm_model.specs.Headline.{Headline, OnePlace, Place, StandsAt, TellsWhatStands, after_turn, cuts_of, freed_by, has_after, is_among, lets_go, slots_of, takes, waits_of, words_after, words_from, written}
use Rattle.nm_model.specs.Headline.Place.{InHands, InPool, OnPath, Waits}
use Rattle.nm_model.specs.Memory.{Memory, child, in_pool, opening, named}
use Rattle.nm_model.specs.Paths.{Reached}
use Rattle.nm_model.specs.Walks.{logged_by}
use Rattle.nm_order.specs.Logs.{is_leaver, part_of, takes_part}
use Rattle.nm_order.proofs.CutTurns.{mapped_among}
use Rattle.nm_order.proofs.RealTime.{begins_with}
use Rattle.nm_theorem.proofs.FreedOfRuns.{cuts-append}
use Rattle.nm_steps.specs.declared.view.Stored.{Stored}
use Rattle.nm_steps.specs.Rules.{answered_turn}
use Rattle.nm_calls.specs.Maps.{HoldsStores, WasInHands}
use Rattle.nm_calls.specs.OnceBack.{HasPutIn, IsStoreOf, LinksIn, SwapsIn}
use Rattle.nm_calls.proofs.OnceBack.{IsAnswered, one_entry, part_append, put_answered, put_named}
use Rattle.nm_calls.proofs.ReachedNodes.{link_keeps_birth, swap_keeps_birth}
use Rattle.nm_calls.proofs.Unheld.{freed_by-append, in_filter, or_right}

-- ---- hands

has_append : (m : Memory) (w x : ℕ) (had : Bool) (ts us : List Turn)
    → has_after m w x had (ts ++ us) ≡ has_after (words_from m ts) w x (has_after m w x had ts) us
has_append m w x had [] us = refl
has_append m w x had (t ∷ ts) us = has_append (after_turn m t) w x
    (cond (t.worker == w) (takes t.event t.outcome x || (had && not (lets_go m t.event t.outcome x))) had) ts us

refused_keeps : (m : Memory) (e : Event) (q : Refused) (x : ℕ) → lets_go m e (Err q) x ≡ false
refused_keeps m (Give s) q x = refl
refused_keeps m (Link p side leaf new) q x = refl
refused_keeps m e q x = refl

-- a worker that makes no turn, or refused ones alone, keeps what it has
quiet_keeps : (w x : ℕ) (ts : List Turn) (m : Memory) → length (part_of w ts) ≡ 0 → has_after m w x true ts ≡ true
quiet_keeps w x [] m none' = refl
quiet_keeps w x (t ∷ ts) m none' = by (t.worker == w) refl t.outcome refl
    (λ had is. ap (λ (b : Bool). has_after (after_turn m t) w x b ts) is
    ∙ quiet_keeps w x ts (after_turn m t) (let sum = sizes in omega (arith, sum, none')))
  where
    sizes : length (part_of w (t ∷ ts)) ≡ length (cond (takes_part w t.worker t.event) (logged_by t) [])
        + length (part_of w ts)
    sizes = length-append (cond (takes_part w t.worker t.event) (logged_by t) []) (part_of w ts)

    here : length (cond (takes_part w t.worker t.event) (logged_by t) []) ≡ 0
    here = let sum = sizes in omega (arith, sum, none')

    entry_by : (e : Event) (u : ℕ) (r : Reply) → length
        (logged_by (record { worker = u; event = e; outcome = Ok r })) ≡ 1
    entry_by e u r = refl

    by : (b : Bool) → (t.worker == w) ≡ b → (o : Result Reply Refused) → t.outcome ≡ o
        → ((had : Bool) → had ≡ true → has_after (after_turn m t) w x had ts ≡ true)
        → has_after (after_turn m t) w x (cond (t.worker == w)
        (takes t.event t.outcome x || (true && not (lets_go m t.event t.outcome x))) true) ts ≡ true
    by false other o is go = go (cond (t.worker == w)
        (takes t.event t.outcome x || (true && not (lets_go m t.event t.outcome x))) true)
        (ap (λ (c : Bool). cond c (takes t.event t.outcome x || (true && not (lets_go m t.event t.outcome x))) true)
        other)
    by true own (Err q) is go =
        go (cond (t.worker == w) (takes t.event t.outcome x || (true && not (lets_go m t.event t.outcome x))) true)
        (ap (λ (c : Bool). cond c (takes t.event t.outcome x || (true && not (lets_go m t.event t.outcome x))) true) own
        ∙ or_right (takes t.event t.outcome x) (not (lets_go m t.event t.outcome x))
        (ap not (ap (λ (o : Result Reply Refused). lets_go m t.event o x) is ∙ refused_keeps m t.event q x)))
    by true own (Ok r) is go =
        absurd (let one = ap (λ (c : Bool). length (cond (c || is_leaver w t.event) (logged_by t) [])) own
        ∙ (ap (λ (o : Result Reply Refused). length (logged_by
        (record { worker = t.worker; event = t.event; outcome = o }))) is ∙ entry_by t.event t.worker r) in
        let zero' = here in omega (arith, one, zero'))

pub still_in_hands : (L : Layout) (w x : ℕ) (before mid : List Turn)
    → length (part_of w (before ++ mid)) ≡ length (part_of w before) → has_after (opening L) w x false before ≡ true
    → has_after (opening L) w x false (before ++ mid) ≡ true
still_in_hands L w x before mid same held =
    has_append (opening L) w x false before mid
    ∙ (ap (λ (b : Bool). has_after (words_after L before) w x b mid) held
    ∙ quiet_keeps w x mid (words_after L before) (let sum = part_append w before mid in omega (arith, sum, same)))

-- ---- a slot in hands is one of the tree

pool_long : (m : Memory) (w : ℕ) (e : Event) (o : Result Reply Refused) → length (written m w e o).pool ≡ length m.pool
pool_long m w Announce (Ok (Announced n)) = refl
pool_long m w Leave (Ok Departed) = refl
pool_long m w (LeaveWith answer) (Ok Departed) = refl
pool_long m w Advance (Ok (Moved n)) = refl
pool_long m w (Claim s) (Ok (Claimed t)) = length-set m.pool s false
pool_long m w (Give s) (Ok (Returned t)) = length-set m.pool s true
pool_long m w (Give s) (Ok (Freed n)) = length-set m.pool s true
pool_long m w (Fill s Key v) (Ok Filled) = refl
pool_long m w (Fill s (EdgeOn side) v) (Ok Filled) = refl
pool_long m w (Fill s Birth v) (Ok Filled) = refl
pool_long m w (Link p side leaf new) (Ok (Linked n)) = refl
pool_long m w (Flag p side leaf) (Ok (Flagged n)) = refl
pool_long m w (Tag p side) (Ok (Was e)) = refl
pool_long m w (Splice a side s p keep) (Ok (Cut ns)) = refl
pool_long m w (Swap p side leaf new) (Ok (Cut ns)) = refl
pool_long m w e o = refl

in_pool_inside : (m : Memory) (x : ℕ) → in_pool m x ≡ true → x < length m.pool
in_pool_inside m x is = elim (cases_lt x (length m.pool)) [
  | inl less ↦ less
  | inr past ↦ absurd (true≢false (sym is ∙ get_or_past m.pool x false past))
]

-- what a turn takes was in the pool
taken_inside : (m : Memory) (w : ℕ) (e : Event) (o : Result Reply Refused) (x : ℕ)
    → ((r : Reply) → o ≡ Ok r → TellsWhatStands m w e r) → takes e o x ≡ true → x < length m.pool
taken_inside m w (Claim s) (Ok (Claimed t)) x reads took = in_pool_inside m x
    (ap (in_pool m) (eqb-true x s took) ∙ (reads (Claimed t) refl).1)
taken_inside m w e o x reads took = absurd (true≢false (sym took))

abbrev Reads : Memory → List Turn → Type 0
Reads m ts = (before rest : List Turn) (t : Turn) (r : Reply) → ts ≡ before ++ t ∷ rest → t.outcome ≡ Ok r
    → TellsWhatStands (words_from m before) t.worker t.event r

held_inside : (w x : ℕ) (ts : List Turn) (m : Memory) (had : Bool) → Reads m ts → (had ≡ true → x < length m.pool)
    → has_after m w x had ts ≡ true → x < length m.pool
held_inside w x [] m had reads inside held = inside held
held_inside w x (t ∷ ts) m had reads inside held =
    subst (λ (n : ℕ). x < n) (pool_long m t.worker t.event t.outcome)
    (held_inside w x ts (after_turn m t) next (λ before rest u r is. reads (t ∷ before) rest u r
    (ap (λ (l : List Turn). t ∷ l) is)) (λ is. subst (λ (n : ℕ). x < n)
    (sym (pool_long m t.worker t.event t.outcome)) (now (t.worker == w) is)) held)
  where
    next : Bool
    next = cond (t.worker == w) (takes t.event t.outcome x || (had && not (lets_go m t.event t.outcome x))) had

    either : (a b c : Bool) → (a || (b && c)) ≡ true → (a ≡ true) ⊎ (b ≡ true)
    either true b c is = inl refl
    either false true c is = inr refl
    either false false c is = absurd (true≢false (sym is))

    now : (b : Bool) → cond b (takes t.event t.outcome x || (had && not (lets_go m t.event t.outcome x))) had ≡ true
        → x < length m.pool
    now false is = inside is
    now true is = elim (either (takes t.event t.outcome x) had (not (lets_go m t.event t.outcome x)) is) [
      | inl took ↦ taken_inside m t.worker t.event t.outcome x (λ r o. reads [] ts t r refl o) took
      | inr had' ↦ inside had'
    ]

pool_size : (L : Layout) → length (opening L).pool ≡ 6 + (L.nodes - 5)
pool_size L = let rest = length-replicate (L.nodes - 5) true in omega (arith, rest)

module _ (L : Layout) (turns : List Turn) (h : Headline L turns) (before late : List Turn)
    (are : turns ≡ before ++ late) (w x : ℕ) (held : has_after (opening L) w x false before ≡ true) where
  pub held_low : 6 ≤ x
  held_low = elim (cases_lt x 6) [
    | inl less ↦ absurd (true≢false (sym held ∙ (h.fixed before late are x (omega (arith, less))).in_hands w))
    | inr most ↦ most
  ]

  pub held_high : x ≤ L.nodes
  held_high =
      let inside = held_inside w x before (opening L) false
      (λ first rest t r is o. h.reads first (rest ++ late) t r
      (are ∙ (ap (λ (ts : List Turn). ts ++ late) is ∙ append_assoc first (t ∷ rest) late)) o)
      (λ none'. absurd (true≢false (sym none'))) held in
      let low = held_low in
      let long = pool_size L in
      omega (arith, inside, low, long)

-- ---- right after the link

none_cut : (b : Bool) → ◌≡◌ {A = List NodeId} (cond b [] [] ++ []) []
none_cut true = refl
none_cut false = refl

same_waits : (u : ℕ) (before : List Turn) (w p : ℕ) (side : Side) (old new : ℕ) (n : NodeId)
    → waits_of u (before ++ answered_turn w (Link p side old new) (Linked n) ∷ []) ≡ waits_of u before
same_waits u before w p side old new n =
    λ i. filter (λ (k : NodeId). not (is_among ((freed_by-append before
    (answered_turn w (Link p side old new) (Linked n) ∷ []) ∙ append-nil (freed_by before)) i) k))
    ((cuts-append u before (answered_turn w (Link p side old new) (Linked n) ∷ [])
    ∙ (ap (λ (l : List NodeId). cuts_of u before ++ l) (none_cut (w == u)) ∙ append-nil (cuts_of u before))) i)

module _ (L : Layout) (turns : List Turn) (h : Headline L turns) (before late : List Turn) (w p : ℕ) (side on : Side)
    (old new : ℕ) (n : NodeId) (are : turns ≡ before ++ answered_turn w (Link p side old new) (Linked n) ∷ late)
    (held : has_after (opening L) w (child (words_after L before) new on) false before ≡ true) where
  abbrev turn : Turn
  turn = answered_turn w (Link p side old new) (Linked n)

  abbrev m : Memory
  m = words_after L before

  abbrev x : ℕ
  x = child m new on

  low : 6 ≤ x
  low = held_low L turns h before (turn ∷ late) are w x held

  most : x ≤ L.nodes
  most = held_high L turns h before (turn ∷ late) are w x held

  was : OnePlace L before x
  was = h.places before (turn ∷ late) are x low most

  apart : (there : Place) → StandsAt L before x there → there ≡ InHands w
  apart there stands = was.only there stands ∙ sym (was.only (InHands w) held)

  words : words_after L (before ++ turn ∷ []) ≡ after_turn m turn
  words = push (opening L) before
    where
      push : (k : Memory) (ts : List Turn) → words_from k (ts ++ turn ∷ []) ≡ after_turn (words_from k ts) turn
      push k [] = refl
      push k (u ∷ ts) = push (after_turn k u) ts

  goes : (d : Side) → ((child m new d == new) || ((child m new d == child m new Left)
      || (child m new d == child m new Right))) ≡ true
  goes Left = or_right (child m new Left == new) ((child m new Left == child m new Left)
      || (child m new Left == child m new Right)) (ap (λ (b : Bool). b || (child m new Left == child m new Right))
      (eq-eqb (child m new Left) (child m new Left) refl))
  goes Right = or_right (child m new Right == new)
      ((child m new Right == child m new Left) || (child m new Right == child m new Right))
      (or_right (child m new Right == child m new Left) (child m new Right == child m new Right)
      (eq-eqb (child m new Right) (child m new Right) refl))

  -- nobody has it in hands then
  unheld : (u : ℕ) → has_after (opening L) u x false (before ++ turn ∷ []) ≡ false
  unheld u = has_append (opening L) u x false before (turn ∷ [])
      ∙ by (w == u) refl (has_after (opening L) u x false before) refl
    where
      lets : (had : Bool) → (had && not ((x == new) || ((x == child m new Left) || (x == child m new Right)))) ≡ false
      lets true = ap not (goes on)
      lets false = refl

      none' : (b : Bool) → (w == u) ≡ false → has_after (opening L) u x false before ≡ b → b ≡ false
      none' false other is = refl
      none' true other is = absurd (same (apart (InHands u) is))
        where
          same : InHands u ≡ InHands w → ⊥
          same e = let one : u ≡ w = cc in true≢false (sym (eq-eqb w u (sym one)) ∙ other)

      by : (b : Bool) → (w == u) ≡ b → (had : Bool) → has_after (opening L) u x false before ≡ had
          → cond (w == u) (false || (has_after (opening L) u x false before
          && not ((x == new) || ((x == child m new Left) || (x == child m new Right)))))
          (has_after (opening L) u x false before) ≡ false
      by true own had is = ap (λ (c : Bool). cond c (false
          || (has_after (opening L) u x false before && not ((x == new)
          || ((x == child m new Left) || (x == child m new Right))))) (has_after (opening L) u x false before)) own
          ∙ lets (has_after (opening L) u x false before)
      by false other had is = ap (λ (c : Bool). cond c
          (false || (has_after (opening L) u x false before
          && not ((x == new) || ((x == child m new Left) || (x == child m new Right)))))
          (has_after (opening L) u x false before)) other ∙ (is ∙ none' had other is)

  pub reached_after_link : Reached (words_after L (before ++ turn ∷ [])) x
  reached_after_link = by one.place one.here
    where
      one : OnePlace L (before ++ turn ∷ []) x
      one = h.places (before ++ turn ∷ []) late (are ∙ sym (append_assoc before (turn ∷ []) late)) x low most

      by : (p : Place) → StandsAt L (before ++ turn ∷ []) x p → Reached (words_after L (before ++ turn ∷ [])) x
      by (OnPath path) here = record {
        path = path;
        ends = here;
        is_slot = λ zero'.
            (let least = low in omega (arith, least, zero'));
      }
      by InPool here = absurd (pooled (apart InPool (ap (λ (k : Memory). in_pool k x) (sym words) ∙ here)))
        where
          pooled : InPool ≡ InHands w → ⊥
          pooled e = cc
      by (InHands u) here = absurd (true≢false (sym here ∙ unheld u))
      by (Waits u i) here = absurd (waits (apart (Waits u i)
          (ap (λ (ns : List NodeId). option_map (λ (k : NodeId). k.slot) (slice_get ns i))
          (sym (same_waits u before w p side old new n)) ∙ here)))
        where
          waits : Waits u i ≡ InHands w → ⊥
          waits e = cc

-- ---- right after a swap

-- a node of those that pass is among all, and passes
pub from_filter : (p : NodeId → Bool) (ns : List NodeId) (i : ℕ) (n : NodeId) → slice_get (filter p ns) i ≡ Some n
    → Contains ns n × (p n ≡ true)
from_filter p [] zero n is = absurd (none-some n is)
from_filter p [] (suc i) n is = absurd (none-some n is)
from_filter p (m ∷ ms) i n is = by (p m) refl i is (λ j. from_filter p ms j n)
  where
    more : Contains ms n × (p n ≡ true) → Contains (m ∷ ms) n × (p n ≡ true)
    more r = let below = r.0.1 in ((suc r.0.0, omega (arith, below), r.0.2), r.1)

    by : (b : Bool) → p m ≡ b → (j : ℕ) → slice_get (cond b (m ∷ filter p ms) (filter p ms)) j ≡ Some n
        → ((k : ℕ) → slice_get (filter p ms) k ≡ Some n → Contains ms n × (p n ≡ true)) → Contains (m ∷ ms) n
        × (p n ≡ true)
    by true passes zero at rest = ((0, omega arith, same_Some m n at), ap p (sym (same_Some m n at)) ∙ passes)
    by true passes (suc j) at rest = more (rest j at)
    by false other j at rest = more (rest j at)

module _ (L : Layout) (turns : List Turn) (h : Headline L turns) (before late : List Turn) (w p : ℕ) (side : Side)
    (old new : ℕ) (ns : List NodeId) (are : turns ≡ before ++ answered_turn w (Swap p side old new) (Cut ns) ∷ late)
    (held : has_after (opening L) w new false before ≡ true) where
  abbrev swap : Turn
  swap = answered_turn w (Swap p side old new) (Cut ns)

  new_low : 6 ≤ new
  new_low = held_low L turns h before (swap ∷ late) are w new held

  new_most : new ≤ L.nodes
  new_most = held_high L turns h before (swap ∷ late) are w new held

  new_apart : (there : Place) → StandsAt L before new there → there ≡ InHands w
  new_apart there stands =
      let was = h.places before (swap ∷ late) are new new_low new_most in
      was.only there stands ∙ sym (was.only (InHands w) held)

  swap_words : words_after L (before ++ swap ∷ []) ≡ after_turn (words_after L before) swap
  swap_words = push (opening L) before
    where
      push : (k : Memory) (ts : List Turn) → words_from k (ts ++ swap ∷ []) ≡ after_turn (words_from k ts) swap
      push k [] = refl
      push k (u ∷ ts) = push (after_turn k u) ts

  -- nobody has it in hands then
  new_unheld : (u : ℕ) → has_after (opening L) u new false (before ++ swap ∷ []) ≡ false
  new_unheld u = has_append (opening L) u new false before (swap ∷ [])
      ∙ by (w == u) refl (has_after (opening L) u new false before) refl
    where
      lets : (had : Bool) → (had && not (new == new)) ≡ false
      lets true = ap not (eq-eqb new new refl)
      lets false = refl

      none' : (b : Bool) → (w == u) ≡ false → has_after (opening L) u new false before ≡ b → b ≡ false
      none' false other is = refl
      none' true other is = absurd (same (new_apart (InHands u) is))
        where
          same : InHands u ≡ InHands w → ⊥
          same e = let one : u ≡ w = cc in true≢false (sym (eq-eqb w u (sym one)) ∙ other)

      by : (b : Bool) → (w == u) ≡ b → (had : Bool) → has_after (opening L) u new false before ≡ had
          → cond (w == u) (false || (has_after (opening L) u new false before && not (new == new)))
          (has_after (opening L) u new false before) ≡ false
      by true own had is = ap (λ (c : Bool). cond c
          (false || (has_after (opening L) u new false before && not (new == new)))
          (has_after (opening L) u new false before)) own ∙ lets (has_after (opening L) u new false before)
      by false other had is = ap (λ (c : Bool). cond c
          (false || (has_after (opening L) u new false before && not (new == new)))
          (has_after (opening L) u new false before)) other ∙ (is ∙ none' had other is)

  -- it is none of the nodes that were cut, nor one that waited
  not_waiting_then : (u i : ℕ) → StandsAt L (before ++ swap ∷ []) new (Waits u i) → ⊥
  not_waiting_then u i here = by (slice_get (waits_of u (before ++ swap ∷ [])) i) refl here
    where
      freed : freed_by (before ++ swap ∷ []) ≡ freed_by before
      freed = freed_by-append before (swap ∷ []) ∙ append-nil (freed_by before)

      cut_or_was : (n : NodeId) → n.slot ≡ new → Contains (cuts_of u before) n
          ⊎ Contains (cond (w == u) ns [] ++ []) n → not (is_among (freed_by before) n) ≡ true → ⊥
      cut_or_was n slot (inl was) passes =
          let there = in_filter (λ (m : NodeId). not (is_among (freed_by before) m)) (cuts_of u before) n was passes in
          waits there.0 (new_apart (Waits u there.0)
          (ap (option_map (λ (m : NodeId). m.slot)) there.1 ∙ ap (λ (x : ℕ). Some x) slot))
        where
          waits : (k : ℕ) → Waits u k ≡ InHands w → ⊥
          waits k e = cc
      cut_or_was n slot (inr now) passes = go (w == u) now
        where
          on_path : (path : List Side) → OnPath path ≡ InHands w → ⊥
          on_path path e = cc

          cut_now : Contains ns n → ⊥
          cut_now c =
              let r = (((h.cuts before late swap are).just new).1
              (subst (Contains (slots_of ns)) slot (mapped_among (λ (m : NodeId). m.slot) ns n c))).was in
              on_path r.path (new_apart (OnPath r.path) r.ends)

          go : (b : Bool) → Contains (cond b ns [] ++ []) n → ⊥
          go true c = cut_now (subst (λ (l : List NodeId). Contains l n) (append-nil ns) c)
          go false c = let below = c.1 in omega (arith, below)

      by : (o : Option NodeId) → slice_get (waits_of u (before ++ swap ∷ [])) i ≡ o
          → option_map (λ (n : NodeId). n.slot) o ≡ Some new → ⊥
      by None is at = absurd (none-some new at)
      by (Some n) is at =
          let f = from_filter (λ (m : NodeId). not (is_among (freed_by (before ++ swap ∷ [])) m))
          (cuts_of u (before ++ swap ∷ [])) i n is in
          cut_or_was n (same_Some n.slot new at)
          (Contains-append_cases (cuts_of u before) (cond (w == u) ns [] ++ []) n
          (subst (λ (l : List NodeId). Contains l n) (cuts-append u before (swap ∷ [])) f.0))
          (ap (λ (fs : List NodeId). not (is_among fs n)) (sym freed) ∙ f.1)

  pub reached_after_swap : Reached (words_after L (before ++ swap ∷ [])) new
  reached_after_swap = by one.place one.here
    where
      one : OnePlace L (before ++ swap ∷ []) new
      one = h.places (before ++ swap ∷ []) late (are ∙ sym (append_assoc before (swap ∷ []) late)) new new_low new_most

      by : (p : Place) → StandsAt L (before ++ swap ∷ []) new p → Reached (words_after L (before ++ swap ∷ [])) new
      by (OnPath path) here = record {
        path = path;
        ends = here;
        is_slot = λ zero'.
            (let least = new_low in omega (arith, least, zero'));
      }
      by InPool here = absurd (pooled (new_apart InPool (ap (λ (k : Memory). in_pool k new) (sym swap_words) ∙ here)))
        where
          pooled : InPool ≡ InHands w → ⊥
          pooled e = cc
      by (InHands u) here = absurd (true≢false (sym here ∙ new_unheld u))
      by (Waits u i) here = absurd (not_waiting_then u i here)

-- ---- a leaf with a store

pub in_hands_then : (L : Layout) (was turns : List Turn) (stores : List Stored) → HoldsStores L was turns stores
    → (x : Stored) → Contains stores x → WasInHands L turns x
in_hands_then L _ turns stores s x there = longer (All-contains (WasInHands L s.until) stores x s.held there)
  where
    longer : WasInHands L s.until x → WasInHands L turns x
    longer g = record {
      before = g.before;
      since = g.since ++ s.ends.more;
      are = s.ends.is ∙ (ap (λ (ts : List Turn). ts ++ s.ends.more) g.are ∙ append_assoc g.before g.since s.ends.more);
      at = g.at;
      own = g.own;
      held = g.held;
    }

-- from the store to the turn that put the leaf in, its worker has taken no step
module _ (L : Layout) (turns : List Turn) (h : Headline L turns) (x : Stored) (leaf : NodeId)
    (is : IsStoreOf L turns x leaf) (hands : WasInHands L turns x) where
  abbrev put_in : HasPutIn L turns x.worker leaf
  put_in = is.put_in

  abbrev its : Turn
  its = put_in.put

  answered : IsAnswered x.worker its
  answered = put_answered L turns x.worker leaf put_in

  pub held_at_put : has_after (opening L) x.worker x.slot false put_in.before ≡ true
  held_at_put = by (cases_lt (length put_in.before) (length hands.before))
    where
      same : length (part_of x.worker hands.before) ≡ length (part_of x.worker put_in.before)
      same = hands.own ∙ is.own

      by : (length put_in.before < length hands.before) ⊎ (length hands.before ≤ length put_in.before)
          → has_after (opening L) x.worker x.slot false put_in.before ≡ true
      by (inr early) =
          let mid = begins_with hands.before hands.since put_in.before (its ∷ put_in.since)
          (sym hands.are ∙ put_in.are) early in
          subst (λ (ts : List Turn). has_after (opening L) x.worker x.slot false ts ≡ true) (sym mid.1)
          (still_in_hands L x.worker x.slot hands.before mid.0
          (ap (λ (ts : List Turn). length (part_of x.worker ts)) (sym mid.1) ∙ sym same) hands.held)
      by (inl late) =
          let long = length-append put_in.before (its ∷ []) in
          let mid = begins_with (put_in.before ++ its ∷ []) put_in.since hands.before hands.since
          (append_assoc put_in.before (its ∷ []) put_in.since ∙ (sym put_in.are ∙ hands.are))
          (omega (arith, late, long)) in
          let sum = ap (λ (ts : List Turn). length (part_of x.worker ts)) mid.1
          ∙ (part_append x.worker (put_in.before ++ its ∷ []) mid.0) in
          let first = part_append x.worker put_in.before (its ∷ []) in
          let one = ap (λ (t : Turn). length (part_of x.worker (t ∷ []))) answered.is
          ∙ one_entry x.worker answered.event answered.reply [] in
          absurd (omega (arith, sum, first, one, same))

  pub leaf_held : has_after (opening L) x.worker leaf.slot false put_in.before ≡ true
  leaf_held = subst (λ (s : ℕ). has_after (opening L) x.worker s false put_in.before ≡ true) is.slot held_at_put

  pub leaf_low : 6 ≤ leaf.slot
  leaf_low = held_low L turns h put_in.before (its ∷ put_in.since) put_in.are x.worker leaf.slot leaf_held

  pub leaf_high : leaf.slot ≤ L.nodes
  leaf_high = held_high L turns h put_in.before (its ∷ put_in.since) put_in.are x.worker leaf.slot leaf_held

  pub leaf_reached : Reached (words_after L (put_in.before ++ its ∷ [])) leaf.slot
  leaf_reached = by put_in.way
    where
      by : LinksIn (words_after L put_in.before) x.worker its leaf
          ⊎ SwapsIn (words_after L put_in.before) x.worker its leaf
          → Reached (words_after L (put_in.before ++ its ∷ [])) leaf.slot
      by (inl l) =
          let slot : leaf.slot ≡ child (words_after L put_in.before) l.new l.on = ap (λ (n : NodeId). n.slot) l.is in
          subst (λ (t : Turn). Reached (words_after L (put_in.before ++ t ∷ [])) leaf.slot) (sym l.is_link)
          (subst (λ (s : ℕ). Reached (words_after L
          (put_in.before ++ answered_turn x.worker (Link l.parent l.side l.old l.new) (Linked l.node) ∷ [])) s)
          (sym slot)
          (reached_after_link L turns h put_in.before put_in.since x.worker l.parent l.side l.on l.old l.new l.node
          (put_in.are ∙ ap (λ (t : Turn). put_in.before ++ t ∷ put_in.since) l.is_link)
          (subst (λ (s : ℕ). has_after (opening L) x.worker s false put_in.before ≡ true) slot leaf_held)))
      by (inr s) =
          subst (λ (t : Turn). Reached (words_after L (put_in.before ++ t ∷ [])) leaf.slot) (sym s.is_swap)
          (reached_after_swap L turns h put_in.before put_in.since x.worker s.parent s.side s.old leaf.slot s.nodes
          (put_in.are ∙ ap (λ (t : Turn). put_in.before ++ t ∷ put_in.since) s.is_swap) leaf_held)

-- right after it its slot has its birth
pub leaf_named : (L : Layout) (turns : List Turn) (x : Stored) (leaf : NodeId) (is : IsStoreOf L turns x leaf)
    → named (words_after L (is.put_in.before ++ is.put_in.put ∷ [])) leaf.slot ≡ leaf
leaf_named L turns x leaf is = by is.put_in.way ∙ sym (put_named L turns x.worker leaf is.put_in)
  where
    by : LinksIn (words_after L is.put_in.before) x.worker is.put_in.put leaf
        ⊎ SwapsIn (words_after L is.put_in.before) x.worker is.put_in.put leaf
        → named (words_after L (is.put_in.before ++ is.put_in.put ∷ [])) leaf.slot ≡ named
        (words_after L is.put_in.before) leaf.slot
    by (inl l) =
        ap (λ (t : Turn). named (words_after L (is.put_in.before ++ t ∷ [])) leaf.slot) l.is_link
        ∙ link_keeps_birth L is.put_in.before x.worker l.parent l.side l.old l.new l.node leaf.slot
    by (inr s) =
        ap (λ (t : Turn). named (words_after L (is.put_in.before ++ t ∷ [])) leaf.slot) s.is_swap
        ∙ swap_keeps_birth L is.put_in.before x.worker s.parent s.side s.old leaf.slot s.nodes leaf.slot
