-- A stored value comes back once: its store is of one leaf, and this leaf is freed once.
use Rattle.std.proofs.Common.{◌≡◌, ◌⊎◌, inl, inr, ℕ, suc, ◌+◌, ◌||◌, Bool, cond, List, [], ◌∷◌, ◌++◌, length, refl, sym, ap, subst, ◌∙◌, arith}
use Rattle.std.specs.Prelude.{Contains}
use Rattle.std.proofs.lemmas.Bool.{eq-eqb}
use Rattle.std.proofs.lemmas.List.{length-append}
use Rattle.nm_edge.specs.Layouts.{Layout}
use Rattle.nm_edge.specs.declared.node.NodeId.{NodeId}
use Rattle.nm_model.specs.declared.event.Event.{Event}
use Rattle.nm_model.specs.declared.event.Event.TheVariants.{Link, Swap}
use Rattle.nm_model.specs.declared.reply.Reply.{Reply}
use Rattle.nm_model.specs.declared.reply.Reply.TheVariants.{Cut, Linked}
use Rattle.nm_model.specs.declared.trace.Turn.{Turn}
use Rattle.nm_model.specs.Headline.{nodes_freed_of, words_after}
use Rattle.nm_model.specs.Memory.{named}
use Rattle.nm_model.specs.Walks.{logged_by}
use Rattle.nm_order.specs.Logs.{is_leaver, part_of, takes_part}
use Rattle.nm_steps.specs.declared.view.Stored.{Stored}
use Rattle.nm_steps.specs.Rules.{answered_turn}
use Rattle.nm_calls.specs.OnceBack.{HasPutIn, IsStoreOf, LinksIn, SwapsIn, ValuesComeBackOnce}
use Rattle.nm_calls.proofs.ComingBack.{nodes_are_freed_once}

-- ---- two places in one list

-- they are one place, or the second one is after the first, or before it
pub data TwoPlaces {X : Type 0} (first since first' since' : List X) (x y : X) : Type 0 where
  AreOne : first ≡ first' → x ≡ y → TwoPlaces first since first' since' x y
  IsLater : (between : List X) → since ≡ between ++ y ∷ since' → first' ≡ first ++ x ∷ between
      → TwoPlaces first since first' since' x y
  IsEarlier : (between : List X) → since' ≡ between ++ x ∷ since → first ≡ first' ++ y ∷ between
      → TwoPlaces first since first' since' x y

head_is : {X : Type 0} (x y : X) (xs ys : List X) → x ∷ xs ≡ y ∷ ys → x ≡ y
head_is x y xs ys e = cc

tail_is : {X : Type 0} (x y : X) (xs ys : List X) → x ∷ xs ≡ y ∷ ys → xs ≡ ys
tail_is x y xs ys e = cc

pub two_places : {X : Type 0} (first since first' since' : List X) (x y : X)
    → first ++ x ∷ since ≡ first' ++ y ∷ since' → TwoPlaces first since first' since' x y
two_places [] since [] since' x y e = AreOne refl (head_is x y since since' e)
two_places [] since (z ∷ zs) since' x y e = IsLater zs (tail_is x z since (zs ++ y ∷ since') e)
    (λ i. sym (head_is x z since (zs ++ y ∷ since') e) i ∷ zs)
two_places (z ∷ zs) since [] since' x y e = IsEarlier zs (sym (tail_is z y (zs ++ x ∷ since) since' e))
    (λ i. head_is z y (zs ++ x ∷ since) since' e i ∷ zs)
two_places (z ∷ zs) since (u ∷ us) since' x y e = further
    (two_places zs since us since' x y (tail_is z u (zs ++ x ∷ since) (us ++ y ∷ since') e))
  where
    head : z ≡ u
    head = head_is z u (zs ++ x ∷ since) (us ++ y ∷ since') e

    further : TwoPlaces zs since us since' x y → TwoPlaces (z ∷ zs) since (u ∷ us) since' x y
    further (AreOne same it) = AreOne (λ i. head i ∷ same i) it
    further (IsLater between is at) = IsLater between is (λ i. sym head i ∷ at i)
    further (IsEarlier between is at) = IsEarlier between is (λ i. head i ∷ at i)

-- ---- the entries of a worker's log before a turn of its own

pub part_append : (w : ℕ) (ts us : List Turn) → length (part_of w (ts ++ us))
    ≡ length (part_of w ts) + length (part_of w us)
part_append w [] us = omega arith
part_append w (t ∷ ts) us =
    let rest = part_append w ts us in
    let here = length-append (cond (takes_part w t.worker t.event) (logged_by t) []) (part_of w (ts ++ us)) in
    let there = length-append (cond (takes_part w t.worker t.event) (logged_by t) []) (part_of w ts) in
    omega (arith, rest, here, there)

pub one_entry : (w : ℕ) (e : Event) (r : Reply) (us : List Turn)
    → length (part_of w (answered_turn w e r ∷ us)) ≡ suc (length (part_of w us))
one_entry w e r us = ap (λ (b : Bool). length (cond (b || is_leaver w e) (logged_by (answered_turn w e r)) []
    ++ part_of w us)) (eq-eqb w w refl)

-- a worker's turns that were not refused have different numbers of its entries before them
pub same_place : (w : ℕ) (e e' : Event) (r r' : Reply) (turns before since before' since' : List Turn)
    → turns ≡ before ++ answered_turn w e r ∷ since → turns ≡ before' ++ answered_turn w e' r' ∷ since'
    → length (part_of w before) ≡ length (part_of w before') → before ≡ before'
same_place w e e' r r' turns before since before' since' is is' same = by
    (two_places before since before' since' (answered_turn w e r) (answered_turn w e' r') (sym is ∙ is'))
  where
    longer : (xs ys mid : List Turn) (f : Event) (s : Reply) → ys ≡ xs ++ answered_turn w f s ∷ mid
        → length (part_of w xs) ≡ length (part_of w ys) → ⊥
    longer xs ys mid f s at long =
        let sum = ap (λ (ts : List Turn). length (part_of w ts)) at ∙ part_append w xs (answered_turn w f s ∷ mid) in
        let one = one_entry w f s mid in
        omega (arith, sum, one, long)

    by : TwoPlaces before since before' since' (answered_turn w e r) (answered_turn w e' r') → before ≡ before'
    by (AreOne one it) = one
    by (IsLater mid rest at) = absurd (longer before before' mid e r at same)
    by (IsEarlier mid rest at) = absurd (longer before' before mid e' r' at (sym same))

-- ---- the turn that puts a leaf in

-- it is its worker's, and was answered
pub record IsAnswered (w : ℕ) (t : Turn) : Type 0 where
  pub event : Event
  pub reply : Reply
  pub is : t ≡ answered_turn w event reply

pub put_answered : (L : Layout) (turns : List Turn) (w : ℕ) (n : NodeId) (p : HasPutIn L turns w n) → IsAnswered w p.put
put_answered L turns w n p = by p.way
  where
    by : LinksIn (words_after L p.before) w p.put n ⊎ SwapsIn (words_after L p.before) w p.put n → IsAnswered w p.put
    by (inl l) = record { event = Link l.parent l.side l.old l.new; reply = Linked l.node; is = l.is_link }
    by (inr s) = record { event = Swap s.parent s.side s.old n.slot; reply = Cut s.nodes; is = s.is_swap }

pub put_named : (L : Layout) (turns : List Turn) (w : ℕ) (n : NodeId) (p : HasPutIn L turns w n)
    → n ≡ named (words_after L p.before) n.slot
put_named L turns w n p = by p.way
  where
    by : LinksIn (words_after L p.before) w p.put n ⊎ SwapsIn (words_after L p.before) w p.put n
        → n ≡ named (words_after L p.before) n.slot
    by (inl l) = l.is ∙ ap (named (words_after L p.before)) (sym (ap (λ (m : NodeId). m.slot) l.is))
    by (inr s) = s.is

-- ---- a store is of one leaf

pub one_put : (L : Layout) (turns : List Turn) (x : Stored) (n m : NodeId) (one : IsStoreOf L turns x n)
    (other : IsStoreOf L turns x m) → one.put_in.before ≡ other.put_in.before
one_put L turns x n m one other =
    let a = put_answered L turns x.worker n one.put_in in
    let b = put_answered L turns x.worker m other.put_in in
    same_place x.worker a.event b.event a.reply b.reply turns one.put_in.before one.put_in.since other.put_in.before
    other.put_in.since
    (one.put_in.are ∙ ap (λ (t : Turn). one.put_in.before ++ t ∷ one.put_in.since) a.is)
    (other.put_in.are ∙ ap (λ (t : Turn). other.put_in.before ++ t ∷ other.put_in.since) b.is)
    (sym one.own ∙ other.own)

named_slot : (L : Layout) (turns : List Turn) (x : Stored) (n : NodeId) (s : IsStoreOf L turns x n)
    → n ≡ named (words_after L s.put_in.before) x.slot
named_slot L turns x n s = put_named L turns x.worker n s.put_in
    ∙ ap (named (words_after L s.put_in.before)) (sym s.slot)

pub one_leaf : (L : Layout) (turns : List Turn) (x : Stored) (n m : NodeId) → IsStoreOf L turns x n
    → IsStoreOf L turns x m → n ≡ m
one_leaf L turns x n m one other = named_slot L turns x n one
    ∙ (ap (λ (ts : List Turn). named (words_after L ts) x.slot) (one_put L turns x n m one other)
    ∙ sym (named_slot L turns x m other))

-- ---- and this leaf is freed once

pub values_come_back_once : ValuesComeBackOnce
values_come_back_once L turns h x one other = (
  by
      (two_places one.so_far one.rest other.so_far other.rest one.free other.free (sym one.are ∙ other.are)),
  same,
)
  where
    same : one.leaf ≡ other.leaf
    same = one_leaf L turns x one.leaf other.leaf one.stored other.stored

    frees : Contains (nodes_freed_of other.free.outcome) one.leaf
    frees = subst (λ (n : NodeId). Contains (nodes_freed_of other.free.outcome) n) (sym same) other.frees

    by : TwoPlaces one.so_far one.rest other.so_far other.rest one.free other.free → one.so_far ≡ other.so_far
    by (AreOne is it) = is
    by (IsLater mid rest at) = absurd (nodes_are_freed_once L turns h one.so_far mid other.rest one.free other.free
        one.leaf (one.are ∙ ap (λ (ts : List Turn). one.so_far ++ one.free ∷ ts) rest) one.frees frees)
    by (IsEarlier mid rest at) = absurd (nodes_are_freed_once L turns h other.so_far mid one.rest other.free one.free
        one.leaf (other.are ∙ ap (λ (ts : List Turn). other.so_far ++ other.free ∷ ts) rest) frees one.frees)
