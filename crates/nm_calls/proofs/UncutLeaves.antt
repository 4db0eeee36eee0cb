-- While no act deletes a key, and no swap takes out its leaf, no turn cuts off the leaf that has it.
use Rattle.std.proofs.Common.{◌≡◌, inl, inr, ℕ, zero, suc, ◌+◌, ◌<◌, ◌≤◌, Bool, true, false, cond, List, [], ◌∷◌, ◌++◌, append_assoc, length, map, refl, sym, ap, subst, ◌∙◌, arith}
use Rattle.std.specs.Prelude.{All, Contains, Result, Ok}
use Rattle.std.proofs.lemmas.List.{length-append}
use Rattle.nm_edge.specs.Layouts.{Layout, IsLayout}
use Rattle.nm_edge.specs.declared.node.NodeId.{NodeId}
use Rattle.nm_model.specs.declared.event.Event.{Event}
use Rattle.nm_model.specs.declared.reply.Refused.{Refused}
use Rattle.nm_model.specs.declared.reply.Reply.{Reply}
use Rattle.nm_model.specs.declared.reply.Reply.TheVariants.{Cut}
use Rattle.nm_model.specs.declared.trace.Turn.{Turn}
use Rattle.nm_model.specs.Acts.{Act, IsAmong, leaf_keys}
use Rattle.nm_model.specs.Headline.{CutsItsNodes, IsWonSplice, IsWonSwap, nodes_cut_of, slots_of, words_after}
use Rattle.nm_model.specs.Histories.{IsHistory}
use Rattle.nm_model.specs.Memory.{Memory, is_leaf, named, node}
use Rattle.nm_model.specs.Ordered.{HasKey, ordered, trace_in}
use Rattle.nm_theorem.specs.EachRun.{IsTrueDelete}
use Rattle.nm_steps.specs.declared.view.Stored.{Stored}
use Rattle.nm_calls.specs.KeptValues.{NoneCuts, NoneSwapsOut, StaysInMap}
use Rattle.nm_calls.specs.Maps.{HoldsStores, IsInMap}
use Rattle.nm_theorem.proofs.HeadlineOfRuns.{each_run_has_it}
use Rattle.nm_calls.proofs.KeptValues.{leaves_keep_their_values}

-- ---- a cut of a leaf is an act that deletes its key

cut_of : (o : Result Reply Refused) (s : ℕ) → Contains (slots_of (nodes_cut_of o)) s
    → (ns : List NodeId) × (o ≡ Ok (Cut ns)) × Contains (slots_of ns) s
cut_of (Ok (Cut ns)) s c = (ns, refl, c)
cut_of _ s c = absurd (let below = c.1 in omega (arith, below))

pub among_left : (xs ys : List Act) (a : Act) → IsAmong xs a → IsAmong (xs ++ ys) a
among_left [] ys a at = absurd at
among_left (x ∷ xs) ys a (inl is) = inl is
among_left (x ∷ xs) ys a (inr at) = inr (among_left xs ys a at)

pub among_right : (xs ys : List Act) (a : Act) → IsAmong ys a → IsAmong (xs ++ ys) a
among_right [] ys a at = at
among_right (x ∷ xs) ys a at = inr (among_right xs ys a at)

pub act_of : (row : List Act) (k : ℕ) → Contains (map (λ (a : Act). a.key) row) k
    → (a : Act) × IsAmong row a × (a.key ≡ k)
act_of [] k c = absurd (let below = c.1 in omega (arith, below))
act_of (a ∷ row) k (zero, below, at) = (a, inl refl, at)
act_of (a ∷ row) k (suc i, below, at) = let r = act_of row k (i, omega (arith, below), at) in (r.0, inr r.1, r.2)

pub key_among : (m : Memory) (xs : List ℕ) (s : ℕ) → Contains xs s → is_leaf (node m s) ≡ true
    → Contains (leaf_keys m xs) (node m s).key
key_among m [] s c leaf = absurd (let below = c.1 in omega (arith, below))
key_among m (x ∷ xs) s (zero, below, at) leaf =
    subst (λ (b : Bool). Contains (cond b ((node m x).key ∷ leaf_keys m xs) (leaf_keys m xs)) (node m s).key)
    (sym (ap (λ (y : ℕ). is_leaf (node m y)) at ∙ leaf))
    (0, omega arith, ap (λ (y : ℕ). (node m y).key) at)
key_among m (x ∷ xs) s (suc i, below, at) leaf = by (is_leaf (node m x))
    (key_among m xs s (i, omega (arith, below), at) leaf)
  where
    by : (b : Bool) → Contains (leaf_keys m xs) (node m s).key
        → Contains (cond b ((node m x).key ∷ leaf_keys m xs) (leaf_keys m xs)) (node m s).key
    by true c = let less = c.1 in (suc c.0, omega (arith, less), c.2)
    by false c = c

-- a cut that is by no swap of this slot is by a splice
by_splice : (m : Memory) (t : Turn) (ns : List NodeId) (s : ℕ) → CutsItsNodes m t → t.outcome ≡ Ok (Cut ns)
    → Contains (slots_of ns) s → ((out : IsWonSwap m t.event ns) → s ≡ out.old → ⊥) → IsWonSplice m t.event ns
by_splice m t ns s c is among plain = elim (c.splices ns is) [
  | inl splice ↦ splice
  | inr swap ↦ absurd (plain swap (alone swap.old (subst (λ (ms : List NodeId). Contains (slots_of ms) s) swap.nodes
      among)))
]
  where
    alone : (x : ℕ) → Contains (slots_of (named m x ∷ [])) s → s ≡ x
    alone x (zero, below, at) = sym at
    alone x (suc i, below, at) = absurd (omega (arith, below))

-- ---- so no turn cuts off the leaf

no_turn : (before since : List Turn) (t : Turn) → [] ≡ before ++ t ∷ since → ⊥
no_turn before since t is = let long = ap (λ (l : List Turn). length l) is ∙ length-append before (t ∷ since) in
    omega (arith, long)

-- a moment is after `start` and not after `end`
abbrev pub IsWithin : ℕ → ℕ → ℕ → Type 0
IsWithin start end n = (start < n) × (n ≤ end)

-- no act deletes the key from `start` up to `end`
abbrev pub NoneDeletes : List Act → ℕ → ℕ → ℕ → Type 0
NoneDeletes acts k start end = (a : Act) → IsAmong acts a → IsTrueDelete k a → IsWithin start end a.moment → ⊥

module _ (L : Layout) (fits : IsLayout L) (events : List (ℕ × Event)) (keys : All (λ t. HasKey t.1) events)
    (stores : List Stored) (from : List Turn) (held : HoldsStores L from (trace_in (ordered L) events) stores)
    (start end k : ℕ)
    (acts : List Act) (h : IsHistory L (trace_in (ordered L) events) acts) (none' : NoneDeletes acts k start end)
    (plain : (so_far rest : List Turn) (t : Turn) → trace_in (ordered L) events ≡ so_far ++ t ∷ rest
    → start ≤ length so_far → length so_far < end → NoneSwapsOut L so_far t k) (s : ℕ) where
  -- a leaf with the key in that slot
  abbrev pub IsThere : List Turn → Type 0
  IsThere so_far = (v : ℕ) × (i : IsInMap L so_far stores k v) × (i.slot ≡ s)

  not_cut : (so_far rest : List Turn) (t : Turn) → trace_in (ordered L) events ≡ so_far ++ t ∷ rest
      → start ≤ length so_far → length so_far < end → IsThere so_far → Contains (slots_of (nodes_cut_of t.outcome)) s
      → ⊥
  not_cut so_far rest t are late soon there c =
      let m : Memory = words_after L so_far in
      let o = cut_of t.outcome s c in
      let i = there.1 in
      let leaf : is_leaf (node m s) ≡ true = subst (λ (x : ℕ). is_leaf (node m x) ≡ true) there.2 i.leaf in
      let has_key : (node m s).key ≡ k = subst (λ (x : ℕ). (node m x).key ≡ k) there.2 i.has_key in
      let by_swap = plain so_far rest t are late soon in
      let w = by_splice m t o.0 s ((each_run_has_it L fits true events keys).cuts so_far rest t are) o.1 o.2
      (λ out at. by_swap o.0 out o.1 (ap (λ (x : ℕ). (node m x).key) (sym at) ∙ has_key)) in
      let row = h.cuts so_far rest t o.0 are o.1 w.ancestor w.side w.successor w.parent w.keep w.is_splice in
      let a = act_of row.row k (subst (λ (l : List ℕ). Contains l k) (sym row.are_keys)
      (subst (Contains (leaf_keys m (slots_of o.0))) has_key (key_among m (slots_of o.0) s o.2 leaf))) in
      let among : IsAmong acts a.0 = subst (λ (l : List Act). IsAmong l a.0) (sym row.are)
      (among_right row.front (row.row ++ row.back) a.0 (among_left row.row row.back a.0 a.1)) in
      let is = row.each a.0 a.1 in
      let moment = row.at a.0 a.1 in
      none' a.0 among (is.0.1, a.2, is.0.2) (omega (arith, moment, late), omega (arith, moment, soon))

  pub none_cuts : (mid so_far rest : List Turn) → trace_in (ordered L) events ≡ so_far ++ (mid ++ rest)
      → start ≤ length so_far → length so_far + length mid ≤ end → IsThere so_far → NoneCuts mid s
  none_cuts [] so_far rest are late soon there = λ before since t is c. no_turn before since t is
  none_cuts (u ∷ mid) so_far rest are late soon there = by
      (λ on. none_cuts mid (so_far ++ u ∷ []) rest next
      (let long = length-append so_far (u ∷ []) in omega (arith, late, long))
      (let long = length-append so_far (u ∷ []) in omega (arith, soon, long)) on)
    where
      next : trace_in (ordered L) events ≡ (so_far ++ u ∷ []) ++ (mid ++ rest)
      next = are ∙ sym (append_assoc so_far (u ∷ []) (mid ++ rest))

      first : Contains (slots_of (nodes_cut_of u.outcome)) s → ⊥
      first = not_cut so_far (mid ++ rest) u are late (omega (arith, soon)) there

      one : NoneCuts (u ∷ []) s
      one [] since t is c = first (subst (λ (x : Turn). Contains (slots_of (nodes_cut_of x.outcome)) s)
          (sym (head is)) c)
        where
          head : {x y : Turn} {xs ys : List Turn} → x ∷ xs ≡ y ∷ ys → x ≡ y
          head e = cc
      one (b ∷ []) since t is c = absurd (let long = ap (λ (l : List Turn). length l) is in omega (arith, long))
      one (b ∷ d ∷ before) since t is c = absurd (let long = ap (λ (l : List Turn). length l) is in omega (arith, long))

      after : IsThere (so_far ++ u ∷ [])
      after =
          let stays : StaysInMap L so_far (u ∷ []) stores k there.0 there.1 = leaves_keep_their_values L fits events
          keys so_far (u ∷ []) (mid ++ rest) are stores from held k there.0 there.1
          (subst (NoneCuts (u ∷ [])) (sym there.2) one) in (there.0, stays.now, stays.same ∙ there.2)

      by : (IsThere (so_far ++ u ∷ []) → NoneCuts mid s) → NoneCuts (u ∷ mid) s
      by rest' [] since t is c = first (subst (λ (x : Turn). Contains (slots_of (nodes_cut_of x.outcome)) s)
          (sym (head is)) c)
        where
          head : {x y : Turn} {xs ys : List Turn} → x ∷ xs ≡ y ∷ ys → x ≡ y
          head e = cc
      by rest' (b ∷ before) since t is c = rest' after before since t (tail is) c
        where
          tail : {x y : Turn} {xs ys : List Turn} → x ∷ xs ≡ y ∷ ys → xs ≡ ys
          tail e = cc
