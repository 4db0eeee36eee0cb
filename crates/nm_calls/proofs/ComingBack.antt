-- No node is freed twice, and none before a worker has unpinned that was pinned before the cut.
use Rattle.std.proofs.Common.{◌≡◌, ℕ, zero, suc, ◌+◌, ◌||◌, Bool, true, false, cond, List, [], ◌∷◌, ◌++◌, append-nil, append_assoc, length, refl, sym, ap, subst, ◌∙◌, arith}
use Rattle.std.specs.Prelude.{Contains, Some, filter, slice_get}
use Rattle.std.specs.List.{list_any}
use Rattle.std.proofs.lemmas.List.Folds.{list_any-append}
use Rattle.std.proofs.lemmas.List.Elements.{Contains-append_right}
use Rattle.nm_edge.specs.declared.node.NodeId.{NodeId}
use Rattle.nm_model.specs.declared.trace.Turn.{Turn}
use Rattle.nm_model.specs.Headline.{AreFreedInTurn, HasLeft, cuts_of, freed_by, freed_of, is_among, leaves, nodes_freed_of, waits_of}
use Rattle.nm_calls.specs.ComingBack.{NodesAreFreedOnce, PinnedValuesStayOut}
use Rattle.nm_calls.proofs.HandedBack.{in_among}
use Rattle.nm_calls.proofs.Unheld.{freed_by-append, or_right, pin_lasts}

-- ---- lists

-- a list in which a node is at two places
pub record IsTwice (ns : List NodeId) (n : NodeId) : Type 0 where
  pub first : List NodeId
  pub middle : List NodeId
  pub last : List NodeId
  pub are : ns ≡ first ++ n ∷ (middle ++ n ∷ last)

record Split (ns : List NodeId) (n : NodeId) : Type 0 where
  first : List NodeId
  last : List NodeId
  are : ns ≡ first ++ n ∷ last

split_at : (ns : List NodeId) (n : NodeId) → Contains ns n → Split ns n
split_at [] n c = absurd (let below = c.1 in omega (arith, below))
split_at (m ∷ ms) n (zero, below, is) = record { first = []; last = ms; are = ap (λ (x : NodeId). x ∷ ms) is }
split_at (m ∷ ms) n (suc i, below, is) = let s = split_at ms n (i, omega (arith, below), is) in
    record { first = m ∷ s.first; last = s.last; are = ap (λ (l : List NodeId). m ∷ l) s.are }

filter_parts : (p : NodeId → Bool) (xs ys : List NodeId) → filter p (xs ++ ys) ≡ filter p xs ++ filter p ys
filter_parts p [] ys = refl
filter_parts p (x ∷ xs) ys = by (p x) (filter_parts p xs ys)
  where
    by : (b : Bool) → filter p (xs ++ ys) ≡ filter p xs ++ filter p ys
        → cond b (x ∷ filter p (xs ++ ys)) (filter p (xs ++ ys)) ≡ cond b (x ∷ filter p xs) (filter p xs) ++ filter p ys
    by true rest = ap (λ (l : List NodeId). x ∷ l) rest
    by false rest = rest

kept_there : (p : NodeId → Bool) (xs ys : List NodeId) (n : NodeId) → p n ≡ true
    → filter p (xs ++ n ∷ ys) ≡ filter p xs ++ n ∷ filter p ys
kept_there p xs ys n passes = filter_parts p xs (n ∷ ys)
    ∙ ap (λ (b : Bool). filter p xs ++ cond b (n ∷ filter p ys) (filter p ys)) passes

twice_kept : (p : NodeId → Bool) (ns : List NodeId) (n : NodeId) → p n ≡ true → IsTwice ns n → IsTwice (filter p ns) n
twice_kept p ns n passes t = record {
  first = filter p t.first;
  middle = filter p t.middle;
  last = filter p t.last;
  are = ap (filter p) t.are ∙ (kept_there p t.first (t.middle ++ n ∷ t.last) n passes
      ∙ ap (λ (l : List NodeId). filter p t.first ++ n ∷ l) (kept_there p t.middle t.last n passes));
}

at_place : (xs ys : List NodeId) (n : NodeId) → slice_get (xs ++ n ∷ ys) (length xs) ≡ Some n
at_place [] ys n = refl
at_place (x ∷ xs) ys n = at_place xs ys n

at_second : (xs ms ys : List NodeId) (n : NodeId)
    → slice_get (xs ++ n ∷ (ms ++ n ∷ ys)) (length xs + suc (length ms)) ≡ Some n
at_second [] ms ys n = let e : 0 + suc (length ms) ≡ suc (length ms) = omega arith in
    ap (λ (i : ℕ). slice_get (n ∷ (ms ++ n ∷ ys)) i) e ∙ at_place ms ys n
at_second (x ∷ xs) ms ys n =
    let e : suc (length xs) + suc (length ms) ≡ suc (length xs + suc (length ms)) = omega arith in
    ap (λ (i : ℕ). slice_get (x ∷ (xs ++ n ∷ (ms ++ n ∷ ys))) i) e ∙ at_second xs ms ys n

-- ---- no node is freed twice

pub not_freed_twice : (turns : List Turn) → AreFreedInTurn turns → (n : NodeId) → IsTwice (freed_by turns) n → ⊥
not_freed_twice turns q n twice =
    let same = q.once w w (length t.first) (length t.first + suc (length t.middle)) n
    (ap (λ (l : List NodeId). slice_get l (length t.first)) whole
    ∙ at_place t.first ((t.middle ++ n ∷ t.last) ++ waits_of w turns) n)
    (ap (λ (l : List NodeId). slice_get l (length t.first + suc (length t.middle)))
    (whole ∙ ap (λ (l : List NodeId). t.first ++ n ∷ l) (append_assoc t.middle (n ∷ t.last) (waits_of w turns)))
    ∙ at_second t.first t.middle (t.last ++ waits_of w turns) n) in
    let clash = same.1 in omega (arith, clash)
  where
    freed : Contains (freed_by turns) n
    freed = subst (λ (l : List NodeId). Contains l n) (sym twice.are)
        (Contains-append_right twice.first (n ∷ (twice.middle ++ n ∷ twice.last)) n (0, omega arith, refl))

    cut : (w : ℕ) × Contains (cuts_of w turns) n
    cut = q.only n freed

    w : ℕ
    w = cut.0

    t : IsTwice (freed_of w turns) n
    t = twice_kept (is_among (cuts_of w turns)) (freed_by turns) n (in_among (cuts_of w turns) n cut.1) twice

    whole : cuts_of w turns ≡ t.first ++ n ∷ ((t.middle ++ n ∷ t.last) ++ waits_of w turns)
    whole = sym (q.queues w) ∙ (ap (λ (l : List NodeId). l ++ waits_of w turns) t.are
        ∙ append_assoc t.first (n ∷ (t.middle ++ n ∷ t.last)) (waits_of w turns))

pub nodes_are_freed_once : NodesAreFreedOnce
nodes_are_freed_once L turns h before between rest one other n are in_one in_other = not_freed_twice turns
    (h.queues turns [] (sym (append-nil turns))) n twice
  where
    frees : freed_by turns ≡ freed_by before ++ (nodes_freed_of one.outcome
        ++ (freed_by between ++ (nodes_freed_of other.outcome ++ freed_by rest)))
    frees =
        ap freed_by are
        ∙ (freed_by-append before (one ∷ (between ++ other ∷ rest))
        ∙ ap (λ (l : List NodeId). freed_by before ++ (nodes_freed_of one.outcome ++ l))
        (freed_by-append between (other ∷ rest)))

    a : Split (nodes_freed_of one.outcome) n
    a = split_at (nodes_freed_of one.outcome) n in_one

    b : Split (nodes_freed_of other.outcome) n
    b = split_at (nodes_freed_of other.outcome) n in_other

    twice : IsTwice (freed_by turns) n
    twice = record {
      first = freed_by before ++ a.first;
      middle = a.last ++ (freed_by between ++ b.first);
      last = b.last ++ freed_by rest;
      are =
          frees
          ∙ (ap (λ (l : List NodeId). freed_by before ++ (l
          ++ (freed_by between ++ (nodes_freed_of other.outcome ++ freed_by rest)))) a.are
          ∙ (ap (λ (l : List NodeId). freed_by before ++ ((a.first ++ n ∷ a.last)
          ++ (freed_by between ++ (l ++ freed_by rest)))) b.are
          ∙ (ap (λ (l : List NodeId). freed_by before ++ ((a.first ++ n ∷ a.last) ++ (freed_by between ++ l)))
          (append_assoc b.first (n ∷ b.last) (freed_by rest))
          ∙ (ap (λ (l : List NodeId). freed_by before ++ l)
          (append_assoc a.first (n ∷ a.last) (freed_by between ++ (b.first ++ n ∷ (b.last ++ freed_by rest))))
          ∙ (sym (append_assoc (freed_by before) a.first
          (n ∷ (a.last ++ (freed_by between ++ (b.first ++ n ∷ (b.last ++ freed_by rest))))))
          ∙ ap (λ (l : List NodeId). (freed_by before ++ a.first) ++ n ∷ l)
          (ap (λ (l : List NodeId). a.last ++ l) (sym (append_assoc (freed_by between) b.first
          (n ∷ (b.last ++ freed_by rest)))) ∙ sym (append_assoc a.last (freed_by between ++ b.first)
          (n ∷ (b.last ++ freed_by rest)))))))));
    }

-- ---- nor before a worker that was pinned has unpinned

pub pinned_values_stay_out : PinnedValuesStayOut
pinned_values_stay_out L turns h was now stores w k v got mid between rest cut free n slot are in_cut in_free =
    by (list_any (leaves w) mid) refl
  where
    joined : list_any (leaves w) (mid ++ cut ∷ between)
        ≡ (list_any (leaves w) mid || (leaves w cut || list_any (leaves w) between))
    joined = list_any-append (leaves w) mid (cut ∷ between)

    by : (left : Bool) → list_any (leaves w) mid ≡ left → HasLeft w (mid ++ cut ∷ between)
    by true is = joined ∙ ap (λ (b : Bool). b || (leaves w cut || list_any (leaves w) between)) is
    by false is =
        joined
        ∙ or_right (list_any (leaves w) mid) (leaves w cut || list_any (leaves w) between)
        (or_right (leaves w cut) (list_any (leaves w) between)
        (h.grace (got.so_far ++ mid) between rest cut free n
        (are ∙ sym (append_assoc got.so_far mid (cut ∷ (between ++ free ∷ rest)))) in_cut in_free w
        (pin_lasts w got.so_far mid got.pinned (λ left. true≢false' (sym left ∙ is)))))
      where
        true≢false' : ◌≡◌ {A = Bool} true false → ⊥
        true≢false' e = cc
