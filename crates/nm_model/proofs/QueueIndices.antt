-- Where the entries of each slot stand in a queue: what keeps the indices right, and how an entry
-- is found by them.
use Rattle.std.proofs.Common.{◌≡◌, ◌≢◌, ℕ, zero, suc, ◌+◌, ◌-◌, ◌<◌, ◌≤◌, inl, inr, max, eqb, Bool, true, false, cond, Option, Some, None, List, [], ◌∷◌, ◌++◌, length, map, drop, get_or, refl, sym, ap, subst, ◌∙◌, arith, true≢false, length-drop, length-append, get_or-drop, take}
use Rattle.std.specs.Prelude.{unwrap_or}
use native.Mathlib.Decide.{ℕ_discrete}
use Rattle.std.proofs.lemmas.Bool.{cond-false, eqb-true, ne_eqb, eq-eqb}
use Rattle.std.proofs.lemmas.Bool.Decides.{nat_tests}
use Rattle.std.proofs.lemmas.List.{get_or-map, get_or_append_left, get_or_default, drop-drop, take-append-le, take_at}
use Rattle.nm_edge.specs.declared.node.NodeId.{NodeId}
use Rattle.nm_model.specs.declared.ledger.Queued.{Queued}
use Rattle.nm_model.specs.declared.indices.Indices.{Indices}
use Rattle.nm_model.specs.Maps.{get, put}
use Rattle.nm_model.specs.Queues.{front_at, entry_at, with_label}
use Rattle.nm_model.specs.Indexing.{with_index, is_at_least, IsCovered, Covers, IsIndexedQueue}
use Rattle.nm_model.proofs.Tables.{get-put}

-- ---- what keeps the indices right

-- the same entries, and others behind them
covers_front : (indices : List (ℕ × Indices)) (xs ys : List Queued) → Covers indices xs (length xs)
    → Covers indices (xs ++ ys) (length xs)
covers_front indices xs ys h i d below = rw (get_or_append_left xs ys d i below) (h i d below)

-- and the others away
covers_back : (indices : List (ℕ × Indices)) (xs ys : List Queued) → Covers indices (xs ++ ys) (length xs)
    → Covers indices xs (length xs)
covers_back indices xs ys h i d below = subst (λ (e : Queued). IsCovered (get indices e.node.slot) i)
    (get_or_append_left xs ys d i below) (h i d below)

same_node : (l : ℕ) (x : Queued) → (with_label l x).node ≡ x.node
same_node l x = go x.label
  where
    go : (o : Option ℕ) → (with_label l (record { node = x.node; label = o })).node ≡ x.node
    go None = refl
    go (Some n) = refl

-- labels change no slot
pub covers_labelled : (l : ℕ) (indices : List (ℕ × Indices)) (xs : List Queued) → Covers indices xs (length xs)
    → Covers indices (map (with_label l) xs) (length xs)
covers_labelled l indices xs h i d below =
    subst (λ (n : NodeId). IsCovered (get indices n.slot) i)
    (sym (ap (λ (e : Queued). e.node) (get_or-map (with_label l) xs i d d below) ∙ same_node l (get_or xs i d)))
    (h i d below)

-- one more entry is behind the others
covered_still : (o : Option Indices) (n i : ℕ) → IsCovered o i → IsCovered (Some (with_index o n)) i
covered_still None n i h = absurd h
covered_still (Some x) n i (inl e) = inr (grind (arith, nat_tests))
covered_still (Some x) n i (inr le) = inr (bounded x.earlier le)
  where
    bounded : (o : Option ℕ) → is_at_least o i ≡ true → is_at_least (Some (max x.last (unwrap_or o 0))) i ≡ true
    bounded None h = absurd (true≢false (sym h))
    bounded (Some b) h = grind (arith, nat_tests)

covered_last : (o : Option Indices) (n : ℕ) → IsCovered (Some (with_index o n)) n
covered_last None n = inl refl
covered_last (Some x) n = inl refl

pub covers_more : (indices : List (ℕ × Indices)) (es : List Queued) (n slot : ℕ) (d : Queued)
    → (get_or es n d).node.slot ≡ slot → n < length es → Covers indices es n
    → Covers (put indices slot (with_index (get indices slot) n)) es (n + 1)
covers_more indices es n slot d is inside h i e below = rw (get-put indices slot x at) (go (eqb at slot) refl)
  where
    x : Indices
    x = with_index (get indices slot) n

    at : ℕ
    at = (get_or es i e).node.slot

    last_is : i ≡ n → at ≡ slot
    last_is same = ap (λ k. (get_or es k e).node.slot) same
        ∙ ap (λ (q : Queued). q.node.slot) (get_or_default es n e d inside) ∙ is

    before : i ≢ n → IsCovered (get indices at) i
    before ne = h i e (omega (arith, below, ne))

    go : (b : Bool) → eqb at slot ≡ b → IsCovered (cond b (Some x) (get indices at)) i
    go true same = elim (ℕ_discrete i n) [
      | yes e ↦ subst (λ (k : ℕ). IsCovered (Some x) k) (sym e) (covered_last (get indices slot) n)
      | no ne ↦ covered_still (get indices slot) n i
          (subst (λ (k : ℕ). IsCovered (get indices k) i) (eqb-true at slot same) (before ne))
    ]
    go false apart = before (λ e. true≢false (sym (eq-eqb at slot (last_is e)) ∙ apart))

-- ---- a queue that gets more entries

module _ (xs ys all : List Queued) (n departed done : ℕ) (indices : List (ℕ × Indices))
    (queue : IsIndexedQueue xs departed done indices) (is : all ≡ xs ++ ys) (before : n ≡ length xs) where
  pub covers_those_before : Covers indices all n
  covers_those_before = rw (is, before) (covers_front indices xs ys queue.covered)

  -- the new entries are noted
  pub queue_appended : (new : List (ℕ × Indices)) → Covers new all (length all) → IsIndexedQueue all departed done new
  queue_appended new covered = record {
    departed_fits = omega (arith, queue.departed_fits, ap length is, length-append xs ys);
    done_fits = omega (arith, queue.done_fits, ap length is, length-append xs ys);
    stays = λ l. rw (is, take-append-le done xs ys queue.done_fits) (queue.stays l);
    covered = covered;
  }

  -- they could not all be noted, and are taken back
  pub queue_restored : (new : List (ℕ × Indices)) (cut : List Queued) → cut ≡ take n all → Covers new all n
      → IsIndexedQueue cut departed done new
  queue_restored new cut taken covered = rw (taken, is, before, take_at xs ys (length xs) refl) (record {
    departed_fits = queue.departed_fits;
    done_fits = queue.done_fits;
    stays = queue.stays;
    covered = covers_back new xs ys (subst (λ (es : List Queued). Covers new es (length xs)) is
        (subst (λ (k : ℕ). Covers new all k) before covered));
  })

-- ---- how an entry is found

-- no entry is of the slot
find_none : (es : List Queued) (s : ℕ) → ((i : ℕ) (d : Queued) → i < length es → (get_or es i d).node.slot ≢ s)
    → entry_at es s ≡ None
find_none [] s none = refl
find_none (e ∷ es) s none = cond-false (eqb e.node.slot s) (Some e) (entry_at es s)
    (ne_eqb e.node.slot s (none 0 e (omega arith))) ∙ find_none es s (λ i d h. none (suc i) d (omega (arith, h)))

-- at most the one at index k is
find_one : (es : List Queued) (s k : ℕ) → ((i : ℕ) (d : Queued) → i < length es → (get_or es i d).node.slot ≡ s
    → i ≡ k) → entry_at es s ≡ front_at (drop k es) s
find_one [] s zero only = refl
find_one [] s (suc k) only = refl
find_one (e ∷ es) s zero only = ap (λ o. cond (eqb e.node.slot s) (Some e) o)
    (find_none es s (λ i d h is. absurd (let n : suc i ≡ 0 = only (suc i) d (omega (arith, h)) is in omega (arith, n))))
find_one (e ∷ es) s (suc k) only =
    cond-false (eqb e.node.slot s) (Some e) (entry_at es s)
    (ne_eqb e.node.slot s (λ is. absurd (let n : 0 ≡ suc k = only 0 e (omega arith) is in omega (arith, n))))
    ∙ find_one es s k (λ i d h is. let n : suc i ≡ suc k = only (suc i) d (omega (arith, h)) is in omega (arith, n))

module _ (indices : List (ℕ × Indices)) (es : List Queued) (departed s : ℕ)
    (covered : Covers indices es (length es)) where
  -- an entry that waits is covered by what is known of its slot
  waits : (i : ℕ) (d : Queued) → i < length (drop departed es) → (get_or (drop departed es) i d).node.slot ≡ s
      → IsCovered (get indices s) (departed + i)
  waits i d h is =
      let at : get_or (drop departed es) i d ≡ get_or es (departed + i) d = get_or-drop departed es i d in
      subst (λ (k : ℕ). IsCovered (get indices k) (departed + i)) (ap (λ (e : Queued). e.node.slot) (sym at) ∙ is)
      (covered (departed + i) d (omega (arith, h, length-drop departed es)))

  -- nothing is known of the slot
  pub not_known : get indices s ≡ None → entry_at (drop departed es) s ≡ None
  not_known none = find_none (drop departed es) s (λ i d h is. subst
      (λ (o : Option Indices). IsCovered o (departed + i)) none (waits i d h is))

  module _ (x : Indices) (known : get indices s ≡ Some x) (alone : is_at_least x.earlier departed ≡ false) where
    is_last : (i : ℕ) (d : Queued) → i < length (drop departed es) → (get_or (drop departed es) i d).node.slot ≡ s
        → departed + i ≡ x.last
    is_last i d h is = go (subst (λ (o : Option Indices). IsCovered o (departed + i)) known (waits i d h is))
      where
        low : (o : Option ℕ) → is_at_least o departed ≡ false → is_at_least o (departed + i) ≡ true → ⊥
        low None below is = true≢false (sym is)
        low (Some n) below is = grind (arith, nat_tests)

        go : IsCovered (Some x) (departed + i) → departed + i ≡ x.last
        go (inl e) = e
        go (inr le) = absurd (low x.earlier alone le)

    -- the last one has left
    pub has_left : x.last < departed → entry_at (drop departed es) s ≡ None
    has_left gone = find_none (drop departed es) s (λ i d h is. absurd (omega (arith, is_last i d h is, gone)))

    -- it is the last one, or none
    pub is_the_last : departed ≤ x.last → entry_at (drop departed es) s ≡ front_at (drop x.last es) s
    is_the_last there =
        find_one (drop departed es) s (x.last - departed) (λ i d h is. omega (arith, is_last i d h is))
        ∙ ap (λ l. front_at l s) (drop-drop (x.last - departed) departed es
        ∙ ap (λ k. drop k es) (let n : departed + (x.last - departed) ≡ x.last = omega (arith, there) in n))
