-- A leaf for which a value was stored is in one place: in the tree, waiting, or freed.
use Rattle.std.proofs.Common.{◌≡◌, ◌⊎◌, inl, inr, ℕ, zero, suc, ◌<◌, ◌≤◌, not, Bool, true, false, cond, List, [], ◌∷◌, ◌++◌, append-nil, append_assoc, refl, sym, ap, subst, ◌∙◌, arith, true≢false}
use Rattle.std.specs.Prelude.{Contains, Some, filter, option_map, slice_get}
use Rattle.std.proofs.lemmas.Bool.{cases_lt}
use Rattle.std.proofs.lemmas.Option.{none-some, same_Some, slice_get-get_or}
use Rattle.nm_edge.specs.Layouts.{Layout}
use Rattle.nm_edge.specs.declared.edge.Side.{Side}
use Rattle.nm_edge.specs.declared.node.NodeId.{NodeId}
use Rattle.nm_model.specs.declared.trace.Turn.{Turn}
use Rattle.nm_model.specs.Headline.{AreFreedInTurn, Headline, OnePlace, cuts_of, freed_by, is_among, waits_of, words_after}
use Rattle.nm_model.specs.Headline.Place.{OnPath as ByPath, Waits as WaitsThere}
use Rattle.nm_model.specs.Memory.{named}
use Rattle.nm_model.specs.Paths.{Reached, at}
use Rattle.nm_calls.specs.Maps.{WasInHands}
use Rattle.nm_calls.specs.OnceBack.{HasPutIn}
use Rattle.nm_calls.specs.StoredLeaves.{IsAtOnePlace, LeafIsAt, LeafPlace, StoredValuesAreAtOnePlace}
use Rattle.nm_calls.specs.StoredLeaves.LeafPlace.{IsFreed, OnPath, Waits}
use Rattle.nm_calls.proofs.ComingBack.{IsTwice, not_freed_twice}
use Rattle.nm_calls.proofs.HandedBack.{in_among}
use Rattle.nm_calls.proofs.LeavesInHands.{from_filter, in_hands_then, leaf_high, leaf_low, leaf_named, leaf_reached}
use Rattle.nm_calls.proofs.ReachedNodes.{NodeFate, node_fate}
use Rattle.nm_calls.proofs.ReachedNodes.NodeFate.{StaysIn, WasCutOff}
use Rattle.nm_calls.proofs.Unheld.{among_in, in_filter}

-- ---- lists of nodes

there_at : (ns : List NodeId) (i : ℕ) (n : NodeId) → slice_get ns i ≡ Some n → Contains ns n
there_at [] zero n is = absurd (none-some n is)
there_at [] (suc i) n is = absurd (none-some n is)
there_at (m ∷ ms) zero n is = (0, omega arith, same_Some m n is)
there_at (m ∷ ms) (suc i) n is = let r = there_at ms i n is in let below = r.1 in (suc r.0, omega (arith, below), r.2)

index_of : (ns : List NodeId) (n : NodeId) → (c : Contains ns n) → slice_get ns c.0 ≡ Some n
index_of ns n c = slice_get-get_or ns c.0 n c.1 ∙ ap (λ (m : NodeId). Some m) c.2

split_at' : (ns : List NodeId) (j : ℕ) (n : NodeId) → slice_get ns j ≡ Some n
    → (first : List NodeId) × (last : List NodeId) × (ns ≡ first ++ n ∷ last)
split_at' [] zero n is = absurd (none-some n is)
split_at' [] (suc j) n is = absurd (none-some n is)
split_at' (m ∷ ms) zero n is = ([], ms, ap (λ (k : NodeId). k ∷ ms) (same_Some m n is))
split_at' (m ∷ ms) (suc j) n is = let r = split_at' ms j n is in (m ∷ r.0, r.1, ap (λ (l : List NodeId). m ∷ l) r.2)

twice_at : (ns : List NodeId) (i j : ℕ) (n : NodeId) → slice_get ns i ≡ Some n → slice_get ns j ≡ Some n → i < j
    → IsTwice ns n
twice_at [] zero j n at later less = absurd (none-some n at)
twice_at [] (suc i) j n at later less = absurd (none-some n at)
twice_at (m ∷ ms) i zero n at later less = absurd (omega (arith, less))
twice_at (m ∷ ms) zero (suc j) n at later less =
    let s = split_at' ms j n later in
    record { first = []; middle = s.0; last = s.1; are = λ k. same_Some m n at k ∷ s.2 k }
twice_at (m ∷ ms) (suc i) (suc j) n at later less =
    let t = twice_at ms i j n at later (omega (arith, less)) in
    record { first = m ∷ t.first; middle = t.middle; last = t.last; are = ap (λ (l : List NodeId). m ∷ l) t.are }

-- ---- a node that was reached at a moment

module _ (L : Layout) (turns : List Turn) (h : Headline L turns) (n : NodeId) (low : 6 ≤ n.slot)
    (most : n.slot ≤ L.nodes) where
  q : AreFreedInTurn turns
  q = h.queues turns [] (sym (append-nil turns))

  one : OnePlace L turns n.slot
  one = h.places turns [] (sym (append-nil turns)) n.slot low most

  -- a node that was cut is not in the tree
  gone : (w : ℕ) → Contains (cuts_of w turns) n → (path : List Side) → at (words_after L turns) path ≡ n.slot
      → named (words_after L turns) n.slot ≡ n → ⊥
  gone w cut path ends same =
      let less = h.younger turns [] (sym (append-nil turns)) w n cut
      (record { path = path; ends = ends; is_slot = λ zero'. omega (arith, low, zero') }) in
      let born = ap (λ (m : NodeId). m.birth) same in
      omega (arith, less, born)

  waits_cut : (w i : ℕ) → slice_get (waits_of w turns) i ≡ Some n
      → Contains (cuts_of w turns) n × (not (is_among (freed_by turns) n) ≡ true)
  waits_cut w i is = from_filter (λ (m : NodeId). not (is_among (freed_by turns) m)) (cuts_of w turns) i n is

  freed_cut : (i : ℕ) → slice_get (freed_by turns) i ≡ Some n → (w : ℕ) × Contains (cuts_of w turns) n
  freed_cut i is = q.only n (there_at (freed_by turns) i n is)

  not_both : (w i j : ℕ) → slice_get (waits_of w turns) i ≡ Some n → slice_get (freed_by turns) j ≡ Some n → ⊥
  not_both w i j waits freed = true≢false (sym (waits_cut w i waits).1
      ∙ ap not (in_among (freed_by turns) n (there_at (freed_by turns) j n freed)))

  one_path : (path other : List Side) → at (words_after L turns) path ≡ n.slot
      → at (words_after L turns) other ≡ n.slot → OnPath other ≡ OnPath path
  one_path path other ends ends' = ap OnPath (same (one.only (ByPath other) ends' ∙ sym (one.only (ByPath path) ends)))
    where
      same : ByPath other ≡ ByPath path → other ≡ path
      same e = cc

  one_wait : (w i v j : ℕ) → slice_get (waits_of w turns) i ≡ Some n → slice_get (waits_of v turns) j ≡ Some n
      → Waits v j ≡ Waits w i
  one_wait w i v j is is' = (λ k. Waits ((same e).0 k) ((same e).1 k))
    where
      e : WaitsThere v j ≡ WaitsThere w i
      e = one.only (WaitsThere v j) (ap (option_map (λ (m : NodeId). m.slot)) is')
          ∙ sym (one.only (WaitsThere w i) (ap (option_map (λ (m : NodeId). m.slot)) is))

      same : WaitsThere v j ≡ WaitsThere w i → (v ≡ w) × (j ≡ i)
      same e' = (cc, cc)

  one_free : (i j : ℕ) → slice_get (freed_by turns) i ≡ Some n → slice_get (freed_by turns) j ≡ Some n
      → IsFreed j ≡ IsFreed i
  one_free i j is is' = ap IsFreed (by (cases_lt i j) (cases_lt j i))
    where
      by : (i < j) ⊎ (j ≤ i) → (j < i) ⊎ (i ≤ j) → j ≡ i
      by (inl less) other = absurd (not_freed_twice turns q n (twice_at (freed_by turns) i j n is is' less))
      by (inr most') (inl less) = absurd (not_freed_twice turns q n (twice_at (freed_by turns) j i n is' is less))
      by (inr most') (inr least) = omega (arith, most', least)

  in_tree : (r : Reached (words_after L turns) n.slot) → named (words_after L turns) n.slot ≡ n → IsAtOnePlace L turns n
  in_tree r same = record { place = OnPath r.path; here = (r.ends, same); only = only }
    where
      only : (there : LeafPlace) → LeafIsAt L turns n there → there ≡ OnPath r.path
      only (OnPath other) is = one_path r.path other r.ends is.0
      only (Waits w i) is = absurd (gone w (waits_cut w i is).0 r.path r.ends same)
      only (IsFreed i) is = absurd (gone (freed_cut i is).0 (freed_cut i is).1 r.path r.ends same)

  waiting : (w i : ℕ) → slice_get (waits_of w turns) i ≡ Some n → IsAtOnePlace L turns n
  waiting w i at' = record { place = Waits w i; here = at'; only = only }
    where
      only : (there : LeafPlace) → LeafIsAt L turns n there → there ≡ Waits w i
      only (OnPath path) is = absurd (gone w (waits_cut w i at').0 path is.0 is.1)
      only (Waits v j) is = one_wait w i v j at' is
      only (IsFreed j) is = absurd (not_both w i j at' is)

  freed : (i : ℕ) → slice_get (freed_by turns) i ≡ Some n → IsAtOnePlace L turns n
  freed i at' = record { place = IsFreed i; here = at'; only = only }
    where
      only : (there : LeafPlace) → LeafIsAt L turns n there → there ≡ IsFreed i
      only (OnPath path) is = absurd (gone (freed_cut i at').0 (freed_cut i at').1 path is.0 is.1)
      only (Waits w j) is = absurd (not_both w j i is at')
      only (IsFreed j) is = one_free i j at' is

  placed : NodeFate L turns n → IsAtOnePlace L turns n
  placed (StaysIn r born) = in_tree r (λ i. record { slot = n.slot; birth = born i })
  placed (WasCutOff w cut) = by (is_among (freed_by turns) n) refl
    where
      by : (b : Bool) → is_among (freed_by turns) n ≡ b → IsAtOnePlace L turns n
      by true among = let c = among_in (freed_by turns) n among in freed c.0 (index_of (freed_by turns) n c)
      by false other =
          let i = in_filter (λ (m : NodeId). not (is_among (freed_by turns) m)) (cuts_of w turns) n cut
          (ap not other) in waiting w i.0 i.1

-- each node that was reached at a moment
pub reached_node_is_placed : (L : Layout) (turns : List Turn) → Headline L turns → (so_far rest : List Turn)
    → turns ≡ so_far ++ rest → (x : ℕ) → 6 ≤ x → x ≤ L.nodes → Reached (words_after L so_far) x
    → IsAtOnePlace L turns (named (words_after L so_far) x)
reached_node_is_placed L turns h so_far rest are x low most reached = placed L turns h
    (named (words_after L so_far) x) low most (node_fate L turns h x low most so_far rest are reached)

-- ---- a leaf with a store

pub stored_values_are_at_one_place : StoredValuesAreAtOnePlace
stored_values_are_at_one_place L turns h was stores s x there leaf is =
    subst (IsAtOnePlace L turns) (leaf_named L turns x leaf is)
    (reached_node_is_placed L turns h (put_in.before ++ put_in.put ∷ []) put_in.since
    (put_in.are ∙ sym (append_assoc put_in.before (put_in.put ∷ []) put_in.since)) leaf.slot
    (leaf_low L turns h x leaf is hands) (leaf_high L turns h x leaf is hands) (leaf_reached L turns h x leaf is hands))
  where
    put_in : HasPutIn L turns x.worker leaf
    put_in = is.put_in

    hands : WasInHands L turns x
    hands = in_hands_then L was turns stores s x there
