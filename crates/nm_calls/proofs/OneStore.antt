-- A leaf has one store: no two workers put it in, and none does so twice.
use Rattle.std.proofs.Common.{◌≡◌, ◌⊎◌, inl, inr, ℕ, ◌<◌, ◌≤◌, List, [], ◌∷◌, ◌++◌, append_assoc, length, get_or, true, false, sym, ap, subst, ◌∙◌, arith}
use Rattle.std.specs.Prelude.{AllPairs, Contains}
use Rattle.std.proofs.lemmas.Bool.{cases_lt}
use Rattle.std.proofs.lemmas.List.{get_or_default}
use Rattle.std.proofs.lemmas.List.Elements.{Contains-append_left}
use Rattle.nm_edge.specs.Layouts.{Layout}
use Rattle.nm_edge.specs.declared.node.NodeId.{NodeId}
use Rattle.nm_model.specs.declared.trace.Turn.{Turn}
use Rattle.nm_model.specs.Headline.{Headline, cuts_of, has_after, words_after}
use Rattle.nm_model.specs.Headline.Place.{InHands, OnPath}
use Rattle.nm_model.specs.Memory.{named, opening}
use Rattle.nm_order.specs.Logs.{part_of}
use Rattle.nm_theorem.proofs.FreedOfRuns.{cuts-append}
use Rattle.nm_steps.specs.declared.view.Stored.{Stored}
use Rattle.nm_steps.specs.Rules.{ComesBefore}
use Rattle.nm_calls.specs.Maps.{WasInHands}
use Rattle.nm_calls.specs.OnceBack.{IsStoreOf}
use Rattle.nm_calls.specs.StoredLeaves.{LeavesHaveOneStore}
use Rattle.nm_calls.proofs.LeavesInHands.{in_hands_then, leaf_held, leaf_high, leaf_low, leaf_named, leaf_reached}
use Rattle.nm_calls.proofs.OnceBack.{TwoPlaces, put_answered, two_places}
use Rattle.nm_calls.proofs.OnceBack.TwoPlaces.{AreOne, IsEarlier, IsLater}
use Rattle.nm_calls.proofs.ReachedNodes.{NodeFate, node_fate_then}
use Rattle.nm_calls.proofs.ReachedNodes.NodeFate.{StaysIn, WasCutOff}
use Rattle.nm_calls.proofs.Unheld.{not_place}

-- in their order two stores of one worker, made when its log had as many entries, are one
pub one_store : (stores : List Stored) → AllPairs ComesBefore stores → (x y : Stored) → Contains stores x
    → Contains stores y → x.worker ≡ y.worker → x.own ≡ y.own → x ≡ y
one_store stores order x y (i, below, at) (j, below', at') who own = by (cases_lt i j) (cases_lt j i)
  where
    later : (a b : Stored) (k l : ℕ) → k < l → l < length stores → get_or stores k a ≡ a → get_or stores l b ≡ b
        → a.worker ≡ b.worker → a.own ≡ b.own → ⊥
    later a b k l less inside is is' same mine =
        let first : get_or stores k b ≡ a = get_or_default stores k b a (omega (arith, less, inside)) ∙ is in
        let c : ComesBefore a b = subst (λ (z : Stored). ComesBefore z b) first
        (subst (ComesBefore (get_or stores k b)) is' (order k l b less inside)) in
        let least = c.1 same in omega (arith, least, mine)

    by : (i < j) ⊎ (j ≤ i) → (j < i) ⊎ (i ≤ j) → x ≡ y
    by (inl less) other = absurd (later x y i j less below' at at' who own)
    by (inr most) (inl less) = absurd (later y x j i less below at' at (sym who) (sym own))
    by (inr most) (inr least) =
        let same : i ≡ j = omega (arith, most, least) in
        sym at ∙ (ap (λ (k : ℕ). get_or stores k x) same ∙ (get_or_default stores j x y below' ∙ at'))

-- ---- a leaf is put in once

module _ (L : Layout) (turns : List Turn) (h : Headline L turns) (x y : Stored) (leaf : NodeId)
    (one : IsStoreOf L turns x leaf) (other : IsStoreOf L turns y leaf) (hands : WasInHands L turns x)
    (hands' : WasInHands L turns y)
    (mid : List Turn) (at : other.put_in.before ≡ one.put_in.before ++ one.put_in.put ∷ mid) where
  abbrev so_far : List Turn
  so_far = one.put_in.before ++ one.put_in.put ∷ []

  low : 6 ≤ leaf.slot
  low = leaf_low L turns h x leaf one hands

  most : leaf.slot ≤ L.nodes
  most = leaf_high L turns h x leaf one hands

  then' : so_far ++ mid ≡ other.put_in.before
  then' = append_assoc one.put_in.before (one.put_in.put ∷ []) mid ∙ sym at

  moment : turns ≡ (so_far ++ mid) ++ other.put_in.put ∷ other.put_in.since
  moment = other.put_in.are ∙ ap (λ (ts : List Turn). ts ++ other.put_in.put ∷ other.put_in.since) (sym then')

  held : has_after (opening L) y.worker leaf.slot false (so_far ++ mid) ≡ true
  held =
      ap (has_after (opening L) y.worker leaf.slot false) then'
      ∙ leaf_held L turns h y leaf other hands'

  by : NodeFate L (so_far ++ mid) (named (words_after L so_far) leaf.slot) → ⊥
  by (StaysIn r born) =
      let place = h.places (so_far ++ mid) (other.put_in.put ∷ other.put_in.since) moment leaf.slot low most in
      not_place y.worker r.path (place.only (InHands y.worker) held ∙ sym (place.only (OnPath r.path) r.ends))
  by (WasCutOff w c) =
      let cut : Contains (cuts_of w other.put_in.before) leaf = subst
      (λ (ts : List Turn). Contains (cuts_of w ts) leaf) then'
      (subst (λ (n : NodeId). Contains (cuts_of w (so_far ++ mid)) n) (leaf_named L turns x leaf one) c) in
      let less = h.younger (other.put_in.before ++ other.put_in.put ∷ []) other.put_in.since
      (other.put_in.are ∙ sym (append_assoc other.put_in.before (other.put_in.put ∷ []) other.put_in.since)) w leaf
      (subst (λ (ns : List NodeId). Contains ns leaf)
      (sym (cuts-append w other.put_in.before (other.put_in.put ∷ [])))
      (Contains-append_left (cuts_of w other.put_in.before) (cuts_of w (other.put_in.put ∷ [])) leaf cut))
      (leaf_reached L turns h y leaf other hands') in
      let born = ap (λ (n : NodeId). n.birth) (leaf_named L turns y leaf other) in
      omega (arith, less, born)

  put_in_again : ⊥
  put_in_again = by (node_fate_then L turns h leaf.slot low most so_far mid
      (other.put_in.put ∷ other.put_in.since) moment (leaf_reached L turns h x leaf one hands))

pub leaves_have_one_store : LeavesHaveOneStore
leaves_have_one_store L turns h was stores s leaf x y there there' one other = by
    (two_places one.put_in.before one.put_in.since other.put_in.before other.put_in.since one.put_in.put
    other.put_in.put (sym one.put_in.are ∙ other.put_in.are))
  where
    hands : WasInHands L turns x
    hands = in_hands_then L was turns stores s x there

    hands' : WasInHands L turns y
    hands' = in_hands_then L was turns stores s y there'

    by : TwoPlaces one.put_in.before one.put_in.since other.put_in.before other.put_in.since one.put_in.put
        other.put_in.put → x ≡ y
    by (AreOne same it) =
        let a = put_answered L turns x.worker leaf one.put_in in
        let b = put_answered L turns y.worker leaf other.put_in in
        let who : x.worker ≡ y.worker = sym (ap (λ (t : Turn). t.worker) a.is)
        ∙ (ap (λ (t : Turn). t.worker) it ∙ ap (λ (t : Turn). t.worker) b.is) in
        one_store stores s.order x y there there' who
        (one.own ∙ ((λ i. length (part_of (who i) (same i))) ∙ sym other.own))
    by (IsLater mid rest at) = absurd (put_in_again L turns h x y leaf one other hands hands' mid at)
    by (IsEarlier mid rest at) = absurd (put_in_again L turns h y x leaf other one hands' hands mid at)
