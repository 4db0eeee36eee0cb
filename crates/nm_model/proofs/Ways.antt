-- The way of a splice, by its next step.
use Rattle.std.proofs.Common.{◌≡◌, ◌≢◌, ℕ, ◌+◌, ◌==◌, Bool, true, false, Option, Some, None, is_some, unwrap_or, List, [], ◌∷◌, ◌++◌, refl, ap, ◌∙◌}
use Rattle.std.proofs.Math.Numerals.{add-one}
use Rattle.std.proofs.lemmas.Bool.{eq-eqb, ne_eqb}
use Rattle.std.proofs.lemmas.List.{append_assoc}
use Rattle.nm_edge.specs.Edges.{other}
use Rattle.nm_edge.specs.declared.edge.Side.{Side}
use Rattle.nm_model.specs.Knowledge.{Knowledge, read, slot_read, onward, slot_on, before_way, way, cut_by}

-- by the test whether the node is the last
abbrev at_test : Bool → Option (List Side) → Option (List Side)
at_test b rest = elim b [ true ↦ Some [] | false ↦ rest ]

one_more : (n m : ℕ) (k : Knowledge) (s p : ℕ) → n ≡ m + 1
    → way n k s p ≡ at_test (s == p) (before_way (onward k s) (way m k (slot_on k s (onward k s)) p))
one_more n m k s p e = rw (e, add-one) refl

-- at the last node
pub way_here : (n m : ℕ) (k : Knowledge) (s p : ℕ) → n ≡ m + 1 → s ≡ p → way n k s p ≡ Some []
way_here n m k s p e same = one_more n m k s p e
    ∙ ap (λ b. at_test b (before_way (onward k s) (way m k (slot_on k s (onward k s)) p))) (eq-eqb s p same)

-- where the way goes on
pub way_next : (n m : ℕ) (k : Knowledge) (s p : ℕ) (side : Side) → n ≡ m + 1 → s ≢ p → onward k s ≡ Some side
    → way n k s p ≡ before_way (Some side) (way m k (slot_read (read k s side)) p)
way_next n m k s p side e differ go =
    one_more n m k s p e
    ∙ ap (λ b. at_test b (before_way (onward k s) (way m k (slot_on k s (onward k s)) p))) (ne_eqb s p differ)
    ∙ ap (λ o. before_way o (way m k (slot_on k s o) p)) go

-- where it breaks off
pub way_end : (n m : ℕ) (k : Knowledge) (s p : ℕ) → n ≡ m + 1 → s ≢ p → onward k s ≡ None → way n k s p ≡ None
way_end n m k s p e differ go =
    one_more n m k s p e
    ∙ ap (λ b. at_test b (before_way (onward k s) (way m k (slot_on k s (onward k s)) p))) (ne_eqb s p differ)
    ∙ ap (λ o. before_way o (way m k (slot_on k s o) p)) go

-- there is a way from here where there is one from the next node
pub some_before : (side : Side) (w : Option (List Side)) → is_some (before_way (Some side) w) ≡ is_some w
some_before side None = refl
some_before side (Some sides) = refl

-- the slots so far, then this node with its leaf and those below, are the slots so far with this
-- node and its leaf, and then those below
pub cut_before : (k : Knowledge) (slots : List ℕ) (s : ℕ) (side keep : Side) (w : Option (List Side)) → is_some w ≡ true
    → (slots ++ s ∷ slot_read (read k s (other side)) ∷ [])
    ++ cut_by k (slot_read (read k s side)) (unwrap_or w []) keep
    ≡ slots ++ cut_by k s (unwrap_or (before_way (Some side) w) []) keep
cut_before k slots s side keep None is = absurd cc
cut_before k slots s side keep (Some sides) is = append_assoc slots _ _
