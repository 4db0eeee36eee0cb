-- Where each edge to a slot that paths come to is flagged, it stays so, whatever happens: a link
-- finds no such edge, and a splice copies the flag.
use Rattle.std.proofs.Common.{◌≡◌, ◌≢◌, ℕ, zero, suc, ◌<◌, eqb, Bool, true, false, ◌&&◌, List, [], ◌∷◌, ◌++◌, length, refl, sym, ap, subst, ◌∙◌, arith}
use Rattle.std.specs.Prelude.{Option, Some, None}
use native.Mathlib.Decide.{ℕ_discrete}
use Rattle.std.proofs.lemmas.Bool.{cond-true, cond-false, eqb-true, and_parts}
use Rattle.std.proofs.lemmas.Option.{none-some, same_Some}
use Rattle.nm_edge.specs.Edges.{Edge}
use Rattle.nm_edge.specs.declared.edge.Side.{Side}
use Rattle.nm_model.specs.Memory.{Memory, edge, child, put_edge}
use Rattle.nm_model.specs.Knowledge.{Knowledge, read, is_tagged, slot_read, onward, before_way, way}
use Rattle.nm_model.specs.Paths.{follow}
use Rattle.nm_laws.proofs.Trees.{Children, same_side, same_side-true, same_follow, follow-append}
use Rattle.nm_laws.proofs.Views.{edge_put}
use Rattle.nm_laws.proofs.TreeSplice.{onward_leads}
use Rattle.nm_model.proofs.Ways.{way_here, way_next, way_end}

-- each edge to slot n that paths from x come to is flagged
abbrev pub LeadsFlagged : Memory → ℕ → ℕ → Type 0
LeadsFlagged m n x = (path : List Side) (d : Side) → child m (follow (child m) x path) d ≡ n
    → (edge m (follow (child m) x path) d).flag ≡ true

-- a slot at the end of a path from x
abbrev pub On : Children → ℕ → ℕ → Type 0
On c x y = (path : List Side) × (follow c x path ≡ y)

pub on_next : (c : Children) (x y : ℕ) (d : Side) → On c x y → On c x (c y d)
on_next c x y d on = (on.0 ++ d ∷ [], follow-append c x on.0 (d ∷ []) ∙ ap (λ (z : ℕ). c z d) on.1)

pub on_further : (c : Children) (x y : ℕ) (q : List Side) → On c x y → On c x (follow c y q)
on_further c x y q on = (on.0 ++ q, follow-append c x on.0 q ∙ ap (λ (z : ℕ). follow c z q) on.1)

-- by a slot on a path
pub flag_on : (m : Memory) (n x y : ℕ) (d : Side) → LeadsFlagged m n x → On (child m) x y → child m y d ≡ n
    → (edge m y d).flag ≡ true
flag_on m n x y d good on is = subst (λ (z : ℕ). child m z d ≡ n → (edge m z d).flag ≡ true) on.1 (good on.0 d) is

-- what is kept at each step is so at the end of each path
pub closed : (c : Children) (R : ℕ → Type 0) → ((y : ℕ) (d : Side) → R y → R (c y d)) → (x : ℕ) → R x
    → (path : List Side) → R (follow c x path)
closed c R step x r [] = r
closed c R step x r (d ∷ path) = closed c R step (c x d) (step x d r) path

-- ---- marks

same_children : (m m' : Memory) (n x : ℕ) → ((y : ℕ) (d : Side) → child m' y d ≡ child m y d)
    → ((y : ℕ) (d : Side) → (edge m y d).flag ≡ true → (edge m' y d).flag ≡ true) → LeadsFlagged m n x
    → LeadsFlagged m' n x
same_children m m' n x same grows good path d is =
    let at : follow (child m') x path ≡ follow (child m) x path = same_follow (child m) (child m') same x path in
    grows (follow (child m') x path) d (subst (λ (y : ℕ). child m y d ≡ n → (edge m y d).flag ≡ true) (sym at)
    (good path d) (sym (same (follow (child m') x path) d) ∙ is))

-- an edge after one was put down: that one, or as it was
pub data Put (m : Memory) (p : ℕ) (d : Side) (e : Edge) (y : ℕ) (g : Side) : Type 0 where
  Here : y ≡ p → d ≡ g → edge (put_edge m p d e) y g ≡ e → Put m p d e y g
  There : edge (put_edge m p d e) y g ≡ edge m y g → Put m p d e y g

pub put_case : (m : Memory) (p : ℕ) (d : Side) (e : Edge) → p < length m.nodes → (y : ℕ) (g : Side) → Put m p d e y g
put_case m p d e inside y g = go (eqb y p && same_side d g) refl
  where
    go : (b : Bool) → (eqb y p && same_side d g) ≡ b → Put m p d e y g
    go true is = let parts = and_parts (eqb y p) (same_side d g) is in
        Here (eqb-true y p parts.0) (same_side-true d g parts.1)
        (edge_put m p d e inside y g ∙ cond-true (eqb y p && same_side d g) e (edge m y g) is)
    go false is = There (edge_put m p d e inside y g ∙ cond-false (eqb y p && same_side d g) e (edge m y g) is)

pub marked : (m : Memory) (n x p : ℕ) (d : Side) (e : Edge) → p < length m.nodes → e.slot ≡ child m p d
    → ((edge m p d).flag ≡ true → e.flag ≡ true) → LeadsFlagged m n x → LeadsFlagged (put_edge m p d e) n x
marked m n x p d e inside slot flag = same_children m (put_edge m p d e) n x
    (λ y g. leads y g (put_case m p d e inside y g)) (λ y g. grows y g (put_case m p d e inside y g))
  where
    leads : (y : ℕ) (g : Side) → Put m p d e y g → child (put_edge m p d e) y g ≡ child m y g
    leads y g (Here at side is) = ap (λ (z : Edge). z.slot) is
        ∙ (slot ∙ (ap (λ (z : ℕ). child m z d) (sym at) ∙ ap (child m y) side))
    leads y g (There is) = ap (λ (z : Edge). z.slot) is

    grows : (y : ℕ) (g : Side) → Put m p d e y g → (edge m y g).flag ≡ true → (edge (put_edge m p d e) y g).flag ≡ true
    grows y g (Here at side is) f = ap (λ (z : Edge). z.flag) is
        ∙ flag (ap (λ (z : ℕ). (edge m z d).flag) (sym at) ∙ (ap (λ (h : Side). (edge m y h).flag) side ∙ f))
    grows y g (There is) f = ap (λ (z : Edge). z.flag) is ∙ f

-- ---- a slot that no path comes to

pub filled_apart : (m m' : Memory) (n x z : ℕ) → ((y : ℕ) (d : Side) → y ≢ z → edge m' y d ≡ edge m y d)
    → ((q : List Side) → follow (child m) x q ≡ z → ⊥) → LeadsFlagged m n x → LeadsFlagged m' n x
filled_apart m m' n x z same never good path d is =
    let on = closed (child m') (On (child m) x) step x ([], refl) path in
    let e = same (follow (child m') x path) d (off (follow (child m') x path) on) in
    ap (λ (g : Edge). g.flag) e ∙ flag_on m n x (follow (child m') x path) d good on
    (ap (λ (g : Edge). g.slot) (sym e) ∙ is)
  where
    off : (y : ℕ) → On (child m) x y → y ≢ z
    off y on at = never on.0 (on.1 ∙ at)

    step : (y : ℕ) (d : Side) → On (child m) x y → On (child m) x (child m' y d)
    step y d on = subst (λ (t : ℕ). On (child m) x t) (ap (λ (g : Edge). g.slot) (sym (same y d (off y on))))
        (on_next (child m) x y d on)

-- ---- the way of a splice

-- the way that a worker knows leads to where it ends
pub way_ends : (c : Children) (k : Knowledge) → ((y : ℕ) (d : Side) → is_tagged (read k y d) ≡ true
    → slot_read (read k y d) ≡ c y d) → (fuel s p : ℕ) (sides : List Side) → way fuel k s p ≡ Some sides
    → follow c s sides ≡ p
way_ends c k so zero s p sides is = absurd (none-some sides is)
way_ends c k so (suc fuel) s p sides is = go (λ t r found. way_ends c k so fuel t p r found)
  where
    Rest : Type 0
    Rest = (t : ℕ) (r : List Side) → way fuel k t p ≡ Some r → follow c t r ≡ p

    met : Rest → (g : Side) → onward k s ≡ Some g → (o : Option (List Side))
        → way fuel k (slot_read (read k s g)) p ≡ o → before_way (Some g) o ≡ Some sides → follow c s sides ≡ p
    met rest g goes None found e = absurd (none-some sides e)
    met rest g goes (Some r) found e =
        let tag = (and_parts (is_tagged (read k s g)) _ (onward_leads k s g goes)).0 in
        subst (λ (d : List Side). follow c s d ≡ p) (same_Some (g ∷ r) sides e)
        (ap (λ (y : ℕ). follow c y r) (sym (so s g tag)) ∙ rest (slot_read (read k s g)) r found)

    on : Rest → s ≢ p → (o : Option Side) → onward k s ≡ o → follow c s sides ≡ p
    on rest ne None goes = absurd (none-some sides (sym (way_end (suc fuel) fuel k s p (omega arith) ne goes) ∙ is))
    on rest ne (Some g) goes = met rest g goes (way fuel k (slot_read (read k s g)) p) refl
        (sym (way_next (suc fuel) fuel k s p g (omega arith) ne goes) ∙ is)

    go : Rest → follow c s sides ≡ p
    go rest = elim (ℕ_discrete s p) [
      | yes at ↦ subst (λ (d : List Side). follow c s d ≡ p)
          (same_Some [] sides (sym (way_here (suc fuel) fuel k s p (omega arith) at) ∙ is)) at
      | no ne ↦ on rest ne (onward k s) refl
    ]
