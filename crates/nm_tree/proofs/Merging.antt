-- Queues of one worker among those of another, by origin.
use Rattle.std.proofs.Common.{◌≡◌, ◌≢◌, ℕ, suc, ◌+◌, ◌<◌, ◌⊎◌, inl, inr, Bool, true, false, List, [], ◌∷◌, length, refl, sym, ap, ◌∙◌, arith}
use Rattle.std.specs.Prelude.{nat_lt, if◌then◌else◌, insert}
use Rattle.std.proofs.lemmas.Bool.Decides.{nat_tests}
use Rattle.nm_model.specs.Knowledge.{Knowledge}
use Rattle.nm_steps.specs.declared.view.View.{View}
use Rattle.nm_epoch.specs.declared.collecting.HeldQueue.{HeldQueue}
use Rattle.nm_epoch.specs.Collecting.{AreHeld, IsQueueOf, NoneHas}
use Rattle.nm_tree.specs.Workers.{IsCounted, AreCounted, HasOrigin, AreAbove, Ascend, QueueStandsAt}
use Rattle.nm_tree.specs.Resigning.{place_in, inserted, merged}

-- ---- how many

pub length-inserted : (g : HeldQueue) (hs : List HeldQueue) → length (inserted g hs) ≡ suc (length hs)
length-inserted g [] = refl
length-inserted g (h ∷ hs) = by (nat_lt h.origin g.origin) (length-inserted g hs)
  where
    by : (b : Bool) → length (inserted g hs) ≡ suc (length hs)
        → length (if b then h ∷ inserted g hs else g ∷ h ∷ hs) ≡ suc (suc (length hs))
    by true rest = ap suc rest
    by false rest = refl

pub length-merged : (hs gs : List HeldQueue) → length (merged hs gs) ≡ length hs + length gs
length-merged hs [] = omega arith
length-merged hs (g ∷ gs) = let one = length-inserted g (merged hs gs) in let rest = length-merged hs gs in
    omega (arith, one, rest)

-- a queue at its place
pub inserted_there : (g : HeldQueue) (hs : List HeldQueue) → insert hs (place_in g.origin hs) g ≡ inserted g hs
inserted_there g [] = refl
inserted_there g (h ∷ hs) = by (nat_lt h.origin g.origin) (inserted_there g hs)
  where
    by : (b : Bool) → insert hs (place_in g.origin hs) g ≡ inserted g hs
        → insert (h ∷ hs) (if b then suc (place_in g.origin hs) else 0) g
        ≡ (if b then h ∷ inserted g hs else g ∷ h ∷ hs)
    by true rest = ap (λ l. h ∷ l) rest
    by false rest = refl

-- ---- which

pub has_inserted : (o : ℕ) (g : HeldQueue) (hs : List HeldQueue) → (g.origin ≡ o) ⊎ HasOrigin o hs
    → HasOrigin o (inserted g hs)
has_inserted o g [] (inl is) = inl is
has_inserted o g [] (inr has) = absurd has
has_inserted o g (h ∷ hs) has = by (nat_lt h.origin g.origin) (has_inserted o g hs) has
  where
    by : (b : Bool) → ((g.origin ≡ o) ⊎ HasOrigin o hs → HasOrigin o (inserted g hs))
        → (g.origin ≡ o) ⊎ HasOrigin o (h ∷ hs) → HasOrigin o (if b then h ∷ inserted g hs else g ∷ h ∷ hs)
    by true rest (inl is) = inr (rest (inl is))
    by true rest (inr (inl is)) = inl is
    by true rest (inr (inr has')) = inr (rest (inr has'))
    by false rest (inl is) = inl is
    by false rest (inr has') = inr has'

pub inserted_has : (o : ℕ) (g : HeldQueue) (hs : List HeldQueue) → HasOrigin o (inserted g hs)
    → (g.origin ≡ o) ⊎ HasOrigin o hs
inserted_has o g [] has = has
inserted_has o g (h ∷ hs) has = by (nat_lt h.origin g.origin) (inserted_has o g hs) has
  where
    by : (b : Bool) → (HasOrigin o (inserted g hs) → (g.origin ≡ o) ⊎ HasOrigin o hs)
        → HasOrigin o (if b then h ∷ inserted g hs else g ∷ h ∷ hs) → (g.origin ≡ o) ⊎ HasOrigin o (h ∷ hs)
    by true rest (inl is) = inr (inl is)
    by true rest (inr has') = elim (rest has') [
      | inl is ↦ inl is
      | inr old ↦ inr (inr old)
    ]
    by false rest has' = has'

pub has_merged : (o : ℕ) (hs gs : List HeldQueue) → HasOrigin o hs ⊎ HasOrigin o gs → HasOrigin o (merged hs gs)
has_merged o hs [] (inl has) = has
has_merged o hs [] (inr has) = absurd has
has_merged o hs (g ∷ gs) (inl has) = has_inserted o g (merged hs gs) (inr (has_merged o hs gs (inl has)))
has_merged o hs (g ∷ gs) (inr (inl is)) = has_inserted o g (merged hs gs) (inl is)
has_merged o hs (g ∷ gs) (inr (inr has)) = has_inserted o g (merged hs gs) (inr (has_merged o hs gs (inr has)))

pub merged_has : (o : ℕ) (hs gs : List HeldQueue) → HasOrigin o (merged hs gs) → HasOrigin o hs ⊎ HasOrigin o gs
merged_has o hs [] has = inl has
merged_has o hs (g ∷ gs) has = elim (inserted_has o g (merged hs gs) has) [
  | inl is ↦ inr (inl is)
  | inr old ↦ elim (merged_has o hs gs old) [
    | inl first ↦ inl first
    | inr second ↦ inr (inr second)
  ]
]

pub none_inserted : (o : ℕ) (g : HeldQueue) (hs : List HeldQueue) → o ≢ g.origin → NoneHas o hs
    → NoneHas o (inserted g hs)
none_inserted o g [] other none' = (other, tt)
none_inserted o g (h ∷ hs) other none' = by (nat_lt h.origin g.origin) (none_inserted o g hs other none'.1)
  where
    by : (b : Bool) → NoneHas o (inserted g hs) → NoneHas o (if b then h ∷ inserted g hs else g ∷ h ∷ hs)
    by true rest = (none'.0, rest)
    by false rest = (other, none')

pub none_merged : (o : ℕ) (hs gs : List HeldQueue) → NoneHas o hs → NoneHas o gs → NoneHas o (merged hs gs)
none_merged o hs [] a b = a
none_merged o hs (g ∷ gs) a b = none_inserted o g (merged hs gs) b.0 (none_merged o hs gs a b.1)

-- ---- their order

pub above_inserted : (o : ℕ) (g : HeldQueue) (hs : List HeldQueue) → o < g.origin → NoneHas g.origin hs
    → AreAbove o hs → AreAbove o (inserted g hs)
above_inserted o g [] less none' above = (less, tt)
above_inserted o g (h ∷ hs) less none' above = by (nat_lt h.origin g.origin) refl
    (λ (lt : h.origin < g.origin). above_inserted h.origin g hs lt none'.1 above.1)
  where
    by : (b : Bool) → nat_lt h.origin g.origin ≡ b → (h.origin < g.origin → AreAbove h.origin (inserted g hs))
        → AreAbove o (if b then h ∷ inserted g hs else g ∷ h ∷ hs)
    by true is rest = (above.0, rest (grind (arith, nat_tests, is)))
    by false is rest = let ne = none'.0 in
        (less, ((let q : g.origin < h.origin = grind (arith, nat_tests, is, ne) in q), above.1))

pub ascend_inserted : (g : HeldQueue) (hs : List HeldQueue) → NoneHas g.origin hs → Ascend hs → Ascend (inserted g hs)
ascend_inserted g [] none' up = tt
ascend_inserted g (h ∷ hs) none' up = by (nat_lt h.origin g.origin) refl
  where
    by : (b : Bool) → nat_lt h.origin g.origin ≡ b → Ascend (if b then h ∷ inserted g hs else g ∷ h ∷ hs)
    by true is = above_inserted h.origin g hs (grind (arith, nat_tests, is)) none'.1 up
    by false is = let ne = none'.0 in ((let q : g.origin < h.origin = grind (arith, nat_tests, is, ne) in q), up)

-- an origin that they have stands at its place
pub stands_at_place : (o : ℕ) (hs : List HeldQueue) → Ascend hs → HasOrigin o hs → QueueStandsAt (place_in o hs) o hs
stands_at_place o [] up has = absurd has
stands_at_place o (h ∷ hs) up has = by (nat_lt h.origin o) refl (λ has'. stands_at_place o hs (tail_up h hs up) has')
    has
  where
    tail_up : (h : HeldQueue) (gs : List HeldQueue) → AreAbove h.origin gs → Ascend gs
    tail_up h [] above = tt
    tail_up h (g ∷ gs) above = above.1

    above_has : (m : ℕ) (gs : List HeldQueue) → AreAbove m gs → HasOrigin o gs → m < o
    above_has m [] above has' = absurd has'
    above_has m (g ∷ gs) above (inl is) = let a = above.0 in omega (arith, a, is)
    above_has m (g ∷ gs) above (inr has') = let a = above.0 in let b = above_has g.origin gs above.1 has' in
        omega (arith, a, b)

    by : (b : Bool) → nat_lt h.origin o ≡ b → (HasOrigin o hs → QueueStandsAt (place_in o hs) o hs)
        → HasOrigin o (h ∷ hs) → QueueStandsAt (if b then suc (place_in o hs) else 0) o (h ∷ hs)
    by true is rest (inl at) = absurd (grind (arith, nat_tests, is, at))
    by true is rest (inr has') = rest has'
    by false is rest (inl at) = at
    by false is rest (inr has') = let m = above_has h.origin hs up has' in absurd (grind (arith, nat_tests, is, m))

-- ---- what is kept of each

pub held_inserted : (k : Knowledge) (g : HeldQueue) (hs : List HeldQueue) → IsQueueOf k g.origin g.queue.items
    → NoneHas g.origin hs → AreHeld k hs → AreHeld k (inserted g hs)
held_inserted k g [] is none' are = (is, tt, tt)
held_inserted k g (h ∷ hs) is none' are = by (nat_lt h.origin g.origin) (held_inserted k g hs is none'.1 are.2)
  where
    by : (b : Bool) → AreHeld k (inserted g hs) → AreHeld k (if b then h ∷ inserted g hs else g ∷ h ∷ hs)
    by true rest = (are.0, none_inserted h.origin g hs (λ e. none'.0 (sym e)) are.1, rest)
    by false rest = (is, none', are)

pub counted_inserted : (v : View) (g : HeldQueue) (hs : List HeldQueue) → IsCounted v g → AreCounted v hs
    → AreCounted v (inserted g hs)
counted_inserted v g [] is are = (is, tt)
counted_inserted v g (h ∷ hs) is are = by (nat_lt h.origin g.origin) (counted_inserted v g hs is are.1)
  where
    by : (b : Bool) → AreCounted v (inserted g hs) → AreCounted v (if b then h ∷ inserted g hs else g ∷ h ∷ hs)
    by true rest = (are.0, rest)
    by false rest = (is, are)

-- origins of the second are none of the first
abbrev pub AreApart : List HeldQueue → List HeldQueue → Type 0
AreApart hs [] = Unit {0}
AreApart hs (g ∷ gs) = NoneHas g.origin hs × AreApart hs gs

pub ascend_merged : (k : Knowledge) (hs gs : List HeldQueue) → AreApart hs gs → AreHeld k gs → Ascend hs
    → Ascend (merged hs gs)
ascend_merged k hs [] apart are up = up
ascend_merged k hs (g ∷ gs) apart are up = ascend_inserted g (merged hs gs)
    (none_merged g.origin hs gs apart.0 are.1) (ascend_merged k hs gs apart.1 are.2 up)

pub held_merged : (k : Knowledge) (hs gs : List HeldQueue) → AreApart hs gs → AreHeld k hs → AreHeld k gs
    → AreHeld k (merged hs gs)
held_merged k hs [] apart are more = are
held_merged k hs (g ∷ gs) apart are more = held_inserted k g (merged hs gs) more.0
    (none_merged g.origin hs gs apart.0 more.1) (held_merged k hs gs apart.1 are more.2)

pub counted_merged : (v : View) (hs gs : List HeldQueue) → AreCounted v hs → AreCounted v gs
    → AreCounted v (merged hs gs)
counted_merged v hs [] are more = are
counted_merged v hs (g ∷ gs) are more = counted_inserted v g (merged hs gs) more.0 (counted_merged v hs gs are more.1)

-- ---- all of them

-- queues that ascend, among none
pub merged_with_none : (hs : List HeldQueue) → Ascend hs → merged [] hs ≡ hs
merged_with_none [] up = refl
merged_with_none (g ∷ []) up = refl
merged_with_none (g ∷ h ∷ hs) up =
    ap (λ (l : List HeldQueue). inserted g l) (merged_with_none (h ∷ hs) up.1) ∙ first (nat_lt h.origin g.origin) refl
  where
    first : (b : Bool) → nat_lt h.origin g.origin ≡ b → (if b then h ∷ inserted g hs else g ∷ h ∷ hs) ≡ g ∷ h ∷ hs
    first true is = let less = up.0 in absurd (grind (arith, nat_tests, is, less))
    first false is = refl
