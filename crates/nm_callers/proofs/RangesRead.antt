-- A range that is read: the keys that were in the set all the time are read, and those that were absent
-- all the time are not. Two scans agree on both.
use Rattle.std.proofs.Common.{◌≡◌, ◌≢◌, ◌<◌, ◌≤◌, ◌⊎◌, inl, inr, ℕ, zero, suc, Bool, true, false, List, [], ◌∷◌, ◌++◌, append_assoc, length, get_or, refl, sym, ap, subst, ◌∙◌, arith}
use Rattle.std.specs.Prelude.{Contains, Option, None, Some, IfSome, take}
use Rattle.std.specs.List.{AllWithin}
use Rattle.std.proofs.lemmas.Bool.{cases_lt}
use Rattle.std.proofs.lemmas.List.{get_or-map, get_or-take, length-map, length-take-le}
use Rattle.nm_edge.specs.Keys.{IsKey}
use Rattle.nm_edge.specs.Layouts.{Layout}
use Rattle.nm_edge.specs.declared.edge.Side.{Side}
use Rattle.nm_edge.specs.declared.edge.Side.TheVariants.{Left, Right}
use Rattle.nm_model.specs.declared.trace.Turn.{Turn}
use Rattle.nm_model.specs.Acts.{InSet}
use Rattle.nm_model.specs.Headline.{words_after}
use Rattle.nm_steps.specs.Rules.{Extends}
use Rattle.nm_steps.specs.Steps.{PassView, HasSeenAllOf}
use Rattle.nm_steps.proofs.Growing.{goes_on_itself}
use Rattle.nm_calls.specs.declared.map_scanning.MapEntry.{MapEntry}
use Rattle.nm_calls.specs.MapScans.{keys_of}
use Rattle.nm_calls.specs.NearKeys.{IsPast, bound}
use Rattle.nm_calls.specs.PlainWalks.{WasSo}
use Rattle.nm_calls.specs.Scans.{IsIn, IsRangeBy, beyond, end_of}
use Rattle.nm_tree.proofs.Taking.{no_shorter}
use Rattle.nm_callers.specs.Taking.{AbsentThroughout, StandsThroughout, StaysThroughout}

-- ---- the keys of a range, as a list

-- a key of a range is before another one, is that one, or is beyond it
split_at : (side : Side) (a c k j : ℕ) → IsIn side a c j
    → IsIn side a (bound side k) j ⊎ (k ≡ j) ⊎ IsIn side (beyond side k) c j
split_at Left a c k j is = by (cases_lt k j) (cases_lt j k)
  where
    by : (k < j) ⊎ (j ≤ k) → (j < k) ⊎ (k ≤ j) → IsIn Left a (bound Left k) j ⊎ (k ≡ j) ⊎ IsIn Left (beyond Left k) c j
    by (inl less) _ = inl ((omega (arith, less)), is.1)
    by (inr le) (inl less) = inr (inr (is.0, less))
    by (inr le) (inr ge) = inr (inl (omega (arith, le, ge)))
split_at Right a c k j is = by (cases_lt k j) (cases_lt j k)
  where
    by : (k < j) ⊎ (j ≤ k) → (j < k) ⊎ (k ≤ j) → IsIn Right a (bound Right k) j ⊎ (k ≡ j)
        ⊎ IsIn Right (beyond Right k) c j
    by (inl less) _ = inr (inr ((omega (arith, less)), is.1))
    by (inr le) (inl less) = inl (is.0, less)
    by (inr le) (inr ge) = inr (inl (omega (arith, le, ge)))

module _ (side : Side) (W : ℕ → Bool → Type 0) where
  -- one of which it is not told that it was absent is told
  pub told_in : (from to : ℕ) (ks : List ℕ) → IsRangeBy side W from to ks → (j : ℕ) → IsKey j → IsIn side from to j
      → (W j false → ⊥) → Contains ks j
  told_in from to [] none j key is not = absurd (not (none j key is))
  told_in from to (k ∷ ks) (within, is_key, was, none, rest) j key is not = by (split_at side from to k j is)
      (λ after. told_in (beyond side k) to ks rest j key after not)
    where
      by : IsIn side from (bound side k) j ⊎ (k ≡ j) ⊎ IsIn side (beyond side k) to j
          → (IsIn side (beyond side k) to j → Contains ks j) → Contains (k ∷ ks) j
      by (inl before) more = absurd (not (none j key before))
      by (inr (inl same)) more = (0, omega arith, same)
      by (inr (inr after)) more = let at = more after in (suc at.0, (let less = at.1 in omega (arith, less)), at.2)

  -- and each that is told was there
  pub told_was : (from to : ℕ) (ks : List ℕ) → IsRangeBy side W from to ks → (j : ℕ) → Contains ks j → W j true
  told_was from to [] none j (i, less, is) = absurd (omega (arith, less))
  told_was from to (k ∷ ks) (within, is_key, was, none, rest) j (zero, less, is) = subst (λ (x : ℕ). W x true) is was
  told_was from to (k ∷ ks) (within, is_key, was, none, rest) j (suc i, less, is) = told_was (beyond side k) to ks
      rest j (i, (omega (arith, less)), is)

  -- each is in the range
  pub told_within : (from to : ℕ) (ks : List ℕ) → IsRangeBy side W from to ks → (i d : ℕ) → i < length ks
      → IsIn side from to (get_or ks i d)
  told_within from to [] none i d less = absurd (omega (arith, less))
  told_within from to (k ∷ ks) (within, is_key, was, none, rest) zero d less = within
  told_within from to (k ∷ ks) (within, is_key, was, none, rest) (suc i) d less = later side (get_or ks i d) within
      (told_within (beyond side k) to ks rest i d (omega (arith, less)))
    where
      later : (s : Side) (x : ℕ) → IsIn s from to k → IsIn s (beyond s k) to x → IsIn s from to x
      later Left x first then' = (then'.0, (let high = first.1 in let low = then'.1 in omega (arith, high, low)))
      later Right x first then' = ((let low = first.0 in let high = then'.0 in omega (arith, low, high)), then'.1)

-- so are the keys of the entries that a scan of a map wrote
module _ (W : ℕ → Bool → Type 0) (from below n : ℕ) (out : List MapEntry) where
  pub entries_within : (next : Option ℕ) → n ≤ length (keys_of out)
      → IsRangeBy Right W from (end_of Right below next) (take n (keys_of out))
      → IfSome next (λ k. IsKey k × IsIn Right from below k × (length (keys_of out) ≢ 0 → IsPast Right from k))
      → AllWithin (λ e. (from ≤ e.key) × (e.key < below)) out 0 n
  entries_within next fits range before i d low less =
      let long = length-take-le n (keys_of out) fits in
      let many = length-map out (λ (e : MapEntry). e.key) in
      let within = told_within Right W from (end_of Right below next) (take n (keys_of out)) range i d.key
      (omega (arith, long, less)) in
      subst (λ (x : ℕ). (from ≤ x) × (x < below)) (get_or-take n (keys_of out) i d.key less
      ∙ get_or-map (λ (e : MapEntry). e.key) out i d d.key (omega (arith, less, fits, many)))
      (within.0, under next before within.1)
    where
      under : (o : Option ℕ) → IfSome o (λ k. IsKey k × IsIn Right from below k
          × (length (keys_of out) ≢ 0 → IsPast Right from k)) → {x : ℕ} → x < end_of Right below o → x < below
      under None before' less' = less'
      under (Some k) before' less' = let first = before'.1.1 in omega (arith, first, less')

-- ---- keys that stood all the time, and keys that were absent all the time

-- in turns that go on from those of the call
module _ (start o x : PassView) (now : List Turn) (early : length start.view.past ≤ length o.view.past)
    (on : Extends now x.view.past) (k : ℕ) where
  pub stands_so : StandsThroughout x.view.layout start.view.past now k → WasSo o x k false → ⊥
  stands_so stands was =
      let later = was.later in
      was.gives (stands was.so_far (was.rest ++ on.more)
      (on.is ∙ (ap (λ (l : List Turn). l ++ on.more) was.are ∙ append_assoc was.so_far was.rest on.more))
      (omega (arith, early, later)))

  pub absent_so : AbsentThroughout x.view.layout start.view.past now k → WasSo o x k true → ⊥
  absent_so absent was =
      let later = was.later in
      absent was.so_far (was.rest ++ on.more) (on.is
      ∙ (ap (λ (l : List Turn). l ++ on.more) was.are ∙ append_assoc was.so_far was.rest on.more))
      (omega (arith, early, later)) was.gives

-- ---- two accounts

-- of one key, if the set had it all the time or at no time
pub unequal : (L : Layout) (start o x o' x' : PassView) (now : List Turn) (k : ℕ)
    → length start.view.past ≤ length o.view.past → length start.view.past ≤ length o'.view.past
    → Extends now x.view.past → Extends now x'.view.past → x.view.layout ≡ L → x'.view.layout ≡ L
    → StaysThroughout L start.view.past now k → WasSo o x k true → WasSo o' x' k false → ⊥
unequal L start o x o' x' now k early early' on on' layout layout' stays was was' =
    let later = was.later in
    let later' = was'.later in
    was'.gives (subst (λ (M : Layout). InSet (words_after M was'.so_far) k) (sym layout')
    (stays was.so_far was'.so_far (was.rest ++ on.more) (was'.rest ++ on'.more)
    (on.is ∙ (ap (λ (l : List Turn). l ++ on.more) was.are ∙ append_assoc was.so_far was.rest on.more))
    (on'.is ∙ (ap (λ (l : List Turn). l ++ on'.more) was'.are ∙ append_assoc was'.so_far was'.rest on'.more))
    (omega (arith, early, later)) (omega (arith, early', later'))
    (subst (λ (M : Layout). InSet (words_after M was.so_far) k) layout was.gives)))

-- no two keys are each beyond the other
not_both : (side : Side) (a c j k : ℕ) → IsIn side (beyond side k) c j → IsIn side (beyond side j) c k → ⊥
not_both Left a c j k one other = let less = one.1 in let less' = other.1 in omega (arith, less, less')
not_both Right a c j k one other = let less = one.0 in let less' = other.0 in omega (arith, less, less')

-- of one range: if they never differ, the lists are equal
module _ (side : Side) (V W : ℕ → Bool → Type 0) (one : (j : ℕ) → V j true → W j false → ⊥)
    (other : (j : ℕ) → W j true → V j false → ⊥) where
  pub same_list : (from to : ℕ) (xs ys : List ℕ) → IsRangeBy side V from to xs → IsRangeBy side W from to ys → xs ≡ ys
  same_list from to [] [] none none' = refl
  same_list from to [] (y ∷ ys) none (in', is_key, was, before, rest) = absurd (other y was (none y is_key in'))
  same_list from to (x ∷ xs) [] (in', is_key, was, before, rest) none = absurd (one x was (none x is_key in'))
  same_list from to (x ∷ xs) (y ∷ ys) (in', is_key, was, none, rest) (in'', is_key', was', none', rest') =
      by (split_at side from to y x in') (split_at side from to x y in'')
      (λ same. ap (λ (l : List ℕ). x ∷ l) (same_list (beyond side x) to xs ys rest
      (subst (λ (n : ℕ). IsRangeBy side W (beyond side n) to ys) same rest')) ∙ ap (λ (n : ℕ). n ∷ ys) (sym same))
    where
      by : IsIn side from (bound side y) x ⊎ (y ≡ x) ⊎ IsIn side (beyond side y) to x
          → IsIn side from (bound side x) y ⊎ (x ≡ y) ⊎ IsIn side (beyond side x) to y → (y ≡ x → x ∷ xs ≡ y ∷ ys)
          → x ∷ xs ≡ y ∷ ys
      by (inl before) at go = absurd (one x was (none' x is_key before))
      by (inr (inl same)) at go = go same
      by (inr (inr after)) (inl before) go = absurd (other y was' (none y is_key' before))
      by (inr (inr after)) (inr (inl same)) go = go (sym same)
      by (inr (inr after)) (inr (inr after')) go = absurd (not_both side from to x y after after')

-- ---- two scans of one range

module _ (w x z : PassView) (from to : ℕ) (o o' : Option ℕ) (one two : List ℕ)
    (layout : x.view.layout ≡ z.view.layout) (past : HasSeenAllOf x w) (past' : HasSeenAllOf z x)
    (first : IsRangeBy Right (WasSo w x) from (end_of Right to o) one)
    (second : IsRangeBy Right (WasSo x z) from (end_of Right to o') two) where
  abbrev Stays : ℕ → Type 0
  Stays = StaysThroughout z.view.layout w.view.past z.view.past

  later : length w.view.past ≤ length x.view.past
  later = no_shorter x.view.past w.view.past past.goes_on

  first_alone : (k : ℕ) → Stays k → WasSo w x k true → WasSo x z k false → ⊥
  first_alone k = unequal z.view.layout w w x x z z.view.past k (omega arith) later past'.goes_on
      (goes_on_itself z.view.past) layout refl

  second_alone : (k : ℕ) → Stays k → WasSo x z k true → WasSo w x k false → ⊥
  second_alone k = unequal z.view.layout w x z w x z.view.past k later (omega arith) (goes_on_itself z.view.past)
      past'.goes_on refl layout

  pub agree : (k : ℕ) → IsKey k → Stays k → IsIn Right from (end_of Right to o) k
      → IsIn Right from (end_of Right to o') k → (Contains one k → Contains two k) × (Contains two k → Contains one k)
  agree k key stays within within' = (
    λ has. told_in Right (WasSo x z) from (end_of Right to o') two second k key within'
        (first_alone k stays (told_was Right (WasSo w x) from (end_of Right to o) one first k has)),
    λ has. told_in Right (WasSo w x) from (end_of Right to o) one first k key within
        (second_alone k stays (told_was Right (WasSo x z) from (end_of Right to o') two second k has)),
  )

  pub equal : ((k : ℕ) → Stays k) → o ≡ o' → one ≡ two
  equal stays is = same_list Right (WasSo w x) (WasSo x z) (λ k. first_alone k (stays k))
      (λ k. second_alone k (stays k)) from (end_of Right to o) one two first
      (subst (λ (p : Option ℕ). IsRangeBy Right (WasSo x z) from (end_of Right to p) two) (sym is) second)
