-- A counter in a map: one raise of it, and the sum of all of them.
use Rattle.std.proofs.Common.{◌≡◌, ◌≢◌, ◌⊎◌, inl, inr, ℕ, suc, ◌+◌, ◌==◌, Bool, true, false, not, ◌&&◌, List, [], ◌∷◌, refl, sym, ap, subst, ◌∙◌, arith, true≢false}
use Rattle.std.specs.Prelude.{Option, Some, None, Ok, is_none, if◌then◌else◌}
use Rattle.std.proofs.lemmas.Bool.Decides.{eqb_tells}
use Rattle.std.proofs.lemmas.List.Elements.{All-head, All-tail}
use Rattle.std.proofs.lemmas.Option.{same_Some}
use Rattle.nm_model.specs.declared.event.Op.{Op}
use Rattle.nm_model.specs.declared.event.Op.TheVariants.{Has, Insert, Delete}
use Rattle.nm_calls.specs.MapHistories.{MapAct, PlainMap, found_by, is_plain, map_after, map_changed, map_left, map_then}
use Rattle.nm_puts.specs.Replaced.{HasReplaced}
use Rattle.nm_puts.specs.declared.putting.Condition.TheVariants as condition
use Rattle.nm_puts.specs.declared.putting.PutOutcome.TheVariants as put
use Rattle.nm_set.specs.declared.managed.Options.{Options}
use Rattle.nm_shared.specs.SharedMaps.{SaysSharedGet, SaysSharedPut}
use Rattle.nm_shared.specs.Sharing.{CallerView, SharedView}
use Rattle.nm_callers.specs.Counting.{CountersEndWithTheSum, Raised, RaisesOrReads, puts_of}

pub raised : (s : SharedView) (h : Options) (was between now : CallerView) (k n next old : ℕ) → next ≡ n + 1
    → SaysSharedGet s h k was between (Ok (Some n))
    → SaysSharedPut s h (condition.IfItIs n) k next between now (Ok (put.Replaced old)) → Raised was now k old
raised s h was between now k n next old is looks puts = elim puts.says [
  | inl held ↦ absurd (let no = held.1 in cc)
  | inr free ↦
      let did = free.1.answers.map in
      let same = did.1 n refl in
      record {
        between = between;
        looked = looks.visit;
        first = looks.more;
        visit = puts.visit;
        more = puts.more;
        begun = puts.begun;
        heard = puts.heard;
        replaced = subst (λ (v : ℕ). HasReplaced puts.begun.pass puts.visit.left.worker.pass k old v)
            (is ∙ ap (λ (x : ℕ). x + 1) (sym same)) did.0;
      }
]

-- ---- the sum

if_true : {A : Type 0} (b : Bool) (x y : A) → b ≡ true → (if b then x else y) ≡ x
if_true true x y is = refl
if_true false x y is = absurd (true≢false (sym is))

if_false : {A : Type 0} (b : Bool) (x y : A) → b ≡ false → (if b then x else y) ≡ y
if_false true x y is = absurd (true≢false is)
if_false false x y is = refl

module _ (m : PlainMap) (a : MapAct) (k : ℕ) where
  -- an act of another key leaves this one as it is
  untouched : (k == a.act.key) ≡ false → map_then m a k ≡ m k
  untouched other = by_left a.left
    where
      by_op : (op : Op) (answer : Bool) → map_changed m op a.act.key answer a.value k ≡ m k
      by_op Has answer = refl
      by_op Insert true = if_false (k == a.act.key) (Some a.value) (m k) other
      by_op Insert false = refl
      by_op Delete true = if_false (k == a.act.key) None (m k) other
      by_op Delete false = refl

      by_left : (l : Option ℕ) → map_left m l a.act a.value k ≡ m k
      by_left (Some new) = if_false (k == a.act.key) (Some new) (m k) other
      by_left None = by_op a.act.op a.act.answer

  -- and so does one that only reads
  read_only : a.left ≡ None → (a.act.op ≡ Has) ⊎ (a.act.answer ≡ false) → map_then m a k ≡ m k
  read_only plain reads = ap (λ (l : Option ℕ). map_left m l a.act a.value k) plain
      ∙ by a.act.op a.act.answer reads
    where
      by : (op : Op) (answer : Bool) → (op ≡ Has) ⊎ (answer ≡ false) → map_changed m op a.act.key answer a.value k ≡ m k
      by Has answer is = refl
      by Insert false is = refl
      by Delete false is = refl
      by Insert true (inl has) = absurd (let which = has in cc)
      by Insert true (inr untrue) = absurd (true≢false untrue)
      by Delete true (inl has) = absurd (let which = has in cc)
      by Delete true (inr untrue) = absurd (true≢false untrue)

  -- a put of the key raises the number
  put_raises : (first : ℕ) → (k == a.act.key) ≡ true → k ≡ a.act.key → a.left ≡ Some (a.value + 1)
      → a.act.op ≡ Insert → a.act.answer ≡ false → m a.act.key ≡ found_by a.act.op a.act.answer a.value
      → m k ≡ Some first → map_then m a k ≡ Some (first + 1)
  put_raises first same is left op answer found at =
      let had : m a.act.key ≡ Some a.value =
      found ∙ (ap (λ (x : Op). found_by x a.act.answer a.value) op
      ∙ ap (λ (b : Bool). found_by Insert b a.value) answer) in
      let value : a.value ≡ first = same_Some a.value first (sym had ∙ (sym (ap m is) ∙ at)) in
      ap (λ (l : Option ℕ). map_left m l a.act a.value k) left
      ∙ (if_true (k == a.act.key) (Some (a.value + 1)) (m k) same ∙ ap (λ (n : ℕ). Some (n + 1)) value)

none_counted : (k : ℕ) (a : MapAct) (acts : List MapAct) → ((k == a.act.key) && not (is_plain a)) ≡ false
    → puts_of k (a ∷ acts) ≡ puts_of k acts
none_counted k a acts is = if_false ((k == a.act.key) && not (is_plain a)) (suc (puts_of k acts)) (puts_of k acts) is

and_false : (b c : Bool) → c ≡ false → (b && c) ≡ false
and_false true c is = is
and_false false c is = refl

-- what holds of the acts after the first one: the sum, whatever the number is then
abbrev SumsUp : PlainMap → List MapAct → ℕ → Type 0
SumsUp m acts k = (n : ℕ) → m k ≡ Some n → map_after m acts k ≡ Some (n + puts_of k acts)

-- the first act leaves the number as it is, and is not counted; or it raises it by one, and is counted
first_act : (m : PlainMap) (a : MapAct) (acts : List MapAct) (k first : ℕ)
    → m a.act.key ≡ found_by a.act.op a.act.answer a.value → m k ≡ Some first → RaisesOrReads k a
    → SumsUp (map_then m a) acts k → map_after (map_then m a) acts k ≡ Some (first + puts_of k (a ∷ acts))
first_act m a acts k first found at each rest = by (eqb_tells k a.act.key) each
  where
    goes_on : map_then m a k ≡ m k → ((k == a.act.key) && not (is_plain a)) ≡ false
        → map_after (map_then m a) acts k ≡ Some (first + puts_of k (a ∷ acts))
    goes_on same none = rest first (same ∙ at)
        ∙ ap (λ (n : ℕ). Some (first + n)) (sym (none_counted k a acts none))

    raises : k ≡ a.act.key → (k == a.act.key) ≡ true → a.left ≡ Some (a.value + 1) → a.act.op ≡ Insert
        → a.act.answer ≡ false → map_after (map_then m a) acts k ≡ Some (first + puts_of k (a ∷ acts))
    raises is same left op answer =
        let counted : puts_of k (a ∷ acts) ≡ suc (puts_of k acts) =
        if_true ((k == a.act.key) && not (is_plain a)) (suc (puts_of k acts)) (puts_of k acts)
        (ap (λ (b : Bool). b && not (is_plain a)) same ∙ ap (λ (l : Option ℕ). not (is_none l)) left) in
        rest (first + 1) (put_raises m a k first same is left op answer found at)
        ∙ ap (λ (n : ℕ). Some n) (omega (arith, counted))

    by : (((k == a.act.key) ≡ true) × (k ≡ a.act.key)) ⊎ (((k == a.act.key) ≡ false) × (k ≢ a.act.key))
        → RaisesOrReads k a → map_after (map_then m a) acts k ≡ Some (first + puts_of k (a ∷ acts))
    by (inr (is, other)) any = goes_on (untouched m a k is) (ap (λ (b : Bool). b && not (is_plain a)) is)
    by (inl (same, is)) (inl other) = absurd (other (sym is))
    by (inl (same, is)) (inr (inl (plain, reads))) = goes_on (read_only m a k plain reads)
        (and_false (k == a.act.key) (not (is_plain a)) (ap (λ (l : Option ℕ). not (is_none l)) plain))
    by (inl (same, is)) (inr (inr (left, op, answer))) = raises is same left op answer

pub counters_end_with_the_sum : CountersEndWithTheSum
counters_end_with_the_sum m [] k first gives at all = at ∙ ap (λ (n : ℕ). Some n) (omega arith)
counters_end_with_the_sum m (a ∷ acts) k first (found, gives) at all = first_act m a acts k first found at
    (All-head (RaisesOrReads k) a acts all)
    (λ n is. counters_end_with_the_sum (map_then m a) acts k n gives is (All-tail (RaisesOrReads k) a acts all))
