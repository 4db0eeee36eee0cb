-- Two answers that stand, the later one of a worker that has seen what the first one's had: on the
-- page alone. A key whose insert was answered true is found, where no delete of it has taken effect.
use Rattle.std.proofs.Common.{◌≡◌, ◌<◌, ◌≤◌, inl, inr, ℕ, suc, Bool, true, false, List, [], ◌∷◌, ◌++◌, length, refl, sym, ap, subst, ◌∙◌, arith}
use Rattle.std.specs.Prelude.{slice_index_or, AllPairs}
use Rattle.nm_edge.specs.Layouts.{Layout}
use Rattle.nm_model.specs.declared.event.Op.{Op}
use Rattle.nm_model.specs.declared.event.Op.TheVariants.{Has, Insert, Delete}
use Rattle.nm_model.specs.declared.trace.Turn.{Turn}
use Rattle.nm_model.specs.Headline.{words_after}
use Rattle.nm_model.specs.Acts.{InSet, Gives, Act, IsAmong, Replays, nothing, changed}
use Rattle.nm_theorem.specs.EachRun.{IsTrueDelete}
use Rattle.nm_model.specs.Histories.{Called, IsHistory, AnswerStands}

still : (S : ℕ → Type 0) (k : ℕ) (op : Op) (j : ℕ) (answer : Bool) → (op ≡ Delete → j ≡ k → answer ≡ true → ⊥) → S k
    → changed S op j answer k
still S k Has j answer none' there = there
still S k Insert j true none' there = inl there
still S k Insert j false none' there = there
still S k Delete j true none' there = (there, λ e. none' refl (sym e) refl)
still S k Delete j false none' there = there

added : (S : ℕ → Type 0) (k : ℕ) (op : Op) (j : ℕ) (answer : Bool) → op ≡ Insert → j ≡ k → answer ≡ true
    → changed S op j answer k
added S k op j answer o e t = subst (λ (x : Op). changed S x j answer k) (sym o)
    (subst (λ (b : Bool). changed S Insert j b k) (sym t) (inr (sym e)))

found : (S : ℕ → Type 0) (k : ℕ) (op : Op) (j : ℕ) (answer : Bool) → op ≡ Has → j ≡ k → Gives S op j answer → S k
    → answer ≡ true
found S k op j answer o e gives there = go answer
    (subst (λ (i : ℕ). Gives S Has i answer) e (subst (λ (x : Op). Gives S x j answer) o gives))
  where
    go : (b : Bool) → Gives S Has k b → b ≡ true
    go true g = refl
    go false g = absurd (g there)

-- where an act stands among others
index_of : (acts : List Act) (a : Act) → IsAmong acts a
    → (i : ℕ) × (i < length acts) × ((d : Act) → slice_index_or acts i d ≡ a)
index_of [] a there = absurd there
index_of (b ∷ acts) a (inl is) = (0, omega arith, λ d. is)
index_of (b ∷ acts) a (inr there) = let r = index_of acts a there in let less = r.1 in
    (suc r.0, omega (arith, less), r.2)

-- acts in the order of their moments: the first is no later than the others, which are in order too
first_sooner : (b : Act) (acts : List Act) → AllPairs (λ (x y : Act). x.moment ≤ y.moment) (b ∷ acts) → (a : Act)
    → IsAmong acts a → b.moment ≤ a.moment
first_sooner b acts up a there =
    let r = index_of acts a there in
    let less = r.1 in
    subst (λ (x : Act). b.moment ≤ x.moment) (r.2 b) (up 0 (suc r.0) b (omega arith) (omega (arith, less)))

rest_up : (b : Act) (acts : List Act) → AllPairs (λ (x y : Act). x.moment ≤ y.moment) (b ∷ acts)
    → AllPairs (λ (x y : Act). x.moment ≤ y.moment) acts
rest_up b acts up i j d less below = up (suc i) (suc j) d (omega (arith, less)) (omega (arith, below))

module _ (k : ℕ) where
  -- a key that is there is found, while no delete takes it away
  stays : (acts : List Act) (S last : ℕ → Type 0) → Replays S acts last
      → ((a : Act) → IsAmong acts a → IsTrueDelete k a → ⊥) → S k → (b : Act) → IsAmong acts b → b.op ≡ Has → b.key ≡ k
      → b.answer ≡ true
  stays [] S last r none' there b among o e = absurd among
  stays (x ∷ acts) S last r none' there b (inl is) o e = ap (λ (a : Act). a.answer) (sym is)
      ∙ found S k x.op x.key x.answer (ap (λ (a : Act). a.op) is ∙ o) (ap (λ (a : Act). a.key) is ∙ e) r.1 there
  stays (x ∷ acts) S last r none' there b (inr among) o e =
      stays acts (changed S x.op x.key x.answer) last r.2 (λ a at. none' a (inr at))
      (still S k x.op x.key x.answer (λ d j t. none' x (inl refl) (d, j, t)) there) b among o e

  -- so it is behind an insert of it
  behind_insert : (acts : List Act) (S last : ℕ → Type 0) → Replays S acts last
      → AllPairs (λ (x y : Act). x.moment ≤ y.moment) acts → ((a : Act) → IsAmong acts a → IsTrueDelete k a → ⊥)
      → (a b : Act) → IsAmong acts a → IsAmong acts b → a.moment < b.moment → a.op ≡ Insert → a.key ≡ k
      → a.answer ≡ true → b.op ≡ Has → b.key ≡ k → b.answer ≡ true
  behind_insert [] S last r up none' a b at among less i j t o e = absurd at
  behind_insert (x ∷ acts) S last r up none' a b (inl is) (inl same) less i j t o e = absurd
      (let m = ap (λ (y : Act). y.moment) (sym is ∙ same) in omega (arith, m, less))
  behind_insert (x ∷ acts) S last r up none' a b (inr at) (inl same) less i j t o e = absurd
      (let m = ap (λ (y : Act). y.moment) same in let f = first_sooner x acts up a at in omega (arith, m, f, less))
  behind_insert (x ∷ acts) S last r up none' a b (inl is) (inr among) less i j t o e =
      stays acts (changed S x.op x.key x.answer) last r.2 (λ c there. none' c (inr there))
      (added S k x.op x.key x.answer (ap (λ (y : Act). y.op) is ∙ i) (ap (λ (y : Act). y.key) is ∙ j)
      (ap (λ (y : Act). y.answer) is ∙ t)) b among o e
  behind_insert (x ∷ acts) S last r up none' a b (inr at) (inr among) less i j t o e =
      behind_insert acts (changed S x.op x.key x.answer) last r.2 (rest_up x acts up)
      (λ c there. none' c (inr there)) a b at among less i j t o e

-- an insert of worker w answered true, and a look of worker u that began behind all that w had seen
-- then: in turns that go on from both, with a history in which no delete of the key has its moment
pub insert_then_found : (L : Layout) (start first second last : List Turn) (w u k : ℕ) (answer : Bool)
    → AnswerStands L start first w Insert k true → AnswerStands L second last u Has k answer
    → length first ≤ length second
    → (later : List Turn) → last ≡ first ++ later → (acts : List Act) → IsHistory L last acts
    → ((a : Act) → IsAmong acts a → IsTrueDelete k a → ⊥) → answer ≡ true
insert_then_found L start first second last w u k answer s look told later on acts h none' =
    let a = s.each later acts (subst (λ (ts : List Turn). IsHistory L ts acts) on h) in
    let b = look.each [] acts (subst (λ (ts : List Turn). IsHistory L ts acts) (itself last) h) in
    let begins = look.begins in let late = a.6 in let early = b.5 in
    sym b.4 ∙ behind_insert k acts nothing (InSet (words_after L last)) h.replays h.in_order none' a.0 b.0 a.1 b.1
    (omega (arith, told, begins, late, early))
    (ap (λ (c : Called). c.op) a.3) (ap (λ (c : Called). c.key) a.3) a.4 (ap (λ (c : Called). c.op) b.3)
    (ap (λ (c : Called). c.key) b.3)
  where
    itself : (ts : List Turn) → ts ≡ ts ++ []
    itself [] = refl
    itself (t ∷ ts) = ap (λ (us : List Turn). t ∷ us) (itself ts)
