-- Two answers that stand, the later one of a call that began behind all that the first one's worker
-- had seen then: what follows of the page alone.
use Rattle.std.proofs.Common.{◌≡◌, ◌<◌, ◌≤◌, inl, inr, ℕ, suc, Bool, true, false, List, [], ◌∷◌, length, refl, sym, ap, subst, ◌∙◌, arith}
use Rattle.std.specs.Prelude.{slice_index_or, AllPairs}
use Rattle.nm_edge.specs.Layouts.{Layout}
use Rattle.nm_model.specs.declared.event.Op.{Op}
use Rattle.nm_model.specs.declared.event.Op.TheVariants.{Has, Insert, Delete}
use Rattle.nm_model.specs.declared.trace.Turn.{Turn}
use Rattle.nm_model.specs.Headline.{words_after}
use Rattle.nm_model.specs.Acts.{InSet, Gives, Act, IsAmong, Replays, nothing, changed}
use Rattle.nm_steps.specs.Rules.{Extends}
use Rattle.nm_theorem.specs.EachRun.{IsTrueDelete}
use Rattle.nm_model.specs.Histories.{Called, IsAct, IsHistory, HasHistory, AnswerStands, called_in}
use Rattle.nm_model.specs.Histories.IsAct.{IsAnswered, IsPending}
use Rattle.nm_callers.specs.Meanwhile.{IsMissedWhereNoneInserted, IsToldThen, IsTrueInsert, OnlyWithin, NoneDeleted, NoneInserted, IsAnsweredThen}
use Rattle.nm_callers.proofs.Replayed.{still, still_out, added, taken, found, missed}

-- ---- acts in the order of their moments

abbrev pub Ascend : List Act → Type 0
Ascend acts = AllPairs (λ (x y : Act). x.moment ≤ y.moment) acts

pub index_of : (acts : List Act) (a : Act) → IsAmong acts a
    → (i : ℕ) × (i < length acts) × ((d : Act) → slice_index_or acts i d ≡ a)
index_of [] a there = absurd there
index_of (b ∷ acts) a (inl is) = (0, omega arith, λ d. is)
index_of (b ∷ acts) a (inr there) = let r = index_of acts a there in let less = r.1 in
    (suc r.0, omega (arith, less), r.2)

-- the first is no later than the others, which ascend too
pub no_later : (b : Act) (acts : List Act) → Ascend (b ∷ acts) → (a : Act) → IsAmong acts a → b.moment ≤ a.moment
no_later b acts up a there =
    let r = index_of acts a there in
    let less = r.1 in
    subst (λ (x : Act). b.moment ≤ x.moment) (r.2 b) (up 0 (suc r.0) b (omega arith) (omega (arith, less)))

pub others_ascend : (b : Act) (acts : List Act) → Ascend (b ∷ acts) → Ascend acts
others_ascend b acts up i j d less below = up (suc i) (suc j) d (omega (arith, less)) (omega (arith, below))

-- ---- what a change leaves, until something undoes it

-- what a plain set answers a later call for k by, where it is so, and what the acts keep that do
-- not undo it
pub record Keeps (k : ℕ) (later : Op) (Is : (ℕ → Type 0) → Type 0) (undoes : Act → Type 0) (so : Bool) : Type 1 where
  pub kept : (S : ℕ → Type 0) (x : Act) → (undoes x → ⊥) → Is S → Is (changed S x.op x.key x.answer)
  pub told : (S : ℕ → Type 0) (T : ℕ → Type 0) (x : Act) (acts : List Act) → x.op ≡ later → x.key ≡ k
      → Replays S (x ∷ acts) T → Is S → x.answer ≡ so

module _ (k : ℕ) (later : Op) (Is : (ℕ → Type 0) → Type 0) (undoes : Act → Type 0) (so : Bool)
    (keeps : Keeps k later Is undoes so) where
  pub stays : (acts : List Act) (S last : ℕ → Type 0) → Replays S acts last
      → ((a : Act) → IsAmong acts a → undoes a → ⊥) → Is S → (b : Act) → IsAmong acts b → b.op ≡ later → b.key ≡ k
      → b.answer ≡ so
  stays [] S last r none is b among o e = absurd among
  stays (x ∷ acts) S last r none is b (inl same) o e = ap (λ (a : Act). a.answer) (sym same)
      ∙ keeps.told S last x acts (ap (λ (a : Act). a.op) same ∙ o) (ap (λ (a : Act). a.key) same ∙ e) r is
  stays (x ∷ acts) S last r none is b (inr among) o e =
      stays acts (changed S x.op x.key x.answer) last r.2 (λ a at. none a (inr at))
      (keeps.kept S x (none x (inl refl)) is) b among o e

  -- behind an act that makes it so, where none undoes it that is as late
  behind : (acts : List Act) (S last : ℕ → Type 0) → Replays S acts last → Ascend acts → (a b : Act)
      → ((T : ℕ → Type 0) → Is (changed T a.op a.key a.answer))
      → ((c : Act) → IsAmong acts c → undoes c → c.moment < a.moment)
      → IsAmong acts a → IsAmong acts b → a.moment < b.moment → b.op ≡ later → b.key ≡ k → b.answer ≡ so
  behind [] S last r up a b makes none at among less o e = absurd at
  behind (x ∷ acts) S last r up a b makes none (inl is) (inl same) less o e = absurd
      (let m = ap (λ (y : Act). y.moment) (sym is ∙ same) in omega (arith, m, less))
  behind (x ∷ acts) S last r up a b makes none (inr at) (inl same) less o e = absurd
      (let m = ap (λ (y : Act). y.moment) same in let f = no_later x acts up a at in omega (arith, m, f, less))
  behind (x ∷ acts) S last r up a b makes none (inl is) (inr among) less o e =
      stays acts (changed S x.op x.key x.answer) last r.2
      (λ c there undone. let m = ap (λ (y : Act). y.moment) is in let f = no_later x acts up c there in
      let n = none c (inr there) undone in absurd (omega (arith, m, f, n)))
      (subst (λ (y : Act). Is (changed S y.op y.key y.answer)) (sym is) (makes S)) b among o e
  behind (x ∷ acts) S last r up a b makes none (inr at) (inr among) less o e =
      behind acts (changed S x.op x.key x.answer) last r.2 (others_ascend x acts up) a b makes
      (λ c there undone. none c (inr there) undone) at among less o e

  module _ (L : Layout) (op : Op) (makes : (T : ℕ → Type 0) → Is (changed T op k true))
      (start first second seen last : List Turn) (w u : ℕ) (answer : Bool)
      (s : AnswerStands L start first w op k true) (look : AnswerStands L second seen u later k answer)
      (on : Extends last first) (further : Extends last seen) where
    -- where the first call has its moment before the later one began
    pub answered_behind : (acts : List Act) → IsHistory L last acts
        → ((a : Act) → IsAmong acts a → a.worker ≡ w → called_in a ≡ record { pin = s.pin; op = op; key = k }
        → a.moment < length first → a.moment ≤ length second)
        → OnlyWithin L start last undoes → answer ≡ so
    answered_behind acts h before none =
        let a = s.each on.more acts (subst (λ (ts : List Turn). IsHistory L ts acts) on.is h) in
        let b = look.each further.more acts (subst (λ (ts : List Turn). IsHistory L ts acts) further.is h) in
        let starts = s.begins in
        let begins = look.begins in
        let early = a.5 in
        let behind_pin = b.5 in
        let sooner = before a.0 a.1 a.2 a.3 a.6 in
        let makes_so : (T : ℕ → Type 0) → Is (changed T a.0.op a.0.key a.0.answer)
        = λ T. subst (λ (x : Op × (ℕ × Bool)). Is (changed T x.0 x.1.0 x.1.1))
        (λ i. (sym (ap (λ (c : Called). c.op) a.3) i, (sym (ap (λ (c : Called). c.key) a.3) i, sym a.4 i)))
        (makes T) in
        sym b.4 ∙ behind acts nothing (InSet (words_after L last)) h.replays h.in_order a.0 b.0 makes_so
        (λ c there undone. let within = none acts h c there undone in omega (arith, within, starts, early))
        a.1 b.1 (omega (arith, sooner, begins, behind_pin)) (ap (λ (c : Called). c.op) b.3)
        (ap (λ (c : Called). c.key) b.3)

    -- so where the later one began behind all that the first one's worker had seen
    pub answered_then : length first ≤ length second → HasHistory L last → OnlyWithin L start last undoes → answer ≡ so
    answered_then told (acts, h) none = answered_behind acts h (λ a among own call late. omega (arith, late, told)) none

-- ---- an insert, and a delete

there : (k : ℕ) → Keeps k Has (λ S. S k) (IsTrueDelete k) true
there k = record {
  kept = λ S x none is. still S k x.op x.key x.answer (λ d e t. none (d, e, t)) is;
  told = λ S T x acts o e r is. found S k x.op x.key x.answer o e r.1 is;
}

pub gone : (k : ℕ) (later : Op) → ((S : ℕ → Type 0) → Gives S later k true → S k)
    → Keeps k later (λ S. S k → ⊥) (IsTrueInsert k) false
gone k later only = record {
  kept = λ S x none out. still_out S k x.op x.key x.answer (λ i e t. none (i, e, t)) out;
  told = λ S T x acts o e r out. missed S k later (only S) x.op x.key x.answer o e r.1 out;
}

pub inserted_then_found : IsAnsweredThen NoneDeleted Insert true
inserted_then_found L start first second seen last w u k answer s look told on further =
    answered_then k Has (λ S. S k) (IsTrueDelete k) true (there k) L Insert
    (λ T. added T k Insert k true refl refl refl) start first second seen last w u answer s look on further told

-- an insert that has its moment before the look-up began
pub inserted_before_found : (L : Layout) (start first second seen last : List Turn) (w u k : ℕ) (answer : Bool)
    (s : AnswerStands L start first w Insert k true) → AnswerStands L second seen u Has k answer → Extends last first
    → Extends last seen
    → (acts : List Act) → IsHistory L last acts → ((a : Act) → IsAmong acts a → a.worker ≡ w
    → called_in a ≡ record { pin = s.pin; op = Insert; key = k } → a.moment < length first
    → a.moment ≤ length second) → NoneDeleted L start last k → answer ≡ true
inserted_before_found L start first second seen last w u k answer s look on further =
    answered_behind k Has (λ S. S k) (IsTrueDelete k) true (there k) L Insert
    (λ T. added T k Insert k true refl refl refl) start first second seen last w u answer s look on further

-- a later call that is answered true only where the key is there
gone_then : (later : Op) → ((S : ℕ → Type 0) (k : ℕ) → Gives S later k true → S k)
    → IsToldThen NoneInserted Delete later false
gone_then later only L start first second seen last w u k answer s look told on further =
    answered_then k later (λ S. S k → ⊥) (IsTrueInsert k) false (gone k later (λ S. only S k)) L Delete
    (λ T. taken T k Delete k true refl refl refl) start first second seen last w u answer s look on further told

pub deleted_then_missed : IsAnsweredThen NoneInserted Delete false
deleted_then_missed = gone_then Has (λ S k there'. there')

pub deleted_then_not_again : IsToldThen NoneInserted Delete Delete false
deleted_then_not_again = gone_then Delete (λ S k there'. there')

-- ---- a key that nobody inserts

begun : (turns : List Turn) (a : Act) → IsAct turns a → 1 ≤ a.moment
begun turns a (IsAnswered before since are call late within) = omega (arith, late)
begun turns a (IsPending call late within) = omega (arith, late)

pub never_inserted_then_missed : IsMissedWhereNoneInserted
never_inserted_then_missed L was now last w k answer look further (acts, h) none =
    let b = look.each further.more acts (subst (λ (ts : List Turn). IsHistory L ts acts) further.is h) in
    sym b.4 ∙ stays k Has (λ S. S k → ⊥) (IsTrueInsert k) false (gone k Has (λ S there'. there')) acts nothing
    (InSet (words_after L last)) h.replays
    (λ a at inserts. let some = begun last a (h.each a at) in let within = none acts h a at inserts in
    absurd (omega (arith, some, within)))
    (λ there'. there') b.0 b.1 (ap (λ (c : Called). c.op) b.3) (ap (λ (c : Called). c.key) b.3)
