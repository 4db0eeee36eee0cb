-- Turns in which no worker deletes, inserts or puts a key after some moment (linearization point).
use Rattle.std.specs.Prelude.{◌≡◌, ◌≤◌, ℕ, Bool, true, false, List, [], ◌∷◌, ◌++◌, length}
use Rattle.nm_edge.specs.Keys.{IsKey}
use Rattle.nm_edge.specs.Layouts.{Layout}
use Rattle.nm_model.specs.Headline.{words_after}
use Rattle.nm_model.specs.declared.event.Op.{Op}
use Rattle.nm_model.specs.declared.event.Op.TheVariants.{Has, Insert}
use Rattle.nm_model.specs.declared.trace.Turn.{Turn}
use Rattle.nm_model.specs.Acts.{Act, IsAmong, InSet}
use Rattle.nm_theorem.specs.EachRun.{IsTrueDelete}
use Rattle.nm_model.specs.Histories.{IsHistory, HasHistory, AnswerStands}
use Rattle.nm_steps.specs.Rules.{Extends}
use Rattle.nm_calls.specs.KeptValues.{NoneSwapsOut}

-- an act that inserts the key
abbrev pub IsTrueInsert : ℕ → Act → Type 0
IsTrueInsert k a = (a.op ≡ Insert) × (a.key ≡ k) × (a.answer ≡ true)

-- in each history of these turns such an act has its moment within the first turns, `start`
abbrev pub OnlyWithin : Layout → List Turn → List Turn → (Act → Type 0) → Type 0
OnlyWithin L start turns Is = (acts : List Act) → IsHistory L turns acts → (a : Act)
    → IsAmong acts a → Is a → a.moment ≤ length start

-- `NoneDeleted`, `NoneInserted`: after `start` no true delete of the key takes effect; no true
-- insert of it does
abbrev pub NoneDeleted : Layout → List Turn → List Turn → ℕ → Type 0
NoneDeleted L start turns k = OnlyWithin L start turns (IsTrueDelete k)

abbrev pub NoneInserted : Layout → List Turn → List Turn → ℕ → Type 0
NoneInserted L start turns k = OnlyWithin L start turns (IsTrueInsert k)

-- after `start` no swap takes out a leaf with the key. So no put gives it another value
abbrev pub NoneReplaced : Layout → List Turn → List Turn → ℕ → Type 0
NoneReplaced L start turns k = (so_far rest : List Turn) (t : Turn) → turns ≡ so_far ++ t ∷ rest
    → length start ≤ length so_far → NoneSwapsOut L so_far t k

-- ---- laws of any turns

-- a call for a key returned true, and a later call for it began after all that its worker had seen
-- then: so the later call returns `so` in turns that extend both, if no act after the beginning of
-- the first call can undo it
abbrev pub IsToldThen : (Layout → List Turn → List Turn → ℕ → Type 0) → Op → Op → Bool → Type 0
IsToldThen NoneUndoes op later so = (L : Layout) (start first second seen last : List Turn)
    (w u k : ℕ) (answer : Bool) → AnswerStands L start first w op k true
    → AnswerStands L second seen u later k answer → length first ≤ length second
    → Extends last first → Extends last seen → HasHistory L last → NoneUndoes L start last k
    → answer ≡ so

-- the same, if the later call is a look-up
abbrev pub IsAnsweredThen : (Layout → List Turn → List Turn → ℕ → Type 0) → Op → Bool → Type 0
IsAnsweredThen NoneUndoes op so = IsToldThen NoneUndoes op Has so

-- a look-up returns false, if no insert of the key takes effect in turns that extend it
abbrev pub IsMissedWhereNoneInserted : Type 0
IsMissedWhereNoneInserted = (L : Layout) (was now last : List Turn) (w k : ℕ) (answer : Bool)
    → AnswerStands L was now w Has k answer → Extends last now → HasHistory L last
    → NoneInserted L [] last k → answer ≡ false

-- a key whose insert returned true is in the set after turns that extend the answer, if no delete
-- after the beginning of the insert takes effect
abbrev pub StaysWhereNoneDeleted : Type 0
StaysWhereNoneDeleted = (L : Layout) (start first last : List Turn) (w k : ℕ) → IsKey k
    → AnswerStands L start first w Insert k true → Extends last first → HasHistory L last
    → NoneDeleted L start last k → InSet (words_after L last) k
