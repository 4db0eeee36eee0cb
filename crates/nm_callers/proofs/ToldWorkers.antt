-- What a worker that was told finds, over the page alone.
use Rattle.std.proofs.Common.{◌≡◌, ℕ, Bool, true, List, subst, arith}
use Rattle.std.specs.Prelude.{Result, IfOk}
use Rattle.nm_edge.specs.Layouts.{Layout}
use Rattle.nm_model.specs.declared.event.Op.{Op}
use Rattle.nm_model.specs.declared.event.Op.TheVariants.{Has}
use Rattle.nm_model.specs.declared.trace.Turn.{Turn}
use Rattle.nm_steps.specs.Rules.{Extends}
use Rattle.nm_steps.specs.Steps.{PassView, HasSeenAllOf}
use Rattle.nm_steps.proofs.Growing.{goes_on_itself, goes_on_through}
use Rattle.nm_model.specs.Histories.{AnswerStands, HasHistory}
use Rattle.nm_calls.specs.Moments.{AnswerHasMoment}
use Rattle.nm_tree.proofs.Taking.{moment_since}
use Rattle.nm_callers.specs.Meanwhile.{IsAnsweredThen}
use Rattle.nm_callers.proofs.Answered.{each_ok}

-- a look-up of a worker that has seen what one had seen is one behind that
pub looks_behind : {E : Type 0} (r : Result Bool E) (one before after : PassView) (k : ℕ) → HasSeenAllOf before one
    → IfOk r (AnswerHasMoment before after Has k) → IfOk r (AnswerHasMoment one after Has k)
looks_behind r one before after k told is = each_ok r (AnswerHasMoment before after Has k)
    (AnswerHasMoment one after Has k) (λ answer moment. moment_since one before after Has k answer told moment) is

-- one was answered true, behind all that it had seen as start, and a look-up behind all that one has
-- seen since was answered by `after`; `last` are turns that go on from both
pub told_in : (Undoes : Layout → List Turn → List Turn → ℕ → Type 0) (op : Op) (so : Bool)
    → IsAnsweredThen Undoes op so → (k : ℕ) (start one after : PassView) (last : List Turn)
    → one.view.layout ≡ after.view.layout
    → HasSeenAllOf after one → Extends last after.view.past → HasHistory after.view.layout last → (answer : Bool)
    → AnswerHasMoment one after Has k answer → AnswerHasMoment start one op k true
    → Undoes after.view.layout start.view.past last k → answer ≡ so
told_in Undoes op so law k start one after last layout seen on history answer look is none =
    law after.view.layout start.view.past one.view.past one.view.past after.view.past last one.view.number
    after.view.number k answer
    (subst (λ (l : Layout). AnswerStands l start.view.past one.view.past one.view.number op k true) layout is)
    look (omega arith) (goes_on_through last after.view.past one.view.past on seen.goes_on) on history none

-- the turns of the look-up itself
pub told_so : (Undoes : Layout → List Turn → List Turn → ℕ → Type 0) (op : Op) (so : Bool)
    → IsAnsweredThen Undoes op so → (k : ℕ) (start one after : PassView) → one.view.layout ≡ after.view.layout
    → HasSeenAllOf after one → (answer : Bool) → AnswerHasMoment one after Has k answer
    → AnswerHasMoment start one op k true
    → Undoes after.view.layout start.view.past after.view.past k → answer ≡ so
told_so Undoes op so law k start one after layout seen answer look is none =
    told_in Undoes op so law k start one after after.view.past layout seen (goes_on_itself after.view.past)
    look.history answer look is none
