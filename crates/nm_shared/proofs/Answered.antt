-- The two laws of answers: two calls of one caller, and two visits that are shown to be apart.
use Rattle.std.proofs.Common.{◌∙◌, ℕ, Bool, List, [], ◌∷◌, ◌++◌, append_assoc, inl, inr, sym, subst, refl}
use Rattle.std.specs.Prelude.{Result, Ok, IfOk}
use Rattle.nm_calls.specs.Moments.{AnswerHasMoment}
use Rattle.nm_calls.specs.declared.fault.CallFault.{CallFault}
use Rattle.nm_edge.specs.Layouts.{Layout}
use Rattle.nm_lending.specs.declared.knowing.Visit.{Visit}
use Rattle.nm_lending.specs.Visits.{AreApart, Has, IsApart, IsApartFromAll}
use Rattle.nm_model.specs.declared.event.Op.{Op}
use Rattle.nm_model.specs.declared.trace.Turn.{Turn}
use Rattle.nm_model.specs.Histories.{AnswerStands, answer_turn}
use Rattle.nm_set.specs.declared.managed.Options.{Options}
use Rattle.nm_set.specs.Managed.{SaysManaged}
use Rattle.nm_set.specs.Seats.{MemberView}
use Rattle.nm_steps.specs.Rules.{Extends}
use Rattle.nm_steps.specs.Steps.{TreeView}
use Rattle.nm_steps.proofs.Growing.{goes_on_through}
use Rattle.nm_tree.specs.Workers.{WorkerView}
use Rattle.nm_shared.specs.OwnActs.{WasAnswered}
use Rattle.nm_shared.specs.Sharing.{SharedView, CallerView, SaysShared, CallsOfOneCallerAreInOrder, ShownCallsAreApart, note_of, pass_of}
use Rattle.nm_shared.proofs.OwnActs.{own_acts, acts_in_order}

-- ---- one answer

moment : (op : Op) (b : TreeView) (h : Options) (k : ℕ) (w z : WorkerView) (r : Result Bool CallFault)
    → SaysManaged op b h k w z r → IfOk r (AnswerHasMoment w.pass z.pass op k)
moment op b h k w z r (inl (held, is, same)) = subst
    (λ (q : Result Bool CallFault). IfOk q (AnswerHasMoment w.pass z.pass op k)) (sym is) tt
moment op b h k w z r (inr (free, t)) = t.answers.moment

module _ (op : Op) (s : SharedView) (h : Options) (k : ℕ) (was now : CallerView) (answer : Bool)
    (v : SaysShared op s h k was now (Ok answer)) where
  abbrev began : List Turn
  began = v.begun.pass.view.past

  stands : AnswerStands s.set.tree.layout began v.visit.left.worker.pass.view.past
      v.visit.left.worker.pass.view.number op k answer
  stands = subst (λ (L : Layout). AnswerStands L began v.visit.left.worker.pass.view.past
      v.visit.left.worker.pass.view.number op k answer)
      v.left.layout (moment op s.set.tree h k v.begun v.visit.left.worker (Ok answer) v.says)

  answered : WasAnswered pass_of s.set.tree.layout v.visit began op k answer
  answered = record { number = v.left.number; after = v.heard.past.goes_on; stands = stands }

  -- what the visit left extends what it began with
  since : Extends v.visit.left.worker.pass.view.past began
  since = record {
    more = stands.since ++ answer_turn v.visit.left.worker.pass.view.number answer ∷
        [];
    is = stands.are ∙ append_assoc began stands.since _;
  }

-- ---- lists of visits

module _ {T : Type 0} where
  apart_among : (a b : Visit T) (ds after : List (Visit T)) → IsApartFromAll a (ds ++ b ∷ after) → IsApart a b
  apart_among a b [] after all = all.0
  apart_among a b (d ∷ ds) after all = apart_among a b ds after all.1

  apart_at : (before between after : List (Visit T)) (a b : Visit T)
      → AreApart ((before ++ a ∷ []) ++ (between ++ b ∷ after)) → IsApart a b
  apart_at [] between after a b all = apart_among a b between after all.0
  apart_at (d ∷ ds) between after a b all = apart_at ds between after a b all.1

  has_first : (before rest : List (Visit T)) (a : Visit T) → Has ((before ++ a ∷ []) ++ rest) a
  has_first [] rest a = inl refl
  has_first (d ∷ ds) rest a = inr (has_first ds rest a)

  has_among : (ds after : List (Visit T)) (b : Visit T) → Has (ds ++ b ∷ after) b
  has_among [] after b = inl refl
  has_among (d ∷ ds) after b = inr (has_among ds after b)

  has_behind : (ds es : List (Visit T)) (b : Visit T) → Has es b → Has (ds ++ es) b
  has_behind [] es b there = there
  has_behind (d ∷ ds) es b there = inr (has_behind ds es b there)

-- ---- the laws

pub calls_of_one_caller_are_in_order : CallsOfOneCallerAreInOrder
calls_of_one_caller_are_in_order op_a op_b s h k_a k_b x_a x_b was mid now first second turns acts history on =
    let began_b = second.begun.pass.view.past in
    let heard : Extends began_b first.visit.left.worker.pass.view.past =
    second.heard.heard (note_of first.visit.left) first.note in
    let later : Extends turns began_b =
    goes_on_through turns _ began_b on (since op_b s h k_b mid now x_b second) in
    acts_in_order pass_of s.set.tree.layout turns acts history first.visit second.visit
    first.begun.pass.view.past began_b op_a op_b k_a k_b x_a x_b
    (answered op_a s h k_a was mid x_a first) (answered op_b s h k_b mid now x_b second)
    (goes_on_through turns began_b _ later heard) on heard

pub shown_calls_are_apart : ShownCallsAreApart
shown_calls_are_apart op_a op_b s h k_a k_b x_a x_b was_a now_a was_b now_b shown first second apart order before
    between after are turns acts history on_a on_b =
    let a = first.visit in
    let b = second.visit in
    let rest = between ++ b ∷ after in
    let has_a : Has shown.visits a = subst (λ (ds : List (Visit MemberView)). Has ds a) (sym are)
    (has_first before rest a) in
    let has_b : Has shown.visits b = subst (λ (ds : List (Visit MemberView)). Has ds b) (sym are)
    (has_behind (before ++ a ∷ []) rest b (has_among between after b)) in
    own_acts pass_of s.set.tree.layout turns acts history a b
    first.begun.pass.view.past second.begun.pass.view.past op_a op_b k_a k_b x_a x_b
    (answered op_a s h k_a was_a now_a x_a first) (answered op_b s h k_b was_b now_b x_b second) on_a on_b
    (apart_at before between after a b (subst (λ (ds : List (Visit MemberView)). AreApart ds) are apart))
    (order a b has_a has_b) (order b a has_b has_a)
