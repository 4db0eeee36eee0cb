-- What a member finds that has made its calls one after the other, over the page alone.
use Rattle.std.proofs.Common.{◌+◌, ◌≡◌, ◌<◌, ℕ, Bool, true, false, true≢false, List, [], inl, inr, sym, ap, subst, arith}
use Rattle.std.specs.Prelude.{Option, Some, None, Result, Ok, IfOk, IfSome, is_ok}
use Rattle.nm_edge.specs.Keys.{IsKey}
use Rattle.nm_edge.specs.Layouts.{Layout}
use Rattle.nm_model.specs.declared.event.Op.{Op}
use Rattle.nm_model.specs.declared.event.Op.TheVariants.{Has, Insert, Delete}
use Rattle.nm_model.specs.declared.trace.Turn.{Turn}
use Rattle.nm_steps.specs.Steps.{TreeView, PassView, HasSeenAllOf}
use Rattle.nm_steps.proofs.Growing.{goes_on_itself, goes_on_through}
use Rattle.nm_steps.proofs.Seeing.{seen_itself, seen_through}
use Rattle.nm_calls.specs.Moments.{AnswerHasMoment}
use Rattle.nm_tree.specs.Workers.{WorkerView}
use Rattle.nm_calls.specs.declared.fault.CallFault.{CallFault}
use Rattle.nm_set.specs.declared.managed.Options.{Options}
use Rattle.nm_set.specs.Managed.{SaysManaged}
use Rattle.nm_set.specs.Popping.{SaysManagedPop, Pops, pop_rounds_bound}
use Rattle.nm_model.specs.Histories.{AnswerStands}
use Rattle.nm_tree.proofs.Taking.{moment_since}
use Rattle.nm_callers.specs.Meanwhile.{IsAnsweredThen, NoneDeleted, NoneInserted}
use Rattle.nm_callers.specs.PuttingBack.{IsPutAgain, IsPutBack}
use Rattle.nm_callers.proofs.Answered.{each_ok}
use Rattle.nm_callers.proofs.ToldWorkers.{told_so}
use Rattle.nm_callers.proofs.TwoAnswers.{deleted_then_not_again, never_inserted_then_missed}

-- ---- a managed call, whether its worker was pinned or not

module _ (op : Op) (b : TreeView) (h : Options) (k : ℕ) (w z : WorkerView) where
  pub moment_of : (r : Result Bool CallFault) → SaysManaged op b h k w z r → IfOk r (AnswerHasMoment w.pass z.pass op k)
  moment_of r (inl (held, is, same)) = subst (λ (q : Result Bool CallFault). IfOk q
      (AnswerHasMoment w.pass z.pass op k)) (sym is) tt
  moment_of r (inr (free, t)) = t.answers.moment

  pub seen_behind : (r : Result Bool CallFault) → SaysManaged op b h k w z r → HasSeenAllOf z.pass w.pass
  seen_behind r (inl (held, is, same)) = subst (λ (y : WorkerView). HasSeenAllOf y.pass w.pass) (sym same)
      (seen_itself w.pass)
  seen_behind r (inr (free, t)) = t.answers.on.past

  pub same_layout : (r : Result Bool CallFault) → SaysManaged op b h k w z r → z.pass.view.layout ≡ w.pass.view.layout
  same_layout r (inl (held, is, same)) = ap (λ (y : WorkerView). y.pass.view.layout) same
  same_layout r (inr (free, t)) = ap (λ (p : PassView). p.view.layout) t.answers.on.same

-- ---- two calls

-- a call that was answered true, from w to x, and a look-up, from x to z
pub looks_then : (Undoes : Layout → List Turn → List Turn → ℕ → Type 0) (op : Op) (so : Bool)
    → IsAnsweredThen Undoes op so → (b d : TreeView) (h : Options) (k : ℕ) (w x z : WorkerView)
    (r : Result Bool CallFault)
    → SaysManaged op b h k w x (Ok true) → SaysManaged Has d h k x z r
    → Undoes z.pass.view.layout w.pass.view.past z.pass.view.past k → IfOk r (λ answer. answer ≡ so)
looks_then Undoes op so law b d h k w x z r called looked none =
    each_ok r (AnswerHasMoment x.pass z.pass Has k) (λ (answer : Bool). answer ≡ so) (λ answer look.
    told_so Undoes op so law k w.pass x.pass z.pass (sym (same_layout Has d h k x z r looked))
    (seen_behind Has d h k x z r looked) answer look (moment_of op b h k w x (Ok true) called) none)
    (moment_of Has d h k x z r looked)

-- a look-up from w to z, where no insert has put the key in
pub looks_first : (b : TreeView) (h : Options) (k : ℕ) (w z : WorkerView) (r : Result Bool CallFault)
    → SaysManaged Has b h k w z r → NoneInserted z.pass.view.layout [] z.pass.view.past k
    → IfOk r (λ answer. answer ≡ false)
looks_first b h k w z r looked none =
    each_ok r (AnswerHasMoment w.pass z.pass Has k) (λ (answer : Bool). answer ≡ false) (λ answer look.
    never_inserted_then_missed z.pass.view.layout w.pass.view.past z.pass.view.past z.pass.view.past
    z.pass.view.number k answer look (goes_on_itself z.pass.view.past) look.history none)
    (moment_of Has b h k w z r looked)

-- what both calls have seen
pub seen_both : (op : Op) (b d : TreeView) (h : Options) (k : ℕ) (w x z : WorkerView) (r s : Result Bool CallFault)
    → SaysManaged op b h k w x r → SaysManaged Has d h k x z s → HasSeenAllOf z.pass w.pass
seen_both op b d h k w x z r s called looked = seen_through w.pass x.pass z.pass (seen_behind op b h k w x r called)
    (seen_behind Has d h k x z s looked)

-- a remove that was answered true, from w to x, and another one's, from y to z, which was told of x
pub takes_once : (b d : TreeView) (h : Options) (k : ℕ) (w x y z : WorkerView) (r : Result Bool CallFault)
    → SaysManaged Delete b h k w x (Ok true) → SaysManaged Delete d h k y z r → HasSeenAllOf y.pass x.pass
    → x.pass.view.layout ≡ z.pass.view.layout
    → NoneInserted z.pass.view.layout w.pass.view.past z.pass.view.past k → IfOk r (λ answer. answer ≡ false)
takes_once b d h k w x y z r took tries told layout none =
    each_ok r (AnswerHasMoment y.pass z.pass Delete k) (λ (answer : Bool). answer ≡ false) (λ answer is.
    deleted_then_not_again z.pass.view.layout w.pass.view.past x.pass.view.past x.pass.view.past z.pass.view.past
    z.pass.view.past x.pass.view.number z.pass.view.number k answer
    (subst (λ (l : Layout). AnswerStands l w.pass.view.past x.pass.view.past x.pass.view.number Delete k true) layout
    (moment_of Delete b h k w x (Ok true) took))
    (moment_since x.pass y.pass z.pass Delete k answer told is) (omega arith)
    (goes_on_through z.pass.view.past y.pass.view.past x.pass.view.past
    (seen_behind Delete d h k y z r tries).goes_on told.goes_on) (goes_on_itself z.pass.view.past) is.history none)
    (moment_of Delete d h k y z r tries)

pub puts_again : (k : ℕ) (w y z : WorkerView) (r : Option Bool) → AnswerHasMoment w.pass y.pass Insert k true
    → IsPutBack k y z r → IsPutAgain k w z r
puts_again k w y z None added back = tt
puts_again k w y z (Some answer) added back = (y, added, back)

pub puts_back : (k : ℕ) (w x z : WorkerView) (r : Option Bool) → AnswerHasMoment w.pass x.pass Delete k true
    → (NoneDeleted z.pass.view.layout x.pass.view.past z.pass.view.past k → IfSome r (λ answer. answer ≡ true))
    → IsPutBack k w z r
puts_back k w x z None removed found = tt
puts_back k w x z (Some answer) removed found = (x, removed, found)

-- a call that took a key has done so
pub has_popped : (b : TreeView) (h : Options) (k : ℕ) (w z : WorkerView) → SaysManagedPop ◌<◌ b h w z (Ok (Some k))
    → Pops IsKey ◌<◌ h (pop_rounds_bound h b.layout) (h.rounds + 1) w z (Ok (Some k))
has_popped b h k w z (inl held) = absurd (true≢false (ap (λ (r : Result (Option ℕ) CallFault). is_ok r) held.1))
has_popped b h k w z (inr did) = did.1
