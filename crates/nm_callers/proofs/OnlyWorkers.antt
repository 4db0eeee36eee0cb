-- What the only worker of a tree that has made no such change has seen of others: nothing; over the
-- page alone.
use Rattle.std.proofs.Common.{◌≡◌, ◌∙◌, ℕ, ◌<◌, inl, inr, Bool, true, false, List, [], length, sym, ap, subst, arith}
use Rattle.std.specs.Prelude.{None, Result, Ok, IfOk, filter}
use Rattle.nm_edge.specs.Layouts.{Layout}
use Rattle.nm_model.specs.declared.event.Event.{Event}
use Rattle.nm_model.specs.declared.event.Op.{Op}
use Rattle.nm_model.specs.declared.event.Op.TheVariants.{Has, Insert}
use Rattle.nm_model.specs.declared.reply.Reply.{Reply}
use Rattle.nm_model.specs.Walks.{Entry}
use Rattle.nm_order.specs.Exchanges.{is_won_link}
use Rattle.nm_model.specs.Acts.{Act, IsAmong}
use Rattle.nm_order.specs.Logs.{part_of}
use Rattle.nm_steps.specs.declared.view.View.{View}
use Rattle.nm_steps.specs.Steps.{TreeView, PassView}
use Rattle.nm_steps.proofs.Growing.{goes_on_itself}
use Rattle.nm_model.specs.Histories.{IsHistory, call_begun}
use Rattle.nm_calls.specs.Moments.{AnswerHasMoment}
use Rattle.nm_walks.specs.WonCounts.{won_links}
use Rattle.nm_tree.specs.Running.{HasSeenTurns, wins}
use Rattle.nm_tree.specs.Workers.{WorkerView}
use Rattle.nm_tree.proofs.TurnTotals.{wins_links}
use Rattle.nm_set.specs.Seats.{IsNewMember, IsOwn, MemberView}
use Rattle.nm_calls.specs.declared.fault.CallFault.{CallFault}
use Rattle.nm_set.specs.declared.managed.Options.{Options}
use Rattle.nm_set.specs.Managed.{SaysManaged}
use Rattle.nm_callers.specs.Meanwhile.{NoneInserted}
use Rattle.nm_callers.proofs.Answered.{each_ok}
use Rattle.nm_callers.proofs.TwoAnswers.{never_inserted_then_missed}
use Rattle.nm_callers.proofs.Unmade.{answered_none, answers_below, none_won, unmade}

module _ (v : View) (seen : HasSeenTurns v) (number : v.number < v.layout.workers) (one : v.layout.workers ≡ 1)
    (rests : call_begun v.number v.past ≡ None)
    (op : Op) (no_has : op ≡ Has → ⊥) (is_such : Entry → Bool)
    (table : (e : Event) (r : Reply) → wins op e (Ok r) ≡ is_such (e, r))
    (none : length (filter is_such v.log) ≡ 0) where
  same : (w : ℕ) → w < v.layout.workers → w ≡ v.number
  same w less = omega (arith, less, number, one)

  -- no act of what it has seen has changed the set so
  pub made_none : (acts : List Act) → IsHistory v.layout v.past acts → (a : Act) → IsAmong acts a → a.op ≡ op
      → a.answer ≡ true → ⊥
  made_none =
      unmade v.layout v.past seen.workers seen.won op no_has
      (λ w less won. none_won op is_such table w v.past
      (ap (λ (u : ℕ). length (filter is_such (part_of u v.past))) (same w less)
      ∙ (ap (λ (l : List Entry). length (filter is_such l)) seen.own ∙ none)) won)
      (λ w less. ap (λ (u : ℕ). call_begun u v.past) (same w less) ∙ rests)

no_look : Insert ≡ Has → ⊥
no_look is = absurd (cc)

-- it has looked a key up
finds_nothing : (p z : PassView) (k : ℕ) → HasSeenTurns z.view → z.view.layout.workers ≡ 1 → won_links z.view.log ≡ 0
    → (answer : Bool) → AnswerHasMoment p z Has k answer → answer ≡ false
finds_nothing p z k seen one links answer look =
    let v = z.view in
    let number = answers_below v.layout p.view.past v.past v.number Has k answer look seen.workers in
    let rests = answered_none v.layout p.view.past v.past v.number Has k answer look in
    let missing : NoneInserted v.layout [] v.past k
    = λ acts h a among is. absurd (made_none v seen number one rests Insert no_look is_won_link
    (λ e r. wins_links e (Ok r)) links acts h a among is.0 is.2) in
    never_inserted_then_missed v.layout p.view.past v.past v.past v.number k answer look (goes_on_itself v.past)
    look.history missing

-- the only member of a set, which had done nothing, has looked a key up
pub only_finds_nothing : (b d : TreeView) (h : Options) (k : ℕ) (m : MemberView) (z : WorkerView)
    (r : Result Bool CallFault) → (n : ℕ) × IsNewMember m.tree m.worker.fit n m → m.tree.layout.workers ≡ 1
    → d ≡ m.tree → IsOwn d z → HasSeenTurns z.pass.view
    → SaysManaged Has b h k m.worker z r → IfOk r (λ answer. answer ≡ false)
only_finds_nothing b d h k m z r new one same own seen (inl (held, is, still)) = subst
    (λ (q : Result Bool CallFault). IfOk q (λ answer. answer ≡ false)) (sym is) tt
only_finds_nothing b d h k m z r new one same own seen (inr (free, t)) =
    let no_links = ap (λ (v : View). won_links v.log) new.1.new.1 in
    let links = t.answers.won.links in
    let workers : z.pass.view.layout.workers ≡ 1 = ap (λ (l : Layout). l.workers) own.own.layout
    ∙ (ap (λ (c : TreeView). c.layout.workers) same ∙ one) in
    each_ok r (AnswerHasMoment m.worker.pass z.pass Has k) (λ (answer : Bool). answer ≡ false)
    (finds_nothing m.worker.pass z.pass k seen workers (omega (arith, links, no_links))) t.answers.moment
