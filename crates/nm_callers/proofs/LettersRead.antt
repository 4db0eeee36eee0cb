-- What a member finds that has read what another one had left.
use Rattle.std.proofs.Common.{◌≡◌, inl, inr, ℕ, Bool, true, List, sym, ap, subst, ◌∙◌, arith}
use Rattle.std.specs.Prelude.{Option, Some, None, Ok, IfSome}
use Rattle.nm_edge.specs.Layouts.{Layout, IsLayout}
use Rattle.nm_model.specs.declared.event.Op.TheVariants.{Has, Insert}
use Rattle.nm_model.specs.declared.trace.Turn.{Turn}
use Rattle.nm_order.specs.Logs.{part_of}
use Rattle.nm_model.specs.Histories.{AnswerStands, IsHistory}
use Rattle.nm_steps.specs.Rules.{Extends}
use Rattle.nm_steps.specs.Steps.{TreeView, PassView, HasSeen}
use Rattle.nm_steps.proofs.Growing.{goes_on_through}
use Rattle.nm_walks.specs.WonCounts.{won_links, won_flags}
use Rattle.nm_progress.specs.Pending.{leaf_after}
use Rattle.nm_tree.specs.Running.{HasSeenTurns}
use Rattle.nm_tree.specs.Workers.{WorkerView, IsBetweenCalls}
use Rattle.nm_tree.proofs.FlaggedSeen.{none_seen}
use Rattle.nm_calls.specs.declared.fault.CallFault.TheVariants as fault
use Rattle.nm_set.specs.declared.posting.Stamp.{Stamp}
use Rattle.nm_set.specs.declared.managed.Options.{Options}
use Rattle.nm_set.specs.Posts.{HasHeardAll, HasTally, IsTallyOf, LettersAreInOrder}
use Rattle.nm_set.specs.Managed.{SaysManaged}
use Rattle.nm_set.proofs.Managing.{is_no_fault}
use Rattle.nm_callers.specs.Letters.{HasLookedBehind, HasWritten}
use Rattle.nm_callers.specs.Meanwhile.{NoneDeleted}
use Rattle.nm_callers.proofs.InsertMoments.{at_link, heard_of}
use Rattle.nm_callers.proofs.TwoAnswers.{inserted_before_found}

-- ---- the writer

pub has_written : (b : TreeView) (h : Options) (k : ℕ) (w z : WorkerView) (r : Option Stamp)
    → SaysManaged Insert b h k w z (Ok true) → HasSeen z.pass.view → IsBetweenCalls z → IfSome r (IsTallyOf z)
    → IfSome r (HasWritten k w z)
has_written b h k w z None did seen between tally = tt
has_written b h k w z (Some p) (inl (held, is, same)) seen between tally = is_no_fault true fault.Pinned is
has_written b h k w z (Some p) (inr (free, t)) seen between tally = record {
  same = t.answers.on.same;
  moment = t.answers.moment;
  won = t.answers.won;
  rests = none_seen z.pass z.pending z.held seen between.stands t.answers.left;
  tally = tally;
}

-- ---- the reader

-- ---- both, in what one has seen that has heard of both

module _ (law : LettersAreInOrder) (k : ℕ) (w z x v : WorkerView) (p : Stamp) (answer : Bool)
    (wrote : HasWritten k w z p) (unlinked : won_links w.pass.view.log ≡ 0) (unflagged : won_flags w.pass.view.log ≡ 0)
    (look : HasLookedBehind w.pass.view.number k x answer) (saw : HasSeen z.pass.view) (seen : HasSeen v.pass.view)
    (turns : HasSeenTurns v.pass.view) (fits : IsLayout v.pass.view.layout)
    (on : Extends v.pass.view.past z.pass.view.past) (further : Extends v.pass.view.past x.pass.view.past)
    (layout : z.pass.view.layout ≡ v.pass.view.layout) (layout' : x.pass.view.layout ≡ v.pass.view.layout) where
  abbrev i : ℕ
  i = w.pass.view.number

  number : z.pass.view.number ≡ i
  number = ap (λ (q : PassView). q.view.number) wrote.same

  tally : HasTally i p z.pass.view.past
  tally = subst (λ (n : ℕ). HasTally n p z.pass.view.past) number wrote.tally

  part : part_of i z.pass.view.past ≡ z.pass.view.log
  part = subst (λ (n : ℕ). part_of n z.pass.view.past ≡ z.pass.view.log) number saw.is_part

  one : p.inserted ≡ 1
  one = let t = tally.inserted in
      let l : won_links (part_of i z.pass.view.past) ≡ won_links z.pass.view.log = ap won_links part in
      let o = wrote.won.links in omega (arith, t, l, o, unlinked)

  none : p.removed ≡ 0
  none = let t = tally.removed in
      let l : won_flags (part_of i z.pass.view.past) ≡ won_flags z.pass.view.log = ap won_flags part in
      let o = wrote.won.flags in omega (arith, t, l, o, unflagged)

  all : HasHeardAll i z.pass.view.past look.start.view.past
  all =
      let some = look.some in
      law v.pass.view.past z.pass.view.past look.start.view.past i p look.told on
      (goes_on_through v.pass.view.past x.pass.view.past look.start.view.past further look.past.goes_on) tally
      (subst (λ (n : ℕ). leaf_after n None z.pass.view.past ≡ None) number wrote.rests) look.behind
      (omega (arith, one, some)) (omega (arith, none)) (omega (arith, one)) (omega (arith, none))

  abbrev pub L : Layout
  L = v.pass.view.layout

  inserts : AnswerStands L w.pass.view.past z.pass.view.past i Insert k true
  inserts = subst (λ (l : Layout). AnswerStands l w.pass.view.past z.pass.view.past i Insert k true) layout
      (subst (λ (n : ℕ). AnswerStands z.pass.view.layout w.pass.view.past z.pass.view.past n Insert k true) number
      wrote.moment)

  looks : AnswerStands L look.start.view.past x.pass.view.past x.pass.view.number Has k answer
  looks = subst (λ (l : Layout). AnswerStands l look.start.view.past x.pass.view.past x.pass.view.number Has k
      answer) layout' look.look

  pub found_where_told : NoneDeleted L w.pass.view.past v.pass.view.past k → answer ≡ true
  found_where_told none' =
      let acts = turns.plain_set in
      inserted_before_found L w.pass.view.past z.pass.view.past look.start.view.past x.pass.view.past
      v.pass.view.past i x.pass.view.number k answer inserts looks on further acts.0 acts.1
      (λ a among own call late.
      let at = at_link L fits seen.events seen.keys w.pass.view.past z.pass.view.past on.more (sym seen.are ∙ on.is)
      i k inserts acts.0 (subst (λ (ts : List Turn). IsHistory L ts acts.0) seen.are acts.1) a among own call in
      let far = heard_of L fits seen.events seen.keys w.pass.view.past z.pass.view.past on.more
      (sym seen.are ∙ on.is) i k inserts look.start.view.past all in
      omega (arith, at, far)) none'

-- so where the note was left, and the key was asked for
pub finds : LettersAreInOrder → (k : ℕ) (w z x v : WorkerView) (p : Stamp) (o : Option Bool) → HasWritten k w z p
    → won_links w.pass.view.log ≡ 0 → won_flags w.pass.view.log ≡ 0 → IfSome o (HasLookedBehind w.pass.view.number k x)
    → HasSeen z.pass.view → HasSeen v.pass.view → HasSeenTurns v.pass.view → IsLayout v.pass.view.layout
    → Extends v.pass.view.past z.pass.view.past → Extends v.pass.view.past x.pass.view.past
    → z.pass.view.layout ≡ v.pass.view.layout → x.pass.view.layout ≡ v.pass.view.layout
    → NoneDeleted v.pass.view.layout w.pass.view.past v.pass.view.past k → IfSome o (λ b. b ≡ true)
finds law k w z x v p None wrote unlinked unflagged looks saw seen turns fits on further layout layout' none' = tt
finds law k w z x v p (Some answer) wrote unlinked unflagged looks saw seen turns fits on further layout layout' none' =
    found_where_told law k w z x v p answer wrote unlinked unflagged looks saw seen turns fits on further layout
    layout' none'
