-- The least key is taken, by two workers: one behind the other, or at the same time.
use Rattle.std.proofs.Common.{◌≡◌, ◌≢◌, ◌<◌, ◌≤◌, ◌⊎◌, inl, inr, ℕ, true, false, true≢false, List, [], ◌∷◌, ◌++◌, append_assoc, length, sym, ap, subst, ◌∙◌, arith}
use Rattle.std.specs.Prelude.{Some}
use Rattle.std.proofs.lemmas.Bool.{cases_lt}
use Rattle.nm_edge.specs.Keys.{IsKey}
use Rattle.nm_edge.specs.Layouts.{Layout}
use Rattle.nm_model.specs.Headline.{words_after}
use Rattle.nm_model.specs.declared.event.Op.TheVariants.{Delete}
use Rattle.nm_model.specs.declared.trace.Turn.{Turn}
use Rattle.nm_model.specs.Acts.{Act, IsAmong, Replays, nothing, changed, InSet}
use Rattle.nm_steps.specs.Rules.{Extends}
use Rattle.nm_steps.specs.Steps.{PassView, HasSeenAllOf}
use Rattle.nm_steps.proofs.Growing.{goes_on_itself, goes_on_through}
use Rattle.nm_theorem.specs.EachRun.{IsTrueDelete}
use Rattle.nm_model.specs.Histories.{Called, IsHistory, HasHistory, AnswerStands}
use Rattle.nm_calls.specs.Moments.{AnswerHasMoment}
use Rattle.nm_tree.specs.Popping.{Takes}
use Rattle.nm_tree.proofs.Taking.{moment_since, no_shorter}
use Rattle.nm_callers.specs.Meanwhile.{IsTrueInsert, NoneInserted}
use Rattle.nm_callers.specs.Taking.{StandsThroughout}
use Rattle.nm_callers.proofs.Replayed.{taken}
use Rattle.nm_callers.proofs.TwoAnswers.{Ascend, no_later, others_ascend, stays, gone, deleted_then_not_again}

-- ---- none is passed over

-- no key that stood all along, in turns that go on from those of the call
pub passes_none : (start o x : PassView) (now : List Turn) (key k : ℕ) → length start.view.past ≤ length o.view.past
    → Extends now x.view.past → Takes ◌<◌ o x (Some key) → IsKey k
    → StandsThroughout x.view.layout start.view.past now k → key ≤ k
passes_none start o x now key k early on takes is stands = by (cases_lt k key)
  where
    by : (k < key) ⊎ (key ≤ k) → key ≤ k
    by (inl less) =
        let was = takes.2 k is less in
        let later = was.later in
        absurd (was.gives (stands was.so_far (was.rest ++ on.more)
        (on.is ∙ (ap (λ (l : List Turn). l ++ on.more) was.are ∙ append_assoc was.so_far was.rest on.more))
        (omega (arith, early, later))))
    by (inr up) = up

-- ---- one behind the other

-- a key was taken from w to x, and one from y to z, by a worker that was told of x
pub takes_apart : (a b : ℕ) (w x y z : PassView) → Takes ◌<◌ w x (Some a) → Takes ◌<◌ y z (Some b) → HasSeenAllOf y x
    → HasSeenAllOf z y → x.view.layout ≡ z.view.layout
    → NoneInserted z.view.layout w.view.past z.view.past a → a ≢ b
takes_apart a b w x y z took takes told on layout none same =
    let again : AnswerHasMoment y z Delete a true = subst (λ (k : ℕ). AnswerHasMoment y z Delete k true) (sym same)
    takes.1 in
    true≢false (deleted_then_not_again z.view.layout w.view.past x.view.past x.view.past z.view.past z.view.past
    x.view.number z.view.number a true
    (subst (λ (l : Layout). AnswerStands l w.view.past x.view.past x.view.number Delete a true) layout took.1)
    (moment_since x y z Delete a true told again) (omega arith)
    (goes_on_through z.view.past y.view.past x.view.past on.goes_on told.goes_on) (goes_on_itself z.view.past)
    again.history none)

-- ---- at the same time

-- of two acts that both take a key away, where no act as late as one of them puts it in
module _ (k : ℕ) (a b : Act) (apart : a ≡ b → ⊥) (first : IsTrueDelete k a) (second : IsTrueDelete k b) where
  -- behind the one the other would be answered false
  then_not : (acts : List Act) (x c d : Act) (S last : ℕ → Type 0) → IsTrueDelete k c → IsTrueDelete k d
      → Replays S (x ∷ acts) last → Ascend (x ∷ acts) → x ≡ c → IsAmong acts d
      → ((i : Act) → IsAmong acts i → IsTrueInsert k i → i.moment < c.moment) → ⊥
  then_not acts x c d S last takes again r up is among none =
      true≢false (sym again.2 ∙ stays k Delete (λ T. T k → ⊥) (IsTrueInsert k) false
      (gone k Delete (λ T there. there)) acts (changed S x.op x.key x.answer) last r.2
      (λ i there puts. let m = ap (λ (y : Act). y.moment) is in let f = no_later x acts up i there in
      let n = none i there puts in absurd (omega (arith, m, f, n)))
      (taken S k x.op x.key x.answer (ap (λ (y : Act). y.op) is ∙ takes.0) (ap (λ (y : Act). y.key) is ∙ takes.1)
      (ap (λ (y : Act). y.answer) is ∙ takes.2)) d among again.0 again.1)

  not_both : (acts : List Act) (S last : ℕ → Type 0) → Replays S acts last → Ascend acts
      → ((i : Act) → IsAmong acts i → IsTrueInsert k i → (i.moment < a.moment) × (i.moment < b.moment))
      → IsAmong acts a → IsAmong acts b → ⊥
  not_both [] S last r up none at among = at
  not_both (x ∷ acts) S last r up none (inl is) (inl same) = apart (sym is ∙ same)
  not_both (x ∷ acts) S last r up none (inl is) (inr among) = then_not acts x a b S last first second r up is among
      (λ i there puts. (none i (inr there) puts).0)
  not_both (x ∷ acts) S last r up none (inr at) (inl same) = then_not acts x b a S last second first r up same at
      (λ i there puts. (none i (inr there) puts).1)
  not_both (x ∷ acts) S last r up none (inr at) (inr among) = not_both acts (changed S x.op x.key x.answer) last r.2
      (others_ascend x acts up) (λ i there puts. none i (inr there) puts) at among

-- two workers' deletes of one key were both answered true, behind `start` and up to `last`
not_twice : (L : Layout) (start one two last : List Turn) (was then' : List Turn) (w u k : ℕ) → w ≢ u
    → AnswerStands L was one w Delete k true → AnswerStands L then' two u Delete k true → length start ≤ length was
    → length start ≤ length then'
    → Extends last one → Extends last two → HasHistory L last → NoneInserted L start last k → ⊥
not_twice L start one two last was then' w u k other s t early soon on further (acts, h) none =
    let a = s.each on.more acts (subst (λ (ts : List Turn). IsHistory L ts acts) on.is h) in
    let b = t.each further.more acts (subst (λ (ts : List Turn). IsHistory L ts acts) further.is h) in
    let begins = s.begins in
    let begins' = t.begins in
    let late = a.5 in
    let late' = b.5 in
    not_both k a.0 b.0 (λ same. other (sym a.2 ∙ (ap (λ (x : Act). x.worker) same ∙ b.2)))
    (ap (λ (c : Called). c.op) a.3, ap (λ (c : Called). c.key) a.3, a.4)
    (ap (λ (c : Called). c.op) b.3, ap (λ (c : Called). c.key) b.3, b.4)
    acts nothing (InSet (words_after L last)) h.replays h.in_order
    (λ i there puts. let within = none acts h i there puts in
    (omega (arith, within, early, begins, late), omega (arith, within, soon, begins', late'))) a.1 b.1

-- two keys that were taken, behind what both workers had seen, are two
pub taken_apart : (L : Layout) (start w x y z : PassView) (last : List Turn) (a b : ℕ)
    → x.view.number ≢ z.view.number → x.view.layout ≡ L → z.view.layout ≡ L → Takes ◌<◌ w x (Some a)
    → Takes ◌<◌ y z (Some b) → HasSeenAllOf w start → HasSeenAllOf y start
    → Extends last x.view.past → Extends last z.view.past → HasHistory L last → NoneInserted L start.view.past last a
    → a ≢ b
taken_apart L start w x y z last a b other layout layout' took takes early soon on further history none same =
    not_twice L start.view.past x.view.past z.view.past last w.view.past y.view.past x.view.number z.view.number a other
    (subst (λ (l : Layout). AnswerStands l w.view.past x.view.past x.view.number Delete a true) layout took.1)
    (subst (λ (l : Layout). AnswerStands l y.view.past z.view.past z.view.number Delete a true) layout'
    (subst (λ (k : ℕ). AnswerHasMoment y z Delete k true) (sym same) takes.1))
    (no_shorter w.view.past start.view.past early.goes_on) (no_shorter y.view.past start.view.past soon.goes_on) on
    further history none
