-- A member that adds a key, asks for it, removes it and asks again, while the others rest.
use Rattle.std.proofs.Common.{◌≡◌, ◌∙◌, ℕ, ◌≤◌, inl, inr, Bool, true, false, sym, ap, subst, arith}
use Rattle.std.specs.Prelude.{Ok}
use Rattle.nm_edge.specs.Layouts.{IsLayout}
use Rattle.nm_edge.specs.Keys.{IsKey}
use Rattle.nm_model.specs.declared.event.Op.{Op}
use Rattle.nm_model.specs.declared.event.Op.TheVariants.{Has, Insert, Delete}
use Rattle.nm_steps.specs.Steps.{TreeView, PassView, HasSeen}
use Rattle.nm_steps.proofs.Seeing.{seen_itself}
use Rattle.nm_calls.specs.Moments.{AnswerHasMoment}
use Rattle.nm_walks.specs.WonCounts.{won_links, won_flags}
use Rattle.nm_calls.specs.Won.{HasWon}
use Rattle.nm_tree.specs.Workers.{WorkerView}
use Rattle.nm_calls.specs.declared.fault.CallFault.TheVariants as fault
use Rattle.nm_set.specs.declared.managed.Options.{Options}
use Rattle.nm_set.specs.Managed.{SaysManaged, Manages, links_told_by, flags_told_by}
use Rattle.nm_set.specs.Filling.{OthersRest}
use Rattle.nm_set.proofs.Managing.{is_no_fault}
use Rattle.nm_set.proofs.Rests.{rested_before}
use Rattle.nm_callers.proofs.AtRest.{inserts_first, finds_own, deletes_own, misses_own}

-- a call that was answered was made
manages : (op : Op) (b : TreeView) (h : Options) (k : ℕ) (w z : WorkerView) (answer : Bool)
    → SaysManaged op b h k w z (Ok answer) → Manages b h op k w z (Ok answer)
manages op b h k w z answer (inl (held, is, same)) = is_no_fault answer fault.Pinned is
manages op b h k w z answer (inr (free, t)) = t

pub same_number : (op : Op) (b : TreeView) (h : Options) (k : ℕ) (w z : WorkerView) (answer : Bool)
    → SaysManaged op b h k w z (Ok answer) → z.pass.view.number ≡ w.pass.view.number
same_number op b h k w z answer said = ap (λ (s : PassView). s.view.number)
    (manages op b h k w z answer said).answers.on.same

module _ (h : Options) (k : ℕ) (key : IsKey k) (b1 b2 b3 b4 : TreeView) (y0 y1 y2 y3 y4 : WorkerView)
    (a1 a2 a3 a4 : Bool)
    (said1 : SaysManaged Insert b1 h k y0 y1 (Ok a1)) (said2 : SaysManaged Has b2 h k y1 y2 (Ok a2))
    (said3 : SaysManaged Delete b3 h k y2 y3 (Ok a3)) (said4 : SaysManaged Has b4 h k y3 y4 (Ok a4))
    (links : won_links y0.pass.view.log ≡ 0) (flags : won_flags y0.pass.view.log ≡ 0)
    (seen1 : HasSeen y1.pass.view) (seen2 : HasSeen y2.pass.view) (seen3 : HasSeen y3.pass.view)
    (seen4 : HasSeen y4.pass.view) (fits4 : IsLayout y4.pass.view.layout) (rest4 : OthersRest y4.pass) where
  t1 : Manages b1 h Insert k y0 y1 (Ok a1)
  t1 = manages Insert b1 h k y0 y1 a1 said1

  t2 : Manages b2 h Has k y1 y2 (Ok a2)
  t2 = manages Has b2 h k y1 y2 a2 said2

  t3 : Manages b3 h Delete k y2 y3 (Ok a3)
  t3 = manages Delete b3 h k y2 y3 a3 said3

  t4 : Manages b4 h Has k y3 y4 (Ok a4)
  t4 = manages Has b4 h k y3 y4 a4 said4

  rest3 : OthersRest y3.pass
  rest3 = rested_before y3.pass y4.pass t4.answers.on.same t4.answers.on.past rest4

  rest2 : OthersRest y2.pass
  rest2 = rested_before y2.pass y3.pass t3.answers.on.same t3.answers.on.past rest3

  rest1 : OthersRest y1.pass
  rest1 = rested_before y1.pass y2.pass t2.answers.on.same t2.answers.on.past rest2

  fits3 : IsLayout y3.pass.view.layout
  fits3 = subst IsLayout (ap (λ (s : PassView). s.view.layout) t4.answers.on.same) fits4

  fits2 : IsLayout y2.pass.view.layout
  fits2 = subst IsLayout (ap (λ (s : PassView). s.view.layout) t3.answers.on.same) fits3

  fits1 : IsLayout y1.pass.view.layout
  fits1 = subst IsLayout (ap (λ (s : PassView). s.view.layout) t2.answers.on.same) fits2

  layout2 : y1.pass.view.layout ≡ y2.pass.view.layout
  layout2 = sym (ap (λ (s : PassView). s.view.layout) t2.answers.on.same)

  number2 : y1.pass.view.number ≡ y2.pass.view.number
  number2 = sym (ap (λ (s : PassView). s.view.number) t2.answers.on.same)

  pub is_added : a1 ≡ true
  is_added = inserts_first y0.pass y1.pass k key seen1 fits1 rest1 a1 t1.answers.moment (λ no.
      let won = subst (λ (a : Bool). HasWon y0.pass.view.log y1.pass.view.log (links_told_by Insert (Ok a))
      (flags_told_by Insert (Ok a))) no t1.answers.won in
      let l = won.links in
      let f = won.flags in
      (omega (arith, l, links), omega (arith, f, flags)))

  won1 : HasWon y0.pass.view.log y1.pass.view.log 1 0
  won1 = subst (λ (a : Bool). HasWon y0.pass.view.log y1.pass.view.log (links_told_by Insert (Ok a))
      (flags_told_by Insert (Ok a))) is_added t1.answers.won

  added : AnswerHasMoment y0.pass y1.pass Insert k true
  added = subst (λ (a : Bool). AnswerHasMoment y0.pass y1.pass Insert k a) is_added t1.answers.moment

  unflagged2 : won_flags y2.pass.view.log ≡ 0
  unflagged2 = let one = won1.flags in let two = t2.answers.won.flags in omega (arith, one, two, flags)

  pub is_there : a2 ≡ true
  is_there = finds_own y1.pass y2.pass k key seen2 fits2 rest2 y0.pass y1.pass layout2 number2 (seen_itself y1.pass)
      t2.answers.on.past a2 t2.answers.moment added unflagged2

  pub is_removed : a3 ≡ true
  is_removed = deletes_own y2.pass y3.pass k key seen3 fits3 rest3 y0.pass y1.pass
      (layout2 ∙ sym (ap (λ (s : PassView). s.view.layout) t3.answers.on.same))
      (number2 ∙ sym (ap (λ (s : PassView). s.view.number) t3.answers.on.same)) t2.answers.on.past
      t3.answers.on.past a3 t3.answers.moment added (λ no.
      let won = subst (λ (a : Bool). HasWon y2.pass.view.log y3.pass.view.log (links_told_by Delete (Ok a))
      (flags_told_by Delete (Ok a))) no t3.answers.won in
      let f = won.flags in
      omega (arith, f, unflagged2))

  won3 : HasWon y2.pass.view.log y3.pass.view.log 0 1
  won3 = subst (λ (a : Bool). HasWon y2.pass.view.log y3.pass.view.log (links_told_by Delete (Ok a))
      (flags_told_by Delete (Ok a))) is_removed t3.answers.won

  removed : AnswerHasMoment y2.pass y3.pass Delete k true
  removed = subst (λ (a : Bool). AnswerHasMoment y2.pass y3.pass Delete k a) is_removed t3.answers.moment

  few : won_links y4.pass.view.log ≤ 1
  few = let one = won1.links in let two = t2.answers.won.links in let three = won3.links in
      let four = t4.answers.won.links in omega (arith, one, two, three, four, links)

  pub is_gone : a4 ≡ false
  is_gone = misses_own y3.pass y4.pass k key seen4 fits4 rest4 y2.pass y3.pass
      (sym (ap (λ (s : PassView). s.view.layout) t4.answers.on.same))
      (sym (ap (λ (s : PassView). s.view.number) t4.answers.on.same)) (seen_itself y3.pass) t4.answers.on.past a4
      t4.answers.moment removed few
