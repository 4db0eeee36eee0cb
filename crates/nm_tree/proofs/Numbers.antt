-- The workers for whom a pass stands.
use Rattle.std.proofs.Common.{◌≡◌, ℕ, ◌⊎◌, inl, inr, List, sym, ap, ◌∙◌, subst}
use Rattle.nm_edge.specs.Layouts.{Layout}
use Rattle.nm_steps.specs.declared.view.Held.{Held}
use Rattle.nm_steps.specs.Steps.{PassView, IsSamePass}
use Rattle.nm_epoch.specs.declared.collecting.HeldQueue.{HeldQueue}
use Rattle.nm_tree.specs.Workers.{AreOf, HasNumber, HoldNoSlot}

pub numbers_stay : (p q : PassView) (hs : List HeldQueue) → IsSamePass p q → AreOf p.view hs → AreOf q.view hs
numbers_stay p q hs same is =
    let number : q.view.number ≡ p.view.number = ap (λ (x : PassView). x.view.number) same in
    let others : q.view.others ≡ p.view.others = ap (λ (x : PassView). x.view.others) same in
    record {
      each = λ o has. there o number others (is.each o has);
      all = λ o has. is.all o (there o (sym number) (sym others) has);
    }
  where
    there : {m n : ℕ} {xs ys : List Held} (o : ℕ) → m ≡ n → xs ≡ ys → (n ≡ o) ⊎ HasNumber o ys
        → (m ≡ o) ⊎ HasNumber o xs
    there o number others (inl is) = inl (number ∙ is)
    there o number others (inr has) = inr (let P : List Held → Type 0 = λ hs. HasNumber o hs in
        subst P (sym others) has)

pub resigned_stay : (p q : PassView) → IsSamePass p q → HoldNoSlot p.view.layout p.view.others
    → HoldNoSlot q.view.layout q.view.others
resigned_stay p q same are =
    let P : Layout → Type 0 = λ L. HoldNoSlot L p.view.others in
    let Q : List Held → Type 0 = λ hs. HoldNoSlot q.view.layout hs in
    subst Q (sym (ap (λ (x : PassView). x.view.others) same))
    (subst P (sym (ap (λ (x : PassView). x.view.layout) same)) are)
