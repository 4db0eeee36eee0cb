use Rattle.std.proofs.Common.{◌≡◌, ◌<◌, ◌≤◌, ◌∙◌, inl, inr, ℕ, suc, List, [], length, sym, ap, subst, arith}
use Rattle.std.specs.Prelude.{◌⊎◌}
use Rattle.std.proofs.lemmas.Bool.{cases_lt}
use Rattle.nm_order.specs.Logs.{part_of}
use Rattle.nm_edge.specs.declared.placement.Fit.{Fit}
use Rattle.nm_steps.specs.declared.view.View.{View}
use Rattle.nm_set.specs.Seats.{AreNewMembers, IsNewMember, MemberView}
use Rattle.nm_callers.proofs.others.send_home.Goals as goal

pub hear_and_go-requires : goal.hear_and_go-requires
hear_and_go-requires c =
    let m : MemberView = c.args.member.now in
    let left = c.loop-other.invariant.left in
    let new = subst (AreNewMembers m.tree left.1 left.0) c.in-Some.ensures.steps.0 left.2 in
    record {
      new = (
        left.1,
        left.0,
        subst (λ (x : MemberView). IsNewMember x.tree left.1 left.0 c.in-Some.other)
            (sym c.loop-other.invariant.same) new.0,
      );
    }

pub loop-other-preserved : goal.loop-other-preserved
loop-other-preserved c =
    let m : MemberView = c.args.member.now in
    let left = c.loop-other.invariant.left in
    let n : ℕ = left.0 in
    let f : Fit = left.1 in
    let first = c.in-Some.ensures.steps.0 in
    let new = subst (AreNewMembers m.tree f n) first left.2 in
    let number : c.in-Some.other.worker.pass.view.number ≡ n = ap (λ (v : View). v.number) new.0.new.1 in
    let one : part_of n m.worker.pass.view.past ≡ [] = subst (λ (i : ℕ). part_of i m.worker.pass.view.past ≡ [])
    number (subst (λ (x : MemberView). part_of c.in-Some.other.worker.pass.view.number x.worker.pass.view.past
    ≡ []) c.loop-other.invariant.same c.hear_and_go.ensures.rested) in
    let size = ap (λ (ms : List MemberView). length ms) first in
    let count = left.3 in
    record {
      same = c.hear_and_go.ensures.same ∙ c.loop-other.invariant.same;
      left = (suc n, f, new.1, omega (arith, size, count), λ i less. by m n left.4 one i less (cases_lt i n));
    }
  where
    by : (m : MemberView) (n : ℕ) → ((i : ℕ) → i < n → part_of i m.worker.pass.view.past ≡ [])
        → part_of n m.worker.pass.view.past ≡ [] → (i : ℕ) → i < suc n → (i < n) ⊎ (n ≤ i)
        → part_of i m.worker.pass.view.past ≡ []
    by m n before one i less (inl low) = before i low
    by m n before one i less (inr up) = let same : n ≡ i = omega (arith, less, up) in
        subst (λ (j : ℕ). part_of j m.worker.pass.view.past ≡ []) same one
