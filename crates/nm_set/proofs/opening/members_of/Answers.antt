use Rattle.std.proofs.Common.{◌≡◌, ◌∙◌, ℕ, List, [], ◌∷◌, length, length-append, sym, ap, subst, arith}
use Rattle.std.specs.Arc.{arc_value}
use Rattle.nm_tree.specs.Workers.{WorkerView, AreNew}
use Rattle.nm_set.specs.Seats.{AreNewMembers, HomeView, IsNewMember, MemberView}
use Rattle.nm_set.proofs.NewMembers.{one_member}
use Rattle.nm_set.proofs.opening.members_of.Goals as goal

pub loop-number-preserved : goal.loop-number-preserved
loop-number-preserved g c =
    let h : HomeView = arc_value c.args.home.now in
    let n : ℕ = c.loop-number.number in
    let before : List MemberView = c.loop-number.members.items in
    let member : MemberView = c.of.result in
    let w : WorkerView = c.in_ok-sealed.sealed.worker in
    let more = c.push_reserved.ensures.items in
    let same : c.deref.result.now ≡ h = c.deref.ensures ∙ c.in-Ok-try_clone.ensures in
    let new = subst (λ (x : HomeView). AreNew x.tree n (w ∷ [])) same c.in_ok-sealed.ensures.new in
    let fit : w.fit ≡ h.fit = c.in_ok-sealed.ensures.taken.fit ∙ ap (λ (x : HomeView). x.fit) same in
    let one : IsNewMember h.tree h.fit n member = record {
      tree = c.of.ensures.tree ∙ ap (λ (x : HomeView). x.tree) c.in-Ok-try_clone.ensures;
      fit = ap (λ (v : WorkerView). v.fit) c.of.ensures.worker ∙ fit;
      new = subst (λ (v : WorkerView). AreNew h.tree n (v ∷ [])) (sym c.of.ensures.worker) new;
    } in
    let longer = ap (λ (ms : List MemberView). length ms) more in
    let test = c.loop-number-test.true in
    record {
      made = subst (AreNewMembers h.tree h.fit 0) (sym more)
          (one_member h.tree h.fit 0 before n member (omega (arith, c.loop-number.invariant.count))
          c.loop-number.invariant.made one);
      count = omega (arith, longer, length-append before (member ∷ []), c.loop-number.invariant.count);
      within = omega (arith, test, c.loop-number.auto.number-end);
      room = omega (arith, c.loop-number.invariant.room, c.push_reserved.ensures.capacity);
    }
