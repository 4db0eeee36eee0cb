use Rattle.std.proofs.Common.{◌≡◌, ℕ, suc, List, [], ◌∷◌, length, length-append, sym, ap, subst, arith}
use Rattle.std.specs.Prelude.{Option, Some}
use Rattle.nm_lending.specs.Visits.{AreSeated}
use Rattle.nm_set.specs.Seats.{AreNewMembers, IsNewMember, MemberView, SetView}
use Rattle.nm_shared.specs.Sharing.{SitsIn}
use Rattle.nm_shared.proofs.Borrowed.{new_sits, seated_and}
use Rattle.nm_shared.proofs.shared_set.seated.Goals as goal

pub loop-member-preserved : goal.loop-member-preserved
loop-member-preserved g c =
    let s : SetView = c.args.set.now in
    let before : List (Option MemberView) = c.loop-member.on_seats.items in
    let m : MemberView = c.in_ok-member.member.value in
    let same : m ≡ c.in-Some.member = c.in_ok-member.ensures.ok in
    let first = c.in-Some.ensures.steps.0 in
    let more = c.push_reserved.ensures.items in
    let new = subst (AreNewMembers s.tree s.fit (length before)) first c.loop-member.invariant.left in
    let longer : length c.push_reserved.new.self.items ≡ suc (length before) = omega
    (arith, ap (λ (ms : List (Option MemberView)). length ms) more, length-append before (Some m ∷ [])) in
    record {
      made = subst (AreSeated SitsIn s 0) (sym more)
          (seated_and s 0 before (length before) m (omega arith) c.loop-member.invariant.made
          (new_sits s (length before) m (subst (λ (y : MemberView). IsNewMember s.tree s.fit (length before) y)
          (sym same) new.0)));
      left = subst (λ (n : ℕ). AreNewMembers s.tree s.fit n c.next.new.self.rest.items) (sym longer) new.1;
      all = omega (arith, longer, ap (λ (ms : List MemberView). length ms) first, c.loop-member.invariant.all);
      room = omega (arith, c.loop-member.invariant.room, c.push_reserved.ensures.capacity);
    }
