use Rattle.std.proofs.Common.{refl, ap, subst, inl, inr}
use Rattle.std.specs.Prelude.{None}
use Rattle.nm_set.specs.Ends.{IsNotEnded}
use Rattle.nm_set.specs.Seats.{MemberView, SetView}
use Rattle.nm_set.specs.declared.ending.EndError.{EndError}
use Rattle.nm_set_c.specs.declared.owner.Owner.TheVariants.{Worker}
use Rattle.nm_set_c.proofs.ending.end_by_worker.Goals as goal

pub returns-in-Ok : goal.returns-in-Ok
returns-in-Ok c = inl (
  c.in-Worker.member,
  c.in-Worker.is,
  inl
      (refl, record { report = c.in-Ok.report; values = None }, refl, (c.in-Ok.ensures.says, refl)),
)

pub returns-in-Err-Gathered : goal.returns-in-Err-Gathered
returns-in-Err-Gathered c =
    let left = subst (λ (e : EndError MemberView SetView). IsNotEnded c.in-Worker.member e)
    c.in-Err-Gathered.field-0-is c.in-Err-Gathered.ensures.refused in
    inl (
      c.in-Worker.member,
      c.in-Worker.is,
      inr (inr
          (c.in-Err-Gathered.error.reason, c.of_reason.ensures, c.in-Err-Gathered.error.set, refl, left)),
    )

pub returns-in-Err-Attached : goal.returns-in-Err-Attached
returns-in-Err-Attached c =
    let same = subst (λ (e : EndError MemberView SetView). IsNotEnded c.in-Worker.member e)
    c.in-Err-Attached.field-0-is c.in-Err-Attached.ensures.refused in
    inl (c.in-Worker.member, c.in-Worker.is, inr (inl (refl, ap Worker same)))
