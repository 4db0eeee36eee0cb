use Rattle.std.proofs.Common.{rules, ◌≡◌, ap, Bool}
use Rattle.std.specs.Prelude.{Result, Err}
use Rattle.nm_set.specs.declared.fault.InsertFault.{InsertFault}
use Rattle.nm_set.specs.declared.fault.InsertFault.TheVariants as inserting
use Rattle.nm_callers.proofs.Blamed.{blames}
use Rattle.nm_callers.proofs.full.add_or_blame.Goals as goal

told_so : (g h : InsertFault) → g ≡ h → ◌≡◌ {A = Result Bool InsertFault} (Err g) (Err h)
told_so g h e = ap (λ (x : InsertFault). Err x) e

pub returns-in-Err-Full-clause-blamed : goal.returns-in-Err-Full-clause-blamed
returns-in-Err-Full-clause-blamed c =
    let f = c.in-Err-Full.full in
    let is : c.in-Err-Full.field-0 ≡ inserting.Full f = search rules in
    blames c.args.member.now.worker c.insert.new.self.worker f
    (c.in-Err-Full.ensures.full f (told_so c.in-Err-Full.field-0 (inserting.Full f) is))
