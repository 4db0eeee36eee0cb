use Rattle.std.proofs.Common.{inl, inr, subst}
use Rattle.std.specs.Prelude.{Result, IfErr}
use Rattle.nm_calls.specs.declared.fault.CallFault.{CallFault}
use Rattle.nm_calls.specs.declared.scanning.Scanned.{Scanned}
use Rattle.nm_calls.specs.PlainWalks.{WasSo}
use Rattle.nm_callers.proofs.RangesRead.{entries_within}
use Rattle.nm_callers.proofs.entries.list_due.Goals as goal

pub returns-in-Ok-clause-due : goal.returns-in-Ok-clause-due
returns-in-Ok-clause-due c = elim c.in-Ok.ensures.says [
  | inl pinned ↦ absurd (subst (λ (r : Result Scanned CallFault). IfErr r (λ e. ⊥)) pinned.1 tt)
  | inr asked ↦ entries_within (WasSo c.args.member.now.worker.pass c.scan_with_values.new.self.worker.pass)
      c.args.first c.args.below c.in-Ok.scanned.count c.scan_with_values.new.out c.in-Ok.scanned.next asked.1.count.0
      asked.1.moment asked.1.next
]
