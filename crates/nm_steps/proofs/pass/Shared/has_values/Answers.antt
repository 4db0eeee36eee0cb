use Rattle.std.proofs.Common.{subst}
use Rattle.nm_steps.specs.Values.{HasValuesIf}
use Rattle.nm_steps.proofs.pass.Shared.has_values.Goals as goal

pub returns-clause-yes : goal.returns-clause-yes
returns-clause-yes c = λ is. subst (λ b. HasValuesIf b c.args.self.now) is (rw (← c.self.view_is) c.self.invariant.kind)

pub returns-clause-no : goal.returns-clause-no
returns-clause-no c = λ is. subst (λ b. HasValuesIf b c.args.self.now) is (rw (← c.self.view_is) c.self.invariant.kind)
