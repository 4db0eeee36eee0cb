use Rattle.std.proofs.Common.{ap, sym, subst, ◌∙◌}
use Rattle.nm_steps.specs.Values.{HasValues}
use Rattle.nm_set.specs.Seats.{MemberView}
use Rattle.nm_set.proofs.member.Member.hear.Goals as goal

pub returns-clause-values : goal.returns-clause-values
returns-clause-values g c = λ has. c.hear.ensures.values
    (subst HasValues (sym (c.tree.ensures ∙ ap (λ (m : MemberView). m.tree) c.self.view_is)) has)
