use Rattle.std.proofs.Common.{sym, subst}
use Rattle.nm_set.specs.Maps.{SaysPinnedGet}
use Rattle.nm_set.proofs.Inside.{of_member}
use Rattle.nm_set.proofs.TreesWithValues.{pinned_said}
use Rattle.nm_set.proofs.map_calls.Member+Values.get_pinned.Goals as goal

pub returns-clause-says : goal.returns-clause-says
returns-clause-says c =
    let said = subst (SaysPinnedGet _ c.args.key _ _) (sym c.of_pinned.ensures)
    (pinned_said _ c.args.key _ _ c.get_pinned-answer.result c.get_pinned-answer.ensures) in
    of_member (λ b v. SaysPinnedGet b.layout c.args.key v c.get_pinned-answer.new.worker c.of_pinned.result) _ _ _
    c.self.view_is c.tree.ensures said
