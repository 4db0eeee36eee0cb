use Rattle.std.proofs.Common.{sym, subst}
use Rattle.nm_set.specs.Maps.{SaysPinnedGetMany}
use Rattle.nm_set.proofs.Inside.{of_member}
use Rattle.nm_set.proofs.TreesWithValues.{pinned_many_said}
use Rattle.nm_set.proofs.map_calls.Member+Values.get_many_pinned.Goals as goal

pub returns-clause-says : goal.returns-clause-says
returns-clause-says c =
    let said = subst (SaysPinnedGetMany _ c.args.queries.now c.get_many_pinned-answer.new.queries _ _)
    (sym c.of_pinned.ensures) (pinned_many_said _ c.args.queries.now c.get_many_pinned-answer.new.queries _ _
    c.get_many_pinned-answer.result c.get_many_pinned-answer.ensures) in
    of_member (λ b v. SaysPinnedGetMany b.layout c.args.queries.now c.get_many_pinned-answer.new.queries v
    c.get_many_pinned-answer.new.worker c.of_pinned.result) _ _ _ c.self.view_is c.tree.ensures said
