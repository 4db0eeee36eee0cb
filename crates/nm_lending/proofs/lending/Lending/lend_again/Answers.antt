use Rattle.std.proofs.Common.{◌∙◌, ◌<◌, sym, ap, subst}
use Rattle.atomic_table.specs.Seated.{TableId}
use Rattle.nm_lending.specs.Views.{CallerView, LendingView}
use Rattle.nm_lending.proofs.Passes.{has_word, left_within}
use Rattle.nm_lending.proofs.lending.Lending.lend_again.Goals as goal

pub take-requires-clause-within : goal.take-requires-clause-within
take-requires-clause-within g c =
    let own = ap (λ (s : LendingView g.row.C.Denot). s.table) c.self.view_is in
    let same = ap (λ (t : CallerView g.row.T.Denot g.row.C.Denot). t.table) c.caller.view_is
    ∙ (c.requires.table ∙ sym own) in
    let less = left_within c.caller.inside.pass c.caller.inside.seat c.caller.inside.turn c.caller.invariant
    c.if-turn-eq0.false in
    subst (λ (t : TableId). c.caller.inside.seat < t.words) own
    (has_word c.caller.inside.pass.table_id c.self.inside.table.shared.table_id c.caller.inside.seat same
    c.self.invariant less)
