use Rattle.std.proofs.Common.{option_map, ap, sym, ◌∙◌}
use Rattle.std.proofs.lemmas.List.Edits.{map_over_more}
use Rattle.nm_model.specs.Ledgers.{labelled}
use Rattle.nm_model.proofs.ledgers.Ledgers.label.Goals as goal

pub loop-ledger-preserved : goal.loop-ledger-preserved
loop-ledger-preserved c =
    let written = c.label_in.ensures ∙ ap (option_map (labelled c.args.label)) (sym c.ledger-item.is) in
    rw written (map_over_more (option_map (labelled c.args.label)) c.deref_mut-ledger-items.result.now
    c.loop-ledger.ledger-items c.loop-ledger.ledger-index c.ledger-item.result c.loop-ledger-test.true
    c.loop-ledger.invariant c.ledger-item.is)
