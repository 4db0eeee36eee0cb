use Rattle.std.proofs.Common.{refl}
use Rattle.nm_steps.proofs.Seeing.{seen_by_turn}
use Rattle.nm_walks.proofs.Looks.{may_look, goes_on, only_looks, edge_told}
use Rattle.nm_walks.proofs.looking.look_edge.Goals as goal

pub look_edge-edge-requires-clause-may : goal.look_edge-edge-requires-clause-may
look_edge-edge-requires-clause-may c = may_look c.args.pass.now c.args.slot _ c.requires.pinned.run
    c.requires.pinned.pin c.requires.known

pub returns-clause-on : goal.returns-clause-on
returns-clause-on c = goes_on c.args.pass.now c.look_edge-edge.new.pass _ _ c.look_edge-edge.ensures.step
    (seen_by_turn _ _ _ _ c.look_edge-edge.ensures.past) c.look_edge-edge.ensures.stores refl refl
    c.know_run.ensures.fits c.know_run.ensures.run

pub returns-clause-told : goal.returns-clause-told
returns-clause-told c = edge_told c.args.pass.now c.look_edge-edge.new.pass c.args.slot c.know_run.ensures.fits
    c.know_run.ensures.run c.args.side c.look_edge-edge.result c.look_edge-edge.ensures.step c.requires.known

pub returns-clause-only : goal.returns-clause-only
returns-clause-only c = only_looks c.args.pass.now c.look_edge-edge.new.pass c.args.slot _ _
    c.look_edge-edge.ensures.step c.requires.pinned.run c.requires.known
