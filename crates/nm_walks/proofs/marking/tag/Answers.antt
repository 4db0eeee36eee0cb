use Rattle.std.proofs.Common.{refl}
use Rattle.nm_steps.proofs.Seeing.{seen_by_turn}
use Rattle.nm_walks.proofs.Looks.{goes_on}
use Rattle.nm_walks.proofs.Marks.{may_tag, tag_told, only_tags}
use Rattle.nm_walks.proofs.marking.tag.Goals as goal

pub tag-edge-requires-clause-may : goal.tag-edge-requires-clause-may
tag-edge-requires-clause-may c = may_tag c.args.pass.now c.args.parent c.args.side c.requires.pinned.run
    c.requires.pinned.pin c.requires.known c.requires.beside

pub returns-clause-on : goal.returns-clause-on
returns-clause-on c = goes_on c.args.pass.now c.tag-edge.new.pass _ _ c.tag-edge.ensures.step
    (seen_by_turn _ _ _ _ c.tag-edge.ensures.past) c.tag-edge.ensures.stores refl refl c.know_run.ensures.fits
    c.know_run.ensures.run

pub returns-clause-only : goal.returns-clause-only
returns-clause-only c = only_tags c.args.pass.now c.tag-edge.new.pass c.args.parent c.args.side c.tag-edge.result
    c.tag-edge.ensures.step

pub returns-clause-told : goal.returns-clause-told
returns-clause-told c = tag_told c.args.pass.now c.tag-edge.new.pass c.args.parent c.args.side c.tag-edge.result
    c.tag-edge.ensures.step c.know_run.ensures.fits c.know_run.ensures.run c.requires.known
