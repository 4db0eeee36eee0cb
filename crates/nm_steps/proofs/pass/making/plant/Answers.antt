use Rattle.nm_steps.proofs.OpeningWords.{plants}
use Rattle.nm_steps.proofs.pass.making.plant.Goals as goal

pub returns-clause-planted : goal.returns-clause-planted
returns-clause-planted c =
    plants c.args.layout c.args.tree.now.items c.args.slot c.args.key c.args.left c.args.right _ _ _ _ _ _ _
    c.requires.slot
    c.key.ensures.word c.edge.ensures c.edge-2.ensures c.pack.ensures c.to.ensures c.pack-2.ensures c.to-2.ensures
