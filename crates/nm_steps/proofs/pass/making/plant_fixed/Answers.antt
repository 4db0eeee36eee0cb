use Rattle.std.proofs.Common.{rules, ◌∙◌, ap, length}
use Rattle.nm_steps.proofs.OpeningWords.{untouched_long, five_planted}
use Rattle.nm_steps.proofs.pass.making.plant_fixed.Goals as goal

pub plant-requires-clause-long : goal.plant-requires-clause-long
plant-requires-clause-long c = ap length c.requires ∙ untouched_long c.args.layout

pub returns : goal.returns
returns c = five_planted c.args.layout _ _ _ _ _ _ (search rules) c.requires c.plant.ensures.planted
    c.plant-2.ensures.planted c.plant-3.ensures.planted c.plant-4.ensures.planted c.plant-5.ensures.planted
