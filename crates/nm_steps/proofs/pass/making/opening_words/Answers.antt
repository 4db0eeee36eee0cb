use Rattle.std.proofs.Common.{rules, ◌≡◌, ◌∙◌, replicate}
use Rattle.nm_edge.specs.Words.{words}
use Rattle.nm_steps.proofs.OpeningWords.{zeros}
use Rattle.nm_steps.proofs.pass.making.opening_words.Goals as goal

pub plant_fixed-requires : goal.plant_fixed-requires
plant_fixed-requires c =
    let e : c.in_ok-tree.tree.items ≡ replicate (words c.args.layout) 0 = search rules in
    e ∙ zeros c.args.layout
