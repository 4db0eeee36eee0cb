use Rattle.std.proofs.Common.{◌≡◌, ◌∙◌, ap, length, arith}
use Rattle.nm_edge.specs.Words.{words}
use Rattle.nm_steps.proofs.Cutting.{opens}
use Rattle.nm_steps.proofs.OpeningWords.{opening_long}
use Rattle.nm_steps.proofs.pass.making.made.Goals as goal

pub of_words-requires : goal.of_words-requires
of_words-requires c = opens c.args.layout c.as_slice.result.now c.workers-workers.ensures.fits
    (c.as_slice.ensures.value ∙ c.in_ok-tree.ensures)

pub dealt-requires-clause-words : goal.dealt-requires-clause-words
dealt-requires-clause-words c =
    let t = c.in_ok-table.ensures in
    let long : length c.as_slice.result.now ≡ words c.args.layout = ap length
    (c.as_slice.ensures.value ∙ c.in_ok-tree.ensures)
    ∙ opening_long c.args.layout (omega (arith, c.workers-workers.ensures.fits.least)) in
    let all = t.0 ∙ long in
    omega (arith, all)

pub dealt-requires-clause-kind : goal.dealt-requires-clause-kind
dealt-requires-clause-kind c = c.in_ok-table.ensures.1
