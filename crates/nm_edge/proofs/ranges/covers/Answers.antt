use Rattle.nm_edge.proofs.RangeWords.{covers_by_words}
use Rattle.nm_edge.proofs.ranges.covers.Goals as goal

pub returns : goal.returns
returns c = covers_by_words c.args.router c.wrapping_neg.result c.args.key c.ranges.router.fits
    c.wrapping_neg.type_inv c.wrapping_neg.ensures
