use Rattle.nm_edge.proofs.RangeWords.{zeros_below, when_less, when_greater}
use Rattle.nm_edge.proofs.ranges.parting.Goals as goal
use Rattle.nm_edge.proofs.ranges.parting.Goals.{then-key-other, else-key-other}

pub overflow_sub-below : goal.overflow_sub-below
overflow_sub-below c = zeros_below c.args.key c.args.other c.ranges.key.fits c.ranges.other.fits c.requires

pub returns : goal.returns
returns c = elim c.if-key-other.branch [
  | then-key-other w ↦ when_less c.args.key c.args.other c.ranges.key.fits c.ranges.other.fits c.requires
      c.if-key-other.greater w.if-key-other.true w.greater-is
  | else-key-other w ↦ when_greater c.args.key c.args.other c.ranges.key.fits c.ranges.other.fits c.requires
      c.if-key-other.greater w.if-key-other.false w.greater-is
]
