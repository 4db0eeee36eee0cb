use Rattle.std.proofs.Common.{arith}
use Rattle.nm_callers.proofs.ranges.read_alone.Goals as goal

pub returns-clause-answered : goal.returns-clause-answered
returns-clause-answered c alone busy = let none = c.scan.ensures.alone alone busy in let two = c.requires.two in
    omega (arith, none, two)

pub returns-clause-whole : goal.returns-clause-whole
returns-clause-whole c alone = c.scan.ensures.whole alone c.requires.two
