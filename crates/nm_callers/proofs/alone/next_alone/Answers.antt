use Rattle.std.proofs.Common.{arith}
use Rattle.nm_callers.proofs.alone.next_alone.Goals as goal

pub returns : goal.returns
returns c alone busy = let one = c.next.ensures.alone alone busy in let two = c.requires.two in omega (arith, one, two)
