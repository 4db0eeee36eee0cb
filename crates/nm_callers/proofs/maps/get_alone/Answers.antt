use Rattle.std.proofs.Common.{arith}
use Rattle.nm_callers.proofs.maps.get_alone.Goals as goal

pub returns : goal.returns
returns c alone busy = let none = c.get.ensures.alone alone busy in let some = c.requires.some in
    omega (arith, none, some)
