use Rattle.std.proofs.Common.{arith}
use Rattle.nm_callers.proofs.alone.look_many_alone.Goals as goal

pub returns : goal.returns
returns c alone busy = let none = c.has_many.ensures.alone alone busy in let some = c.requires.some in
    omega (arith, none, some)
