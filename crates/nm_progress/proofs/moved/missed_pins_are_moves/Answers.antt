use Rattle.nm_progress.proofs.Moves.{missed_pins_are_moves as proof_0}
use Rattle.nm_progress.proofs.moved.missed_pins_are_moves.Goals as goal

pub returns : goal.returns
returns c = proof_0
