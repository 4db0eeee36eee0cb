use Rattle.nm_progress.proofs.Moves.{epochs_are_the_moves as proof_0}
use Rattle.nm_progress.proofs.moved.epochs_are_the_moves.Goals as goal

pub returns : goal.returns
returns c = proof_0
