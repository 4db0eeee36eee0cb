use Rattle.nm_theorem.proofs.WorkedTurns.{is_worked, are_wrong}
use Rattle.nm_theorem.proofs.worked.worked_turns.Goals as goal

pub returns : goal.returns
returns c = record { says = is_worked; wrong = are_wrong }
