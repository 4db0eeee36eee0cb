use Rattle.nm_tree.proofs.RunningTurns.{each_moment_is_of_turns as at_each_moment}
use Rattle.nm_tree.proofs.running.each_moment_is_of_turns.Goals as goal

pub returns : goal.returns
returns c = at_each_moment
