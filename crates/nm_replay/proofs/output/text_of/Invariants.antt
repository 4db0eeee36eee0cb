use Rattle.std.proofs.Common.{◌≡◌, ◌++◌, drop}
use Rattle.std.specs.Option.{option_copied}
use Rattle.nm_files.specs.Lines.{parts, further}
use Rattle.nm_replay.specs.Output.{lines_with}
use Rattle.nm_replay.proofs.output.text_of.Given as goal

abbrev pub invariant-loop-turn : goal.invariant-loop-turn
invariant-loop-turn l = l.out.items ++ lines_with (further 10 (option_copied l.rest)) (drop l.turn-index l.turns)
    ≡ lines_with (parts l.body) l.turns
