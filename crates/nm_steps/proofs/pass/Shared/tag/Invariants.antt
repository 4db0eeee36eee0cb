use Rattle.nm_steps.proofs.pass.Shared.tag.Given as goal

abbrev pub ghosts-mark : goal.ghosts-mark
ghosts-mark a = record { event = a.event.now }
