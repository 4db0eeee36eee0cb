use Rattle.nm_steps.proofs.pass.Shared.sight_for.Given as goal

abbrev pub ghosts-load : goal.ghosts-load
ghosts-load a = record { event = a.event.now }
