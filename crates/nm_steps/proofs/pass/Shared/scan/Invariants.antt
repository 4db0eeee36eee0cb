use Rattle.nm_steps.proofs.pass.Shared.scan.Given as goal

abbrev pub ghosts-load : goal.ghosts-load
ghosts-load a = record { event = a.event.now }
