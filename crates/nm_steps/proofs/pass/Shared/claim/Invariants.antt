use Rattle.nm_steps.proofs.pass.Shared.claim.Given as goal

abbrev pub ghosts-clear : goal.ghosts-clear
ghosts-clear a = record { event = a.event.now }
