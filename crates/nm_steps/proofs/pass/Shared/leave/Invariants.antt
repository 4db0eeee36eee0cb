use Rattle.nm_steps.proofs.pass.Shared.leave.Given as goal

abbrev pub ghosts-store : goal.ghosts-store
ghosts-store a = record { event = a.event.now }
