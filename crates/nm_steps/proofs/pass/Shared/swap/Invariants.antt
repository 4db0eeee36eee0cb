use Rattle.nm_steps.proofs.pass.Shared.swap.Given as goal

abbrev pub ghosts-exchange : goal.ghosts-exchange
ghosts-exchange a = record { event = a.event.now }
