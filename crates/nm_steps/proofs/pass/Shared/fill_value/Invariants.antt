use Rattle.nm_steps.proofs.pass.Shared.fill_value.Given as goal

abbrev pub ghosts-store_value : goal.ghosts-store_value
ghosts-store_value a = record { slot = a.slot }
