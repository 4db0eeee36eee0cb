use Rattle.nm_steps.proofs.pass.Shared.look_value.Given as goal

abbrev pub ghosts-look_at_value : goal.ghosts-look_at_value
ghosts-look_at_value a = record { slot = a.slot }
