use Rattle.nm_steps.proofs.pass.Shared.look_bare.Given as goal

abbrev pub ghosts-look_at_left : goal.ghosts-look_at_left
ghosts-look_at_left a = record { slot = a.slot }
