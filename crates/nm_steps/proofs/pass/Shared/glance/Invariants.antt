use Rattle.nm_steps.proofs.pass.Shared.glance.Given as goal

abbrev pub ghosts-look_at_row : goal.ghosts-look_at_row
ghosts-look_at_row a = record { from = a.from; most = a.most }
