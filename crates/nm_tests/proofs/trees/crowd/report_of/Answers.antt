use Rattle.nm_tests.proofs.trees.crowd.report_of.Goals as goal

pub returns : goal.returns
returns g c = record { sum = c.in-Ok.ensures.says.sum }
