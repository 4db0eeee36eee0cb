use Rattle.std.proofs.Common.{rules}
use Rattle.nm_tree.proofs.Untouched.{finishes_none}
use Rattle.nm_tree.proofs.tree.Tree.finish.Goals as goal

pub returns-clause-leaves : goal.returns-clause-leaves
returns-clause-leaves c = finishes_none c.args.self.now.layout c.args.tries c.args.worker.now (search rules)

pub returns-clause-says : goal.returns-clause-says
returns-clause-says c = (returns-clause-leaves c).says
