use Rattle.nm_set.proofs.Managing.{finishes}
use Rattle.nm_set.proofs.member.Member.finish_with_retries.Goals as goal

pub returns-clause-says : goal.returns-clause-says
returns-clause-says g c = finishes c.args.self.now.tree c.args.options.now c.tries_of_rounds.result
    c.args.self.now.worker c.finish.new.self.worker c.finish.result c.tries_of_rounds.ensures c.requires.free
    c.finish.ensures.says.unfinished c.finish.ensures.says.frees c.finish.ensures.says.says
