use Rattle.nm_callers.proofs.threads.insert_both_then_find.Goals as goal

pub returns-clause-first : goal.returns-clause-first
returns-clause-first g c none = c.find_both.ensures.first c.args.one.pass
    (c.insert_both-first.ensures.first c.if-not-is_first.false) none

pub returns-clause-second : goal.returns-clause-second
returns-clause-second g c none = c.find_both.ensures.second c.args.two.pass
    (c.insert_both-first.ensures.second c.if-not-is_second.false) none
