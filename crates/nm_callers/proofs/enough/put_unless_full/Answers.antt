use Rattle.nm_callers.proofs.EnoughSlots.{put_was_full}
use Rattle.nm_callers.proofs.enough.put_unless_full.Goals as goal

pub returns-clause-used : goal.returns-clause-used
returns-clause-used c full = put_was_full c.args.member.now.tree c.args.options.now _ c.args.key c.args.value
    c.args.member.now.worker c.put-put.new.self.worker c.put-put.result c.know_run.ensures.seen c.know_run.ensures.fits
    c.put-put.ensures.says full
