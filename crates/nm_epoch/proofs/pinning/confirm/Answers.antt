use Rattle.std.proofs.Common.{⊎_elim}
use Rattle.nm_epoch.proofs.Trying.{never_saw, never_labelled}
use Rattle.nm_epoch.proofs.pinning.confirm.Goals as goal

pub unreachable-requires : goal.unreachable-requires
unreachable-requires c =
    ⊎_elim (λ s. never_saw c.args.announced s.0 c.args.pass.now c.requires.announced (rw s.1 at c.sight.ensures.reply))
    (λ l. never_labelled c.args.announced l.0 c.args.pass.now c.requires.announced (rw l.1 at c.sight.ensures.reply))
    c.in-Saw.is
