use Rattle.std.proofs.Common.{refl}
use Rattle.nm_core.proofs.ChainLemmas.{remembers_kept}
use Rattle.nm_core.proofs.known.keep.Goals as goal

pub returns-else-not-keeps_chains-clause-after : goal.returns-else-not-keeps_chains-clause-after
returns-else-not-keeps_chains-clause-after c h = remembers_kept c.args.known.now c.args.slot c.args.seen.now
    (c.if-not-keeps_chains.ensures refl) c.args.found.now h
