use Rattle.std.proofs.Common.{rules, inr}
use Rattle.nm_set_c.proofs.sets.nm_set_attach.Goals as goal

pub returns-clause-worker : goal.returns-clause-worker
returns-clause-worker c = (
  c.keep.result,
  search rules,
  inr (inr (
    search rules,
    c.in-Ok-claim_soon.owner.value,
    search rules,
    c.any_of-given.result,
    search rules,
    c.keep.ensures,
  )),
)
