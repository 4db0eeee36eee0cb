use Rattle.std.proofs.Common.{ℕ, List, length, subst}
use Rattle.nm_set.specs.Filling.{HasFilled}
use Rattle.nm_shared.proofs.Sizes.{same_keys}
use Rattle.nm_shared.proofs.regrowing.regrow.Goals as goal

pub returns-in-Ok-of_keys-clause-same : goal.returns-in-Ok-of_keys-clause-same
returns-in-Ok-of_keys-clause-same c =
    let made = c.in-Ok-of_keys.made in
    let n : ℕ = length made.others.items in
    same_keys c.args.old c.in-Ok.report made.set.tree made.set.fit n made.filler c.in-Ok.ensures.says
    (subst (λ (ks : List ℕ). HasFilled made.set.tree made.set.fit n ks made.filler) c.as_slice.ensures.value
    c.in-Ok-of_keys.ensures.filler)
