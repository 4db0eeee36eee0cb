use Rattle.std.proofs.Common.{◌≡◌, ◌<◌, ◌≤◌, ℕ, cond, Some, None, nat_lt, rules, sym, ◌∙◌, arith}
use Rattle.std.proofs.lemmas.Bool.Decides.{nat_tests}
use Rattle.nm_model.proofs.Freeing.{free_none, free_some}
use Rattle.nm_model.proofs.ledgers.Ledgers.free.Goals as goal

not_below : (m len : ℕ) → cond (nat_lt m len) (Some m) None ≡ None → len ≤ m
not_below m len h = grind (arith, nat_tests)

below : (m len k : ℕ) → cond (nat_lt m len) (Some m) None ≡ Some k → (m ≡ k) × (k < len)
below m len k h = (grind (arith, nat_tests), grind (arith, nat_tests))

pub returns-in_default-clause-ok : goal.returns-in_default-clause-ok
returns-in_default-clause-ok c = sym (free_none c.args.node c.args.self.now
    (not_below _ _ (sym c.origin_of_front.ensures ∙ c.in_default.is)))

pub returns-clause-ok : goal.returns-clause-ok
returns-clause-ok c =
    let at = below _ _ c.in-Some.origin (sym c.origin_of_front.ensures ∙ c.in-Some.is) in
    let freed = free_some c.args.node c.args.self.now c.in-Some.origin c.index_mut.result.now at.0 at.1
    (search (rules, c.index_mut.ensures.value)) in
    search (rules, freed)
