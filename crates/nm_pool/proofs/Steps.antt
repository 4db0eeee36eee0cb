-- How many steps claims take at most.
use Rattle.std.proofs.Common.{◌≡◌, inl, inr, ℕ, zero, suc, ◌+◌, ◌*◌, ◌-◌, ◌≤◌, List, [], ◌∷◌, length, ap, arith}
use Rattle.std.specs.Prelude.{Option, Some, None}
use Rattle.nm_edge.specs.declared.node.NodeId.{NodeId}
use Rattle.nm_model.specs.Walks.{Entry}
use Rattle.nm_model.proofs.Lists.{longer_by}
use Rattle.nm_pool.specs.Claims.{Doing, DoneInTurn, DoneAt, PassedOver, PassedWithin, IsClaimBy}
use Rattle.nm_edge.specs.declared.placement.Fit.{Fit}
use Rattle.nm_edge.specs.declared.placement.Fit.TheVariants as fit

-- what is done at one slot takes so many steps at most
abbrev TakesFew : ℕ → Doing → Type 0
TakesFew most Done = (s : ℕ) (old new : List Entry) → Done s old new → length new ≤ length old + most

few_in_turn : (most : ℕ) (Done : Doing) → TakesFew most Done → (from n : ℕ) (old new : List Entry)
    → DoneInTurn Done from n old new → length new ≤ length old + most * n
few_in_turn most Done few from zero old new done =
    let same : length new ≡ length old = ap (λ (log : List Entry). length log) done in omega (arith, same)
few_in_turn most Done few from (suc n) old new done =
    let before = few_in_turn most Done few from n old done.0 done.1 in
    let last = few (from + n) done.0 new done.2 in
    let more : most * suc n ≡ most + most * n = omega arith in
    omega (arith, before, last, more)

three_at_most : TakesFew 3 PassedOver
three_at_most s old new (inl taken) = let l = longer_by old new _ taken in omega (arith, l)
three_at_most s old new (inr exhausted) = let l = longer_by old new _ exhausted in omega (arith, l)

few_at : (nodes : ℕ) (slots : List ℕ) (old new : List Entry) → DoneAt (PassedWithin nodes) slots old new
    → length new ≤ length old + 3 * length slots
few_at nodes [] old new done = let same : length new ≡ length old = ap (λ (log : List Entry). length log) done in
    omega (arith, same)
few_at nodes (s ∷ slots) old new done =
    let before = few_at nodes slots old done.0 done.1 in
    let last = three_at_most s done.0 new done.2.2 in
    omega (arith, before, last)

pub claim_steps : (f : Fit) (nodes : ℕ) (old new : List Entry) (o : Option NodeId) → IsClaimBy f nodes old new o
    → length new ≤ length old + 3 * nodes
claim_steps fit.FirstFit nodes old new None is =
    let few = few_in_turn 3 PassedOver three_at_most 6 (nodes + 1 - 6) old new is in omega (arith, few)
claim_steps fit.FirstFit nodes old new (Some n) c =
    let few = few_in_turn 3 PassedOver three_at_most 6 (n.slot - 6) old c.before c.passed in
    let l = longer_by c.before new _ c.made.entries in
    let least = c.least in
    let most = c.most in
    omega (arith, few, l, least, most)
claim_steps fit.NextFit nodes old new None p =
    let steps = few_at nodes p.slots old new p.passed in
    let few = p.few in
    omega (arith, steps, few)
claim_steps fit.NextFit nodes old new (Some n) c =
    let steps = few_at nodes c.slots old c.before c.passed in
    let l = longer_by c.before new _ c.made.entries in
    let few = c.few in
    omega (arith, steps, l, few)
