-- A worker holds no more queues than there are workers.
use Rattle.std.proofs.Common.{◌≡◌, ℕ, ◌<◌, ◌≤◌, inl, inr, eqb, true, false, List, [], ◌∷◌, length, map, refl, sym, subst, true≢false}
use Rattle.std.specs.Prelude.{Option, Some, None, IsSome, option_map}
use Rattle.std.specs.List.{list_any, IsDistinct, AllByRecursion}
use Rattle.std.proofs.lemmas.Bool.{eqb-true, ne_eqb, or_cases}
use Rattle.std.proofs.lemmas.List.{length-map}
use Rattle.std.proofs.lemmas.Map.Steps.{length-le_from_distinct_below}
use Rattle.std.proofs.lemmas.Option.{none-some}
use Rattle.nm_edge.specs.Layouts.{Layout}
use Rattle.nm_model.specs.declared.ledger.Ledger.{Ledger}
use Rattle.nm_model.specs.declared.ledger.Queued.{Queued}
use Rattle.nm_model.specs.Knowledge.{Knowledge}
use Rattle.nm_model.specs.Ledgers.{held}
use Rattle.nm_order.specs.Hands.{AreApart}
use Rattle.nm_epoch.specs.declared.collecting.HeldQueue.{HeldQueue}
use Rattle.nm_epoch.specs.Collecting.{AreHeld, NoneHas}

abbrev origins : List HeldQueue → List ℕ
origins hs = map (λ (h : HeldQueue). h.origin) hs

others : (o : ℕ) (hs : List HeldQueue) → NoneHas o hs → AllByRecursion (λ p. eqb o p ≡ false) (origins hs)
others o [] none' = tt
others o (h ∷ hs) none' = (ne_eqb o h.origin none'.0, others o hs none'.1)

is_held : (h : Option Ledger) (q : List Queued) → option_map (λ (l : Ledger). l.queue) h ≡ Some q → IsSome h
is_held None q is = absurd (none-some q is)
is_held (Some l) q is = refl

module _ (L : Layout) (k : Knowledge) (apart : AreApart L k) where
  distinct : (hs : List HeldQueue) → AreHeld k hs → IsDistinct eqb (origins hs)
  unfolding IsDistinct
  distinct [] has = tt
  distinct (h ∷ hs) has = (others h.origin hs has.1, distinct hs has.2)

  below : (hs : List HeldQueue) → AreHeld k hs → (o : ℕ) → list_any (eqb o) (origins hs) ≡ true → o < L.workers
  below [] has o is = absurd (true≢false (sym is))
  below (h ∷ hs) has o is = elim (or_cases (eqb o h.origin) (list_any (eqb o) (origins hs)) is) [
    | inl here ↦ subst (λ (p : ℕ). p < L.workers) (sym (eqb-true o h.origin here))
        (apart.origins h.origin (is_held (held k.ledgers h.origin) _ has.0))
    | inr later ↦ below hs has.2 o later
  ]

  pub few : (hs : List HeldQueue) → AreHeld k hs → length hs ≤ L.workers
  few hs has = subst (λ (n : ℕ). n ≤ L.workers) (length-map hs (λ (h : HeldQueue). h.origin))
      (length-le_from_distinct_below (origins hs) L.workers (distinct hs has) (below hs has))
