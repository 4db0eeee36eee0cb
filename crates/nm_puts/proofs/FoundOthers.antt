-- A delete that found another value than the expected one, and its result as that of a delete.
use Rattle.std.proofs.Common.{◌≡◌, ℕ, ◌+◌, ◌*◌, List, [], ◌∷◌, ◌++◌, length, arith}
use Rattle.std.specs.Prelude.{None, Some, Result, Ok, Err}
use Rattle.nm_edge.specs.Layouts.{IsLayout, Layout}
use Rattle.nm_model.specs.declared.event.Event.TheVariants.{Leave, SightFor}
use Rattle.nm_model.specs.declared.event.Op.TheVariants.{Delete}
use Rattle.nm_model.specs.declared.reply.Reply.TheVariants.{Departed}
use Rattle.nm_model.specs.Walks.{Entry}
use Rattle.nm_steps.specs.Steps.{Continues, HasSeen, PassView}
use Rattle.nm_epoch.specs.Resting.{epochs}
use Rattle.nm_epoch.specs.Tries.{IsPinnedBy}
use Rattle.nm_walks.specs.Bounds.{reach}
use Rattle.nm_walks.proofs.Adding.{adds_in, adds_then, adds_these}
use Rattle.nm_calls.specs.declared.deleting.Deletion.{Deletion}
use Rattle.nm_calls.specs.declared.fault.CallFault.{CallFault}
use Rattle.nm_calls.specs.Bounds.{IsWithinBound}
use Rattle.nm_calls.specs.Maps.{MapGave}
use Rattle.nm_calls.specs.Won.{HasWon}
use Rattle.nm_calls.proofs.Adding.{adds_after, has_won, most, mul_below, pin_adds, seeks_adds, within_call}
use Rattle.nm_calls.proofs.AddingDeletes.{AddsFlags, lost_flags_add}
use Rattle.nm_calls.proofs.MapMoments.{mapped_longer, value_was}
use Rattle.nm_puts.specs.declared.removing.DeleteOutcome.{DeleteOutcome}
use Rattle.nm_puts.specs.declared.removing.DeleteOutcome.TheVariants as outcome
use Rattle.nm_puts.specs.Removing.{AsDelete, FindsAfter, HasReadOther, IfOther}

-- ---- by the result

pub as_if : (P Q : Result Deletion CallFault → Type 0) (r : Result DeleteOutcome CallFault)
    → ((d : Result Deletion CallFault) → P d → Q d) → AsDelete r P → AsDelete r Q
as_if P Q (Ok (outcome.Deletion d)) f h = f (Ok d) h
as_if P Q (Ok (outcome.Other found)) f h = tt
as_if P Q (Err e) f h = f (Err e) h

pub as_both : (P Q : Result Deletion CallFault → Type 0) (r : Result DeleteOutcome CallFault) → AsDelete r P
    → AsDelete r Q → AsDelete r (λ d. P d × Q d)
as_both P Q (Ok (outcome.Deletion d)) p q = (p, q)
as_both P Q (Ok (outcome.Other found)) p q = tt
as_both P Q (Err e) p q = (p, q)

pub if_other : (P Q : ℕ → Type 0) (r : Result DeleteOutcome CallFault) → ((found : ℕ) → P found → Q found)
    → IfOther r P → IfOther r Q
if_other P Q (Ok (outcome.Deletion d)) f h = tt
if_other P Q (Ok (outcome.Other found)) f h = f found h
if_other P Q (Err e) f h = tt

-- ---- another value

-- the map had the key with this value at a moment after one at which the worker was not pinned
pub other_was : (o p q : PassView) → HasSeen o.view → IsLayout o.view.layout → (epochs o).pin ≡ None → Continues o p
    → (k v : ℕ) → HasReadOther p q k v → MapGave o q k (Some v)
other_was o p q first_seen first_fits unpinned pinning k v t =
    mapped_longer o.view.past t.at q Leave Departed t.leaves k (Some v)
    (value_was o p t.at first_seen first_fits unpinned pinning t.since k t.is_key v t.read)

module _ (L : Layout) (tries k : ℕ) where
  finds_adds : (old new : List Entry) → FindsAfter L tries k old new → AddsFlags 0 (tries * most (reach L)) old new
  finds_adds old new (t, mid, few, lost, (r, c, walk, same)) =
      let before = lost_flags_add L k t old mid lost in
      let all = mul_below t tries (most (reach L)) few in (
        before.0 + 0,
        adds_in _ old new (omega (arith, all))
            (adds_then old mid new before.1 (seeks_adds L k mid new c (Some r) walk)),
      )

  module _ (old pinned ended new : List Entry) (e : ℕ) (pin : IsPinnedBy (SightFor Delete k) tries old pinned e)
      (finds : FindsAfter L tries k pinned ended) (leaves : new ≡ ended ++ (Leave, Departed) ∷ []) where
    all : AddsFlags 0 (2 * tries + 1 + (tries * most (reach L) + 1)) old new
    all = let part = finds_adds pinned ended finds in (
      0 + (part.0 + 0),
      adds_after old pinned new (pin_adds Delete k tries old pinned e pin)
          (adds_then pinned ended new part.1 (adds_these _ ended new leaves)),
    )

    pub other_wins : HasWon old new 0 0
    other_wins = has_won old new all.1

    pub other_steps : IsWithinBound L tries old new
    other_steps = within_call L tries (length old) (length new) (2 * tries + 1 + (tries * most (reach L) + 1))
        all.1.steps (omega arith)
