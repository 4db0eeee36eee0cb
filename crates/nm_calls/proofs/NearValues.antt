-- The value of the key that is nearest to a given one.
use Rattle.std.proofs.Common.{◌≡◌, ◌≤◌, ℕ, List, [], drop, sym, subst, arith}
use Rattle.std.specs.Prelude.{IfOk, IfSome, None, Option, Some, Result, Ok, Err}
use Rattle.nm_edge.specs.Keys.{IsKey}
use Rattle.nm_edge.specs.Layouts.{Layout, IsLayout}
use Rattle.nm_edge.specs.Words.{IsSlot}
use Rattle.nm_edge.specs.declared.edge.Side.{Side}
use Rattle.nm_model.specs.declared.event.Event.TheVariants.{Leave}
use Rattle.nm_model.specs.declared.reply.Reply.TheVariants.{Departed}
use Rattle.nm_model.specs.Walks.{Entry, WalkEnds, since_pin}
use Rattle.nm_steps.specs.Rules.{value_of}
use Rattle.nm_steps.specs.Steps.{Continues, HasSeen, IsOf, PassView, TakesStep, TreeView}
use Rattle.nm_steps.specs.Values.{HasSeenStores}
use Rattle.nm_epoch.specs.Resting.{epochs}
use Rattle.nm_walks.specs.Telling.{GoesOn}
use Rattle.nm_calls.specs.declared.fault.CallFault.{CallFault}
use Rattle.nm_calls.specs.Maps.{HasReadLater, HasReadValue, MapGave}
use Rattle.nm_calls.specs.NearKeys.{IsNearBy}
use Rattle.nm_calls.specs.PlainWalks.{HasEndedAt, HasEndedSo, after_entries}
use Rattle.nm_calls.proofs.FoundValues.{leaf_within}
use Rattle.nm_calls.proofs.MapMoments.{mapped_longer, value_was}
use Rattle.nm_calls.proofs.PlainLooks.{ends_in_all}

-- ---- the leaf with the key

-- the key that was returned, at whose leaf a walk has ended
pub leaf_with_key : (p : PassView) (side : Side) (key leaf k : ℕ) (o : Option ℕ) → o ≡ Some k
    → IsNearBy side (HasEndedSo p) key o → IfSome o (λ j. HasEndedAt p j leaf) → IsKey k × HasEndedAt p k leaf
leaf_with_key p side key leaf k o is near ended = (
  (subst (IsNearBy side (HasEndedSo p) key) is near).1,
  subst
      (λ (x : Option ℕ). IfSome x (λ j. HasEndedAt p j leaf)) is ended,
)

pub leaf_slot : (b : TreeView) (p : PassView) → IsOf b p → IsLayout p.view.layout → HasSeen p.view → (k leaf : ℕ)
    → IsKey k × HasEndedAt p k leaf → IsSlot b.layout leaf
leaf_slot b p own fits seen k leaf at =
    let within = leaf_within p fits seen k leaf at.0 at.1 in
    let high = within.0 in
    (omega (arith, high), subst (λ (L : Layout). leaf ≤ L.nodes) own.layout within.1)

-- its value was read at m, by no step
pub read_near : (p m : PassView) → m.view.log ≡ p.view.log → IsLayout m.view.layout → (k leaf v : ℕ)
    → IsKey k × HasEndedAt p k leaf → HasSeenStores m.view → v ≡ value_of m.view.stores leaf → HasReadValue m k v
read_near p m log fits k leaf v at seen value =
    let ended = at.1 in
    let walk = subst (λ (l : List Entry). WalkEnds k (since_pin [] l) leaf ended.0 ended.1 k) (sym log) ended.2 in
    let within = leaf_within m fits seen.run k leaf at.0 (ended.0, ended.1, walk) in
    record {
      slot = leaf;
      parent = ended.0;
      side = ended.1;
      walk = walk;
      high = within.0;
      within = within.1;
      seen = seen;
      value = value;
    }

-- if the looks of its walk came after the first n entries of the log, they did so in the log that m has
pub read_later : (n : ℕ) (p m : PassView) → m.view.log ≡ p.view.log → IsLayout m.view.layout → (k leaf v : ℕ) → IsKey k
    → HasEndedAt (after_entries n p) k leaf → HasSeenStores m.view → v ≡ value_of m.view.stores leaf
    → HasReadLater n m k v
unfolding read_near
read_later n p m log fits k leaf v is_key ended seen value = record {
  read = read_near p m log fits k leaf v (
    is_key,
    (
      ended.0,
      ended.1,
      ends_in_all n k leaf ended.0 ended.1 k
          p.view.log ended.2,
    ),
  ) seen value;
  walk = subst (λ (l : List Entry). WalkEnds k (since_pin [] (drop n l)) leaf ended.0 ended.1 k) (sym log) ended.2;
}

-- ---- the moment in the call

-- the map had the key with the value that was read at m, under the pin that a has taken after o
pub near_was : (o a m q : PassView) → HasSeen o.view → IsLayout o.view.layout → (epochs o).pin ≡ None → Continues o a
    → GoesOn a m → TakesStep m q Leave Departed → (side : Side) (key v : ℕ) (r : Result (Option ℕ) CallFault)
    → IfOk r (IsNearBy side (HasEndedSo m) key) → IfOk r (λ f. IfSome f (λ k. HasReadValue m k v))
    → IfOk r (λ f. IfSome f (λ k. MapGave o q k (Some v)))
near_was o a m q seen fits unpinned pinning walked leaves side key v (Ok (Some k)) near read =
    mapped_longer o.view.past m q Leave Departed leaves k (Some v)
    (value_was o a m seen fits unpinned pinning walked k near.1 v read)
near_was o a m q seen fits unpinned pinning walked leaves side key v (Ok None) near read = tt
near_was o a m q seen fits unpinned pinning walked leaves side key v (Err e) near read = tt
