-- The value of the key that an insert has found.
use Rattle.std.proofs.Common.{◌≡◌, ◌<◌, ◌≤◌, ℕ, false, List, [], ap, subst, sym, ◌∙◌, arith}
use Rattle.std.specs.Prelude.{None, Option, Some}
use Rattle.nm_edge.specs.Keys.{IsKey}
use Rattle.nm_edge.specs.Layouts.{Layout, IsLayout}
use Rattle.nm_edge.specs.Words.{IsSlot}
use Rattle.nm_model.specs.declared.event.Event.TheVariants.{LeaveWith}
use Rattle.nm_model.specs.declared.reply.Reply.TheVariants.{Departed}
use Rattle.nm_model.specs.Maps.{get}
use Rattle.nm_model.specs.Memory.{infinity_1}
use Rattle.nm_model.specs.Searches.{idle}
use Rattle.nm_model.specs.Walks.{Entry, search_after}
use Rattle.nm_order.specs.Facts.Since.{ThePin}
use Rattle.nm_steps.specs.Rules.{knowledge, value_of}
use Rattle.nm_steps.specs.Steps.{Continues, HasSeen, IsInRun, IsOf, PassView, TreeView}
use Rattle.nm_steps.specs.Values.{HasSeenStores}
use Rattle.nm_epoch.specs.Resting.{epochs}
use Rattle.nm_walks.specs.declared.making.NewNodes.{NewNodes}
use Rattle.nm_walks.specs.Growing.{HasNewNodes, Returns}
use Rattle.nm_walks.specs.Making.{OnlyMakes}
use Rattle.nm_walks.proofs.Looks.{enough}
use Rattle.nm_walks.proofs.ShortWalks.{key_of_call}
use Rattle.nm_calls.specs.Leaving.{EndedWith}
use Rattle.nm_calls.specs.PlainWalks.{HasEndedAt}
use Rattle.nm_calls.specs.Maps.{HasReadFound, HasReadValue, MapGave}
use Rattle.nm_calls.proofs.MapMoments.{mapped_longer, value_was, walk_in_run}
use Rattle.nm_calls.proofs.NamedLeaves.{leaf_is_high, leaf_is_inside}
use Rattle.nm_calls.proofs.TakenValues.{walk_ended}

-- ---- the leaf at which a walk of the call has ended

-- the call is for a key of the set
key_of_walk : (p : PassView) → IsInRun p → (k leaf : ℕ) → EndedWith p ThePin k leaf k → IsKey k
key_of_walk p run k leaf ended =
    let a = ended.2.0 in
    key_of_call p run a.call.op k (a.is_call ∙ ap (λ (n : ℕ). Some (record { op = a.call.op; key = n })) a.is_for)

-- the leaf at which a walk for its key has ended is a slot above the fixed nodes
pub leaf_within : (p : PassView) → IsLayout p.view.layout → HasSeen p.view → (k leaf : ℕ) → IsKey k
    → HasEndedAt p k leaf → (6 ≤ leaf) × (leaf ≤ p.view.layout.nodes)
leaf_within p fits seen k leaf is_key ended =
    let low = enough p.view.layout fits in
    let small : k < infinity_1 = omega (arith, is_key) in
    let walk = walk_in_run p fits k is_key seen leaf ended.0 ended.1 k ended.2 in (
      leaf_is_high p.view.layout low [] seen.events seen.keys p.view.number k leaf ended.0 ended.1 small walk
          (omega (arith, is_key)),
      leaf_is_inside p.view.layout low [] seen.events seen.keys p.view.number k leaf ended.0 ended.1 small walk,
    )

found_within : (p : PassView) → IsInRun p → HasSeen p.view → (k leaf : ℕ) → EndedWith p ThePin k leaf k
    → (6 ≤ leaf) × (leaf ≤ p.view.layout.nodes)
found_within p run seen k leaf ended = leaf_within p run.fits seen k leaf (key_of_walk p run k leaf ended)
    (ended.0, ended.1, walk_ended p k leaf ended.0 ended.1 ended.2)

pub found_slot : (b : TreeView) (p : PassView) → IsOf b p → IsInRun p → HasSeen p.view → (leaf : ℕ)
    → ((k : ℕ) × EndedWith p ThePin k leaf k) → IsSlot b.layout leaf
found_slot b p own run seen leaf ended =
    let within = found_within p run seen ended.0 leaf ended.1 in
    let high = within.0 in
    (omega (arith, high), subst (λ (L : Layout). leaf ≤ L.nodes) own.layout within.1)

-- ---- after a look at its value

-- the value was read at m
pub read_found : (m : PassView) → IsInRun m → (k leaf v : ℕ) → EndedWith m ThePin k leaf k → HasSeenStores m.view
    → v ≡ value_of m.view.stores leaf → HasReadValue m k v
read_found m run k leaf v ended seen value =
    let within = found_within m run seen.run k leaf ended in
    record {
      slot = leaf;
      parent = ended.0;
      side = ended.1;
      walk = walk_ended m k leaf ended.0 ended.1 ended.2;
      high = within.0;
      within = within.1;
      seen = seen;
      value = value;
    }

-- only what the pass has seen is changed by the look
module _ (o p q m : PassView) (same : m ≡ record q
    { view = record q.view { past = m.view.past; stores = m.view.stores } }) where
  pub makes_and_looks : OnlyMakes p q → OnlyMakes p m
  makes_and_looks only = record {
    epochs = ap (λ (x : PassView). (knowledge x.view).brief) same ∙ only.epochs;
    known = ap (λ (x : PassView). (knowledge x.view).known) same ∙ only.known;
    ledgers = ap (λ (x : PassView). (knowledge x.view).ledgers) same ∙ only.ledgers;
    search = ap (λ (x : PassView). search_after idle x.view.log) same ∙ only.search;
  }

  pub given_and_looked : HasNewNodes o q None → HasNewNodes o m None
  given_and_looked given s = ap (λ (x : PassView). get (knowledge x.view).drafts s) same ∙ given s

  pub returned_and_looked : (f : Option NewNodes) → Returns f p.view.log q.view.log → Returns f p.view.log m.view.log
  returned_and_looked f part = subst (λ (l : List Entry). Returns f p.view.log l)
      (sym (ap (λ (x : PassView). x.view.log) same)) part

-- ---- the moment in the call

-- the map had the key with the value, at a moment after one at which the worker was not pinned
pub found_was : (o p q : PassView) → HasSeen o.view → IsLayout o.view.layout → (epochs o).pin ≡ None → Continues o p
    → (k v : ℕ) → HasReadFound p q k v → MapGave o q k (Some v)
found_was o p q first_seen first_fits unpinned pinning k v t =
    mapped_longer o.view.past t.at q (LeaveWith false) Departed t.leaves k (Some v)
    (value_was o p t.at first_seen first_fits unpinned pinning t.since k t.is_key v t.read)
