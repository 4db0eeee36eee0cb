-- A get after an insert of the same key finds the value that was inserted, if no delete and no put of
-- the key takes effect.
use Rattle.std.proofs.Common.{◌≡◌, ℕ, ◌+◌, ◌<◌, List, [], ◌∷◌, ◌++◌, append_assoc, length, refl, sym, ap, subst, ◌∙◌, true≢false, arith}
use Rattle.std.specs.Prelude.{IsSome, None, Some, Option}
use Rattle.std.proofs.lemmas.List.{length-append}
use Rattle.nm_edge.specs.Layouts.{Layout, IsLayout}
use Rattle.nm_model.specs.declared.trace.Turn.{Turn}
use Rattle.nm_model.specs.Histories.{HasHistory, IsHistory}
use Rattle.nm_model.specs.Ordered.{ordered, trace_in}
use Rattle.nm_order.proofs.RealTime.{begins_with}
use Rattle.nm_steps.specs.Rules.{ExtendsStores}
use Rattle.nm_steps.specs.Steps.{HasSeen, HasSeenAllOf, IsSamePass, PassView}
use Rattle.nm_calls.specs.Maps.{HasPut, HoldsStores, IsInMap, MapGave, WasPut, value_at}
use Rattle.nm_calls.proofs.KeptValues.{put_values_stay}
use Rattle.nm_calls.proofs.UncutLeaves.{none_cuts}
use Rattle.nm_callers.specs.Meanwhile.{NoneDeleted, NoneReplaced}

-- ---- of a worker

module _ (o p q : PassView) (w k v : ℕ) (worker : w < q.view.layout.workers) (seen : HasSeen q.view)
    (fits : IsLayout q.view.layout) (history : HasHistory q.view.layout q.view.past) (on : HasSeenAllOf q p)
    (more : ExtendsStores q.view.stores p.view.stores)
    (put : WasPut q.view.layout o.view.past p.view.past p.view.stores w k v)
    (none : NoneDeleted q.view.layout o.view.past q.view.past k)
    (unreplaced : NoneReplaced q.view.layout o.view.past q.view.past k) where
  abbrev L : Layout
  L = q.view.layout

  abbrev linked : List Turn
  linked = put.so_far ++ put.link ∷ []

  value_is_kept : (found : ℕ) (so_far rest : List Turn) → q.view.past ≡ so_far ++ rest
      → length p.view.past < length so_far → IsInMap L so_far q.view.stores k found
      → HoldsStores L so_far q.view.past q.view.stores → found ≡ v
  value_is_kept found so_far rest are later there held =
      let whole : linked ++ (put.rest ++ on.goes_on.more)
      ≡ so_far ++ rest = sym (append_assoc linked put.rest on.goes_on.more)
      ∙ (ap (λ (ts : List Turn). ts ++ on.goes_on.more) (sym put.are) ∙ (sym on.goes_on.is ∙ are)) in
      let long = ap (λ (ts : List Turn). length ts) put.are ∙ length-append linked put.rest in
      let part = begins_with linked (put.rest ++ on.goes_on.more) so_far rest whole (omega (arith, later, long)) in
      let mid : List Turn = part.0 in
      let split : q.view.past ≡ linked ++ (mid ++ rest) = are
      ∙ (ap (λ (ts : List Turn). ts ++ rest) part.1 ∙ append_assoc linked mid rest) in
      let turns : trace_in (ordered L) seen.events ≡ linked ++ (mid ++ rest) = sym seen.are ∙ split in
      let held' : HoldsStores L so_far (trace_in (ordered L) seen.events) q.view.stores = subst
      (λ (ts : List Turn). HoldsStores L so_far ts q.view.stores) seen.are held in
      let here : IsInMap L linked q.view.stores k (value_at (length linked) q.view.stores put.is.slot) =
      record {
        slot = put.is.slot;
        reached = put.is.reached;
        leaf = put.is.leaf;
        has_key = put.is.has_key;
        has_value = refl;
      } in
      let after = length-append put.so_far (put.link ∷ []) in
      let first = put.later in
      put_values_stay L fits seen.events seen.keys o.view.past p.view.past p.view.stores q.view.stores w k v worker
      put more so_far held' mid rest turns
      (none_cuts L fits seen.events seen.keys q.view.stores so_far held' (length o.view.past)
      (length linked + length mid) k history.0
      (subst (λ (ts : List Turn). IsHistory L ts history.0) seen.are history.1)
      (λ a among deletes within. let early = none history.0 history.1 a among deletes in let late = within.0 in
      omega (arith, early, late))
      (λ before since t is late less. unreplaced before since t (seen.are ∙ is) late) put.is.slot mid linked rest turns
      (omega (arith, first, after)) (omega arith)
      ((value_at (length linked) q.view.stores put.is.slot, here, refl)))
      found (subst (λ (ts : List Turn). IsInMap L ts q.view.stores k found) part.1 there)

-- the answer of a get is the value that the insert has put
pub is_kept : (o p q : PassView) (k v : ℕ) → HasSeen q.view → IsLayout q.view.layout
    → HasHistory q.view.layout q.view.past → IsSamePass p q → HasSeenAllOf q p
    → ExtendsStores q.view.stores p.view.stores → HasPut o p k v
    → NoneDeleted q.view.layout o.view.past q.view.past k
    → NoneReplaced q.view.layout o.view.past q.view.past k → (found : Option ℕ) → IsSome found → MapGave p q k found
    → found ≡ Some v
is_kept o p q k v seen fits history same on more put none unreplaced None some gave = absurd (true≢false (sym some))
is_kept o p q k v seen fits history same on more put none unreplaced (Some x) some gave =
    ap Some
    (value_is_kept o p q q.view.number k v seen.worker seen fits history on more
    (subst (λ (z : PassView). WasPut z.view.layout o.view.past p.view.past p.view.stores z.view.number k v)
    (sym same) put) none unreplaced x gave.so_far gave.rest gave.are gave.later gave.gives gave.stored)

-- the same of a get by another worker that has heard of the insert
pub is_kept_told : (o p q : PassView) (k v : ℕ) → HasSeen p.view → HasSeen q.view → IsLayout q.view.layout
    → HasHistory q.view.layout q.view.past → p.view.layout ≡ q.view.layout → HasSeenAllOf q p
    → ExtendsStores q.view.stores p.view.stores → HasPut o p k v
    → NoneDeleted q.view.layout o.view.past q.view.past k
    → NoneReplaced q.view.layout o.view.past q.view.past k → (found : Option ℕ) → IsSome found → MapGave p q k found
    → found ≡ Some v
is_kept_told o p q k v first seen fits history layout on more put none unreplaced None some gave = absurd
    (true≢false (sym some))
is_kept_told o p q k v first seen fits history layout on more put none unreplaced (Some x) some gave =
    ap Some
    (value_is_kept o p q p.view.number k v (subst (λ (L : Layout). p.view.number < L.workers) layout first.worker)
    seen fits history on more
    (subst (λ (L : Layout). WasPut L o.view.past p.view.past p.view.stores p.view.number k v) layout put) none
    unreplaced x gave.so_far gave.rest gave.are gave.later gave.gives gave.stored)
