-- A value that a worker got under its pin has not come back to another worker that it has heard.
use Rattle.std.proofs.Common.{◌≡◌, ℕ, Bool, true, cond, List, ◌++◌, length, sym, ap, subst, ◌∙◌}
use Rattle.std.specs.Prelude.{All, slice_index_or, Contains, IfOk, IfSome, None, Ok, Option, Result, Some}
use Rattle.nm_edge.specs.Layouts.{Layout}
use Rattle.nm_edge.specs.declared.node.NodeId.{NodeId}
use Rattle.nm_model.specs.declared.trace.Turn.{Turn}
use Rattle.nm_model.specs.Headline.{freed_by}
use Rattle.nm_order.specs.Logs.{part_of}
use Rattle.nm_steps.specs.declared.view.View.{View}
use Rattle.nm_steps.specs.Rules.{Extends}
use Rattle.nm_steps.specs.Steps.{HasHeard, HasSeenAllOf, PassView}
use Rattle.nm_calls.specs.declared.fault.CallFault.{CallFault}
use Rattle.nm_calls.specs.declared.many.Query.{Query}
use Rattle.nm_calls.specs.GotValues.{got_leaf}
use Rattle.nm_calls.specs.Maps.{MapGaveUnderPin, WasMappedUnderPin}
use Rattle.nm_calls.specs.ValuesInTurns.{answer_of}
use Rattle.nm_calls.proofs.UnderPins.{got_leaves_are_not_freed, got_longer, got_values_stay_out}
use Rattle.nm_calls.proofs.Unheld.{freed_longer}
use Rattle.nm_tree.specs.Running.{HasSeenTurns}
use Rattle.nm_callers.specs.Returning.{HasComeBack, HasNotComeBack}

module _ (a p q : PassView) (o : View) (k v : ℕ) (back : List ℕ) (first : HasSeenTurns p.view)
    (seen : HasSeenTurns q.view) (heard : HasHeard p q) (on : HasSeenAllOf q p) (told : Extends q.view.past o.past)
    (returned : (u : ℕ) → Contains back u → HasComeBack o u) where
  -- the reader has made no turn since
  quiet : length (part_of p.view.number (p.view.past ++ on.goes_on.more)) ≡ length (part_of p.view.number p.view.past)
  quiet =
      ap (λ (ts : List Turn). length (part_of p.view.number ts)) (sym on.goes_on.is)
      ∙ ap length
      (ap (λ (w : ℕ). part_of w q.view.past) (ap (λ (z : PassView). z.view.number) (sym heard))
      ∙ (seen.own ∙ (ap (λ (z : PassView). z.view.log) heard ∙ sym first.own)))

  got_then : MapGaveUnderPin a p k (Some v)
      → WasMappedUnderPin q.view.layout a.view.past q.view.past p.view.stores q.view.number k (Some v)
  got_then got =
      subst (λ (w : ℕ). WasMappedUnderPin q.view.layout a.view.past q.view.past p.view.stores w k (Some v))
      (ap (λ (z : PassView). z.view.number) (sym heard))
      (subst (λ (L : Layout). WasMappedUnderPin L a.view.past q.view.past p.view.stores p.view.number k (Some v))
      (ap (λ (z : PassView). z.view.layout) (sym heard))
      (subst (λ (ts : List Turn). WasMappedUnderPin p.view.layout a.view.past ts p.view.stores p.view.number k
      (Some v)) (sym on.goes_on.is)
      (got_longer p.view.layout a.view.past p.view.past on.goes_on.more p.view.stores p.view.number k v quiet got)))

  pub has_not_come_back : MapGaveUnderPin a p k (Some v) → HasNotComeBack q.view k v o back
  has_not_come_back got = record {
    was = a.view.past;
    stores = p.view.stores;
    got = now;
    kept = kept;
    out = got_values_stay_out q.view.layout q.view.past seen.headline a.view.past p.view.stores q.view.number k v now;
    others = λ u there. (
      returned u there,
      λ same. kept
          (subst (λ (n : NodeId). Contains (freed_by q.view.past) n) same (freed_then (returned u there))),
    );
  }
    where
      now : WasMappedUnderPin q.view.layout a.view.past q.view.past p.view.stores q.view.number k (Some v)
      now = got_then got

      kept : Contains (freed_by q.view.past) (got_leaf now) → ⊥
      kept = got_leaves_are_not_freed q.view.layout q.view.past seen.headline a.view.past p.view.stores q.view.number k
          v now

      freed_then : {u : ℕ} (c : HasComeBack o u) → Contains (freed_by q.view.past) c.node
      freed_then c = subst (λ (ts : List Turn). Contains (freed_by ts) c.node) (sym told.is)
          (freed_longer o.past told.more c.node c.freed.freed)

-- if a value was found
pub if_found : (a p q : PassView) (o : View) (k : ℕ) (back : List ℕ) → HasSeenTurns p.view → HasSeenTurns q.view
    → HasHeard p q → HasSeenAllOf q p → Extends q.view.past o.past → ((u : ℕ) → Contains back u → HasComeBack o u)
    → (r : Result (Option ℕ) CallFault) (found : Option ℕ) → IfSome found (λ v. r ≡ Ok (Some v))
    → IfOk r (MapGaveUnderPin a p k) → IfSome found (λ v. HasNotComeBack q.view k v o back)
if_found a p q o k back first seen heard on told returned r None is moment = tt
if_found a p q o k back first seen heard on told returned r (Some v) is moment =
    has_not_come_back a p q o k v back first seen heard on told returned
    (subst (λ (x : Result (Option ℕ) CallFault). IfOk x (MapGaveUnderPin a p k)) is moment)

-- the same of each query that has found its key
pub each_found : (a p q : PassView) (o : View) (back : List ℕ) → HasSeenTurns p.view → HasSeenTurns q.view
    → HasHeard p q → HasSeenAllOf q p → Extends q.view.past o.past → ((u : ℕ) → Contains back u → HasComeBack o u)
    → (xs : List Query) → All (λ x. MapGaveUnderPin a p x.key (answer_of x)) xs
    → All (λ x. x.found ≡ true → HasNotComeBack q.view x.key x.value o back) xs
each_found a p q o back first seen heard on told returned xs moments i d below found =
    let x : Query = slice_index_or xs i d in
    has_not_come_back a p q o x.key x.value back first seen heard on told returned
    (subst (λ (b : Bool). MapGaveUnderPin a p x.key (cond b (Some x.value) None)) found (moments i d below))
