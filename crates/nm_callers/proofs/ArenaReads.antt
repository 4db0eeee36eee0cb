-- What a reader of an object has read.
use Rattle.std.proofs.Common.{◌≡◌, ℕ, List, refl, sym, subst}
use Rattle.std.specs.Prelude.{Option, Some, None, Result, Ok, Err, IfSome, slice_get}
use Rattle.nm_edge.specs.Layouts.{Layout}
use Rattle.nm_steps.specs.Steps.{HasSeenAllOf}
use Rattle.nm_steps.proofs.Seeing.{seen_itself}
use Rattle.nm_tree.specs.Workers.{WorkerView}
use Rattle.nm_set.specs.Asked.{AskedToUnpin}
use Rattle.nm_set.specs.Maps.{SaysPinnedGet}
use Rattle.nm_set.specs.declared.fault.NotPinned.{NotPinned}
use Rattle.nm_set.specs.declared.fault.PinnedGetFault.{PinnedGetFault}
use Rattle.nm_callers.specs.Arenas.{ReadsObject, object_at}

-- an unpin forgets nothing
pub unpin_sees : (z y : WorkerView) (r : Result (Unit {0}) NotPinned) → AskedToUnpin z y r → HasSeenAllOf y.pass z.pass
unpin_sees z y (Ok u) asked = asked.1.past
unpin_sees z y (Err f) asked = subst (λ (x : WorkerView). HasSeenAllOf x.pass z.pass) (sym asked.1) (seen_itself z.pass)

pub reads : (L : Layout) (k : ℕ) (w z y : WorkerView) (objects : List ℕ) (found : Result (Option ℕ) PinnedGetFault)
    (o : Option ℕ) → o ≡ object_at objects found → SaysPinnedGet L k w z found → HasSeenAllOf y.pass z.pass
    → IfSome o (ReadsObject y objects k)
reads L k w z y objects (Ok (Some i)) o is says later = by (slice_get objects i) refl is
  where
    by : (x : Option ℕ) → slice_get objects i ≡ x → o ≡ x → IfSome o (ReadsObject y objects k)
    by None at same = subst (λ (p : Option ℕ). IfSome p (ReadsObject y objects k)) (sym same) tt
    by (Some x) at same =
        subst (λ (p : Option ℕ). IfSome p (ReadsObject y objects k)) (sym same)
        (record { asked = w.pass; at = z.pass; later = later; number = i; gave = says.moment; is = at })
reads L k w z y objects (Ok None) o is says later = subst (λ (p : Option ℕ). IfSome p (ReadsObject y objects k))
    (sym is) tt
reads L k w z y objects (Err f) o is says later = subst (λ (p : Option ℕ). IfSome p (ReadsObject y objects k))
    (sym is) tt
