-- Workers that are on their seats.
use Rattle.std.proofs.Common.{◌≡◌, ◌+◌, ℕ, suc, List, [], ◌∷◌, ◌++◌, length, ap, subst, arith}
use Rattle.std.specs.Prelude.{Option, Some, None}
use Rattle.nm_edge.specs.declared.placement.Fit.{Fit}
use Rattle.nm_lending.specs.Visits.{AreResident}
use Rattle.nm_steps.specs.Steps.{TreeView}
use Rattle.nm_steps.specs.declared.view.View.{View}
use Rattle.nm_tree.specs.Workers.{WorkerView, AreNew}
use Rattle.nm_set.specs.declared.home.Site.{Site}
use Rattle.nm_set.specs.Seats.{AreOnSeats, AreOwn, IsResident, sits}

-- a new worker may sit on its seat
pub new_resident : (b : TreeView) (f : Fit) (i : ℕ) (w : WorkerView) (ws : List WorkerView) → AreNew b i (w ∷ ws)
    → w.fit ≡ f → IsResident b f i w
new_resident b f i w ws new fit = record {
  own = record { table = new.0; layout = ap (λ (v : View). v.layout) new.1 };
  alive = ap (λ (v : View). v.resigned) new.1;
  number = ap (λ (v : View). v.number) new.1;
  fit = fit;
  free = new.3;
}

-- one more at the end
pub seated_and : (b : Site) (i : ℕ) (ws : List (Option WorkerView)) (n : ℕ) (w : WorkerView) → n ≡ i + length ws
    → AreOnSeats b i ws → sits b n 0 w
    → AreOnSeats b i (ws ++ Some w ∷ [])
seated_and b i [] n w e are here = let at : n ≡ i = omega (arith, e) in (subst (λ (k : ℕ). sits b k 0 w) at here, tt)
seated_and b i (None ∷ ws) n w e are here = absurd are
seated_and b i (Some x ∷ ws) n w e are here = (are.0, seated_and b (suc i) ws n w (omega (arith, e)) are.1 here)

-- those that were on their seats are the tree's
pub own_residents : (b : Site) (ws : List WorkerView) → AreResident sits b ws → AreOwn b.tree ws
own_residents b [] are = tt
own_residents b (w ∷ ws) are = (
  record { own = are.0.2.resident.own; alive = are.0.2.resident.alive },
  own_residents
      b ws are.1,
)

pub own_both : (b : TreeView) (vs ws : List WorkerView) → AreOwn b vs → AreOwn b ws → AreOwn b (vs ++ ws)
own_both b [] ws are own = own
own_both b (v ∷ vs) ws are own = (are.0, own_both b vs ws are.1 own)
