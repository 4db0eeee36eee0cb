-- The note that the close of a member leaves: it is of that member's tree, and goes on from all that
-- the member had seen.
use Rattle.std.proofs.Common.{◌≡◌, ◌∙◌, inl, inr, sym, ap, subst, List, true≢false}
use Rattle.std.specs.Prelude.{Some, None, IsSome}
use Rattle.nm_model.specs.declared.trace.Turn.{Turn}
use Rattle.nm_steps.specs.Rules.{Extends}
use Rattle.nm_steps.specs.Steps.{Notice, PassView, HasSeenAllOf}
use Rattle.nm_steps.proofs.Growing.{goes_on_through}
use Rattle.nm_steps.proofs.Seeing.{seen_itself}
use Rattle.nm_tree.specs.Workers.{WorkerView}
use Rattle.nm_set.specs.Posts.{IsReturned, ReturnedView}
use Rattle.nm_set.specs.Seats.{IsLetGo}

-- an unpin goes on from what was seen
let_go_seen : (w z : WorkerView) → IsLetGo w z → HasSeenAllOf z.pass w.pass
let_go_seen w z (inl (free, is)) = subst (λ (v : WorkerView). HasSeenAllOf v.pass w.pass) (sym is) (seen_itself w.pass)
let_go_seen w z (inr (held, left)) = left.past

let_go_table : (w z : WorkerView) → IsLetGo w z → z.pass.table ≡ w.pass.table
let_go_table w z (inl (free, is)) = ap (λ (v : WorkerView). v.pass.table) is
let_go_table w z (inr (held, left)) = ap (λ (p : PassView). p.table) left.step

pub closed_seen : (w : WorkerView) (r : ReturnedView) → (z : WorkerView) × IsLetGo w z × IsReturned z r
    → (later : List Turn) → Extends later r.note.past → Extends later w.pass.view.past
closed_seen w r (z, gone, there) later heard = goes_on_through later z.pass.view.past w.pass.view.past
    (subst (Extends later) (ap (λ (n : Notice). n.past) there.note) heard) (let_go_seen w z gone).goes_on

pub closed_table : (w : WorkerView) (r : ReturnedView) → (z : WorkerView) × IsLetGo w z × IsReturned z r
    → r.note.table ≡ w.pass.table
closed_table w r (z, gone, there) = ap (λ (n : Notice). n.table) there.note ∙ let_go_table w z gone

-- the worker that is taken again is the one that was returned
same_worker : (x y : WorkerView) → Some x ≡ Some y → x ≡ y
same_worker x y e = cc

pub came_back : (w y : WorkerView) (r : ReturnedView) → (z : WorkerView) × IsLetGo w z × IsReturned z r
    → r.worker ≡ Some y → HasSeenAllOf y.pass w.pass
came_back w y r (z, gone, there) is = subst (λ (v : WorkerView). HasSeenAllOf v.pass w.pass)
    (same_worker z y (sym there.worker ∙ is)) (let_go_seen w z gone)

-- and is unchanged, if its caller did not hold it
pub came_back_same : (w y : WorkerView) (r : ReturnedView) → w.held ≡ None
    → (z : WorkerView) × IsLetGo w z × IsReturned z r → r.worker ≡ Some y → y ≡ w
came_back_same w y r free (z, inl (_, same), there) is = sym (same_worker z y (sym there.worker ∙ is)) ∙ same
came_back_same w y r free (z, inr (held, left), there) is = absurd (true≢false (sym (subst IsSome free held)))
