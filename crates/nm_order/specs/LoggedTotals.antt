-- Totals by the logs of all workers: how often calls for a key won a link or a flag.
use Rattle.std.specs.Prelude.{◌≡◌, ℕ, zero, suc, ◌+◌, Bool, ◌&&◌, List, [], ◌∷◌, if◌then◌else◌}
use Rattle.nm_edge.specs.Layouts.{Layout}
use Rattle.nm_model.specs.declared.event.Event.{Event}
use Rattle.nm_model.specs.Searches.{Search, idle, searched}
use Rattle.nm_model.specs.Walks.{Entry}
use Rattle.nm_model.specs.Ordered.{ordered, trace_in}
use Rattle.nm_order.specs.Exchanges.{is_won_link}
use Rattle.nm_order.specs.Logs.{part_of}
use Rattle.nm_order.specs.Totals.{is_for, links_of, flags_of}
use Rattle.nm_order.specs.WalksToArrivals.{is_won_flag}

-- the number of such entries of a log in calls for k, if the search before it was s
unfoldable pub log_often : (Entry → Bool) → ℕ → Search → List Entry → ℕ
log_often is_such k s [] = 0
log_often is_such k s (e ∷ es) =
    (if is_such e && is_for k s.call then 1 else 0) + log_often is_such k (searched s e.0 e.1) es

-- the sum over workers 0 to n - 1
abbrev pub sum_of : (ℕ → ℕ) → ℕ → ℕ
sum_of f zero = 0
sum_of f (suc n) = sum_of f n + f n

-- the numbers of links and of flags of a run are the sums over its workers' parts
abbrev pub TotalsAreInTheLogs : Layout → List (ℕ × Event) → Type 0
TotalsAreInTheLogs L turns = (k : ℕ)
    → (links_of k L turns ≡ sum_of
    (λ w. log_often is_won_link k idle (part_of w (trace_in (ordered L) turns))) L.workers)
    × (flags_of k L turns ≡ sum_of
    (λ w. log_often is_won_flag k idle (part_of w (trace_in (ordered L) turns))) L.workers)
