-- A worker that is not pinned has no call, and no cut that waits for a label.
use Rattle.std.specs.Prelude.{◌≡◌, ℕ, ◌≤◌, false, List, None}
use Rattle.nm_edge.specs.Layouts.{Layout}
use Rattle.nm_model.specs.Knowledge.{Knowledge}
use Rattle.nm_model.specs.Searches.{Search, idle}
use Rattle.nm_model.specs.Walks.{Entry, search_after}
use Rattle.nm_order.specs.Logs.{known_by, IsLogOf}

-- no cut of the worker waits for a label, and it has no call
pub record HasNoCall (k : Knowledge) (s : Search) : Type 0 where
  pub labelled : k.brief.unlabelled ≡ false
  pub idle : s ≡ idle

-- for each worker that is not pinned, by its part of any ordered run
abbrev pub UnpinnedWorkersHaveNoCall : Type 0
UnpinnedWorkersHaveNoCall = (L : Layout) → 5 ≤ L.nodes → (w : ℕ) (log : List Entry)
    → IsLogOf L w log → (known_by L w log).brief.pin ≡ None
    → HasNoCall (known_by L w log) (search_after idle log)
