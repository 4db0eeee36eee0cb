-- Totals: the calls for a key won as many links as flags, or one link more.
use Rattle.std.specs.Prelude.{◌≡◌, ◌≢◌, ◌⊎◌, ℕ, ◌+◌, ◌==◌, Bool, true, false, ◌&&◌, List, [], ◌∷◌, if◌then◌else◌, Option, Some, None, unwrap_or, Result, Ok, Err}
use Rattle.nm_edge.specs.Keys.{IsKey}
use Rattle.nm_edge.specs.Layouts.{Layout}
use Rattle.nm_edge.specs.declared.edge.Side.{Side}
use Rattle.nm_model.specs.declared.event.Event.{Event}
use Rattle.nm_model.specs.declared.reply.Reply.{Reply}
use Rattle.nm_model.specs.declared.reply.Refused.{Refused}
use Rattle.nm_model.specs.declared.arrivals.Call.{Call}
use Rattle.nm_model.specs.Memory.{Memory, node, edge, child, is_leaf}
use Rattle.nm_model.specs.Paths.{Reached}
use Rattle.nm_model.specs.Walks.{Entry}
use Rattle.nm_model.specs.Ordered.{Configuration, ordered, search_of, next_in, outcome_in, after_in}
use Rattle.nm_model.specs.Acts.{InSet}
use Rattle.nm_order.specs.Intervals.{key}
use Rattle.nm_order.specs.Exchanges.{HasFlagged, is_won_link}
use Rattle.nm_order.specs.WalksToArrivals.{is_won_flag}

-- the call of a worker, in a configuration
abbrev pub call_of : Configuration → ℕ → Option Call
call_of c w = (search_of (unwrap_or c.searches []) w).call

-- a call for k
abbrev pub is_for : ℕ → Option Call → Bool
is_for k None = false
is_for k (Some c) = c.key == k

-- an event with its outcome is such an entry
abbrev pub is_so : (Entry → Bool) → Event → Result Reply Refused → Bool
is_so is_such e (Ok r) = is_such (e, r)
is_so is_such e (Err x) = false

-- 1 if a turn is such an entry of a call for k
abbrev pub once : (Entry → Bool) → ℕ → Configuration → ℕ × Event → ℕ
once is_such k c t = if is_so is_such t.1 (outcome_in c t) && is_for k (call_of c t.0) then 1 else 0

-- the number of turns that are such entries of calls for k
unfoldable pub how_often : (Entry → Bool) → ℕ → Configuration → List (ℕ × Event) → ℕ
how_often is_such k c [] = 0
how_often is_such k c (t ∷ ts) = once is_such k c t + how_often is_such k (next_in c t) ts

-- `links_of`, `flags_of`: the number of links, and of flags, that calls for k won
abbrev pub links_of : ℕ → Layout → List (ℕ × Event) → ℕ
links_of k L turns = how_often is_won_link k (ordered L) turns

abbrev pub flags_of : ℕ → Layout → List (ℕ × Event) → ℕ
flags_of k L turns = how_often is_won_flag k (ordered L) turns

-- a reached leaf with key k, on an edge that is not flagged
pub record StandsUnflagged (m : Memory) (k : ℕ) : Type 0 where
  pub parent : ℕ
  pub side : Side
  pub reached : Reached m parent
  pub is_slot : child m parent side ≢ 0
  pub unflagged : (edge m parent side).flag ≡ false
  pub leaf : is_leaf (node m (child m parent side)) ≡ true
  pub has_key : key m (child m parent side) ≡ k

-- there is one link more than flags if the key is there, and there are as many of both if it is not
abbrev pub Agree : ℕ → ℕ → Type 0 → Type 0
Agree links flags Stands = ((links ≡ flags + 1) × Stands) ⊎ ((links ≡ flags) × (Stands → ⊥))

-- for each key of the set there is one link more than flags if an unflagged edge leads to its leaf,
-- and else there are as many of both
abbrev pub TotalsAgree : Layout → List (ℕ × Event) → Type 0
TotalsAgree L turns = (k : ℕ) → IsKey k
    → Agree (links_of k L turns) (flags_of k L turns)
    (StandsUnflagged (after_in (ordered L) turns).state.memory k)

-- no delete is pending: no call under its current pin has flagged a leaf
abbrev pub NothingIsPending : Layout → List (ℕ × Event) → Type 0
NothingIsPending L turns = (w k : ℕ) → HasFlagged L turns w k → ⊥

-- if no delete is pending, there is one link more than flags for each key that is in the set, and
-- for other keys there are as many of both
abbrev pub TotalsAreTheSet : Layout → List (ℕ × Event) → Type 0
TotalsAreTheSet L turns = NothingIsPending L turns → (k : ℕ) → IsKey k
    → Agree (links_of k L turns) (flags_of k L turns)
    (InSet (after_in (ordered L) turns).state.memory k)
