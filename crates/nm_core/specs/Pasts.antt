-- The past of a core: the events that led to it from its opening, and what an ordered core has by
-- them.
use Rattle.std.specs.Prelude.{◌≡◌, ℕ, List, ◌++◌, take, IsSome, All}
use Rattle.nm_model.specs.declared.event.Event.{Event}
use Rattle.nm_model.specs.Ordered.{Configuration, HasKey, IsReached, ordered, opening_of, after_in, trace_in}
use Rattle.nm_order.specs.History.{RunHasHistory}
use Rattle.nm_model.specs.Headline.{Headline}
use Rattle.nm_order.specs.Intervals.{KeysLieInIntervals, LeavesHaveTheirOwnKeys, WalksStayInOrder, WalksReadKeys}
use Rattle.nm_order.specs.Ranges.{RangesNest, PathsAreShort}

-- these events, with calls for keys of the set, led from the opening of an ordered core to this
-- core
pub record IsPast (c : Configuration) (past : List (ℕ × Event)) : Type 0 where
  pub keys : All (λ t. HasKey t.1) past
  pub leads : after_in (ordered c.state.layout) past ≡ c

-- some events led to an ordered core in this way
abbrev pub HasPast : Configuration → Type 0
HasPast c = IsSome c.searches → (past : List (ℕ × Event)) × IsPast c past

-- for all events that led to a core from its opening: these events, followed by any first part of
-- these turns, have a history
abbrev pub HasHistoriesBehind : Configuration → List (ℕ × Event) → Type 0
HasHistoriesBehind c turns = (past : List (ℕ × Event)) → IsPast c past → (i : ℕ)
    → RunHasHistory c.state.layout (past ++ take i turns)

-- the tree of an ordered core is in order, and stale paths do no harm (Natarajan and Mittal,
-- section 3.1); in a radix tree each range is within those above it, so that no path is long
pub record IsInOrder (c : Configuration) : Type 0 where
  pub keys : KeysLieInIntervals c
  pub leaves : LeavesHaveTheirOwnKeys c
  pub stale : WalksStayInOrder c
  pub reads : WalksReadKeys c
  pub ranges : RangesNest c
  pub paths : PathsAreShort c

-- an ordered core is in order before a run, and after each turn of the run (Natarajan and Mittal,
-- section 3.1)
abbrev pub StaysInOrder : Configuration → List (ℕ × Event) → Type 0
StaysInOrder c turns = IsSome c.searches → (i : ℕ) → IsInOrder (after_in c (take i turns))

-- for all events that led to a core, plain or ordered, from its opening: their turns, followed by
-- those of this run, have the headline
abbrev pub HasHeadlineBehind : Configuration → List (ℕ × Event) → Type 0
HasHeadlineBehind c turns = (past : IsReached c)
    → Headline c.state.layout (trace_in (opening_of c.state.layout past.is_ordered) past.events
    ++ trace_in c turns)
