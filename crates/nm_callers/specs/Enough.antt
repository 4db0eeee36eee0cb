-- Slots that suffice for a call, slots that were in use, and an answer.
use Rattle.std.specs.Prelude.{◌≡◌, ◌≢◌, ◌⊎◌, ◌≤◌, ◌++◌, ℕ, true, List, length, Result, Ok, Err}
use Rattle.nm_model.specs.declared.trace.Turn.{Turn}
use Rattle.nm_model.specs.Headline.{Place, StandsAt, words_after}
use Rattle.nm_model.specs.Headline.Place.{InPool}
use Rattle.nm_model.specs.Memory.{in_pool, node}
use Rattle.nm_model.specs.Step.{last_number}
use Rattle.nm_steps.specs.Steps.{PassView}
use Rattle.nm_calls.specs.declared.fault.CallFault.{CallFault}

-- the result is an answer
abbrev pub IsAnswer : {A : Type 0} → Result A CallFault → Type 0
IsAnswer (Ok answer) = Unit {0}
IsAnswer (Err f) = ⊥

-- this slot above 5 is in the pool at each moment between p and q, and births are left in it. So a call
-- finds more slots than it takes: one that inserts takes at most two
pub record StaysFree (p q : PassView) : Type 0 where
  pub slot : ℕ
  pub low : 6 ≤ slot
  pub within : slot ≤ q.view.layout.nodes
  pub pooled : (so_far rest : List Turn) → q.view.past ≡ so_far ++ rest
      → length p.view.past ≤ length so_far → in_pool (words_after q.view.layout so_far) slot ≡ true
  pub births : (so_far rest : List Turn) → q.view.past ≡ so_far ++ rest
      → length p.view.past ≤ length so_far
      → (node (words_after q.view.layout so_far) slot).birth ≢ last_number

-- At a moment between p and q this slot was not free. It was in a worker's hands, or a path from the root
-- reached it, or it waited in a worker's queue. Or the last birth in it was used
pub record WasInUse (p q : PassView) (slot : ℕ) : Type 0 where
  pub so_far : List Turn
  pub rest : List Turn
  pub are : q.view.past ≡ so_far ++ rest
  pub later : length p.view.past ≤ length so_far
  pub used : ((place : Place) × (place ≢ InPool) × StandsAt q.view.layout so_far slot place)
      ⊎ ((node (words_after q.view.layout so_far) slot).birth ≡ last_number)
