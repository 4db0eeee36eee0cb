-- Searches as the code keeps them, with the capacity of their lists. What a search knows is in
-- Searches, and what an ordered core is in Ordered.
use Rattle.std.specs.Prelude.{ℕ, ◌<◌, List, map, length, slice_index_or, Some}
use Rattle.nm_model.specs.declared.event.Event.{Event}
use Rattle.nm_model.specs.declared.event.Event.TheVariants.{Look}
use Rattle.nm_model.specs.Searches.{Search, idle}
use Rattle.nm_model.specs.Runs.{State}
use Rattle.nm_model.specs.Ordered.{Configuration}

-- a search, and the capacities of its two lists of arrivals
pub record Roomy : Type 0 where
  pub tells : Search
  pub room : ℕ
  pub later_room : ℕ

abbrev pub searches_of : List Roomy → List Search
searches_of ss = map (λ s. s.tells) ss

abbrev pub roomy_of : List Roomy → ℕ → Roomy
roomy_of ss w = slice_index_or ss w (record { tells = idle; room = 0; later_room = 0 })

-- one more arrival fits into each list
pub record HasRoom (s : Roomy) : Type 0 where
  pub walks : length s.tells.walks < s.room
  pub later : length s.tells.later < s.later_room

-- only a look needs room
abbrev pub HasRoomFor : Event → Roomy → Type 0
HasRoomFor (Look slot field) s = HasRoom s
HasRoomFor e s = Unit {0}

-- an ordered core with these searches
abbrev pub in_order : State → List Roomy → Configuration
in_order s ss = record { state = s; searches = Some (searches_of ss) }
