-- The states of a set: open, or closing after a refused close.
use Rattle.std.specs.Prelude.{◌≡◌, ℕ, ◌+◌, true, false, List, []}
use Rattle.std.specs.Arc.{arc_value}
use Rattle.nm_tree.specs.Workers.{WorkerView}
use Rattle.nm_set.specs.declared.home.Site.{Site}
use Rattle.nm_set.specs.declared.set.State.{State}
use Rattle.nm_set.specs.declared.set.State.TheVariants.{Open, Closing}
use Rattle.nm_set.specs.Seats.{HasRoom, SetView, site_in}
use Rattle.nm_edge.specs.Layouts.{Layout}
use Rattle.nm_edge.specs.declared.placement.Fit.{Fit}

-- the tree of the set, and its fit
abbrev pub site_of : State → Site
site_of (Open home) = site_in (arc_value home)
site_of (Closing site) = site

-- `open_set`, `closing_set`: an open set, and a closing one, that keep these workers
abbrev pub open_set : Site → List WorkerView → SetView
open_set site kept = record { tree = site.tree; fit = site.fit; closing = false; kept = kept }

abbrev pub closing_set : Site → List WorkerView → SetView
closing_set site kept = record { tree = site.tree; fit = site.fit; closing = true; kept = kept }

-- the set in that state, with these workers kept
abbrev pub standing_of : State → List WorkerView → SetView
standing_of (Open home) kept = open_set (site_in (arc_value home)) kept
standing_of (Closing site) kept = closing_set site kept

-- the room for one worker that is kept, and for all that are gathered after it
abbrev pub room_for_one : State → ℕ
room_for_one (Open home) = 1 + (arc_value home).tree.layout.workers
room_for_one (Closing site) = 1

-- the workers of an open set can be gathered after those that it keeps, without a growth
abbrev pub MayGather : State → List WorkerView → ℕ → Type 0
MayGather (Open home) kept room = HasRoom (arc_value home).tree kept room
MayGather (Closing site) kept room = Unit {0}

-- an open set of a tree of that layout, which keeps no workers, and whose workers claim by that fit
pub record IsNewSet (L : Layout) (f : Fit) (s : SetView) : Type 0 where
  pub closing : s.closing ≡ false
  pub kept : s.kept ≡ []
  pub layout : s.tree.layout ≡ L
  pub fit : s.fit ≡ f
