-- The arrivals of each call are its walks, and its later arrivals those of its walks behind the
-- flag.
use Rattle.std.proofs.Common.{◌≡◌, ℕ, ◌<◌, ◌≤◌, List, [], sym, subst}
use Rattle.std.specs.Prelude.{Some, All}
use Rattle.nm_edge.specs.Layouts.{Layout}
use Rattle.nm_model.specs.declared.event.Event.{Event}
use Rattle.nm_model.specs.declared.arrivals.Call.{Call}
use Rattle.nm_model.specs.Searches.{Search}
use Rattle.nm_model.specs.Ordered.{ordered, after_in}
use Rattle.nm_model.specs.Walks.{Entry, IsOfWalk, since_pin}
use Rattle.nm_laws.proofs.WalksOfLogs.{arrivals_are_walks}
use Rattle.nm_order.specs.Intervals.{key, HasKey}
use Rattle.nm_order.specs.WalksToArrivals.{since_flag, ComingsAreArrivals, ReadingsAreArrivals, EndsAreArrivals, OfEachCall}
use Rattle.nm_order.proofs.WalksAfter.{HasWalks, readings_within, walks_are_there, comings, readings, ends}
use Rattle.nm_order.proofs.SearchesOfLogs.{Stays, stays_before, stays_since_pin, stays_since_flag, part_since_flag, knows_log, sound}
use Rattle.nm_order.proofs.WalksOfRuns.{log_after, known_after, has_all, keys_stand, of_each_call}

module _ (L : Layout) (enough : 5 ≤ L.nodes) (turns : List (ℕ × Event)) (keys : All (λ t. HasKey t.1) turns) (w : ℕ)
    (inside : w < L.workers) (call : Call) (is : (known_after L enough w inside turns).call ≡ Some call) where
  abbrev known : Search
  known = known_after L enough w inside turns

  abbrev log : List Entry
  log = since_pin [] (log_after L enough w inside turns)

  of_walks : All (IsOfWalk call.key log) known.walks
  of_walks = arrivals_are_walks (log_after L enough w inside turns) call is

  has_walks : HasWalks call.key log known.walks
  has_walks = has_all L enough w inside turns (keys_stand L enough w inside turns keys) call is

  stays : Stays (since_flag log)
  stays = stays_since_flag log (stays_since_pin (log_after L enough w inside turns) [] tt)

  of_later : All (IsOfWalk call.key (since_flag log)) known.later
  of_later = subst (All (IsOfWalk call.key (since_flag log)))
      (sym (knows_log (log_after L enough w inside turns) call is).later) (sound call.key (since_flag log) stays)

  has_later : HasWalks call.key (since_flag log) known.later
  has_later = subst (HasWalks call.key (since_flag log))
      (sym (knows_log (log_after L enough w inside turns) call is).later)
      (walks_are_there call.key (key (after_in (ordered L) turns).state.memory) (since_flag log)
      (λ part more e. sound call.key part (stays_before part more (subst Stays (sym e) stays)))
      (readings_within (key (after_in (ordered L) turns).state.memory) call.key (since_flag log) log
      (part_since_flag log) (keys_stand L enough w inside turns keys call is)))

pub each_coming : OfEachCall (λ k log s. ComingsAreArrivals k log s.walks)
each_coming = of_each_call (λ k log s. ComingsAreArrivals k log s.walks)
    (λ L enough turns keys w inside call is. comings _ _ _ (of_walks L enough turns keys w inside call is)
    (has_walks L enough turns keys w inside call is))

pub each_reading : OfEachCall (λ k log s. ReadingsAreArrivals k log s.walks)
each_reading = of_each_call (λ k log s. ReadingsAreArrivals k log s.walks)
    (λ L enough turns keys w inside call is. readings _ _ _ (of_walks L enough turns keys w inside call is)
    (has_walks L enough turns keys w inside call is))

pub each_end : OfEachCall (λ k log s. EndsAreArrivals k log s.walks)
each_end = of_each_call (λ k log s. EndsAreArrivals k log s.walks)
    (λ L enough turns keys w inside call is. ends _ _ _ (of_walks L enough turns keys w inside call is)
    (has_walks L enough turns keys w inside call is))

pub each_later_is_a_walk : OfEachCall (λ k log s. All (IsOfWalk k (since_flag log)) s.later)
each_later_is_a_walk = of_each_call (λ k log s. All (IsOfWalk k (since_flag log)) s.later)
    (λ L enough turns keys w inside call is. of_later L enough turns keys w inside call is)

pub each_later_coming : OfEachCall (λ k log s. ComingsAreArrivals k (since_flag log) s.later)
each_later_coming = of_each_call (λ k log s. ComingsAreArrivals k (since_flag log) s.later)
    (λ L enough turns keys w inside call is. comings _ _ _ (of_later L enough turns keys w inside call is)
    (has_later L enough turns keys w inside call is))

pub each_later_reading : OfEachCall (λ k log s. ReadingsAreArrivals k (since_flag log) s.later)
each_later_reading = of_each_call (λ k log s. ReadingsAreArrivals k (since_flag log) s.later)
    (λ L enough turns keys w inside call is. readings _ _ _ (of_later L enough turns keys w inside call is)
    (has_later L enough turns keys w inside call is))

pub each_later_end : OfEachCall (λ k log s. EndsAreArrivals k (since_flag log) s.later)
each_later_end = of_each_call (λ k log s. EndsAreArrivals k (since_flag log) s.later)
    (λ L enough turns keys w inside call is. ends _ _ _ (of_later L enough turns keys w inside call is)
    (has_later L enough turns keys w inside call is))
