-- The turns that advance the epoch, and what a missed pin shows of them.
use Rattle.std.specs.Prelude.{◌≡◌, ℕ, ◌+◌, ◌<◌, ◌≤◌, ◌==◌, Bool, true, false, not, ◌&&◌, List, [], ◌∷◌, ◌++◌, if◌then◌else◌, Some, Result, Ok}
use Rattle.nm_edge.specs.Layouts.{Layout}
use Rattle.nm_model.specs.declared.event.Event.{Event}
use Rattle.nm_model.specs.declared.event.Event.TheVariants.{Sight, SightFor, Announce, Advance}
use Rattle.nm_model.specs.declared.reply.Reply.{Reply}
use Rattle.nm_model.specs.declared.reply.Reply.TheVariants.{Announced, Missed, Moved}
use Rattle.nm_model.specs.declared.reply.Refused.{Refused}
use Rattle.nm_model.specs.declared.trace.Turn.{Turn}
use Rattle.nm_model.specs.Walks.{Entry}
use Rattle.nm_model.specs.Ordered.{Configuration, after_in, trace_in}
use Rattle.nm_order.specs.Logs.{known_by, IsLogOf}

-- the number of such turns among these
abbrev pub number_of : (Turn → Bool) → List Turn → ℕ
number_of is_such [] = 0
number_of is_such (t ∷ ts) = (if is_such t then 1 else 0) + number_of is_such ts

-- `moves_on`, `moves`: an event with its outcome, and a turn, that advances the epoch (Fraser,
-- section 5.2.3)
abbrev pub moves_on : Event → Result Reply Refused → Bool
moves_on Advance (Ok (Moved e)) = true
moves_on _ _ = false

abbrev pub moves : Turn → Bool
moves t = moves_on t.event t.outcome

-- such a turn of another worker
abbrev pub moves_of_others : ℕ → Turn → Bool
moves_of_others w t = not (t.worker == w) && moves t

-- from any configuration on the epoch grows by one with each turn that advances it, and by no other
-- turn
abbrev pub EpochsAreTheMoves : Type 0
EpochsAreTheMoves = (c : Configuration) (turns : List (ℕ × Event))
    → (after_in c turns).state.memory.epoch
    ≡ c.state.memory.epoch + number_of moves (trace_in c turns)

-- at the end of a log with an announcement and at once a sight that missed: the announced epoch was
-- the one that the worker had read last before it, and the epoch is a later one by then
pub record HasMissed (L : Layout) (w : ℕ) (log : List Entry) (announced epoch : ℕ) : Type 0 where
  pub read_last : (known_by L w log).brief.seen ≡ Some announced
  pub later : announced < epoch

-- a sight, with or without a call
abbrev pub is_sight : Event → Bool
is_sight Sight = true
is_sight (SightFor op key) = true
is_sight _ = false

-- this holds of each such log in which an epoch had been read
abbrev pub MissedPinsAreMoves : Type 0
MissedPinsAreMoves = (L : Layout) → 5 ≤ L.nodes → (w : ℕ) (log : List Entry) (sight : Event)
    (announced epoch last : ℕ) → is_sight sight ≡ true
    → IsLogOf L w ((log ++ (Announce, Announced announced) ∷ []) ++ (sight, Missed epoch) ∷ [])
    → (known_by L w log).brief.seen ≡ Some last
    → HasMissed L w log announced epoch
