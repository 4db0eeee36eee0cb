-- The epochs that a worker reads.
use Rattle.std.specs.Prelude.{◌≡◌, ℕ, ◌≤◌, List, Option, Some, None, Contains}
use Rattle.nm_edge.specs.Layouts.{Layout}
use Rattle.nm_model.specs.declared.event.Event.{Event}
use Rattle.nm_model.specs.declared.event.Event.TheVariants.{Sight, SightFor, Advance}
use Rattle.nm_model.specs.declared.reply.Reply.{Reply}
use Rattle.nm_model.specs.declared.reply.Reply.TheVariants.{Saw, Labelled, Pinned, Missed, Moved, Behind}
use Rattle.nm_model.specs.Walks.{Entry}
use Rattle.nm_order.specs.Logs.{known_by, IsLogOf}

-- `sight_epoch`, `left_by_advance`: the epoch that a sight returns, and the epoch after an advance,
-- which moved it or found another one
abbrev pub sight_epoch : Reply → Option ℕ
sight_epoch (Saw e) = Some e
sight_epoch (Labelled e) = Some e
sight_epoch (Pinned e) = Some e
sight_epoch (Missed e) = Some e
sight_epoch _ = None

abbrev pub left_by_advance : Reply → Option ℕ
left_by_advance (Moved e) = Some e
left_by_advance (Behind e) = Some e
left_by_advance _ = None

-- the epoch that an event with its reply shows: for a sight the one that it found, for an advance
-- the one after it
abbrev pub epoch_read : Event → Reply → Option ℕ
epoch_read Sight r = sight_epoch r
epoch_read (SightFor op key) r = sight_epoch r
epoch_read Advance r = left_by_advance r
epoch_read _ r = None

-- an entry of the log shows that epoch
pub record HasRead (log : List Entry) (epoch : ℕ) : Type 0 where
  pub entry : Entry
  pub among : Contains log entry
  pub tells : epoch_read entry.0 entry.1 ≡ Some epoch

-- the worker has read an epoch last, and this one is no greater
pub record ReadLast (log : List Entry) (seen : Option ℕ) (epoch : ℕ) : Type 0 where
  pub last : ℕ
  pub is_seen : seen ≡ Some last
  pub above : epoch ≤ last

-- the epoch that a worker has read last is the greatest that it has read
abbrev pub EpochsAreReadInOrder : Type 0
EpochsAreReadInOrder = (L : Layout) → 5 ≤ L.nodes → (w : ℕ) (log : List Entry) → IsLogOf L w log
    → (epoch : ℕ) → HasRead log epoch → ReadLast log (known_by L w log).brief.seen epoch
