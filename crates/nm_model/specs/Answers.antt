-- What a core answers to an event, by the definitions of refusals and replies.
use Rattle.std.specs.Prelude.{◌≡◌, ◌+◌, ℕ, length, Option, Some, None, Result, Ok, Err, All}
use Rattle.nm_model.specs.declared.reply.Reply.{Reply}
use Rattle.nm_model.specs.declared.reply.Refused.{Refused}
use Rattle.nm_model.specs.declared.reply.Refused.TheVariants.{NoMemory}
use Rattle.nm_model.specs.Knowledge.{Knowledge}
use Rattle.nm_model.specs.Runs.{State}

-- a refusal is the least that holds; out of memory is returned only if no other refusal holds
abbrev pub IsRefusedAs : Option Refused → Refused → Type 0
IsRefusedAs refused NoMemory = refused ≡ None
IsRefusedAs refused why = refused ≡ Some why

-- the answer to an event: the least refusal that holds; if none does, the reply, or that memory ran
-- out
abbrev pub IsAnswer : Option Refused → Reply → Result Reply Refused → Type 0
IsAnswer refused reply (Ok r) = (refused ≡ None) × (r ≡ reply)
IsAnswer refused reply (Err why) = IsRefusedAs refused why

-- a worker has, for each worker, a mark and a place for a ledger
pub record IsRow (workers : ℕ) (k : Knowledge) : Type 0 where
  pub scanned : length k.scanned ≡ workers
  pub ledgers : length k.ledgers ≡ workers

-- the state has a word and a worker for each that the layout has
pub record IsShaped (s : State) : Type 0 where
  pub announcements : length s.memory.announcements ≡ s.layout.workers
  pub nodes : length s.memory.nodes ≡ s.layout.nodes + 1
  pub pool : length s.memory.pool ≡ s.layout.nodes + 1
  pub workers : length s.workers ≡ s.layout.workers
  pub rows : All (IsRow s.layout.workers) s.workers
