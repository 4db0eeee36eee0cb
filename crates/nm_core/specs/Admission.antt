-- Whether an event is admitted, and what it does then.
use Rattle.std.specs.Prelude.{◌≡◌, ◌≢◌, ◌<◌, ℕ, length, Option, None, Result, Ok, Err}
use Rattle.nm_model.specs.declared.event.Event.{Event}
use Rattle.nm_model.specs.declared.reply.Reply.{Reply}
use Rattle.nm_model.specs.declared.reply.Refused.{Refused}
use Rattle.nm_model.specs.declared.reply.Refused.TheVariants.{NoMemory}
use Rattle.nm_model.specs.Runs.{State, refusal_of, reply_of, applied}
use Rattle.nm_model.specs.Answers.{IsRefusedAs, IsShaped}

-- what a test returns, by the least refusal that holds; it takes no memory
abbrev pub Admits : Option Refused → Result (Unit {0}) Refused → Type 0
Admits refused (Ok _) = refused ≡ None
Admits refused (Err why) = IsRefusedAs refused why × (why ≢ NoMemory)

-- an event is admitted: the state has all its words, the worker exists, and no refusal holds
pub record IsAdmitted (s : State) (w : ℕ) (e : Event) : Type 0 where
  pub shaped : IsShaped s
  pub is_there : w < length s.workers
  pub allowed : refusal_of s w e ≡ None

-- an admitted event returns its reply, and the new state is the one after it
pub record Applies (old new : State) (w : ℕ) (e : Event) (r : Reply) : Type 0 where
  pub reply : r ≡ reply_of old w e
  pub state : new ≡ applied old w e

-- the event is applied, or memory runs out and nothing has changed
abbrev pub AppliesOrKeeps : {E : Type 0} → State → State → ℕ → Event → Result Reply E
    → Type 0
AppliesOrKeeps old new w e (Ok r) = Applies old new w e r
AppliesOrKeeps old new w e (Err _) = new ≡ old
