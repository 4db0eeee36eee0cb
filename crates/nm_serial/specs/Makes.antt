-- What a line of a script does to its worker, by its answer.
use Rattle.std.specs.Prelude.{◌≡◌, ◌⊎◌, ◌==◌, ◌+◌, if◌then◌else◌, List, [], ◌∷◌, ◌++◌, ℕ, Bool, Some, None, IsSome, Result, length}
use Rattle.nm_serial.specs.declared.answer.Answer.{Answer}
use Rattle.nm_serial.specs.declared.answer.Answer.TheVariants as answer
use Rattle.nm_serial.specs.declared.answer.Refusal.TheVariants as refused
use Rattle.nm_serial.specs.Answers.{change_answer, pin_answer, advance_answer, collection_answer}
use Rattle.nm_epoch.specs.declared.answers.Advance.{Advance}
use Rattle.nm_epoch.specs.declared.collecting.Collected.{Collected}
use Rattle.nm_epoch.specs.Collecting.{IsCollection, HaveLost, ripe_of}
use Rattle.nm_epoch.specs.Resting.{epochs}
use Rattle.nm_epoch.specs.Scans.{IsAdvance}
use Rattle.nm_model.specs.declared.event.Event.TheVariants.{Leave}
use Rattle.nm_model.specs.declared.reply.Reply.TheVariants.{Departed}
use Rattle.nm_files.specs.declared.read.entry.ScriptCall.{ScriptCall}
use Rattle.nm_files.specs.declared.read.entry.ScriptCall.TheVariants.{Has, Insert, Delete, Finish, Pin, Unpin, Advance as Move, Collect, Resign}
use Rattle.nm_steps.specs.Steps.{TreeView, Stepped}
use Rattle.nm_calls.specs.declared.fault.CallFault.{CallFault}
use Rattle.nm_tree.specs.declared.fault.PinFault.{PinFault}
use Rattle.nm_tree.specs.Answers.{HasAnswered, HasInserted, HasDeleted, HasFinished, HasPinned, KeepsPlace}
use Rattle.nm_tree.specs.Workers.{WorkerView}
use Rattle.nm_serial.specs.declared.own_lines.Stop.{Stop}
use Rattle.nm_serial.specs.declared.own_lines.Stop.TheVariants as stop

-- a call that involves no other worker
abbrev pub IsOwnCall : ScriptCall → Type 0
IsOwnCall (Resign heir) = ⊥
IsOwnCall _ = Unit {0}

-- no call was made, for this reason
abbrev pub IsAnsweredUnchanged : Answer → WorkerView → WorkerView → Answer → Type 0
IsAnsweredUnchanged why w z a = (z ≡ w) × (a ≡ why)

-- the call had this result, and the answer is that of the result
abbrev pub HasAnsweredCall : (Result Bool CallFault → Type 0) → Answer → Type 0
HasAnsweredCall did a = (r : Result Bool CallFault) × did r × (change_answer r ≡ Some a)

-- a call that a worker may not make while its caller has pinned it
abbrev pub HasSearched : (Result Bool CallFault → Type 0) → WorkerView → WorkerView → Answer → Type 0
HasSearched did w z a = (IsSome w.held × IsAnsweredUnchanged (answer.Refused refused.Held) w z a)
    ⊎ ((w.held ≡ None) × HasAnsweredCall did a)

-- a pin for the caller
abbrev pub HasHeld : ℕ → WorkerView → WorkerView → Answer → Type 0
HasHeld tries w z a = (IsSome w.held × IsAnsweredUnchanged (answer.Refused refused.Held) w z a)
    ⊎ ((w.held ≡ None) × ((r : Result ℕ PinFault) × HasPinned tries w z r × (a ≡ pin_answer r)))

-- the end of the caller's pin
abbrev pub HasUnpinned : WorkerView → WorkerView → Answer → Type 0
HasUnpinned w z a = ((w.held ≡ None) × IsAnsweredUnchanged (answer.Refused refused.Idle) w z a)
    ⊎ (IsSome w.held × (z.held ≡ None) × Stepped w.pass z.pass Leave Departed × (a ≡ answer.Left))

-- an advance of the epoch, in a tree with this many workers
abbrev pub HasMoved : ℕ → WorkerView → WorkerView → Answer → Type 0
HasMoved workers w z a = KeepsPlace w z
    × ((r : Advance) × IsAdvance workers w.pass.view.number (epochs w.pass).pin w.pass.view.log
    z.pass.view.log r × (a ≡ advance_answer r))

-- a collection
abbrev pub HasCollected : WorkerView → WorkerView → Answer → Type 0
HasCollected w z a = KeepsPlace w z
    × ((c : Collected) × IsCollection c.epoch w.queues w.pass.view.log z.pass.view.log
    × HaveLost c.epoch w.queues z.queues
    × (c.freed ≡ length (ripe_of c.epoch w.queues)) × (a ≡ collection_answer c))

-- a call that involves no other worker, with this many tries: it does what the call of the set
-- does, by its answer
abbrev pub HasMade : TreeView → ℕ → ScriptCall → WorkerView → WorkerView → Answer → Type 0
HasMade b tries (Has k) w z a = HasSearched (HasAnswered b.layout tries k w z) w z a
HasMade b tries (Insert k) w z a = HasSearched (HasInserted b.layout tries k w z) w z a
HasMade b tries (Delete k) w z a = HasSearched (HasDeleted b.layout tries k w z) w z a
HasMade b tries Finish w z a = HasAnsweredCall (HasFinished b.layout tries w z) a
HasMade b tries Pin w z a = HasHeld tries w z a
HasMade b tries Unpin w z a = HasUnpinned w z a
HasMade b tries Move w z a = HasMoved b.layout.workers w z a
HasMade b tries Collect w z a = HasCollected w z a
HasMade b tries (Resign heir) w z a = ⊥

-- ---- the lines of one worker

-- a worker that the gate stops before a line has not made the call of that line
abbrev pub HasStopped : Type 0 → ℕ → WorkerView → WorkerView → Stop → Type 0
HasStopped stops line w z (stop.Gate l) = (l ≡ line) × stops × (z ≡ w)
HasStopped stops line w z stop.NoMemory = Unit {0}

-- the calls of worker n with the numbers of their lines, from this number on
abbrev pub own_lines : ℕ → ℕ → List (ℕ × ScriptCall) → List (ℕ × ScriptCall)
own_lines n line [] = []
own_lines n line (e ∷ es) = if e.0 == n then (line, e.1) ∷ own_lines n (line + 1) es
    else own_lines n (line + 1) es

-- the worker was let play each of these lines, one after the other, and made its call, with this
-- answer
abbrev pub PlaysEach : (ℕ → ℕ → Type 0) → TreeView → ℕ → ℕ → List (ℕ × ScriptCall) → List Answer → WorkerView
    → WorkerView → Type 0
PlaysEach lets b tries n [] [] w z = z ≡ w
PlaysEach lets b tries n (l ∷ ls) (a ∷ more) w z =
    lets n l.0 × ((mid : WorkerView) × HasMade b tries l.1 w mid a
    × PlaysEach lets b tries n ls more mid z)
PlaysEach lets b tries n _ _ w z = ⊥

-- a worker has played its lines, among those of a script from this number on
abbrev pub PlaysOwn : (ℕ → ℕ → Type 0) → TreeView → ℕ → ℕ → ℕ → List (ℕ × ScriptCall) → List Answer → WorkerView
    → WorkerView → Type 0
PlaysOwn lets b tries n line es answers w z =
    PlaysEach lets b tries n (own_lines n line es) answers w z

-- the worker had played its lines before this one, and then the gate stopped it before this one
pub record PlaysUpTo (lets stops : ℕ → ℕ → Type 0) (b : TreeView) (tries n : ℕ) (ls : List (ℕ × ScriptCall))
    (line : ℕ) (w z : WorkerView) : Type 0 where
  pub before : List (ℕ × ScriptCall)
  pub call : ScriptCall
  pub after : List (ℕ × ScriptCall)
  pub split : ls ≡ before ++ (line, call) ∷ after
  pub answers : List Answer
  pub played : PlaysEach lets b tries n before answers w z
  pub stopped : stops n line

-- why a worker has not played its lines, among those of a script from this number on
abbrev pub StopsOwn : (ℕ → ℕ → Type 0) → (ℕ → ℕ → Type 0) → TreeView → ℕ → ℕ → ℕ → List (ℕ × ScriptCall)
    → WorkerView → WorkerView → Stop → Type 0
StopsOwn lets stops b tries n line es w z (stop.Gate l) =
    PlaysUpTo lets stops b tries n (own_lines n line es) l w z
StopsOwn lets stops b tries n line es w z stop.NoMemory = Unit {0}
