-- Sets that are made of keys: what the turns that fill a set leave in it, and what its members have
-- done and seen then.
use Rattle.std.specs.Prelude.{◌≡◌, ◌≢◌, ◌↔◌, ◌<◌, ◌≤◌, ℕ, suc, Bool, true, List, [], ◌∷◌, None, Result, Ok, Err, length, Contains}
use Rattle.nm_edge.specs.Keys.{IsKey}
use Rattle.nm_edge.specs.Layouts.{IsLayoutFault, Layout}
use Rattle.nm_edge.specs.declared.placement.Fit.{Fit}
use Rattle.nm_edge.specs.declared.layout.LayoutError.TheVariants as layout
use Rattle.nm_model.specs.Acts.{InSet}
use Rattle.nm_model.specs.declared.new_error.NewError.TheVariants.{NoMemory, Nodes, Workers}
use Rattle.nm_model.specs.Headline.{words_after}
use Rattle.nm_model.specs.declared.event.Op.TheVariants.{Insert}
use Rattle.nm_model.specs.declared.trace.Turn.{Turn}
use Rattle.nm_order.specs.Logs.{part_of}
use Rattle.nm_steps.specs.Steps.{TreeView, PassView, IsSamePass, HasSeenAllOf}
use Rattle.nm_calls.specs.declared.fault.CallFault.{CallFault}
use Rattle.nm_calls.specs.declared.fault.CallFault.TheVariants as fault
use Rattle.nm_calls.specs.Moments.{AnswerHasMoment}
use Rattle.nm_calls.specs.Won.{HasWon}
use Rattle.nm_walks.specs.WonCounts.{won_flags, won_links}
use Rattle.nm_tree.specs.Workers.{WorkerView}
use Rattle.nm_set.specs.declared.filling.OfKeysError.{OfKeysError}
use Rattle.nm_set.specs.declared.filling.OfKeysError.TheVariants.{Busy, Full, New, Order}
use Rattle.nm_set.specs.declared.managed.Options.{Options}
use Rattle.nm_set.specs.Managed.{SaysManaged}
use Rattle.nm_set.specs.Seats.{MemberView}

-- after these turns the set has exactly these keys
abbrev pub HoldsJust : Layout → List Turn → List ℕ → Type 0
HoldsJust L turns ks = (k : ℕ) → IsKey k → InSet (words_after L turns) k ↔ Contains ks k

-- no other worker has made a turn in what a pass has seen
abbrev pub OthersRest : PassView → Type 0
OthersRest p = (w : ℕ) → w < p.view.layout.workers → w ≢ p.view.number → part_of w p.view.past ≡ []

-- the numbers ascend, and none is below the first one
abbrev pub RiseFrom : ℕ → List ℕ → Type 0
RiseFrom low [] = Unit {0}
RiseFrom low (k ∷ ks) = (low ≤ k) × RiseFrom (suc k) ks

-- ---- why a set was not made of keys

-- a managed insert of one of these keys returned this
pub record ReturnsForKey (h : Options) (ks : List ℕ) (answer : Result Bool CallFault) : Type 0 where
  pub key : ℕ
  pub among : Contains ks key
  pub tree : TreeView
  pub before : WorkerView
  pub after : WorkerView
  pub says : SaysManaged Insert tree h key before after answer

-- the insert of one of these keys did not return true, and that is the reason
abbrev pub StopsFilling : Options → List ℕ → OfKeysError → Type 0
StopsFilling h ks Full = ReturnsForKey h ks (Err fault.Full)
StopsFilling h ks (New NoMemory) = ReturnsForKey h ks (Err fault.NoMemory)
StopsFilling h ks Busy = (answer : Result Bool CallFault) × (answer ≢ Ok true)
    × (answer ≢ Err fault.Full) × (answer ≢ Err fault.NoMemory) × ReturnsForKey h ks answer
StopsFilling h ks e = ⊥

-- a set for these numbers of nodes, of which there are at most so many, and of workers was not made of
-- these keys: a number is outside its range, or memory was refused, or the keys do not ascend, or an
-- insert did not return true
abbrev pub IsNotMade : ℕ → ℕ → ℕ → Options → List ℕ → OfKeysError → Type 0
IsNotMade most nodes workers h ks (New Nodes) = IsLayoutFault most nodes workers layout.Nodes
IsNotMade most nodes workers h ks (New Workers) = IsLayoutFault most nodes workers layout.Workers
IsNotMade most nodes workers h ks (New NoMemory) = Unit {0}
IsNotMade most nodes workers h ks Order = RiseFrom 0 ks → ⊥
IsNotMade most nodes workers h ks e = StopsFilling h ks e

-- ---- the members of a set that was made of keys

-- the member of worker k of that tree. Its worker has inserted these keys and changed nothing else.
-- After what it has seen, which no other worker has made turns in, the set has exactly these keys
pub record HasFilled (b : TreeView) (f : Fit) (k : ℕ) (ks : List ℕ) (m : MemberView) : Type 0 where
  pub tree : m.tree ≡ b
  pub fit : m.worker.fit ≡ f
  pub number : m.worker.pass.view.number ≡ k
  pub free : m.worker.held ≡ None
  pub settled : m.worker.pending ≡ None
  pub links : won_links m.worker.pass.view.log ≡ length ks
  pub flags : won_flags m.worker.pass.view.log ≡ 0
  pub alone : OthersRest m.worker.pass
  pub holds : HoldsJust m.worker.pass.view.layout m.worker.pass.view.past ks

-- the member of worker k of that tree, which has made no turn, and has seen all that p had seen
pub record HasWatched (b : TreeView) (f : Fit) (p : PassView) (k : ℕ) (m : MemberView) : Type 0 where
  pub tree : m.tree ≡ b
  pub fit : m.worker.fit ≡ f
  pub number : m.worker.pass.view.number ≡ k
  pub free : m.worker.held ≡ None
  pub settled : m.worker.pending ≡ None
  pub log : m.worker.pass.view.log ≡ []
  pub seen : HasSeenAllOf m.worker.pass p

-- such members of worker k, of worker k + 1, and so on
abbrev pub HaveWatched : TreeView → Fit → PassView → ℕ → List MemberView → Type 0
HaveWatched b f p k [] = Unit {0}
HaveWatched b f p k (m ∷ ms) = HasWatched b f p k m × HaveWatched b f p (suc k) ms

-- ---- inserts one after the other

-- an insert of the key returned true to that worker, and the pass has seen its end
pub record HasInsertedKey (k : ℕ) (q : PassView) : Type 0 where
  pub start : PassView
  pub one : PassView
  pub layout : one.view.layout ≡ q.view.layout
  pub number : one.view.number ≡ q.view.number
  pub past : HasSeenAllOf q one
  pub moment : AnswerHasMoment start one Insert k true

-- the worker has gone on, and has inserted these keys and done nothing else
pub record HasInserted (ks : List ℕ) (w z : WorkerView) : Type 0 where
  pub same : IsSamePass w.pass z.pass
  pub past : HasSeenAllOf z.pass w.pass
  pub won : HasWon w.pass.view.log z.pass.view.log (length ks) 0
  pub fit : z.fit ≡ w.fit
  pub each : (k : ℕ) → Contains ks k → HasInsertedKey k z.pass
