-- Managed calls: what a caller learns from a call that is retried while it loses its tries, that
-- finishes a remove which has begun, and that collects waiting nodes.
use Rattle.std.specs.Prelude.{◌≡◌, ◌≢◌, ◌⊎◌, ◌+◌, ◌-◌, ◌*◌, ◌^◌, ◌≤◌, min, ℕ, Bool, false, true, length, drop, List, ◌++◌, Option, Some, None, IsSome, Result, Ok, Err, IfOk, IfErr, Contains}
use Rattle.std.specs.List.{AllZip}
use Rattle.nm_edge.specs.Layouts.{Layout}
use Rattle.nm_edge.specs.declared.node.NodeId.{NodeId}
use Rattle.nm_model.specs.declared.event.Event.{Event}
use Rattle.nm_model.specs.declared.event.Event.TheVariants.{Scan, Sight}
use Rattle.nm_model.specs.declared.event.Op.{Op}
use Rattle.nm_model.specs.declared.event.Op.TheVariants.{Has, Insert, Delete}
use Rattle.nm_model.specs.declared.reply.Reply.{Reply}
use Rattle.nm_model.specs.declared.reply.Reply.TheVariants.{In}
use Rattle.nm_model.specs.declared.trace.Turn.{Turn}
use Rattle.nm_model.specs.Headline.{freed_by}
use Rattle.nm_model.specs.Step.{last_number}
use Rattle.nm_order.specs.Reads.{sight_epoch}
use Rattle.nm_progress.specs.Alone.{RunsAlone}
use Rattle.nm_progress.specs.Moves.{number_of, moves, moves_of_others}
use Rattle.nm_progress.specs.Tries.{changes_of_others, interferes, reshapes_of_others}
use Rattle.nm_steps.specs.Steps.{TreeView, PassView, IsSamePass, HasSeenAllOf}
use Rattle.nm_epoch.specs.declared.collecting.Entry.{Entry}
use Rattle.nm_epoch.specs.declared.collecting.HeldQueue.{HeldQueue}
use Rattle.nm_walks.specs.Bounds.{chain_bound, reach}
use Rattle.nm_calls.specs.Moments.{AnswerHasMoment, HadNoCall}
use Rattle.nm_calls.specs.Won.{HasWon}
use Rattle.nm_calls.specs.declared.deleting.Unfinished.{Unfinished}
use Rattle.nm_calls.specs.declared.fault.CallFault.{CallFault}
use Rattle.nm_calls.specs.declared.fault.CallFault.TheVariants as fault
pub use Rattle.nm_tree.specs.Answers.{HasMade}
use Rattle.nm_tree.specs.Answers.{FailsAlone, FoundNoSlot, FreesNone, LacksRoom}
use Rattle.nm_tree.specs.Workers.{WorkerView, waiting_in}
use Rattle.nm_set.specs.Asked.{UnlessPinned}
use Rattle.nm_set.specs.declared.fault.Fullness.{Fullness}
use Rattle.nm_set.specs.declared.fault.InsertFault.{InsertFault}
use Rattle.nm_set.specs.declared.fault.InsertFault.TheVariants as inserting
use Rattle.nm_set.specs.declared.managed.Options.{Options}

-- ---- what a worker has become

-- a queue of the same origin: it has that origin, or it has only lost nodes at its front
abbrev pub OnlyLoses : ℕ → HeldQueue → HeldQueue → Type 0
OnlyLoses o h g = (g.origin ≡ h.origin) × ((h.origin ≡ o) ⊎ ((n : ℕ) × (g.queue.items ≡ drop n h.queue.items)))

-- the worker has gone on, in at most `most` steps: it has the same pass, which has seen more, and
-- its caller has not pinned it
pub record GoesOn (most : ℕ) (w z : WorkerView) : Type 0 where
  pub same : IsSamePass w.pass z.pass
  pub past : HasSeenAllOf z.pass w.pass
  pub queues : AllZip (OnlyLoses w.pass.view.number) w.queues z.queues
  pub steps : length z.pass.view.log ≤ length w.pass.view.log + most
  pub held : z.held ≡ None
  pub fit : z.fit ≡ w.fit

-- ---- between two moments of a pass

-- this holds of the turns between p and q
abbrev pub Since : PassView → PassView → (List Turn → Type 0) → Type 0
Since p q P = (turns : List Turn) × (q.view.past ≡ p.view.past ++ turns) × P turns

-- the turns that interfere with a try of this operation by worker w: for a look-up, others link or
-- cut off nodes
abbrev pub interfering : Op → ℕ → Turn → Bool
interfering Has w = reshapes_of_others w
interfering _ w = interferes w

-- between p and q others have advanced the epoch, or turns have interfered with this operation,
-- together at least `times` times
abbrev pub MetInterference : Op → PassView → PassView → ℕ → Type 0
MetInterference op p q times = Since p q (λ ts. times ≤ number_of (moves_of_others p.view.number) ts
    + number_of (interfering op p.view.number) ts)

-- why a remove stays pending: the worker's own queue has less room than a try needs, or other workers
-- changed edges at least as often as all rounds together have tries (2^32 - 1 times if that is more)
abbrev pub StaysPending : Options → WorkerView → WorkerView → Type 0
StaysPending h w z = LacksRoom z ⊎ Since w.pass z.pass (λ ts. min ((h.rounds + 1) * h.tries) (2 ^ 32 - 1)
    ≤ number_of (changes_of_others w.pass.view.number) ts)

-- among these turns worker w has read this epoch
abbrev pub HasSighted : ℕ → List Turn → ℕ → Type 0
HasSighted w turns epoch = (r : Reply) × (sight_epoch r ≡ Some epoch) × HasMade w turns Sight r

-- among these turns worker w has read an epoch, and found worker i, another one, at another epoch
abbrev pub HasFoundElsewhere : ℕ → ℕ → List Turn → Type 0
HasFoundElsewhere w i turns = (i ≢ w) × (epoch : ℕ) × (at : ℕ) × (at ≢ epoch) × HasSighted w turns epoch
    × HasMade w turns (Scan i) (In at)

-- the worker that w found to hold the epoch back among these turns; if it found none, the epoch was
-- advanced twice, or it is the last one
abbrev pub FindsBehind : ℕ → Option ℕ → List Turn → Type 0
FindsBehind w (Some i) turns = HasFoundElsewhere w i turns
FindsBehind w None turns = HasSighted w turns last_number ⊎ (2 ≤ number_of moves turns)

-- the worker has tried to advance the epoch twice, and then collected: each node that waited was
-- freed, unless another worker held the epoch back, or the epoch is the last one
abbrev pub Collects : WorkerView → PassView → Type 0
Collects w q = Since w.pass q (λ ts. ((i : ℕ) × HasFoundElsewhere w.pass.view.number i ts)
    ⊎ HasSighted w.pass.view.number ts last_number)
    ⊎ ((h : HeldQueue) → Contains w.queues h → (e : Entry) → Contains h.queue.items e
    → Contains (freed_by q.view.past) e.node)

-- ---- results

-- the result of an insert, in the form of the other calls, without its two numbers
abbrev pub of_insert : Result Bool InsertFault → Result Bool CallFault
of_insert (Ok answer) = Ok answer
of_insert (Err (inserting.Full f)) = Err fault.Full
of_insert (Err (inserting.Other f)) = Err f

-- which operation returns which error, and what is pending then: nothing, except after `Unfinished`
-- and `Pending`. After `Unfinished` the key of this call is pending, after `Pending` the same key
-- as before. After `Full` the call has tried each slot, and after `NoMemory` the worker's own queue has
-- less room than a try needs
abbrev pub IsLeft : {A : Type 0} → Op → ℕ → WorkerView → WorkerView → Result A CallFault → Type 0
IsLeft op k w z (Err fault.Pending) = IsSome w.pending × (z.pending ≡ w.pending)
IsLeft op k w z (Err fault.Full) = (op ≡ Insert) × (z.pending ≡ None) × FoundNoSlot w.pass z.pass
IsLeft op k w z (Err fault.NoMemory) = (op ≢ Has) × (z.pending ≡ None) × LacksRoom z
IsLeft op k w z (Err fault.Unfinished) =
    (op ≡ Delete) × (leaf : NodeId) × (z.pending ≡ Some (record { key = k; leaf = leaf }))
IsLeft op k w z (Err fault.Pinned) = ⊥
IsLeft op k w z _ = z.pending ≡ None

-- `links_told_by`, `flags_told_by`: the links and the flags that the call has won, by its result
abbrev pub links_told_by : Op → Result Bool CallFault → ℕ
links_told_by Insert (Ok true) = 1
links_told_by _ _ = 0

abbrev pub flags_told_by : Op → Result Bool CallFault → ℕ
flags_told_by Delete (Ok true) = 1
flags_told_by Delete (Err fault.Unfinished) = 1
flags_told_by _ _ = 0

-- the most steps of a round: those of a call of the tree, of two attempts to advance the epoch, and
-- of a collection
abbrev pub round_bound : ℕ → Layout → ℕ
round_bound tries L = tries * (4 * reach L + 8 * chain_bound) + 7 * L.nodes + 2 * L.workers + 12

-- calls of the tree, made until one is answered: the answer has a moment (linearization point) that
-- is later than all that the worker had seen before. They have won the links and flags that the
-- result implies and no more, and have made at most `most` steps. If they were busy, they met
-- interference as often as they had tries; and if the worker ran alone, they had none (`alone`)
pub record Answers (op : Op) (k most tries : ℕ) (w z : WorkerView) (r : Result Bool CallFault) : Type 0 where
  pub moment : IfOk r (AnswerHasMoment w.pass z.pass op k)
  pub left : IsLeft op k w z r
  pub won : HasWon w.pass.view.log z.pass.view.log (links_told_by op r) (flags_told_by op r)
  pub on : GoesOn most w z
  pub busy : r ≡ Err fault.Busy → MetInterference op w.pass z.pass tries
  pub alone : RunsAlone w.pass z.pass → r ≡ Err fault.Busy → tries ≡ 0

-- the call first finishes the remove of an earlier call, whose answer true has a moment of its own. The
-- pass was `begun` after that
pub record FinishesFirst (w : WorkerView) (begun : PassView) : Type 0 where
  pub after : HasSeenAllOf begun w.pass
  pub earlier : (n : Unfinished) → w.pending ≡ Some n → (o : PassView) → HadNoCall o w.pass
      → AnswerHasMoment o begun Delete n.key true

-- before its operation the call finishes the remove of an earlier call. If nothing was pending, and
-- `collect_after` nodes or more waited, an insert or a remove collects. The pass was `begun` when the
-- operation began
pub record Prepares (h : Options) (op : Op) (w : WorkerView) (begun : PassView) : Type 0 where
  pub finished : PassView
  pub first : FinishesFirst w finished
  pub then : HasSeenAllOf begun finished
  pub collects : op ≢ Has → w.pending ≡ None → h.collect_after ≤ waiting_in w.queues
      → Collects w begun

-- an insert that found no free slot found what holds memory back, and collected. After the collection it
-- tried each slot again, and got none; `waiting` is how many nodes wait when it returns
pub record WasFull (w z : WorkerView) (f : Fullness) : Type 0 where
  pub finds : Since w.pass z.pass (FindsBehind w.pass.view.number f.behind)
  pub collected : PassView
  pub after : HasSeenAllOf collected w.pass
  pub collects : Collects w collected
  pub tried : FoundNoSlot collected z.pass
  pub waiting : f.waiting ≡ waiting_in z.queues

-- `IsReadyIn`, `IsFullIn`: with what pass the operation begins, and what was so if no slot was free:
-- in a set (`false`), and in a map, where no managed call collects, and the call has tried each slot
abbrev pub IsReadyIn : Bool → Options → Op → WorkerView → PassView → Type 0
IsReadyIn false h op w begun = Prepares h op w begun
IsReadyIn true h op w begun = FinishesFirst w begun

abbrev pub IsFullIn : Bool → WorkerView → WorkerView → Type 0
IsFullIn false w z = (f : Fullness) × WasFull w z f
IsFullIn true w z = FoundNoSlot w.pass z.pass

-- a managed call, of at most 3 `rounds` + 5 rounds: its answer, and what came before its operation,
-- which is not made if an earlier remove stays pending. If it is `Busy`, the epoch was advanced or
-- turns have interfered with it at least (`rounds` + 1) * `tries` times. If the worker ran alone, an
-- error is due to a number of tries that is 0, to a lack of room, or to a full pool (`alone`). A
-- remove stays pending for a lack of room, or because others changed edges (`pending`). In a map the
-- worker has freed no node (`frees`)
pub record ManagesIn (map : Bool) (b : TreeView) (h : Options) (op : Op) (k : ℕ) (w z : WorkerView)
    (r : Result Bool CallFault) : Type 0 where
  pub answers : Answers op k ((3 * h.rounds + 5) * round_bound h.tries b.layout) ((h.rounds + 1) * h.tries) w z r
  pub full : r ≡ Err fault.Full → IsFullIn map w z
  pub begins : r ≢ Err fault.Pending → (begun : PassView) × IsReadyIn map h op w begun
      × IfOk r (AnswerHasMoment begun z.pass op k)
  pub alone : RunsAlone w.pass z.pass → IfErr r (FailsAlone 1 1 h.tries z)
  pub pending : (r ≡ Err fault.Pending) ⊎ (r ≡ Err fault.Unfinished) → StaysPending h w z
  pub frees : map ≡ true → FreesNone w z

-- a managed call of a set
abbrev pub Manages : TreeView → Options → Op → ℕ → WorkerView → WorkerView → Result Bool CallFault → Type 0
Manages = ManagesIn false

-- what a caller learns from each of the three managed calls
abbrev pub SaysManaged : Op → TreeView → Options → ℕ → WorkerView → WorkerView → Result Bool CallFault → Type 0
SaysManaged op b h k w z r = UnlessPinned (Manages b h op k w z r) w z r
