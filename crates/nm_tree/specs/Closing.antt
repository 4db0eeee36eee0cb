-- The close of a tree: what the report says, and what follows from it.
use Rattle.std.specs.Prelude.{◌≡◌, ◌<◌, ◌≤◌, ◌↔◌, ◌+◌, ◌-◌, ◌==◌, ◌&&◌, ℕ, suc, true, false, length, filter, sum_by, List, [], ◌∷◌, ◌++◌, map, Bool, Option, None, Some, option_map, unwrap_or, Ok, All, AllPairs, Contains, slice_get, flat_map, IsPermutation, if◌then◌else◌}
use Rattle.std.specs.List.{range_with_len}
use Rattle.nm_edge.specs.Keys.{IsKey}
use Rattle.nm_edge.specs.Layouts.{Layout}
use Rattle.nm_edge.specs.declared.edge.Side.{Side}
use Rattle.nm_model.specs.declared.event.Op.{Op}
use Rattle.nm_model.specs.declared.event.Op.TheVariants.{Insert, Delete}
use Rattle.nm_model.specs.declared.event.Event.{Event}
use Rattle.nm_model.specs.declared.event.Event.TheVariants.{Join}
use Rattle.nm_model.specs.declared.reply.Reply.{Reply}
use Rattle.nm_model.specs.declared.trace.Turn.{Turn}
use Rattle.nm_model.specs.Memory.{Memory, infinity_0, in_pool, opening}
use Rattle.nm_model.specs.Ordered.{ordered, after_in, trace_in}
use Rattle.nm_model.specs.Paths.{at}
use Rattle.nm_model.specs.Reports.{counts, keys, tree_slots}
use Rattle.nm_model.specs.Acts.{InSet}
use Rattle.nm_order.specs.Totals.{Agree}
use Rattle.nm_steps.specs.declared.view.View.{View}
use Rattle.nm_model.specs.Headline.{Headline, words_after, cuts_of, freed_of, waits_of, has_after}
use Rattle.nm_model.specs.Histories.{Called, HasHistory, call_begun}
use Rattle.nm_steps.specs.Rules.{Extends, knowledge, joined, nobody}
use Rattle.nm_steps.specs.Steps.{TreeView, IsOf, Ends}
use Rattle.nm_epoch.specs.declared.collecting.Entry.{Entry}
use Rattle.nm_epoch.specs.declared.collecting.HeldQueue.{HeldQueue}
use Rattle.nm_epoch.specs.Collecting.{AreHeld}
use Rattle.nm_tree.specs.declared.closing.CloseReason.{CloseReason}
use Rattle.nm_tree.specs.declared.closing.CloseReason.TheVariants as because
use Rattle.nm_progress.specs.Pending.{NonePends}
use Rattle.nm_tree.specs.Resigning.{merged}
use Rattle.nm_tree.specs.Running.{AreOfWorkers, wins}
use Rattle.nm_tree.specs.Settled.{HasNothingPending}
use Rattle.nm_tree.specs.Workers.{WorkerView, TellLedgers, waiting_in}

-- the workers are all of this tree
abbrev pub AreAllOf : TreeView → List WorkerView → Type 0
AreAllOf b [] = Unit {0}
AreAllOf b (w ∷ ws) = IsOf b w.pass × AreAllOf b ws

-- how many workers these cover: themselves, and those that resigned to them
abbrev pub given_in : List WorkerView → ℕ
given_in ws = sum_by (λ (w : WorkerView). length w.queues) ws

-- a place of a slot above 5 when a tree is closed: in the pool, at the end of a path from the root,
-- or at an index of a worker's queue in the report
pub data EndPlace : Type 0 where
  Free : EndPlace
  OnPath : List Side → EndPlace
  Waiting : ℕ → ℕ → EndPlace

-- the slot is at that place
abbrev pub EndsAt : Memory → List HeldQueue → ℕ → EndPlace → Type 0
EndsAt m hs x Free = in_pool m x ≡ true
EndsAt m hs x (OnPath path) = at m path ≡ x
EndsAt m hs x (Waiting w i) = (h : HeldQueue) × (e : Entry) × (slice_get hs w ≡ Some h)
    × (slice_get h.queue.items i ≡ Some e) × (e.node.slot ≡ x)

-- the slot is at exactly one of these places
pub record EndsOnce (m : Memory) (hs : List HeldQueue) (x : ℕ) : Type 0 where
  pub place : EndPlace
  pub here : EndsAt m hs x place
  pub only : (other : EndPlace) → EndsAt m hs x other → other ≡ place

-- The theorem for a closed tree. The turns are by the tree's workers. They have the headline, and are
-- a history of one plain set. The report's queue of each worker has the nodes that still wait of
-- those that it cut off. The report's keys are those of the plain set. No worker holds a private
-- slot
pub record IsOfTurns (L : Layout) (turns : List Turn) (queues : List HeldQueue) (kept : List ℕ) : Type 0 where
  pub workers : AreOfWorkers L turns
  pub headline : Headline L turns
  pub plain_set : HasHistory L turns
  pub waiting : (w : ℕ) (h : HeldQueue) → slice_get queues w ≡ Some h
      → map (λ (e : Entry). e.node) h.queue.items ≡ waits_of w turns
  pub set : (k : ℕ) → Contains kept k ↔ InSet (words_after L turns) k × (k < infinity_0)
  pub no_hands : (w x : ℕ) → has_after (opening L) w x false turns ≡ false

-- after the turns `was`, the worker makes no other turns than joins, which are the steps of a
-- close; refused turns are not counted
abbrev pub HasJoinedAlone : List Turn → List Turn → ℕ → Type 0
HasJoinedAlone turns was w = (more : List Turn) (t : Turn) (r : Reply) → turns ≡ was ++ more
    → Contains more t → t.worker ≡ w → t.outcome ≡ Ok r → (v : ℕ) × (t.event ≡ Join v)

-- the call is for k
abbrev pub is_for : ℕ → Option Called → Bool
is_for k call = unwrap_or (option_map (λ (c : Called). c.key == k) call) false

-- how many links (`Insert`) or flags (`Delete`) calls for k have won in these turns, which follow
-- the turns `before`
abbrev pub how_often : Op → ℕ → List Turn → List Turn → ℕ
how_often op k before [] = 0
how_often op k before (t ∷ ts) = how_often op k (before ++ t ∷ []) ts
    + (if wins op t.event t.outcome && is_for k (call_begun t.worker before) then 1 else 0)

-- if no delete is pending, calls for a key have won one link more than flags if the report has the
-- key, and as many links as flags if it does not
abbrev pub KeysAreTheTotals : Layout → List Turn → List ℕ → Type 0
KeysAreTheTotals L turns kept = NonePends L turns → (k : ℕ) → IsKey k
    → Agree (how_often Insert k [] turns) (how_often Delete k [] turns) (Contains kept k)

-- how many links (`Insert`) or flags (`Delete`) were won in these turns
abbrev pub won_in : Op → List Turn → ℕ
won_in op turns = length (filter (λ t. wins op t.event t.outcome) turns)

-- if no worker has a call after these turns, they have won as many links as flags and keys that are
-- left
abbrev pub KeysAddUp : List Turn → List ℕ → Type 0
KeysAddUp turns kept = ((w : ℕ) → call_begun w turns ≡ None) → won_in Insert turns ≡ won_in Delete turns + length kept

-- What a caller learns from a closed tree. There are turns that extend what each worker that was
-- given had seen, and after which it made only joins. So these turns have all answers that it got,
-- and no others. The theorem holds for these turns and the report. The report has the queues of the
-- workers that were given, each unchanged: one for each worker of the tree, in the order of their
-- numbers. Its keys are in ascending order. It counts the slots in the pool, and the slots reached
-- from the root without the five fixed ones. These and the waiting nodes are all nodes but the five.
-- If the workers that were given had nothing pending, no delete is pending. If no delete is pending,
-- the links and flags decide which keys the report has, and if no worker has a call, how many
pub record SaysClosed (b : TreeView) (ws : List WorkerView) (queues : List HeldQueue) (kept : List ℕ)
    (free reached : ℕ) : Type 0 where
  pub turns : List Turn
  pub headline : IsOfTurns b.layout turns queues kept
  pub goes_on : All (λ (w : WorkerView). Extends turns w.pass.view.past) ws
  pub own : All (λ (w : WorkerView). HasJoinedAlone turns w.pass.view.past w.pass.view.number) ws
  pub unchanged : IsPermutation (flat_map (λ (w : WorkerView). w.queues) ws) queues
  pub each : map (λ (h : HeldQueue). h.origin) queues ≡ range_with_len 0 b.layout.workers
  pub ascend : AllPairs (λ j k. j < k) kept
  pub free_are : free ≡ length (filter (λ mark. mark) (words_after b.layout turns).pool)
  pub reached_are : reached ≡ length (tree_slots b.layout.nodes (words_after b.layout turns) 1) - 5
  pub sum : free + reached + waiting_in queues ≡ b.layout.nodes - 5
  pub rested : All HasNothingPending ws → NonePends b.layout turns
  pub totals : KeysAreTheTotals b.layout turns kept
  pub add_up : KeysAddUp turns kept

-- ---- what follows for each closed tree

-- the property holds for the turns and the queues of every tree that was closed
abbrev pub OfEachClosed : (Layout → List Turn → List HeldQueue → Type 0) → Type 0
OfEachClosed P = (b : TreeView) (ws : List WorkerView) (queues : List HeldQueue) (kept : List ℕ)
    (free reached : ℕ) → (is : SaysClosed b ws queues kept free reached) → P b.layout is.turns queues

-- exactly as many workers were given as the tree has
abbrev pub AllWereGiven : Type 0
AllWereGiven = (b : TreeView) (ws : List WorkerView) (queues : List HeldQueue) (kept : List ℕ)
    (free reached : ℕ) → SaysClosed b ws queues kept free reached → given_in ws ≡ b.layout.workers

-- what the splices of a worker cut off is what was freed of it, followed by its queue in the report
abbrev pub QueuesAreTheRest : Layout → List Turn → List HeldQueue → Type 0
QueuesAreTheRest L turns queues =
    (w : ℕ) (h : HeldQueue) → slice_get queues w ≡ Some h
    → freed_of w turns ++ map (λ (e : Entry). e.node) h.queue.items ≡ cuts_of w turns

-- each slot above 5 is at exactly one place
abbrev pub EachSlotEndsOnce : Layout → List Turn → List HeldQueue → Type 0
EachSlotEndsOnce L turns queues =
    (x : ℕ) → 6 ≤ x → x ≤ L.nodes → EndsOnce (words_after L turns) queues x

-- why a tree was not closed
abbrev pub IsCloseReason : TreeView → List WorkerView → CloseReason → Type 0
IsCloseReason b ws (because.NotAll given made) =
    (given ≡ given_in ws) × (made ≡ b.layout.workers) × (given < made)
IsCloseReason b ws because.NoMemory = b.layout.workers ≤ given_in ws
IsCloseReason b ws because.Attached = ⊥

-- ---- for those who change this project: the run of a closed tree

-- the view of the last one after the others have joined it, beginning with the last of them
abbrev pub all_joined : List WorkerView → View
all_joined [] = nobody
all_joined (w ∷ []) = w.pass.view
all_joined (w ∷ u ∷ ws) = joined (all_joined (u ∷ ws)) w.pass.view

-- the view has the logs of all these workers, and has seen turns and stores of its own
abbrev pub StandsForAll : List WorkerView → View → Type 0
StandsForAll ws v = v ≡ record (all_joined ws) { past = v.past; stores = v.stores }

-- all queues of these workers, by ascending origin, each unchanged
abbrev pub all_merged : List WorkerView → List HeldQueue
all_merged [] = []
all_merged (w ∷ []) = w.queues
all_merged (w ∷ u ∷ ws) = merged (all_merged (u ∷ ws)) w.queues

-- these are the queues of worker i, of worker i + 1, and so on
abbrev pub AreFrom : ℕ → List HeldQueue → Type 0
AreFrom i [] = Unit {0}
AreFrom i (h ∷ hs) = (h.origin ≡ i) × AreFrom (suc i) hs

-- One view covers all workers that were given. The turns are those of a run that ends with the
-- tree's words, and the logs of all workers are its parts. By these logs the queues have their
-- labels and report their ledgers
pub record IsClosed (b : TreeView) (ws : List WorkerView) (queues : List HeldQueue) (kept : List ℕ)
    (free reached : ℕ) : Type 0 where
  pub says : SaysClosed b ws queues kept free reached
  pub words : List ℕ
  pub ends : Ends b.layout words (all_joined ws)
  pub same_turns : says.turns ≡ trace_in (ordered b.layout) ends.turns
  pub held : AreHeld (knowledge (all_joined ws)) queues
  pub told : TellLedgers (all_joined ws) queues

-- the property holds for the run that ends with the words of each closed tree
abbrev pub OfEachClosedRun : (Layout → List (ℕ × Event) → Type 0) → Type 0
OfEachClosedRun P = (b : TreeView) (ws : List WorkerView) (queues : List HeldQueue) (kept : List ℕ)
    (free reached : ℕ) → (is : IsClosed b ws queues kept free reached) → P b.layout is.ends.turns

-- after that run a core has the same keys and the same counts, and no private slot
abbrev pub EachReportIsACores : Type 0
EachReportIsACores = (b : TreeView) (ws : List WorkerView) (queues : List HeldQueue) (kept : List ℕ)
    (free reached : ℕ) → (is : IsClosed b ws queues kept free reached)
    → (kept ≡ keys (after_in (ordered b.layout) is.ends.turns).state)
    × (counts (after_in (ordered b.layout) is.ends.turns).state
    ≡ record { pool = free; private = 0; reached = reached; queued = waiting_in queues })
