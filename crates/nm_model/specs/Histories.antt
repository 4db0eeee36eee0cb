-- The second page: each run of an ordered core is a history of one plain set, by the words and the
-- turns alone.
use Rattle.std.specs.Prelude.{◌≡◌, ℕ, ◌+◌, ◌<◌, ◌≤◌, ◌==◌, nat_le, Bool, true, List, [], ◌∷◌, ◌++◌, length, filter, AllPairs, Contains, Option, Some, None, Result, Ok, if◌then◌else◌}
use Rattle.nm_edge.specs.Layouts.{Layout}
use Rattle.nm_edge.specs.declared.edge.Side.{Side}
use Rattle.nm_edge.specs.declared.node.NodeId.{NodeId}
use Rattle.nm_model.specs.declared.event.Op.{Op}
use Rattle.nm_model.specs.declared.event.Op.TheVariants.{Has, Insert, Delete}
use Rattle.nm_model.specs.declared.event.Event.{Event}
use Rattle.nm_model.specs.declared.event.Event.TheVariants.{Sight, SightFor, Leave, LeaveWith, Link, Flag, Splice}
use Rattle.nm_model.specs.declared.reply.Reply.{Reply}
use Rattle.nm_model.specs.declared.reply.Reply.TheVariants.{Pinned, Departed, Linked, Flagged, Cut}
use Rattle.nm_model.specs.declared.reply.Refused.{Refused}
use Rattle.nm_model.specs.declared.trace.Turn.{Turn}
use Rattle.nm_model.specs.Headline.{words_after, slots_of, IsPinned}
use Rattle.nm_model.specs.Acts.{InSet, Gives, Act, IsAmong, Replays, nothing, leaf_keys, HasInARow}

-- a call that has begun and has no answer yet: the number of the turn that confirmed its pin, its
-- operation and its key
pub record Called : Type 0 where
  pub pin : ℕ
  pub op : Op
  pub key : ℕ

-- the call of a worker's pin after its turn of that number. A sight for a call that was answered
-- `pinned` begins the call, and the call ends with that pin
abbrev pub call_by : ℕ → Option Called → Event → Result Reply Refused → Option Called
call_by n so_far (SightFor op key) (Ok (Pinned e)) = Some (record { pin = n; op = op; key = key })
call_by n so_far Sight (Ok (Pinned e)) = None
call_by n so_far Leave (Ok Departed) = None
call_by n so_far (LeaveWith answer) (Ok Departed) = None
call_by n so_far _ _ = so_far

-- the call after these turns; the first of them is number n
abbrev pub call_after : ℕ → ℕ → Option Called → List Turn → Option Called
call_after w n so_far [] = so_far
call_after w n so_far (t ∷ ts) = call_after w (n + 1)
    (if t.worker == w then call_by n so_far t.event t.outcome else so_far) ts

-- the call of a worker's pin after its turns. It began with a sight for it that was answered
-- `pinned`, and has the number of that turn
abbrev pub call_begun : ℕ → List Turn → Option Called
call_begun w turns = call_after w 0 None turns

-- the call of an act
abbrev pub called_in : Act → Called
called_in a = record { pin = a.pin; op = a.op; key = a.key }

-- an act is a call that a leave answered with its answer, or a call that has no answer yet. Its
-- moment (linearization point), a number of turns, is within the call (Herlihy and Wing)
pub data IsAct (turns : List Turn) (a : Act) : Type 0 where
  IsAnswered : (before since : List Turn) → turns ≡ before
      ++ record { worker = a.worker; event = LeaveWith a.answer; outcome = Ok Departed } ∷ since
      → call_begun a.worker before ≡ Some (called_in a) → a.pin < a.moment → a.moment ≤ length before → IsAct turns a
  IsPending : call_begun a.worker turns ≡ Some (called_in a) → a.pin < a.moment → a.moment ≤ length turns
      → IsAct turns a

-- the call has an act, with that answer
abbrev pub HasAct : List Act → ℕ → Called → Bool → Type 0
HasAct acts w c answer = (a : Act) × IsAmong acts a × (a.worker ≡ w) × (called_in a ≡ c) × (a.answer ≡ answer)

-- an act of the call in which its worker is after these turns; the call has that operation, and the
-- answer is true
abbrev pub IsInCall : List Turn → Op → Act → Type 0
IsInCall turns op a = (call_begun a.worker turns ≡ Some (called_in a)) × (a.op ≡ op) × (a.answer ≡ true)

-- a flag that the worker has won names one of these nodes
abbrev pub HasFlaggedOneOf : List Turn → ℕ → List NodeId → Type 0
HasFlaggedOneOf turns w ns = (p : ℕ) × (side : Side) × (s : ℕ) × (n : NodeId)
    × Contains turns (record { worker = w; event = Flag p side s; outcome = Ok (Flagged n) }) × Contains ns n

-- the acts are the answered calls and some of those with no answer yet, each once, in the order of
-- their moments, which are within the calls. One plain set, empty at first, gives each call its
-- answer. At each moment it has the keys of the leaves that are reached then (Herlihy and Wing)
pub record IsHistory (L : Layout) (turns : List Turn) (acts : List Act) : Type 0 where
  pub replays : Replays nothing acts (InSet (words_after L turns))
  pub moments : (so_far rest : List Turn) → turns ≡ so_far ++ rest
      → Replays nothing (filter (λ (a : Act). nat_le a.moment (length so_far)) acts) (InSet (words_after L so_far))
  pub in_order : AllPairs (λ (a b : Act). a.moment ≤ b.moment) acts
  pub once : AllPairs (λ (a b : Act). (a.worker ≡ b.worker) × (a.pin ≡ b.pin) → ⊥) acts
  pub each : (a : Act) → IsAmong acts a → IsAct turns a
  pub answered : (before since : List Turn) (w : ℕ) (answer : Bool) (c : Called)
      → turns ≡ before ++ record { worker = w; event = LeaveWith answer; outcome = Ok Departed } ∷ since
      → call_begun w before ≡ Some c → HasAct acts w c answer
  -- a won link is the moment of its own insert. A cut by a splice is the moment of the deletes that
  -- flagged its leaves: their acts follow each other, in the order of the cut
  pub links : (before since : List Turn) (w p : ℕ) (side : Side) (leaf new : ℕ) (n : NodeId)
      → turns ≡ before ++ record { worker = w; event = Link p side leaf new; outcome = Ok (Linked n) } ∷ since
      → (a : Act) × IsAmong acts a × (a.worker ≡ w) × (a.moment ≡ length before + 1) × IsInCall before Insert a
  pub cuts : (before since : List Turn) (t : Turn) (ns : List NodeId) → turns ≡ before ++ t ∷ since
      → t.outcome ≡ Ok (Cut ns)
      → (a : ℕ) (side : Side) (s p : ℕ) (keep : Side) → t.event ≡ Splice a side s p keep
      → HasInARow acts (leaf_keys (words_after L before) (slots_of ns)) (length before + 1)
      (λ a. IsInCall before Delete a × HasFlaggedOneOf before a.worker ns)

-- the turns have a history
abbrev pub HasHistory : Layout → List Turn → Type 0
HasHistory L turns = (acts : List Act) × IsHistory L turns acts

-- ---- one call's answer

-- the turn by which a worker leaves with an answer
abbrev pub answer_turn : ℕ → Bool → Turn
answer_turn w answer = record { worker = w; event = LeaveWith answer; outcome = Ok Departed }

-- the turns `now` extend the turns `was`, and the last of them answers a call of the worker that
-- began after `was`: its pin is not one of those. In each history of these turns, and of all turns
-- that extend them, the call with this answer has an act. The moment of this act is after the pin
-- and not after the answer (Herlihy and Wing)
pub record AnswerStands (L : Layout) (was now : List Turn) (w : ℕ) (op : Op) (k : ℕ) (answer : Bool) : Type 0 where
  pub since : List Turn
  pub pin : ℕ
  pub are : now ≡ (was ++ since) ++ answer_turn w answer ∷ []
  pub call : call_begun w (was ++ since) ≡ Some (record { pin = pin; op = op; key = k })
  pub begins : length was ≤ pin
  pub history : HasHistory L now
  pub each : (later : List Turn) (acts : List Act) → IsHistory L (now ++ later) acts
      → (a : Act) × IsAmong acts a × (a.worker ≡ w) × (called_in a ≡ record { pin = pin; op = op; key = k })
      × (a.answer ≡ answer)
      × (pin < a.moment) × (a.moment < length now)

-- ---- one key's look-up

-- at a moment after the turns `was`, at which the worker was pinned, a plain set of the keys of the
-- reached leaves gives this answer to a look-up of the key (O'Hearn and others)
pub record WasSoBehind (L : Layout) (was now : List Turn) (w k : ℕ) (answer : Bool) : Type 0 where
  pub so_far : List Turn
  pub rest : List Turn
  pub are : now ≡ so_far ++ rest
  pub later : length was < length so_far
  pub pinned : IsPinned w so_far
  pub gives : Gives (InSet (words_after L so_far)) Has k answer
