-- States, and runs of events from one state to another.
use Rattle.std.specs.Prelude.{ℕ, ◌==◌, nat_le, Bool, ◌||◌, not, List, [], ◌∷◌, map, length, if◌then◌else◌, slice_index_or, slice_set, Option, Some, None, Result, Ok, Err}
use Rattle.std.specs.List.{range_with_len}
use Rattle.nm_edge.specs.Layouts.{Layout}
use Rattle.nm_model.specs.declared.event.Event.{Event}
use Rattle.nm_model.specs.declared.event.Event.TheVariants.{Join}
use Rattle.nm_model.specs.declared.reply.Reply.{Reply}
use Rattle.nm_model.specs.declared.reply.Reply.TheVariants.{Joined}
use Rattle.nm_model.specs.declared.reply.Refused.{Refused}
use Rattle.nm_model.specs.declared.reply.Refused.TheVariants.{NoWorker, NotReady}
use Rattle.nm_model.specs.declared.trace.Turn.{Turn}
use Rattle.nm_model.specs.Memory.{Memory, opening}
use Rattle.nm_model.specs.Knowledge.{Knowledge, newcomer}
use Rattle.nm_model.specs.Learning.{learn}
use Rattle.nm_model.specs.Step.{first, ◌refuses◌, refusal, reply, write}

-- a layout, the words, and what each worker knows
pub record State : Type 0 where
  pub layout : Layout
  pub memory : Memory
  pub workers : List Knowledge

-- what a worker knows
abbrev pub of : State → ℕ → Knowledge
of s w = slice_index_or s.workers w (newcomer s.layout w)

-- the empty tree, and workers that have done nothing yet
abbrev pub start : Layout → State
start L = record {
  layout = L;
  memory = opening L;
  workers = map (newcomer L) (range_with_len 0 L.workers);
}

-- ---- one event

-- a worker that does not exist, or that has resigned
abbrev pub is_no_worker : State → ℕ → Bool
is_no_worker s w = nat_le s.layout.workers w || (of s w).gone

-- a worker passes its ledgers to another worker, which must exist. It may do so only if it has no
-- private slot and no unlabelled cut
abbrev pub join_refusal : State → ℕ → ℕ → Option Refused
join_refusal s w v = first (
    ((v == w) || is_no_worker s v) refuses NoWorker
    ∷ (not (length (of s v).drafts == 0) || (of s v).brief.unlabelled) refuses NotReady ∷ [])

-- why an event is refused in a state, including a join
abbrev pub refusal_of : State → ℕ → Event → Option Refused
refusal_of s w (Join v) = join_refusal s w v
refusal_of s w e = refusal s.layout s.memory (of s w) w e

-- the least refusal that holds, if one does
unfoldable pub refused : State → ℕ → Event → Option Refused
refused s w e = if is_no_worker s w then Some NoWorker else refusal_of s w e

-- the reply to an event in a state, including a join
abbrev pub reply_of : State → ℕ → Event → Reply
reply_of s w (Join v) = Joined (of s v).ledgers
reply_of s w e = reply s.layout s.memory (of s w) e

-- a worker learns only from its own events; but both workers learn of a join
abbrev pub taught : State → ℕ → Event → Reply → List Knowledge
taught s w (Join v) r = slice_set (slice_set s.workers w (learn w (of s w) (Join v) r)) v
    (learn v (of s v) (Join v) r)
taught s w e r = slice_set s.workers w (learn w (of s w) e r)

-- the state after an event that is allowed
unfoldable pub applied : State → ℕ → Event → State
applied s w e = record {
  layout = s.layout;
  memory = write s.memory (of s w) w e;
  workers = taught s w e (reply_of s w e);
}

-- what is refused changes nothing
abbrev pub unless_refused : Option Refused → State → State → State
unless_refused None s t = t
unless_refused (Some r) s t = s

-- the state after an event; what is refused changes nothing
unfoldable pub next : State → ℕ × Event → State
next s t = unless_refused (refused s t.0 t.1) s (applied s t.0 t.1)

abbrev pub answered : Option Refused → Reply → Result Reply Refused
answered None r = Ok r
answered (Some x) r = Err x

-- the reply of an event, or why it is refused
unfoldable pub outcome : State → ℕ × Event → Result Reply Refused
outcome s t = answered (refused s t.0 t.1) (reply_of s t.0 t.1)

-- ---- runs

-- the state after a list of events
unfoldable pub after : State → List (ℕ × Event) → State
after s [] = s
after s (t ∷ ts) = after (next s t) ts

-- each event with its outcome
unfoldable pub trace : State → List (ℕ × Event) → List Turn
trace s [] = []
trace s (t ∷ ts) = record { worker = t.0; event = t.1; outcome = outcome s t } ∷ trace (next s t) ts
