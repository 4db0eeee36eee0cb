-- What pays for the changes of edges: won flags pay for splices and tags.
use Rattle.std.specs.Prelude.{ℕ, ◌+◌, ◌≤◌, Bool, true, false, List, ◌++◌, Result, Ok, All}
use Rattle.nm_edge.specs.Layouts.{Layout}
use Rattle.nm_model.specs.declared.event.Event.{Event}
use Rattle.nm_model.specs.declared.event.Event.TheVariants.{Link, Flag, Tag, Splice, Swap}
use Rattle.nm_model.specs.declared.reply.Reply.{Reply}
use Rattle.nm_model.specs.declared.reply.Reply.TheVariants.{Linked, Flagged, Was, Cut}
use Rattle.nm_model.specs.declared.reply.Refused.{Refused}
use Rattle.nm_model.specs.declared.trace.Turn.{Turn}
use Rattle.nm_model.specs.Ordered.{ordered, after_in, trace_in}
use Rattle.nm_order.specs.Intervals.{HasKey}
use Rattle.nm_progress.specs.Changes.{is_bare}
use Rattle.nm_progress.specs.Moves.{number_of}

-- ---- the four kinds of change, of an event with its outcome

-- a link or a swap, a flag, and a splice that is won (Natarajan and Mittal, section 3.2; a swap is ours)
abbrev pub links_on : Event → Result Reply Refused → Bool
links_on (Link p side leaf new) (Ok (Linked n)) = true
links_on (Swap p side leaf new) (Ok (Cut ns)) = true
links_on _ _ = false

abbrev pub flags_on : Event → Result Reply Refused → Bool
flags_on (Flag p side leaf) (Ok (Flagged n)) = true
flags_on _ _ = false

abbrev pub cuts_on : Event → Result Reply Refused → Bool
cuts_on (Splice a side s p keep) (Ok (Cut ns)) = true
cuts_on _ _ = false

-- a tag of an edge that had no mark (Natarajan and Mittal, section 3.2)
abbrev pub tags_on : Event → Result Reply Refused → Bool
tags_on (Tag p side) (Ok (Was e)) = is_bare e
tags_on _ _ = false

-- ---- the number of each kind

-- `links_in`, `flags_in`, `cuts_in`, `tags_in`: the number of such turns among these; a swap counts as
-- a link
abbrev pub links_in : List Turn → ℕ
links_in turns = number_of (λ t. links_on t.event t.outcome) turns

abbrev pub flags_in : List Turn → ℕ
flags_in turns = number_of (λ t. flags_on t.event t.outcome) turns

abbrev pub cuts_in : List Turn → ℕ
cuts_in turns = number_of (λ t. cuts_on t.event t.outcome) turns

abbrev pub tags_in : List Turn → ℕ
tags_in turns = number_of (λ t. tags_on t.event t.outcome) turns

-- ---- what pays for them

-- over a whole run there are no more splices than flags
abbrev pub SplicesArePaid : Layout → List (ℕ × Event) → Type 0
SplicesArePaid L turns = cuts_in (trace_in (ordered L) turns) ≤ flags_in (trace_in (ordered L) turns)

-- over each part of a run there are at most as many more splices than flags as there are workers,
-- because each worker may have had one flag before that part
abbrev pub SplicesArePaidSince : Type 0
SplicesArePaidSince = (L : Layout) → 5 ≤ L.nodes → (past turns : List (ℕ × Event))
    → All (λ t. HasKey t.1) (past ++ turns)
    → cuts_in (trace_in (after_in (ordered L) past) turns)
    ≤ flags_in (trace_in (after_in (ordered L) past) turns) + L.workers

-- over a whole run there are no more tags of unmarked edges than flags
abbrev pub TagsArePaid : Layout → List (ℕ × Event) → Type 0
TagsArePaid L turns = tags_in (trace_in (ordered L) turns) ≤ flags_in (trace_in (ordered L) turns)

-- over each part of a run there are at most as many more tags of unmarked edges than flags as there
-- are workers
abbrev pub TagsArePaidSince : Type 0
TagsArePaidSince = (L : Layout) → 5 ≤ L.nodes → (past turns : List (ℕ × Event))
    → All (λ t. HasKey t.1) (past ++ turns)
    → tags_in (trace_in (after_in (ordered L) past) turns)
    ≤ flags_in (trace_in (after_in (ordered L) past) turns) + L.workers
