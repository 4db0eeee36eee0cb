-- Births that a worker's own log shows while its pin lasts: those that it looked at, and those that
-- it had stored in the two nodes of a link that it won.
use Rattle.std.specs.Prelude.{◌≡◌, ℕ, ◌<◌, ◌==◌, ◌||◌, List, [], ◌∷◌, if◌then◌else◌, Option, Some, None, unwrap_or}
use Rattle.nm_edge.specs.Layouts.{Layout}
use Rattle.nm_model.specs.declared.event.Event.{Event}
use Rattle.nm_model.specs.declared.event.Event.TheVariants.{Link}
use Rattle.nm_model.specs.declared.reply.Reply.TheVariants.{Linked}
use Rattle.nm_model.specs.Maps.{or_else}
use Rattle.nm_model.specs.Memory.{node}
use Rattle.nm_model.specs.Knowledge.{Knowledge, newcomer, seen_of, draft_of, beside}
use Rattle.nm_model.specs.Learning.{learn}
use Rattle.nm_model.specs.Walks.{Entry, begins_anew}
use Rattle.nm_model.specs.Ordered.{ordered, after_in, trace_in}
use Rattle.nm_order.specs.Logs.{part_of, known_by}

abbrev pub no_births : ℕ → Option ℕ
no_births x = None

-- these births, and those that were stored in the two nodes of a link: the new node, and the one
-- beside the leaf of the two nodes under it
abbrev pub with_linked : (ℕ → Option ℕ) → Knowledge → ℕ → ℕ → ℕ → Option ℕ
with_linked births k leaf new x =
    if (x == new) || (x == unwrap_or (beside (draft_of k new) leaf) 0) then (draft_of k x).birth
    else births x

-- these births after an entry, from what its worker knew before it: a link that is won adds its two
-- nodes, and a pin that is confirmed or left removes all
abbrev pub stored_by : Knowledge → (ℕ → Option ℕ) → Entry → ℕ → Option ℕ
stored_by k births (Link parent side leaf new, Linked n) = with_linked births k leaf new
stored_by k births entry = if begins_anew entry then no_births else births

-- the births that worker w has so stored after a log, from what it knew and had stored before
abbrev pub stored_after : ℕ → Knowledge → (ℕ → Option ℕ) → List Entry → ℕ → Option ℕ
stored_after w k births [] = births
stored_after w k births (e ∷ es) = stored_after w (learn w k e.0 e.1) (stored_by k births e) es

-- the births that worker w stored in nodes that it has linked after its pin was confirmed
abbrev pub stored_in : Layout → ℕ → List Entry → ℕ → Option ℕ
stored_in L w log = stored_after w (newcomer L w) no_births log

-- the births that its log shows: those that it looked at, or that it stored in linked nodes
abbrev pub births_by : Layout → ℕ → List Entry → ℕ → Option ℕ
births_by L w log x = or_else (seen_of (known_by L w log) x).birth (stored_in L w log x)

-- in every ordered run each of these births is the birth in its slot
abbrev pub OwnBirthsStand : Layout → List (ℕ × Event) → Type 0
OwnBirthsStand L turns = (w x b : ℕ) → w < L.workers
    → births_by L w (part_of w (trace_in (ordered L) turns)) x ≡ Some b
    → (node (after_in (ordered L) turns).state.memory x).birth ≡ b
