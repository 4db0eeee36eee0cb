-- How chains lead on, by what is known of nodes alone, and what a record of their steps says.
use Rattle.std.specs.Prelude.{◌≡◌, ◌≢◌, ℕ, zero, suc, ◌==◌, Bool, false, not, ◌&&◌, ◌||◌, List, if◌then◌else◌, Option, Some, None, unwrap_or, All}
use Rattle.nm_edge.specs.Edges.{Edge}
use Rattle.nm_model.specs.declared.knowledge.Seen.{Seen}
use Rattle.nm_model.specs.Maps.{get}
use Rattle.nm_model.specs.Knowledge.{unread, is_flagged, is_tagged, slot_read}
use Rattle.nm_core.specs.declared.found_steps.ChainStep.{ChainStep}

-- the edge was read as tagged and not flagged, and its twin as flagged
abbrev pub goes_by : Option Edge → Option Edge → Bool
goes_by edge twin = is_tagged edge && (is_flagged twin && not (is_flagged edge))

-- the slot to which a chain leads on from a node, if it does, by what is known of the node
abbrev pub next_slot_of : Seen → Option ℕ
next_slot_of n =
    if goes_by n.left n.right then Some (slot_read n.left)
    else if goes_by n.right n.left then Some (slot_read n.right)
    else None

-- the same, by the slot of the node
abbrev pub next_slot_in : List (ℕ × Seen) → ℕ → Option ℕ
next_slot_in known s = next_slot_of (unwrap_or (get known s) unread)

abbrev pub from_next : Option ℕ → (ℕ → Bool) → Bool
from_next None test = false
from_next (Some s) test = test s

-- whether a chain leads from s to p in fewer steps than the given number
abbrev pub leads_to : ℕ → List (ℕ × Seen) → ℕ → ℕ → Bool
leads_to zero known s p = false
leads_to (suc fuel) known s p =
    (s == p) || from_next (next_slot_in known s) (λ t. leads_to fuel known t p)

-- ---- what was found of chains

-- a step that was found is the one that the chain makes from its slot
abbrev pub IsRight : List (ℕ × Seen) → ChainStep → Type 0
IsRight known x = x.next.slot ≢ 0 → next_slot_in known x.slot ≡ Some x.next.slot

-- each recorded step is right by what is known
unfoldable pub Remembers : List (ℕ × Seen) → List ChainStep → Type 0
Remembers known steps = All (IsRight known) steps
