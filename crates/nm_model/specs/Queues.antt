-- Retired nodes that wait, each with its label once it has one.
use Rattle.std.specs.Prelude.{ℕ, ◌==◌, List, [], ◌∷◌, if◌then◌else◌, Option, Some, None, is_none}
use Rattle.std.specs.List.{find}
use Rattle.nm_edge.specs.declared.node.NodeId.{NodeId}
use Rattle.nm_model.specs.declared.ledger.Queued.{Queued}

-- the entry at the front of a queue, if it is of this slot
abbrev pub front_at : List Queued → ℕ → Option Queued
front_at [] s = None
front_at (e ∷ es) s = if e.node.slot == s then Some e else None

-- the first entry of a slot
abbrev pub entry_at : List Queued → ℕ → Option Queued
entry_at es s = find (λ e. e.node.slot == s) es

-- an entry as it enters a queue: it has no label yet. The label is the epoch that its remover reads
-- after the splice, its retire epoch (Fraser, section 5.2.3; labels are ours)
abbrev pub unlabelled : NodeId → Queued
unlabelled n = record { node = n; label = None }

-- an entry without a label gets this one
abbrev pub with_label : ℕ → Queued → Queued
with_label e x = if is_none x.label then record { node = x.node; label = Some e } else x
