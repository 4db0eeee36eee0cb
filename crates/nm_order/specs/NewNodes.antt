-- The node that a won link names.
use Rattle.std.specs.Prelude.{◌≡◌, ℕ, Ok}
use Rattle.nm_edge.specs.declared.edge.Side.{Side}
use Rattle.nm_edge.specs.declared.node.NodeId.{NodeId}
use Rattle.nm_model.specs.declared.event.Event.TheVariants.{Link}
use Rattle.nm_model.specs.declared.reply.Reply.TheVariants.{Linked}
use Rattle.nm_model.specs.Memory.{named}
use Rattle.nm_model.specs.Runs.{State, outcome}

-- in every run, even of a plain core: a link that is won names the new node, with the birth that
-- its slot has
abbrev pub LinksNameNewNodes : State → Type 0
LinksNameNewNodes s = (w parent : ℕ) (side : Side) (leaf new : ℕ) (n : NodeId)
    → outcome s (w, Link parent side leaf new) ≡ Ok (Linked n) → n ≡ named s.memory new
