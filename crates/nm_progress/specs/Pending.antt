-- Pending deletes, by the turns alone.
use Rattle.std.specs.Prelude.{◌≡◌, ℕ, ◌<◌, ◌==◌, ◌||◌, List, [], ◌∷◌, Option, Some, None, Result, Ok, if◌then◌else◌}
use Rattle.nm_edge.specs.Layouts.{Layout}
use Rattle.nm_edge.specs.declared.node.NodeId.{NodeId}
use Rattle.nm_model.specs.declared.event.Op.TheVariants.{Delete}
use Rattle.nm_model.specs.declared.event.Event.{Event}
use Rattle.nm_model.specs.declared.event.Event.TheVariants.{Flag}
use Rattle.nm_model.specs.declared.reply.Reply.{Reply}
use Rattle.nm_model.specs.declared.reply.Reply.TheVariants.{Flagged}
use Rattle.nm_model.specs.declared.reply.Refused.{Refused}
use Rattle.nm_model.specs.declared.trace.Turn.{Turn}
use Rattle.nm_model.specs.Headline.{confirms, departs}
use Rattle.nm_model.specs.Histories.{call_begun}

-- the leaf that the call of a worker's pin has flagged, after a turn of that worker: a won flag
-- names it, and the end of that pin removes it
abbrev pub leaf_by : Option NodeId → Event → Result Reply Refused → Option NodeId
leaf_by so_far (Flag p side s) (Ok (Flagged n)) = Some n
leaf_by so_far e o = if confirms e o || departs e o then None else so_far

-- that leaf after these turns (Natarajan and Mittal, section 3.2, injection)
abbrev pub leaf_after : ℕ → Option NodeId → List Turn → Option NodeId
leaf_after w so_far [] = so_far
leaf_after w so_far (t ∷ ts) =
    leaf_after w (if t.worker == w then leaf_by so_far t.event t.outcome else so_far) ts

-- a worker's delete of k is pending: it is the worker's call, it is not answered, and it has
-- flagged that leaf
pub record HasDeletePending (turns : List Turn) (w k : ℕ) (leaf : NodeId) : Type 0 where
  pub pin : ℕ
  pub call : call_begun w turns ≡ Some (record { pin = pin; op = Delete; key = k })
  pub flagged : leaf_after w None turns ≡ Some leaf

-- no delete is pending: no worker of the tree has flagged a leaf in its current call
abbrev pub NonePends : Layout → List Turn → Type 0
NonePends L turns = (w : ℕ) → w < L.workers → leaf_after w None turns ≡ None
