-- Short forms of turns, edges and nodes, for worked runs.
use Rattle.std.specs.Prelude.{ℕ, Bool, Result, Ok, List, [], ◌∷◌}
use Rattle.nm_edge.specs.Edges.{Edge}
use Rattle.nm_edge.specs.declared.edge.Side.TheVariants.{Left, Right}
use Rattle.nm_edge.specs.declared.node.NodeId.{NodeId}
use Rattle.nm_model.specs.declared.event.Event.{Event}
use Rattle.nm_model.specs.declared.event.Event.TheVariants.{Sight, Announce, Claim, Fill}
use Rattle.nm_model.specs.declared.event.Field.TheVariants.{Key, Edge as EdgeOn, Birth}
use Rattle.nm_model.specs.declared.reply.Reply.{Reply}
use Rattle.nm_model.specs.declared.reply.Reply.TheVariants.{Saw, Announced, Pinned, Claimed, Filled}
use Rattle.nm_model.specs.declared.reply.Refused.{Refused}
use Rattle.nm_model.specs.declared.trace.Turn.{Turn}

-- `t`, `e`, `n`: a turn, an edge and a node
abbrev pub t : ℕ → Event → Result Reply Refused → Turn
t worker event outcome = record { worker = worker; event = event; outcome = outcome }

abbrev pub e : ℕ → Bool → Bool → Edge
e slot flag tag = record { slot = slot; flag = flag; tag = tag }

abbrev pub n : ℕ → ℕ → NodeId
n slot birth = record { slot = slot; birth = birth }

-- a worker pins epoch 0 at its first attempt
abbrev pub pins : ℕ → List Turn
pins w = t w Sight (Ok (Saw 0)) ∷ t w Announce (Ok (Announced 0)) ∷ t w Sight (Ok (Pinned 0)) ∷ []

-- a worker makes two nodes in slots that held none before: an internal node with that router and
-- those two children, and a leaf with that key
abbrev pub makes : (w inner leaf router left right key : ℕ) → List Turn
makes w inner leaf router left right key =
    t w (Claim inner) (Ok (Claimed inner)) ∷
    t w (Fill inner Birth 1) (Ok Filled) ∷
    t w (Claim leaf) (Ok (Claimed leaf)) ∷
    t w (Fill leaf Birth 1) (Ok Filled) ∷
    t w (Fill inner Key router) (Ok Filled) ∷
    t w (Fill inner (EdgeOn Left) left) (Ok Filled) ∷
    t w (Fill inner (EdgeOn Right) right) (Ok Filled) ∷
    t w (Fill leaf Key key) (Ok Filled) ∷
    t w (Fill leaf (EdgeOn Left) 0) (Ok Filled) ∷
    t w (Fill leaf (EdgeOn Right) 0) (Ok Filled) ∷
    []
