-- The reply to an event, by what its worker knows, the births that are known, and the one word that
-- it finds.
use Rattle.std.specs.Prelude.{◌≡◌, ℕ, ◌+◌, ◌-◌, ◌*◌, ◌==◌, map, bit_and, if◌then◌else◌, Option, Some, None, IsSome, unwrap_or, [], ◌∷◌, All}
use Rattle.nm_edge.specs.Edges.{edge_in}
use Rattle.nm_edge.specs.Layouts.{Layout}
use Rattle.nm_edge.specs.Words.{pool_place}
use Rattle.nm_edge.specs.declared.node.NodeId.{NodeId}
use Rattle.nm_model.specs.declared.event.Event.{Event}
use Rattle.nm_model.specs.declared.event.Event.TheVariants.{Sight, SightFor, Announce, Leave, LeaveWith, Scan, Advance, Claim, Give, Look, Fill, Link, Flag, Tag, Splice, Swap, Join}
use Rattle.nm_model.specs.declared.event.Field.{Field}
use Rattle.nm_model.specs.declared.event.Field.TheVariants.{Key, Edge as EdgeOn, Birth}
use Rattle.nm_model.specs.declared.reply.Reply.{Reply}
use Rattle.nm_model.specs.declared.reply.Reply.TheVariants.{Announced, Departed, Moved, Behind, Claimed, Taken, Returned, Freed, KeyIs, BirthIs, EdgeIs, Filled, Linked, Flagged, Was, Cut, Lost, Joined}
use Rattle.nm_model.specs.Maps.{is_number}
use Rattle.nm_model.specs.Ledgers.{front_of}
use Rattle.nm_model.specs.Memory.{Memory, node}
use Rattle.nm_model.specs.Knowledge.{Knowledge, is_private, way, cut_by}
use Rattle.nm_model.specs.Step.{reply_sight, reply_scan, node_of, node_linked}
use Rattle.nm_model.specs.Runs.{State, of, refused, reply_of}
use Rattle.nm_steps.specs.Packing.{word_at, touched_field}

-- the announcement in a word
abbrev pub announced_in : ℕ → Option ℕ
announced_in n = if n == 0 then None else Some (n - 1)

-- the births that are known, by slot, from any source
abbrev pub Births : Type 0
Births = ℕ → Option ℕ

-- each birth that is known is the one in its slot
abbrev pub BirthsAreIn : Memory → Births → Type 0
BirthsAreIn m births = (x b : ℕ) → births x ≡ Some b → (node m x).birth ≡ b

-- a node with the birth that is known of its slot
abbrev pub known_as : Births → ℕ → NodeId
known_as births s = record { slot = s; birth = unwrap_or (births s) 0 }

-- the reply to a flag, a splice or a swap has nodes, whose births must be known (Fraser, section 5.2.3;
-- Natarajan and Mittal, section 3.2)
abbrev pub BirthsAreKnown : Layout → Knowledge → Births → Event → Type 0
BirthsAreKnown L k births (Flag p side leaf) = IsSome (births leaf)
BirthsAreKnown L k births (Splice a side s p keep) =
    All (λ x. IsSome (births x)) (cut_by k s (unwrap_or (way L.nodes k s p) []) keep)
BirthsAreKnown L k births (Swap p side leaf new) = IsSome (births leaf)
BirthsAreKnown L k births (Join v) = ⊥
BirthsAreKnown L k births _ = Unit {0}

abbrev pub told_look : Field → ℕ → Reply
told_look Key n = KeyIs n
told_look (EdgeOn side) n = EdgeIs (edge_in n)
told_look Birth n = BirthIs n

-- the reply to an event, by what its worker knows, the births that are known, and the word n that
-- it finds. (The reply to a join depends on the leaver.) (Fraser, section 5.2.3; Natarajan and
-- Mittal, section 3.2)
abbrev pub told : Layout → Knowledge → Births → Event → ℕ → Reply
told L k births Sight n = reply_sight k n
told L k births (SightFor op key) n = reply_sight k n
told L k births Announce n = Announced (unwrap_or k.brief.seen 0)
told L k births Leave n = Departed
told L k births (LeaveWith answer) n = Departed
told L k births (Scan u) n = reply_scan (announced_in n)
told L k births Advance n = if is_number k.brief.seen n then Moved (n + 1) else Behind n
told L k births (Claim s) n = if bit_and n (pool_place L s).mask == 0 then Taken else Claimed s
told L k births (Give s) n = if is_private k s then Returned s
    else Freed (node_of (front_of k.ledgers s))
told L k births (Look s f) n = told_look f n
told L k births (Fill s f v) n = Filled
told L k births (Link p side leaf new) n =
    if n == 4 * leaf then Linked (node_linked k new) else Lost (edge_in n)
told L k births (Flag p side leaf) n =
    if n == 4 * leaf then Flagged (known_as births leaf) else Lost (edge_in n)
told L k births (Tag p side) n = Was (edge_in n)
told L k births (Splice a side s p keep) n =
    if n == 4 * s then Cut (map (known_as births)
    (cut_by k s (unwrap_or (way L.nodes k s p) []) keep)) else Lost (edge_in n)
told L k births (Swap p side leaf new) n =
    if n == 4 * leaf then Cut (known_as births leaf ∷ []) else Lost (edge_in n)
told L k births (Join v) n = Joined []

-- the reply to an allowed event is this one, by the word that it touches, for all births that are
-- in memory
abbrev pub RepliesAreTold : State → Type 0
RepliesAreTold s = (w : ℕ) (e : Event) (births : Births) → BirthsAreIn s.memory births
    → refused s w e ≡ None → BirthsAreKnown s.layout (of s w) births e
    → reply_of s w e
    ≡ told s.layout (of s w) births e (word_at s.layout s.memory (touched_field w e))
