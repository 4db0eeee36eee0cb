-- The outcome of an event as text.
use Rattle.std.specs.Prelude.{ℕ, List, [], ◌∷◌, ◌++◌, codes, decimal, Result, Ok, Err, if◌then◌else◌}
use Rattle.nm_edge.specs.Edges.{Edge}
use Rattle.nm_edge.specs.declared.node.NodeId.{NodeId}
use Rattle.nm_model.specs.declared.reply.Reply.{Reply}
use Rattle.nm_model.specs.declared.reply.Reply.TheVariants.{Saw, Labelled, Pinned, Missed, Announced, Departed, Idle, In, Moved, Behind, Claimed, Taken, Returned, Freed, KeyIs, BirthIs, EdgeIs, Filled, Linked, Flagged, Was, Cut, Lost, Joined}
use Rattle.nm_model.specs.declared.reply.Refused.{Refused}
use Rattle.nm_model.specs.declared.reply.Refused.TheVariants.{NoWorker, NoSlot, NotPinned, NotHeld, NotPrivate, NotReady, NotFront, TooYoung, NotFrozen, Spent, NotOrdered, NoAnswer, NoMemory}

-- the number of a refusal
abbrev pub refusal_number : Refused → ℕ
refusal_number NoWorker = 1
refusal_number NoSlot = 2
refusal_number NotPinned = 3
refusal_number NotHeld = 4
refusal_number NotPrivate = 5
refusal_number NotReady = 6
refusal_number NotFront = 7
refusal_number TooYoung = 8
refusal_number NotFrozen = 9
refusal_number Spent = 10
refusal_number NoMemory = 11
refusal_number NotOrdered = 12
refusal_number NoAnswer = 13

-- a slot, then f if the edge is flagged, and t if it is tagged
abbrev pub edge_text : Edge → List ℕ
edge_text e = decimal e.slot
    ++ ((if e.flag then codes "f" else []) ++ (if e.tag then codes "t" else []))

-- a slot, a dot and a birth
abbrev pub node_text : NodeId → List ℕ
node_text n = decimal n.slot ++ (codes "." ++ decimal n.birth)

-- each node after a space
abbrev pub spaced_nodes : List NodeId → List ℕ
spaced_nodes [] = []
spaced_nodes (n ∷ ns) = (codes " " ++ node_text n) ++ spaced_nodes ns

-- a reply as text
abbrev pub reply_text : Reply → List ℕ
reply_text (Saw e) = codes "saw " ++ decimal e
reply_text (Labelled e) = codes "label " ++ decimal e
reply_text (Pinned e) = codes "pinned " ++ decimal e
reply_text (Missed e) = codes "lost " ++ decimal e
reply_text (Announced e) = codes "announced " ++ decimal e
reply_text Departed = codes "left"
reply_text Idle = codes "idle"
reply_text (In e) = codes "in " ++ decimal e
reply_text (Moved e) = codes "moved " ++ decimal e
reply_text (Behind e) = codes "lost " ++ decimal e
reply_text (Claimed s) = codes "claimed " ++ decimal s
reply_text Taken = codes "lost"
reply_text (Returned s) = codes "returned " ++ decimal s
reply_text (Freed n) = codes "freed " ++ node_text n
reply_text (KeyIs k) = codes "key " ++ decimal k
reply_text (BirthIs b) = codes "birth " ++ decimal b
reply_text (EdgeIs e) = codes "edge " ++ edge_text e
reply_text Filled = codes "filled"
reply_text (Linked n) = codes "linked " ++ node_text n
reply_text (Flagged n) = codes "flagged " ++ node_text n
reply_text (Was e) = codes "was " ++ edge_text e
reply_text (Cut ns) = codes "cut" ++ spaced_nodes ns
reply_text (Lost e) = codes "lost " ++ edge_text e
reply_text (Joined ls) = codes "joined"

-- the outcome of an event as text: its reply, or its refusal
abbrev pub outcome_text : Result Reply Refused → List ℕ
outcome_text (Ok r) = reply_text r
outcome_text (Err r) = codes "refused " ++ decimal (refusal_number r)
