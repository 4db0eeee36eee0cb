-- The summary of a last state as text: a worker's ledger, the epoch, the numbers of slots by their
-- place, and the keys of the set.
use Rattle.std.specs.Prelude.{ℕ, List, [], ◌∷◌, ◌++◌, codes, decimal, Option, Some, None}
use Rattle.nm_edge.specs.declared.node.NodeId.{NodeId}
use Rattle.nm_model.specs.declared.ledger.Queued.{Queued}
use Rattle.nm_model.specs.declared.ledger.Ledger.{Ledger}
use Rattle.nm_model.specs.declared.places.Places.{Places}
use Rattle.nm_files.specs.Replies.{node_text, spaced_nodes}

-- each node after a space, or a dash if there is none
abbrev pub nodes_text : List NodeId → List ℕ
nodes_text [] = codes " -"
nodes_text (n ∷ ns) = spaced_nodes (n ∷ ns)

-- the label of an entry, or a dash if it has none yet
abbrev pub label_text : Option ℕ → List ℕ
label_text None = codes "-"
label_text (Some e) = decimal e

-- a node, an at sign and its label
abbrev pub entry_text : Queued → List ℕ
entry_text q = node_text q.node ++ (codes "@" ++ label_text q.label)

abbrev pub spaced_entries : List Queued → List ℕ
spaced_entries [] = []
spaced_entries (q ∷ qs) = (codes " " ++ entry_text q) ++ spaced_entries qs

-- each entry after a space, or a dash if there is none
abbrev pub queue_text : List Queued → List ℕ
queue_text [] = codes " -"
queue_text (q ∷ qs) = spaced_entries (q ∷ qs)

-- a line of the ledger of a worker
abbrev pub worker_line : ℕ → List ℕ → List ℕ → List ℕ
worker_line worker what list = codes "worker " ++ decimal worker ++ (what ++ (list ++ codes "\n"))

-- the three lines of a worker's ledger; none for a worker that does not exist
abbrev pub ledger_lines : ℕ → Option Ledger → List ℕ
ledger_lines worker None = []
ledger_lines worker (Some l) =
    worker_line worker (codes " retired") (nodes_text l.retired)
    ++ (worker_line worker (codes " freed") (nodes_text l.freed)
    ++ worker_line worker (codes " queue") (queue_text l.queue))

-- the line of the epoch
abbrev pub epoch_line : ℕ → List ℕ
epoch_line e = codes "epoch " ++ decimal e ++ codes "\n"

-- the line of the numbers of slots above 5 in the pool, private, reached and queued
unfoldable pub places_line : Places → List ℕ
places_line p =
    (codes "places pool " ++ decimal p.pool)
    ++ ((codes " private " ++ decimal p.private)
    ++ ((codes " reached " ++ decimal p.reached)
    ++ ((codes " queued " ++ decimal p.queued) ++ codes "\n")))

-- each number after a space
abbrev pub spaced_numbers : List ℕ → List ℕ
spaced_numbers [] = []
spaced_numbers (k ∷ ks) = (codes " " ++ decimal k) ++ spaced_numbers ks

-- each number after a space, or a dash if there is none
abbrev pub numbers_text : List ℕ → List ℕ
numbers_text [] = codes " -"
numbers_text (k ∷ ks) = spaced_numbers (k ∷ ks)

-- the line of the keys of the set, from left to right
abbrev pub keys_line : List ℕ → List ℕ
keys_line ks = codes "keys" ++ (numbers_text ks ++ codes "\n")
