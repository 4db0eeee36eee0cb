-- The words of the empty tree, built from zeros.
use Rattle.std.specs.Prelude.{◌≡◌, ℕ, ◌+◌, false, List, replicate, None}
use Rattle.nm_edge.specs.Layouts.{Layout}
use Rattle.nm_model.specs.declared.memory.Node.{Node}
use Rattle.nm_model.specs.Memory.{Memory, node, blank, put_node, opening}
use Rattle.nm_steps.specs.Packing.{Fits, words_of}

-- a memory of zeros: nothing was written, every slot is blank, and none is in the pool (Natarajan
-- and Mittal, section 3.1)
abbrev pub untouched : Layout → Memory
untouched L = record {
  epoch = 0;
  announcements = replicate L.workers None;
  nodes = replicate (L.nodes + 1) blank;
  pool = replicate (L.nodes + 1) false;
}

-- the fixed nodes are written, and no slot is in the pool (Natarajan and Mittal, section 3.1)
abbrev pub planted : Layout → Memory
planted L = record (opening L) { pool = replicate (L.nodes + 1) false }

-- the words of any memory become those of the memory with this node in the slot, with the birth
-- unchanged
abbrev pub Plants : Layout → List ℕ → List ℕ → ℕ → Node → Type 0
Plants L before after s x = (m : Memory) → Fits L m → before ≡ words_of L m
    → (node m s).birth ≡ x.birth → after ≡ words_of L (put_node m s x)
