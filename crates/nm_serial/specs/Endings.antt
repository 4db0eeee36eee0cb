-- The last lines of the output, and what they say of the closed tree.
use Rattle.std.specs.Prelude.{◌≡◌, ℕ, List, [], ◌∷◌, ◌++◌}
use Rattle.nm_serial.specs.ClosedLines.{closed_worker_line, closed_places_line}
use Rattle.nm_epoch.specs.declared.collecting.HeldQueue.{HeldQueue}
use Rattle.nm_files.specs.LastLines.{keys_line}
use Rattle.nm_steps.specs.Steps.{TreeView}
use Rattle.nm_tree.specs.Closing.{IsClosed}
use Rattle.nm_tree.specs.Workers.{WorkerView, counts_in, waiting_in}

-- a line for the worker of each queue, with its counts
abbrev pub worker_lines : List HeldQueue → List ℕ
worker_lines [] = []
worker_lines (h ∷ hs) =
    closed_worker_line h.origin (counts_in h).retired (counts_in h).freed h.queue.items
    ++ worker_lines hs

-- all last lines
abbrev pub ending_lines : List HeldQueue → List ℕ → ℕ → ℕ → List ℕ
ending_lines queues keys free reached =
    worker_lines queues ++ (keys_line keys ++ closed_places_line free reached (waiting_in queues))

-- The tree of these workers was closed, and the text has its report. It has a line for each worker,
-- resigned or not, with its queue and the counts that this queue gives of its ledger (`told` of
-- `IsClosed`). It has the keys, and the numbers of free, reached and queued slots
pub record IsEnding (b : TreeView) (ws : List WorkerView) (text : List ℕ) : Type 0 where
  pub queues : List HeldQueue
  pub keys : List ℕ
  pub free : ℕ
  pub reached : ℕ
  pub closed : IsClosed b ws queues keys free reached
  pub text_is : text ≡ ending_lines queues keys free reached
