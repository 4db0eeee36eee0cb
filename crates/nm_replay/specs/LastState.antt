-- The summary of the last state: the ledger of each worker, the epoch, the numbers of slots by
-- their place, and in an ordered file the keys of the set.
use Rattle.std.specs.Prelude.{ℕ, Bool, true, false, zero, suc, List, [], ◌++◌}
use Rattle.nm_model.specs.Runs.{State}
use Rattle.nm_model.specs.Reports.{ledger_of, counts, keys}
use Rattle.nm_files.specs.declared.read.header.Header.{Header}
use Rattle.nm_files.specs.LastLines.{ledger_lines, epoch_line, places_line, keys_line}

-- the lines of the workers below this number, in the order of their numbers
abbrev pub workers_lines : State → ℕ → List ℕ
workers_lines s zero = []
workers_lines s (suc n) = workers_lines s n ++ ledger_lines n (ledger_of s n)

-- the line of the keys, only in an ordered file
abbrev pub keys_line_in : Bool → State → List ℕ
keys_line_in true s = keys_line (keys s)
keys_line_in false s = []

-- the summary of the last state, for a file with that header
unfoldable pub last_lines : Header → State → List ℕ
last_lines header s = workers_lines s header.layout.workers
    ++ (epoch_line s.memory.epoch ++ (places_line (counts s) ++ keys_line_in header.forms.is_extended s))
