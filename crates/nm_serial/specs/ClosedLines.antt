-- The last lines of the output: a line for each worker, the keys, and the numbers of slots in each
-- place.
use Rattle.std.specs.Prelude.{ℕ, List, ◌++◌, codes, decimal, map}
use Rattle.nm_epoch.specs.declared.collecting.Entry.{Entry}
use Rattle.nm_epoch.specs.Collecting.{queued}
use Rattle.nm_files.specs.LastLines.{spaced_entries, queue_text}

-- each entry after a space
abbrev pub spaced_waiting : List Entry → List ℕ
spaced_waiting es = spaced_entries (map queued es)

-- each entry after a space, or a dash if there is none
abbrev pub waiting_text : List Entry → List ℕ
waiting_text es = queue_text (map queued es)

-- how many nodes a worker's splices cut off, how many of them were freed, and those that wait
unfoldable pub closed_worker_line : ℕ → ℕ → ℕ → List Entry → List ℕ
closed_worker_line worker retired freed es =
    (codes "worker " ++ decimal worker)
    ++ ((codes " retired " ++ decimal retired)
    ++ ((codes " freed " ++ decimal freed)
    ++ (codes " queue" ++ (waiting_text es ++ codes "\n"))))

-- how many slots above 5 are in the pool, reached and queued
unfoldable pub closed_places_line : ℕ → ℕ → ℕ → List ℕ
closed_places_line pool reached queued =
    (codes "places pool " ++ decimal pool)
    ++ ((codes " reached " ++ decimal reached)
    ++ ((codes " queued " ++ decimal queued) ++ codes "\n"))
