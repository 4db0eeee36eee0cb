-- How many exchanges a worker has won, by its log.
use Rattle.std.specs.Prelude.{◌≡◌, ℕ, ◌+◌, Bool, true, false, List, Result, Ok, Err}
use Rattle.nm_model.specs.Walks.{Entry}
use Rattle.nm_calls.specs.declared.deleting.Deletion.{Deletion}
use Rattle.nm_calls.specs.declared.deleting.Deletion.TheVariants as deletion
use Rattle.nm_calls.specs.declared.fault.CallFault.{CallFault}
use Rattle.nm_walks.specs.WonCounts.{won_flags, won_links}

-- ---- in what a call adds to a log

-- l links and f flags were won between a log and a later one
pub record HasWon (old new : List Entry) (l f : ℕ) : Type 0 where
  pub links : won_links new ≡ won_links old + l
  pub flags : won_flags new ≡ won_flags old + f

-- the links that an insert has won, by its answer: one if it returned true, else none
abbrev pub links_of_insert : Result Bool CallFault → ℕ
links_of_insert (Ok true) = 1
links_of_insert (Ok false) = 0
links_of_insert (Err fault) = 0

-- the flags that a delete has won, by its result: one if it returned true or `Pending`, else none
abbrev pub flags_of_delete : Result Deletion CallFault → ℕ
flags_of_delete (Ok (deletion.Done true)) = 1
flags_of_delete (Ok (deletion.Pending leaf)) = 1
flags_of_delete _ = 0
