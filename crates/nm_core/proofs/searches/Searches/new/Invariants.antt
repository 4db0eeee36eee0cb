use Rattle.std.proofs.Common.{◌≡◌, replicate}
use Rattle.nm_model.specs.Searches.{idle}
use Rattle.nm_model.specs.Rooms.{searches_of}
use Rattle.nm_core.proofs.searches.Searches.new.Given as goal

-- so many are idle
abbrev pub invariant-loop : goal.invariant-loop
invariant-loop l = searches_of l.by_worker.items ≡ replicate l.counter idle
