use Rattle.std.proofs.Common.{◌≡◌}
use Rattle.std.specs.List.{AllWithin}
use Rattle.nm_calls.specs.MapScans.{HasReadEntry, IsLeafOf, keys_of}
use Rattle.nm_walks.specs.Telling.{GoesOn, OnlyLooks}
use Rattle.nm_calls.proofs.map_scanning.read_values.Given as goal

abbrev pub invariant-loop-index : goal.invariant-loop-index
invariant-loop-index l = record {
  read : AllWithin (HasReadEntry l.fn.pass l.pass) l.entries 0 l.index;
  unread : AllWithin (IsLeafOf l.pass) l.entries l.index l.count;
  keys : keys_of l.entries ≡ keys_of l.fn.entries;
  log : l.pass.view.log ≡ l.fn.pass.view.log;
  on : GoesOn l.fn.pass l.pass;
  only : OnlyLooks l.fn.pass l.pass;
}
