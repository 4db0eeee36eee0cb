use Rattle.std.proofs.Common.{◌≡◌, ◌≤◌, length}
use Rattle.nm_set.specs.Seats.{ArePlaces}
use Rattle.nm_set.proofs.home.mailboxes_of.Given as goal

abbrev pub invariant-loop-number : goal.invariant-loop-number
invariant-loop-number l = record {
  places : ArePlaces l.place.0 0 l.mailboxes.items;
  count : length l.mailboxes.items ≡ l.number;
  site : l.place.0 ≡ l.fn.site;
  within : l.number ≤ l.fn.workers;
}
