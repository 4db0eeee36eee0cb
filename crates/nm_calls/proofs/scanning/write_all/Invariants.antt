use Rattle.std.proofs.Common.{◌≡◌, ◌≢◌, ◌≤◌, ◌+◌, ◌*◌, ℕ}
use Rattle.std.specs.Prelude.{All, length, take}
use Rattle.nm_walks.specs.AddedLooks.{AddsLooks}
use Rattle.nm_walks.specs.Bounds.{reach}
use Rattle.nm_walks.specs.Telling.{GoesOn, OnlyLooks}
use Rattle.nm_calls.specs.declared.scan_plan.What.TheVariants.{Entries}
use Rattle.nm_calls.specs.MapScans.{EndsAt, IsLeafOf, keys_in}
use Rattle.nm_calls.specs.PlainWalks.{HasEndedSo}
use Rattle.nm_calls.specs.Scans.{IsRangeBy, IsStretch, entry_of, leg_looks}
use Rattle.nm_calls.proofs.ScanLooks.{HasCome, HasSpent}
use Rattle.nm_calls.proofs.scanning.write_all.Given as goal

abbrev pub invariant-loop-turn : goal.invariant-loop-turn
invariant-loop-turn l = record {
  legs : (m : ℕ) × (m + l.progress.spare ≡ l.progress.count + l.tries)
      × AddsLooks (m * leg_looks (reach l.shared.layout)) l.fn.pass.view.log l.pass.view.log;
  walks : IsStretch l.plan.side l.plan.end 0 l.pass l.stretch;
  ended : l.stretch.next.slot ≡ 0;
  hit : l.plan.what ≡ Entries → EndsAt l.pass l.stretch l.progress.leaf;
  at : l.progress.at ≡ entry_of l.plan.side l.stretch;
  kept : All (IsStretch l.plan.side l.plan.end 0 l.pass) l.stretches.items;
  some : l.progress.spare ≢ 0;
  count : (l.progress.count ≤ l.plan.room) × (length (keys_in l.plan.what l.out l.entries)
      ≡ length (keys_in l.plan.what l.fn.out l.fn.entries));
  shown : IsRangeBy l.plan.side (HasEndedSo l.pass) (entry_of l.plan.side l.first) l.progress.at
      (take l.progress.count (keys_in l.plan.what l.out l.entries));
  leaves : l.plan.what ≡ Entries → All (IsLeafOf l.pass) (take l.progress.count l.entries);
  come : HasCome l.plan.side (entry_of l.plan.side l.first) l._turn l.progress.at l.progress.count;
  spent : HasSpent l.pass l.tries l._turn l.progress.at l.progress.spare;
  turns : l._turn + l.progress.spare ≡ l.progress.count + l.tries;
  on : GoesOn l.fn.pass l.pass;
  only : OnlyLooks l.fn.pass l.pass;
}
