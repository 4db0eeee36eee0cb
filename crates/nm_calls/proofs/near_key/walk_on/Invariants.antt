use Rattle.std.proofs.Common.{◌*◌, ℕ, false}
use Rattle.nm_edge.specs.Keys.{IsKey}
use Rattle.nm_walks.specs.Bounds.{reach}
use Rattle.nm_calls.specs.NearKeys.{HaveNone, IsPast, Lies, bound}
use Rattle.nm_walks.specs.AddedLooks.{AddsLooks}
use Rattle.nm_calls.specs.PlainWalks.{HasEndedSo, most_looks}
use Rattle.nm_walks.specs.Telling.{GoesOn, OnlyLooks}
use Rattle.nm_calls.proofs.near_key.walk_on.Given as goal

abbrev pub invariant-loop-walk : goal.invariant-loop-walk
invariant-loop-walk l = record {
  looks : AddsLooks (l._walk * most_looks (reach l.shared.layout) 1) l.fn.pass.view.log l.pass.view.log;
  is_key : IsKey l.from;
  beyond : Lies l.fn.side l.fn.key l.from;
  earlier : (j : ℕ) → Lies l.fn.side l.fn.key j → IsPast l.fn.side j l.from → HasEndedSo l.pass j false;
  walked : HaveNone l.fn.side l.shared.layout l._walk l.fn.key (bound l.fn.side l.from) l.fn.pass.view.log
      l.pass.view.log;
  on : GoesOn l.fn.pass l.pass;
  only : OnlyLooks l.fn.pass l.pass;
}
