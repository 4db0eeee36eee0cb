use Rattle.std.proofs.Common.{◌≤◌, ◌⊎◌, ℕ, List, refl, sym, subst, take, length}
use Rattle.std.specs.Prelude.{IfSome}
use Rattle.nm_model.specs.Walks.{Entry}
use Rattle.nm_walks.specs.AddedLooks.{AddsLooks}
use Rattle.nm_calls.specs.MapScans.{keys_of}
use Rattle.nm_calls.specs.NearKeys.{bound}
use Rattle.nm_calls.specs.PlainWalks.{HasEndedSo}
use Rattle.nm_calls.specs.Scans.{HasStoppedShort, IsFull, IsRangeBy, end_of}
use Rattle.nm_calls.proofs.PlainLooks.{no_looks}
use Rattle.nm_calls.proofs.ScanLooks.{range_still}
use Rattle.nm_calls.proofs.ScannedEntries.{entries_after}
use Rattle.nm_calls.proofs.map_scanning.scan_and_read.Goals as goal

pub read_values-requires-clause-leaves : goal.read_values-requires-clause-leaves
read_values-requires-clause-leaves c = c.in-Ok.ensures.leaves refl

pub returns-in-Ok-clause-told : goal.returns-in-Ok-clause-told
returns-in-Ok-clause-told c =
    let p = c.scan_pinned.new.pass in
    let q = c.read_values.new.pass in
    let s = c.in-Ok.scanned in
    subst (λ (ks : List ℕ). IsRangeBy c.args.side (HasEndedSo q) (bound c.args.side c.args.from)
    (end_of c.args.side c.args.to s.next) (take s.count ks)) (sym c.read_values.ensures.keys)
    (range_still c.args.side p q (subst (AddsLooks 0 p.view.log) (sym c.read_values.ensures.log)
    (no_looks p.view.log)) (bound c.args.side c.args.from) (end_of c.args.side c.args.to s.next)
    (take s.count (keys_of c.scan_pinned.new.entries)) c.in-Ok.ensures.told)

pub returns-in-Ok-clause-read : goal.returns-in-Ok-clause-read
returns-in-Ok-clause-read c = entries_after c.args.pass.now c.scan_pinned.new.pass c.read_values.new.pass
    c.in-Ok.ensures.on c.read_values.new.entries c.in-Ok.scanned.count c.read_values.ensures.read

pub returns-in-Ok-clause-early : goal.returns-in-Ok-clause-early
returns-in-Ok-clause-early c =
    let L = c.args.shared.now.layout in
    let s = c.in-Ok.scanned in
    subst (λ (log : List Entry). IfSome s.next (λ k. IsFull (length (keys_of c.read_values.new.entries)) s.count
    ⊎ (c.args.tries ≤ 1) ⊎ HasStoppedShort L log)) (sym c.read_values.ensures.log)
    (subst (λ (ks : List ℕ). IfSome s.next (λ k. IsFull (length ks) s.count ⊎ (c.args.tries ≤ 1)
    ⊎ HasStoppedShort L c.scan_pinned.new.pass.view.log)) (sym c.read_values.ensures.keys) c.in-Ok.ensures.early)
