use Rattle.std.proofs.Common.{◌∙◌, refl, ap, arith}
use Rattle.std.proofs.Math.Seq.{map-set_same}
use Rattle.std.proofs.lemmas.List.{length-map}
use Rattle.nm_steps.specs.Steps.{PassView}
use Rattle.nm_walks.proofs.GoingOn.{goes_then, only_then, pinned_in_still}
use Rattle.nm_walks.proofs.ValueLooks.{looks_by_value}
use Rattle.nm_calls.specs.declared.map_scanning.MapEntry.{MapEntry}
use Rattle.nm_calls.proofs.ScanLooks.{goes_here, only_here}
use Rattle.nm_calls.proofs.ScannedEntries.{all_unread, read_more, unread_still}
use Rattle.nm_calls.proofs.map_scanning.read_values.Goals as goal

pub loop-index-init : goal.loop-index-init
loop-index-init c =
    let o = c.args.pass.now in
    let entries = c.args.entries.now in
    let within = c.requires.within in
    let long = length-map entries (λ (e : MapEntry). e.key) in
    record {
      read = λ k d low less. absurd (omega (arith, less));
      unread = all_unread o entries c.args.count (omega (arith, within, long)) c.requires.leaves;
      keys = refl;
      log = refl;
      on = goes_here c.args.shared.now o c.requires.pinned;
      only = only_here o;
    }

pub loop-index-preserved : goal.loop-index-preserved
loop-index-preserved c =
    let o = c.args.pass.now in
    let p = c.loop-index.pass in
    let q = c.read_value.new.pass in
    let held = c.loop-index.invariant in
    let did = c.read_value.ensures in
    let log = ap (λ (x : PassView). x.view.log) did.looks.same in
    let entries = c.loop-index.entries in
    let i = c.loop-index.index in
    let e = c.read_value.new.entry in
    let below = c.loop-index-test.true in
    let within = c.requires.within in
    let long = length-map c.args.entries.now (λ (x : MapEntry). x.key) in
    let same = c.loop-index.auto.entries in
    record {
      read = read_more o p q held.on did.on log entries i c.args.count (omega (arith, below, within, long, same)) e
          did.read held.read;
      unread = unread_still o p q held.on did.on log entries i c.args.count
          (omega (arith, below, within, long, same)) e did.read held.unread;
      keys = map-set_same (λ (x : MapEntry). x.key) entries i e (record { key = 0; value = 0 }) did.key ∙ held.keys;
      log = log ∙ held.log;
      on = goes_then o p q held.on did.on;
      only = only_then o p q held.only (looks_by_value p q did.looks);
    }

pub read_value-requires-clause-pinned : goal.read_value-requires-clause-pinned
read_value-requires-clause-pinned c = pinned_in_still c.args.shared.now c.args.pass.now c.loop-index.pass
    c.loop-index.invariant.on c.requires.pinned

pub read_value-requires-clause-leaf : goal.read_value-requires-clause-leaf
read_value-requires-clause-leaf c = let below = c.loop-index-test.true in
    c.loop-index.invariant.unread c.loop-index.index (record { key = 0; value = 0 }) (omega arith)
    (omega (arith, below))
