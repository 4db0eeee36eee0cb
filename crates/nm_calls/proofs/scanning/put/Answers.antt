use Rattle.std.proofs.Common.{◌≡◌, ◌<◌, ◌+◌, ◌++◌, ◌∷◌, [], length, subst, sym, take}
use Rattle.std.specs.Prelude.{slice_set}
use Rattle.nm_calls.specs.declared.scan_plan.What.{What}
use Rattle.nm_calls.specs.MapScans.{keys_in, leaf_of}
use Rattle.nm_calls.proofs.ScannedEntries.{key_more}
use Rattle.nm_calls.proofs.scanning.put.Goals as goal

pub returns-in-Entries-clause-keys : goal.returns-in-Entries-clause-keys
returns-in-Entries-clause-keys c =
    let n = c.args.progress.now.count in
    let k = c.args.stretch.now.found in
    let out = c.args.out.now in
    let entries = c.args.entries.now in
    subst (λ (w : What). take (n + 1) (keys_in w out (slice_set entries n (leaf_of k c.from.result)))
    ≡ take n (keys_in w out entries) ++ k ∷ []) (sym c.in-Entries.is)
    (key_more entries n k c.from.result (subst (λ (w : What). n < length (keys_in w out entries)) c.in-Entries.is
    c.requires.room))
