use Rattle.std.proofs.Common.{map, arith}
use Rattle.std.proofs.lemmas.List.{length-map}
use Rattle.nm_files.proofs.EntryLemmas.{entry_short}
use Rattle.nm_files.proofs.read.line.entry_of.Goals as goal

pub returns-in_default : goal.returns-in_default
returns-in_default g c = entry_short g.T.FileEntry.kinds c.args.header.now (map (λ f. f.now) c.args.fields.now)
    (omega (arith, length-map c.args.fields.now (λ f. f.now), c.in_default.len_below))
