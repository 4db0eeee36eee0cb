use Rattle.std.proofs.Common.{map, arith}
use Rattle.std.proofs.lemmas.List.{length-map}
use Rattle.nm_files.proofs.EntryLemmas.{header_short}
use Rattle.nm_files.proofs.read.header.header_of.Goals as goal

pub returns-in_default-clause-says : goal.returns-in_default-clause-says
returns-in_default-clause-says c = header_short c.args.command (map (λ f. f.now) c.args.fields.now)
    (omega (arith, length-map c.args.fields.now (λ f. f.now), c.in_default.len_below))
