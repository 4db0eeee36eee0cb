use Rattle.std.proofs.Common.{◌∙◌, ap}
use Rattle.nm_files.specs.Lines.{fields}
use Rattle.nm_files.specs.Headers.{header_of}
use Rattle.nm_files.proofs.EntryLemmas.{header_take}
use Rattle.nm_files.proofs.read.line.first_line_of.Goals as goal

pub returns-clause-says : goal.returns-clause-says
returns-clause-says c = c.header_of.ensures.says
    ∙ rw c.as_slice.ensures.value (ap (header_of c.args.command) c.fields_of.ensures
    ∙ header_take c.args.command (fields c.args.line.now))
