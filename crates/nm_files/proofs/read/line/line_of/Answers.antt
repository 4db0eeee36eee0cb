use Rattle.std.proofs.Common.{◌≡◌, ◌∙◌, ap, true, sym}
use Rattle.std.specs.List.{list_all}
use Rattle.nm_files.specs.Lines.{fields, is_field}
use Rattle.nm_files.specs.Entries.{entry_of}
use Rattle.nm_files.proofs.EntryLemmas.{entry_take}
use Rattle.nm_files.proofs.read.line.line_of.Goals as goal

pub returns : goal.returns
returns g c =
    let formed : list_all is_field (fields c.args.line.now) ≡ true = sym c.is_formed.ensures
    ∙ c.if-not-is_formed.false in
    rw formed (c.entry_of.ensures ∙ rw c.as_slice.ensures.value
    (ap (entry_of g.T.FileEntry.kinds c.args.header.now) c.fields_of.ensures
    ∙ entry_take g.T.FileEntry.kinds g.T.FileEntry.few c.args.header.now (fields c.args.line.now)))
