use Rattle.std.proofs.Common.{◌≡◌, ◌≤◌, length}
use Rattle.nm_files.specs.Lines.{parts}
use Rattle.nm_files.specs.Files.{entries_from}
use Rattle.nm_files.specs.Entries.{line_of}
use Rattle.nm_files.proofs.FileLemmas.{with_front}
use Rattle.nm_files.proofs.read.file.entries_of.Given as goal

abbrev pub invariant-loop-after : goal.invariant-loop-after
invariant-loop-after g l = record {
  number : l.number ≤ 100002;
  told : with_front l.entries.items (entries_from (line_of g.T.FileEntry.kinds l.header) l.number (parts l.rest))
      ≡ entries_from (line_of g.T.FileEntry.kinds l.header) 2 (parts l.body);
}

abbrev pub decreases-loop-after : goal.decreases-loop-after
decreases-loop-after g l = length l.rest
