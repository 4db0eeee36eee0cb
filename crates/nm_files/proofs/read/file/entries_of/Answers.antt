use Rattle.std.proofs.Common.{◌≡◌, ◌∷◌, ◌++◌, [], sym, ◌∙◌, arith, rules}
use Rattle.std.proofs.lemmas.Result.{err_from_is_err_and}
use Rattle.nm_files.specs.Lines.{parts}
use Rattle.nm_files.specs.Files.{entries_from}
use Rattle.nm_files.specs.Entries.{line_of}
use Rattle.nm_files.proofs.FileLemmas.{goes_on, ends, done, is_cut, pieces_full}
use Rattle.nm_files.proofs.read.file.entries_of.Goals as goal

pub returns-then-is_empty : goal.returns-then-is_empty
returns-then-is_empty g c =
    let cut : parts c.loop-after.rest.now ≡ c.cut.result.0.now ∷ [] = rw c.in_default.is at c.cut.ensures.pieces in
    done (line_of g.T.FileEntry.kinds c.args.header.now) c.loop-after.entries.items c.loop-after.number
    (parts c.loop-after.rest.now) c.cut.result.0.now
    (entries_from (line_of g.T.FileEntry.kinds c.args.header.now) 2 (parts c.args.body.now)) cut
    (sym c.is_empty.ensures ∙ c.if-is_empty.true) c.loop-after.invariant.told

pub returns-in_default : goal.returns-in_default
returns-in_default g c =
    let cut : parts c.loop-after.rest.now ≡ c.cut.result.0.now ∷ [] = rw c.in_default.is at c.cut.ensures.pieces in
    rw c.cut_off.ensures (is_cut (line_of g.T.FileEntry.kinds c.args.header.now) c.loop-after.entries.items
    c.loop-after.number (parts c.loop-after.rest.now) c.cut.result.0.now
    (entries_from (line_of g.T.FileEntry.kinds c.args.header.now) 2 (parts c.args.body.now)) cut
    (sym c.is_empty.ensures ∙ c.if-is_empty.false) c.loop-after.invariant.told)

pub returns-in_err-entry : goal.returns-in_err-entry
returns-in_err-entry g c =
    let cut : parts c.loop-after.rest.now ≡ c.cut.result.0.now
    ∷ parts c.in-Some.after.now = rw c.in-Some.is at c.cut.ensures.pieces in
    let p = err_from_is_err_and c.from_residual.result c.from_residual.ensures.1 in
    rw (p.1, p.2) (ends (line_of g.T.FileEntry.kinds c.args.header.now) c.in_err-entry.field-0.0
    c.loop-after.entries.items c.loop-after.number (parts c.loop-after.rest.now) c.cut.result.0.now
    (parts c.in-Some.after.now) (entries_from (line_of g.T.FileEntry.kinds c.args.header.now) 2
    (parts c.args.body.now)) cut (pieces_full 10 c.in-Some.after.now)
    (rw c.line_of.ensures at c.in_err-entry.ensures.says) c.loop-after.invariant.told)

pub loop-after-preserved : goal.loop-after-preserved
loop-after-preserved g c =
    let cut : parts c.loop-after.rest.now ≡ c.cut.result.0.now
    ∷ parts c.in-Some.after.now = rw c.in-Some.is at c.cut.ensures.pieces in
    let pushed : c.push.new.self.items ≡ c.loop-after.entries.items ++ c.in_ok-entry.entry ∷ [] = search rules in
    record {
      number = omega (arith, c.in_ok-entry.ensures.number);
      told = rw pushed (goes_on (line_of g.T.FileEntry.kinds c.args.header.now) c.loop-after.entries.items
          c.loop-after.number (parts c.loop-after.rest.now) c.cut.result.0.now (parts c.in-Some.after.now)
          c.in_ok-entry.entry (entries_from (line_of g.T.FileEntry.kinds c.args.header.now) 2 (parts c.args.body.now))
          cut (pieces_full 10 c.in-Some.after.now) (rw c.line_of.ensures at c.in_ok-entry.ensures.says)
          c.loop-after.invariant.told);
    }
