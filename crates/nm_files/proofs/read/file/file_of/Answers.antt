use Rattle.std.proofs.Common.{◌≡◌, ◌∷◌, [], Ok, refl}
use Rattle.std.proofs.lemmas.Result.{err_from_is_err_and}
use Rattle.nm_files.specs.Chain.{◌>>=◌}
use Rattle.nm_files.specs.Lines.{parts}
use Rattle.nm_files.specs.Files.{checked, entries_from}
use Rattle.nm_files.specs.Entries.{first_line_of, line_of}
use Rattle.nm_files.proofs.FileLemmas.{opens, opens_not, fails_first, pieces_full}
use Rattle.nm_files.proofs.read.file.file_of.Goals as goal

pub returns-in_default-clause-says : goal.returns-in_default-clause-says
returns-in_default-clause-says g c =
    let cut : parts c.args.bytes.now ≡ c.cut.result.0.now ∷ [] = rw c.in_default.is at c.cut.ensures.pieces in
    rw c.cut_off.ensures (opens_not (first_line_of c.args.command) (line_of g.T.FileEntry.kinds)
    (parts c.args.bytes.now) c.cut.result.0.now cut)

pub returns-in_err-header-clause-says : goal.returns-in_err-header-clause-says
returns-in_err-header-clause-says g c =
    let cut : parts c.args.bytes.now ≡ c.cut.result.0.now
    ∷ parts c.in-Some.body.now = rw c.in-Some.is at c.cut.ensures.pieces in
    let p = err_from_is_err_and c.from_residual.result c.from_residual.ensures.1 in
    let whole = opens (first_line_of c.args.command) (line_of g.T.FileEntry.kinds) (parts c.args.bytes.now)
    c.cut.result.0.now (parts c.in-Some.body.now) cut (pieces_full 10 c.in-Some.body.now) in
    rw (p.1, p.2, whole) (fails_first c.in_err-header.field-0.0
    (checked 1 c.cut.result.0.now (first_line_of c.args.command c.cut.result.0.now))
    (λ header. entries_from (line_of g.T.FileEntry.kinds header) 2 (parts c.in-Some.body.now) >>= λ entries. Ok
    (record { header = header; entries = entries }))
    (rw c.first_line_of.ensures.says at c.in_err-header.ensures.says))

pub returns-in_err-entries-clause-says : goal.returns-in_err-entries-clause-says
returns-in_err-entries-clause-says g c =
    let cut : parts c.args.bytes.now ≡ c.cut.result.0.now
    ∷ parts c.in-Some.body.now = rw c.in-Some.is at c.cut.ensures.pieces in
    let p = err_from_is_err_and c.from_residual-in_err-entries.result c.from_residual-in_err-entries.ensures.1 in
    let whole = opens (first_line_of c.args.command) (line_of g.T.FileEntry.kinds) (parts c.args.bytes.now)
    c.cut.result.0.now (parts c.in-Some.body.now) cut (pieces_full 10 c.in-Some.body.now) in
    rw (p.1, p.2, whole, rw c.first_line_of.ensures.says at c.in_ok-header.ensures.says)
    (fails_first c.in_err-entries.field-0.0 (entries_from (line_of g.T.FileEntry.kinds c.in_ok-header.header) 2
    (parts c.in-Some.body.now)) (λ entries. Ok (record { header = c.in_ok-header.header; entries = entries }))
    c.in_err-entries.ensures)

pub returns-clause-says : goal.returns-clause-says
returns-clause-says g c =
    let cut : parts c.args.bytes.now ≡ c.cut.result.0.now
    ∷ parts c.in-Some.body.now = rw c.in-Some.is at c.cut.ensures.pieces in
    let whole = opens (first_line_of c.args.command) (line_of g.T.FileEntry.kinds) (parts c.args.bytes.now)
    c.cut.result.0.now (parts c.in-Some.body.now) cut (pieces_full 10 c.in-Some.body.now) in
    rw (whole, rw c.first_line_of.ensures.says at c.in_ok-header.ensures.says, c.in_ok-entries.ensures) refl
