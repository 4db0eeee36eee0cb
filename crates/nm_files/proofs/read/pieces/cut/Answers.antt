use Rattle.std.proofs.Common.{◌+◌, sym}
use Rattle.std.proofs.lemmas.List.{take_rest}
use Rattle.nm_files.proofs.PieceLemmas.{cut_none, cut_some}
use Rattle.nm_files.proofs.read.pieces.cut.Goals as goal

pub returns-in-None-clause-pieces : goal.returns-in-None-clause-pieces
returns-in-None-clause-pieces c = cut_none c.args.c c.args.text.now (sym c.in-None.ensures)

pub returns-in-Some-clause-pieces : goal.returns-in-Some-clause-pieces
returns-in-Some-clause-pieces c =
    rw (take_rest c.args.text.now (c.in-Some.at + 1))
    (cut_some c.args.c c.args.text.now c.in-Some.at (sym c.in-Some.ensures))
