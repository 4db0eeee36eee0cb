use Rattle.std.proofs.lemmas.Result.{err_from_is_err_and}
use Rattle.nm_replay.proofs.LimitLemmas.{tells_fault, tells_text, tells_right}
use Rattle.nm_files.proofs.ResultLemmas.{ok_then, err_always}
use Rattle.nm_replay.proofs.run.replay.Goals as goal

pub returns-in_err-text-clause-line : goal.returns-in_err-text-clause-line
returns-in_err-text-clause-line g c =
    let p = err_from_is_err_and c.from_residual-in_err-text.result c.from_residual-in_err-text.ensures.1 in
    rw (p.1, p.2) (tells_fault (g.R.Read.remaining c.args.reader.now) c.in_ok-bytes.bytes.items
    c.in_err-text.field-0.0 c.in_ok-bytes.ensures.bytes (rw c.as_slice.ensures.value at c.in_err-text.ensures))

pub returns-clause-ok : goal.returns-clause-ok
returns-clause-ok g c =
    ok_then c.write_text.result (λ wrote. tells_text (g.R.Read.remaining c.args.reader.now) c.in_ok-bytes.bytes.items
    c.in_ok-text.text.items _ _ c.in_ok-bytes.ensures.bytes (rw c.as_slice.ensures.value at c.in_ok-text.ensures)
    (rw c.as_slice-2.ensures.value at wrote)) c.write_text.ensures.ok

pub returns-clause-write : goal.returns-clause-write
returns-clause-write g c =
    err_always c.write_text.result _ (λ e is. tells_right (g.R.Read.remaining c.args.reader.now)
    c.in_ok-bytes.bytes.items c.in_ok-text.text.items c.in_ok-bytes.ensures.bytes
    (rw c.as_slice.ensures.value at c.in_ok-text.ensures))
