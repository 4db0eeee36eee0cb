use Rattle.std.proofs.lemmas.Result.{err_from_is_err_and}
use Rattle.nm_files.specs.declared.read.header.Command.TheVariants.{Stress}
use Rattle.nm_serial.specs.Texts.{IsGateStop, IsStressText}
use Rattle.nm_serial.proofs.EndingLemmas.{tells_line, tells_right, tells_text, tells_gate, ok_always}
use Rattle.nm_files.proofs.ResultLemmas.{ok_then, err_always}
use Rattle.nm_serial.proofs.many_threads.stress.Goals as goal

pub returns-in_err-text-clause-line : goal.returns-in_err-text-clause-line
returns-in_err-text-clause-line g c =
    let p = err_from_is_err_and c.from_residual-in_err-text.result c.from_residual-in_err-text.ensures.1 in
    rw (p.1, p.2) (tells_line Stress (g.I.Read.remaining c.args.reader.now) c.in_ok-bytes.bytes.items
    c.in_err-text.field-0.0 c.in_ok-bytes.ensures.bytes (rw c.as_slice.ensures.value at c.in_err-text.ensures.ends))

pub returns-clause-right : goal.returns-clause-right
returns-clause-right g c =
    ok_always c.write_text.result (tells_right Stress (g.I.Read.remaining c.args.reader.now)
    c.in_ok-bytes.bytes.items c.in_ok-bytes.ensures.bytes (rw c.as_slice.ensures.value at c.in_ok-text.ensures.ends))

pub returns-clause-write : goal.returns-clause-write
returns-clause-write g c =
    err_always c.write_text.result _ (λ e is. tells_right Stress (g.I.Read.remaining c.args.reader.now)
    c.in_ok-bytes.bytes.items c.in_ok-bytes.ensures.bytes (rw c.as_slice.ensures.value at c.in_ok-text.ensures.ends))

pub returns-clause-ok : goal.returns-clause-ok
returns-clause-ok g c =
    ok_then c.write_text.result (λ wrote. tells_text
    (IsStressText (g.G.Gate.lets c.args.gate.now) (g.G.Gate.stops c.args.gate.now)) Stress
    (g.I.Read.remaining c.args.reader.now) c.in_ok-bytes.bytes.items c.in_ok-text.text.items _ _
    c.in_ok-bytes.ensures.bytes (rw c.as_slice.ensures.value at c.in_ok-text.ensures.text)
    (rw c.as_slice-2.ensures.value at wrote)) c.write_text.ensures.ok

pub returns-in_err-text-clause-gate : goal.returns-in_err-text-clause-gate
returns-in_err-text-clause-gate g c =
    let p = err_from_is_err_and c.from_residual-in_err-text.result c.from_residual-in_err-text.ensures.1 in
    rw (p.1, p.2) (tells_gate (IsGateStop (g.G.Gate.lets c.args.gate.now) (g.G.Gate.stops c.args.gate.now)) Stress
    (g.I.Read.remaining c.args.reader.now) c.in_ok-bytes.bytes.items c.in_err-text.field-0.0
    c.in_ok-bytes.ensures.bytes (rw c.as_slice.ensures.value at c.in_err-text.ensures.gate))
