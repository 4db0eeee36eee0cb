use Rattle.std.proofs.lemmas.Result.{err_from_is_err_and}
use Rattle.nm_files.specs.declared.read.header.Command.TheVariants.{Serial}
use Rattle.nm_serial.proofs.EndingLemmas.{alone_by_fault, ends_by_fault, ends_played, text_of_script}
use Rattle.nm_serial.specs.Texts.{IsSerialText}
use Rattle.nm_serial.proofs.one_thread.output.Goals as goal

pub returns-in_err-script-clause-ends : goal.returns-in_err-script-clause-ends
returns-in_err-script-clause-ends c =
    let p = err_from_is_err_and c.from_residual.result c.from_residual.ensures.1 in
    rw (p.1, p.2) (ends_by_fault Serial c.args.bytes.now c.in_err-script.field-0.0 c.in_err-script.ensures.says)

pub returns-clause-ends : goal.returns-clause-ends
returns-clause-ends c = ends_played Serial c.args.bytes.now _ c.text_of.result c.in_ok-script.ensures.says
    c.text_of.ensures.err

pub returns-clause-text : goal.returns-clause-text
returns-clause-text c = text_of_script IsSerialText Serial c.args.bytes.now _ _ c.text_of.result
    c.in_ok-script.ensures.says c.in_ok-script.ensures.body c.text_of.ensures.text

pub returns-in_err-script-clause-alone : goal.returns-in_err-script-clause-alone
returns-in_err-script-clause-alone c =
    let p = err_from_is_err_and c.from_residual.result c.from_residual.ensures.1 in
    rw (p.1, p.2) (alone_by_fault Serial c.args.bytes.now c.in_err-script.field-0.0 c.in_err-script.ensures.says)
