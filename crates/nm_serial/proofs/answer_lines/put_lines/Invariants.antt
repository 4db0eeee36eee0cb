use Rattle.std.proofs.Common.{◌≡◌, ◌++◌, drop}
use Rattle.std.specs.Option.{option_copied}
use Rattle.nm_files.specs.Lines.{parts, further}
use Rattle.nm_serial.specs.AnswerLines.{lines}
use Rattle.nm_serial.proofs.answer_lines.put_lines.Given as goal

abbrev pub invariant-loop-answer : goal.invariant-loop-answer
invariant-loop-answer l = l.out.items ++ lines (further 10 (option_copied l.rest)) (drop l.answer-index l.answers)
    ≡ l.fn.out.items ++ lines (parts l.body) l.answers
