use Rattle.std.specs.Option.{option_copied}
use Rattle.nm_files.specs.Lines.{further}
use Rattle.nm_serial.proofs.LineLemmas.{all_answered}
use Rattle.nm_serial.proofs.answer_lines.put_lines.Goals as goal

pub returns-after-loop-answer : goal.returns-after-loop-answer
returns-after-loop-answer c = all_answered c.loop-answer.out.items (further 10 (option_copied c.loop-answer.rest))
    c.args.answers.now c.loop-answer.answer-index _ c.loop-answer-test.false c.loop-answer.invariant
