use Rattle.std.proofs.Common.{◌≡◌, append_assoc, rules, sym, ◌∙◌}
use Rattle.std.specs.Option.{option_copied}
use Rattle.std.proofs.lemmas.List.{append-nil}
use Rattle.nm_files.specs.Lines.{parts, further}
use Rattle.nm_replay.specs.Output.{lines_with}
use Rattle.nm_replay.proofs.ReplyLemmas.{all_replied}
use Rattle.nm_replay.proofs.output.text_of.Goals as goal
use Rattle.nm_replay.proofs.output.text_of.Goals.{else-loop-turn-test, then-loop-turn-test+in_default}

pub returns : goal.returns
returns c =
    let written : c.loop-turn.out.items ≡ lines_with (parts c.args.body.now) c.args.turns.now =
    elim c.loop-turn-test.branch [
      | else-loop-turn-test w ↦ all_replied c.loop-turn.out.items (further 10 (option_copied c.loop-turn.rest))
          c.args.turns.now c.loop-turn.turn-index (lines_with (parts c.args.body.now) c.args.turns.now)
          w.loop-turn-test.false c.loop-turn.invariant
      | then-loop-turn-test+in_default w ↦ sym (append-nil c.loop-turn.out.items)
          ∙ (rw w.in_default.is at c.loop-turn.invariant)
    ] in
    search (rules, append_assoc)
