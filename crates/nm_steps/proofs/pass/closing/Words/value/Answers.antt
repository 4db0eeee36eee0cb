use Rattle.std.proofs.Common.{◌∙◌, ◌-◌, ◌+◌, sym}
use Rattle.std.proofs.lemmas.List.{get_or-drop}
use Rattle.nm_steps.proofs.Counts.{read_there}
use Rattle.nm_steps.proofs.pass.closing.Words.value.Goals as goal

pub returns : goal.returns
returns c = rw (← c.self.view_is) (read_there c.self.inside.closed.words.items
    (c.self.inside.count + (c.args.slot - 1)) c.word.result c.word.ensures
    ∙ sym (get_or-drop c.self.inside.count c.self.inside.closed.words.items (c.args.slot - 1) 0))
