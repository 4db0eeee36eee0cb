use Rattle.std.proofs.Common.{◌∙◌, ◌<◌, ℕ, List, length, sym, arith}
use Rattle.std.specs.Prelude.{take}
use Rattle.std.proofs.lemmas.List.{get_or-take, length-take}
use Rattle.nm_steps.proofs.Counts.{read_there}
use Rattle.nm_steps.proofs.pass.closing.Words.word.Goals as goal

below : (l : List ℕ) (count i : ℕ) → i < length (take count l) → i < count
below l count i less = let long = length-take count l in omega (arith, less, long)

pub returns : goal.returns
returns c = rw (← c.self.view_is) (read_there c.self.inside.closed.words.items c.args.index c.word.result
    c.word.ensures ∙ sym (get_or-take c.self.inside.count c.self.inside.closed.words.items c.args.index 0
    (below c.self.inside.closed.words.items c.self.inside.count c.args.index (rw (← c.self.view_is) at c.requires))))
