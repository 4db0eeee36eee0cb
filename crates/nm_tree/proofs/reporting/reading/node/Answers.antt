use Rattle.std.proofs.Common.{ℕ, ◌<◌, length, subst, sym, ap, ◌∙◌}
use Rattle.std.specs.Prelude.{slice_index}
use Rattle.nm_edge.specs.Words.{at_key, at_birth}
use Rattle.nm_tree.proofs.Ends.{within, tells}
use Rattle.nm_tree.proofs.reporting.reading.node.Goals as goal

pub word-key-requires : goal.word-key-requires
word-key-requires c = subst (λ (n : ℕ). n < length c.args.words.now.core) (sym c.key.ensures.word)
    (within c.args.layout c.args.words.now.core c.requires.ended (at_key c.args.slot) c.requires.slot)

pub word-birth-requires : goal.word-birth-requires
word-birth-requires c = subst (λ (n : ℕ). n < length c.args.words.now.core) (sym c.birth.ensures)
    (within c.args.layout c.args.words.now.core c.requires.ended (at_birth c.args.slot) c.requires.slot)

pub returns : goal.returns
returns c = λ e i. record {
  key = (c.word-key.ensures ∙ (ap (slice_index c.args.words.now.core) c.key.ensures.word
      ∙ tells c.args.layout c.args.words.now.core e (at_key c.args.slot) c.requires.slot)) i;
  left = c.edge.ensures e i;
  right = c.edge-2.ensures e i;
  birth = (c.word-birth.ensures ∙ (ap (slice_index c.args.words.now.core) c.birth.ensures
      ∙ tells c.args.layout c.args.words.now.core e (at_birth c.args.slot) c.requires.slot)) i;
}
