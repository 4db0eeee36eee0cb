use Rattle.std.proofs.Common.{◌≡◌, ℕ, ◌<◌, true, length, subst, sym, ap, ◌∙◌}
use Rattle.std.specs.Prelude.{slice_index}
use Rattle.nm_edge.specs.Edges.{edge_in, is_word}
use Rattle.nm_edge.specs.Words.{at_edge}
use Rattle.nm_tree.proofs.Ends.{within, edge_told, is_told_by_a_word}
use Rattle.nm_tree.proofs.reporting.reading.edge.Goals as goal

pub word-word-requires : goal.word-word-requires
word-word-requires c = subst (λ (n : ℕ). n < length c.args.words.now.core) (sym c.edge.ensures)
    (within c.args.layout c.args.words.now.core c.requires.ended (at_edge c.args.slot c.args.side) c.requires.slot)

pub of_word-requires : goal.of_word-requires
of_word-requires c = subst (λ (n : ℕ). is_word n ≡ true)
    (sym (c.word-word.ensures ∙ ap (slice_index c.args.words.now.core) c.edge.ensures))
    (is_told_by_a_word c.args.layout c.args.words.now.core c.requires.ended c.args.slot c.args.side c.requires.slot)

pub returns : goal.returns
returns c = λ e. c.of_word.ensures ∙ (ap edge_in
    (c.word-word.ensures ∙ ap (slice_index c.args.words.now.core) c.edge.ensures)
    ∙ edge_told c.args.layout c.args.words.now.core e c.args.slot c.args.side c.requires.slot)
