use Rattle.std.proofs.Common.{ℕ, ◌<◌, ◌-◌, ◌/◌, ◌==◌, length, subst, sym, ap, ap₂, ◌∙◌}
use Rattle.std.specs.Prelude.{slice_index, bit_and, not}
use Rattle.nm_edge.specs.Words.{at_row}
use Rattle.nm_edge.specs.declared.layout.PoolPlace.{PoolPlace}
use Rattle.nm_edge.proofs.Words.{places_are_rows}
use Rattle.nm_tree.proofs.Ends.{within, bit_told}
use Rattle.nm_tree.proofs.reporting.reading.is_free.Goals as goal

pub word-word-requires : goal.word-word-requires
word-word-requires c = subst (λ (p : PoolPlace). p.word < length c.args.words.now.core) (sym c.pool-place.ensures)
    (within c.args.layout c.args.words.now.core c.requires.ended (at_row ((c.args.slot - 1) / 64))
    (places_are_rows c.args.layout c.args.slot c.requires.slot))

pub returns : goal.returns
returns c = λ e. ap₂ (λ (n m : ℕ). not (bit_and n m == 0))
    (c.word-word.ensures ∙ ap (λ (p : PoolPlace). slice_index c.args.words.now.core p.word) c.pool-place.ensures)
    (ap (λ (p : PoolPlace). p.mask) c.pool-place.ensures)
    ∙ bit_told c.args.layout c.args.words.now.core e c.args.slot c.requires.slot
