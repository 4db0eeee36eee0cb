use Rattle.std.proofs.Common.{refl}
use Rattle.nm_steps.proofs.PackedReads.{each_field_has_a_word, each_word_is_its_field, each_bit_is_its_slot, spare_bits_are_zero}
use Rattle.nm_steps.proofs.PackedEvents.{each_state_fits, each_fixed_bit_is_zero}
use Rattle.nm_steps.proofs.words.words_tell_the_memory.Goals as goal

pub returns-clause-counted : goal.returns-clause-counted
returns-clause-counted c = each_field_has_a_word

pub returns-clause-fields : goal.returns-clause-fields
returns-clause-fields c = each_word_is_its_field

pub returns-clause-bits : goal.returns-clause-bits
returns-clause-bits c = each_bit_is_its_slot

pub returns-clause-spare : goal.returns-clause-spare
returns-clause-spare c = spare_bits_are_zero

pub returns-clause-runs : goal.returns-clause-runs
returns-clause-runs c = each_state_fits

pub returns-clause-fixed : goal.returns-clause-fixed
returns-clause-fixed c = each_fixed_bit_is_zero

pub returns-clause-opening : goal.returns-clause-opening
returns-clause-opening c = refl
