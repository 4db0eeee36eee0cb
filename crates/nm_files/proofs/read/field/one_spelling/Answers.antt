use Rattle.nm_files.proofs.SpellingLemmas.{number_is_decimal}
use Rattle.nm_files.proofs.read.field.one_spelling.Goals as goal

pub returns : goal.returns
returns c = number_is_decimal
