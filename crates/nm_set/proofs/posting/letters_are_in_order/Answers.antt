use Rattle.nm_set.proofs.Letters.{letters_order}
use Rattle.nm_set.proofs.posting.letters_are_in_order.Goals as goal

pub returns : goal.returns
returns c = letters_order
