use Rattle.nm_puts.proofs.PutsOfSwaps.{replaced_values_have_puts as proved}
use Rattle.nm_puts.proofs.laws.replaced_values_have_puts.Goals as goal

pub returns : goal.returns
returns c = proved
