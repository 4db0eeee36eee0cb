use Rattle.nm_laws.proofs.EachState.{each_epoch_agrees}
use Rattle.nm_laws.proofs.laws.epochs_agree.Goals as goal

pub returns : goal.returns
returns c = each_epoch_agrees
