use Rattle.nm_order.proofs.ToldCuts.{cuts_enter}
use Rattle.nm_order.proofs.told.cuts_enter_the_queue.Goals as goal

pub returns : goal.returns
returns c = cuts_enter
