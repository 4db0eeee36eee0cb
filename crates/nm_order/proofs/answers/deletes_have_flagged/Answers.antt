use Rattle.nm_order.proofs.RunExchanges.{each_true_delete}
use Rattle.nm_order.proofs.answers.deletes_have_flagged.Goals as goal

pub returns : goal.returns
returns c = each_true_delete
