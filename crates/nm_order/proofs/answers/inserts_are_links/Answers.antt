use Rattle.nm_order.proofs.RunExchanges.{each_true_insert}
use Rattle.nm_order.proofs.answers.inserts_are_links.Goals as goal

pub returns : goal.returns
returns c = each_true_insert
