use Rattle.nm_order.proofs.TaughtWalks.{walks_begin, walks_learn_keys, walks_go_on, walks_end}
use Rattle.nm_order.proofs.taught.looks_take_walks_on.Goals as goal

pub returns-clause-begin : goal.returns-clause-begin
returns-clause-begin c = walks_begin

pub returns-clause-keys : goal.returns-clause-keys
returns-clause-keys c = walks_learn_keys

pub returns-clause-on : goal.returns-clause-on
returns-clause-on c = walks_go_on

pub returns-clause-end : goal.returns-clause-end
returns-clause-end c = walks_end
