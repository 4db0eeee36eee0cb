use Rattle.nm_laws.proofs.Labels.{labels_do_not_fall, no_label_is_above, briefs_are_right}
use Rattle.nm_laws.proofs.laws.labels_are_in_order.Goals as goal

pub returns-clause-rising : goal.returns-clause-rising
returns-clause-rising c = labels_do_not_fall

pub returns-clause-below : goal.returns-clause-below
returns-clause-below c = no_label_is_above

pub returns-clause-told : goal.returns-clause-told
returns-clause-told c = briefs_are_right
