use Rattle.nm_callers.proofs.StayingKeys.{stays_where_none_deleted}
use Rattle.nm_callers.proofs.page.inserted_keys_are_in_the_set.Goals as goal

pub returns : goal.returns
returns c = stays_where_none_deleted
