use Rattle.nm_order.proofs.ToldLaws.{low_keys_stand_high as each_low_key_stands_high}
use Rattle.nm_order.proofs.told.low_keys_stand_high.Goals as goal

pub returns : goal.returns
returns c = each_low_key_stands_high
