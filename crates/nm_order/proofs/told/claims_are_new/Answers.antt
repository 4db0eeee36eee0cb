use Rattle.nm_order.proofs.ToldClaims.{claims_are_new as each_claim_is_new}
use Rattle.nm_order.proofs.told.claims_are_new.Goals as goal

pub returns : goal.returns
returns c = each_claim_is_new
