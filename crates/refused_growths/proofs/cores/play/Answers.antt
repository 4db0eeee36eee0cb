use Rattle.std.proofs.Common.{◌∙◌}
use Rattle.refused_growths.proofs.Parts.{ran_in_parts}
use Rattle.refused_growths.proofs.cores.play.Goals as goal

pub returns : goal.returns
returns c = ran_in_parts _ _ _ _ _ _ _ c.in-Err.error.done c.in_ok-core.ensures c.in_ok-listed.ensures
    c.in-Err.ensures.done_state (c.in_ok-listed-2.ensures ∙ c.split_at.ensures.back) c.in-Ok.ensures.state
