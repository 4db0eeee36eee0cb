use Rattle.nm_set_c.specs.Owners.{HasDone}
use Rattle.nm_set_c.proofs.epochs.unpin.Goals as goal

pub returns : goal.returns
unfolding HasDone
returns g c = record {
  answer = c.unpin-answer.result;
  told = c.tell_unpin.ensures;
  tree =
      c.unpin-answer.ensures.tree;
  says = c.unpin-answer.ensures.says;
}
