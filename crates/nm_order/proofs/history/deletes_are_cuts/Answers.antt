use Rattle.nm_order.proofs.SwapTurns.{each_swap_takes_none}
use Rattle.nm_order.proofs.FlagFates.{each_true_delete_cuts}
use Rattle.nm_order.proofs.SetChanges.{each_cut_takes}
use Rattle.nm_order.proofs.PendingLeaves.{each_cut_leaf_is_of_one}
use Rattle.nm_order.proofs.history.deletes_are_cuts.Goals as goal

pub returns-clause-moments : goal.returns-clause-moments
returns-clause-moments c = each_true_delete_cuts

pub returns-clause-takes : goal.returns-clause-takes
returns-clause-takes c = each_cut_takes

pub returns-clause-one : goal.returns-clause-one
returns-clause-one c = each_cut_leaf_is_of_one

pub returns-clause-swaps : goal.returns-clause-swaps
returns-clause-swaps c = each_swap_takes_none
