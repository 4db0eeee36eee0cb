use Rattle.std.proofs.Common.{refl, ◌∙◌}
use Rattle.nm_tree.proofs.Opening.{new_are_ready, all_fit, all_fresh, all_new, as_many}
use Rattle.nm_tree.proofs.tree.with_workers.Goals as goal

pub workers_of-requires : goal.workers_of-requires
workers_of-requires c = record { fresh = all_fresh _ 0 _ c.requires.fresh }

pub returns-clause-new : goal.returns-clause-new
returns-clause-new c =
    let new = all_new c.args.fit _ 0 _ _ c.requires.fresh c.in_ok-made.ensures in
    record {
      layout = refl;
      count = as_many c.args.fit _ _ c.in_ok-made.ensures ∙ c.requires.count;
      new = new;
      fits = all_fit c.args.fit _ _ c.in_ok-made.ensures;
      ready = λ k d less. new_are_ready _ 0 _ new k d less;
    }
