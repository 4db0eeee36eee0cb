use Rattle.std.proofs.Common.{◌+◌, subst}
use Rattle.std.specs.Prelude.{Err}
use Rattle.nm_calls.specs.declared.fault.CallFault.{CallFault}
use Rattle.nm_steps.specs.Steps.{TreeView}
use Rattle.nm_set.specs.MapRounds.{GetsIn}
use Rattle.nm_set.specs.Rounds.{Finishes}
use Rattle.nm_set.proofs.Managing.{finish_err}
use Rattle.nm_set.proofs.MapManaging.{gets_then, pending_get}
use Rattle.nm_set.proofs.map_managed.Member+Values.finish_and_get.Goals as goal

pub returns-in_default-clause-says : goal.returns-in_default-clause-says
returns-in_default-clause-says c =
    let b = c.args.self.now.tree in
    let h = c.args.options.now in
    let w = c.args.self.now.worker in
    let z = c.finish_with_retries.new.self.worker in
    let f = c.in_default.ensures.says in
    pending_get b h c.args.key w z (subst (λ (g : CallFault). Finishes b h w z (Err g))
    (finish_err b h w z c.in_default.field-0 f) f)

pub returns-clause-says : goal.returns-clause-says
returns-clause-says c =
    let b = c.args.self.now.tree in
    let h = c.args.options.now in
    let w = c.args.self.now.worker in
    let y = c.finish_with_retries.new.self.worker in
    let z = c.get_again.new.self.worker in
    let r = c.get_again.result in
    gets_then b h c.args.key w y c.in-Ok._done c.in-Ok.ensures.says z r
    (subst (λ (d : TreeView). GetsIn d h c.args.key (h.rounds + 1) y z r) c.finish_with_retries.ensures.tree
    c.get_again.ensures.says)
