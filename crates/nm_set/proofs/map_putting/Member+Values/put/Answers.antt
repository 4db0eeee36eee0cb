use Rattle.std.proofs.Common.{rules, ◌≡◌, ◌+◌, inr, subst}
use Rattle.std.specs.Prelude.{Err, None}
use Rattle.nm_calls.specs.declared.fault.CallFault.{CallFault}
use Rattle.nm_steps.specs.Steps.{TreeView}
use Rattle.nm_set.specs.MapPuts.{PutsIn}
use Rattle.nm_set.specs.Rounds.{Finishes}
use Rattle.nm_set.proofs.Managing.{finish_err}
use Rattle.nm_set.proofs.MapPutting.{pending_put, puts_then}
use Rattle.nm_set.proofs.map_putting.Member+Values.put.Goals as goal

pub returns-in_default-clause-says : goal.returns-in_default-clause-says
returns-in_default-clause-says c =
    let b = c.args.self.now.tree in
    let h = c.args.options.now in
    let w = c.args.self.now.worker in
    let z = c.finish_with_retries.new.self.worker in
    let f = c.in_default.ensures.says in
    let free : w.held ≡ None = search rules in
    inr (
      free,
      pending_put b h c.args.condition c.args.key c.args.value w z
          (subst (λ (g : CallFault). Finishes b h w z (Err g))
          (finish_err b h w z c.in_default.field-0 f) f),
    )

pub returns-clause-says : goal.returns-clause-says
returns-clause-says c =
    let b = c.args.self.now.tree in
    let h = c.args.options.now in
    let when = c.args.condition in
    let k = c.args.key in
    let v = c.args.value in
    let w = c.args.self.now.worker in
    let y = c.finish_with_retries.new.self.worker in
    let z = c.put_with_retries.new.self.worker in
    let r = c.put_with_retries.result in
    let free : w.held ≡ None = search rules in
    inr (
      free,
      puts_then b h when k v w y c.in-Ok._done c.in-Ok.ensures.says z r
          (subst (λ (d : TreeView). PutsIn d h when k v (h.rounds + 1) y z r) c.finish_with_retries.ensures.tree
          c.put_with_retries.ensures.says),
    )
