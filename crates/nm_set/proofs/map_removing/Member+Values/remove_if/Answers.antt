use Rattle.std.proofs.Common.{rules, ◌≡◌, ◌∙◌, ◌+◌, inr, refl, subst, Bool}
use Rattle.std.specs.Prelude.{None, Ok, Err, Result}
use Rattle.nm_model.specs.declared.event.Op.TheVariants.{Delete}
use Rattle.nm_steps.specs.Steps.{TreeView}
use Rattle.nm_calls.specs.declared.fault.CallFault.{CallFault}
use Rattle.nm_tree.specs.declared.removing.RemoveOutcome.{RemoveOutcome}
use Rattle.nm_set.specs.MapRemoves.{RemovesIn}
use Rattle.nm_set.specs.Rounds.{Finishes}
use Rattle.nm_set.proofs.Managing.{finish_err, pending_manages}
use Rattle.nm_set.proofs.MapRemoving.{ended_so, removes_ended, removes_managed}
use Rattle.nm_set.proofs.map_removing.Member+Values.remove_if.Goals as goal

pub returns-in_default-clause-says : goal.returns-in_default-clause-says
returns-in_default-clause-says c =
    let b = c.args.self.now.tree in
    let h = c.args.options.now in
    let w = c.args.self.now.worker in
    let z = c.finish_with_retries.new.self.worker in
    let f = c.in_default.ensures.says in
    let free : w.held ≡ None = search rules in
    record {
      says = inr (
        free,
        pending_manages b h Delete c.args.key w z
            (subst (λ (g : CallFault). Finishes b h w z (Err g))
            (finish_err b h w z c.in_default.field-0 f) f),
      );
      takes = tt;
      other = tt;
    }

pub returns-then-not-is_unfinished-clause-says : goal.returns-then-not-is_unfinished-clause-says
returns-then-not-is_unfinished-clause-says c =
    let h = c.args.options.now in
    let w = c.args.self.now.worker in
    let y = c.finish_with_retries.new.self.worker in
    let z = c.remove_if_with_retries-told.new.self.worker in
    let r = c.remove_if_with_retries-told.result in
    let free : w.held ≡ None = search rules in
    removes_managed c.args.self.now.tree h c.args.key c.args.expected w y free c.in-Ok._done c.in-Ok.ensures.says z r
    (c.if-not-is_unfinished.ensures.no refl)
    (subst (λ (d : TreeView). RemovesIn d h c.args.key c.args.expected (h.rounds + 1) y z r)
    c.finish_with_retries.ensures.tree c.remove_if_with_retries-told.ensures.says)

-- ---- it has flagged its leaf

pub returns-in-Ok-finish_with_retries-clause-says : goal.returns-in-Ok-finish_with_retries-clause-says
returns-in-Ok-finish_with_retries-clause-says c =
    let b = c.args.self.now.tree in
    let h = c.args.options.now in
    let k = c.args.key in
    let v = c.args.expected in
    let w = c.args.self.now.worker in
    let y = c.finish_with_retries.new.self.worker in
    let x = c.remove_if_with_retries-told.new.self.worker in
    let z = c.finish_with_retries-2.new.self.worker in
    let removed = c.in-Ok-finish_with_retries.removed in
    let free : w.held ≡ None = search rules in
    let came = c.finish_with_retries.ensures.tree in
    let flagged = subst (λ (q : Result RemoveOutcome CallFault). RemovesIn b h k v (h.rounds + 1) y x q)
    (c.if-not-is_unfinished.ensures.yes refl)
    (subst (λ (d : TreeView). RemovesIn d h k v (h.rounds + 1) y x c.remove_if_with_retries-told.result) came
    c.remove_if_with_retries-told.ensures.says) in
    let last = subst (λ (d : TreeView). Finishes d h x z (Ok removed))
    (c.remove_if_with_retries-told.ensures.tree ∙ came) c.in-Ok-finish_with_retries.ensures.says in
    rw c.of.ensures (removes_ended b h k v w z removed
    (ended_so b h k v w y free c.in-Ok._done c.in-Ok.ensures.says x z c.know_run.ensures.idle flagged (Ok removed)
    last))

pub returns-in-Err-clause-says : goal.returns-in-Err-clause-says
returns-in-Err-clause-says c =
    let b = c.args.self.now.tree in
    let h = c.args.options.now in
    let k = c.args.key in
    let v = c.args.expected in
    let w = c.args.self.now.worker in
    let y = c.finish_with_retries.new.self.worker in
    let x = c.remove_if_with_retries-told.new.self.worker in
    let z = c.finish_with_retries-2.new.self.worker in
    let r : Result Bool CallFault = Err c.in-Err.fault in
    let free : w.held ≡ None = search rules in
    let came = c.finish_with_retries.ensures.tree in
    let flagged = subst (λ (q : Result RemoveOutcome CallFault). RemovesIn b h k v (h.rounds + 1) y x q)
    (c.if-not-is_unfinished.ensures.yes refl)
    (subst (λ (d : TreeView). RemovesIn d h k v (h.rounds + 1) y x c.remove_if_with_retries-told.result) came
    c.remove_if_with_retries-told.ensures.says) in
    let last = subst (λ (d : TreeView). Finishes d h x z r)
    (c.remove_if_with_retries-told.ensures.tree ∙ came) c.in-Err.ensures.says in
    let ended = ended_so b h k v w y free c.in-Ok._done c.in-Ok.ensures.says x z c.know_run.ensures.idle flagged r last
    in
    record { says = ended.0; takes = ended.1; other = tt }
