use Rattle.std.proofs.Common.{◌≡◌, inl, inr, refl, subst, sym, true≢false, arith}
use Rattle.std.specs.Prelude.{Option, None, IsSome, IfNone}
use Rattle.nm_calls.specs.declared.deleting.Unfinished.{Unfinished}
use Rattle.nm_progress.specs.Pending.{leaf_after}
use Rattle.nm_tree.proofs.AlonePops.{loses_none_alone}
use Rattle.nm_tree.proofs.Taking.{leaves_so, pends, pends_not}
use Rattle.nm_tree.proofs.tree.Tree.pop.Goals as goal

pub returns-then-is_some : goal.returns-then-is_some
returns-then-is_some c =
    let some = pends c.args.worker.now c.pending.result c.pending.ensures.key (sym c.if-is_some.ensures) in
    let w = c.args.worker.now in
    leaves_so c.args.end c.args.self.now.layout c.args.tries w w _ c.requires.free
    (λ none lost runs. absurd (true≢false (sym (subst IsSome none some)))) (inl ((some, refl), refl))

pub returns : goal.returns
returns c =
    let w = c.args.worker.now in
    let z = c.pop_in_rounds-taken.new.worker in
    let none = pends_not w c.pending.result c.pending.ensures.key (sym c.if-is_some.ensures) in
    let rests = subst (λ (o : Option Unfinished). IfNone o
    (leaf_after w.pass.view.number None w.pass.view.past ≡ None)) none c.pending.ensures.rests in
    leaves_so c.args.end c.args.self.now.layout c.args.tries w z c.pop_in_rounds-taken.result c.requires.free
    (λ none' lost runs. (let zero_is = loses_none_alone c.args.end c.args.self.now.layout c.args.tries c.args.tries w
    z c.know_run.ensures.seen c.know_run-2.ensures.seen c.know_run-2.ensures.fits rests none c.requires.free lost
    runs in omega (arith, zero_is)))
    (inr (none, c.pop_in_rounds-taken.ensures))
