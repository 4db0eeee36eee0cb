use Rattle.std.proofs.Common.{List, ◌∷◌, ◌++◌, [], append_assoc, subst, sym, ap, ◌∙◌}
use Rattle.std.specs.Prelude.{reverse}
use Rattle.nm_steps.specs.Steps.{PassView}
use Rattle.nm_tree.specs.Workers.{WorkerView, AreAllFresh, AreMade}
use Rattle.nm_tree.proofs.Opening.{fresh_before, one_made}
use Rattle.nm_tree.proofs.tree.workers_of.Goals as goal

pub worker_of-requires : goal.worker_of-requires
worker_of-requires c = record {
  fresh = (fresh_before c.pop.new.self.items c.in-Some.pass
      (subst AreAllFresh (rw c.in-Some.is at c.pop.ensures.items) c.loop-pass.invariant.fresh)).1;
}

pub loop-pass-preserved : goal.loop-pass-preserved
loop-pass-preserved c =
    let last = rw c.in-Some.is at c.pop.ensures.items in
    let made = c.loop-pass.invariant.made in
    let fresh = (fresh_before c.pop.new.self.items c.in-Some.pass
    (subst AreAllFresh last c.loop-pass.invariant.fresh)).0 in
    let all = made.1 ∙ (ap (λ (ps : List PassView). ps ++ made.0) last
    ∙ append_assoc c.pop.new.self.items (c.in-Some.pass ∷ []) made.0) in
    let P : List WorkerView → Type 0 = λ ws. AreMade c.args.fit (c.in-Some.pass ∷ made.0) (reverse ws) in
    record {
      fresh = fresh;
      made = (
        c.in-Some.pass ∷ made.0,
        all,
        subst P (sym c.in_ok-push.ensures.items)
            (one_made c.args.fit c.in-Some.pass c.in_ok-worker_of.field-0 made.0 c.loop-pass.workers.items
            c.in_ok-worker_of.ensures made.2),
      );
    }
