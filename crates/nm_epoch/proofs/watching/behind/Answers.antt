use Rattle.std.proofs.Common.{◌≡◌, ◌+◌, ℕ, ap, sym, ◌∙◌, add-zero, arith}
use Rattle.nm_epoch.specs.Resting.{epochs}
use Rattle.nm_epoch.specs.Watches.{bit_of}
use Rattle.nm_epoch.proofs.Watched.{watching_on, bit_set, bit_clear, shifted}
use Rattle.nm_epoch.proofs.watching.behind.Goals.{then-is_some, else-is_some}
use Rattle.nm_epoch.proofs.Advances.{look_goes_on}
use Rattle.nm_steps.specs.Steps.{PassView}
use Rattle.nm_edge.specs.Layouts.{Layout}
use Rattle.nm_epoch.proofs.Steps.{watch_steps}
use Rattle.nm_epoch.proofs.watching.behind.Goals as goal

pub loop-worker-preserved : goal.loop-worker-preserved
loop-worker-preserved c =
    let sum : c.if-is_some.mask ≡ c.loop-worker.mask
    + bit_of c.loop-worker.worker c.look-found.result c.read-epoch.result = elim c.if-is_some.branch [
      | then-is_some w ↦ w.mask-is ∙ ap (λ (n : ℕ). c.loop-worker.mask + n)
          (shifted c.loop-worker.worker (let below = c.loop-worker-test.true in
          let few = c.workers-workers.ensures.fits.few in omega (arith, below, few, c.workers-workers.ensures.workers))
          ∙ sym (bit_set c.elsewhere.result c.look-found.result c.read-epoch.result c.loop-worker.worker
          c.elsewhere.ensures (sym c.is_some.ensures ∙ w.if-is_some.true)))
      | else-is_some w ↦ w.mask-is ∙ (sym (add-zero c.loop-worker.mask)
          ∙ ap (λ (n : ℕ). c.loop-worker.mask + n) (sym
          (bit_clear c.elsewhere.result c.look-found.result c.read-epoch.result c.loop-worker.worker
          c.elsewhere.ensures (sym c.is_some.ensures ∙ w.if-is_some.false))))
    ] in
    record {
      after = look_goes_on c.number-me.result c.loop-worker.worker c.look-found.result _ _ _
          c.loop-worker.invariant.after c.look-found.ensures.on c.look-found.ensures.found;
      watching = watching_on c.number-me.result c.read-epoch.result c.loop-worker.worker c.loop-worker.mask
          c.if-is_some.mask c.look-found.result c.args.pass.now.view.log c.loop-worker.pass c.look-found.new.pass
          c.look-found.ensures.on.same c.look-found.ensures.found sum c.loop-worker.invariant.watching;
    }

pub returns-clause-steps : goal.returns-clause-steps
returns-clause-steps c =
    let m : c.workers-workers.result ≡ c.args.shared.now.layout.workers = c.workers-workers.ensures.workers
    ∙ ap (λ (l : Layout). l.workers) c.layout.ensures in
    let layout : c.args.pass.now.view.layout.workers
    ≡ c.args.shared.now.layout.workers = ap (λ (l : Layout). l.workers) c.requires.layout in
    let size : c.read-epoch.new.pass.view.layout.workers
    ≡ c.args.pass.now.view.layout.workers = ap (λ (p : PassView). p.view.layout.workers)
    c.read-epoch.ensures.on.same in
    let below = c.number-me.ensures.below in
    let past = c.loop-worker-test.false in
    let within = c.loop-worker.auto.worker-end in
    let all = watch_steps c.number-me.result (epochs c.loop-worker.pass).pin c.read-epoch.result c.loop-worker.worker
    c.loop-worker.mask c.args.pass.now.view.log c.loop-worker.pass.view.log
    (omega (arith, below, size, layout, m, past, within)) c.loop-worker.invariant.watching.part in
    omega (arith, all, m, past, within)
