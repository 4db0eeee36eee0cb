use Rattle.std.proofs.Common.{◌≡◌, ap, sym, ◌∙◌, arith, Ok, Err}
use Rattle.nm_edge.specs.Layouts.{Layout}
use Rattle.nm_steps.specs.Steps.{PassView}
use Rattle.nm_epoch.proofs.Allowed.{may_advance}
use Rattle.nm_epoch.proofs.Scanning.{looking_on}
use Rattle.nm_epoch.proofs.Advances.{is_moved, is_lost, is_held, look_goes_on, advance_goes_on}
use Rattle.nm_epoch.proofs.moving.move_on.Goals as goal

pub returns-in-Some-clause-part : goal.returns-in-Some-clause-part
returns-in-Some-clause-part c =
    let m : c.workers-workers.result ≡ c.args.shared.now.layout.workers = c.workers-workers.ensures.workers
    ∙ ap (λ (l : Layout). l.workers) c.layout.ensures in
    (is_held c.loop-worker.pass c.look-found.new.pass c.in-Some.at c.args.me c.read-epoch.result
    c.args.shared.now.layout.workers c.loop-worker.worker c.look-found.result c.args.pass.now.view.log
    c.look-found.ensures.on.same c.look-found.ensures.found c.in-Some.ensures.0 c.in-Some.ensures.1
    (let below = c.loop-worker-test.true in omega (arith, m, below)) c.loop-worker.invariant.looking)

pub loop-worker-preserved : goal.loop-worker-preserved
loop-worker-preserved c =
    let m : c.workers-workers.result ≡ c.args.shared.now.layout.workers = c.workers-workers.ensures.workers
    ∙ ap (λ (l : Layout). l.workers) c.layout.ensures in
    let size : c.loop-worker.pass.view.layout.workers
    ≡ c.args.shared.now.layout.workers = ap (λ (p : PassView). p.view.layout.workers)
    c.loop-worker.invariant.after.on.same ∙ ap (λ (l : Layout). l.workers) c.requires.own.layout in
    record {
      after = look_goes_on c.args.me c.loop-worker.worker c.look-found.result _ _ _ c.loop-worker.invariant.after
          c.look-found.ensures.on c.look-found.ensures.found;
      looking = looking_on c.args.me c.read-epoch.result c.loop-worker.worker c.look-found.result
          c.args.pass.now.view.log c.loop-worker.pass c.look-found.new.pass c.look-found.ensures.on.same
          c.look-found.ensures.found
          c.in_default.ensures (let below = c.loop-worker-test.true in omega (arith, m, size, below))
          c.loop-worker.invariant.looking;
    }

pub advance-requires-clause-may : goal.advance-requires-clause-may
advance-requires-clause-may c =
    let m : c.workers-workers.result ≡ c.args.shared.now.layout.workers = c.workers-workers.ensures.workers
    ∙ ap (λ (l : Layout). l.workers) c.layout.ensures in
    let size : c.loop-worker.pass.view.layout.workers
    ≡ c.args.shared.now.layout.workers = ap (λ (p : PassView). p.view.layout.workers)
    c.loop-worker.invariant.after.on.same ∙ ap (λ (l : Layout). l.workers) c.requires.own.layout in
    let there = c.requires.there in
    let past = c.loop-worker-test.false in
    let within = c.loop-worker.auto.worker-end in
    let all : c.loop-worker.worker ≡ c.workers-workers.result = omega arith in
    may_advance c.args.me c.read-epoch.result c.loop-worker.worker c.args.pass.now.view.log c.loop-worker.pass
    (c.requires.me ∙ sym (ap (λ (p : PassView). p.view.number) c.loop-worker.invariant.after.on.same))
    (omega (arith, there, all, m)) (omega (arith, all, m, size))
    (let small = c.read-epoch.ensures.small in let other = c.if-epoch-eq-LAST_NUMBER.false in
    omega (arith, small, other)) c.loop-worker.invariant.looking

pub returns-in-Ok-clause-part : goal.returns-in-Ok-clause-part
returns-in-Ok-clause-part c =
    let m : c.workers-workers.result ≡ c.args.shared.now.layout.workers = c.workers-workers.ensures.workers
    ∙ ap (λ (l : Layout). l.workers) c.layout.ensures in
    let past = c.loop-worker-test.false in
    let within = c.loop-worker.auto.worker-end in
    (is_moved c.loop-worker.pass c.advance.new.pass c.in-Ok.next c.args.me c.read-epoch.result
    c.args.shared.now.layout.workers c.loop-worker.worker c.args.pass.now.view.log c.in-Ok.ensures.took.step
    c.in-Ok.ensures.from (omega (arith, m, past, within)) c.loop-worker.invariant.looking)

pub returns-in-Err-clause-part : goal.returns-in-Err-clause-part
returns-in-Err-clause-part c =
    let m : c.workers-workers.result ≡ c.args.shared.now.layout.workers = c.workers-workers.ensures.workers
    ∙ ap (λ (l : Layout). l.workers) c.layout.ensures in
    let past = c.loop-worker-test.false in
    let within = c.loop-worker.auto.worker-end in
    (is_lost c.loop-worker.pass c.advance.new.pass c.in-Err.found c.args.me c.read-epoch.result
    c.args.shared.now.layout.workers c.loop-worker.worker c.args.pass.now.view.log c.in-Err.ensures.took.step
    c.in-Err.ensures.from (omega (arith, m, past, within)) c.loop-worker.invariant.looking)

pub returns-in-Some-clause-after : goal.returns-in-Some-clause-after
returns-in-Some-clause-after c = look_goes_on c.args.me c.loop-worker.worker c.look-found.result _ _ _
    c.loop-worker.invariant.after c.look-found.ensures.on c.look-found.ensures.found

pub returns-in-Ok-clause-after : goal.returns-in-Ok-clause-after
returns-in-Ok-clause-after c = advance_goes_on _ _ _ (Ok c.in-Ok.next) c.loop-worker.invariant.after
    c.in-Ok.ensures.took

pub returns-in-Err-clause-after : goal.returns-in-Err-clause-after
returns-in-Err-clause-after c = advance_goes_on _ _ _ (Err c.in-Err.found) c.loop-worker.invariant.after
    c.in-Err.ensures.took
