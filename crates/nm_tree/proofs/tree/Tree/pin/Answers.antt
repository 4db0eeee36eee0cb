use Rattle.std.proofs.Common.{rules, ap, refl, ◌∙◌}
use Rattle.nm_steps.proofs.Seeing.{seen_all}
use Rattle.nm_tree.specs.Workers.{WorkerView, held_in}
use Rattle.nm_tree.proofs.Quiet.{pinned, moved_on}
use Rattle.nm_tree.proofs.Staying.{stays, resting_in, rests_in, rests_as, free_in, held_at}
use Rattle.nm_tree.proofs.tree.Tree.pin.Goals as goal

pub invariant_of-worker : goal.invariant_of-worker
invariant_of-worker c =
    let was = rests_in c.worker.inside.pass c.worker.inside.standing
    (resting_in c.worker.inside.standing (ap (λ (w : WorkerView). w.held) c.worker.view_is ∙ c.requires.free)
    c.in_default.not-Pending) c.worker.invariant.between.stands in
    stays _ c.worker.inside.home c.pin.new.pass _ _ c.worker.invariant c.pin.ensures.on.same
    (pinned c.args.tries _ _ _ c.in-Ok.ensures.pinned) c.pin.ensures.hands.private
    (c.pin.ensures.hands.ledgers was.labelled)
    (held_at c.pin.new.pass _ c.in-Ok.ensures.at)

pub invariant_of-worker-in-Err : goal.invariant_of-worker-in-Err
invariant_of-worker-in-Err c =
    let was = rests_in c.worker.inside.pass c.worker.inside.standing
    (resting_in c.worker.inside.standing (ap (λ (w : WorkerView). w.held) c.worker.view_is ∙ c.requires.free)
    c.in_default.not-Pending) c.worker.invariant.between.stands in
    stays _ c.worker.inside.home c.pin.new.pass _ _ c.worker.invariant c.pin.ensures.on.same
    (moved_on c.args.tries _ _ c.in-Err.ensures.moved) c.pin.ensures.hands.private
    (c.pin.ensures.hands.ledgers was.labelled)
    (rests_as c.pin.new.pass c.worker.inside.standing
    (resting_in c.worker.inside.standing (ap (λ (w : WorkerView). w.held) c.worker.view_is ∙ c.requires.free)
    c.in_default.not-Pending) c.in-Err.ensures.rests)

pub returns-in-Ok : goal.returns-in-Ok
returns-in-Ok c = record {
  same = search rules;
  past = search (rules, seen_all);
  did = rw (← c.worker.view_is) (
    (
      (free_in c.worker.inside.standing
          (resting_in c.worker.inside.standing (ap (λ (w : WorkerView). w.held) c.worker.view_is ∙ c.requires.free)
          c.in_default.not-Pending)).0,
      refl,
    ),
    refl,
    c.in-Ok.ensures.pinned,
  );
  queues = search rules;
  steps = search rules;
  fit = search rules;
}

pub returns-in-Err : goal.returns-in-Err
returns-in-Err c = record {
  same = search rules;
  past = search (rules, seen_all);
  did = rw (← c.worker.view_is) (
    free_in c.worker.inside.standing
        (resting_in c.worker.inside.standing (ap (λ (w : WorkerView). w.held) c.worker.view_is ∙ c.requires.free)
        c.in_default.not-Pending),
    ap held_in (resting_in c.worker.inside.standing
        (ap (λ (w : WorkerView). w.held) c.worker.view_is ∙ c.requires.free) c.in_default.not-Pending),
    c.in-Err.ensures.last,
    c.in-Err.ensures.moved,
  );
  queues = search rules;
  steps = search rules;
  fit = search rules;
}
