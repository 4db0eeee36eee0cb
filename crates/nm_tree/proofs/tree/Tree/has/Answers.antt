use Rattle.std.proofs.Common.{rules, ap, ◌∙◌}
use Rattle.nm_steps.proofs.Seeing.{seen_all}
use Rattle.nm_calls.specs.declared.fault.CallFault.TheVariants as fault
use Rattle.nm_tree.specs.Workers.{WorkerView, held_in, pending_in}
use Rattle.nm_tree.proofs.Answered.{has_told, has_answered, look_fails, of_error}
use Rattle.nm_tree.proofs.Interfered.{lookup_interfered, lookup_alone}
use Rattle.nm_tree.proofs.Quiet.{has_quiet}
use Rattle.nm_tree.proofs.Staying.{stays_resting, resting_in, free_in}
use Rattle.nm_tree.proofs.Untouched.{has_pending}
use Rattle.nm_tree.proofs.tree.Tree.has.Goals as goal

pub invariant_of-worker : goal.invariant_of-worker
invariant_of-worker c = stays_resting c.worker.inside.pass c.has-answer.new.pass _ c.worker.inside.standing
    c.worker.inside.home (resting_in c.worker.inside.standing
    (ap (λ (w : WorkerView). w.held) c.worker.view_is ∙ c.requires.free) c.in_default.not-Pending) c.worker.invariant
    c.has-answer.ensures.same (has_quiet _ c.args.tries c.args.key _ _ c.has-answer.result c.has-answer.ensures.did
    c.has-answer.ensures.missed) c.has-answer.ensures.hands c.has-answer.ensures.rests

pub returns-in-Pending-clause-leaves : goal.returns-in-Pending-clause-leaves
returns-in-Pending-clause-leaves c = has_pending c.args.self.now.layout c.args.tries c.args.key c.args.worker.now
    (search rules) c.requires.free

pub returns-in-Pending-clause-says : goal.returns-in-Pending-clause-says
returns-in-Pending-clause-says c = (returns-in-Pending-clause-leaves c).says

pub returns-clause-says : goal.returns-clause-says
returns-clause-says c = record {
  same = search rules;
  past = search (rules, seen_all);
  told = rw (← c.worker.view_is) (has_told c.args.self.now.layout c.args.tries c.args.key _ _
      (free_in c.worker.inside.standing (resting_in c.worker.inside.standing
      (ap (λ (w : WorkerView). w.held) c.worker.view_is ∙ c.requires.free) c.in_default.not-Pending))
      c.has-answer.result c.has-answer.ensures.busy);
  interfered = λ is. lookup_interfered c.self.inside.shared c.args.self.now c.worker.inside.pass
      c.args.worker.now.pass c.has-answer.new.pass c.args.key c.args.tries c.self.view_is
      (ap (λ (x : WorkerView). x.pass) c.worker.view_is)
      c.know_run.ensures.seen c.know_run-2.ensures.seen c.know_run.ensures.fits c.has-answer.ensures.same
      c.has-answer.ensures.past c.requires.own (of_error c.has-answer.result fault.Busy is
      c.has-answer.ensures.missed);
  moment = search rules;
  won = search rules;
  steps = search rules;
  queues = search rules;
  held = search rules;
  fit = search rules;
}

pub returns-clause-leaves : goal.returns-clause-leaves
returns-clause-leaves c = record {
  says = returns-clause-says c;
  did = rw (← c.worker.view_is, ← c.self.view_is) (has_answered _ c.args.tries c.args.key _ _
      (free_in c.worker.inside.standing (resting_in c.worker.inside.standing
      (ap (λ (w : WorkerView). w.held) c.worker.view_is ∙ c.requires.free) c.in_default.not-Pending))
      c.has-answer.result c.has-answer.ensures.did c.has-answer.ensures.missed c.has-answer.ensures.busy);
  alone = λ alone. (
      look_fails c.args.tries (record {
        pass = c.has-answer.new.pass;
        queues = c.worker.inside.queues.items;
        pending = pending_in c.worker.inside.standing;
        held = held_in c.worker.inside.standing;
        fit =
            c.worker.inside.workspace.value.placement;
      }) c.has-answer.result c.has-answer.ensures.busy
      (λ is. lookup_alone c.self.inside.shared c.args.self.now c.worker.inside.pass c.args.worker.now.pass
      c.has-answer.new.pass c.args.key c.args.tries c.self.view_is (ap (λ (x : WorkerView). x.pass) c.worker.view_is)
      c.know_run.ensures.seen c.know_run-2.ensures.seen c.know_run.ensures.fits c.has-answer.ensures.same
      c.has-answer.ensures.past c.requires.own alone
      (of_error c.has-answer.result fault.Busy is c.has-answer.ensures.missed))
      );
}
