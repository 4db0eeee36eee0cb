use Rattle.std.proofs.Common.{rules, ap, ◌∙◌}
use Rattle.nm_steps.proofs.Seeing.{seen_all}
use Rattle.nm_progress.proofs.AloneCalls.{near_alone}
use Rattle.nm_calls.specs.declared.fault.CallFault.TheVariants as fault
use Rattle.nm_tree.specs.Workers.{WorkerView}
use Rattle.nm_tree.proofs.Answered.{has_looked, of_error}
use Rattle.nm_tree.proofs.Interfered.{near_interfered}
use Rattle.nm_tree.proofs.Quiet.{quiet_so}
use Rattle.nm_tree.proofs.Staying.{stays_resting, resting_in, free_in}
use Rattle.nm_tree.proofs.tree.Tree.nearest.Goals as goal

pub invariant_of-worker : goal.invariant_of-worker
invariant_of-worker c = stays_resting c.worker.inside.pass c.nearest-answer.new.pass _ c.worker.inside.standing
    c.worker.inside.home (resting_in c.worker.inside.standing
    (ap (λ (w : WorkerView). w.held) c.worker.view_is ∙ c.requires.free) c.in_default.not-Pending) c.worker.invariant
    c.nearest-answer.ensures.same (quiet_so _ _ c.nearest-answer.ensures.won c.nearest-answer.ensures.uncut)
    c.nearest-answer.ensures.hands c.nearest-answer.ensures.rests

pub returns : goal.returns
returns c = record {
  same = search rules;
  past = search (rules, seen_all);
  did = rw (← c.worker.view_is, ← c.self.view_is) (has_looked _ c.args.tries _ _ _
      (free_in c.worker.inside.standing (resting_in c.worker.inside.standing
      (ap (λ (w : WorkerView). w.held) c.worker.view_is ∙ c.requires.free) c.in_default.not-Pending))
      c.nearest-answer.result c.nearest-answer.ensures.did c.nearest-answer.ensures.missed
      c.nearest-answer.ensures.busy);
  interfered = λ is. near_interfered c.self.inside.shared c.args.self.now c.worker.inside.pass c.args.worker.now.pass
      c.nearest-answer.new.pass c.args.key c.args.tries c.self.view_is
      (ap (λ (x : WorkerView). x.pass) c.worker.view_is)
      c.know_run.ensures.seen c.know_run-2.ensures.seen c.know_run.ensures.fits c.nearest-answer.ensures.same
      c.nearest-answer.ensures.past c.requires.own c.args.side
      (of_error c.nearest-answer.result fault.Busy is c.nearest-answer.ensures.missed);
  alone = λ alone is. near_alone c.args.worker.now.pass c.nearest-answer.new.pass c.args.tries alone
      (near_interfered c.self.inside.shared c.args.self.now c.worker.inside.pass c.args.worker.now.pass
      c.nearest-answer.new.pass c.args.key c.args.tries c.self.view_is
      (ap (λ (x : WorkerView). x.pass) c.worker.view_is)
      c.know_run.ensures.seen c.know_run-2.ensures.seen c.know_run.ensures.fits c.nearest-answer.ensures.same
      c.nearest-answer.ensures.past c.requires.own c.args.side
      (of_error c.nearest-answer.result fault.Busy is c.nearest-answer.ensures.missed));
  moment = search rules;
  won = search rules;
  steps = search rules;
  queues = search rules;
  held = search rules;
  fit = search rules;
}
