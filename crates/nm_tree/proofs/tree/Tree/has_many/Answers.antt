use Rattle.std.proofs.Common.{rules, map, ap, ◌∙◌}
use Rattle.nm_steps.proofs.Seeing.{seen_all}
use Rattle.nm_calls.specs.InTurns.{key_of}
use Rattle.nm_progress.proofs.AloneCalls.{many_alone}
use Rattle.nm_calls.specs.declared.fault.CallFault.TheVariants as fault
use Rattle.nm_tree.specs.Workers.{WorkerView}
use Rattle.nm_tree.proofs.Answered.{has_looked, of_error}
use Rattle.nm_tree.proofs.Interfered.{many_interfered}
use Rattle.nm_tree.proofs.Quiet.{quiet_so}
use Rattle.nm_tree.proofs.Staying.{stays_resting, resting_in, free_in}
use Rattle.nm_tree.proofs.tree.Tree.has_many.Goals as goal

pub invariant_of-worker : goal.invariant_of-worker
invariant_of-worker c = stays_resting c.worker.inside.pass c.has_many-answer.new.pass _ c.worker.inside.standing
    c.worker.inside.home (resting_in c.worker.inside.standing
    (ap (λ (w : WorkerView). w.held) c.worker.view_is ∙ c.requires.free) c.in_default.not-Pending) c.worker.invariant
    c.has_many-answer.ensures.same (quiet_so _ _ c.has_many-answer.ensures.won c.has_many-answer.ensures.uncut)
    c.has_many-answer.ensures.hands c.has_many-answer.ensures.rests

pub returns : goal.returns
returns c = record {
  same = search rules;
  past = search (rules, seen_all);
  did = rw (← c.worker.view_is, ← c.self.view_is) (has_looked _ c.args.tries _ _ _
      (free_in c.worker.inside.standing (resting_in c.worker.inside.standing
      (ap (λ (w : WorkerView). w.held) c.worker.view_is ∙ c.requires.free) c.in_default.not-Pending))
      c.has_many-answer.result c.has_many-answer.ensures.did c.has_many-answer.ensures.missed
      c.has_many-answer.ensures.busy);
  keys = search rules;
  interfered = λ is. many_interfered c.self.inside.shared c.args.self.now c.worker.inside.pass c.args.worker.now.pass
      c.has_many-answer.new.pass 0 c.args.tries c.self.view_is (ap (λ (x : WorkerView). x.pass) c.worker.view_is)
      c.know_run.ensures.seen c.know_run-2.ensures.seen c.know_run.ensures.fits c.has_many-answer.ensures.same
      c.has_many-answer.ensures.past c.requires.own (map key_of c.args.queries.now)
      (of_error c.has_many-answer.result fault.Busy is c.has_many-answer.ensures.missed);
  alone = λ alone is. many_alone c.args.worker.now.pass c.has_many-answer.new.pass c.args.tries alone
      (many_interfered c.self.inside.shared c.args.self.now c.worker.inside.pass c.args.worker.now.pass
      c.has_many-answer.new.pass 0 c.args.tries c.self.view_is (ap (λ (x : WorkerView). x.pass) c.worker.view_is)
      c.know_run.ensures.seen c.know_run-2.ensures.seen c.know_run.ensures.fits c.has_many-answer.ensures.same
      c.has_many-answer.ensures.past c.requires.own (map key_of c.args.queries.now)
      (of_error c.has_many-answer.result fault.Busy is c.has_many-answer.ensures.missed));
  moment = search rules;
  won = search rules;
  steps = search rules;
  queues = search rules;
  held = search rules;
  fit = search rules;
}
