use Rattle.std.proofs.Common.{rules, [], ◌∷◌, ap, ◌∙◌}
use Rattle.nm_steps.proofs.Seeing.{seen_all}
use Rattle.nm_tree.specs.Workers.{WorkerView}
use Rattle.nm_progress.proofs.AloneCalls.{many_alone}
use Rattle.nm_calls.specs.declared.fault.CallFault.TheVariants as fault
use Rattle.nm_tree.proofs.Answered.{has_looked, of_error}
use Rattle.nm_tree.proofs.Interfered.{many_interfered}
use Rattle.nm_tree.proofs.Quiet.{quiet_so}
use Rattle.nm_tree.proofs.Staying.{stays_resting, resting_in, rests_in, free_in}
use Rattle.nm_tree.proofs.Untouched.{get_pending}
use Rattle.nm_tree.proofs.tree.Tree.get.Goals as goal

pub get-found-requires-clause-rests : goal.get-found-requires-clause-rests
get-found-requires-clause-rests c =
    rests_in c.worker.inside.pass c.worker.inside.standing
    (resting_in c.worker.inside.standing (ap (λ (w : WorkerView). w.held) c.worker.view_is ∙ c.requires.call.free)
    c.in_default.not-Pending) c.worker.invariant.between.stands

pub invariant_of-worker : goal.invariant_of-worker
invariant_of-worker c = stays_resting c.worker.inside.pass c.get-found.new.pass _ c.worker.inside.standing
    c.worker.inside.home (resting_in c.worker.inside.standing
    (ap (λ (w : WorkerView). w.held) c.worker.view_is ∙ c.requires.call.free) c.in_default.not-Pending)
    c.worker.invariant c.get-found.ensures.same (quiet_so _ _ c.get-found.ensures.won c.get-found.ensures.uncut)
    c.get-found.ensures.hands c.get-found.ensures.rests

pub returns-in-Pending : goal.returns-in-Pending
returns-in-Pending c = get_pending c.args.self.now.layout c.args.tries c.args.key c.args.worker.now (search rules)
    c.requires.call.free

pub returns : goal.returns
returns c = record {
  same = search rules;
  past = search (rules, seen_all);
  stores = search rules;
  did = rw (← c.worker.view_is, ← c.self.view_is) (has_looked _ c.args.tries _ _ _
      (free_in c.worker.inside.standing (resting_in c.worker.inside.standing
      (ap (λ (w : WorkerView). w.held) c.worker.view_is ∙ c.requires.call.free) c.in_default.not-Pending))
      c.get-found.result c.get-found.ensures.did c.get-found.ensures.missed c.get-found.ensures.busy);
  interfered = λ is. many_interfered c.self.inside.shared c.args.self.now c.worker.inside.pass c.args.worker.now.pass
      c.get-found.new.pass 0 c.args.tries c.self.view_is (ap (λ (x : WorkerView). x.pass) c.worker.view_is)
      c.know_run.ensures.seen c.know_run-2.ensures.seen c.know_run.ensures.fits c.get-found.ensures.same
      c.get-found.ensures.past c.requires.call.own (c.args.key ∷ [])
      (of_error c.get-found.result fault.Busy is c.get-found.ensures.missed);
  alone = λ alone is. many_alone c.args.worker.now.pass c.get-found.new.pass c.args.tries alone
      (many_interfered c.self.inside.shared c.args.self.now c.worker.inside.pass c.args.worker.now.pass
      c.get-found.new.pass 0 c.args.tries c.self.view_is (ap (λ (x : WorkerView). x.pass) c.worker.view_is)
      c.know_run.ensures.seen c.know_run-2.ensures.seen c.know_run.ensures.fits c.get-found.ensures.same
      c.get-found.ensures.past c.requires.call.own (c.args.key ∷ [])
      (of_error c.get-found.result fault.Busy is c.get-found.ensures.missed));
  moment = search rules;
  won = search rules;
  steps = search rules;
  queues = search rules;
  held = search rules;
  fit = search rules;
}
