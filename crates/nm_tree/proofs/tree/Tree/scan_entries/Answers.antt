use Rattle.std.proofs.Common.{rules, ◌∷◌, [], ℕ, ap, ◌∙◌}
use Rattle.std.specs.Prelude.{length}
use Rattle.nm_steps.proofs.Seeing.{seen_all}
use Rattle.nm_progress.proofs.AloneCalls.{many_alone}
use Rattle.nm_calls.specs.declared.fault.CallFault.TheVariants as fault
use Rattle.nm_calls.specs.MapScans.{keys_of}
use Rattle.nm_calls.specs.PlainWalks.{GivesUpUnderPin}
use Rattle.nm_calls.specs.Scans.{IsFull, StopsShort}
use Rattle.nm_progress.specs.Lookups.{WasReshaped}
use Rattle.nm_tree.specs.Workers.{WorkerView}
use Rattle.nm_tree.proofs.Answered.{has_scanned, of_error}
use Rattle.nm_tree.proofs.EarlyScans.{early_for, whole_alone}
use Rattle.nm_tree.proofs.Interfered.{many_interfered, scan_interfered}
use Rattle.nm_tree.proofs.Quiet.{quiet_so}
use Rattle.nm_tree.proofs.Staying.{stays_resting, resting_in, free_in}
use Rattle.nm_tree.proofs.tree.Tree.scan_entries.Goals as goal

pub invariant_of-worker : goal.invariant_of-worker
invariant_of-worker c = stays_resting c.worker.inside.pass c.scan_with_values-answer.new.pass _
    c.worker.inside.standing c.worker.inside.home (resting_in c.worker.inside.standing
    (ap (λ (w : WorkerView). w.held) c.worker.view_is ∙ c.requires.call.free) c.in_default.not-Pending)
    c.worker.invariant c.scan_with_values-answer.ensures.after.same
    (quiet_so _ _ c.scan_with_values-answer.ensures.after.won c.scan_with_values-answer.ensures.after.uncut)
    c.scan_with_values-answer.ensures.after.hands c.scan_with_values-answer.ensures.after.rests

pub returns-clause-leaves : goal.returns-clause-leaves
returns-clause-leaves c =
    let w = c.args.worker.now.pass in
    let p = c.worker.inside.pass in
    let q = c.scan_with_values-answer.new.pass in
    let b = c.self.inside.shared in
    let t = c.args.tries in
    let r = c.scan_with_values-answer.result in
    let Full : ℕ → Type 0 = IsFull (length (keys_of c.scan_with_values-answer.new.out)) in
    let early = early_for Full t (GivesUpUnderPin (StopsShort b.layout) t p.view.log q.view.log) (WasReshaped w q 1) r
    (λ short. scan_interfered b c.args.self.now p w q 0 t c.self.view_is
    (ap (λ (x : WorkerView). x.pass) c.worker.view_is) c.know_run.ensures.seen c.know_run-2.ensures.seen
    c.know_run.ensures.fits c.scan_with_values-answer.ensures.after.same
    c.scan_with_values-answer.ensures.after.past c.requires.call.own short)
    c.scan_with_values-answer.ensures.after.early in
    record {
      same = search rules;
      past = search (rules, seen_all);
      did = rw (← c.worker.view_is, ← c.self.view_is)
          (has_scanned _ c.args.tries _ _ _ (free_in c.worker.inside.standing
          (resting_in c.worker.inside.standing (ap (λ (w : WorkerView). w.held) c.worker.view_is
          ∙ c.requires.call.free) c.in_default.not-Pending)) c.scan_with_values-answer.result
          c.scan_with_values-answer.ensures.after.did c.scan_with_values-answer.ensures.after.missed
          c.scan_with_values-answer.ensures.after.busy);
      interfered = λ is. many_interfered c.self.inside.shared c.args.self.now c.worker.inside.pass
          c.args.worker.now.pass c.scan_with_values-answer.new.pass 0 c.args.tries c.self.view_is
          (ap (λ (x : WorkerView). x.pass) c.worker.view_is)
          c.know_run.ensures.seen c.know_run-2.ensures.seen c.know_run.ensures.fits
          c.scan_with_values-answer.ensures.after.same c.scan_with_values-answer.ensures.after.past
          c.requires.call.own (c.args.from ∷ c.args.from ∷ [])
          (of_error c.scan_with_values-answer.result fault.Busy is c.scan_with_values-answer.ensures.after.missed);
      alone = λ alone is. many_alone c.args.worker.now.pass c.scan_with_values-answer.new.pass c.args.tries alone
          (many_interfered c.self.inside.shared c.args.self.now c.worker.inside.pass c.args.worker.now.pass
          c.scan_with_values-answer.new.pass 0 c.args.tries c.self.view_is
          (ap (λ (x : WorkerView). x.pass) c.worker.view_is)
          c.know_run.ensures.seen c.know_run-2.ensures.seen c.know_run.ensures.fits
          c.scan_with_values-answer.ensures.after.same c.scan_with_values-answer.ensures.after.past
          c.requires.call.own (c.args.from ∷ c.args.from ∷ [])
          (of_error c.scan_with_values-answer.result fault.Busy is c.scan_with_values-answer.ensures.after.missed));
      moment = search rules;
      count = search rules;
      next = search rules;
      early = early;
      whole = λ alone two. whole_alone Full t w q r early alone two;
      kept = search rules;
      won = search rules;
      steps = search rules;
      queues = search rules;
      held = search rules;
      fit = search rules;
    }

pub returns-clause-finds : goal.returns-clause-finds
returns-clause-finds c = rw (← c.worker.view_is) c.scan_with_values-answer.ensures.finds
