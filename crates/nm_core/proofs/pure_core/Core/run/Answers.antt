use Rattle.std.proofs.Common.{◌≡◌, List, take, Result, Ok, Err, IfOk}
use Rattle.nm_model.specs.declared.trace.RunError.{RunError}
use Rattle.nm_model.specs.declared.trace.Turn.{Turn}
use Rattle.nm_model.specs.Ordered.{after_in, trace_in}
use Rattle.nm_model.specs.Traces.{IsLawfulRun}
use Rattle.nm_laws.proofs.OrderedRuns.{lawful_run_in}
use Rattle.nm_core.proofs.Reached.{has_past, headline_behind, histories_behind, stays_in_order}
use Rattle.nm_core.specs.Stops.{played}
use Rattle.nm_core.proofs.pure_core.Core.run.Goals as goal

pub returns-clause-lawful : goal.returns-clause-lawful
returns-clause-lawful c = go c.play.result (rw c.deref.ensures.value at c.play.ensures.trace)
  where
    go : (r : Result (List Turn) RunError) → IfOk r (λ t. t ≡ trace_in c.args.self.now c.args.events.items)
        → IfOk r (λ t. IsLawfulRun (λ i. (after_in c.args.self.now (take i c.args.events.items)).state) t)
    go (Ok t) is = rw is (lawful_run_in c.args.self.now c.know_run.ensures c.args.events.items)
    go (Err e) is = tt

pub returns-clause-headline : goal.returns-clause-headline
returns-clause-headline c =
    let same = c.deref.ensures.value in
    headline_behind c.args.self.now (played c.args.events.items c.play.result) (rw same at c.play.ensures.keys)

pub returns-clause-past : goal.returns-clause-past
returns-clause-past c = has_past c.args.self.now c.know_run.ensures

pub returns-clause-histories : goal.returns-clause-histories
returns-clause-histories c =
    let same = c.deref.ensures.value in
    histories_behind c.args.self.now c.know_run.ensures (played c.args.events.items c.play.result)
    (rw same at c.play.ensures.keys)

pub returns-clause-order : goal.returns-clause-order
returns-clause-order c =
    let same = c.deref.ensures.value in
    stays_in_order c.args.self.now c.know_run.ensures (played c.args.events.items c.play.result)
    (rw same at c.play.ensures.keys)
