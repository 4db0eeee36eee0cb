use Rattle.std.proofs.Common.{◌≤◌, ◌+◌, ◌∙◌, length, subst, ap, arith, List}
use Rattle.std.specs.Prelude.{Option}
use Rattle.nm_edge.specs.Layouts.{Layout}
use Rattle.nm_model.specs.declared.knowledge.Brief.{Brief}
use Rattle.nm_model.specs.declared.ledger.Ledger.{Ledger}
use Rattle.nm_model.specs.Ledgers.{held}
use Rattle.nm_steps.specs.Rules.{knowledge}
use Rattle.nm_steps.specs.Steps.{PassView}
use Rattle.nm_steps.proofs.AfterSteps.{apart_in_run}
use Rattle.nm_steps.proofs.Seeing.{continues_then}
use Rattle.nm_epoch.specs.Collecting.{AreHeld}
use Rattle.nm_epoch.proofs.FewFreed.{collect_steps}
use Rattle.nm_epoch.proofs.Newest.{is_newest}
use Rattle.nm_epoch.proofs.OneQueue.{settled_on}
use Rattle.nm_epoch.proofs.Sighted.{held_seen, seen_retires}
use Rattle.nm_epoch.proofs.collecting.collect.Goals as goal

pub collect_fronts-freed-requires-clause-queues : goal.collect_fronts-freed-requires-clause-queues
collect_fronts-freed-requires-clause-queues c = held_seen c.args.pass.now c.read-epoch.new.pass c.read-epoch.result
    c.read-epoch.ensures.on.same c.read-epoch.ensures.step c.args.queues.now c.requires.queues

pub returns-clause-after : goal.returns-clause-after
returns-clause-after c =
    let o = c.args.pass.now in
    let p = c.read-epoch.new.pass in
    let e = c.read-epoch.result in
    let read = c.read-epoch.ensures in
    let frees = c.collect_fronts-freed.ensures.after in
    let least = read.on.run.fits.least in
    let has : AreHeld (knowledge p.view) c.args.queues.now = held_seen o p e read.on.same read.step c.args.queues.now
    c.requires.queues in
    record {
      on = continues_then _ _ _ read.on frees.on;
      part = (p.view.log, read.step, frees.entries);
      freed = frees.freed;
      lost = frees.lost;
      blocks = frees.blocks;
      queues = frees.queues;
      others = λ origin none'. frees.others origin none'
          ∙ ap (λ (ls : List (Option Ledger)). held ls origin) read.ledgers;
      retired = λ origin. frees.only.retired origin ∙ seen_retires o p e read.ledgers origin;
      steps = subst (λ (L : Layout). length c.collect_fronts-freed.new.pass.view.log ≤ length o.view.log + L.nodes)
          (ap (λ (s : PassView). s.view.layout) read.on.same ∙ c.requires.own.layout)
          (collect_steps p.view.layout (knowledge p.view) e c.args.queues.now o.view.log
          c.collect_fronts-freed.new.pass.view.log (apart_in_run p read.on.run) has (omega (arith, least))
          (p.view.log, read.step, frees.entries));
      newest = is_newest o p e read.step read.seen read.on.run;
      seen = ap (λ (b : Brief). b.seen) frees.only.epochs_are ∙ read.seen;
      settles = settled_on o p c.collect_fronts-freed.new.pass read.settles frees.only;
      private = frees.only.private ∙ read.hands.private;
    }
