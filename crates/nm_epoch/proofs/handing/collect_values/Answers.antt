use Rattle.std.proofs.Common.{◌≤◌, ◌+◌, ◌∙◌, length, subst, sym, ap, arith, List, ℕ}
use Rattle.std.specs.Prelude.{Option}
use Rattle.nm_edge.specs.Layouts.{Layout}
use Rattle.nm_model.specs.declared.knowledge.Brief.{Brief}
use Rattle.nm_model.specs.declared.ledger.Ledger.{Ledger}
use Rattle.nm_model.specs.Ledgers.{held}
use Rattle.nm_steps.specs.Rules.{knowledge}
use Rattle.nm_steps.specs.Steps.{PassView}
use Rattle.nm_steps.proofs.AfterSteps.{apart_in_run}
use Rattle.nm_steps.proofs.Seeing.{continues_then}
use Rattle.nm_epoch.specs.Collecting.{AreHeld}
use Rattle.nm_epoch.specs.Handing.{HaveHandedOut}
use Rattle.nm_epoch.proofs.HandedQueues.{all_earlier, handing_steps}
use Rattle.nm_epoch.proofs.Newest.{is_newest}
use Rattle.nm_epoch.proofs.OneQueue.{settled_on}
use Rattle.nm_epoch.proofs.Sighted.{held_seen, seen_retires}
use Rattle.nm_epoch.proofs.handing.collect_values.Goals as goal

pub hand_out_fronts-values-requires-clause-queues : goal.hand_out_fronts-values-requires-clause-queues
hand_out_fronts-values-requires-clause-queues c = held_seen c.args.pass.now c.read-epoch.new.pass c.read-epoch.result
    c.read-epoch.ensures.on.same c.read-epoch.ensures.step c.args.queues.now c.requires.queues

pub returns-clause-after : goal.returns-clause-after
returns-clause-after c =
    let o = c.args.pass.now in
    let p = c.read-epoch.new.pass in
    let q = c.hand_out_fronts-values.new.pass in
    let e = c.read-epoch.result in
    let read = c.read-epoch.ensures in
    let after = c.hand_out_fronts-values.ensures.after in
    let did = after.1 in
    let least = read.on.run.fits.least in
    let has : AreHeld (knowledge p.view) c.args.queues.now = held_seen o p e read.on.same read.step c.args.queues.now
    c.requires.queues in
    record {
      on = continues_then _ _ _ read.on did.on;
      freed = did.freed;
      handed = subst (λ (vs : List ℕ). HaveHandedOut e o q c.args.queues.now c.hand_out_fronts-values.new.queues
          did.freed vs) (sym after.2) (all_earlier e o p q c.args.queues.now c.hand_out_fronts-values.new.queues
          did.freed after.0 read.on did.handed);
      part = (p.view.log, read.step, did.entries);
      all = did.all;
      blocks = did.blocks;
      queues = did.queues;
      others = λ origin none'. did.others origin none'
          ∙ ap (λ (ls : List (Option Ledger)). held ls origin) read.ledgers;
      retired = λ origin. did.only.retired origin ∙ seen_retires o p e read.ledgers origin;
      steps = subst (λ (L : Layout). length q.view.log ≤ length o.view.log + L.nodes)
          (ap (λ (s : PassView). s.view.layout) read.on.same ∙ c.requires.own.layout)
          (handing_steps p.view.layout (knowledge p.view) e p q c.args.queues.now c.hand_out_fronts-values.new.queues
          did.freed after.0 o.view.log p.view.log q.view.log (apart_in_run p read.on.run) has
          (omega (arith, least)) read.step did.entries did.handed);
      newest = is_newest o p e read.step read.seen read.on.run;
      seen = ap (λ (b : Brief). b.seen) did.only.epochs_are ∙ read.seen;
      settles = settled_on o p q read.settles did.only;
      private = did.only.private ∙ read.hands.private;
    }
