use Rattle.std.proofs.Common.{◌≡◌, List, ap, subst, sym, ◌∙◌}
use Rattle.std.specs.Prelude.{Option}
use Rattle.nm_epoch.specs.declared.collecting.HeldQueue.{HeldQueue}
use Rattle.nm_tree.specs.declared.worker.Counts.{Counts}
use Rattle.nm_tree.specs.Workers.{counts_among}
use Rattle.nm_tree.proofs.Ledgers.{IsFoundFor, all_told, found_for}
use Rattle.nm_tree.proofs.worker.Worker.ledger_of.Goals as goal

pub returns : goal.returns
returns c =
    let p = c.self.inside.pass in
    let hs = c.self.inside.queues.items in
    let told = all_told p (record { fits = c.know_run.ensures.fits; run = c.know_run.ensures.run }) hs
    c.self.invariant.counted c.self.invariant.between.queues in
    let is : counts_among hs c.args.origin ≡ c.counts_among.result = ap
    (λ (xs : List HeldQueue). counts_among xs c.args.origin) (sym c.as_slice.ensures.value)
    ∙ sym c.counts_among.ensures in
    let found = subst (λ (f : Option Counts). IsFoundFor p.view c.args.origin hs f) is
    (found_for p.view c.args.origin hs told) in
    rw (← c.self.view_is) (record { some = found.some'; held = found.held'; none = found.none' })
