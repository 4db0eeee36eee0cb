use Rattle.std.proofs.Common.{◌≡◌, refl, sym, subst, inr}
use Rattle.std.specs.Prelude.{Option, Some, slice_get}
use Rattle.nm_epoch.specs.declared.collecting.HeldQueue.{HeldQueue}
use Rattle.std.proofs.lemmas.Option.{slice_get_within, slice_get_read}
use Rattle.std.specs.Vec.{with_item}
use Rattle.nm_tree.specs.declared.closing.Report.{Report}
use Rattle.nm_set_c.specs.declared.remains.Remains.{Remains}
use Rattle.nm_set_c.specs.declared.reports.Waiting.{Waiting}
use Rattle.nm_set_c.specs.Reports.{IsTakenOut}
use Rattle.nm_set_c.specs.declared.outcome.Outcome.TheVariants.{Yes}
use Rattle.nm_set_c.proofs.Items.{get_written, get_beside}
use Rattle.nm_set_c.proofs.reports.oldest.Goals as goal

pub returns : goal.returns
returns c =
    let queues = c.args.remains.now.report.queues.items in
    let before : HeldQueue = c.in-Some.held.now in
    let after : HeldQueue = record before { queue = c.pop.new.self } in
    let waiting : Waiting = record {
      slot = c.from.result;
      generation = c.in-Some-pop.entry.node.birth;
      label =
          c.in-Some-pop.entry.label;
    } in
    let report : Report = record c.args.remains.now.report
    { queues = with_item c.args.remains.now.report.queues c.args.worker after } in
    let left : Remains = record c.args.remains.now { report = report } in
    let found : slice_get queues c.args.worker ≡ Some before = slice_get_read queues
    c.args.remains.now.report.queues.len c.args.worker before c.args.remains.now.report.queues.ok.0
    (c.in-Some.ensures.variant.0 refl) c.in-Some.ensures.value in
    subst (λ (h : Option HeldQueue). IsTakenOut h c.args.worker c.args.waiting.now waiting c.args.remains.now left
    Yes) (sym found)
    (inr (
      refl,
      c.in-Some-pop.entry,
      after,
      c.in-Some-pop.ensures.popped.0,
      refl,
      record { slot = c.from.ensures; generation = refl; label = refl },
      record {
        here = get_written queues c.args.worker after (slice_get_within queues c.args.worker before found);
        others = λ i apart. get_beside queues c.args.worker i after apart;
        keys = refl;
        free = refl;
        reached = refl;
        values = refl;
      },
    ))
