use Rattle.std.proofs.Common.{◌-◌, ◌+◌, ◌++◌, [], is_some, unwrap_or, sym, ap, ◌∙◌, arith}
use Rattle.std.proofs.lemmas.Bool.{false≢true}
use Rattle.nm_model.specs.Knowledge.{cut_by}
use Rattle.nm_model.proofs.Ways.{way_here, way_next, way_end, some_before, cut_before}
use Rattle.nm_core.proofs.worker.WorkerState.cut.Goals as goal

pub returns-then-at-to : goal.returns-then-at-to
returns-then-at-to c =
    let here = way_here (c.args.fuel - c.loop.counter) (c.args.fuel - (c.loop.counter + 1)) c.args.self.now c.loop.at
    c.args.to (omega arith) c.if-at-to.true in
    rw (c.in_ok-push_both.ensures, c.slot_read.ensures, c.other.ensures)
    (ap (λ o. c.loop.slots.items ++ cut_by c.args.self.now c.loop.at (unwrap_or o []) c.args.keep) (sym here)
    ∙ c.loop.invariant.slots)

pub returns-in_default : goal.returns-in_default
returns-in_default c =
    let end = way_end (c.args.fuel - c.loop.counter) (c.args.fuel - (c.loop.counter + 1)) c.args.self.now c.loop.at
    c.args.to (omega arith) c.if-at-to.false (sym c.onward.ensures ∙ c.in_default.is) in
    absurd (false≢true (ap is_some (sym end) ∙ c.loop.invariant.leads))

pub loop-preserved : goal.loop-preserved
loop-preserved c =
    let next = way_next (c.args.fuel - c.loop.counter) (c.args.fuel - (c.loop.counter + 1)) c.args.self.now c.loop.at
    c.args.to c.in-Some.side (omega arith) c.if-at-to.false (sym c.onward.ensures ∙ c.in-Some.is) in
    let leads = sym (some_before c.in-Some.side _) ∙ sym (ap is_some next) ∙ c.loop.invariant.leads in
    record {
      slots = rw (
        c.in_ok-push_both-2.ensures,
        c.slot_read-in-loop.ensures,
        c.other-in-loop.ensures,
        c.slot_read-at.ensures,
      )
          (cut_before c.args.self.now c.loop.slots.items c.loop.at c.in-Some.side c.args.keep _ leads
          ∙ ap (λ o. c.loop.slots.items ++ cut_by c.args.self.now c.loop.at (unwrap_or o []) c.args.keep) (sym next)
          ∙ c.loop.invariant.slots);
      leads = rw c.slot_read-at.ensures leads;
    }
