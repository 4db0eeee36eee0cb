use Rattle.std.proofs.Common.{rules, ap, ℕ, sym, subst}
use Rattle.std.specs.Prelude.{IsSome, Option}
use Rattle.nm_calls.proofs.Adding.{has_won}
use Rattle.nm_calls.proofs.PlainLooks.{looks_add}
use Rattle.nm_tree.specs.Workers.{WorkerView}
use Rattle.nm_tree.proofs.Quiet.{quiet}
use Rattle.nm_tree.proofs.Staying.{held_as, holding_as, holding_in, holds_on, stays}
use Rattle.nm_tree.proofs.tree.Tree.get_pinned.Goals as goal

pub get_pinned-requires-clause-pinned : goal.get_pinned-requires-clause-pinned
get_pinned-requires-clause-pinned c =
    let at = held_as c.worker.inside.standing (subst (λ (o : Option ℕ). IsSome o)
    (sym (ap (λ (w : WorkerView). w.held) c.worker.view_is)) c.requires.held) in
    let holds = holding_in c.worker.inside.pass c.worker.inside.standing at.0 at.1 c.worker.invariant.between.stands in
    record {
      own = search rules;
      run = record { fits = c.know_run.ensures.fits; run = c.know_run.ensures.run };
      pin =
          (at.0, holds.pin);
    }

pub get_pinned-requires-clause-known : goal.get_pinned-requires-clause-known
get_pinned-requires-clause-known c =
    let at = held_as c.worker.inside.standing (subst (λ (o : Option ℕ). IsSome o)
    (sym (ap (λ (w : WorkerView). w.held) c.worker.view_is)) c.requires.held) in
    (holding_in c.worker.inside.pass c.worker.inside.standing at.0 at.1 c.worker.invariant.between.stands).known

pub invariant_of-worker : goal.invariant_of-worker
invariant_of-worker c =
    let p = c.worker.inside.pass in
    let q = c.get_pinned.new.pass in
    let s = c.worker.inside.standing in
    let did = c.get_pinned.ensures in
    let at = held_as s (subst (λ (o : Option ℕ). IsSome o) (sym (ap (λ (w : WorkerView). w.held) c.worker.view_is))
    c.requires.held) in
    stays _ c.worker.inside.home q _ _ c.worker.invariant did.on.same
    (quiet p.view.log q.view.log (looks_add p.view.log q.view.log did.looks)) did.only.private did.only.ledgers
    (holding_as q s at.0 at.1 (holds_on p q at.0 (holding_in p s at.0 at.1 c.worker.invariant.between.stands) did.on
    did.only did.looks))

pub returns : goal.returns
returns c = record {
  same = search rules;
  past = search rules;
  did = search rules;
  gave = search rules;
  moment = search rules;
  won = rw (← c.worker.view_is) (has_won _ _ (looks_add c.worker.inside.pass.view.log c.get_pinned.new.pass.view.log
      c.get_pinned.ensures.looks));
  place = search rules;
  queues = search rules;
  fit = search rules;
}
