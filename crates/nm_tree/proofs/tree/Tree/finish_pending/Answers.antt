use Rattle.std.proofs.Common.{rules, inl, inr, sym, None, ap, refl, subst, ◌∙◌, arith}
use Rattle.std.specs.Prelude.{Ok, IsSome, slice_set}
use Rattle.nm_model.specs.Maps.{get}
use Rattle.nm_model.specs.declared.event.Op.TheVariants.{Delete}
use Rattle.nm_steps.specs.Steps.{PassView}
use Rattle.nm_calls.specs.Moments.{AnswerHasMoment, HadNoCall}
use Rattle.nm_steps.proofs.Seeing.{seen_all}
use Rattle.nm_tree.specs.Workers.{WorkerView, pending_in}
use Rattle.nm_tree.proofs.QueueLists.{lacks_after, stands_within, room_after}
use Rattle.nm_tree.proofs.Changing.{kept_there, changed, others_kept}
use Rattle.nm_tree.proofs.Staying.{removing_in}
use Rattle.std.specs.Prelude.{true}
use Rattle.nm_tree.proofs.Interfered.{finish_alone, finish_lost}
use Rattle.nm_tree.proofs.Telling.{finished_so}
use Rattle.nm_tree.proofs.Untouched.{finishes_none}
use Rattle.nm_tree.proofs.tree.Tree.finish_pending.Goals as goal

pub returns-in_default-clause-leaves : goal.returns-in_default-clause-leaves
returns-in_default-clause-leaves c = finishes_none c.args.self.now.layout c.args.tries c.args.worker.now (search rules)

pub returns-in_default-clause-says : goal.returns-in_default-clause-says
returns-in_default-clause-says c = (returns-in_default-clause-leaves c).says

pub index_mut-own-requires : goal.index_mut-own-requires
index_mut-own-requires c = omega (
  arith,
  stands_within c.worker.inside.home _ c.worker.inside.queues.items
      c.worker.invariant.own,
  c.worker.inside.queues.ok.0,
)

pub finish-requires-clause-kept : goal.finish-requires-clause-kept
finish-requires-clause-kept c = kept_there _ c.worker.inside.home _ c.worker.invariant c.index_mut-own.ensures.value

pub invariant_of-worker : goal.invariant_of-worker
invariant_of-worker c =
    changed _ c.worker.inside.home c.finish.new.pass _ _ c.finish.new.held c.worker.invariant
    c.finish.ensures.after.same c.finish.ensures.kept
    c.finish.ensures.after.ledgers.others (λ slot. ap (λ ds. get ds slot) c.finish.ensures.after.private)
    (removing_in c.finish.new.pass c.worker.inside.standing _ c.in-Pending.is
    (c.finish.ensures.after.removing c.if-not-finish.true))
    (_, c.index_mut-own.ensures.value, c.finish.ensures.blocks)

pub returns-then-not-finish-clause-says : goal.returns-then-not-finish-clause-says
returns-then-not-finish-clause-says c = record {
  same = search rules;
  past = search (rules, seen_all);
  told = rw (← c.worker.view_is) (subst IsSome (sym (ap pending_in c.in-Pending.is)) refl, refl);
  moment = search rules;
  won = search rules;
  steps = search rules;
  queues = others_kept _ _ c.worker.inside.home c.finish.new.pass c.finish.new.held c.worker.view_is
      c.worker.invariant.own c.finish.ensures.kept.own c.finish.ensures.after.same;
  blocks = rw (← c.worker.view_is) (room_after c.worker.inside.home _ c.worker.inside.queues.items _
      c.finish.new.held c.worker.invariant.own c.index_mut-own.ensures.value c.finish.ensures.blocks);
  held = search rules;
  fit = search rules;
}

pub returns-then-not-finish-clause-leaves : goal.returns-then-not-finish-clause-leaves
returns-then-not-finish-clause-leaves c = record {
  says = returns-then-not-finish-clause-says c;
  did = search rules;
  lacks = (
      rw (← c.self.view_is, ← c.worker.view_is)
      (elim (c.finish.ensures.refused c.if-not-finish.true) [
        | inl less ↦ inl (lacks_after c.worker.inside.home _ _ c.worker.inside.queues.items c.finish.new.held
            c.worker.invariant.own c.finish.ensures.kept.own less)
        | inr lost ↦ inr (c.in-Pending.pending, ap pending_in c.in-Pending.is, lost)
      ])
      );
  lost = λ is. (
      (elim (c.finish.ensures.refused c.if-not-finish.true) [
        | inl less ↦ inl (lacks_after c.worker.inside.home _ _ c.worker.inside.queues.items c.finish.new.held
            c.worker.invariant.own c.finish.ensures.kept.own less)
        | inr lost ↦ inr
            (finish_lost c.self.inside.shared c.args.self.now c.worker.inside.pass c.args.worker.now.pass
            c.finish.new.pass c.in-Pending.pending.key c.args.tries c.self.view_is
            (ap (λ (x : WorkerView). x.pass) c.worker.view_is)
            c.know_run.ensures.seen c.know_run-then-not-finish.ensures.seen c.know_run.ensures.fits
            c.finish.ensures.after.same c.finish.ensures.after.past c.requires.own c.in-Pending.pending.leaf
            (c.finish.ensures.after.removing c.if-not-finish.true) lost)
      ])
      );
  alone = λ alone. (
      (elim (c.finish.ensures.refused c.if-not-finish.true) [
        | inl less ↦ inr (lacks_after c.worker.inside.home _ _ c.worker.inside.queues.items c.finish.new.held
            c.worker.invariant.own c.finish.ensures.kept.own less)
        | inr lost ↦ inl
            (finish_alone c.self.inside.shared c.args.self.now c.worker.inside.pass c.args.worker.now.pass
            c.finish.new.pass c.in-Pending.pending.key c.args.tries c.self.view_is
            (ap (λ (x : WorkerView). x.pass) c.worker.view_is)
            c.know_run.ensures.seen c.know_run-then-not-finish.ensures.seen c.know_run.ensures.fits
            c.finish.ensures.after.same c.finish.ensures.after.past c.requires.own c.in-Pending.pending.leaf alone
            (c.finish.ensures.after.removing c.if-not-finish.true) lost)
      ])
      );
}

pub invariant_of-worker-2 : goal.invariant_of-worker-2
invariant_of-worker-2 c =
    changed _ c.worker.inside.home c.finish.new.pass _ _ c.finish.new.held c.worker.invariant
    c.finish.ensures.after.same c.finish.ensures.kept
    c.finish.ensures.after.ledgers.others (λ slot. ap (λ ds. get ds slot) c.finish.ensures.after.private)
    (c.finish.ensures.after.rests c.if-not-finish.false)
    (_, c.index_mut-own.ensures.value, c.finish.ensures.blocks)

pub returns-clause-says : goal.returns-clause-says
returns-clause-says c = record {
  same = search rules;
  past = search (rules, seen_all);
  told = rw (← c.worker.view_is) (subst IsSome (sym (ap pending_in c.in-Pending.is)) refl, refl);
  moment = (
      let n = c.in-Pending.pending in
      let P : WorkerView → Type 0 = λ w. (o : PassView) → HadNoCall o w.pass
      → AnswerHasMoment o c.finish.new.pass Delete n.key true in (
        n,
        ap (λ (w : WorkerView). w.pending) (sym c.worker.view_is)
            ∙ ap pending_in c.in-Pending.is,
        subst P c.worker.view_is (c.finish.ensures.after.moment c.if-not-finish.false),
      )
      );
  won = search rules;
  steps = search rules;
  queues = others_kept _ _ c.worker.inside.home c.finish.new.pass c.finish.new.held c.worker.view_is
      c.worker.invariant.own c.finish.ensures.kept.own c.finish.ensures.after.same;
  blocks = rw (← c.worker.view_is) (room_after c.worker.inside.home _ c.worker.inside.queues.items _
      c.finish.new.held c.worker.invariant.own c.index_mut-own.ensures.value c.finish.ensures.blocks);
  held = search rules;
  fit = search rules;
}

pub returns-clause-leaves : goal.returns-clause-leaves
returns-clause-leaves c = record {
  says = returns-clause-says c;
  did = (
      finished_so _ _ c.args.tries _ _ (record {
        pass = c.finish.new.pass;
        queues = slice_set
            c.worker.inside.queues.items c.worker.inside.home c.finish.new.held;
        pending = None;
        held = None;
        fit =
            c.finish.new.workspace.placement;
      })
      (Ok true) c.self.view_is c.worker.view_is (
        c.in-Pending.pending,
        ap pending_in c.in-Pending.is,
        refl,
        rw
            c.if-not-finish.false at c.finish.ensures.after.did,
      )
      );
  lacks = search rules;
  lost = λ is. absurd (let no = is in cc);
  alone = λ alone. tt;
}
