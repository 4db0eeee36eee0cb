use Rattle.std.proofs.Common.{rules, ◌≡◌, ◌<◌, ap, refl, subst, sym, ◌∙◌, arith}
use Rattle.std.specs.Prelude.{None, Some, Ok, Err, slice_set}
use Rattle.nm_model.specs.Maps.{get}
use Rattle.nm_steps.specs.Steps.{IsOf, TreeView}
use Rattle.nm_walks.specs.Bounds.{cut_bound}
use Rattle.nm_calls.specs.declared.deleting.Deletion.{Deletion}
use Rattle.nm_calls.specs.declared.deleting.Deletion.TheVariants as deletion
use Rattle.nm_calls.specs.Deletes.{AfterDelete, IfTaken, LacksRoomOr, LosesAfterFlag}
use Rattle.nm_calls.specs.Maps.{HasTaken}
use Rattle.nm_puts.specs.declared.removing.DeleteOutcome.{DeleteOutcome}
use Rattle.nm_puts.specs.Removing.{AfterOther, AsDelete, IfOther}
use Rattle.nm_tree.specs.Answers.{LacksRoom}
use Rattle.nm_tree.specs.Workers.{WorkerView, held_in, pending_in}
use Rattle.nm_tree.proofs.Changing.{changed, kept_there, others_kept}
use Rattle.nm_tree.proofs.DeletesTold.{KeepsRest, delete_leaves, taken_so}
use Rattle.nm_tree.proofs.QueueLists.{lacks_after, room_after, stands_within}
use Rattle.nm_tree.proofs.RemovesIf.{as_done, not_other, other_unfreed}
use Rattle.nm_tree.proofs.Staying.{free_in, rests_as, rests_in, resting_in}
use Rattle.nm_tree.proofs.Unfreed.{freed_still}
use Rattle.nm_tree.proofs.Untouched.{delete_pending}
use Rattle.nm_tree.proofs.tree.Tree.delete_if.Goals as goal

pub returns-in-Pending-clause-leaves : goal.returns-in-Pending-clause-leaves
returns-in-Pending-clause-leaves c = delete_pending c.args.self.now.layout c.args.tries c.args.key c.args.worker.now
    (search rules) c.requires.call.free

pub index_mut-own-requires : goal.index_mut-own-requires
index_mut-own-requires c = omega (
  arith,
  stands_within c.worker.inside.home _ c.worker.inside.queues.items
      c.worker.invariant.own,
  c.worker.inside.queues.ok.0,
)

pub delete_if-requires-clause-rests : goal.delete_if-requires-clause-rests
delete_if-requires-clause-rests c = rests_in c.worker.inside.pass c.worker.inside.standing
    (resting_in c.worker.inside.standing (ap (λ (w : WorkerView). w.held) c.worker.view_is ∙ c.requires.call.free)
    c.in_default.not-Pending) c.worker.invariant.between.stands

pub delete_if-requires-clause-kept : goal.delete_if-requires-clause-kept
delete_if-requires-clause-kept c = kept_there _ c.worker.inside.home _ c.worker.invariant
    c.index_mut-own.ensures.value

pub invariant_of-worker : goal.invariant_of-worker
invariant_of-worker c =
    let L = c.self.inside.shared.layout in
    let p = c.worker.inside.pass in
    let q = c.delete_if.new.pass in
    let k = c.args.key in
    let after = subst (λ (d : Deletion). AfterDelete L c.args.tries k p q (Ok d))
    c.in-Ok-Deletion-Done.field-0-0-is (subst (λ (r : DeleteOutcome). AsDelete (Ok r)
    (AfterDelete L c.args.tries k p q)) c.in-Ok-Deletion-Done.field-0-is
    c.in-Ok-Deletion-Done.ensures.after) in
    changed _ c.worker.inside.home q _ _ c.delete_if.new.held c.worker.invariant after.same
    c.delete_if.ensures.kept after.ledgers.others (λ slot. ap (λ ds. get ds slot) after.private)
    (rests_as q c.worker.inside.standing
    (resting_in c.worker.inside.standing (ap (λ (w : WorkerView). w.held) c.worker.view_is ∙ c.requires.call.free)
    c.in_default.not-Pending) after.stands)
    (_, c.index_mut-own.ensures.value, c.delete_if.ensures.blocks)

pub invariant_of-worker-in-Err : goal.invariant_of-worker-in-Err
invariant_of-worker-in-Err c =
    let L = c.self.inside.shared.layout in
    let p = c.worker.inside.pass in
    let q = c.delete_if.new.pass in
    let k = c.args.key in
    let after = c.in-Err.ensures.after in
    changed _ c.worker.inside.home q _ _ c.delete_if.new.held c.worker.invariant after.same
    c.delete_if.ensures.kept after.ledgers.others (λ slot. ap (λ ds. get ds slot) after.private)
    (rests_as q c.worker.inside.standing
    (resting_in c.worker.inside.standing (ap (λ (w : WorkerView). w.held) c.worker.view_is ∙ c.requires.call.free)
    c.in_default.not-Pending) after.stands)
    (_, c.index_mut-own.ensures.value, c.delete_if.ensures.blocks)

pub invariant_of-worker-in-Ok-Deletion-Pending : goal.invariant_of-worker-in-Ok-Deletion-Pending
invariant_of-worker-in-Ok-Deletion-Pending c =
    let L = c.self.inside.shared.layout in
    let p = c.worker.inside.pass in
    let q = c.delete_if.new.pass in
    let k = c.args.key in
    let after = subst (λ (d : Deletion). AfterDelete L c.args.tries k p q (Ok d))
    c.in-Ok-Deletion-Pending.field-0-0-is (subst (λ (r : DeleteOutcome). AsDelete (Ok r)
    (AfterDelete L c.args.tries k p q)) c.in-Ok-Deletion-Pending.field-0-is
    c.in-Ok-Deletion-Pending.ensures.after) in
    changed _ c.worker.inside.home q _ _ c.delete_if.new.held c.worker.invariant after.same
    c.delete_if.ensures.kept after.ledgers.others (λ slot. ap (λ ds. get ds slot) after.private)
    after.stands
    (_, c.index_mut-own.ensures.value, c.delete_if.ensures.blocks)

pub invariant_of-worker-in-Ok-Other : goal.invariant_of-worker-in-Ok-Other
invariant_of-worker-in-Ok-Other c =
    let L = c.self.inside.shared.layout in
    let p = c.worker.inside.pass in
    let q = c.delete_if.new.pass in
    let k = c.args.key in
    let after = subst (λ (r : DeleteOutcome). IfOther (Ok r) (AfterOther L c.args.tries k c.args.expected p q))
    c.in-Ok-Other.field-0-is c.in-Ok-Other.ensures.other in
    changed _ c.worker.inside.home q _ _ c.delete_if.new.held c.worker.invariant after.same
    c.delete_if.ensures.kept after.ledgers.others (λ slot. ap (λ ds. get ds slot) after.private)
    (rests_as q c.worker.inside.standing
    (resting_in c.worker.inside.standing (ap (λ (w : WorkerView). w.held) c.worker.view_is ∙ c.requires.call.free)
    c.in_default.not-Pending) after.rests)
    (_, c.index_mut-own.ensures.value, c.delete_if.ensures.blocks)

pub returns-in-Ok-Deletion-Done : goal.returns-in-Ok-Deletion-Done
returns-in-Ok-Deletion-Done c =
    let L = c.self.inside.shared.layout in
    let p = c.worker.inside.pass in
    let q = c.delete_if.new.pass in
    let k = c.args.key in
    let after = subst (λ (d : Deletion). AfterDelete L c.args.tries k p q (Ok d))
    c.in-Ok-Deletion-Done.field-0-0-is (subst (λ (r : DeleteOutcome). AsDelete (Ok r)
    (AfterDelete L c.args.tries k p q)) c.in-Ok-Deletion-Done.field-0-is
    c.in-Ok-Deletion-Done.ensures.after) in
    let s = c.worker.inside.standing in
    let w : WorkerView = record {
      pass = p;
      queues = c.worker.inside.queues.items;
      pending = pending_in s;
      held = held_in s;
      fit = c.worker.inside.workspace.value.placement;
    } in
    let z : WorkerView = record {
      pass = q;
      queues = slice_set c.worker.inside.queues.items c.worker.inside.home c.delete_if.new.held;
      pending = pending_in s;
      held = held_in s;
      fit = c.delete_if.new.workspace.placement;
    } in
    let free = free_in s (resting_in s (ap (λ (w : WorkerView). w.held) c.worker.view_is ∙ c.requires.call.free)
    c.in_default.not-Pending) in
    let idle : w.held ≡ None = ap (λ (x : WorkerView). x.held) c.worker.view_is ∙ c.requires.call.free in
    let rest : KeepsRest w z = record {
      queues = others_kept w w c.worker.inside.home q c.delete_if.new.held refl c.worker.invariant.own
          c.delete_if.ensures.kept.own after.same;
      blocks = room_after c.worker.inside.home _ c.worker.inside.queues.items _ c.delete_if.new.held
          c.worker.invariant.own c.index_mut-own.ensures.value c.delete_if.ensures.blocks;
      held = idle;
      fit = search rules;
    } in
    let own = subst (λ (d : TreeView). IsOf d p) (sym c.self.view_is)
    (subst (λ (x : WorkerView). IsOf c.args.self.now x.pass) (sym c.worker.view_is) c.requires.call.own) in
    let why = subst (λ (d : Deletion). LacksRoomOr (LosesAfterFlag L c.args.tries k p.view.log q.view.log)
    c.delete_if.new.held.queue.spare (Ok d))
    c.in-Ok-Deletion-Done.field-0-0-is (subst (λ (r : DeleteOutcome). AsDelete (Ok r)
    (LacksRoomOr (LosesAfterFlag L c.args.tries k p.view.log q.view.log) c.delete_if.new.held.queue.spare))
    c.in-Ok-Deletion-Done.field-0-is
    c.in-Ok-Deletion-Done.ensures.refused) in
    let little : c.delete_if.new.held.queue.spare < cut_bound → LacksRoom z = λ less.
    lacks_after c.worker.inside.home _ _ c.worker.inside.queues.items c.delete_if.new.held
    c.worker.invariant.own c.delete_if.ensures.kept.own less in
    let rests = rests_in p s (resting_in s (ap (λ (w : WorkerView). w.held) c.worker.view_is ∙ c.requires.call.free)
    c.in_default.not-Pending) c.worker.invariant.between.stands in
    let leaves = delete_leaves c.self.inside.shared w z k c.args.tries c.delete_if.new.held.queue.spare own
    c.know_run.ensures.seen c.know_run-in-Ok-Deletion-Done.ensures.seen c.know_run.ensures.fits rests free.0 rest little
    (Ok (deletion.Done c.in-Ok-Deletion-Done.removed)) free.1 after why in
    let takes = taken_so L c.args.tries k p.view.log q.view.log (HasTaken p q k c.args.expected)
    (Ok (deletion.Done c.in-Ok-Deletion-Done.removed)) after.did
    (subst (λ (d : Deletion). IfTaken (Ok d) (HasTaken p q k c.args.expected))
    c.in-Ok-Deletion-Done.field-0-0-is (subst (λ (r : DeleteOutcome). AsDelete (Ok r)
    (λ e. IfTaken e (HasTaken p q k c.args.expected))) c.in-Ok-Deletion-Done.field-0-is
    c.in-Ok-Deletion-Done.ensures.taken)) in
    record {
      leaves = rw (c.of.ensures, ← c.worker.view_is, ← c.self.view_is) (as_done _ c.in-Ok-Deletion-Done.removed leaves);
      takes = rw (c.of.ensures, ← c.worker.view_is) (as_done _ c.in-Ok-Deletion-Done.removed takes);
      other = rw c.of.ensures (not_other _ c.in-Ok-Deletion-Done.removed);
    }

pub returns-in-Ok-Deletion-Pending : goal.returns-in-Ok-Deletion-Pending
returns-in-Ok-Deletion-Pending c =
    let L = c.self.inside.shared.layout in
    let p = c.worker.inside.pass in
    let q = c.delete_if.new.pass in
    let k = c.args.key in
    let after = subst (λ (d : Deletion). AfterDelete L c.args.tries k p q (Ok d))
    c.in-Ok-Deletion-Pending.field-0-0-is (subst (λ (r : DeleteOutcome). AsDelete (Ok r)
    (AfterDelete L c.args.tries k p q)) c.in-Ok-Deletion-Pending.field-0-is
    c.in-Ok-Deletion-Pending.ensures.after) in
    let s = c.worker.inside.standing in
    let w : WorkerView = record {
      pass = p;
      queues = c.worker.inside.queues.items;
      pending = pending_in s;
      held = held_in s;
      fit = c.worker.inside.workspace.value.placement;
    } in
    let z : WorkerView = record {
      pass = q;
      queues = slice_set c.worker.inside.queues.items c.worker.inside.home c.delete_if.new.held;
      pending = Some (record { key = k; leaf = c.in-Ok-Deletion-Pending.leaf });
      held = None;
      fit = c.delete_if.new.workspace.placement;
    } in
    let free = free_in s (resting_in s (ap (λ (w : WorkerView). w.held) c.worker.view_is ∙ c.requires.call.free)
    c.in_default.not-Pending) in
    let idle : w.held ≡ None = ap (λ (x : WorkerView). x.held) c.worker.view_is ∙ c.requires.call.free in
    let rest : KeepsRest w z = record {
      queues = others_kept w w c.worker.inside.home q c.delete_if.new.held refl c.worker.invariant.own
          c.delete_if.ensures.kept.own after.same;
      blocks = room_after c.worker.inside.home _ c.worker.inside.queues.items _ c.delete_if.new.held
          c.worker.invariant.own c.index_mut-own.ensures.value c.delete_if.ensures.blocks;
      held = refl;
      fit = search rules;
    } in
    let own = subst (λ (d : TreeView). IsOf d p) (sym c.self.view_is)
    (subst (λ (x : WorkerView). IsOf c.args.self.now x.pass) (sym c.worker.view_is) c.requires.call.own) in
    let why = subst (λ (d : Deletion). LacksRoomOr (LosesAfterFlag L c.args.tries k p.view.log q.view.log)
    c.delete_if.new.held.queue.spare (Ok d))
    c.in-Ok-Deletion-Pending.field-0-0-is (subst (λ (r : DeleteOutcome). AsDelete (Ok r)
    (LacksRoomOr (LosesAfterFlag L c.args.tries k p.view.log q.view.log) c.delete_if.new.held.queue.spare))
    c.in-Ok-Deletion-Pending.field-0-is
    c.in-Ok-Deletion-Pending.ensures.refused) in
    let little : c.delete_if.new.held.queue.spare < cut_bound → LacksRoom z = λ less.
    lacks_after c.worker.inside.home _ _ c.worker.inside.queues.items c.delete_if.new.held
    c.worker.invariant.own c.delete_if.ensures.kept.own less in
    let rests = rests_in p s (resting_in s (ap (λ (w : WorkerView). w.held) c.worker.view_is ∙ c.requires.call.free)
    c.in_default.not-Pending) c.worker.invariant.between.stands in
    let leaves = delete_leaves c.self.inside.shared w z k c.args.tries c.delete_if.new.held.queue.spare own
    c.know_run.ensures.seen c.know_run-in-Ok-Deletion-Pending.ensures.seen c.know_run.ensures.fits rests free.0 rest
    little
    (Ok (deletion.Pending c.in-Ok-Deletion-Pending.leaf)) refl after why in
    let takes = taken_so L c.args.tries k p.view.log q.view.log (HasTaken p q k c.args.expected)
    (Ok (deletion.Pending c.in-Ok-Deletion-Pending.leaf)) after.did
    (subst (λ (d : Deletion). IfTaken (Ok d) (HasTaken p q k c.args.expected))
    c.in-Ok-Deletion-Pending.field-0-0-is (subst (λ (r : DeleteOutcome). AsDelete (Ok r)
    (λ e. IfTaken e (HasTaken p q k c.args.expected))) c.in-Ok-Deletion-Pending.field-0-is
    c.in-Ok-Deletion-Pending.ensures.taken)) in
    record {
      leaves = rw (← c.worker.view_is, ← c.self.view_is) leaves;
      takes = rw (← c.worker.view_is) takes;
      other = tt;
    }

pub returns-in-Err : goal.returns-in-Err
returns-in-Err c =
    let L = c.self.inside.shared.layout in
    let p = c.worker.inside.pass in
    let q = c.delete_if.new.pass in
    let k = c.args.key in
    let after = c.in-Err.ensures.after in
    let s = c.worker.inside.standing in
    let w : WorkerView = record {
      pass = p;
      queues = c.worker.inside.queues.items;
      pending = pending_in s;
      held = held_in s;
      fit = c.worker.inside.workspace.value.placement;
    } in
    let z : WorkerView = record {
      pass = q;
      queues = slice_set c.worker.inside.queues.items c.worker.inside.home c.delete_if.new.held;
      pending = pending_in s;
      held = held_in s;
      fit = c.delete_if.new.workspace.placement;
    } in
    let free = free_in s (resting_in s (ap (λ (w : WorkerView). w.held) c.worker.view_is ∙ c.requires.call.free)
    c.in_default.not-Pending) in
    let idle : w.held ≡ None = ap (λ (x : WorkerView). x.held) c.worker.view_is ∙ c.requires.call.free in
    let rest : KeepsRest w z = record {
      queues = others_kept w w c.worker.inside.home q c.delete_if.new.held refl c.worker.invariant.own
          c.delete_if.ensures.kept.own after.same;
      blocks = room_after c.worker.inside.home _ c.worker.inside.queues.items _ c.delete_if.new.held
          c.worker.invariant.own c.index_mut-own.ensures.value c.delete_if.ensures.blocks;
      held = idle;
      fit = search rules;
    } in
    let own = subst (λ (d : TreeView). IsOf d p) (sym c.self.view_is)
    (subst (λ (x : WorkerView). IsOf c.args.self.now x.pass) (sym c.worker.view_is) c.requires.call.own) in
    let why = c.in-Err.ensures.refused in
    let little : c.delete_if.new.held.queue.spare < cut_bound → LacksRoom z = λ less.
    lacks_after c.worker.inside.home _ _ c.worker.inside.queues.items c.delete_if.new.held
    c.worker.invariant.own c.delete_if.ensures.kept.own less in
    let rests = rests_in p s (resting_in s (ap (λ (w : WorkerView). w.held) c.worker.view_is ∙ c.requires.call.free)
    c.in_default.not-Pending) c.worker.invariant.between.stands in
    let leaves = delete_leaves c.self.inside.shared w z k c.args.tries c.delete_if.new.held.queue.spare own
    c.know_run.ensures.seen c.know_run-in-Err.ensures.seen c.know_run.ensures.fits rests free.0 rest little
    (Err c.in-Err.fault) free.1 after why in
    let takes = taken_so L c.args.tries k p.view.log q.view.log (HasTaken p q k c.args.expected)
    (Err c.in-Err.fault) after.did (c.in-Err.ensures.taken) in
    record {
      leaves = rw (← c.worker.view_is, ← c.self.view_is) leaves;
      takes = rw (← c.worker.view_is) takes;
      other = tt;
    }

pub returns-in-Ok-Other : goal.returns-in-Ok-Other
returns-in-Ok-Other c =
    let L = c.self.inside.shared.layout in
    let p = c.worker.inside.pass in
    let q = c.delete_if.new.pass in
    let k = c.args.key in
    let after = subst (λ (r : DeleteOutcome). IfOther (Ok r) (AfterOther L c.args.tries k c.args.expected p q))
    c.in-Ok-Other.field-0-is c.in-Ok-Other.ensures.other in
    let s = c.worker.inside.standing in
    let w : WorkerView = record {
      pass = p;
      queues = c.worker.inside.queues.items;
      pending = pending_in s;
      held = held_in s;
      fit = c.worker.inside.workspace.value.placement;
    } in
    let z : WorkerView = record {
      pass = q;
      queues = slice_set c.worker.inside.queues.items c.worker.inside.home c.delete_if.new.held;
      pending = pending_in s;
      held = held_in s;
      fit = c.delete_if.new.workspace.placement;
    } in
    let free = free_in s (resting_in s (ap (λ (w : WorkerView). w.held) c.worker.view_is ∙ c.requires.call.free)
    c.in_default.not-Pending) in
    let idle : w.held ≡ None = ap (λ (x : WorkerView). x.held) c.worker.view_is ∙ c.requires.call.free in
    let rest : KeepsRest w z = record {
      queues = others_kept w w c.worker.inside.home q c.delete_if.new.held refl c.worker.invariant.own
          c.delete_if.ensures.kept.own after.same;
      blocks = room_after c.worker.inside.home _ c.worker.inside.queues.items _ c.delete_if.new.held
          c.worker.invariant.own c.index_mut-own.ensures.value c.delete_if.ensures.blocks;
      held = idle;
      fit = search rules;
    } in
    record {
      leaves = tt;
      takes = tt;
      other = rw (← c.worker.view_is, ← c.self.view_is) (record {
        same = after.same;
        past = after.past;
        free = free;
        other = after.other;
        map = after.map;
        won = after.won;
        steps = after.steps;
        frees = freed_still p.view.log q.view.log (other_unfreed L k c.args.tries p.view.log q.view.log after.did);
        queues = rest.queues;
        blocks = rest.blocks;
        held = rest.held;
        fit = rest.fit;
      });
    }
