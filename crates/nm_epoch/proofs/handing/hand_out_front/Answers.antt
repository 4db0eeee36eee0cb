use Rattle.std.proofs.Common.{rules, ◌≤◌, ◌++◌, ◌∙◌, List, ℕ, [], ◌∷◌, append-nil, cond, refl, sym, ap, subst, arith}
use Rattle.std.specs.Prelude.{length, take}
use Rattle.std.proofs.lemmas.Bool.{cond-true, cond-false}
use Rattle.nm_edge.specs.Layouts.{Layout}
use Rattle.nm_edge.specs.Words.{IsSlot}
use Rattle.nm_model.specs.declared.event.Event.TheVariants.{Give}
use Rattle.nm_steps.specs.Rules.{value_of}
use Rattle.nm_steps.specs.Steps.{Continues, MayStep, PassView}
use Rattle.nm_steps.proofs.Asking.{give_slot}
use Rattle.nm_steps.proofs.Seeing.{continues_then, continues_by}
use Rattle.nm_epoch.proofs.OneQueue.{collecting_begins, dropped_front, may_collect}
use Rattle.nm_epoch.proofs.ReadValues.{handed_collecting, handed_continues, handed_front, handing_begins, handing_on, more_on, room_on, taken_on}
use Rattle.nm_epoch.proofs.handing.hand_out_front.Goals as goal

pub loop-node-init : goal.loop-node-init
loop-node-init c =
    record {
      handing = (
        [],
        handing_begins c.args.epoch c.args.held.now.origin c.args.pass.now c.args.held.now.queue.items
            (collecting_begins c.args.epoch c.args.held.now.origin c.args.pass.now c.args.held.now.queue.items
            c.requires.queue),
        sym (append-nil (take c.args.count c.args.out.now)),
      );
      on = search rules;
      more = omega arith;
      room = c.requires.room;
      blocks = refl;
      origin = refl;
      counts = refl;
      fit = refl;
    }

pub hand_out-written-requires-clause-slot : goal.hand_out-written-requires-clause-slot
hand_out-written-requires-clause-slot c =
    let p = c.loop-node.pass in
    let held = c.loop-node.invariant in
    let may : MayStep p (Give c.in-Some.node.slot) = may_collect c.args.epoch c.args.held.now.origin c.args.pass.now p
    c.args.held.now.queue.items c.loop-node.held.queue.items c.in-Some.node held.on.run held.handing.1.collecting
    c.requires.seen (c.in-Some.ensures).node in
    subst (λ (L : Layout). IsSlot L c.in-Some.node.slot)
    (ap (λ (z : PassView). z.view.layout) held.on.same ∙ c.requires.own.layout)
    (give_slot _ _ _ c.in-Some.node.slot may)

pub free-requires-clause-may : goal.free-requires-clause-may
free-requires-clause-may c =
    let p = c.loop-node.pass in
    let r = c.hand_out-written.new.pass in
    let held = c.loop-node.invariant in
    let did = c.hand_out-written.ensures.after in
    may_collect c.args.epoch c.args.held.now.origin c.args.pass.now r c.args.held.now.queue.items
    c.loop-node.held.queue.items c.in-Some.node
    (handed_continues p r c.in-Some.node.slot _ _ _ _ did held.on.run).run
    (handed_collecting p r c.in-Some.node.slot _ _ _ _ did c.args.epoch c.args.held.now.origin c.args.pass.now
    c.args.held.now.queue.items c.loop-node.held.queue.items held.handing.1.collecting) c.requires.seen
    (c.in-Some.ensures).node

pub loop-node-preserved : goal.loop-node-preserved
loop-node-preserved c =
    let p = c.loop-node.pass in
    let r = c.hand_out-written.new.pass in
    let held = c.loop-node.invariant in
    let did = c.hand_out-written.ensures.after in
    let n = c.in-Some.node in
    let b = did.bare in
    let found = c.in-Some.ensures in
    let at_r : Continues p r = handed_continues p r n.slot _ _ _ _ did held.on.run in
    let front = dropped_front c.args.epoch c.loop-node.held.queue.items c.drop_front.new.queue.items n
    c.drop_front.ensures.items found.node in
    let v = value_of r.view.stores n.slot in
    let vs = held.handing.0 in
    let long = c.hand_out-written.ensures.long in
    record {
      handing = (
        cond b (vs ++ v ∷ []) vs,
        handing_on c.args.epoch c.args.held.now.origin c.args.pass.now p r c.free.new.pass c.args.held.now.queue.items
            c.loop-node.held.queue.items c.drop_front.new.queue.items vs
            (cond b (vs ++ v ∷ []) vs) n _ _ _ _ held.on held.handing.1 found.node did
            (λ e. cond-true b (vs ++ v ∷ []) vs e)
            (λ e. cond-false b (vs ++ v ∷ []) vs e) c.free.ensures front.0 front.1,
        taken_on b vs (take c.args.count c.args.out.now) (take c.loop-node.written c.loop-node.out)
            (take c.hand_out-written.result c.hand_out-written.new.out) v held.handing.2 (λ e. (did.leaf e).2)
            (λ e. ap (λ (m : ℕ). take m c.hand_out-written.new.out) (did.other e).1
            ∙ ap (λ (l : List ℕ). take c.loop-node.written l) (did.other e).2),
      );
      on = continues_then _ _ _ (continues_then _ _ _ held.on at_r) (continues_by _ _ _ _ c.free.ensures);
      more = more_on b c.args.count c.loop-node.written c.hand_out-written.result held.more (λ e. (did.leaf e).1)
          (λ e. (did.other e).1);
      room = subst (λ (m : ℕ). c.hand_out-written.result ≤ m) (sym long)
          (room_on b c.loop-node.written c.hand_out-written.result (length c.loop-node.out) held.room
          (λ e. ((did.leaf e).1, found.room)) (λ e. (did.other e).1));
      blocks = c.drop_front.ensures.blocks ∙ held.blocks;
      origin = held.origin;
      counts = held.counts;
      fit = c.keep.ensures ∙ held.fit;
    }

pub returns-clause-after : goal.returns-clause-after
returns-clause-after c =
    let held = c.loop-node.invariant in (
      held.handing.0,
      handed_front c.args.epoch _ c.args.pass.now c.loop-node.pass c.args.held.now _
          c.loop-node.held.queue.items held.handing.0 held.handing.1 held.on
          (λ room. (c.in_default.ensures).none refl room) (search rules) held.origin (search rules)
          (search rules),
      held.handing.2,
    )
