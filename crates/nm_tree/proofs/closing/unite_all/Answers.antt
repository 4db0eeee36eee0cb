use Rattle.std.proofs.Common.{◌≡◌, List, [], ◌∷◌, ◌++◌, append_assoc, refl, sym, ap, ◌∙◌, subst, arith}
use Rattle.nm_epoch.specs.declared.collecting.HeldQueue.{HeldQueue}
use Rattle.nm_tree.specs.Workers.{WorkerView}
use Rattle.nm_edge.specs.Layouts.{Layout}
use Rattle.nm_steps.specs.Steps.{IsOf}
use Rattle.nm_tree.specs.Closing.{AreAllOf, StandsForAll, all_merged}
use Rattle.nm_tree.specs.Resigning.{merged}
use Rattle.nm_tree.proofs.Closed.{GoesOnFromAll, StoresGoOnFromAll, all_before, still_of, alone, stands_for_one_more, goes_on_from_one_more, one_seen, one_more_seen, stores_alone, stores_from_one_more}
use Rattle.nm_tree.proofs.closing.unite_all.Goals as goal

pub of-heir-requires-clause-room : goal.of-heir-requires-clause-room
of-heir-requires-clause-room c =
    let last = rw c.in-Some.is at c.pop.ensures.items in
    let own = (all_before _ c.pop.new.self.items c.in-Some.last (subst (AreAllOf _) last c.requires.own)).1 in
    let same = ap (λ (L : Layout). L.workers) own.layout in
    omega (arith, same, c.requires.room)

pub loop-leaver-init : goal.loop-leaver-init
loop-leaver-init c =
    let last = rw c.in-Some.is at c.pop.ensures.items in
    let u = c.in-Some.last in
    let parts = all_before _ c.pop.new.self.items u (subst (AreAllOf _) last c.requires.own) in
    let P : WorkerView → Type 0 = λ h. IsOf c.args.shared.now h.pass × StandsForAll (u ∷ []) h.pass.view
    × GoesOnFromAll h.pass.view.past (u ∷ []) × StoresGoOnFromAll h.pass.view.stores (u ∷ [])
    × (h.queues ≡ all_merged (u ∷ [])) in
    let is : P c.of-heir.result = subst P (sym c.of-heir.ensures) (parts.1, refl, alone u, stores_alone u, refl) in
    record {
      own = is.0;
      left = parts.0;
      united = (
        u,
        [],
        last,
        is.1,
        is.2,
        is.3,
        one_seen u c.know_run.ensures.seen,
        is.4,
      );
    }

pub unite-heir-requires-clause-leaver : goal.unite-heir-requires-clause-leaver
unite-heir-requires-clause-leaver c =
    let last = rw c.in-Some-pop.is at c.pop-in-loop-leaver.ensures.items in
    (all_before _ c.pop-in-loop-leaver.new.self.items c.in-Some-pop.leaver
    (subst (AreAllOf _) last c.loop-leaver.invariant.left)).1

pub loop-leaver-preserved : goal.loop-leaver-preserved
loop-leaver-preserved c =
    let last = rw c.in-Some-pop.is at c.pop-in-loop-leaver.ensures.items in
    let t = c.loop-leaver.invariant.united in
    let leaver = c.in-Some-pop.leaver in
    record {
      own = still_of _ c.loop-leaver.heir.pass leaver.pass c.unite-heir.result.pass c.unite-heir.ensures.joined
          c.loop-leaver.invariant.own;
      left = (all_before _ c.pop-in-loop-leaver.new.self.items leaver
          (subst (AreAllOf _) last c.loop-leaver.invariant.left)).0;
      united = (
        leaver,
        t.0 ∷ t.1,
        t.2 ∙ (ap (λ (l : List WorkerView). l ++ t.0 ∷ t.1) last
            ∙ append_assoc c.pop-in-loop-leaver.new.self.items (leaver ∷ []) (t.0 ∷ t.1)),
        stands_for_one_more leaver t.0 t.1 c.loop-leaver.heir.pass c.unite-heir.result.pass
            c.unite-heir.ensures.joined t.3,
        goes_on_from_one_more leaver (t.0 ∷ t.1) c.loop-leaver.heir.pass c.unite-heir.result.pass
            c.unite-heir.ensures.seen c.unite-heir.ensures.told t.4,
        stores_from_one_more leaver (t.0 ∷ t.1) c.loop-leaver.heir.pass c.unite-heir.result.pass
            c.unite-heir.ensures.stores c.unite-heir.ensures.told_stores t.5,
        one_more_seen leaver (t.0 ∷ t.1) c.know_run-in-Some-pop.ensures.seen t.6,
        c.unite-heir.ensures.queues ∙ ap (λ (hs : List HeldQueue). merged hs leaver.queues) t.7,
      );
    }
