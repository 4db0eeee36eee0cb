use Rattle.std.proofs.Common.{◌≡◌, ◌+◌, ◌∙◌, ◌⊎◌, ℕ, inr, subst, sym, arith}
use Rattle.std.specs.Prelude.{All, take}
use Rattle.nm_order.specs.Facts.Fact.{KnowsSlot}
use Rattle.nm_walks.specs.Bounds.{reach}
use Rattle.nm_walks.proofs.GoingOn.{goes_then, only_then}
use Rattle.nm_calls.specs.MapScans.{IsLeafOf}
use Rattle.nm_calls.specs.Scans.{IsTooFar, entry_of, leg_looks}
use Rattle.nm_calls.proofs.ScanLooks.{EndsEarly, come_lies, early, early_so, legs_then, past_on, spent_more}
use Rattle.nm_calls.proofs.scanning.write_all.Goals as goal

pub turn-requires-clause-known : goal.turn-requires-clause-known
turn-requires-clause-known c = c.loop-turn.invariant.on.keeps (KnowsSlot 2) c.requires.known

pub loop-turn-preserved : goal.loop-turn-preserved
loop-turn-preserved c =
    let side = c.args.plan.now.side in
    let start = entry_of side c.args.first.now in
    let o = c.args.pass.now in
    let p = c.loop-turn.pass in
    let q = c.turn.new.pass in
    let held = c.loop-turn.invariant in
    let did = c.turn.ensures in
    let going = did.walks c.if-not-turn.false in
    let legs = held.legs.1 in
    let more = did.looks.2 c.if-not-turn.false in
    let parts = did.parts c.if-not-turn.false in
    let turns = held.turns in
    let wrote = did.wrote c.if-not-turn.false in
    record {
      legs = (
        held.legs.0 + did.looks.0,
        omega (arith, legs, more),
        legs_then held.legs.0 did.looks.0
            (leg_looks (reach c.args.shared.now.layout)) o.view.log p.view.log q.view.log held.legs.2 did.looks.3,
      );
      walks = going.0;
      ended = going.1;
      hit = did.hit;
      at = going.2;
      kept = did.kept;
      some = going.3;
      count = (did.count.0, did.count.1 ∙ held.count.1);
      shown = did.told start (come_lies side start c.loop-turn._turn c.loop-turn.progress.at
          c.loop-turn.progress.count held.come) held.shown;
      leaves = λ what. did.leaves what (held.leaves what);
      come = inr (past_on side start c.loop-turn.progress.at c.turn.new.progress.at
          (come_lies side start c.loop-turn._turn c.loop-turn.progress.at c.loop-turn.progress.count held.come)
          going.4);
      spent = spent_more p q did.looks.3 c.args.tries c.loop-turn._turn (c.loop-turn._turn + 1)
          c.loop-turn.progress.at c.turn.new.progress.at c.loop-turn.progress.spare c.turn.new.progress.spare
          held.spent (did.lost parts.1) parts.0;
      turns = omega (arith, turns, wrote);
      on = goes_then o p q held.on did.on;
      only = only_then o p q held.only did.only;
    }

pub returns-then-not-turn-clause-looks : goal.returns-then-not-turn-clause-looks
returns-then-not-turn-clause-looks c =
    let o = c.args.pass.now in
    let p = c.loop-turn.pass in
    let q = c.turn.new.pass in
    let held = c.loop-turn.invariant in
    let did = c.turn.ensures in
    let legs = held.legs.1 in
    let few = did.looks.1 in
    let count = c.so_far.ensures.count in (
      held.legs.0 + did.looks.0,
      omega (arith, legs, few, count),
      legs_then held.legs.0 did.looks.0
          (leg_looks (reach c.args.shared.now.layout)) o.view.log p.view.log q.view.log held.legs.2 did.looks.3,
    )

pub returns-then-not-turn-clause-leaves : goal.returns-then-not-turn-clause-leaves
returns-then-not-turn-clause-leaves c what =
    subst (λ (n : ℕ). All (IsLeafOf c.turn.new.pass) (take n c.turn.new.entries)) (sym c.so_far.ensures.count)
    (c.turn.ensures.leaves what (c.loop-turn.invariant.leaves what))

pub returns-then-not-turn-clause-early : goal.returns-then-not-turn-clause-early
returns-then-not-turn-clause-early c =
    let L = c.args.shared.now.layout in
    let side = c.args.plan.now.side in
    let end = c.args.plan.now.end in
    let room = c.args.plan.now.room in
    let old = c.loop-turn.progress in
    let new = c.turn.new.progress in
    let did = c.turn.ensures in
    let q = c.turn.new.pass in
    early_so side new.at end (EndsEarly L q c.args.tries room c.so_far.result.count) c.so_far.result.next
    c.so_far.ensures.next
    (λ past. early L c.loop-turn.pass q did.looks.3 c.args.tries c.loop-turn._turn old.at old.spare new.spare room
    c.so_far.result.count c.loop-turn.invariant.spent (did.lost past)
    (subst (λ (x : ℕ). (x ≡ room) ⊎ (new.spare ≡ 0) ⊎ ((j : ℕ) × IsTooFar L j q.view.log))
    (sym c.so_far.ensures.count) (did.stops c.if-not-turn.true past)))

pub returns-clause-early : goal.returns-clause-early
returns-clause-early c =
    let held = c.loop-turn.invariant in
    let at = c.loop-turn.progress.at in
    let all = c.loop-turn-test.false in
    let tries = c.from.ensures in
    let turns = held.turns in
    let some = held.some in
    let count = held.count.0 in
    let room = c.requires.room.1 in
    early_so c.args.plan.now.side at c.args.plan.now.end
    (EndsEarly c.args.shared.now.layout c.loop-turn.pass c.args.tries c.args.plan.now.room c.so_far-2.result.count)
    c.so_far-2.result.next c.so_far-2.ensures.next (λ _. absurd (omega (arith, all, tries, turns, some, count, room)))
