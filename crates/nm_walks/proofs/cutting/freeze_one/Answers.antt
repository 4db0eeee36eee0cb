use Rattle.std.proofs.Common.{rules, ◌≢◌, refl, sym, arith}
use Rattle.nm_order.specs.Facts.Fact.{KnowsSlot, IsFlagged, IsBorn}
use Rattle.nm_order.proofs.ToldLaws.{twice_other}
use Rattle.nm_walks.proofs.cutting.freeze_one.Goals as goal

pub look_birth-birth-requires-clause-known : goal.look_birth-birth-requires-clause-known
look_birth-birth-requires-clause-known c = c.look_edge.ensures.on.keeps (KnowsSlot c.args.slot) c.requires.known

pub look_birth-leaf_birth-requires-clause-known : goal.look_birth-leaf_birth-requires-clause-known
look_birth-leaf_birth-requires-clause-known c =
    let told = c.look_edge.ensures.told in
    let flag = told.twin c.requires.tagged.0 (rw (c.other.ensures, twice_other c.args.side) c.requires.tagged.1) in
    let some : c.look_edge.result.slot ≢ 0 = λ null.
    (let high = told.high flag in absurd (omega (arith, high, null))) in
    rw c.slot-leaf.ensures (c.look_birth-birth.ensures.on.keeps (KnowsSlot c.look_edge.result.slot)
    (told.learned.leads some))

pub returns-clause-frozen : goal.returns-clause-frozen
returns-clause-frozen c =
    let told = c.look_edge.ensures.told in
    let flag = told.twin c.requires.tagged.0 (rw (c.other.ensures, twice_other c.args.side) c.requires.tagged.1) in
    let e = c.look_edge.result in
    record {
      edge = e;
      leads = sym c.slot-leaf.ensures;
      is_slot = refl;
      looks = search rules;
      flagged = rw (c.slot-leaf.ensures, ← c.other.ensures)
          (c.look_birth-leaf_birth.ensures.on.keeps (IsFlagged c.args.slot c.other.result e.slot)
          (c.look_birth-birth.ensures.on.keeps (IsFlagged c.args.slot c.other.result e.slot)
          (told.learned.flagged flag)));
      born = c.look_birth-leaf_birth.ensures.on.keeps (IsBorn c.args.slot c.look_birth-birth.result)
          c.look_birth-birth.ensures.born;
      leaf_born = c.look_birth-leaf_birth.ensures.born;
    }
