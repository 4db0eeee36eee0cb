-- A pending delete on the worked turns of `nm_theorem`, with what is counted.
use Rattle.std.specs.Prelude.{◌≡◌, []}
use Rattle.nm_model.specs.declared.event.Op.TheVariants.{Insert, Delete}
use Rattle.nm_model.specs.Headline.{words_after}
use Rattle.nm_model.specs.Shorthands.{n}
use Rattle.nm_model.specs.Acts.{InSet}
use Rattle.nm_order.specs.Totals.{Agree}
use Rattle.nm_theorem.specs.Worked.{layout, before, worked_turns}
use Rattle.nm_progress.specs.Pending.{HasDeletePending, NonePends}
use Rattle.nm_tree.specs.Closing.{how_often}

-- before the cut the delete of 10 is pending, with node 7, and after all turns no delete is; calls
-- for 10 have won one link and one flag
pub record PendsOnWorkedTurns : Type 0 where
  pub pending : HasDeletePending before 0 10 (n 7 1)
  pub none : NonePends layout worked_turns
  pub links : how_often Insert 10 [] worked_turns ≡ 1
  pub flags : how_often Delete 10 [] worked_turns ≡ 1

-- while the delete is pending the key is in the set, although its calls have won one link and one
-- flag: so the totals need not agree while a delete is pending
abbrev pub TotalsWantThatNonePends : Type 0
TotalsWantThatNonePends =
    Agree (how_often Insert 10 [] before) (how_often Delete 10 [] before)
    (InSet (words_after layout before) 10) → ⊥
