-- On the worked turns of `nm_theorem`: when a delete is pending, and what is counted.
use Rattle.std.proofs.Common.{◌≡◌, inl, inr, zero, suc, ◌+◌, [], ◌∷◌, refl, arith}
use Rattle.nm_edge.specs.declared.edge.Side.TheVariants.{Left}
use Rattle.nm_model.specs.Headline.{words_after}
use Rattle.nm_model.specs.Acts.{InSet}
use Rattle.nm_theorem.specs.Worked.{layout, before, worked_turns}
use Rattle.nm_progress.specs.Pending.{NonePends}
use Rattle.nm_tree.specs.Worked.{PendsOnWorkedTurns, TotalsWantThatNonePends}

none_pends : NonePends layout worked_turns
none_pends zero less = refl
none_pends (suc zero) less = refl
none_pends (suc (suc w)) less = absurd (omega (arith, less))

pub pends_on_worked_turns : PendsOnWorkedTurns
pends_on_worked_turns = record {
  pending = record { pin = 22; call = refl; flagged = refl };
  none = none_pends;
  links = refl;
  flags = refl;
}

there : InSet (words_after layout before) 10
there = record {
  slot = 7;
  reached = record {
    path = Left ∷ Left ∷ Left
        ∷ [];
    ends = refl;
    is_slot = λ e. absurd (omega (arith, e));
  };
  leaf = refl;
  has_key = refl;
}

pub totals_want_that_none_pends : TotalsWantThatNonePends
totals_want_that_none_pends (inl more) = let e : 1 ≡ 1 + 1 = more.0 in omega (arith, e)
totals_want_that_none_pends (inr same) = same.1 there
