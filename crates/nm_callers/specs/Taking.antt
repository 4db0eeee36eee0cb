-- What a worker may rely on that pops the least key of a set which others change, or reads a range of
-- it.
use Rattle.std.specs.Prelude.{ℕ, List, ◌++◌, length, ◌≡◌, ◌<◌}
use Rattle.nm_edge.specs.Layouts.{Layout}
use Rattle.nm_model.specs.Headline.{words_after}
use Rattle.nm_model.specs.declared.trace.Turn.{Turn}
use Rattle.nm_model.specs.Acts.{InSet}

-- the set had the key after each beginning of the turns `now` that is longer than `was`
abbrev pub StandsThroughout : Layout → List Turn → List Turn → ℕ → Type 0
StandsThroughout L was now k = (so_far rest : List Turn) → now ≡ so_far ++ rest
    → length was < length so_far → InSet (words_after L so_far) k

-- the set did not have the key after any such beginning
abbrev pub AbsentThroughout : Layout → List Turn → List Turn → ℕ → Type 0
AbsentThroughout L was now k = (so_far rest : List Turn) → now ≡ so_far ++ rest
    → length was < length so_far → InSet (words_after L so_far) k → ⊥

-- the set had the key after each such beginning, or after none of them
abbrev pub StaysThroughout : Layout → List Turn → List Turn → ℕ → Type 0
StaysThroughout L was now k = (early late rest others : List Turn) → now ≡ early ++ rest
    → now ≡ late ++ others → length was < length early → length was < length late
    → InSet (words_after L early) k → InSet (words_after L late) k
