-- Lines with what their events were answered.
use Rattle.std.proofs.Common.{◌≡◌, ℕ, ◌≤◌, List, [], ◌∷◌, ◌++◌, length, drop, refl, sym, ◌∙◌}
use Rattle.std.proofs.lemmas.List.{append-nil, drop_all}
use Rattle.nm_model.specs.declared.trace.Turn.{Turn}
use Rattle.nm_replay.specs.Output.{lines_with}

pub no_replies : (lines : List (List ℕ)) → lines_with lines [] ≡ []
no_replies [] = refl
no_replies (line ∷ lines) = refl

pub all_replied : (out : List ℕ) (lines : List (List ℕ)) (turns : List Turn) (i : ℕ) (total : List ℕ)
    → length turns ≤ i → out ++ lines_with lines (drop i turns) ≡ total → out ≡ total
all_replied out lines turns i total le told =
    let one : out ++ lines_with lines (drop i turns)
    ≡ out = rw (drop_all i turns le, no_replies lines) (append-nil out) in
    sym one ∙ told
