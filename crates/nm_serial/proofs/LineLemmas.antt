-- Lines with what they were answered.
use Rattle.std.proofs.Common.{◌≡◌, ℕ, ◌≤◌, List, [], ◌∷◌, ◌++◌, length, drop, refl, sym, ◌∙◌}
use Rattle.std.proofs.lemmas.List.{append-nil, drop_all}
use Rattle.nm_serial.specs.declared.answer.Answer.{Answer}
use Rattle.nm_serial.specs.AnswerLines.{lines}

pub no_answers : (ls : List (List ℕ)) → lines ls [] ≡ []
no_answers [] = refl
no_answers (l ∷ ls) = refl

pub all_answered : (out : List ℕ) (ls : List (List ℕ)) (answers : List Answer) (i : ℕ) (total : List ℕ)
    → length answers ≤ i → out ++ lines ls (drop i answers) ≡ total → out ≡ total
all_answered out ls answers i total le told =
    let one : out ++ lines ls (drop i answers) ≡ out = rw (drop_all i answers le, no_answers ls) (append-nil out) in
    sym one ∙ told
