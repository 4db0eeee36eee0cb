-- The text of the answers to the lines of a script.
use Rattle.std.specs.Prelude.{ℕ, true, false, List, [], ◌∷◌, ◌++◌, codes, decimal}
use Rattle.nm_serial.specs.declared.answer.Refusal.{Refusal}
use Rattle.nm_serial.specs.declared.answer.Refusal.TheVariants as refused
use Rattle.nm_serial.specs.declared.answer.Answer.{Answer}
use Rattle.nm_serial.specs.declared.answer.Answer.TheVariants.{Said, Busy, Full, Unfinished, Pending, Pinned, Moved, Left, Held, Lost, Spent, Collected, Resigned, Refused}

-- a word and a number, and a second word and number
abbrev pub two_numbers : List ℕ → ℕ → List ℕ → ℕ → List ℕ
two_numbers word first between second = (word ++ decimal first) ++ (between ++ decimal second)

-- the text of a refusal
abbrev pub refusal_words : Refusal → List ℕ
refusal_words refused.Gone = codes "refused gone"
refusal_words refused.Held = codes "refused held"
refusal_words refused.Idle = codes "refused idle"

-- the text of an answer
abbrev pub answer : Answer → List ℕ
answer (Said true) = codes "true"
answer (Said false) = codes "false"
answer Busy = codes "busy"
answer Full = codes "full"
answer Unfinished = codes "unfinished"
answer Pending = codes "pending"
answer (Pinned e) = codes "pinned " ++ decimal e
answer (Moved e) = codes "moved " ++ decimal e
answer Left = codes "left"
answer (Held w e) = two_numbers (codes "held ") w (codes " ") e
answer (Lost e) = codes "lost " ++ decimal e
answer Spent = codes "spent"
answer (Collected e n) = two_numbers (codes "epoch ") e (codes " freed ") n
answer Resigned = codes "resigned"
answer (Refused r) = refusal_words r

-- a line of the file with its answer
abbrev pub line : List ℕ → Answer → List ℕ
line text a = text ++ (codes " = " ++ (answer a ++ codes "\n"))

-- each line with its answer
abbrev pub lines : List (List ℕ) → List Answer → List ℕ
lines [] answers = []
lines (l ∷ ls) [] = []
lines (l ∷ ls) (a ∷ more) = line l a ++ lines ls more
