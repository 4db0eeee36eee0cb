-- How often a key was inserted and deleted, by the acts of a history.
use Rattle.std.specs.Prelude.{◌==◌, ℕ, ◌+◌, Bool, false, ◌&&◌, List, [], ◌∷◌, if◌then◌else◌}
use Rattle.nm_edge.specs.Keys.{IsKey}
use Rattle.nm_edge.specs.Layouts.{Layout}
use Rattle.nm_model.specs.Headline.{words_after}
use Rattle.nm_model.specs.declared.event.Op.{Op}
use Rattle.nm_model.specs.declared.event.Op.TheVariants.{Insert, Delete}
use Rattle.nm_model.specs.declared.trace.Turn.{Turn}
use Rattle.nm_model.specs.Acts.{Act, InSet}
use Rattle.nm_order.specs.Totals.{Agree}
use Rattle.nm_model.specs.Histories.{IsHistory}

-- the act is a true insert, or a true delete, as `op` says
abbrev pub is_true : Op → Op → Bool → Bool
is_true Insert Insert answer = answer
is_true Delete Delete answer = answer
is_true op other answer = false

-- how many of these acts are such acts for the key
abbrev pub tally : Op → ℕ → List Act → ℕ
tally op k [] = 0
tally op k (a ∷ acts) = (if is_true op a.op a.answer && (a.key == k) then 1 else 0) + tally op k acts

-- in each history of some turns a key is in the set if it was inserted once more than it was
-- deleted, and is not if it was inserted as often; there is no other case
abbrev pub KeysAreTheActs : Type 0
KeysAreTheActs = (L : Layout) (turns : List Turn) (acts : List Act) → IsHistory L turns acts
    → (k : ℕ) → IsKey k
    → Agree (tally Insert k acts) (tally Delete k acts) (InSet (words_after L turns) k)
