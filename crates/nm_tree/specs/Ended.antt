-- The state at the end of a run. Only the words of the tree are left of it.
use Rattle.std.specs.Prelude.{◌≡◌, ℕ, List, All}
use Rattle.nm_edge.specs.Layouts.{Layout, IsLayout}
use Rattle.nm_model.specs.declared.event.Event.{Event}
use Rattle.nm_model.specs.Runs.{State}
use Rattle.nm_model.specs.Ordered.{HasKey, ordered, after_in}
use Rattle.nm_steps.specs.Packing.{words_of}

-- an ordered run, with calls for keys of the set, that ends with these words
pub record IsEndOf (L : Layout) (words : List ℕ) : Type 0 where
  pub fits : IsLayout L
  pub turns : List (ℕ × Event)
  pub keys : All (λ t. HasKey t.1) turns
  pub words_are : words ≡ words_of L (after_in (ordered L) turns).state.memory

-- the state at the end of that run
abbrev pub end_of : (L : Layout) (words : List ℕ) → IsEndOf L words → State
end_of L words e = (after_in (ordered L) e.turns).state
