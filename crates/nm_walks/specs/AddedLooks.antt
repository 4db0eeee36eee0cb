-- Looks at nodes, as entries of a log.
use Rattle.std.specs.Prelude.{◌≡◌, ◌≤◌, ℕ, Bool, true, false, List, ◌++◌, length}
use Rattle.std.specs.List.{list_all}
use Rattle.nm_model.specs.declared.event.Event.TheVariants.{Look}
use Rattle.nm_model.specs.Walks.{Entry}

-- ---- what is added to the log

abbrev pub is_look : Entry → Bool
is_look (Look x f, r) = true
is_look _ = false

-- only looks were added, at most this many
pub record AddsLooks (most : ℕ) (old new : List Entry) : Type 0 where
  pub looks : List Entry
  pub grown : new ≡ old ++ looks
  pub only : list_all is_look looks ≡ true
  pub few : length looks ≤ most
