-- What a call knows after its pin, and which answers its log shows.
use Rattle.std.specs.Prelude.{◌≡◌, ◌≢◌, ◌⊎◌, ℕ, Bool, true, false, Some, None}
use Rattle.nm_edge.specs.declared.edge.Side.{Side}
use Rattle.nm_edge.specs.declared.node.NodeId.{NodeId}
use Rattle.nm_model.specs.declared.event.Op.{Op}
use Rattle.nm_model.specs.declared.event.Op.TheVariants.{Has, Insert, Delete}
use Rattle.nm_order.specs.Facts.{Since}
use Rattle.nm_order.specs.Facts.Since.{ThePin, TheFlag}
use Rattle.nm_order.specs.Facts.Fact.{CallIs, EndedAt}
use Rattle.nm_steps.specs.Steps.{PassView}
use Rattle.nm_epoch.specs.Resting.{epochs, search}
use Rattle.nm_walks.specs.Telling.{Tells}

-- under the pin the worker has linked, swapped and flagged nothing, and no cut waits for its label
pub record HasChangedNothing (p : PassView) : Type 0 where
  pub labelled : (epochs p).unlabelled ≡ false
  pub unlinked : (search p).linked ≡ false
  pub unswapped : (search p).swapped ≡ false
  pub unflagged : (search p).flagged ≡ None

-- a walk of the call for k ended at a leaf with key v
abbrev pub EndedWith : PassView → Since → ℕ → ℕ → ℕ → Type 0
EndedWith p since k leaf v = (parent : ℕ) × (side : Side)
    × Tells p (EndedAt since k leaf parent side v)

-- what the log of a call of that operation on k must show for an answer
abbrev pub ShowsAnswer : PassView → Op → ℕ → Bool → Type 0
ShowsAnswer p Has k true = (leaf : ℕ) × EndedWith p ThePin k leaf k
ShowsAnswer p Has k false = (leaf v : ℕ) × (v ≢ k) × EndedWith p ThePin k leaf v
ShowsAnswer p Insert k true = (search p).linked ≡ true
ShowsAnswer p Insert k false =
    ((leaf : ℕ) × EndedWith p ThePin k leaf k) × ((search p).linked ≡ false)
ShowsAnswer p Delete k true = (n : NodeId) × ((search p).flagged ≡ Some n)
    × (((search p).cut ≡ true) ⊎ ((leaf v : ℕ) × (leaf ≢ n.slot) × EndedWith p TheFlag k leaf v))
ShowsAnswer p Delete k false =
    ((leaf v : ℕ) × (v ≢ k) × EndedWith p ThePin k leaf v) × ((search p).flagged ≡ None)

-- the call under the pin may leave with that answer
abbrev pub IsItsAnswer : PassView → Bool → Type 0
IsItsAnswer p answer = (op : Op) × (k : ℕ) × Tells p (CallIs op k) × ShowsAnswer p op k answer
