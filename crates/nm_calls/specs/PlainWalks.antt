-- Walks under a pin that is for no operation: what they add to a log, and what they show of keys.
use Rattle.std.specs.Prelude.{◌≡◌, ◌⊎◌, ◌≤◌, ◌==◌, ◌+◌, ◌*◌, ℕ, zero, suc, Bool, List, [], ◌∷◌, ◌++◌, drop, length, map}
use Rattle.nm_edge.specs.declared.edge.Side.{Side}
use Rattle.nm_model.specs.declared.event.Event.{Event}
use Rattle.nm_model.specs.declared.event.Event.TheVariants.{Sight, Leave}
use Rattle.nm_model.specs.declared.reply.Reply.TheVariants.{Departed}
use Rattle.nm_model.specs.declared.trace.Turn.{Turn}
use Rattle.nm_model.specs.Ordered.{turn_of}
use Rattle.nm_model.specs.Walks.{Entry, since_pin, WalkComes, WalkEnds}
use Rattle.nm_model.specs.Histories.{WasSoBehind}
use Rattle.nm_steps.specs.Steps.{PassView}
use Rattle.nm_epoch.specs.Tries.{IsPinnedBy, IsMoved}
use Rattle.nm_walks.specs.AddedLooks.{AddsLooks}

-- ---- what is added to the log

-- the log has a pin for no operation, at most `most` looks, and a leave
pub record LooksUnderPin (tries most : ℕ) (old new : List Entry) : Type 0 where
  pub pinned : List Entry
  pub epoch : ℕ
  pub pin : IsPinnedBy Sight tries old pinned epoch
  pub looked : List Entry
  pub looks : AddsLooks most pinned looked
  pub leaves : new ≡ looked ++ (Leave, Departed) ∷ []

-- the log has such a pin, walks that end without an answer (`GivesUp`), and a leave
abbrev pub GivesUpUnderPin : (List Entry → List Entry → Type 0) → ℕ → List Entry → List Entry → Type 0
GivesUpUnderPin GivesUp tries old new = (a z : List Entry) × (epoch : ℕ)
    × IsPinnedBy Sight tries old a epoch × GivesUp a z × (new ≡ z ++ (Leave, Departed) ∷ [])

-- why there was no answer: the call had no try, and there was no step; or each try of the pin was
-- lost; or such walks gave up
abbrev pub PlainMissed : (List Entry → List Entry → Type 0) → ℕ → List Entry → List Entry → Type 0
PlainMissed GivesUp zero old new = new ≡ old
PlainMissed GivesUp (suc t) old new =
    IsMoved Sight (suc t) old new ⊎ GivesUpUnderPin GivesUp (suc t) old new

-- the most looks that the walks for n keys take: one, and three for each key in each turn (its
-- node's key, a left edge and a right edge); there are at most as many turns as nodes
abbrev pub most_looks : ℕ → ℕ → ℕ
most_looks nodes n = 1 + nodes * (3 * n)

-- ---- what a walk shows

-- the pass with the entries of its log after the first n alone. A walk in its log looked at nothing
-- before
abbrev pub after_entries : ℕ → PassView → PassView
after_entries n p = record p { view = record p.view { log = drop n p.view.log } }

-- in the log from the pin on, a walk for k has reached the slot, after at least n nodes below slot
-- 2 (Natarajan and Mittal, section 3.2)
abbrev pub HasPassed : ℕ → List Entry → ℕ → ℕ → Type 0
HasPassed n log k slot = (parent : ℕ) × (side : Side)
    × (w : WalkComes k (since_pin [] log) slot parent side) × (1 + 2 * n ≤ length w.looks)

-- in the log from the pin on, a walk for k has ended, at a leaf whose key is k exactly if the
-- answer is true (Natarajan and Mittal, section 3.2)
abbrev pub HasEndedSo : PassView → ℕ → Bool → Type 0
HasEndedSo p k answer = (leaf parent v : ℕ) × (side : Side)
    × WalkEnds k (since_pin [] p.view.log) leaf parent side v × (answer ≡ (v == k))

-- in the log from the pin on, a walk for k has ended at this leaf, which has the key (Natarajan and
-- Mittal, section 3.2)
abbrev pub HasEndedAt : PassView → ℕ → ℕ → Type 0
HasEndedAt p k leaf = (parent : ℕ) × (side : Side)
    × WalkEnds k (since_pin [] p.view.log) leaf parent side k

-- the events of these turns
abbrev pub events_of : List Turn → List (ℕ × Event)
events_of turns = map turn_of turns

-- by what q has seen, the set had the key exactly if the answer is true, at a moment (linearization
-- point) that is later than all that p had seen, and at which the worker was pinned (Herlihy and
-- Wing)
abbrev pub WasSo : PassView → PassView → ℕ → Bool → Type 0
WasSo p q k answer =
    WasSoBehind q.view.layout p.view.past q.view.past q.view.number k answer
