-- Acts: calls with their answers, each at a moment (linearization point); a plain set that gives
-- the answers; and the set that the words hold.
use Rattle.std.specs.Prelude.{◌≡◌, ◌⊎◌, ◌↔◌, ℕ, Bool, true, false, List, [], ◌∷◌, ◌++◌, map, if◌then◌else◌}
use Rattle.nm_edge.specs.Keys.{IsKey}
use Rattle.nm_model.specs.declared.event.Op.{Op}
use Rattle.nm_model.specs.declared.event.Op.TheVariants.{Has, Insert, Delete}
use Rattle.nm_model.specs.Memory.{Memory, node, is_leaf}
use Rattle.nm_model.specs.Paths.{Reached}

-- a call with its answer and its moment (linearization point): the number of turns made until then.
-- A call is named by its worker and the number of the turn that confirmed its pin (Herlihy and
-- Wing)
pub record Act : Type 0 where
  pub worker : ℕ
  pub pin : ℕ
  pub op : Op
  pub key : ℕ
  pub answer : Bool
  pub moment : ℕ

-- the act is one of these
abbrev pub IsAmong : List Act → Act → Type 0
IsAmong [] a = ⊥
IsAmong (b ∷ acts) a = (b ≡ a) ⊎ IsAmong acts a

-- acts with these keys follow each other in the list, all at that moment, and something holds for
-- each of them
pub record HasInARow (acts : List Act) (ks : List ℕ) (moment : ℕ) (Is : Act → Type 0) : Type 0 where
  pub front : List Act
  pub row : List Act
  pub back : List Act
  pub are : acts ≡ front ++ (row ++ back)
  pub are_keys : map (λ a. a.key) row ≡ ks
  pub at : (a : Act) → IsAmong row a → a.moment ≡ moment
  pub each : (a : Act) → IsAmong row a → Is a

-- ---- a plain set

-- what a plain set answers: `has` is true if the key is in it, an insert is true if the key was
-- not, and a delete if it was (Herlihy and Wing, section 2, sequential specification)
abbrev pub Gives : (ℕ → Type 0) → Op → ℕ → Bool → Type 0
Gives in_set Has k true = in_set k
Gives in_set Has k false = in_set k → ⊥
Gives in_set Insert k true = in_set k → ⊥
Gives in_set Insert k false = in_set k
Gives in_set Delete k true = in_set k
Gives in_set Delete k false = in_set k → ⊥

-- the keys in the set after a call with that answer (Herlihy and Wing, legal sequential history)
abbrev pub changed : (ℕ → Type 0) → Op → ℕ → Bool → ℕ → Type 0
changed in_set Has k answer j = in_set j
changed in_set Insert k true j = in_set j ⊎ (j ≡ k)
changed in_set Insert k false j = in_set j
changed in_set Delete k true j = in_set j × (j ≡ k → ⊥)
changed in_set Delete k false j = in_set j

-- the empty set has no key
abbrev pub nothing : ℕ → Type 0
nothing k = ⊥

-- one plain set gives each call its answer, one after the other. It has the keys `first` before the
-- calls and the keys `last` after them (Herlihy and Wing, legal sequential history)
abbrev pub Replays : (ℕ → Type 0) → List Act → (ℕ → Type 0) → Type 0
Replays first [] last = (k : ℕ) → IsKey k → first k ↔ last k
Replays first (a ∷ acts) last = IsKey a.key × Gives first a.op a.key a.answer
    × Replays (changed first a.op a.key a.answer) acts last

-- ---- the set that the words hold

-- a key is in the set if a reached leaf has it
pub record InSet (m : Memory) (k : ℕ) : Type 0 where
  pub slot : ℕ
  pub reached : Reached m slot
  pub leaf : is_leaf (node m slot) ≡ true
  pub has_key : (node m slot).key ≡ k

-- the keys of the leaves among these slots, in their order
abbrev pub leaf_keys : Memory → List ℕ → List ℕ
leaf_keys m [] = []
leaf_keys m (x ∷ xs) = if is_leaf (node m x) then (node m x).key ∷ leaf_keys m xs else leaf_keys m xs
