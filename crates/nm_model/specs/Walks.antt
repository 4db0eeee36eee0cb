-- Walks in a log: the looks of a search for a key, from the root's child down to a leaf.
use Rattle.std.specs.Prelude.{◌≡◌, ◌≢◌, ℕ, ◌==◌, Bool, true, false, List, [], ◌∷◌, ◌++◌, if◌then◌else◌, Some, Result, Ok, Err, All, Contains}
use Rattle.nm_edge.specs.Edges.{Edge}
use Rattle.nm_edge.specs.declared.edge.Side.{Side}
use Rattle.nm_edge.specs.declared.edge.Side.TheVariants.{Left}
use Rattle.nm_model.specs.declared.event.Field.TheVariants.{Key, Edge as EdgeOn}
use Rattle.nm_model.specs.declared.event.Event.{Event}
use Rattle.nm_model.specs.declared.event.Event.TheVariants.{Sight, SightFor, Leave, LeaveWith, Look}
use Rattle.nm_model.specs.declared.reply.Reply.{Reply}
use Rattle.nm_model.specs.declared.reply.Reply.TheVariants.{KeyIs, EdgeIs, Pinned, Departed}
use Rattle.nm_model.specs.declared.reply.Refused.{Refused}
use Rattle.nm_model.specs.declared.trace.Turn.{Turn}
use Rattle.nm_model.specs.declared.arrivals.Call.{Call}
use Rattle.nm_model.specs.declared.arrivals.Arrival.{Arrival}
use Rattle.nm_model.specs.Searches.{Search, idle, searched, side_of}

-- ---- logs

-- an event that was allowed, with its reply
abbrev pub Entry : Type 0
Entry = Event × Reply

abbrev pub logged_by : Turn → List Entry
logged_by t = entry_by t.event t.outcome
  where
    entry_by : Event → Result Reply Refused → List Entry
    entry_by e (Ok r) = (e, r) ∷ []
    entry_by e (Err x) = []

-- worker w's log: its entries in these turns, in their order
abbrev pub log_of : ℕ → List Turn → List Entry
log_of w [] = []
log_of w (t ∷ ts) = (if t.worker == w then logged_by t else []) ++ log_of w ts

-- what a log shows of the call of the last pin
abbrev pub search_after : Search → List Entry → Search
search_after s [] = s
search_after s (e ∷ es) = search_after (searched s e.0 e.1) es

-- a pin is confirmed, or ended
abbrev pub begins_anew : Entry → Bool
begins_anew (Sight, Pinned n) = true
begins_anew (SightFor op key, Pinned n) = true
begins_anew (Leave, Departed) = true
begins_anew (LeaveWith answer, Departed) = true
begins_anew _ = false

-- the part of a log after its last pin was confirmed or ended; `so_far` is such a part already
abbrev pub since_pin : List Entry → List Entry → List Entry
since_pin so_far [] = so_far
since_pin so_far (e ∷ es) = since_pin (if begins_anew e then [] else so_far ++ e ∷ []) es

-- one list is another with some elements left out
pub data IsPart {X : Type 0} : List X → List X → Type 0 where
  nothing : IsPart [] []
  takes : {x : X} {xs ys : List X} → IsPart xs ys → IsPart (x ∷ xs) (x ∷ ys)
  skips : {y : X} {xs ys : List X} → IsPart xs ys → IsPart xs (y ∷ ys)

-- ---- walks

-- the looks of a walk for k that came to a slot by a parent's edge on a side. The first look is at
-- the left edge of slot 2. The others are at the key of each node to which an edge led, and at its
-- edge on k's side (Natarajan and Mittal, section 3.2, seek)
pub data Leads (k : ℕ) : List Entry → ℕ → ℕ → Side → Type 0 where
  begins : (e : Edge) → e.slot ≢ 0 → Leads k ((Look 2 (EdgeOn Left), EdgeIs e) ∷ []) e.slot 2 Left
  leads_on : {looks : List Entry} {slot parent : ℕ} {side : Side} → Leads k looks slot parent side
      → (v : ℕ) (e : Edge) → e.slot ≢ 0
      → Leads k (looks ++ (Look slot Key, KeyIs v) ∷ (Look slot (EdgeOn (side_of k v)), EdgeIs e)
      ∷ []) e.slot slot (side_of k v)

-- a walk in a log came to the slot by that edge: its looks are a part of the log, in order, with
-- gaps between them (Natarajan and Mittal, section 3.2, seek)
pub record WalkComes (k : ℕ) (log : List Entry) (slot parent : ℕ) (side : Side) : Type 0 where
  pub looks : List Entry
  pub leads : Leads k looks slot parent side
  pub is_part : IsPart looks log

-- after that the walk looked at the slot's key (Natarajan and Mittal, section 3.2, seek)
pub record WalkReads (k : ℕ) (log : List Entry) (slot parent : ℕ) (side : Side)
    (key : ℕ) : Type 0 where
  pub looks : List Entry
  pub leads : Leads k looks slot parent side
  pub is_part : IsPart (looks ++ (Look slot Key, KeyIs key) ∷ []) log

-- after that the walk looked at the slot's edge on k's side, which was null: it ended at that leaf
-- (Natarajan and Mittal, section 3.2, seek)
pub record WalkEnds (k : ℕ) (log : List Entry) (slot parent : ℕ) (side : Side)
    (key : ℕ) : Type 0 where
  pub looks : List Entry
  pub leads : Leads k looks slot parent side
  pub null : Edge
  pub is_null : null.slot ≡ 0
  pub is_part : IsPart (looks ++ (Look slot Key, KeyIs key)
      ∷ (Look slot (EdgeOn (side_of k key)), EdgeIs null) ∷ []) log

-- ---- what a search knows is true

-- an arrival is one of a walk in the log. If it has a key, a walk looked at it; if it has ended, a
-- walk ended
pub record IsOfWalk (k : ℕ) (log : List Entry) (a : Arrival) : Type 0 where
  pub comes : WalkComes k log a.slot a.parent a.side
  pub reads : (v : ℕ) → a.key ≡ Some v → WalkReads k log a.slot a.parent a.side v
  pub ends : a.ended ≡ true → (v : ℕ) × (a.key ≡ Some v) × WalkEnds k log a.slot a.parent a.side v

-- in every log, each arrival is that of a walk after the pin was confirmed
abbrev pub ArrivalsAreWalks : Type 0
ArrivalsAreWalks = (log : List Entry) (c : Call) → (search_after idle log).call ≡ Some c
    → All (IsOfWalk c.key (since_pin [] log)) (search_after idle log).walks

-- an arrival stays, with its key and its end once it has them
pub record GrowsTo (a b : Arrival) : Type 0 where
  pub slot : b.slot ≡ a.slot
  pub parent : b.parent ≡ a.parent
  pub side : b.side ≡ a.side
  pub key : (v : ℕ) → a.key ≡ Some v → b.key ≡ Some v
  pub ended : a.ended ≡ true → b.ended ≡ true

-- what a search knows stays
pub record SearchGrows (s t : Search) : Type 0 where
  pub call : t.call ≡ s.call
  pub linked : s.linked ≡ true → t.linked ≡ true
  pub swapped : s.swapped ≡ true → t.swapped ≡ true
  pub cut : s.cut ≡ true → t.cut ≡ true
  pub walks : (a : Arrival) → Contains s.walks a → (b : Arrival) × Contains t.walks b × GrowsTo a b

-- while a pin lasts, what its search knows only grows
abbrev pub SearchesOnlyGrow : Type 0
SearchesOnlyGrow = (s : Search) (e : Event) (r : Reply) → begins_anew (e, r) ≡ false
    → SearchGrows s (searched s e r)
