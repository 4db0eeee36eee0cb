-- Changes of an edge that has no mark, and the tries that are lost by them.
use Rattle.std.specs.Prelude.{◌≡◌, ◌≢◌, ℕ, ◌==◌, Bool, true, false, not, ◌&&◌, List, ◌∷◌, ◌++◌, Result, Ok}
use Rattle.std.specs.List.{list_any}
use Rattle.nm_edge.specs.Edges.{Edge, to}
use Rattle.nm_edge.specs.Layouts.{Layout}
use Rattle.nm_edge.specs.declared.edge.Side.{Side}
use Rattle.nm_model.specs.declared.event.Field.TheVariants.{Edge as EdgeOn}
use Rattle.nm_model.specs.declared.event.Event.{Event}
use Rattle.nm_model.specs.declared.event.Event.TheVariants.{Look, Link, Flag, Tag, Splice, Swap}
use Rattle.nm_model.specs.declared.reply.Reply.{Reply}
use Rattle.nm_model.specs.declared.reply.Reply.TheVariants.{EdgeIs, Linked, Flagged, Was, Cut, Lost}
use Rattle.nm_model.specs.declared.reply.Refused.{Refused}
use Rattle.nm_model.specs.Memory.{edge}
use Rattle.nm_model.specs.Knowledge.{knows}
use Rattle.nm_model.specs.Searches.{is_side}
use Rattle.nm_model.specs.Runs.{of}
use Rattle.nm_model.specs.Walks.{Entry, log_of}
use Rattle.nm_model.specs.Ordered.{Configuration, ordered, next_in, outcome_in, after_in, trace_in}
use Rattle.nm_order.specs.Moments.{PinStands}

-- ---- changes

-- the edge has no mark
abbrev pub is_bare : Edge → Bool
is_bare e = not e.flag && not e.tag

-- the edge of x on side d is that of p on that side
abbrev pub is_at : ℕ → Side → ℕ → Side → Bool
is_at x d p side = (p == x) && is_side side d

-- an event with its outcome changes the edge of x on a side, which had no mark: a link, a flag, a
-- splice or a swap that is won there, or a tag that found it unmarked (Natarajan and Mittal, section
-- 3.2)
abbrev pub changes : ℕ → Side → Event → Result Reply Refused → Bool
changes x d (Link p side leaf new) (Ok (Linked n)) = is_at x d p side
changes x d (Flag p side leaf) (Ok (Flagged n)) = is_at x d p side
changes x d (Tag p side) (Ok (Was e)) = is_at x d p side && is_bare e
changes x d (Splice a side s p keep) (Ok (Cut ns)) = is_at x d a side
changes x d (Swap p side leaf new) (Ok (Cut ns)) = is_at x d p side
changes x d _ _ = false

-- an entry of a log is such a change
abbrev pub is_change : ℕ → Side → Entry → Bool
is_change x d e = changes x d e.0 (Ok e.1)

-- in these turns, from a configuration on, another worker than w changes the edge of x on a side,
-- which led to s without a mark before that turn
pub record IsChangedByAnother (c : Configuration) (turns : List (ℕ × Event)) (w x : ℕ) (d : Side)
    (s : ℕ) : Type 0 where
  pub before : List (ℕ × Event)
  pub turn : ℕ × Event
  pub since : List (ℕ × Event)
  pub is_run : turns ≡ before ++ turn ∷ since
  pub another : turn.0 ≢ w
  pub was : edge (after_in c before).state.memory x d ≡ to s
  pub changes : changes x d turn.1 (outcome_in (after_in c before) turn) ≡ true

-- ---- tries

-- the events that expect the unmarked edge of x on side d to s (Natarajan and Mittal, section 3.2)
pub data Expects (x : ℕ) (d : Side) (s : ℕ) : Event → Type 0 where
  ToLink : (new : ℕ) → Expects x d s (Link x d s new)
  ToFlag : Expects x d s (Flag x d s)
  ToCut : (p : ℕ) (keep : Side) → Expects x d s (Splice x d s p keep)
  ToSwap : (new : ℕ) → Expects x d s (Swap x d s new)

-- the configuration after a look of w at the edge of x on side d
abbrev pub behind_look : Layout → List (ℕ × Event) → ℕ → ℕ → Side → Configuration
behind_look L before w x d = next_in (after_in (ordered L) before) (w, Look x (EdgeOn d))

-- worker w read the edge of a node that it knows as one to s without a mark. Under the same pin it
-- tried an exchange that expects this, and lost. Between the two it did not itself change that edge
pub record IsLostTry (L : Layout) (turns : List (ℕ × Event)) (w x : ℕ) (d : Side)
    (s : ℕ) : Type 0 where
  pub before : List (ℕ × Event)
  pub between : List (ℕ × Event)
  pub since : List (ℕ × Event)
  pub exchange : Event
  pub found : Edge
  pub is_run : turns ≡ before ++ (w, Look x (EdgeOn d)) ∷ (between ++ (w, exchange) ∷ since)
  pub known : knows (of (after_in (ordered L) before).state w) x ≡ true
  pub read : outcome_in (after_in (ordered L) before) (w, Look x (EdgeOn d)) ≡ Ok (EdgeIs (to s))
  pub expects : Expects x d s exchange
  pub lost : outcome_in (after_in (behind_look L before w x d) between) (w, exchange)
      ≡ Ok (Lost found)
  pub stands : PinStands w (trace_in (behind_look L before w x d) between)
  pub not_own : list_any (is_change x d) (log_of w (trace_in (behind_look L before w x d) between))
      ≡ false

-- a try that is lost is lost to another worker, which changed that edge between the read and the
-- try
abbrev pub LostTriesAreToOthers : Layout → List (ℕ × Event) → Type 0
LostTriesAreToOthers L turns = (w x : ℕ) (d : Side) (s : ℕ) (t : IsLostTry L turns w x d s)
    → IsChangedByAnother (behind_look L t.before w x d) t.between w x d s
