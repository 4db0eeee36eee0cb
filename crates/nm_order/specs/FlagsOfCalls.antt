-- The flag of a call: what its log shows of it, and that it stays while the pin lasts.
use Rattle.std.specs.Prelude.{◌≡◌, ◌↔◌, ℕ, false, List, ◌∷◌, ◌++◌, Some, Ok, All, Contains}
use Rattle.nm_edge.specs.declared.edge.Side.{Side}
use Rattle.nm_edge.specs.declared.node.NodeId.{NodeId}
use Rattle.nm_model.specs.declared.event.Event.{Event}
use Rattle.nm_model.specs.declared.event.Event.TheVariants.{Flag}
use Rattle.nm_model.specs.declared.reply.Reply.{Reply}
use Rattle.nm_model.specs.declared.reply.Reply.TheVariants.{Flagged}
use Rattle.nm_model.specs.declared.arrivals.Arrival.{Arrival}
use Rattle.nm_model.specs.Searches.{Search, searched}
use Rattle.nm_model.specs.Ordered.{Configuration, search_of, outcome_in}
use Rattle.nm_model.specs.Walks.{Entry, begins_anew, GrowsTo}
use Rattle.nm_order.specs.WalksToArrivals.{is_won_flag, since_flag}

-- the first flag that a log won is one of that node: the log is a part before it, the flag, and the
-- part after it
pub record HasWonFlag (log : List Entry) (n : NodeId) : Type 0 where
  pub before : List Entry
  pub parent : ℕ
  pub side : Side
  pub leaf : ℕ
  pub is : log ≡ before ++ (Flag parent side leaf, Flagged n) ∷ since_flag log

-- the search keeps a node as flagged exactly if it is the node of that flag
abbrev pub FlagsAreKept : List Entry → Search → Type 0
FlagsAreKept log s = (n : NodeId) → s.flagged ≡ Some n ↔ HasWonFlag log n

-- after the first won flag there is no other
abbrev pub NoSecondFlag : List Entry → Type 0
NoSecondFlag log = All (λ e. is_won_flag e ≡ false) (since_flag log)

-- in an ordered core the flag of a call stays while the pin lasts
abbrev pub FlagsStay : Type 0
FlagsStay = (c : Configuration) (searches : List Search) → c.searches ≡ Some searches
    → (w : ℕ) (e : Event) (r : Reply) → outcome_in c (w, e) ≡ Ok r → begins_anew (e, r) ≡ false
    → (n : NodeId) → (search_of searches w).flagged ≡ Some n
    → (searched (search_of searches w) e r).flagged ≡ Some n

-- each arrival of a walk that began after the flag stays while the pin lasts, with its key and its
-- end once it has them
abbrev pub LaterArrivalsOnlyGrow : Type 0
LaterArrivalsOnlyGrow = (s : Search) (e : Event) (r : Reply) → begins_anew (e, r) ≡ false
    → (a : Arrival) → Contains s.later a
    → (b : Arrival) × Contains (searched s e r).later b × GrowsTo a b
