-- What a worker learns by the last entry of its log: facts that the log holds from then on.
use Rattle.std.specs.Prelude.{◌≡◌, ◌≢◌, ℕ, true, List, [], ◌∷◌, ◌++◌, IsSome}
use Rattle.nm_edge.specs.Edges.{Edge, tagged}
use Rattle.nm_edge.specs.Layouts.{Layout}
use Rattle.nm_edge.specs.declared.edge.Side.{Side}
use Rattle.nm_edge.specs.declared.edge.Side.TheVariants.{Left}
use Rattle.nm_edge.specs.declared.node.NodeId.{NodeId}
use Rattle.nm_model.specs.declared.event.Field.TheVariants.{Key, Edge as EdgeOn, Birth}
use Rattle.nm_model.specs.declared.event.Op.{Op}
use Rattle.nm_model.specs.declared.event.Event.TheVariants.{SightFor, Look, Flag, Tag}
use Rattle.nm_model.specs.declared.reply.Reply.TheVariants.{Pinned, KeyIs, BirthIs, EdgeIs, Flagged, Was}
use Rattle.nm_model.specs.Searches.{idle, side_of}
use Rattle.nm_model.specs.Walks.{Entry, search_after}
use Rattle.nm_order.specs.Facts.{Since, Fact, Holds}
use Rattle.nm_order.specs.Facts.Since.{ThePin, TheFlag}
use Rattle.nm_order.specs.Facts.Fact.{IsPinned, KnowsSlot, KnowsLeaf, IsTagged, IsFlagged, IsFrozen, IsBorn, CallIs, Came, ReadKey, EndedAt}
use Rattle.nm_order.specs.Told.{TellsEdge}

-- ---- edges and nodes

-- the edge of slot x on a side was read: the facts that this adds to a log
pub record EdgeLearned (holds : Fact → Type 0) (x : ℕ) (side : Side) (e : Edge) : Type 0 where
  pub leads : e.slot ≢ 0 → holds (KnowsSlot e.slot)
  pub leaf : e.slot ≡ 0 → holds (KnowsLeaf x)
  pub tagged : e.tag ≡ true → holds (IsTagged x side e.slot)
  pub flagged : e.flag ≡ true → holds (IsFlagged x side e.slot)

-- an edge that an entry returns of a known slot is learned, with its marks and its slot
abbrev pub EdgesAreLearned : Layout → ℕ → List Entry → Entry → Type 0
EdgesAreLearned L w log entry =
    (x : ℕ) (side : Side) (e : Edge) → TellsEdge entry x side e → Holds L w log (KnowsSlot x)
    → EdgeLearned (Holds L w (log ++ entry ∷ [])) x side e

-- an edge that was tagged is known as tagged
abbrev pub TagsAreLearned : Layout → ℕ → List Entry → Entry → Type 0
TagsAreLearned L w log entry =
    (x : ℕ) (side : Side) (e : Edge) → entry ≡ (Tag x side, Was e)
    → Holds L w (log ++ entry ∷ []) (IsTagged x side e.slot)

-- an edge that was tagged is known exactly: it is the one that was there, with the tag
abbrev pub TagsFreeze : Layout → ℕ → List Entry → Entry → Type 0
TagsFreeze L w log entry = (x : ℕ) (side : Side) (e : Edge) → entry ≡ (Tag x side, Was e)
    → Holds L w (log ++ entry ∷ []) (IsFrozen x side (tagged e))

-- an edge whose flag was won is known as flagged
abbrev pub FlagsAreLearned : Layout → ℕ → List Entry → Entry → Type 0
FlagsAreLearned L w log entry =
    (p leaf : ℕ) (side : Side) (n : NodeId) → entry ≡ (Flag p side leaf, Flagged n)
    → Holds L w (log ++ entry ∷ []) (IsFlagged p side leaf)

-- a birth that was looked at is known
abbrev pub BirthsAreLearned : Layout → ℕ → List Entry → Entry → Type 0
BirthsAreLearned L w log entry =
    (x b : ℕ) → entry ≡ (Look x Birth, BirthIs b) → Holds L w log (KnowsSlot x)
    → Holds L w (log ++ entry ∷ []) (IsBorn x b)

-- the facts that a pin for a call shows at once
pub record PinLearned (holds : Fact → Type 0) (op : Op) (key epoch : ℕ) : Type 0 where
  pub pinned : holds (IsPinned epoch)
  pub root : holds (KnowsSlot 1)
  pub second : holds (KnowsSlot 2)
  pub call : holds (CallIs op key)

-- each pin that is confirmed for a call shows these facts
abbrev pub PinsAreLearned : Layout → ℕ → List Entry → Entry → Type 0
PinsAreLearned L w log entry =
    (op : Op) (key epoch : ℕ) → entry ≡ (SightFor op key, Pinned epoch)
    → PinLearned (Holds L w (log ++ entry ∷ [])) op key epoch

-- ---- walks

-- the walks after the pin are those of a call; the walks after the flag are those of a call that
-- has won its flag
abbrev pub WalksAreFor : Layout → ℕ → List Entry → Since → ℕ → Type 0
WalksAreFor L w log ThePin k = (op : Op) × Holds L w log (CallIs op k)
WalksAreFor L w log TheFlag k = (op : Op) × Holds L w log (CallIs op k)
    × IsSome (search_after idle log).flagged

-- a look at the left edge of slot 2 begins a walk
abbrev pub WalksBegin : Layout → ℕ → List Entry → Entry → Type 0
WalksBegin L w log entry = (since : Since) (k : ℕ) (e : Edge) → WalksAreFor L w log since k
    → entry ≡ (Look 2 (EdgeOn Left), EdgeIs e) → e.slot ≢ 0
    → Holds L w (log ++ entry ∷ []) (Came since k e.slot 2 Left)

-- a walk that has come to a slot reads the key that is looked at there
abbrev pub WalksLearnKeys : Layout → ℕ → List Entry → Entry → Type 0
WalksLearnKeys L w log entry =
    (since : Since) (k x parent v : ℕ) (side : Side) → Holds L w log (Came since k x parent side)
    → entry ≡ (Look x Key, KeyIs v)
    → Holds L w (log ++ entry ∷ []) (ReadKey since k x parent side v)

-- a walk that has read a key goes on by the edge on the side of its own key
abbrev pub WalksGoOn : Layout → ℕ → List Entry → Entry → Type 0
WalksGoOn L w log entry = (since : Since) (k x parent v : ℕ) (side : Side) (e : Edge)
    → Holds L w log (ReadKey since k x parent side v)
    → entry ≡ (Look x (EdgeOn (side_of k v)), EdgeIs e) → e.slot ≢ 0
    → Holds L w (log ++ entry ∷ []) (Came since k e.slot x (side_of k v))

-- a walk that has read a key ends if the edge on the side of its own key is null
abbrev pub WalksEnd : Layout → ℕ → List Entry → Entry → Type 0
WalksEnd L w log entry = (since : Since) (k x parent v : ℕ) (side : Side) (e : Edge)
    → Holds L w log (ReadKey since k x parent side v)
    → entry ≡ (Look x (EdgeOn (side_of k v)), EdgeIs e) → e.slot ≡ 0
    → Holds L w (log ++ entry ∷ []) (EndedAt since k x parent side v)
