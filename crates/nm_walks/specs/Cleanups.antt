-- A cleanup, as a relation between a log and a later one.
use Rattle.std.specs.Prelude.{◌≡◌, ◌≢◌, ◌⊎◌, ℕ, ◌+◌, ◌*◌, ◌==◌, true, false, ◌||◌, if◌then◌else◌, List, [], ◌∷◌, ◌++◌, length, map, Option, Some, None, option_map}
use Rattle.nm_edge.specs.Edges.{Edge, other}
use Rattle.nm_edge.specs.declared.edge.Side.{Side}
use Rattle.nm_edge.specs.declared.node.NodeId.{NodeId}
use Rattle.nm_model.specs.declared.event.Event.TheVariants.{Sight, Look, Tag, Splice}
use Rattle.nm_model.specs.declared.event.Field.TheVariants.{Edge as EdgeOn, Birth}
use Rattle.nm_model.specs.declared.reply.Reply.TheVariants.{Labelled, EdgeIs, BirthIs, Was, Cut, Lost}
use Rattle.nm_model.specs.declared.ledger.Ledger.{Ledger}
use Rattle.nm_model.specs.Knowledge.{Knowledge}
use Rattle.nm_model.specs.Ledgers.{held, with_cut}
use Rattle.nm_model.specs.Searches.{idle, is_flagged_in}
use Rattle.nm_model.specs.Walks.{Entry, search_after}
use Rattle.nm_order.specs.Facts.Fact.{IsFlagged, IsBorn}
use Rattle.nm_steps.specs.Rules.{knowledge}
use Rattle.nm_steps.specs.Steps.{PassView}
use Rattle.nm_epoch.specs.Collecting.{IsQueueOf, labelled_so, capped}
use Rattle.nm_epoch.specs.declared.collecting.Entry.{Entry as Waiting}
use Rattle.nm_epoch.specs.declared.collecting.HeldQueue.{HeldQueue}
use Rattle.nm_walks.specs.declared.cutting.Kept.{Kept}
use Rattle.nm_walks.specs.declared.seek_record.ChainEdge.{ChainEdge}
use Rattle.nm_walks.specs.declared.seek_record.SeekRecord.{SeekRecord}
use Rattle.nm_walks.specs.Telling.{Tells, OnlyLooks}
use Rattle.nm_walks.specs.WonCounts.{CountsWon}

-- both edges of the parent were looked at, first the one on the walk's side
abbrev pub after_both : SeekRecord → List Entry → Edge → Edge → List Entry
after_both s l e f = (l ++ (Look s.parent (EdgeOn s.side), EdgeIs e) ∷ [])
    ++ (Look s.parent (EdgeOn (other s.side)), EdgeIs f) ∷ []

-- the edge to keep: the one beside the flagged edge, first the one on the walk's side
abbrev pub kept_beside : SeekRecord → Edge → Edge → Option Kept
kept_beside s e f = if e.flag then Some (record { side = other s.side; leaf = e.slot })
    else if f.flag then Some (record { side = s.side; leaf = f.slot }) else None

-- the edge of a parent to keep was chosen by two looks (Natarajan and Mittal, section 3.2, cleanup;
-- for whole chains ours)
abbrev pub Chooses : SeekRecord → List Entry → List Entry → Option Kept → Type 0
Chooses s old new r = (e f : Edge) × (new ≡ after_both s old e f) × (r ≡ kept_beside s e f)

-- a slot and the flagged leaf beside its edge on a side were looked at, and these are their nodes
-- (Natarajan and Mittal, section 3.2, cleanup; for whole chains ours)
pub record FrozenAt (p q : PassView) (slot : ℕ) (side : Side) (node leaf : NodeId) : Type 0 where
  pub edge : Edge
  pub leads : edge.slot ≡ leaf.slot
  pub is_slot : node.slot ≡ slot
  pub looks : q.view.log ≡ ((p.view.log ++ (Look slot (EdgeOn (other side)), EdgeIs edge) ∷ [])
      ++ (Look slot Birth, BirthIs node.birth) ∷ []) ++ (Look leaf.slot Birth, BirthIs leaf.birth)
      ∷ []
  pub flagged : Tells q (IsFlagged slot (other side) leaf.slot)
  pub born : Tells q (IsBorn slot node.birth)
  pub leaf_born : Tells q (IsBorn leaf.slot leaf.birth)

-- the topmost slot of a chain down to p
abbrev pub top : List ChainEdge → ℕ → ℕ
top [] p = p
top (l ∷ c) p = l.slot

-- three looks at a node whose edge on a side is tagged: at the edge beside it, at the node's birth
-- and at that of the leaf beside it
abbrev pub FreezesOne : ℕ → Side → List Entry → List Entry → Type 0
FreezesOne slot side old new =
    (e : Edge) × (b c : ℕ) × (new
    ≡ ((old ++ (Look slot (EdgeOn (other side)), EdgeIs e) ∷ []) ++ (Look slot Birth, BirthIs b)
    ∷ []) ++ (Look e.slot Birth, BirthIs c) ∷ [])

-- three such looks at each node of a chain and at its end, and nothing else (Natarajan and Mittal,
-- section 3.2, cleanup; for whole chains ours)
abbrev pub Freezes : ℕ → Side → List ChainEdge → List Entry → List Entry → Type 0
Freezes parent keep [] old new = FreezesOne parent keep old new
Freezes parent keep (l ∷ c) old new =
    (mid : List Entry) × FreezesOne l.slot l.side old mid × Freezes parent keep c mid new

-- ---- a whole cleanup

-- a cleanup up to its splice: both edges of the parent were looked at, the one to keep was tagged,
-- and the chain was looked at (Natarajan and Mittal, section 3.2, cleanup; for whole chains ours)
abbrev pub Prepares : SeekRecord → List ChainEdge → Kept → List Entry → List Entry → Type 0
Prepares s c k old new = (mid : List Entry) × (was : Edge) × Chooses s old mid (Some k)
    × Freezes s.parent k.side c (mid ++ (Tag s.parent k.side, Was was) ∷ []) new

-- the splice was won, and cut off exactly these nodes (Natarajan and Mittal, section 3.2, cleanup;
-- for whole chains ours)
abbrev pub CutsOff : SeekRecord → List ChainEdge → List NodeId → List Entry → List Entry → Type 0
CutsOff s c ns old new = (k : Kept) × (mid : List Entry) × Prepares s c k old mid
    × (new ≡ mid ++ (Splice s.ancestor s.above s.successor s.parent k.side, Cut ns) ∷ [])

-- neither edge of the parent was flagged, or the splice was lost (Natarajan and Mittal, section
-- 3.2, cleanup; for whole chains ours)
abbrev pub CleanupLost : SeekRecord → List ChainEdge → List Entry → List Entry → Type 0
CleanupLost s c old new = Chooses s old new None
    ⊎ ((k : Kept) × (mid : List Entry) × (e : Edge) × Prepares s c k old mid
    × (new ≡ mid ++ (Splice s.ancestor s.above s.successor s.parent k.side, Lost e) ∷ []))

-- the splice was won, and followed at once by its label (Natarajan and Mittal, section 3.2,
-- cleanup; for whole chains ours)
abbrev pub CleanupWon : SeekRecord → List ChainEdge → List NodeId → ℕ → List Entry → List Entry → Type 0
CleanupWon s c ns epoch old new =
    (mid : List Entry) × CutsOff s c ns old mid × (new ≡ mid ++ (Sight, Labelled epoch) ∷ [])

-- ---- what a won splice leaves of the pass, and a whole cleanup

-- the node, a slot with its birth, is one of these
abbrev pub IsOneOfNodes : NodeId → List NodeId → Type 0
IsOneOfNodes n ns = is_flagged_in (Some n) ns ≡ true

-- these nodes were cut off and wait for their label. If the edge by which the walk ended is known
-- as flagged, its leaf is one of them
pub record HasCut (s : SeekRecord) (c : List ChainEdge) (ns : List NodeId) (p q : PassView) : Type 0 where
  pub part : CutsOff s c ns p.view.log q.view.log
  pub size : length ns ≡ 2 * (length c + 1)
  pub queues : (o : ℕ) → held (knowledge q.view).ledgers o
      ≡ (if o == p.view.number then option_map (with_cut ns) (held (knowledge p.view).ledgers o)
      else held (knowledge p.view).ledgers o)
  pub epochs : (knowledge q.view).brief ≡ record (knowledge p.view).brief { unlabelled = true }
  pub leaf : (to b : ℕ) → Tells p (IsFlagged s.parent s.side to) → Tells p (IsBorn to b)
      → IsOneOfNodes (record { slot = to; birth = b }) ns
  pub cut : (search_after idle q.view.log).cut
      ≡ ((search_after idle p.view.log).cut
      || is_flagged_in (search_after idle p.view.log).flagged ns)

-- a cleanup that was lost has only looked and tagged
pub record HasCutNothing (s : SeekRecord) (c : List ChainEdge) (p q : PassView) : Type 0 where
  pub part : CleanupLost s c p.view.log q.view.log
  pub only : OnlyLooks p q

-- the nodes of an origin's ledger that were freed, if the worker holds it (Fraser, section 5.2.3;
-- by origin ours)
abbrev pub freed_of_origin : Knowledge → ℕ → Option (List NodeId)
freed_of_origin k o = option_map (λ (l : Ledger). l.freed) (held k.ledgers o)

-- a worker's own queue: its nodes are those that the worker's splices cut off and that wait, and
-- its counts are what the worker has won by its log, and what was freed
pub record HoldsCuts (p : PassView) (h : HeldQueue) : Type 0 where
  pub own : h.origin ≡ p.view.number
  pub queue : IsQueueOf (knowledge p.view) p.view.number h.queue.items
  pub counted : CountsWon p.view.log h.counts
  pub freed : option_map (λ (ns : List NodeId). capped (length ns))
      (freed_of_origin (knowledge p.view) p.view.number) ≡ Some h.counts.freed

-- each ledger of another origin is unchanged, and nothing was freed of the worker's own ledger
-- (Fraser, section 5.2.3; by origin ours)
pub record KeepsLedgers (p q : PassView) : Type 0 where
  pub others : (o : ℕ) → o ≢ p.view.number
      → held (knowledge q.view).ledgers o ≡ held (knowledge p.view).ledgers o
  pub freed : freed_of_origin (knowledge q.view) p.view.number
      ≡ freed_of_origin (knowledge p.view) p.view.number

-- these nodes were cut off, labelled and appended to the queue, and the flagged leaf, if the edge
-- to it was known as flagged, is one of them
pub record HasCleaned (s : SeekRecord) (c : List ChainEdge) (p q : PassView)
    (es fs : List Waiting) : Type 0 where
  pub nodes : List NodeId
  pub epoch : ℕ
  pub part : CleanupWon s c nodes epoch p.view.log q.view.log
  pub queue : fs ≡ es ++ map (labelled_so epoch) nodes
  pub leaf : (to b : ℕ) → Tells p (IsFlagged s.parent s.side to) → Tells p (IsBorn to b)
      → IsOneOfNodes (record { slot = to; birth = b }) nodes
  pub cut : (search_after idle q.view.log).cut
      ≡ ((search_after idle p.view.log).cut
      || is_flagged_in (search_after idle p.view.log).flagged nodes)

-- what a cleanup leaves unchanged: the pin, private slots, the call with what it linked and
-- flagged, and ledgers except for the nodes that it cut
pub record OnlyCleans (p q : PassView) : Type 0 where
  pub announcement : (knowledge q.view).brief.announcement ≡ (knowledge p.view).brief.announcement
  pub pin : (knowledge q.view).brief.pin ≡ (knowledge p.view).brief.pin
  pub labelled : (knowledge p.view).brief.unlabelled ≡ false
      → (knowledge q.view).brief.unlabelled ≡ false
  pub private : (knowledge q.view).drafts ≡ (knowledge p.view).drafts
  pub call : (search_after idle q.view.log).call ≡ (search_after idle p.view.log).call
  pub linked : (search_after idle q.view.log).linked ≡ (search_after idle p.view.log).linked
  pub swapped : (search_after idle q.view.log).swapped ≡ (search_after idle p.view.log).swapped
  pub flagged : (search_after idle q.view.log).flagged ≡ (search_after idle p.view.log).flagged
  pub ledgers : KeepsLedgers p q
