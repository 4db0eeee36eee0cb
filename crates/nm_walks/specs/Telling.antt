-- What a pass's log shows, in facts that stay, and what a look adds to it.
use Rattle.std.specs.Prelude.{◌≡◌, ◌≢◌, ℕ, ◌<◌, ◌≤◌, true}
use Rattle.nm_edge.specs.Edges.{Edge, other}
use Rattle.nm_edge.specs.declared.edge.Side.{Side}
use Rattle.nm_edge.specs.declared.edge.Side.TheVariants.{Left}
use Rattle.nm_model.specs.Memory.{infinity_0}
use Rattle.nm_model.specs.Searches.{idle, side_of}
use Rattle.nm_model.specs.Walks.{search_after}
use Rattle.nm_order.specs.Facts.{Since, Fact, Holds}
use Rattle.nm_order.specs.Facts.Fact.{IsPinned, KnowsLeaf, IsTagged, IsFlagged, Came, ReadKey, EndedAt}
use Rattle.nm_order.specs.Taught.{WalksAreFor, EdgeLearned}
use Rattle.nm_steps.specs.Rules.{ExtendsStores, knowledge}
use Rattle.nm_steps.specs.Steps.{TreeView, PassView, IsOf, IsSamePass, HasSeenAllOf}
pub use Rattle.nm_steps.specs.Steps.{IsInRun}

-- the pass's log shows the fact
abbrev pub Tells : PassView → Fact → Type 0
Tells p fact = Holds p.view.layout p.view.number p.view.log fact

-- the log shows a pin
abbrev pub IsPinnedSomewhere : PassView → Type 0
IsPinnedSomewhere p = (epoch : ℕ) × Tells p (IsPinned epoch)

-- the pass is one of this table's, in a run, and pinned: the precondition of a look
pub record IsPinnedIn (b : TreeView) (p : PassView) : Type 0 where
  pub own : IsOf b p
  pub run : IsInRun p
  pub pin : IsPinnedSomewhere p

-- it is the same pass, has seen all turns and stores that it had seen, is still in a run, and still
-- shows each fact that it showed
pub record GoesOn (p q : PassView) : Type 0 where
  pub same : IsSamePass p q
  pub past : HasSeenAllOf q p
  pub run : IsInRun q
  pub stores : ExtendsStores q.view.stores p.view.stores
  pub keeps : (fact : Fact) → Tells p fact → Tells q fact

-- only what is known of nodes and of the call's walks has changed: epochs, private slots, ledgers,
-- and what a call has changed are unchanged
pub record OnlyLooks (p q : PassView) : Type 0 where
  pub epochs : (knowledge q.view).brief ≡ (knowledge p.view).brief
  pub private : (knowledge q.view).drafts ≡ (knowledge p.view).drafts
  pub ledgers : (knowledge q.view).ledgers ≡ (knowledge p.view).ledgers
  pub call : (search_after idle q.view.log).call ≡ (search_after idle p.view.log).call
  pub linked : (search_after idle q.view.log).linked ≡ (search_after idle p.view.log).linked
  pub swapped : (search_after idle q.view.log).swapped ≡ (search_after idle p.view.log).swapped
  pub flagged : (search_after idle q.view.log).flagged ≡ (search_after idle p.view.log).flagged
  pub cut : (search_after idle q.view.log).cut ≡ (search_after idle p.view.log).cut

-- what is known after the key of a slot was read: if it is below the sentinels, the slot is above
-- 5; and each walk that has come there has read it (Natarajan and Mittal, section 3.2)
pub record KeyTold (p q : PassView) (x key : ℕ) : Type 0 where
  pub high : key < infinity_0 → 6 ≤ x
  pub reads : (since : Since) (k parent : ℕ) (side : Side) → Tells p (Came since k x parent side)
      → Tells q (ReadKey since k x parent side key)

-- what is known after an edge was looked at: it is read. It is flagged if its twin is known as
-- tagged, and unchanged if it is known as flagged. It is null if its node is known as a leaf. It
-- leads to a slot of the layout. If it is flagged, it leads from a slot above 5 to a slot above 5.
-- It is not null if it is the left edge of slot 2. Each walk that goes on by it has come to its
-- slot, or has ended if it is null (Natarajan and Mittal, section 3.2)
pub record EdgeTold (p q : PassView) (x : ℕ) (side : Side) (e : Edge) : Type 0 where
  pub learned : EdgeLearned (Tells q) x side e
  pub twin : (to : ℕ) → Tells p (IsTagged x (other side) to) → e.flag ≡ true
  pub again : (to : ℕ) → Tells p (IsFlagged x side to) → (e.flag ≡ true) × (e.slot ≡ to)
  pub null : Tells p (KnowsLeaf x) → e.slot ≡ 0
  pub within : e.slot ≤ p.view.layout.nodes
  pub high : e.flag ≡ true → 6 ≤ e.slot
  pub owner : e.flag ≡ true → 6 ≤ x
  pub root : x ≡ 2 → side ≡ Left → e.slot ≢ 0
  pub begins : (since : Since) (k : ℕ) → WalksAreFor p.view.layout p.view.number p.view.log since k
      → x ≡ 2 → side ≡ Left → Tells q (Came since k e.slot 2 Left)
  pub goes : (since : Since) (k parent v : ℕ) (up : Side) → Tells p (ReadKey since k x parent up v)
      → side ≡ side_of k v → e.slot ≢ 0 → Tells q (Came since k e.slot x side)
  pub ends : (since : Since) (k parent v : ℕ) (up : Side) → Tells p (ReadKey since k x parent up v)
      → side ≡ side_of k v → e.slot ≡ 0 → Tells q (EndedAt since k x parent up v)

-- what is known after a walk for k has read a node with this key, and goes on to that side by that
-- edge. If the key is below the sentinels, the slot is above 5. The edge is read. Each walk for k
-- that had come there has read the key, and has come on to the edge's slot, or has ended if the
-- edge is null (Natarajan and Mittal, section 3.2)
pub record OnwardTold (p q : PassView) (k x key : ℕ) (side : Side) (e : Edge) : Type 0 where
  pub high : key < infinity_0 → 6 ≤ x
  pub learned : EdgeLearned (Tells q) x side e
  pub reads : (since : Since) (parent : ℕ) (up : Side) → Tells p (Came since k x parent up)
      → Tells q (ReadKey since k x parent up key)
  pub goes : (since : Since) (parent : ℕ) (up : Side) → Tells p (Came since k x parent up)
      → e.slot ≢ 0 → Tells q (Came since k e.slot x side)
  pub ends : (since : Since) (parent : ℕ) (up : Side) → Tells p (Came since k x parent up)
      → e.slot ≡ 0 → Tells q (EndedAt since k x parent up key)
