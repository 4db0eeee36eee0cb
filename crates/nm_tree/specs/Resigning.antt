-- What a worker that resigns leaves to its heir.
use Rattle.std.specs.Prelude.{◌≡◌, ℕ, suc, nat_lt, if◌then◌else◌, List, [], ◌∷◌, None, IsSome}
use Rattle.nm_epoch.specs.declared.collecting.HeldQueue.{HeldQueue}
use Rattle.nm_steps.specs.Rules.{ExtendsStores}
use Rattle.nm_steps.specs.Steps.{HasJoined, HasSeenAllOf}
use Rattle.nm_tree.specs.declared.resigning.ResignReason.{ResignReason}
use Rattle.nm_tree.specs.declared.resigning.ResignReason.TheVariants as because
use Rattle.nm_tree.specs.Answers.{KeepsPlace}
use Rattle.nm_tree.specs.Workers.{WorkerView, IsBetweenCalls}

-- the index at which a queue of that origin belongs among these
abbrev pub place_in : ℕ → List HeldQueue → ℕ
place_in o [] = 0
place_in o (h ∷ hs) = if nat_lt h.origin o then suc (place_in o hs) else 0

-- these queues with one more, by ascending origin
abbrev pub inserted : HeldQueue → List HeldQueue → List HeldQueue
inserted g [] = g ∷ []
inserted g (h ∷ hs) = if nat_lt h.origin g.origin then h ∷ inserted g hs else g ∷ h ∷ hs

-- the first queues with the second ones among them, by ascending origin, each unchanged
abbrev pub merged : List HeldQueue → List HeldQueue → List HeldQueue
merged hs [] = hs
merged hs (g ∷ gs) = inserted g (merged hs gs)

-- the leaver was not pinned and had nothing pending. By one step the heir's pass covers both, and
-- has seen all that both had seen, of turns and of stores. The heir holds the queues of both, by
-- ascending origin, each unchanged. What it had pending, and its caller's pin, are unchanged (Fraser,
-- section 5.2.3, lists of nodes that are passed on; by origin ours)
pub record HasResigned (heir leaver z : WorkerView) : Type 0 where
  pub free : (leaver.held ≡ None) × (leaver.pending ≡ None)
  pub joined : HasJoined heir.pass leaver.pass z.pass
  pub seen : HasSeenAllOf z.pass heir.pass
  pub told : HasSeenAllOf z.pass leaver.pass
  pub stores : ExtendsStores z.pass.view.stores heir.pass.view.stores
  pub told_stores : ExtendsStores z.pass.view.stores leaver.pass.view.stores
  pub queues : z.queues ≡ merged heir.queues leaver.queues
  pub place : KeepsPlace heir z
  pub fit : z.fit ≡ heir.fit
  pub between : IsBetweenCalls z

-- why a worker may not resign; for want of memory for the queues, if it is free (Fraser, section
-- 5.2.3, lists of nodes that are passed on; by origin ours)
abbrev pub IsReason : WorkerView → ResignReason → Type 0
IsReason leaver because.Held = IsSome leaver.held
IsReason leaver because.Pending = (leaver.held ≡ None) × IsSome leaver.pending
IsReason leaver because.Number = ⊥
IsReason leaver because.Attached = ⊥
IsReason leaver because.NoMemory = (leaver.held ≡ None) × (leaver.pending ≡ None)
