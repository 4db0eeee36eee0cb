-- A put that found no slot has passed over each of them, right before its unpin.
use Rattle.std.proofs.Common.{◌≡◌, inl, inr, ℕ, List, refl}
use Rattle.std.specs.Prelude.{Err}
use Rattle.nm_edge.specs.Layouts.{Layout}
use Rattle.nm_model.specs.declared.event.Event.TheVariants.{SightFor}
use Rattle.nm_model.specs.declared.event.Op.TheVariants.{Insert}
use Rattle.nm_model.specs.Walks.{Entry}
use Rattle.nm_steps.specs.Steps.{HasSeen, HasSeenAllOf, IsSamePass}
use Rattle.nm_walks.specs.declared.seek_record.ChainEdge.{ChainEdge}
use Rattle.nm_walks.specs.declared.seek_record.WalkEnd.{WalkEnd}
use Rattle.nm_calls.specs.declared.fault.CallFault.TheVariants as fault
use Rattle.nm_puts.specs.declared.putting.Attempt.TheVariants as attempt
use Rattle.nm_puts.specs.declared.putting.Condition.{Condition}
use Rattle.nm_puts.specs.Puts.{IsPutTry, PutDid, TriesAt}
use Rattle.nm_tree.specs.Answers.{FoundNoSlot}
use Rattle.nm_tree.specs.Workers.{WorkerView}
use Rattle.nm_tree.proofs.FullPools.{IsAny, Passes, found_none, no_node, no_nodes}
use Rattle.nm_tree.proofs.Unfreed.{pin_unfreed, then'}
use Rattle.nm_tree.proofs.UnfreedPuts.{puts_lost, walk_unfreed}

pub put_found_no_slot : (L : Layout) (tries : ℕ) (when : Condition) (k : ℕ) (w z : WorkerView)
    → z.pass.view.layout ≡ L → HasSeen w.pass.view → HasSeen z.pass.view → IsSamePass w.pass z.pass
    → HasSeenAllOf z.pass w.pass
    → PutDid w.fit L tries when k w.pass.view.log z.pass.view.log (Err fault.Full) → FoundNoSlot w.pass z.pass
put_found_no_slot L tries when k w z same seen_w seen_z on past
    (pinned, epoch, pin, (mid, (n, begun, few, lost, try), leaves)) = by try
  where
    claims : (r : WalkEnd) (c : List ChainEdge) (at : List Entry) → TriesAt w.fit L when k r c at mid attempt.Full
        → Passes (IsAny L.nodes) at mid
    claims r c at (inl h) = no_node w.fit L.nodes at mid h.1
    claims r c at (inr (inl h)) = no_nodes w.fit L.nodes at mid h.2
    claims r c at (inr (inr (inl h))) = absurd (let no = h.1.4 in cc)
    claims r c at (inr (inr (inr h))) = absurd (let no = h.2 in cc)

    by : IsPutTry w.fit L when k begun mid attempt.Full → FoundNoSlot w.pass z.pass
    by (inl h) = absurd (let no = h.0 in cc)
    by (inr (r, c, at, short, walk, tried)) = found_none L w z same seen_w seen_z on past at mid
        (then' w.pass.view.log pinned at (pin_unfreed (SightFor Insert k) (λ reply. refl) tries w.pass.view.log
        pinned epoch pin) (then' pinned begun at (puts_lost w.fit L k when n pinned begun lost)
        (walk_unfreed w.fit L k when begun at c r walk))) (claims r c at tried) leaves
