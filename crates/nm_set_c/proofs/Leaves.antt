-- The oldest leaf of a queue is taken out, with what was before it.
use Rattle.std.proofs.Common.{◌≡◌, ℕ, refl, sym, subst, inl, inr}
use Rattle.std.proofs.lemmas.Option.{slice_get_within}
use Rattle.std.specs.Prelude.{Option, Some, slice_get}
use Rattle.std.specs.Vec.{with_item}
use Rattle.nm_epoch.specs.declared.collecting.Entry.{Entry}
use Rattle.nm_epoch.specs.declared.collecting.HeldQueue.{HeldQueue}
use Rattle.nm_tree.specs.MapReports.{MapValuesView, value_at_slot}
use Rattle.nm_set_c.specs.MapReports.{IsReturned, IsReturnedOf, LosesAll, LosesLeaf, TakesReturned, slot_written}
use Rattle.nm_set_c.specs.declared.outcome.Outcome.TheVariants.{No, Yes}
use Rattle.nm_set_c.specs.declared.remains.Remains.{Remains}
use Rattle.nm_set_c.proofs.Items.{get_written, get_beside}

-- what is left of a map, with this queue of a worker
abbrev pub with_queue : Remains → ℕ → HeldQueue → Remains
with_queue r worker g = record r { report = record (r.report) { queues = with_item r.report.queues worker g } }

pub leaf_taken : (r : Remains) (v : MapValuesView) (worker old new : ℕ) (h g : HeldQueue) (e : Entry)
    → r.values ≡ Some v → slice_get r.report.queues.items worker ≡ Some h → LosesLeaf v h g e
    → new ≡ slot_written (value_at_slot v.slots e.node.slot) old
    → TakesReturned worker old new r (with_queue r worker g) Yes
leaf_taken r v worker old new h g e valued found loses written =
    let queues = r.report.queues.items in
    let q : Remains = with_queue r worker g in
    subst (λ (w : Option MapValuesView). IsReturnedOf w worker old new r q Yes) (sym valued)
    (subst (λ (o : Option HeldQueue). IsReturned v o worker old new r q Yes) (sym found)
    (inr (
      refl,
      e,
      g,
      loses,
      written,
      record {
        here = get_written queues worker g
            (slice_get_within queues worker h found);
        others = λ i apart. get_beside queues worker i g apart;
        keys = refl;
        free = refl;
        reached = refl;
        values = refl;
      },
    )))

pub none_taken : (r : Remains) (v : MapValuesView) (worker old new : ℕ) (h g : HeldQueue) → r.values ≡ Some v
    → slice_get r.report.queues.items worker ≡ Some h → LosesAll v h g
    → new ≡ old → TakesReturned worker old new r (with_queue r worker g) No
none_taken r v worker old new h g valued found loses same =
    let queues = r.report.queues.items in
    let q : Remains = with_queue r worker g in
    subst (λ (w : Option MapValuesView). IsReturnedOf w worker old new r q No) (sym valued)
    (subst (λ (o : Option HeldQueue). IsReturned v o worker old new r q No) (sym found)
    (inl (
      refl,
      g,
      loses,
      same,
      record {
        here = get_written queues worker g
            (slice_get_within queues worker h found);
        others = λ i apart. get_beside queues worker i g apart;
        keys = refl;
        free = refl;
        reached = refl;
        values = refl;
      },
    )))
