-- Workers that go home: what of them stays as it was, and why one that is there does not resign.
use Rattle.std.proofs.Common.{◌≡◌, ◌∙◌, ◌+◌, ◌<◌, ℕ, cond, true≢false, [], ◌∷◌, inl, inr, refl, sym, ap, subst, arith}
use Rattle.std.specs.Prelude.{Option, None, Some, IsSome, is_some}
use Rattle.nm_edge.specs.declared.node.NodeId.{NodeId}
use Rattle.nm_model.specs.declared.event.Event.TheVariants.{Leave}
use Rattle.nm_model.specs.declared.reply.Reply.TheVariants.{Departed}
use Rattle.nm_order.specs.Logs.{part_of}
use Rattle.nm_steps.specs.Steps.{PassView, HasSeen}
use Rattle.nm_calls.specs.declared.deleting.Unfinished.{Unfinished}
use Rattle.nm_walks.specs.WonCounts.{won_links, won_flags}
use Rattle.nm_epoch.specs.Collecting.{capped}
use Rattle.nm_walks.proofs.Adding.{adds_these}
use Rattle.nm_tree.specs.Resigning.{IsReason}
use Rattle.nm_tree.specs.Workers.{WorkerView, IsAs, IsBetweenCalls}
use Rattle.nm_tree.proofs.FlaggedSeen.{none_seen}
use Rattle.nm_tree.specs.declared.resigning.ResignReason.{ResignReason as Reason}
use Rattle.nm_tree.specs.declared.resigning.ResignReason.TheVariants as tree
use Rattle.nm_set.specs.declared.posting.Stamp.{Stamp}
use Rattle.nm_set.specs.Posts.{IsTallyOf, pending_by}
use Rattle.nm_set.specs.Seats.{IsLetGo, IsResident, IsStaying, MemberView, Stays}

-- a worker of which no delete is pending has done as much as it has won
rests : (w : WorkerView) → HasSeen w.pass.view → IsBetweenCalls w → w.pending ≡ None
    → pending_by w.pass.view.number w.pass.view.past ≡ 0
rests w seen between none = ap (λ (o : Option NodeId). cond (is_some o) 1 0)
    (none_seen w.pass w.pending w.held seen between.stands none)

-- nothing is pending of a worker that its caller holds
held_rests : (p : PassView) (u : Option Unfinished) (e : Option ℕ) → IsAs p u e → IsSome e → u ≡ None
held_rests p None e is held = refl
held_rests p (Some n) (Some epoch) is held = absurd is
held_rests p (Some n) None is held = absurd (true≢false (sym held))

-- an unpin wins nothing
pub done_before : (p : Stamp) (w z : WorkerView) → HasSeen w.pass.view → HasSeen z.pass.view → IsBetweenCalls w
    → IsBetweenCalls z → IsLetGo w z → IsTallyOf z p → IsTallyOf w p
done_before p w z seen sees between stands (inl (free, is)) t = subst (λ (u : WorkerView). IsTallyOf u p) is t
done_before p w z seen sees between stands (inr (held, left)) t =
    let adds = adds_these ((Leave, Departed) ∷ []) w.pass.view.log z.pass.view.log
    (ap (λ (q : PassView). q.view.log) left.step) in
    let l = adds.links in
    let f = adds.flags in
    let links : won_links (part_of z.pass.view.number z.pass.view.past)
    ≡ won_links (part_of w.pass.view.number w.pass.view.past)
    = ap won_links sees.is_part ∙ (omega (arith, l) ∙ ap won_links (sym seen.is_part)) in
    let flags : won_flags (part_of z.pass.view.number z.pass.view.past)
    ≡ won_flags (part_of w.pass.view.number w.pass.view.past)
    = ap won_flags sees.is_part ∙ (omega (arith, f) ∙ ap won_flags (sym seen.is_part)) in
    let pending = rests z sees stands left.pending ∙ sym
    (rests w seen between (held_rests w.pass w.pending w.held between.stands held)) in
    record {
      inserted = t.inserted ∙ ap capped links;
      removed = ap (λ (n : ℕ). p.removed + n) (sym pending) ∙ (t.removed ∙ ap capped flags);
    }

-- a worker that is not held does not resign for two reasons alone
pub stays_free : (w : WorkerView) (why : Reason) → w.held ≡ None → IsReason w why → Stays w why
stays_free w tree.Held free held = absurd (true≢false (sym (subst IsSome free held)))
stays_free w tree.Pending free is = is.1
stays_free w tree.Number free is = absurd is
stays_free w tree.Attached free is = absurd is
stays_free w tree.NoMemory free is = is.1

-- and then its number is that of a worker
pub staying : (m : MemberView) (i : ℕ) (w : WorkerView) (why : Reason) → i < m.tree.layout.workers
    → IsResident m.tree m.worker.fit i w → Stays w why → IsStaying m i why
staying m i w tree.Held below is stays = absurd stays
staying m i w tree.Pending below is stays = (below, w, is, stays)
staying m i w tree.Number below is stays = absurd stays
staying m i w tree.Attached below is stays = absurd stays
staying m i w tree.NoMemory below is stays = (below, w, is, stays)
