-- What the turns tell of a flagged leaf is what the worker's log tells.
use Rattle.std.proofs.Common.{◌≡◌, ℕ, ◌≤◌, ◌==◌, Bool, true, false, cond, List, [], ◌∷◌, ◌++◌, refl, sym, ap, ◌∙◌}
use Rattle.std.specs.Prelude.{Option, None, Result, Ok, Err, All}
use Rattle.nm_edge.specs.Layouts.{Layout}
use Rattle.nm_edge.specs.declared.node.NodeId.{NodeId}
use Rattle.nm_model.specs.declared.arrivals.Call.{Call}
use Rattle.nm_model.specs.declared.event.Event.{Event}
use Rattle.nm_model.specs.declared.event.Event.TheVariants.{Sight, SightFor, Leave, LeaveWith, Look, Link, Flag, Splice, Swap}
use Rattle.nm_model.specs.declared.event.Field.{Field}
use Rattle.nm_model.specs.declared.reply.Reply.{Reply}
use Rattle.nm_model.specs.declared.reply.Reply.TheVariants.{Pinned, Departed, Linked, Flagged, Cut}
use Rattle.nm_model.specs.declared.reply.Refused.{Refused}
use Rattle.nm_model.specs.declared.trace.Turn.{Turn}
use Rattle.nm_model.specs.Searches.{Search, idle, searched, look_for}
use Rattle.nm_model.specs.Walks.{logged_by, log_of, search_after}
use Rattle.nm_model.specs.Ordered.{ordered, trace_in}
use Rattle.nm_order.specs.Intervals.{HasKey}
use Rattle.nm_order.specs.Logs.{part_of}
use Rattle.nm_order.specs.Totals.{NothingIsPending}
use Rattle.nm_order.proofs.NothingPends.{nothing_pends}
use Rattle.nm_order.proofs.PartsOfRuns.{part_tells_search}
use Rattle.nm_progress.specs.Pending.{NonePends, leaf_after, leaf_by}

looked_for : (s : Search) (c : Option Call) (slot : ℕ) (f : Field) (r : Reply)
    → (look_for s c slot f r).flagged ≡ s.flagged
looked_for s None slot f r = refl
looked_for s _ slot f r = refl

-- an own entry
pub leaf_own : (s : Search) (e : Event) (r : Reply) → leaf_by s.flagged e (Ok r) ≡ (searched s e r).flagged
unfolding searched
leaf_own s Sight (Pinned n) = refl
leaf_own s (SightFor op key) (Pinned n) = refl
leaf_own s Leave Departed = refl
leaf_own s (LeaveWith answer) Departed = refl
leaf_own s (Look slot field) r = sym (looked_for s s.call slot field r)
leaf_own s (Link p side leaf new) (Linked n) = refl
leaf_own s (Flag p side leaf) (Flagged n) = refl
leaf_own s (Splice a side x p keep) (Cut ns) = refl
leaf_own s (Swap p side leaf new) (Cut ns) = refl
leaf_own s e r = refl

leaf_refused : (so : Option NodeId) (e : Event) (x : Refused) → leaf_by so e (Err x) ≡ so
leaf_refused so Sight x = refl
leaf_refused so (SightFor op key) x = refl
leaf_refused so Leave x = refl
leaf_refused so (LeaveWith answer) x = refl
leaf_refused so (Flag p side leaf) x = refl
leaf_refused so e x = refl

by_log : (w : ℕ) (s : Search) (ts : List Turn) → leaf_after w s.flagged ts ≡ (search_after s (log_of w ts)).flagged
by_log w s [] = refl
by_log w s (t ∷ ts) = go (t.worker == w) t.outcome (λ s'. by_log w s' ts)
  where
    go : (b : Bool) (o : Result Reply Refused) → ((s' : Search)
        → leaf_after w s'.flagged ts ≡ (search_after s' (log_of w ts)).flagged)
        → leaf_after w (cond b (leaf_by s.flagged t.event o) s.flagged) ts
        ≡ (search_after s (cond b (logged_by (record { worker = t.worker; event = t.event; outcome = o })) []
        ++ log_of w ts)).flagged
    go true (Ok r) rest = ap (λ (f : Option NodeId). leaf_after w f ts) (leaf_own s t.event r)
        ∙ rest (searched s t.event r)
    go true (Err x) rest = ap (λ (f : Option NodeId). leaf_after w f ts) (leaf_refused s.flagged t.event x) ∙ rest s
    go false o rest = rest s

-- the leaf that a worker's turns tell is that of its part
pub leaf_is_told : (w : ℕ) (s : Search) (ts : List Turn)
    → leaf_after w s.flagged ts ≡ (search_after s (part_of w ts)).flagged
leaf_is_told w s ts = by_log w s ts ∙ sym (ap (λ (x : Search). x.flagged) (part_tells_search w ts s))

-- so where none is pending by the turns of a run, none is in the run
pub nothing_is_pending : (L : Layout) → 5 ≤ L.nodes → (events : List (ℕ × Event)) → All (λ t. HasKey t.1) events
    → NonePends L (trace_in (ordered L) events) → NothingIsPending L events
nothing_is_pending L enough events keys none = nothing_pends L enough events keys
    (λ w less. sym (leaf_is_told w idle (trace_in (ordered L) events)) ∙ none w less)
