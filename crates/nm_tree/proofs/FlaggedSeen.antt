-- The leaf that a call has flagged, by the turns that its worker has seen.
use Rattle.std.proofs.Common.{◌≡◌, ℕ, List, sym, ap, ◌∙◌}
use Rattle.std.specs.Prelude.{Option, Some, None}
use Rattle.std.proofs.lemmas.Option.{none-some}
use Rattle.nm_edge.specs.declared.node.NodeId.{NodeId}
use Rattle.nm_model.specs.declared.event.Op.TheVariants.{Delete}
use Rattle.nm_model.specs.Searches.{Search, idle}
use Rattle.nm_model.specs.Walks.{Entry, search_after}
use Rattle.nm_order.specs.History.{pin_of}
use Rattle.nm_order.specs.Logs.{part_of}
use Rattle.nm_model.specs.Histories.{call_begun}
use Rattle.nm_theorem.proofs.StandingAnswers.{call_by_log}
use Rattle.nm_steps.specs.Steps.{HasSeen, PassView}
use Rattle.nm_epoch.specs.Resting.{search}
use Rattle.nm_calls.specs.declared.deleting.Unfinished.{Unfinished}
use Rattle.nm_calls.specs.Deletes.{IsRemoving}
use Rattle.nm_progress.specs.Pending.{HasDeletePending, leaf_after}
use Rattle.nm_progress.proofs.PendingTurns.{leaf_is_told}
use Rattle.nm_tree.specs.Workers.{IsAs}

leaf_seen : (p : PassView) → HasSeen p.view → leaf_after p.view.number None p.view.past ≡ (search p).flagged
leaf_seen p seen = leaf_is_told p.view.number idle p.view.past
    ∙ ap (λ (l : List Entry). (search_after idle l).flagged) seen.is_part

-- a delete that may go on to remove its leaf
pub pending_seen : (p : PassView) (k : ℕ) (leaf : NodeId) → HasSeen p.view → IsRemoving p k leaf
    → HasDeletePending p.view.past p.view.number k leaf
pending_seen p k leaf seen r = record {
  pin = pin_of p.view.layout seen.events p.view.number;
  call = ap (call_begun p.view.number) seen.are
      ∙ call_by_log p.view.layout r.run.fits p.view.number seen.worker seen.events seen.keys
      (Some (record { op = Delete; key = k }))
      (ap (λ (l : List Entry). (search_after idle l).call) (ap (part_of p.view.number) (sym seen.are) ∙ seen.is_part)
      ∙ r.call);
  flagged = leaf_seen p seen ∙ r.flagged;
}

-- and with none pending
none_flagged : (p : PassView) (u : Option Unfinished) (e : Option ℕ) → IsAs p u e → u ≡ None → (search p).flagged ≡ None
none_flagged p None None is none' = ap (λ (s : Search). s.flagged) is.idle
none_flagged p None (Some e) is none' = ap (λ (s : Search). s.flagged) is.search
none_flagged p (Some n) e is none' = absurd (none-some n (sym none'))

pub none_seen : (p : PassView) (u : Option Unfinished) (e : Option ℕ) → HasSeen p.view → IsAs p u e → u ≡ None
    → leaf_after p.view.number None p.view.past ≡ None
none_seen p u e seen is none' = leaf_seen p seen ∙ none_flagged p u e is none'
