-- Where the log of no worker tells of a leaf that its call has flagged, no delete is pending.
use Rattle.std.proofs.Common.{◌≡◌, ℕ, ◌<◌, ◌≤◌, List, [], ◌∷◌, refl, sym, ap, subst, ◌∙◌}
use Rattle.std.specs.Prelude.{Option, Some, None, Result, Ok, Err, All, unwrap_or}
use Rattle.std.proofs.lemmas.Option.{none-some}
use Rattle.nm_edge.specs.Layouts.{Layout}
use Rattle.nm_model.specs.declared.event.Event.{Event}
use Rattle.nm_model.specs.declared.event.Event.TheVariants.{Flag}
use Rattle.nm_model.specs.declared.reply.Reply.{Reply}
use Rattle.nm_model.specs.declared.reply.Refused.{Refused}
use Rattle.nm_model.specs.Runs.{State}
use Rattle.nm_model.specs.Searches.{Search, idle}
use Rattle.nm_model.specs.Walks.{search_after}
use Rattle.nm_model.specs.Ordered.{Configuration, ordered, after_in, trace_in, refused_in, search_of, HasKey}
use Rattle.nm_laws.proofs.Configurations.{refused_outcome, allowed_by_state}
use Rattle.nm_laws.proofs.Steps.{allowed}
use Rattle.nm_laws.proofs.Retired.{layout_after}
use Rattle.nm_order.specs.Exchanges.{HasFlagged}
use Rattle.nm_order.specs.Logs.{part_of}
use Rattle.nm_order.specs.Totals.{NothingIsPending}
use Rattle.nm_order.proofs.LastEntries.{ToldBy, told_by_part}
use Rattle.nm_order.proofs.OrderedLaws.{IsOrdered, each_ordered}
use Rattle.nm_order.proofs.OwnTurns.{own_search}
use Rattle.nm_order.proofs.PendingLeaves.{flag_noted}
use Rattle.nm_order.proofs.RunExchanges.{first_keys}

module _ (L : Layout) (enough : 5 ≤ L.nodes) (turns : List (ℕ × Event)) (keys : All (λ t. HasKey t.1) turns) where
  none_flagged : (w : ℕ) → w < L.workers → (search_after idle (part_of w (trace_in (ordered L) turns))).flagged
      ≡ None → (k : ℕ) → HasFlagged L turns w k → ⊥
  none_flagged w below none k f = none-some f.flagged
      (sym none ∙ (ap (λ (s : Search). s.flagged) (sym own) ∙ flag_noted L enough turns keys w k f))
    where
      told : ToldBy L w (part_of w (trace_in (ordered L) turns)) (after_in (ordered L) turns)
      told = told_by_part L enough w below turns keys

      own : own_search (after_in (ordered L) turns) w ≡ search_after idle (part_of w (trace_in (ordered L) turns))
      own = ap (λ (o : Option (List Search)). search_of (unwrap_or o []) w) told.is_ordered.are ∙ told.search

  -- who has flagged a leaf is a worker of the tree
  pub flagger : (w k : ℕ) → HasFlagged L turns w k → w < L.workers
  flagger w k f = go (refused_in before w event) refl
    where
      event : Event
      event = Flag f.parent f.side f.leaf

      before : Configuration
      before = after_in (ordered L) f.before

      here : IsOrdered L before
      here = each_ordered L enough f.before (first_keys f.before ((w, event) ∷ f.since)
          (subst (All (λ t. HasKey t.1)) f.is_run keys))

      layout : before.state.layout ≡ L
      layout = ap (λ (s : State). s.layout) here.leads ∙ layout_after L here.events

      no : (r : Refused) (q : Reply) → ◌≡◌ {A = Result Reply Refused} (Err r) (Ok q) → ⊥
      no r q h = cc

      go : (o : Option Refused) → refused_in before w event ≡ o → w < L.workers
      go (Some r) why = absurd (no r _ (sym (refused_outcome before (w, event) r why) ∙ f.won))
      go None why = subst (λ (l : Layout). w < l.workers) layout
          (allowed before.state w event (allowed_by_state before w event why)).worker

  pub nothing_pends : ((w : ℕ) → w < L.workers → (search_after idle (part_of w (trace_in (ordered L) turns))).flagged
      ≡ None) → NothingIsPending L turns
  nothing_pends none w k f = none_flagged w (flagger w k f) (none w (flagger w k f)) k f
