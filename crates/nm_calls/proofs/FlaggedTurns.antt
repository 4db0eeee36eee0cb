-- The flag of a delete that is not answered yet, by the turns: the leaf was in the tree right before it.
use Rattle.std.proofs.Common.{◌≡◌, ℕ, Bool, true, cond, List, [], ◌∷◌, ◌++◌, refl, sym, ap, subst, ◌∙◌, eq-eqb}
use Rattle.std.specs.Prelude.{All, IsSome, Option, Result, Some}
use Rattle.std.specs.List.{list_any}
use Rattle.nm_edge.specs.Layouts.{Layout, IsLayout}
use Rattle.nm_model.specs.declared.event.Event.{Event}
use Rattle.nm_model.specs.declared.event.Event.TheVariants.{Flag}
use Rattle.nm_model.specs.declared.event.Op.TheVariants.{Delete}
use Rattle.nm_model.specs.declared.reply.Refused.{Refused}
use Rattle.nm_model.specs.declared.reply.Reply.{Reply}
use Rattle.nm_model.specs.declared.reply.Reply.TheVariants.{Flagged}
use Rattle.nm_model.specs.declared.trace.Turn.{Turn}
use Rattle.nm_model.specs.Headline.{HasLeft, IsPinned, words_after}
use Rattle.nm_model.specs.Histories.{call_begun}
use Rattle.nm_model.specs.Memory.{Memory, is_leaf, named, node}
use Rattle.nm_model.specs.Ordered.{Configuration, HasKey, ordered, after_in, next_in, trace_in}
use Rattle.nm_model.specs.Paths.{Reached}
use Rattle.nm_model.specs.Walks.{begins_anew, log_of}
use Rattle.nm_order.specs.Exchanges.{HasFlagged}
use Rattle.nm_order.specs.History.{pin_of}
use Rattle.nm_order.specs.Moments.{PinStands}
use Rattle.nm_order.specs.StalePaths.{HasPin}
use Rattle.nm_order.proofs.PinNumbers.{call_pinned, pin_stays}
use Rattle.nm_order.proofs.RunExchanges.{first_keys, is_own_call}
use Rattle.nm_order.proofs.WalksOfRuns.{trace_in-append}
use Rattle.nm_theorem.proofs.GraceOfRuns.{pin_is}
use Rattle.nm_theorem.proofs.HistoriesOfRuns.{is_called}
use Rattle.nm_theorem.proofs.LooksBehind.{pinned_by_turns}
use Rattle.nm_theorem.proofs.WrittenWords.{run_words}
use Rattle.nm_steps.specs.Rules.{answered_turn}
use Rattle.nm_walks.proofs.Looks.{enough}
use Rattle.nm_calls.proofs.NamedLeaves.{pin_not_left}

module _ (L : Layout) (fits : IsLayout L) (events : List (ℕ × Event)) (keys : All (λ t. HasKey t.1) events) (w k : ℕ)
    (f : HasFlagged L events w k) where
  abbrev event : Event
  event = Flag f.parent f.side f.leaf

  abbrev c : Configuration
  c = after_in (ordered L) f.before

  abbrev pub so_far : List Turn
  so_far = trace_in (ordered L) f.before

  abbrev pub flag : Turn
  flag = answered_turn w (Flag f.parent f.side f.leaf) (Flagged f.flagged)

  abbrev pub rest : List Turn
  rest = trace_in (next_in c (w, event)) f.since

  pub then_is : trace_in c ((w, event) ∷ f.since) ≡ flag ∷ rest
  unfolding trace_in
  then_is = ap (λ (o : Result Reply Refused). record { worker = w; event = event; outcome = o } ∷ rest) f.won

  pub are : trace_in (ordered L) events ≡ so_far ++ flag ∷ rest
  are = ap (trace_in (ordered L)) f.is_run ∙ (trace_in-append (ordered L) f.before ((w, event) ∷ f.since)
      ∙ ap (λ (ts : List Turn). so_far ++ ts) then_is)

  pub first : All (λ t. HasKey t.1) f.before
  first = first_keys f.before ((w, event) ∷ f.since)
      (subst (λ (ts : List (ℕ × Event)). All (λ t. HasKey t.1) ts) f.is_run keys)

  -- ---- the pin of the call

  pub stands : PinStands w (flag ∷ rest)
  stands = ap (λ (b : Bool). list_any begins_anew (cond b ((event, Flagged f.flagged) ∷ []) [] ++ log_of w rest))
      (eq-eqb w w refl) ∙ f.stands

  pub same_pin : pin_of L events w ≡ pin_of L f.before w
  same_pin = ap (λ (ts : List (ℕ × Event)). pin_of L ts w) f.is_run
      ∙ pin_stays L f.before ((w, event) ∷ f.since) w (subst (PinStands w) (sym then_is) stands)

  pub called_then : call_begun w so_far ≡ Some (record { pin = pin_of L f.before w; op = Delete; key = k })
  called_then = is_called L (enough L fits) w f.before first Delete k f.called

  has_pin : HasPin c w
  has_pin = call_pinned L (enough L fits) f.before first w (record { op = Delete; key = k })
      (is_own_call c w Delete k f.called)

  pub pinned_then : IsPinned w so_far
  pinned_then = pinned_by_turns w so_far (subst (λ (p : Option ℕ). IsSome p)
      (sym has_pin.1 ∙ pin_is L fits true f.before w) refl)

  pub not_left : HasLeft w (flag ∷ rest) → ⊥
  not_left = pin_not_left w (flag ∷ rest) stands

  -- ---- the leaf

  words : words_after L so_far ≡ c.state.memory
  words = run_words L fits true f.before

  pub reached_then : Reached (words_after L so_far) f.leaf
  reached_then = subst (λ (m : Memory). Reached m f.leaf) (sym words) f.marks.reached

  pub leaf_then : is_leaf (node (words_after L so_far) f.leaf) ≡ true
  leaf_then = ap (λ (m : Memory). is_leaf (node m f.leaf)) words ∙ f.marks.childless

  pub key_then : (node (words_after L so_far) f.leaf).key ≡ k
  key_then = ap (λ (m : Memory). (node m f.leaf).key) words ∙ f.marks.has_key

  pub named_then : f.flagged ≡ named (words_after L so_far) f.leaf
  named_then = f.marks.names ∙ ap (λ (m : Memory). named m f.leaf) (sym words)
