-- The value that a delete has taken is that of its leaf until a turn cuts the leaf off.
use Rattle.std.proofs.Common.{◌≡◌, inl, inr, ℕ, ◌<◌, ◌≤◌, true, List, [], ◌∷◌, ◌++◌, append_assoc, length, refl, sym, ap, subst, ◌∙◌, arith}
use Rattle.std.specs.Prelude.{All, Contains}
use Rattle.std.proofs.lemmas.Bool.{cases_lt}
use Rattle.std.proofs.lemmas.List.{length-append}
use Rattle.std.proofs.lemmas.List.Elements.{Contains-append_left}
use Rattle.nm_edge.specs.Keys.{IsKey}
use Rattle.nm_edge.specs.Layouts.{Layout, IsLayout}
use Rattle.nm_edge.specs.declared.node.NodeId.{NodeId}
use Rattle.nm_model.specs.declared.event.Event.{Event}
use Rattle.nm_model.specs.declared.event.Event.TheVariants.{Flag}
use Rattle.nm_model.specs.declared.event.Op.TheVariants.{Delete}
use Rattle.nm_model.specs.declared.reply.Reply.TheVariants.{Flagged}
use Rattle.nm_model.specs.declared.trace.Turn.{Turn}
use Rattle.nm_model.specs.Headline.{Headline, cuts_of, nodes_cut_of, words_after}
use Rattle.nm_model.specs.Histories.{call_begun}
use Rattle.nm_model.specs.Memory.{Memory, named, node}
use Rattle.nm_model.specs.Ordered.{HasKey, ordered, after_in, trace_in}
use Rattle.nm_model.specs.Paths.{Reached}
use Rattle.nm_order.proofs.RealTime.{begins_with}
use Rattle.nm_theorem.proofs.FreedOfRuns.{cuts-append}
use Rattle.nm_theorem.proofs.HeadlineOfRuns.{each_run_has_it}
use Rattle.nm_theorem.proofs.HistoriesOfRuns.{called_is}
use Rattle.nm_theorem.proofs.WrittenWords.{run_words}
use Rattle.nm_steps.specs.declared.view.Stored.{Stored}
use Rattle.nm_steps.specs.Rules.{Extends}
use Rattle.nm_walks.proofs.Looks.{enough}
use Rattle.nm_calls.specs.KeptValues.{NoneCuts, StaysInMap, TakenValuesAreCut}
use Rattle.nm_calls.specs.Maps.{HoldsStores, IsInMap, WasTaken}
use Rattle.nm_calls.proofs.KeptValues.{leaves_keep_their_values}
use Rattle.nm_calls.proofs.MapMoments.{holds_longer}
use Rattle.nm_calls.proofs.ReachedNodes.{cut_is_named, now_cut}
use Rattle.nm_calls.proofs.StandingFlags.{TurnAt, called_key, cut_once, reached_until_cut, turn_at, user_slot}

module _ (L : Layout) (fits : IsLayout L) (events : List (ℕ × Event)) (keys : All (λ t. HasKey t.1) events)
    (was now : List Turn) (stores : List Stored) (w k v : ℕ) (took : WasTaken L was now stores w k v)
    (on : Extends (trace_in (ordered L) events) now) where
  abbrev turns : List Turn
  turns = trace_in (ordered L) events

  h : Headline L turns
  h = each_run_has_it L fits true events keys

  abbrev later : List Turn
  later = took.rest ++ on.more

  pub are : turns ≡ took.so_far ++ took.flag ∷ later
  are = on.is ∙ (ap (λ (ts : List Turn). ts ++ on.more) took.are
      ∙ append_assoc took.so_far (took.flag ∷ took.rest) on.more)

  abbrev x : ℕ
  x = took.is.slot

  abbrev n : NodeId
  n = named (words_after L took.so_far) x

  -- the flag among the events
  pub at : TurnAt L events took.so_far w (Flag took.won.parent took.won.side x) (Flagged n)
  at = turn_at L events keys took.so_far later w (Flag took.won.parent took.won.side x) (Flagged n)
      (are ∙ ap (λ (t : Turn). took.so_far ++ t ∷ later) took.won.is)

  pub taken_key : IsKey k
  taken_key = called_key L (enough L fits) at.early at.keyed w Delete k
      (called_is L (enough L fits) w at.early at.keyed (record { pin = took.pin; op = Delete; key = k })
      (ap (call_begun w) (sym at.first_is) ∙ took.call)).1

  words : words_after L took.so_far ≡ (after_in (ordered L) at.early).state.memory
  words = ap (words_after L) at.first_is ∙ run_words L fits true at.early

  range : (6 ≤ x) × (x ≤ L.nodes)
  range = user_slot L (enough L fits) at.early at.keyed x k
      (subst (λ (m : Memory). Reached m x) words took.is.reached)
      (ap (λ (m : Memory). (node m x).key) (sym words) ∙ took.is.has_key) taken_key

  module _ (before since : List Turn) (cut : Turn) (is : turns ≡ before ++ cut ∷ since)
      (in_cut : Contains (nodes_cut_of cut.outcome) n) where
    -- the cut is later than the flag
    not_sooner : length before < length took.so_far → ⊥
    not_sooner less =
        let size = length-append before (cut ∷ []) in
        let part = begins_with (before ++ cut ∷ []) since took.so_far (took.flag ∷ later)
        (append_assoc before (cut ∷ []) since ∙ (sym is ∙ are)) (omega (arith, size, less)) in
        let among : Contains (cuts_of cut.worker took.so_far) n =
        subst (λ (ts : List Turn). Contains (cuts_of cut.worker ts) n) (sym part.1)
        (subst (λ (ns : List NodeId). Contains ns n) (sym (cuts-append cut.worker (before ++ cut ∷ []) part.0))
        (Contains-append_left (cuts_of cut.worker (before ++ cut ∷ [])) (cuts_of cut.worker part.0) n
        (now_cut before cut n in_cut))) in
        let younger = h.younger took.so_far (took.flag ∷ later) are cut.worker n among took.is.reached in
        omega (arith, younger)

    pub until_cut : (mid : List Turn) × (before ≡ took.so_far ++ mid)
    until_cut = elim (cases_lt (length before) (length took.so_far)) [
      | inl less ↦ absurd (not_sooner less)
      | inr le ↦ begins_with took.so_far (took.flag ∷ later) before (cut ∷ since) (sym are ∙ is) le
    ]

    pub are_then : turns ≡ took.so_far ++ (until_cut.0 ++ cut ∷ since)
    are_then = is ∙ (ap (λ (ts : List Turn). ts ++ cut ∷ since) until_cut.1
        ∙ append_assoc took.so_far until_cut.0 (cut ∷ since))

    pub uncut_till_then : NoneCuts until_cut.0 x
    uncut_till_then some rest t part c =
        let first : List Turn = took.so_far ++ some in
        let all : turns ≡ first ++ ((t ∷ rest) ++ cut ∷ since) =
        are_then
        ∙ (ap (λ (ts : List Turn). took.so_far ++ (ts ++ cut ∷ since)) part
        ∙ (ap (λ (ts : List Turn). took.so_far ++ ts) (append_assoc some (t ∷ rest) (cut ∷ since))
        ∙ sym (append_assoc took.so_far some ((t ∷ rest) ++ cut ∷ since)))) in
        let same = (reached_until_cut L turns h x range.0 range.1 took.so_far some (t ∷ rest) since cut all
        took.is.reached in_cut).1 in
        let in_turn : Contains (nodes_cut_of t.outcome) n = subst (Contains (nodes_cut_of t.outcome)) same
        (cut_is_named (words_after L first) t (h.cuts first (rest ++ cut ∷ since) t all) x c) in
        let whole : before ≡ (first ++ t ∷ []) ++ rest =
        until_cut.1
        ∙ (ap (λ (ts : List Turn). took.so_far ++ ts) part
        ∙ (sym (append_assoc took.so_far some (t ∷ rest)) ∙ sym (append_assoc first (t ∷ []) rest))) in
        cut_once L turns h before since cut n is in_cut t.worker
        (subst (λ (ts : List Turn). Contains (cuts_of t.worker ts) n) (sym whole)
        (subst (λ (ns : List NodeId). Contains ns n) (sym (cuts-append t.worker (first ++ t ∷ []) rest))
        (Contains-append_left (cuts_of t.worker (first ++ t ∷ [])) (cuts_of t.worker rest) n
        (now_cut first t n in_turn))))

    -- what the map had then by any stores, it has in the same leaf right before the cut
    pub kept_until_cut : (from : List Turn) (all : List Stored) → HoldsStores L from turns all
        → (i : IsInMap L took.so_far all k v) → i.slot ≡ x → (now : IsInMap L before all k v) × (now.slot ≡ x)
    kept_until_cut from all held i same =
        let stays : StaysInMap L took.so_far until_cut.0 all k v i = leaves_keep_their_values L fits events keys
        took.so_far until_cut.0 (cut ∷ since) are_then all from held k v i
        (subst (NoneCuts until_cut.0) (sym same) uncut_till_then) in
        subst (λ (ts : List Turn). (now : IsInMap L ts all k v) × (now.slot ≡ x)) (sym until_cut.1)
        (stays.now, stays.same ∙ same)

pub taken_values_are_cut : TakenValuesAreCut
taken_values_are_cut L fits events keys was now stores w k v took on before since cut is in_cut =
    (kept_until_cut L fits events keys was now stores w k v took on before since cut is in_cut took.so_far took.first
    (holds_longer L took.so_far now (trace_in (ordered L) events) took.first on took.stored) took.is refl).0
