-- A node that is reached stays so, with its key, until a turn cuts it off. Nobody has it in hands.
use Rattle.std.proofs.Common.{◌≡◌, ℕ, suc, ◌+◌, ◌≤◌, true, false, List, [], ◌∷◌, ◌++◌, append_assoc, length, refl, sym, ap, subst, ◌∙◌, arith}
use Rattle.std.specs.Prelude.{All, Contains}
use Rattle.std.proofs.lemmas.Bool.{false_from_ne_true}
use Rattle.std.proofs.lemmas.List.{append_cancel_left, length-append}
use Rattle.nm_edge.specs.Layouts.{Layout}
use Rattle.nm_edge.specs.declared.node.NodeId.{NodeId}
use Rattle.nm_model.specs.declared.event.Event.{Event}
use Rattle.nm_model.specs.declared.trace.Turn.{Turn}
use Rattle.nm_model.specs.Headline.{nodes_cut_of, slots_of}
use Rattle.nm_model.specs.Knowledge.{is_private}
use Rattle.nm_model.specs.Memory.{named}
use Rattle.nm_model.specs.Ordered.{Configuration, HasKey, ordered, after_in, next_in, outcome_in, trace_in}
use Rattle.nm_model.specs.Paths.{Reached}
use Rattle.nm_model.specs.Runs.{of}
use Rattle.nm_laws.proofs.Configurations.{after_in-append}
use Rattle.nm_laws.proofs.Pictures.{Picture, nowhere_else}
use Rattle.nm_laws.proofs.Pictures.SeekRecord.{PrivateTo}
use Rattle.nm_laws.proofs.TreeSteps.{Lawful}
use Rattle.nm_laws.proofs.Views.{picture}
use Rattle.nm_order.proofs.CutTurns.{CutOrNot, cut_or_not, mapped_among}
use Rattle.nm_order.proofs.CutTurns.CutOrNot.{IsCutNow, StaysReached}
use Rattle.nm_order.proofs.OrderedChanges.{off_root}
use Rattle.nm_order.proofs.OrderedLaws.{IsOrdered, each_ordered, law_of_state, ordered_next}
use Rattle.nm_order.proofs.OrderedMoments.{lasting}
use Rattle.nm_order.proofs.AnswersSince.{later_keys}
use Rattle.nm_order.proofs.RealTime.{begins_with}
use Rattle.nm_order.proofs.RunExchanges.{first_keys}
use Rattle.nm_order.proofs.SetChanges.{turn_lasts}
use Rattle.nm_order.proofs.WalksOfRuns.{trace_in-append}
use Rattle.nm_steps.proofs.LinkedValues.{NobodyHoldsUntil, OneHolds}
use Rattle.nm_calls.specs.KeptValues.{NoneCuts}

-- ---- turns that cut nothing there

pub none_cuts_first : (xs ys : List Turn) (s : ℕ) → NoneCuts (xs ++ ys) s → NoneCuts xs s
none_cuts_first xs ys s uncut before since t is = uncut before (since ++ ys) t
    (ap (λ (ts : List Turn). ts ++ ys) is ∙ append_assoc before (t ∷ since) ys)

none_cuts_later : (x : Turn) (xs : List Turn) (s : ℕ) → NoneCuts (x ∷ xs) s → NoneCuts xs s
none_cuts_later x xs s uncut before since t is = uncut (x ∷ before) since t (ap (λ (ts : List Turn). x ∷ ts) is)

module _ (L : Layout) (enough : 5 ≤ L.nodes) where
  -- what is reached stays so
  pub stays_reached : (ts : List (ℕ × Event)) (c : Configuration) → All (λ t. HasKey t.1) ts → IsOrdered L c
      → (s : ℕ) → Reached c.state.memory s → NoneCuts (trace_in c ts) s
      → Reached (after_in c ts).state.memory s × (lasting (after_in c ts).state.memory s ≡ lasting c.state.memory s)
  unfolding after_in trace_in
  stays_reached [] c keys o s r uncut = (r, refl)
  stays_reached (t ∷ ts) c keys o s r uncut =
      by (λ now. stays_reached ts (next_in c t) (λ k d below. keys (suc k) d (omega (arith, below)))
      (ordered_next L enough c t has o) s now (none_cuts_later turn (trace_in (next_in c t) ts) s uncut))
      (cut_or_not L enough c t has o s r)
    where
      turn : Turn
      turn = record { worker = t.0; event = t.1; outcome = outcome_in c t }

      has : HasKey t.1
      has = keys 0 t (omega arith)

      by : (Reached (next_in c t).state.memory s → Reached (after_in (next_in c t) ts).state.memory s
          × (lasting (after_in (next_in c t) ts).state.memory s ≡ lasting (next_in c t).state.memory s))
          → CutOrNot L enough c t s
          → Reached (after_in (next_in c t) ts).state.memory s
          × (lasting (after_in (next_in c t) ts).state.memory s ≡ lasting c.state.memory s)
      by rest (StaysReached now) = let r' = rest now in (r'.0, r'.1 ∙ turn_lasts L enough c t has o s r)
      by rest (IsCutNow ns is among gone) =
          absurd (uncut [] (trace_in (next_in c t) ts) turn refl
          (subst (λ (ms : List NodeId). Contains (slots_of ms) s) (sym (ap nodes_cut_of is))
          (mapped_among (λ (n : NodeId). n.slot) ns (named c.state.memory s) among)))

  -- nobody has it in hands
  pub reached_unheld : (c : Configuration) → IsOrdered L c → (s : ℕ) → Reached c.state.memory s → (w : ℕ)
      → is_private (of c.state w) s ≡ false
  reached_unheld c o s r w = false_from_ne_true (is_private (of c.state w) s)
      (λ own. off_root c.state (law_of_state L enough c o).0 (law_of_state L enough c o).1 w s own r.path r.ends)

  -- no two workers have one slot in hands
  pub one_holds_at : (c : Configuration) → IsOrdered L c → (s w u : ℕ) → is_private (of c.state w) s ≡ true
      → is_private (of c.state u) s ≡ true → w ≡ u
  one_holds_at c o s w u mine yours = same (nowhere_else P s (PrivateTo w) (PrivateTo u)
      (law.tree.places s (let low = range.0 in λ none'. omega (arith, low, none')) range.1) mine yours)
    where
      law : Lawful c.state (law_of_state L enough c o).0
      law = (law_of_state L enough c o).1

      P : Picture
      P = picture c.state (law_of_state L enough c o).0

      range : (6 ≤ s) × (s ≤ c.state.layout.nodes)
      range = law.tree.privates w s mine

      same : PrivateTo w ≡ PrivateTo u → w ≡ u
      same e = cc

  pub one_holds : (turns : List (ℕ × Event)) → All (λ t. HasKey t.1) turns → (s : ℕ) → OneHolds L turns s
  one_holds turns keys s before since is w u = one_holds_at (after_in (ordered L) before)
      (each_ordered L enough before (first_of before since is)) s w u
    where
      first_of : (xs ys : List (ℕ × Event)) → turns ≡ xs ++ ys → All (λ t. HasKey t.1) xs
      first_of xs ys e = first_keys xs ys (subst (λ (ts : List (ℕ × Event)). All (λ t. HasKey t.1) ts) e keys)

  -- from a moment at which it is reached, until one before which no turn cuts it
  pub unheld_until : (before mid since : List (ℕ × Event)) → All (λ t. HasKey t.1) (before ++ (mid ++ since))
      → (s : ℕ) → Reached (after_in (ordered L) before).state.memory s
      → NoneCuts (trace_in (after_in (ordered L) before) mid) s
      → NobodyHoldsUntil L (before ++ (mid ++ since)) (length before) (length (before ++ mid) + 1) s
  unheld_until before mid since keys s r uncut now later is least most w =
      let long = length-append before mid in
      let part = begins_with before (mid ++ since) now later is least in
      let rest : mid ++ since ≡ part.0 ++ later = append_cancel_left before (mid ++ since) (part.0 ++ later)
      (is ∙ (ap (λ (ts : List (ℕ × Event)). ts ++ later) part.1 ∙ append_assoc before part.0 later)) in
      let long' = ap (λ (ts : List (ℕ × Event)). length ts) part.1 ∙ length-append before part.0 in
      let end = begins_with part.0 later mid since (sym rest) (omega (arith, long, long', most)) in
      let c : Configuration = after_in (ordered L) before in
      let first : All (λ t. HasKey t.1) (before ++ part.0) = first_keys (before ++ part.0) later
      (subst (λ (ts : List (ℕ × Event)). All (λ t. HasKey t.1) ts)
      (is ∙ ap (λ (ts : List (ℕ × Event)). ts ++ later) part.1) keys) in
      let here : IsOrdered L c = each_ordered L enough before (first_keys before part.0 first) in
      let stays = stays_reached part.0 c (later_keys before part.0 first) here s r
      (none_cuts_first (trace_in c part.0) (trace_in (after_in c part.0) end.0) s
      (subst (λ (ts : List Turn). NoneCuts ts s) (ap (trace_in c) end.1 ∙ trace_in-append c part.0 end.0) uncut)) in
      let there : IsOrdered L (after_in c part.0) = subst (IsOrdered L) (after_in-append (ordered L) before part.0)
      (each_ordered L enough (before ++ part.0) first) in
      ap (λ (d : Configuration). is_private (of d.state w) s)
      (ap (after_in (ordered L)) part.1 ∙ after_in-append (ordered L) before part.0)
      ∙ reached_unheld (after_in c part.0) there s stays.0 w
