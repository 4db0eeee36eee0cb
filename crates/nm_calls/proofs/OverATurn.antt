-- A key that a map has before a turn and after it has the same value at both moments.
use Rattle.std.proofs.Common.{◌≡◌, inl, inr, ℕ, zero, suc, true, List, [], ◌∷◌, ◌++◌, append_assoc, length, refl, sym, ap, subst, ◌∙◌, arith}
use Rattle.std.specs.Prelude.{All, Contains, Ok}
use Rattle.std.proofs.lemmas.List.{length-append}
use Rattle.nm_edge.specs.Layouts.{Layout, IsLayout}
use Rattle.nm_edge.specs.declared.edge.Side.{Side}
use Rattle.nm_edge.specs.declared.node.NodeId.{NodeId}
use Rattle.nm_model.specs.declared.event.Event.{Event}
use Rattle.nm_model.specs.declared.event.Event.TheVariants.{Splice}
use Rattle.nm_model.specs.declared.reply.Reply.TheVariants.{Cut}
use Rattle.nm_model.specs.declared.trace.Turn.{Turn}
use Rattle.nm_model.specs.Acts.{InSet}
use Rattle.nm_model.specs.Headline.{IsWonSwap, nodes_cut_of, slots_of, words_after}
use Rattle.nm_model.specs.Memory.{Memory, is_leaf, named, node, opening}
use Rattle.nm_model.specs.Ordered.{Configuration, HasKey, ordered, after_in, next_in, outcome_in, trace_in}
use Rattle.nm_model.specs.Paths.{Reached}
use Rattle.nm_order.specs.Removals.{is_splice}
use Rattle.nm_order.proofs.AnswersSince.{later_keys}
use Rattle.nm_order.proofs.CutTurns.{CutOrNot, cut_or_not}
use Rattle.nm_order.proofs.CutTurns.CutOrNot.{IsCutNow, StaysReached}
use Rattle.nm_order.proofs.FlagFates.{one_more}
use Rattle.nm_order.proofs.OrderedLaws.{IsOrdered, each_ordered}
use Rattle.nm_order.proofs.RunExchanges.{first_keys}
use Rattle.nm_order.proofs.SetChanges.{cut_takes}
use Rattle.nm_order.proofs.WalksOfRuns.{trace_in-append}
use Rattle.nm_theorem.proofs.HeadlineOfRuns.{each_run_has_it}
use Rattle.nm_theorem.proofs.Runs.{Head, Parts, head_of, parts_of}
use Rattle.nm_theorem.proofs.WrittenWords.{run_words}
use Rattle.nm_steps.specs.declared.view.Stored.{Stored}
use Rattle.nm_walks.proofs.Looks.{enough}
use Rattle.nm_calls.specs.KeptValues.{NoneCuts, StaysInMap}
use Rattle.nm_calls.specs.Maps.{HoldsStores, IsInMap, value_at}
use Rattle.nm_calls.proofs.KeptValues.{leaves_keep_their_values, one_slot}
use Rattle.nm_calls.proofs.ReachedNodes.{words_push}

-- a turn alone
none_in_one : (t : Turn) (s : ℕ) → (Contains (slots_of (nodes_cut_of t.outcome)) s → ⊥) → NoneCuts (t ∷ []) s
none_in_one t s uncut [] since u is c = uncut (subst (λ (x : Turn). Contains (slots_of (nodes_cut_of x.outcome)) s)
    (sym (head is)) c)
  where
    head : {x y : Turn} {xs ys : List Turn} → x ∷ xs ≡ y ∷ ys → x ≡ y
    head e = cc
none_in_one t s uncut (b ∷ before) since u is c = let long = ap (λ (l : List Turn). length l) is in
    let size = length-append before (u ∷ since) in omega (arith, long, size)

module _ (L : Layout) (fits : IsLayout L) (events : List (ℕ × Event)) (keys : All (λ t. HasKey t.1) events)
    (from : List Turn) (stores : List Stored) (held : HoldsStores L from (trace_in (ordered L) events) stores)
    (so_far rest : List Turn) (t : Turn) (are : trace_in (ordered L) events ≡ so_far ++ t ∷ rest)
    (k : ℕ) (there : InSet (words_after L so_far) k) (still : InSet (words_after L (so_far ++ t ∷ [])) k)
    (other : (ns : List NodeId) (s : IsWonSwap (words_after L so_far) t.event ns) → t.outcome ≡ Ok (Cut ns)
    → there.slot ≡ s.old → ⊥) where
  p : Parts (ordered L) events so_far (t ∷ rest)
  p = parts_of (ordered L) events so_far (t ∷ rest) are

  abbrev c : Configuration
  c = after_in (ordered L) p.early

  e : Head (after_in (ordered L) p.early) p.late t rest
  e = head_of (after_in (ordered L) p.early) p.late t rest (sym p.rest_is)

  all_keys : All (λ t. HasKey t.1) (p.early ++ e.event ∷ e.others)
  all_keys = subst (λ (ts : List (ℕ × Event)). All (λ t. HasKey t.1) ts)
      (p.all ∙ ap (λ (ts : List (ℕ × Event)). p.early ++ ts) e.all) keys

  has : HasKey e.event.1
  has = later_keys p.early (e.event ∷ e.others) all_keys 0 e.event (omega arith)

  o : IsOrdered L (after_in (ordered L) p.early)
  o = each_ordered L (enough L fits) p.early (first_keys p.early (e.event ∷ e.others) all_keys)

  words : words_after L so_far ≡ c.state.memory
  words = ap (words_after L) p.first_is ∙ run_words L fits true p.early

  words_then : words_after L (so_far ++ t ∷ []) ≡ (next_in c e.event).state.memory
  unfolding trace_in
  words_then =
      ap (words_after L) ((λ i. p.first_is i ++ e.turn_is i ∷ [])
      ∙ sym (trace_in-append (ordered L) p.early (e.event ∷ [])))
      ∙ (run_words L fits true (p.early ++ e.event ∷ [])
      ∙ ap (λ (d : Configuration). d.state.memory) (one_more L (enough L fits) p.early e.event))

  set_of : (m n : Memory) → m ≡ n → InSet m k → InSet n k
  set_of m n is s = subst (λ (x : Memory). InSet x k) is s

  kept : NoneCuts (t ∷ []) there.slot
  kept = none_in_one t there.slot (λ cut. by (cut_or_not L (enough L fits) c e.event has o there.slot
      (subst (λ (m : Memory). Reached m there.slot) words there.reached)) cut)
    where
      by : CutOrNot L (enough L fits) c e.event there.slot → Contains (slots_of (nodes_cut_of t.outcome)) there.slot → ⊥
      by (StaysReached now) cut =
          let cuts = (each_run_has_it L fits true events keys).cuts so_far rest t are in
          ((cuts.just there.slot).1 cut).gone (subst (λ (m : Memory). Reached m there.slot)
          (sym words_then ∙ words_push (opening L) so_far t) now)
      by (IsCutNow ns is among gone) cut =
          let won = (λ i. (e.turn_is i).outcome) ∙ is in
          elim (((each_run_has_it L fits true events keys).cuts so_far rest t are).splices ns won) [
            | inl w ↦ by_splice ns is among ((λ i. (sym e.turn_is i).event) ∙ w.is_splice)
            | inr s ↦ other ns s won (named_alone s.old there.slot ns s.nodes
                (subst (λ (m : Memory). Contains ns (named m there.slot)) (sym words) among))
          ]
        where
          by_splice : (ns : List NodeId) → outcome_in c e.event ≡ Ok (Cut ns)
              → Contains ns (named c.state.memory there.slot) → {a s p : ℕ} {side keep : Side}
              → e.event.1 ≡ Splice a side s p keep → ⊥
          by_splice ns is among event =
              let after = (cut_takes L (enough L fits) c e.event has o ns is (ap is_splice event)).now k in
              (after.0 (set_of (words_after L (so_far ++ t ∷ [])) (next_in c e.event).state.memory words_then
              still)).1 (record {
                leaf = named c.state.memory there.slot;
                among = among;
                childless = ap (λ (m : Memory). is_leaf (node m there.slot)) (sym words) ∙ there.leaf;
                has_key = ap (λ (m : Memory). (node m there.slot).key) (sym words) ∙ there.has_key;
              })

          named_alone : (x y : ℕ) (ns : List NodeId) → ns ≡ named (words_after L so_far) x ∷ []
              → Contains ns (named (words_after L so_far) y) → y ≡ x
          named_alone x y ns are' c' =
              alone (subst (λ (ms : List NodeId). Contains ms (named (words_after L so_far) y)) are' c')
            where
              alone : Contains (named (words_after L so_far) x ∷ []) (named (words_after L so_far) y) → y ≡ x
              alone (zero, below, at) = sym (ap (λ (n : NodeId). n.slot) at)
              alone (suc i, below, at) = absurd (omega (arith, below))

  -- the value is that of the leaf after the turn
  pub same_over_turn : IsInMap L so_far stores k (value_at (length (so_far ++ t ∷ [])) stores still.slot)
  same_over_turn =
      let was : IsInMap L so_far stores k (value_at (length so_far) stores there.slot)
      = record {
        slot = there.slot;
        reached = there.reached;
        leaf = there.leaf;
        has_key = there.has_key;
        has_value =
            refl;
      } in
      let stays : StaysInMap L so_far (t ∷ []) stores k (value_at (length so_far) stores there.slot) was
      = leaves_keep_their_values L fits events keys so_far (t ∷ []) rest are stores from held k
      (value_at (length so_far) stores there.slot) was kept in
      let same = one_slot L fits events keys (so_far ++ t ∷ []) rest (are ∙ sym (append_assoc so_far (t ∷ []) rest))
      stays.now.slot still.slot stays.now.reached still.reached stays.now.leaf still.leaf
      (stays.now.has_key ∙ sym still.has_key) in
      subst (λ (v : ℕ). IsInMap L so_far stores k v)
      (sym stays.now.has_value ∙ ap (value_at (length (so_far ++ t ∷ [])) stores) same) was
