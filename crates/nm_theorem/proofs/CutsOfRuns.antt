-- Each turn cuts just the nodes that it says it cut, by the words that the turns have written.
use Rattle.std.proofs.Common.{◌≡◌, ℕ, List, [], ◌∷◌, ◌++◌, refl, sym, ap, subst, ◌∙◌, arith, ◌⊎◌, inl, inr, ◌==◌}
use Rattle.std.specs.Prelude.{◌↔◌, Ok, Contains, All, Option, Some, None}
use Rattle.std.proofs.lemmas.Bool.{and_from, eq-eqb}
use Rattle.nm_edge.specs.declared.edge.Side.{Side}
use Rattle.nm_edge.specs.declared.edge.Side.TheVariants.{Left, Right}
use Rattle.nm_edge.specs.declared.node.NodeId.{NodeId}
use Rattle.nm_model.specs.declared.event.Event.{Event}
use Rattle.nm_model.specs.declared.event.Event.TheVariants.{Splice, Swap}
use Rattle.nm_model.specs.declared.reply.Reply.TheVariants.{Cut}
use Rattle.nm_model.specs.declared.reply.Refused.{Refused}
use Rattle.nm_model.specs.declared.trace.Turn.{Turn}
use Rattle.nm_model.specs.Memory.{Memory, node}
use Rattle.nm_model.specs.Paths.{IsCut}
use Rattle.nm_model.specs.Runs.{outcome, next}
use Rattle.nm_model.specs.Laws.{OnlySplicesAnswerCuts, OfEachCut, NamesBirths}
use Rattle.nm_model.specs.Ordered.{Configuration, HasKey, IsReached, opening_of, refused_in, next_in, outcome_in, after_in}
use Rattle.nm_laws.specs.KeptEdges.{KeepsTheEdge, EachSpliceKeepsTheEdge}
use Rattle.nm_laws.proofs.Configurations.{allowed_outcome, allowed_state, reached_next, reached_state, refused_next, refused_outcome, state_outcome}
use Rattle.nm_laws.proofs.Cuts.{cuts_name_births, WonSwap, won_swap, ShownSwap, shown_swap}
use Rattle.nm_laws.proofs.Lawful.{IsLawful}
use Rattle.nm_laws.proofs.LawfulRuns.{turn_cuts}
use Rattle.nm_laws.proofs.Reachable.{of_reachable}
use Rattle.nm_laws.proofs.SplicedEdges.{each_splice_keeps_the_edge}
use Rattle.nm_laws.proofs.Stays.{SpliceOrSwap, only_splices_answer_cuts}
use Rattle.nm_order.proofs.WalksOfRuns.{all_before, all_behind}
use Rattle.nm_model.specs.Headline.{nodes_cut_of, slots_of, IsWonSplice, IsWonSwap, CutsJust, CutsItsNodes, words_after}
use Rattle.nm_theorem.specs.EachRun.{OfEachRun}
use Rattle.nm_theorem.proofs.Runs.{Parts, parts_of, Head, head_of, told_in, reached_opening, lawful_opening, lawful_after}
use Rattle.nm_theorem.proofs.WrittenWords.{run_words, turn_writes}
use Rattle.nm_theorem.proofs.FreedOfRuns.{state_says}

-- ---- configurations on the way

pub reached_after : (ts : List (ℕ × Event)) (c : Configuration) → IsReached c → All (λ t. HasKey t.1) ts
    → IsReached (after_in c ts)
unfolding after_in
reached_after [] c r keys = r
reached_after (t ∷ ts) c r keys = reached_after ts (next_in c t) (reached_next c t (keys 0 t (omega arith)) r)
    (all_behind (λ (u : ℕ × Event). HasKey u.1) (t ∷ []) ts keys)

-- ---- one turn

module _ (c : Configuration) (r : IsReached c) (t : ℕ × Event) where
  cuts_told : CutsJust c.state.memory (nodes_cut_of (outcome_in c t)) (next_in c t).state.memory
  cuts_told = go (refused_in c t.0 t.1) refl
    where
      go : (o : Option Refused) → refused_in c t.0 t.1 ≡ o
          → CutsJust c.state.memory (nodes_cut_of (outcome_in c t)) (next_in c t).state.memory
      go (Some q) is = λ x. rw (refused_outcome c t q is, refused_next c t q is)
          ((λ cut. absurd (cut.gone cut.was)), (λ there. let below = there.1 in absurd (omega (arith, below))))
      go None is = λ x. rw (sym (allowed_state c t is), allowed_outcome c t is, sym (state_outcome c t is))
          (turn_cuts c.state (reached_state c r) t x)

  won : IsLawful c.state → (ns : List NodeId) → outcome_in c t ≡ Ok (Cut ns) → IsWonSplice c.state.memory t.1 ns
      ⊎ IsWonSwap c.state.memory t.1 ns
  won lawful ns is = on
      (of_reachable OnlySplicesAnswerCuts only_splices_answer_cuts c.state (reached_state c r) t ns told)
    where
      told : outcome c.state t ≡ Ok (Cut ns)
      told = state_says c t (Cut ns) is

      by : (a : ℕ) × (side : Side) × (successor : ℕ) × (parent : ℕ) × (keep : Side)
          × (t.1 ≡ Splice a side successor parent keep) → IsWonSplice c.state.memory t.1 ns
      by (a, side, x, p, keep, e) = record {
        ancestor = a;
        side = side;
        successor = x;
        parent = p;
        keep = keep;
        is_splice = e;
        led = k.led;
        chain = k.chain;
        births = of_reachable (OfEachCut (λ before successor ns after. NamesBirths before ns)) cuts_name_births
            c.state (reached_state c r) t.0 a side x p keep ns told';
      }
        where
          told' : outcome c.state (t.0, Splice a side x p keep) ≡ Ok (Cut ns)
          told' = ap (λ (y : Event). outcome c.state (t.0, y)) (sym e) ∙ told

          k : KeepsTheEdge c.state.memory (next c.state (t.0, Splice a side x p keep)).memory a side x p keep
              (slots_of ns)
          k = of_reachable EachSpliceKeepsTheEdge each_splice_keeps_the_edge c.state (reached_state c r) t.0 a side x
              p keep ns told'

      swapped : (p : ℕ) (side : Side) (leaf new : ℕ) → t.1 ≡ Swap p side leaf new → IsWonSwap c.state.memory t.1 ns
      swapped p side leaf new e = record {
        parent = p;
        side = side;
        old = leaf;
        new = new;
        is_swap = e;
        led = x.swap.unmarked;
        leaf = and_from ((node c.state.memory leaf).left.slot == 0) ((node c.state.memory leaf).right.slot == 0)
            (eq-eqb _ 0 (x.swap.is_leaf Left)) (eq-eqb _ 0 (x.swap.is_leaf Right));
        nodes = sym k.nodes;
      }
        where
          k : WonSwap c.state t.0 p side leaf new ns
          k = won_swap c.state t.0 p side leaf new ns (ap (λ (y : Event). outcome c.state (t.0, y)) (sym e) ∙ told)

          x : ShownSwap c.state lawful.holder t.0 p side leaf new
          x = shown_swap c.state lawful.holder lawful.law t.0 p side leaf new k.ok k.won

      on : SpliceOrSwap t.1 → IsWonSplice c.state.memory t.1 ns ⊎ IsWonSwap c.state.memory t.1 ns
      on (inl e) = inl (by e)
      on (inr e) = inr (swapped e.0 e.1 e.2 e.3 e.4)

  pub cuts_just : IsLawful c.state → CutsItsNodes c.state.memory (told_in c t)
  cuts_just lawful = record {
    just = λ x. subst (λ (m : Memory). IsCut c.state.memory m x
        ↔ Contains (slots_of (nodes_cut_of (outcome_in c t))) x) (sym (turn_writes c t lawful)) (cuts_told x);
    splices = won lawful;
  }

-- ---- runs

pub turns_cut_just_their_nodes : OfEachRun (λ L turns. (before rest : List Turn) (t : Turn)
    → turns ≡ before ++ t ∷ rest → CutsItsNodes (words_after L before) t)
turns_cut_just_their_nodes L fits b events keys before rest t all =
    let p : Parts (opening_of L b) events before (t ∷ rest) = parts_of (opening_of L b) events before (t ∷ rest) all in
    let h : Head (after_in (opening_of L b) p.early) p.late t rest = head_of (after_in (opening_of L b) p.early)
    p.late t rest (sym p.rest_is) in
    let early : All (λ t. HasKey t.1) p.early = all_before (λ (u : ℕ × Event). HasKey u.1) p.early p.late
    (subst (λ (ts : List (ℕ × Event)). All (λ t. HasKey t.1) ts) p.all keys) in
    subst (λ (m : Memory). CutsItsNodes m t) (sym (run_words L fits b p.early) ∙ ap (words_after L) (sym p.first_is))
    (subst (CutsItsNodes (after_in (opening_of L b) p.early).state.memory) (sym h.turn_is)
    (cuts_just (after_in (opening_of L b) p.early) (reached_after p.early (opening_of L b) (reached_opening L fits b)
    early) h.event (lawful_after p.early (opening_of L b) (lawful_opening L fits b))))
