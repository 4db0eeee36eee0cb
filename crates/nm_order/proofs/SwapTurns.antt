-- A turn of an ordered run that wins a swap leaves the set as it is, and what stands unflagged.
use Rattle.std.proofs.Common.{◌≡◌, ◌≢◌, ◌≤◌, ℕ, false, List, refl, sym, ap, subst, ◌∙◌, arith}
use Rattle.std.specs.Prelude.{Option, Some, None, Ok, ◌↔◌}
use Rattle.std.proofs.lemmas.Bool.{cond-true}
use Rattle.nm_edge.specs.Edges.{to, is_to}
use Rattle.nm_edge.specs.Layouts.{Layout}
use Rattle.nm_edge.specs.declared.edge.Side.{Side}
use Rattle.nm_edge.specs.declared.node.NodeId.{NodeId}
use Rattle.nm_model.specs.declared.event.Event.{Event}
use Rattle.nm_model.specs.declared.event.Event.TheVariants.{Swap}
use Rattle.nm_model.specs.declared.reply.Reply.TheVariants.{Cut}
use Rattle.nm_model.specs.declared.reply.Refused.{Refused}
use Rattle.nm_model.specs.Memory.{Memory, edge, child, put_edge}
use Rattle.nm_model.specs.Step.{exchanged, write}
use Rattle.nm_model.specs.Runs.{of, outcome, refused}
use Rattle.nm_model.specs.Ordered.{Configuration, refused_in, applied_in, disorder_in, disorder_among, disorder, next_in, outcome_in, search_of, ordered, after_in}
use Rattle.nm_model.specs.Acts.{InSet}
use Rattle.nm_model.specs.Paths.{Reached, IsCut}
use Rattle.nm_order.specs.Intervals.{key, OfEachOrdered}
use Rattle.nm_order.specs.Removals.{SwapsTakeNoKey}
use Rattle.nm_order.specs.Totals.{StandsUnflagged}
use Rattle.nm_laws.proofs.Steps.{allowed}
use Rattle.nm_laws.proofs.TreeSteps.{Lawful}
use Rattle.nm_laws.proofs.Cuts.{WonSwap, won_swap, ShownSwap, shown_swap}
use Rattle.nm_laws.proofs.KnownBirths.{written_keys}
use Rattle.nm_laws.proofs.Configurations.{refused_outcome, allowed_next, allowed_outcome, state_outcome}
use Rattle.nm_laws.proofs.Outcomes.{no_reply}
use Rattle.nm_order.proofs.TreeChanges.{exchanged_put}
use Rattle.nm_order.proofs.OrderedChanges.{swapping}
use Rattle.nm_order.proofs.OrderedSteps.{asks_key}
use Rattle.nm_order.proofs.OrderedLaws.{IsOrdered, neither, law_of_state, each_ordered}
use Rattle.nm_order.proofs.OrderedInduction.{births_of}
use Rattle.nm_order.proofs.FlaggedNodes.{memory_is}
use Rattle.nm_order.proofs.SwappedTrees.{Swapping}
use Rattle.nm_order.proofs.SwappedSets.{swapped_set, swapped_unflagged, swapped_cut}

pub record SwapLeaves (m m' : Memory) : Type 0 where
  pub set : (k : ℕ) → InSet m' k ↔ InSet m k
  pub unflagged : (k : ℕ) → StandsUnflagged m' k ↔ StandsUnflagged m k
  -- what is cut was at an unflagged edge
  pub cut : (x : ℕ) → IsCut m m' x → (y : ℕ) × (g : Side) × Reached m y × (child m y g ≡ x)
      × ((edge m y g).flag ≡ false)

pub swap_turn : (L : Layout) → 5 ≤ L.nodes → (c : Configuration) (t : ℕ × Event) → IsOrdered L c
    → (p : ℕ) (d : Side) (leaf new : ℕ) → t.1 ≡ Swap p d leaf new → (ns : List NodeId) → outcome_in c t ≡ Ok (Cut ns)
    → SwapLeaves c.state.memory (next_in c t).state.memory
unfolding refused_in applied_in write
swap_turn L enough c t o p d leaf new e ns is = go (refused_in c t.0 t.1) refl
  where
    go : (q : Option Refused) → refused_in c t.0 t.1 ≡ q → SwapLeaves c.state.memory (next_in c t).state.memory
    go (Some q) why = absurd (no_reply q (Cut ns) (sym (refused_outcome c t q why) ∙ is))
    go None why = subst (SwapLeaves c.state.memory) (sym memory_now) (record {
      set = swapped_set c.state.memory p d leaf new k.inside k.swap.unmarked some_new keys g;
      cut = swapped_cut c.state.memory p d leaf new k.inside k.swap.unmarked some_new keys g;
      unflagged = swapped_unflagged c.state.memory p d leaf new k.inside k.swap.unmarked some_new keys g;
    })
      where
        parts : (refused c.state t.0 t.1 ≡ None) × (disorder_in c t.0 t.1 ≡ None)
        parts = neither (refused c.state t.0 t.1) (disorder_in c t.0 t.1) why

        in_order : disorder c.state.layout (of c.state t.0) (search_of o.searches t.0) t.1 ≡ None
        in_order = ap (λ ss. disorder_among c.state.layout ss (of c.state t.0) t.0 t.1) (sym o.are) ∙ parts.1

        law : Lawful c.state (law_of_state L enough c o).0
        law = (law_of_state L enough c o).1

        turn : t ≡ (t.0, Swap p d leaf new)
        turn = λ i. (t.0, e i)

        won : WonSwap c.state t.0 p d leaf new ns
        won = won_swap c.state t.0 p d leaf new ns (ap (outcome c.state) (sym turn)
            ∙ (state_outcome c t why ∙ (sym (allowed_outcome c t why) ∙ is)))

        k : ShownSwap c.state (law_of_state L enough c o).0 t.0 p d leaf new
        k = shown_swap c.state (law_of_state L enough c o).0 law t.0 p d leaf new won.ok won.won

        put : exchanged c.state.memory p d leaf (to new) ≡ put_edge c.state.memory p d (to new)
        put = cond-true (is_to (edge c.state.memory p d) leaf)
            (put_edge c.state.memory p d (to new)) c.state.memory won.won

        memory_now : (next_in c t).state.memory ≡ put_edge c.state.memory p d (to new)
        memory_now = ap (λ (d : Configuration). d.state.memory) (allowed_next c t why)
            ∙ (memory_is c.state (law_of_state L enough c o).0 law t.0 t.1 (allowed c.state t.0 t.1 parts.0)
            ∙ (ap (write c.state.memory (of c.state t.0) t.0) e ∙ put))

        some_new : new ≢ 0
        some_new z = let r = law.tree.privates t.0 new k.swap.own in absurd (omega arith)

        keys : (x : ℕ) → key (put_edge c.state.memory p d (to new)) x ≡ key c.state.memory x
        keys x = subst (λ (m : Memory). key m x ≡ key c.state.memory x) put
            (written_keys c.state.memory (of c.state t.0) t.0 p d leaf new x)

        g : Swapping (child c.state.memory) (child (put_edge c.state.memory p d (to new)))
            (key c.state.memory) p d leaf new
        g = swapping c.state (law_of_state L enough c o).0 law t.0 _ p d leaf new k.swap
            (asks_key c.state (law_of_state L enough c o).0 law t.0 (births_of L enough c o) t.1
            (search_of o.searches t.0) in_order (o.law.walks t.0) p d leaf new e)
            (child (put_edge c.state.memory p d (to new))) (exchanged_put c.state.memory p d (to new) k.inside)

pub each_swap_takes_none : OfEachOrdered SwapsTakeNoKey
each_swap_takes_none L enough turns keys w p d leaf new ns is k =
    (swap_turn L enough (after_in (ordered L) turns) (w, Swap p d leaf new)
    (each_ordered L enough turns keys) p d leaf new refl ns is).set k
