-- What one turn of an ordered run does to the set: a link that is won adds a key, a cut takes the
-- keys of its leaves, and nothing else changes it.
use Rattle.std.proofs.Common.{◌≡◌, ℕ, ◌≤◌, ◌==◌, Bool, true, false, cond, List, [], ◌∷◌, refl, sym, ap, subst, ◌∙◌, true≢false}
use Rattle.std.specs.Prelude.{Option, Some, None, Result, Ok, Contains, ◌↔◌}
use Rattle.std.proofs.lemmas.Bool.{eq-eqb, and_from, false_from_ne_true}
use Rattle.nm_edge.specs.Edges.{Edge, to, is_to}
use Rattle.nm_edge.specs.Layouts.{Layout}
use Rattle.nm_edge.specs.declared.edge.Side.{Side}
use Rattle.nm_edge.specs.declared.node.NodeId.{NodeId}
use Rattle.nm_model.specs.declared.event.Event.{Event}
use Rattle.nm_model.specs.declared.event.Event.TheVariants.{Link, Splice, Swap}
use Rattle.nm_model.specs.declared.reply.Reply.{Reply}
use Rattle.nm_model.specs.declared.reply.Reply.TheVariants.{Linked, Lost, Cut}
use Rattle.nm_model.specs.declared.reply.Refused.{Refused}
use Rattle.nm_model.specs.Memory.{Memory, node, edge, child, named, is_leaf}
use Rattle.nm_model.specs.Laws.{slots_of}
use Rattle.nm_model.specs.Paths.{follow, Reached, IsCut}
use Rattle.nm_model.specs.Step.{reply, write, node_linked}
use Rattle.nm_model.specs.Runs.{State, of, reply_of, applied, refused}
use Rattle.nm_model.specs.Ordered.{Configuration, ordered, refused_in, applied_in, disorder_in, next_in, outcome_in, after_in}
use Rattle.nm_laws.proofs.Steps.{Allowed, allowed}
use Rattle.nm_laws.proofs.Trees.{rest_after, same_follow}
use Rattle.nm_laws.proofs.CutPaths.{old_path, led}
use Rattle.nm_laws.proofs.TreeSteps.{Lawful}
use Rattle.nm_laws.proofs.Configurations.{refused_next, allowed_next, allowed_outcome}
use Rattle.nm_laws.proofs.Outcomes.{same_reply}
use Rattle.nm_model.specs.Acts.{InSet}
use Rattle.nm_order.specs.Intervals.{HasKey, OfEachOrdered, key}
use Rattle.nm_order.specs.Exchanges.{is_won_link}
use Rattle.nm_order.specs.Removals.{is_splice, IsKeyOf, Loses, CutsTakeTheirKeys}
use Rattle.nm_order.proofs.Searching.{apart_follow}
use Rattle.nm_order.proofs.TreeChanges.{TreeChange, tree_change}
use Rattle.nm_order.proofs.TreeChanges.TreeChange.{Kept, Filled, Linked as NewLink, Swapped, Spliced}
use Rattle.nm_order.proofs.OrderedChanges.{off_root}
use Rattle.nm_order.proofs.OrderedMoments.{Lasting, lasting, lasting_stays}
use Rattle.nm_order.proofs.OrderedLaws.{IsOrdered, neither, each_ordered, law_of_state, own_keys}
use Rattle.nm_order.proofs.FlaggedNodes.{memory_is}
use Rattle.nm_order.proofs.CutTurns.{CutOrNot, cut_or_not, cut_shows, splice_of, uncut_stays, mapped_among}
use Rattle.nm_order.proofs.CutTurns.CutOrNot.{StaysReached, IsCutNow}

-- an exchange at an unmarked edge is won
link_won : (s : State) (w p : ℕ) (d : Side) (leaf new : ℕ) → edge s.memory p d ≡ to leaf
    → reply_of s w (Link p d leaf new) ≡ Linked (node_linked (of s w) new)
unfolding reply
link_won s w p d leaf new is = ap (λ (b : Bool). cond b (Linked (node_linked (of s w) new))
    (Lost (edge s.memory p d))) (ap (λ (e : Edge). is_to e leaf) is
    ∙ and_from (leaf == leaf) true (eq-eqb leaf leaf refl) refl)

swap_won : (s : State) (w p : ℕ) (d : Side) (leaf new : ℕ) → edge s.memory p d ≡ to leaf
    → reply_of s w (Swap p d leaf new) ≡ Cut (named s.memory leaf ∷ [])
unfolding reply
swap_won s w p d leaf new is = ap (λ (b : Bool). cond b (Cut (named s.memory leaf ∷ [])) (Lost (edge s.memory p d)))
    (ap (λ (e : Edge). is_to e leaf) is ∙ and_from (leaf == leaf) true (eq-eqb leaf leaf refl) refl)

-- an entry is a swap that is won
abbrev pub is_won_swap : Event → Reply → Bool
is_won_swap (Swap p d leaf new) (Cut ns) = true
is_won_swap _ _ = false

pub swap_cuts_some : (e : Event) (r : Reply) → is_won_swap e r ≡ true → (ns : List NodeId) × (r ≡ Cut ns)
swap_cuts_some (Swap p d leaf new) (Cut ns) h = (ns, refl)
swap_cuts_some e r h = absurd (true≢false (sym h))

pub swap_entry : (e : Event) (r : Reply) → is_won_swap e r ≡ true → (p : ℕ) × (d : Side) × (leaf : ℕ) × (new : ℕ)
    × (ns : List NodeId) × (e ≡ Swap p d leaf new) × (r ≡ Cut ns)
swap_entry (Swap p d leaf new) (Cut ns) h = (p, d, leaf, new, ns, refl, refl)
swap_entry e r h = absurd (true≢false (sym h))

pub splice_swaps_none : (e : Event) (r : Reply) → is_splice e ≡ true → is_won_swap e r ≡ false
splice_swaps_none (Splice a d s p keep) r h = refl
splice_swaps_none e r h = absurd (true≢false (sym h))

module _ (s : State) (h : ℕ → ℕ) (law : Lawful s h) (w : ℕ) (e : Event) (ok : Allowed s w e) where
  -- what is reached is not private, so this lasts of it
  pub reached_lasts : (x : ℕ) → Reached s.memory x → lasting (applied s w e).memory x ≡ lasting s.memory x
  reached_lasts x r = ap (λ (m : Memory). lasting m x) (memory_is s h law w e ok)
      ∙ lasting_stays s h law w e ok x (λ own. off_root s h law w x own r.path r.ends)

  -- but for a link or a swap that is won, what is reached then was reached before
  pub was_reached : is_won_link (e, reply_of s w e) ≡ false → is_won_swap e (reply_of s w e) ≡ false → (x : ℕ)
      → Reached (applied s w e).memory x → Reached s.memory x
  was_reached plain unswapped x r = by (tree_change s h law w e ok)
    where
      m : Memory
      m = write s.memory (of s w) w e

      end : follow (child (write s.memory (of s w) w e)) 1 r.path ≡ x
      end = ap (λ (m : Memory). follow (child m) 1 r.path) (sym (memory_is s h law w e ok)) ∙ r.ends

      by : TreeChange s h w e (write s.memory (of s w) w e) → Reached s.memory x
      by (Kept children keys) = record {
        path = r.path;
        ends = sym
            (same_follow (child s.memory) (child (write s.memory (of s w) w e)) children 1 r.path)
            ∙ end;
        is_slot = r.is_slot;
      }
      by (Filled y own apart) = record {
        path = r.path;
        ends = sym
            (apart_follow (child s.memory) (child (write s.memory (of s w) w e)) (key s.memory)
            (key (write s.memory (of s w) w e)) y apart 1 (off_root s h law w y own) r.path) ∙ end;
        is_slot = r.is_slot;
      }
      by (NewLink p d leaf new is unmarked l link exchanged keys) = absurd
          (true≢false (sym (ap (λ (f : Event). is_won_link (f, reply_of s w f)) is
          ∙ ap (λ (q : Reply). is_won_link (Link p d leaf new, q)) (link_won s w p d leaf new unmarked)) ∙ plain))
      by (Swapped p d leaf new n is swap exchanged keys) =
          absurd (true≢false (sym (ap (λ (f : Event). is_won_swap f (reply_of s w f)) is
          ∙ ap (λ (q : Reply). is_won_swap (Swap p d leaf new) q) (swap_won s w p d leaf new swap.unmarked))
          ∙ unswapped))
      by (Spliced a d way g some target keys high) = record {
        path = old_path (child s.memory) (child (write s.memory (of s w) w e)) a d way g
            (rest_after (child s.memory) a d 1 r.path) r.path;
        ends = sym (led (child s.memory) (child (write s.memory (of s w) w e)) a d way g r.path) ∙ end;
        is_slot = r.is_slot;
      }

module _ (L : Layout) (enough : 5 ≤ L.nodes) (c : Configuration) (t : ℕ × Event) (has : HasKey t.1)
    (o : IsOrdered L c) where
  -- what a turn leaves of a reached slot
  pub turn_lasts : (x : ℕ) → Reached c.state.memory x → lasting (next_in c t).state.memory x ≡ lasting c.state.memory x
  unfolding refused_in applied_in
  turn_lasts x r = go (refused_in c t.0 t.1) refl
    where
      go : (q : Option Refused) → refused_in c t.0 t.1 ≡ q
          → lasting (next_in c t).state.memory x ≡ lasting c.state.memory x
      go (Some q) why = ap (λ (d : Configuration). lasting d.state.memory x) (refused_next c t q why)
      go None why = ap (λ (d : Configuration). lasting d.state.memory x) (allowed_next c t why)
          ∙ reached_lasts c.state (law_of_state L enough c o).0 (law_of_state L enough c o).1 t.0 t.1
          (allowed c.state t.0 t.1 (neither (refused c.state t.0 t.1) (disorder_in c t.0 t.1) why).0) x r

  -- but for a link that is won
  abbrev pub WinsNoLink : Type 0
  WinsNoLink = (q : Reply) → outcome_in c t ≡ Ok q → is_won_link (t.1, q) ≡ false

  -- nor a swap
  abbrev pub WinsNoSwap : Type 0
  WinsNoSwap = (q : Reply) → outcome_in c t ≡ Ok q → is_won_swap t.1 q ≡ false

  pub turn_was_reached : WinsNoLink → WinsNoSwap → (x : ℕ) → Reached (next_in c t).state.memory x
      → Reached c.state.memory x
  unfolding refused_in applied_in
  turn_was_reached plain unswapped x r = go (refused_in c t.0 t.1) refl
    where
      go : (q : Option Refused) → refused_in c t.0 t.1 ≡ q → Reached c.state.memory x
      go (Some q) why = subst (λ (d : Configuration). Reached d.state.memory x) (refused_next c t q why) r
      go None why = was_reached c.state (law_of_state L enough c o).0 (law_of_state L enough c o).1 t.0 t.1
          (allowed c.state t.0 t.1 (neither (refused c.state t.0 t.1) (disorder_in c t.0 t.1) why).0)
          (plain (reply_of c.state t.0 t.1) (allowed_outcome c t why))
          (unswapped (reply_of c.state t.0 t.1) (allowed_outcome c t why)) x
          (subst (λ (d : Configuration). Reached d.state.memory x) (allowed_next c t why) r)

  -- a leaf that is reached before and after
  same_leaf : (x : ℕ) → Reached c.state.memory x → is_leaf (node (next_in c t).state.memory x)
      ≡ is_leaf (node c.state.memory x)
  same_leaf x r = ap (λ (l : Lasting). l.leaf) (turn_lasts x r)

  same_key : (x : ℕ) → Reached c.state.memory x → key (next_in c t).state.memory x ≡ key c.state.memory x
  same_key x r = ap (λ (l : Lasting). l.key) (turn_lasts x r)

  -- a turn that cuts nothing wins no swap
  pub uncut_swaps_none : ((ns : List NodeId) → outcome_in c t ≡ Ok (Cut ns) → ⊥) → WinsNoSwap
  uncut_swaps_none uncut q told =
      false_from_ne_true _ (λ won. let cut = swap_cuts_some t.1 q won in
      uncut cut.0 (told ∙ ap (λ (y : Reply). Ok y) cut.1))

  -- a turn that wins no link and cuts nothing leaves the set as it is
  pub set_stays : WinsNoLink → ((ns : List NodeId) → outcome_in c t ≡ Ok (Cut ns) → ⊥) → (k : ℕ)
      → InSet (next_in c t).state.memory k ↔ InSet c.state.memory k
  set_stays plain uncut k = (
    (λ s. let was = turn_was_reached plain (uncut_swaps_none uncut) s.slot s.reached in
        record {
          slot = s.slot;
          reached = was;
          leaf = sym (same_leaf s.slot was)
              ∙ s.leaf;
          has_key = sym (same_key s.slot was) ∙ s.has_key;
        }),
    (λ s. record {
      slot = s.slot;
      reached = uncut_stays L enough c t o uncut s.slot s.reached;
      leaf = same_leaf
          s.slot s.reached ∙ s.leaf;
      has_key = same_key s.slot s.reached ∙ s.has_key;
    }),
  )

  -- a turn that answers a cut wins no link
  pub cut_links_none : (ns : List NodeId) → outcome_in c t ≡ Ok (Cut ns) → WinsNoLink
  cut_links_none ns is q told = subst (λ (r : Reply). is_won_link (t.1, r) ≡ false)
      (same_reply (Cut ns) q (sym is ∙ told)) (none t.1)
    where
      none : (e : Event) → is_won_link (e, Cut ns) ≡ false
      none (Link p d leaf new) = refl
      none e = refl

  -- a cut by a splice takes the keys of its leaves
  pub cut_takes : (ns : List NodeId) → outcome_in c t ≡ Ok (Cut ns) → is_splice t.1 ≡ true
      → Loses c.state.memory (next_in c t).state.memory ns
  cut_takes ns is splice = record { had = had; now = λ k. (there k, back k) }
    where
      cuts : (x : ℕ) → IsCut c.state.memory (next_in c t).state.memory x ↔ Contains (slots_of ns) x
      cuts = (cut_shows L enough c t o ns is).0

      gone : (k : ℕ) (l : IsKeyOf c.state.memory ns k) → IsCut c.state.memory (next_in c t).state.memory l.leaf.slot
      gone k l = (cuts l.leaf.slot).1 (mapped_among (λ (n : NodeId). n.slot) ns l.leaf l.among)

      had : (k : ℕ) → IsKeyOf c.state.memory ns k → InSet c.state.memory k
      had k l = record { slot = l.leaf.slot; reached = (gone k l).was; leaf = l.childless; has_key = l.has_key }

      there : (k : ℕ) → InSet (next_in c t).state.memory k → InSet c.state.memory k × (IsKeyOf c.state.memory ns k → ⊥)
      there k s = (record { slot = s.slot; reached = was; leaf = leaf; has_key = has_key }, none)
        where
          was : Reached c.state.memory s.slot
          was = turn_was_reached (cut_links_none ns is) (λ q _. splice_swaps_none t.1 q splice) s.slot s.reached

          leaf : is_leaf (node c.state.memory s.slot) ≡ true
          leaf = sym (same_leaf s.slot was) ∙ s.leaf

          has_key : key c.state.memory s.slot ≡ k
          has_key = sym (same_key s.slot was) ∙ s.has_key

          none : IsKeyOf c.state.memory ns k → ⊥
          none l = (gone k l).gone (subst (Reached (next_in c t).state.memory)
              (own_keys L enough c o s.slot l.leaf.slot was (gone k l).was leaf l.childless (has_key ∙ sym l.has_key))
              s.reached)

      back : (k : ℕ) → InSet c.state.memory k × (IsKeyOf c.state.memory ns k → ⊥) → InSet (next_in c t).state.memory k
      back k b = by (cut_or_not L enough c t has o b.0.slot b.0.reached)
        where
          by : CutOrNot L enough c t b.0.slot → InSet (next_in c t).state.memory k
          by (StaysReached r) = record {
            slot = b.0.slot;
            reached = r;
            leaf = same_leaf b.0.slot b.0.reached
                ∙ b.0.leaf;
            has_key = same_key b.0.slot b.0.reached ∙ b.0.has_key;
          }
          by (IsCutNow ms is' among gone) = absurd (b.1
              (record {
                leaf = named c.state.memory b.0.slot;
                among = subst
                    (λ (l : List NodeId). Contains l (named c.state.memory b.0.slot)) (same_cut ms ns (sym is' ∙ is))
                    among;
                childless = b.0.leaf;
                has_key = b.0.has_key;
              }))
            where
              same_cut : (x y : List NodeId) → ◌≡◌ {A = Result Reply Refused} (Ok (Cut x)) (Ok (Cut y)) → x ≡ y
              same_cut x y e = cc

pub each_cut_takes : OfEachOrdered CutsTakeTheirKeys
each_cut_takes L enough turns keys t ns is splice =
    let o = each_ordered L enough turns keys in
    let e = splice_of t.1 splice in
    cut_takes L enough (after_in (ordered L) turns) t (subst HasKey (sym e.5) tt) o ns is splice
