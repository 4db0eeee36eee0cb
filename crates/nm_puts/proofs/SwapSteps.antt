-- The step of a swap: it is allowed, and what it leaves.
use Rattle.std.proofs.Common.{◌≡◌, ◌≤◌, ◌<◌, ℕ, ◌==◌, true, not, cond, ◌&&◌, ◌||◌, List, [], ◌∷◌, length, refl, sym, ap, subst, ◌∙◌, arith}
use Rattle.std.specs.Prelude.{Option, Some, None, is_some, is_none, option_map, unwrap_or, Result, Ok, Err, IfOk, IfErr}
use native.Mathlib.Decide.{ℕ_discrete}
use Rattle.std.proofs.lemmas.Bool.{and_from, cond-false, cond-true, eq-eqb, ne_eqb}
use Rattle.nm_edge.specs.Edges.{Edge}
use Rattle.nm_edge.specs.Layouts.{Layout, IsLayout}
use Rattle.nm_edge.specs.declared.edge.Side.{Side}
use Rattle.nm_edge.specs.declared.node.NodeId.{NodeId}
use Rattle.nm_model.specs.declared.arrivals.Arrival.{Arrival}
use Rattle.nm_model.specs.declared.arrivals.Call.{Call}
use Rattle.nm_model.specs.declared.event.Event.TheVariants.{Swap}
use Rattle.nm_model.specs.declared.reply.Refused.TheVariants.{NoSlot, NotPinned, NotHeld, NotPrivate, NotReady, NotOrdered}
use Rattle.nm_model.specs.declared.reply.Reply.TheVariants.{Cut, Lost}
use Rattle.nm_model.specs.Knowledge.{Knowledge, draft_of, is_private, knows, knows_leaf}
use Rattle.nm_model.specs.Learning.{cutting, swapped_in}
use Rattle.nm_model.specs.Ledgers.{held, retire, with_cut}
use Rattle.nm_model.specs.Maps.{get, is_number}
use Rattle.nm_model.specs.Ordered.{after_in, ended_at, has_put_in, may_flag_at, ordered, swaps_in_order, trace_in}
use Rattle.nm_model.specs.Runs.{State}
use Rattle.nm_model.specs.Searches.{Search, idle, searched, is_by, is_side}
use Rattle.nm_model.specs.Step.{is_leaf_draft, outside, refusal}
use Rattle.nm_model.specs.Walks.{Entry, search_after}
use Rattle.nm_model.proofs.Checks.{not_outside, passes_then}
use Rattle.nm_model.proofs.Tables.{Ascends}
use Rattle.nm_laws.proofs.Held.{held-retire_other, held-retire_same}
use Rattle.nm_laws.proofs.Learned.{learn_swap_lost, learn_swapped}
use Rattle.nm_laws.proofs.Retired.{layout_after}
use Rattle.nm_order.specs.Facts.Fact.{KnowsSlot, KnowsLeaf, IsBorn, IsFlagged, IsTagged}
use Rattle.nm_order.specs.Hands.{IsPooled}
use Rattle.nm_order.specs.Logs.{IsLogOf, known_by, part_of}
use Rattle.nm_order.specs.Told.TellsEdge.{BySwap}
use Rattle.nm_order.proofs.ArrivalsOfLooks.{any_there, same_side}
use Rattle.nm_order.proofs.LastEntries.{ToldBy, told_by_part}
use Rattle.nm_order.proofs.OrderedLaws.{law_of_state}
use Rattle.nm_order.proofs.LinkedBirths.{looked_birth}
use Rattle.nm_order.proofs.TaughtFacts.{edges_are_learned}
use Rattle.nm_steps.specs.Told.{known_as}
use Rattle.nm_steps.specs.Rules.{knowledge, known_births}
use Rattle.nm_steps.specs.Steps.{MayStep, PassView, Stepped, TakesStep, swap_reply}
use Rattle.nm_steps.proofs.AfterSteps.{TellsRun}
use Rattle.nm_steps.proofs.Extending.{neither}
use Rattle.nm_steps.proofs.Presence.{known_after_step}
use Rattle.nm_epoch.proofs.Entries.{search_is}
use Rattle.nm_walks.specs.Telling.{Tells, IsInRun, IsPinnedSomewhere}
use Rattle.nm_walks.proofs.Looks.{enough, grown, known_inside, told_after}
use Rattle.nm_walks.proofs.Makes.{drafts_ascend, private_from_birth, without_another, without_it}
use Rattle.nm_walks.proofs.Marks.{only_reads, slot_inside}
use Rattle.nm_puts.specs.Swaps.{IsSwapping, SwapLost, SwapWon}

-- ---- the swap is allowed

number_there : (o : Option ℕ) (n : ℕ) → o ≡ Some n → is_number o n ≡ true
number_there o n is = ap (λ (x : Option ℕ). is_number x n) is ∙ eq-eqb n n refl

module _ (p : PassView) (parent : ℕ) (side : Side) (leaf new : ℕ) (i : IsSwapping p parent side leaf new) where
  abbrev k : Knowledge
  k = knowledge p.view

  abbrev S : Search
  S = search_after idle p.view.log

  new_private : is_private (knowledge p.view) new ≡ true
  new_private = private_from_birth p new (ap is_some i.filled.has_birth)

  new_leaf : is_leaf_draft (knowledge p.view) new ≡ true
  new_leaf =
      and_from (is_private k new) _ new_private
      (and_from (is_some (draft_of k new).key) _ (ap is_some i.filled.has_key)
      (and_from (is_number (draft_of k new).left 0) _ (number_there (draft_of k new).left 0 i.filled.has_left)
      (number_there (draft_of k new).right 0 i.filled.has_right)))

  -- a walk of the call has ended at the old leaf, which had its key
  abbrev a : Arrival
  a = i.ended.0.arrival

  ended_there : may_flag_at i.key parent side leaf i.ended.0.arrival ≡ true
  ended_there =
      and_from (is_by leaf parent side a) (ended_at i.key a)
      (and_from (a.slot == leaf) ((a.parent == parent) && is_side a.side side) (eq-eqb a.slot leaf i.ended.0.is_slot)
      (and_from (a.parent == parent) (is_side a.side side) (eq-eqb a.parent parent i.ended.0.is_parent)
      (ap (λ (d : Side). is_side d side) i.ended.0.is_side ∙ same_side side)))
      (and_from a.ended (is_number a.key i.key) i.ended.2 (number_there a.key i.key i.ended.1))

  in_order : swaps_in_order (knowledge p.view) (search_after idle p.view.log)
      (search_after idle p.view.log).call parent side leaf new ≡ true
  in_order =
      ap (λ (c : Option Call). swaps_in_order k S c parent side leaf new) i.call
      ∙ and_from (not (has_put_in S)) _ (ap not (neither S.linked S.swapped i.unlinked i.unswapped))
      (and_from (is_number (draft_of k new).key i.key) _ (number_there (draft_of k new).key i.key i.filled.has_key)
      (any_there (may_flag_at i.key parent side leaf) S.walks a i.ended.0.among ended_there))

  pub may_swap : IsInRun p → IsPinnedSomewhere p → Tells p (KnowsLeaf leaf) → 6 ≤ leaf
      → ((x : ℕ) → is_private (knowledge p.view) x ≡ true → IsPooled p.view.layout x) → MayStep p
      (Swap parent side leaf new)
  unfolding refusal
  may_swap run pin is_leaf high pooled =
      let n : ℕ = p.view.layout.nodes in
      let below = known_inside p.view.layout p.view.number p.view.log run.fits run.run.is_part leaf i.knows_leaf in
      let own = pooled new new_private in
      record {
        looked = tt;
        allowed = λ m h. passes_then (outside 1 n parent || (outside 6 n leaf || outside 6 n new)) NoSlot _
            (neither (outside 1 n parent) (outside 6 n leaf || outside 6 n new)
            (slot_inside p parent run i.knows_parent)
            (neither (outside 6 n leaf) (outside 6 n new) (not_outside 6 n leaf high below.1)
            (not_outside 6 n new own.0 own.1)))
            (passes_then (is_none k.brief.pin) NotPinned _ (ap is_none pin.1)
            (passes_then (not (knows k parent && (knows k leaf && knows_leaf k leaf))) NotHeld _
            (ap not (and_from (knows k parent) _ i.knows_parent (and_from (knows k leaf) _ i.knows_leaf is_leaf)))
            (passes_then (not (is_private k new)) NotPrivate _ (ap not new_private)
            (passes_then (not (is_leaf_draft k new)) NotReady _ (ap not new_leaf) refl))));
        ordered = passes_then (not (swaps_in_order k S S.call parent side leaf new)) NotOrdered None
            (ap not in_order) refl;
        births = ap is_some (looked_birth p.view.layout p.view.number p.view.log leaf i.born.0 i.born.1);
        key = tt;
      }

-- ---- what it leaves

-- a worker's ledgers have a place for its own
own_place : (L : Layout) → 5 ≤ L.nodes → (w : ℕ) (log : List Entry) → IsLogOf L w log → w < length
    (known_by L w log).ledgers
own_place L low w log l = go (told_by_part L low w l.worker l.turns l.keys)
  where
    go : ToldBy L w (part_of w (trace_in (ordered L) l.turns)) (after_in (ordered L) l.turns) → w < length
        (known_by L w log).ledgers
    go told =
        let law = law_of_state L low (after_in (ordered L) l.turns) told.is_ordered in
        let size = law.1.holders.sizes w in
        let knows = ap (λ (k : Knowledge). length k.ledgers) (told.knows ∙ ap (known_by L w) l.is_part) in
        let workers = ap (λ (s : State). s.layout.workers) told.is_ordered.leads ∙ ap (λ (M : Layout). M.workers)
        (layout_after L told.is_ordered.events) in
        let below = l.worker in
        omega (arith, size, knows, workers, below)

module _ (p q : PassView) (parent : ℕ) (side : Side) (new : ℕ) (run : IsInRun p) (old : NodeId)
    (step : Stepped p q (Swap parent side old.slot new) (Cut (old ∷ []))) where
  abbrev w : ℕ
  w = p.view.number

  known_now : knowledge q.view ≡ cutting w (swapped_in (knowledge p.view) new) (old ∷ [])
  known_now = known_after_step p q (Swap parent side old.slot new) (Cut (old ∷ [])) step ∙ learn_swapped w
      (knowledge p.view) parent side old.slot new (old ∷ [])

  long : p.view.number < length (knowledge p.view).ledgers
  long = own_place p.view.layout (enough p.view.layout run.fits) p.view.number p.view.log run.run.is_part

  retired : (o : ℕ) → held (retire (knowledge p.view).ledgers p.view.number (old ∷ [])) o
      ≡ cond (o == p.view.number) (option_map (with_cut (old ∷ [])) (held (knowledge p.view).ledgers o)) (held
      (knowledge p.view).ledgers o)
  retired o = elim (ℕ_discrete o p.view.number) [
    | yes own ↦ rw own (held-retire_same (knowledge p.view).ledgers w (old ∷ []) long
        ∙ sym (cond-true (w == w) (option_map (with_cut (old ∷ [])) (held (knowledge p.view).ledgers w)) (held
        (knowledge p.view).ledgers w) (eq-eqb w w refl)))
    | no other ↦ held-retire_other (knowledge p.view).ledgers w (old ∷ []) o other
        ∙ sym (cond-false (o == w) (option_map (with_cut (old ∷ [])) (held (knowledge p.view).ledgers o)) (held
        (knowledge p.view).ledgers o) (ne_eqb o w other))
  ]

  order : Ascends (knowledge p.view).drafts
  order = drafts_ascend p.view.layout (enough p.view.layout run.fits) p.view.number p.view.log run.run.is_part

  pub swap_won : SwapWon p q parent side new old
  unfolding searched
  swap_won = record {
    step = step;
    queues = λ o. ap (λ (k : Knowledge). held k.ledgers o) known_now ∙ retired o;
    epochs = ap (λ (k : Knowledge). k.brief) known_now;
    search = search_is p q (Swap parent side old.slot new) (Cut (old ∷ [])) step;
    given = ap (λ (k : Knowledge). get k.drafts new) known_now ∙ without_it (knowledge p.view).drafts new order;
    others = λ s ne. ap (λ (k : Knowledge). get k.drafts s) known_now ∙ without_another
        (knowledge p.view).drafts new s order ne;
  }

module _ (p q : PassView) (parent : ℕ) (side : Side) (leaf new : ℕ) (fits : IsLayout q.view.layout)
    (tells : TellsRun q) where
  pub swap_lost : (e : Edge) → Stepped p q (Swap parent side leaf new) (Lost e) → Tells p (KnowsSlot parent)
      → SwapLost p q parent side leaf new e
  unfolding searched
  swap_lost e step known =
      let L : Layout = p.view.layout in
      let low = enough L (subst (λ (s : PassView). IsLayout s.view.layout) step fits) in
      let learned = edges_are_learned L low p.view.number p.view.log (Swap parent side leaf new, Lost e)
      (grown p q (Swap parent side leaf new) (Lost e) step refl fits tells) parent side e
      (BySwap parent leaf new side e) known in
      let after = told_after p q (Swap parent side leaf new) (Lost e) step in
      record {
        step = step;
        learned = record {
          leads = λ some. after (KnowsSlot e.slot) (learned.leads some);
          leaf = λ null. after (KnowsLeaf parent) (learned.leaf null);
          tagged = λ tag. after (IsTagged parent side e.slot) (learned.tagged tag);
          flagged = λ flag. after (IsFlagged parent side e.slot) (learned.flagged flag);
        };
        only = only_reads p q parent side e
            (known_after_step p q (Swap parent side leaf new) (Lost e) step ∙ learn_swap_lost p.view.number
            (knowledge p.view) parent side leaf new e)
            (search_is p q (Swap parent side leaf new) (Lost e) step);
      }

  -- by what the step answers
  pub if_swap_lost : (r : Result Unit Edge) → Stepped p q (Swap parent side leaf new) (swap_reply p.view leaf r)
      → Tells p (KnowsSlot parent)
      → IfErr r (λ e. SwapLost p q parent side leaf new e)
  if_swap_lost (Ok u) step known = tt
  if_swap_lost (Err e) step known = swap_lost e step known

  -- the cut leaf is the one whose birth is known
  pub if_swap_won : (r : Result Unit Edge) → IsInRun p
      → Stepped p q (Swap parent side leaf new) (swap_reply p.view leaf r)
      → IfOk r (λ u. (b : ℕ) → Tells p (IsBorn leaf b) → SwapWon p q parent side new
      (record { slot = leaf; birth = b }))
  if_swap_won (Err e) run step = tt
  if_swap_won (Ok u) run step = λ b born.
      swap_won p q parent side new run (record { slot = leaf; birth = b })
      (subst (λ (n : NodeId). Stepped p q (Swap parent side leaf new) (Cut (n ∷ []))) (is_born b born) step)
    where
      is_born : (b : ℕ) → Tells p (IsBorn leaf b) → known_as
          (known_births p.view) leaf ≡ record { slot = leaf; birth = b }
      is_born b born = ap (λ (o : Option ℕ). record { slot = leaf; birth = unwrap_or o 0 })
          (looked_birth p.view.layout p.view.number p.view.log leaf b born)

-- so its turn names the leaf with its birth
pub took_out : (p q : PassView) (parent : ℕ) (side : Side) (leaf new b : ℕ) → Tells p (IsBorn leaf b)
    → TakesStep p q (Swap parent side leaf new) (swap_reply p.view leaf (Ok tt))
    → TakesStep p q (Swap parent side leaf new) (Cut (record { slot = leaf; birth = b } ∷ []))
took_out p q parent side leaf new b born took =
    subst (λ (o : Option ℕ). TakesStep p q (Swap parent side leaf new) (Cut
    (record { slot = leaf; birth = unwrap_or o 0 } ∷ [])))
    (looked_birth p.view.layout p.view.number p.view.log leaf b born) took
