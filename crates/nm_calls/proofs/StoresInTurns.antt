-- The stores of a run, by its words and turns alone.
use Rattle.std.proofs.Common.{◌≡◌, ℕ, zero, suc, List, [], ◌∷◌, ◌++◌, append_assoc, length, sym, ap, subst, ◌∙◌, true, false, arith}
use Rattle.std.specs.Prelude.{All}
use Rattle.nm_edge.specs.Layouts.{Layout, IsLayout}
use Rattle.nm_model.specs.declared.event.Event.{Event}
use Rattle.nm_model.specs.declared.event.Event.TheVariants.{Link, Swap}
use Rattle.nm_model.specs.declared.reply.Reply.TheVariants.{Cut}
use Rattle.nm_model.specs.declared.trace.Turn.{Turn}
use Rattle.nm_model.specs.Headline.{has_after, words_after}
use Rattle.nm_model.specs.Memory.{child, opening}
use Rattle.nm_model.specs.Ordered.{HasKey, ordered, after_in, trace_in}
use Rattle.nm_order.specs.Logs.{part_of}
use Rattle.nm_order.proofs.PinNumbers.{length_trace}
use Rattle.nm_order.proofs.WalksOfRuns.{trace_in-append}
use Rattle.nm_theorem.proofs.Hands.{run_hands}
use Rattle.nm_theorem.proofs.Runs.{Parts, parts_of}
use Rattle.nm_steps.specs.declared.view.Stored.{Stored}
use Rattle.nm_steps.specs.declared.view.View.{View}
use Rattle.nm_steps.specs.Rules.{Extends, IsStored, LinksHaveValues, WasHeld, WereHeld}
use Rattle.nm_steps.specs.Values.{HasSeenStores}
use Rattle.nm_steps.proofs.Growing.{goes_on_itself}
use Rattle.nm_calls.specs.Maps.{HoldsStores, LinkedLeavesHaveValues, SwappedLeavesHaveValues, WasInHands}
use Rattle.nm_calls.proofs.LinkedLeaves.{LinkAt, far_is, link_at}
use Rattle.nm_calls.proofs.StandingFlags.{TurnAt, turn_at}
use Rattle.nm_calls.proofs.WonLinks.{link}

module _ (L : Layout) (fits : IsLayout L) (events : List (ℕ × Event)) where
  abbrev turns : List Turn
  turns = trace_in (ordered L) events

  -- ---- hands

  in_hands : (x : Stored) → WasHeld L events x → WasInHands L turns x
  in_hands x h = record {
    before = trace_in (ordered L) h.before;
    since = trace_in (after_in (ordered L) h.before) h.since;
    are = ap (trace_in (ordered L)) h.is_run ∙ trace_in-append (ordered L) h.before h.since;
    at = length_trace (ordered L) h.before ∙ h.at;
    own = h.own;
    held = run_hands x.worker x.slot L fits true h.before ∙ h.private;
  }

  pub were_in_hands : (xs : List Stored) → WereHeld L events xs → All (WasInHands L turns) xs
  were_in_hands [] held k d below = absurd (omega (arith, below))
  were_in_hands (x ∷ xs) held zero d below = in_hands x held.0
  were_in_hands (x ∷ xs) held (suc k) d below = were_in_hands xs held.1 k d (omega (arith, below))

  -- so in all turns that go on from them
  was_held : (until more : List Turn) → turns ≡ until ++ more → (x : Stored) → WasInHands L until x → WasHeld L events x
  was_held until more is x h =
      let p : Parts (ordered L) events h.before (h.since ++ more) = parts_of (ordered L) events h.before
      (h.since ++ more) (is ∙ (ap (λ (ts : List Turn). ts ++ more) h.are ∙ append_assoc h.before h.since more)) in
      record {
        before = p.early;
        since = p.late;
        is_run = p.all;
        at = p.size ∙ h.at;
        own = ap (λ (ts : List Turn). length (part_of x.worker ts)) (sym p.first_is) ∙ h.own;
        private = sym (run_hands x.worker x.slot L fits true p.early)
            ∙ (ap (has_after (opening L) x.worker x.slot false) (sym p.first_is) ∙ h.held);
      }

  pub were_held : (until more : List Turn) → turns ≡ until ++ more → (xs : List Stored) → All (WasInHands L until) xs
      → WereHeld L events xs
  were_held until more is [] held = tt
  were_held until more is (x ∷ xs) held = (
    was_held until more is x (held 0 x (omega arith)),
    were_held until more is
        xs (λ k d below. held (suc k) d (omega (arith, below))),
  )

  -- ---- links

  pub linked_leaves : All (λ t. HasKey t.1) events → (stores : List Stored) → LinksHaveValues L events stores
      → LinkedLeavesHaveValues L turns stores
  linked_leaves keys stores linked before since w p side s old new n is fresh =
      subst (λ (m : ℕ). IsStored stores w m (child (words_after L before) new s))
      (sym (ap (λ (ts : List Turn). length (part_of w ts)) x.first_is))
      (subst (IsStored stores w (length (part_of w (trace_in (ordered L) x.early))))
      ((link L fits x.early x.keyed w p side old new n x.won).drafts.is_far
      ∙ sym (far_is L fits events before w p side s old new n x fresh))
      (linked x.early x.others w (Link p side old new) x.whole))
    where
      x : LinkAt L events before w p side old new n
      x = link_at L events keys before since w p side old new n is

-- ---- swaps

-- each leaf that was swapped in has its store
pub swapped_leaves : (L : Layout) (events : List (ℕ × Event)) → All (λ t. HasKey t.1) events → (stores : List Stored)
    → LinksHaveValues L events stores → SwappedLeavesHaveValues (trace_in (ordered L) events) stores
swapped_leaves L events keys stores linked before since w p side old new ns is =
    let x : TurnAt L events before w (Swap p side old new) (Cut ns)
    = turn_at L events keys before since w (Swap p side old new) (Cut ns) is in
    subst (λ (ts : List Turn). IsStored stores w (length (part_of w ts)) new) (sym x.first_is)
    (linked x.early x.others w (Swap p side old new) x.whole)

-- the stores that a view has seen, from any moment of its past on
pub stores_in_turns : (v : View) → IsLayout v.layout → HasSeenStores v → (was : List Turn) → Extends v.past was
    → HoldsStores v.layout was v.past v.stores
stores_in_turns v fits s was from = record {
  until = v.past;
  from = from;
  ends = goes_on_itself v.past;
  held = subst (λ (ts : List Turn). All (WasInHands v.layout ts) v.stores) (sym s.run.are)
      (were_in_hands v.layout fits s.run.events v.stores s.held);
  linked = subst (λ (ts : List Turn). LinkedLeavesHaveValues v.layout ts v.stores) (sym s.run.are)
      (linked_leaves v.layout fits s.run.events s.run.keys v.stores s.linked);
  swapped = subst (λ (ts : List Turn). SwappedLeavesHaveValues ts v.stores) (sym s.run.are)
      (swapped_leaves v.layout s.run.events s.run.keys v.stores s.linked);
  order = s.order;
}
