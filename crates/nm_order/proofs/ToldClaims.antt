-- A slot that is claimed was in none of the worker's hands.
use Rattle.std.proofs.Common.{◌≡◌, ◌≢◌, ℕ, ◌≤◌, Bool, true, false, cond, refl, sym, ap, subst, ◌∙◌, arith, true≢false}
use Rattle.std.specs.Prelude.{Option, Some, None, option_map, slice_get, is_some}
use Rattle.std.proofs.lemmas.Bool.{false_from_ne_true}
use Rattle.std.proofs.lemmas.Option.{none-some}
use Rattle.nm_edge.specs.Layouts.{Layout}
use Rattle.nm_model.specs.declared.event.Event.{Event}
use Rattle.nm_model.specs.declared.event.Event.TheVariants.{Claim}
use Rattle.nm_model.specs.declared.reply.Reply.TheVariants.{Claimed, Taken}
use Rattle.nm_model.specs.declared.reply.Refused.TheVariants.{NoSlot}
use Rattle.nm_model.specs.declared.ledger.Queued.{Queued}
use Rattle.nm_model.specs.declared.ledger.Ledger.{Ledger}
use Rattle.nm_model.specs.Memory.{in_pool}
use Rattle.nm_model.specs.Ledgers.{held, queue_of}
use Rattle.nm_model.specs.Places.{slot_of}
use Rattle.nm_model.specs.Knowledge.{Knowledge, knows, is_private}
use Rattle.nm_model.specs.Step.{outside, refusal, reply}
use Rattle.nm_model.specs.Runs.{State, of, reply_of}
use Rattle.nm_model.specs.Walks.{Entry}
use Rattle.nm_laws.proofs.Steps.{Allowed, passed}
use Rattle.nm_laws.proofs.TreeSteps.{Lawful, high_from}
use Rattle.nm_laws.proofs.Pictures.{SeekRecord, Stands, nowhere_else}
use Rattle.nm_laws.proofs.Pictures.SeekRecord.{InPool, PrivateTo, InQueue}
use Rattle.nm_laws.proofs.Views.{picture, held_queue}
use Rattle.nm_laws.proofs.Retired.{layout_after}
use Rattle.nm_order.specs.Told.{IsNew, OfEachEntry, ClaimsAreNew}
use Rattle.nm_order.proofs.LastEntries.{LastEntry, last_entry}
use Rattle.nm_order.proofs.ToldLaws.{lawful_before, allowed_before, live_then}

-- a claim that is answered so found the slot in the pool
claimed_from : (s : State) (w x y : ℕ) → reply_of s w (Claim x) ≡ Claimed y → (in_pool s.memory x ≡ true) × (y ≡ x)
unfolding reply
claimed_from s w x y is = go (in_pool s.memory x) refl is
  where
    go : (b : Bool) → in_pool s.memory x ≡ b → cond b (Claimed x) Taken ≡ Claimed y
        → (in_pool s.memory x ≡ true) × (y ≡ x)
    go true pooled is = (pooled, cc)
    go false pooled is = absurd (differ is)
      where
        differ : Taken ≡ Claimed y → ⊥
        differ e = cc

in_range : (s : State) (w x : ℕ) → Allowed s w (Claim x) → (6 ≤ x) × (x ≤ s.layout.nodes)
unfolding refusal
in_range s w x ok = high_from 6 s.layout.nodes x (passed (outside 6 s.layout.nodes x) NoSlot _ ok.event).0

-- what is in the pool is nowhere else
record NotHeld (s : State) (w x : ℕ) : Type 0 where
  not_held : is_private (of s w) x ≡ false
  not_known : knows (of s w) x ≡ false
  not_queued : (origin i : ℕ) (e : Queued) → slice_get (queue_of (held (of s w).ledgers origin)) i ≡ Some e
      → e.node.slot ≢ x

module _ (s : State) (h : ℕ → ℕ) (law : Lawful s h) (w x : ℕ) where
  -- an entry of a held queue is one of the origin's
  pub queued_so : (origin i : ℕ) (e : Queued) → slice_get (queue_of (held (of s w).ledgers origin)) i ≡ Some e
      → e.node.slot ≡ x → (picture s h).queue origin i ≡ Some x
  queued_so origin i e at slot = go (held (of s w).ledgers origin) refl
    where
      go : (l : Option Ledger) → held (of s w).ledgers origin ≡ l → (picture s h).queue origin i ≡ Some x
      go None is = absurd (none-some e (ap (λ l. slice_get (queue_of l) i) (sym is) ∙ at))
      go (Some l) is = ap (λ (y : ℕ). option_map slot_of (slice_get (held_queue (of s y) origin) i))
          (sym (law.holders.only w origin (ap is_some is))) ∙ (ap (option_map slot_of) at ∙ ap Some slot)

  from_pool : in_pool s.memory x ≡ true → NotHeld s w x
  from_pool pooled = record {
    not_held = false_from_ne_true (is_private (of s w) x)
        (λ own. let e : InPool ≡ PrivateTo w = alone (PrivateTo w) own in cc);
    not_known = false_from_ne_true (knows (of s w) x)
        (λ known. true≢false (sym pooled ∙ (live_then s h law w x known).pooled));
    not_queued = λ origin i e at slot.
        let e : InPool ≡ InQueue origin i = alone (InQueue origin i) (queued_so origin i e at slot) in cc;
  }
    where
      alone : (q : SeekRecord) → Stands (picture s h) x q → InPool ≡ q
      alone q there = let r = law.tree.pools x pooled in
          nowhere_else (picture s h) x InPool q (law.tree.places x (λ z. omega arith) r.1) pooled there

pub claims_are_new : OfEachEntry ClaimsAreNew
claims_are_new L enough w log entry l x y is = go (last_entry L enough w log entry l)
  where
    go : LastEntry L w log entry → (y ≡ x) × (6 ≤ x) × (x ≤ L.nodes) × IsNew L w log x
    go last =
        let s = last.before.state in
        let law = lawful_before L enough w log entry last in
        let from = claimed_from s last.by x y (subst (λ (e : Entry). reply_of s last.by e.0 ≡ e.1) is last.replied) in
        let range = in_range s last.by x (subst (λ (e : Event). Allowed s last.by e) (ap (λ (e : Entry). e.0) is)
        (allowed_before L enough w log entry last)) in
        let layout : s.layout ≡ L = ap (λ (s : State). s.layout) last.told.is_ordered.leads
        ∙ layout_after L last.told.is_ordered.events in
        let free = from_pool s law.0 law.1 w x from.0 in (
          from.1,
          range.0,
          subst (λ (M : Layout). x ≤ M.nodes) layout range.1,
          new last free,
        )
      where
        new : (last : LastEntry L w log entry) → NotHeld last.before.state w x → IsNew L w log x
        new last free = record {
          not_held = ap (λ (k : Knowledge). is_private k x) (sym last.told.knows) ∙ free.not_held;
          not_known = ap (λ (k : Knowledge). knows k x) (sym last.told.knows) ∙ free.not_known;
          not_queued = λ origin i e at. free.not_queued origin i e
              (ap (λ (k : Knowledge). slice_get (queue_of (held k.ledgers origin)) i) last.told.knows ∙ at);
        }
