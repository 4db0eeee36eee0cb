-- What a worker has in its hands stands there once, and nowhere else.
use Rattle.std.proofs.Common.{◌≡◌, ℕ, ◌<◌, inl, inr, false, length, refl, sym, ap, subst, ◌∙◌, arith, true≢false}
use Rattle.std.specs.Prelude.{Option, Some, None, IsSome, is_some}
use Rattle.std.proofs.lemmas.Bool.{false_from_ne_true}
use Rattle.std.proofs.lemmas.List.{get_or_past}
use Rattle.std.proofs.lemmas.Bool.{cases_lt}
use Rattle.nm_edge.specs.Layouts.{Layout}
use Rattle.nm_model.specs.declared.ledger.Ledger.{Ledger}
use Rattle.nm_model.specs.declared.ledger.Queued.{Queued}
use Rattle.nm_model.specs.Ledgers.{held}
use Rattle.nm_model.specs.Knowledge.{Knowledge, is_private}
use Rattle.nm_model.specs.Runs.{State, of}
use Rattle.nm_model.specs.Ordered.{Configuration, ordered, after_in, trace_in}
use Rattle.nm_laws.proofs.TreeSteps.{Lawful}
use Rattle.nm_laws.proofs.Pictures.{SeekRecord, Stands, nowhere_else}
use Rattle.nm_laws.proofs.Pictures.SeekRecord.{PrivateTo, InQueue}
use Rattle.nm_laws.proofs.Views.{picture}
use Rattle.nm_laws.proofs.Retired.{layout_after}
use Rattle.nm_order.specs.Logs.{part_of, known_by}
use Rattle.nm_order.specs.Hands.{WaitsAt, IsPooled, AreApart, HandsAreApart}
use Rattle.nm_order.proofs.OrderedLaws.{law_of_state}
use Rattle.nm_order.proofs.LastEntries.{ToldBy, told_by_part}
use Rattle.nm_order.proofs.ToldClaims.{queued_so}

module _ (s : State) (h : ℕ → ℕ) (law : Lawful s h) (w : ℕ) where
  in_queue : (o i : ℕ) (e : Queued) → WaitsAt (of s w) o i e → (picture s h).queue o i ≡ Some e.node.slot
  in_queue o i e at = queued_so s h law w e.node.slot o i e at refl

  waits : (o i : ℕ) (e : Queued) → WaitsAt (of s w) o i e → IsPooled s.layout e.node.slot
  waits o i e at = law.tree.queues o i e.node.slot (in_queue o i e at)

  -- a slot that waits stands nowhere but there
  alone : (o i : ℕ) (e : Queued) → WaitsAt (of s w) o i e → (q : SeekRecord) → Stands (picture s h) e.node.slot q
      → InQueue o i ≡ q
  alone o i e at q there =
      let range = waits o i e at in
      let low = range.0 in
      nowhere_else (picture s h) e.node.slot (InQueue o i) q
      (law.tree.places e.node.slot (λ z. omega (arith, low)) range.1) (in_queue o i e at) there

  not_private : (o i : ℕ) (e : Queued) → WaitsAt (of s w) o i e → is_private (of s w) e.node.slot ≡ false
  not_private o i e at = false_from_ne_true (is_private (of s w) e.node.slot)
      (λ own. let e : InQueue o i ≡ PrivateTo w = alone o i e at (PrivateTo w) own in cc)

  one_index : (o p i j : ℕ) (e f : Queued) → WaitsAt (of s w) o i e → WaitsAt (of s w) p j f
      → e.node.slot ≡ f.node.slot → (o ≡ p) × (i ≡ j)
  one_index o p i j e f at there same =
      let e : InQueue o i ≡ InQueue p j = alone o i e at (InQueue p j) (in_queue p j f there ∙ ap Some (sym same)) in
      (cc, cc)

  below : (o : ℕ) → IsSome (held (of s w).ledgers o) → o < s.layout.workers
  below o some = elim (cases_lt o (length (of s w).ledgers)) [
    | inl lt ↦ let sizes = law.holders.sizes w in omega (arith, lt, sizes)
    | inr past ↦ absurd (true≢false (sym some ∙ ap (λ (l : Option Ledger). is_some l)
        (get_or_past (of s w).ledgers o None past)))
  ]

  pub hands : AreApart s.layout (of s w)
  hands = record {
    private = law.tree.privates w;
    waiting = waits;
    shared = not_private;
    once = one_index;
    origins = below;
  }

pub hands_are_apart : HandsAreApart
hands_are_apart L enough w log l = go (told_by_part L enough w l.worker l.turns l.keys)
  where
    go : ToldBy L w (part_of w (trace_in (ordered L) l.turns)) (after_in (ordered L) l.turns)
        → AreApart L (known_by L w log)
    go told =
        let c : Configuration = after_in (ordered L) l.turns in
        let law = law_of_state L enough c told.is_ordered in
        let layout : c.state.layout ≡ L = ap (λ (s : State). s.layout) told.is_ordered.leads
        ∙ layout_after L told.is_ordered.events in
        subst (λ (M : Layout). AreApart M (known_by L w log)) layout
        (subst (λ (k : Knowledge). AreApart c.state.layout k) (told.knows ∙ ap (known_by L w) l.is_part)
        (hands c.state law.0 law.1 w))
