-- The label of a leaf that a swap has cut off, and its place in the queue.
use Rattle.std.proofs.Common.{◌≡◌, ℕ, suc, ◌==◌, List, [], ◌∷◌, ◌++◌, length, map, refl, sym, ap, subst, ◌∙◌}
use Rattle.std.specs.Prelude.{Option, Some, None, is_none, option_map, slice_get}
use Rattle.std.proofs.lemmas.Bool.{cond-false, cond-true, eq-eqb, ne_eqb}
use Rattle.std.proofs.lemmas.Option.{none-some, same_Some}
use Rattle.nm_edge.specs.declared.edge.Side.{Side}
use Rattle.nm_edge.specs.declared.node.NodeId.{NodeId}
use Rattle.nm_model.specs.declared.event.Event.TheVariants.{Sight}
use Rattle.nm_model.specs.declared.ledger.Ledger.{Ledger}
use Rattle.nm_model.specs.declared.ledger.Queued.{Queued}
use Rattle.nm_model.specs.declared.reply.Reply.TheVariants.{Labelled}
use Rattle.nm_model.specs.Knowledge.{Knowledge}
use Rattle.nm_model.specs.Ledgers.{held, labelled, queue_of, unlabelled, with_cut, with_label}
use Rattle.nm_laws.proofs.Held.{held-label}
use Rattle.nm_laws.proofs.Learned.{learn_labelled}
use Rattle.nm_order.proofs.HeldLedgers.{held_ledgers_are_kept}
use Rattle.nm_steps.specs.Rules.{knowledge}
use Rattle.nm_steps.specs.Steps.{PassView, Stepped}
use Rattle.nm_steps.proofs.Presence.{known_after_step}
use Rattle.nm_epoch.specs.Collecting.{IsQueueOf, TakesLabels, capped, labelled_so, queued}
use Rattle.nm_epoch.specs.declared.collecting.Entry.{Entry as Waiting}
use Rattle.nm_epoch.specs.declared.collecting.HeldQueue.{HeldQueue}
use Rattle.nm_walks.specs.Telling.{IsInRun}
use Rattle.nm_walks.specs.Cleanups.{HoldsCuts, KeepsLedgers, freed_of_origin}
use Rattle.nm_walks.specs.WonCounts.{CountsWon}
use Rattle.nm_walks.proofs.Adding.{adds_these, counts_on}
use Rattle.nm_walks.proofs.Looks.{enough}
use Rattle.nm_puts.specs.Swaps.{HoldsCutsThen, SwapWon}

-- ---- the ledgers after the label

after_label : (m q : PassView) (e : ℕ) → Stepped m q Sight (Labelled e) → (o : ℕ) → held
    (knowledge q.view).ledgers o ≡ option_map (labelled e) (held (knowledge m.view).ledgers o)
after_label m q e step o =
    ap (λ (k : Knowledge). held k.ledgers o) (known_after_step m q Sight (Labelled e) step
    ∙ learn_labelled m.view.number (knowledge m.view) e)
    ∙ held-label e (knowledge m.view).ledgers o

same_freed : (e : ℕ) (h : Option Ledger) → option_map (λ (l : Ledger). l.freed) (option_map
    (labelled e) h) ≡ option_map (λ (l : Ledger). l.freed) h
same_freed e None = refl
same_freed e (Some l) = refl

freed_with_cut : (ns : List NodeId) (h : Option Ledger) → option_map (λ (l : Ledger). l.freed) (option_map
    (with_cut ns) h) ≡ option_map (λ (l : Ledger). l.freed) h
freed_with_cut ns None = refl
freed_with_cut ns (Some l) = refl

queue_with_cut : (ns : List NodeId) (h : Option Ledger) (q : List Queued) → option_map
    (λ (l : Ledger). l.queue) h ≡ Some q
    → option_map (λ (l : Ledger). l.queue) (option_map (with_cut ns) h) ≡ Some (q ++ map unlabelled ns)
queue_with_cut ns None q is = absurd (none-some q is)
queue_with_cut ns (Some l) q is = ap (λ (x : List Queued). Some (x ++ map unlabelled ns)) (same_Some l.queue q is)

-- ---- the own queue

module _ (p q : PassView) (parent : ℕ) (side : Side) (new : ℕ) (old : NodeId)
    (won : SwapWon p q parent side new old) where
  own_now : held (knowledge q.view).ledgers p.view.number ≡ option_map (with_cut (old ∷ [])) (held
      (knowledge p.view).ledgers p.view.number)
  own_now = won.queues p.view.number
      ∙ cond-true (p.view.number == p.view.number) (option_map (with_cut (old ∷ []))
      (held (knowledge p.view).ledgers p.view.number)) (held (knowledge p.view).ledgers p.view.number)
      (eq-eqb p.view.number p.view.number refl)

  number : q.view.number ≡ p.view.number
  number = ap (λ (s : PassView). s.view.number) won.step

  -- after the swap its leaf waits behind the others
  pub holds_then : (h : HeldQueue) → HoldsCuts p h → HoldsCutsThen q h old
  holds_then h kept = record {
    own = kept.own ∙ sym number;
    queue = ap (λ (o : ℕ). option_map (λ (l : Ledger). l.queue) (held (knowledge q.view).ledgers o)) number
        ∙ (ap (λ (l : Option Ledger). option_map (λ (x : Ledger). x.queue) l) own_now
        ∙ queue_with_cut (old ∷ []) (held (knowledge p.view).ledgers p.view.number)
        (map queued h.queue.items) kept.queue);
    counted = counts_on h.counts p.view.log q.view.log (adds_these _ p.view.log q.view.log
        (ap (λ (s : PassView). s.view.log) won.step)) kept.counted;
    freed = ap (λ (o : ℕ). option_map (λ (ns : List NodeId). capped (length ns))
        (freed_of_origin (knowledge q.view) o)) number
        ∙ (ap (λ (l : Option Ledger). option_map (λ (ns : List NodeId). capped (length ns)) (option_map
        (λ (x : Ledger). x.freed) l)) own_now
        ∙ (ap (option_map (λ (ns : List NodeId). capped (length ns))) (freed_with_cut (old ∷ [])
        (held (knowledge p.view).ledgers p.view.number)) ∙ kept.freed));
  }

-- ---- the label

module _ (m q : PassView) (e : ℕ) (step : Stepped m q Sight (Labelled e)) where
  number_still : q.view.number ≡ m.view.number
  number_still = ap (λ (s : PassView). s.view.number) step

  pub holds_labelled : TakesLabels e (knowledge m.view) (knowledge q.view) → (h g : HeldQueue) (node : NodeId)
      → g.origin ≡ h.origin → g.counts ≡ h.counts → g.queue.items ≡ h.queue.items ++ labelled_so e node ∷ []
      → HoldsCutsThen m h node → HoldsCuts q g
  holds_labelled takes h g node origin counts items kept = record {
    own = origin ∙ (kept.own ∙ sym number_still);
    queue = subst (λ (es : List Waiting). IsQueueOf (knowledge q.view) q.view.number es) (sym items)
        (subst (λ (o : ℕ). IsQueueOf (knowledge q.view) o (h.queue.items ++ labelled_so e node ∷ [])) (sym number_still)
        (takes m.view.number h.queue.items (node ∷ []) kept.queue));
    counted = subst (CountsWon q.view.log) (sym counts)
        (counts_on h.counts m.view.log q.view.log (adds_these _ m.view.log q.view.log
        (ap (λ (s : PassView). s.view.log) step)) kept.counted);
    freed = ap (λ (o : ℕ). option_map (λ (ns : List NodeId). capped (length ns))
        (freed_of_origin (knowledge q.view) o)) number_still
        ∙ (ap (λ (l : Option Ledger). option_map (λ (ns : List NodeId). capped (length ns)) (option_map
        (λ (x : Ledger). x.freed) l)) (after_label m q e step m.view.number)
        ∙ (ap (option_map (λ (ns : List NodeId). capped (length ns))) (same_freed e
        (held (knowledge m.view).ledgers m.view.number))
        ∙ (kept.freed ∙ ap (λ t. Some t.freed) (sym counts))));
  }

-- ---- the other ledgers

-- a label changes no queue in which each entry has one
label_one : (e : ℕ) (x : Queued) → (x.label ≡ None → ⊥) → with_label e x ≡ x
label_one e x some = go x.label refl
  where
    go : (o : Option ℕ) → x.label ≡ o → with_label e x ≡ x
    go None is = absurd (some is)
    go (Some n) is = cond-false (is_none x.label) (record { node = x.node; label = Some e }) x (ap is_none is)

label_again : (e : ℕ) (q : List Queued) → ((i : ℕ) (x : Queued) → slice_get q i ≡ Some x → x.label ≡ None → ⊥) → map
    (with_label e) q ≡ q
label_again e [] some = refl
label_again e (x ∷ q) some =
    let rest = label_again e q (λ i y at none'. some (suc i) y at none') in
    ap (λ (y : Queued). y ∷ map (with_label e) q) (label_one e x (λ none'. some 0 x refl none')) ∙ ap
    (λ (ys : List Queued). x ∷ ys) rest

relabelled : (e : ℕ) (h : Option Ledger) → ((i : ℕ) (x : Queued) → slice_get (queue_of h) i ≡ Some x
    → x.label ≡ None → ⊥) → option_map (labelled e) h ≡ h
relabelled e None some = refl
relabelled e (Some l) some = ap (λ (q : List Queued). Some (record l { queue = q })) (label_again e l.queue some)

pub swap_ledgers : (p m z q : PassView) (parent : ℕ) (side : Side) (new : ℕ) (old : NodeId) (e : ℕ) → IsInRun p
    → SwapWon p m parent side new old
    → (knowledge z.view).ledgers ≡ (knowledge m.view).ledgers → Stepped z q Sight (Labelled e) → KeepsLedgers p q
swap_ledgers p m z q parent side new old e run won looked step = record {
  others = λ o other.
      let law = held_ledgers_are_kept p.view.layout
      (enough p.view.layout run.fits) p.view.number p.view.log run.run.is_part in
      after_label z q e step o
      ∙ (ap (λ (h : Option Ledger). option_map (labelled e) h) (ap (λ (ls : List (Option Ledger)). held ls o) looked
      ∙ (won.queues o ∙ cond-false (o == p.view.number) (option_map (with_cut (old ∷ []))
      (held (knowledge p.view).ledgers o)) (held (knowledge p.view).ledgers o) (ne_eqb o p.view.number other)))
      ∙ relabelled e (held (knowledge p.view).ledgers o) (λ i x at none'. other (law.labelled o i x at none').0));
  freed =
      let o : ℕ = p.view.number in
      ap (λ (h : Option Ledger). option_map (λ (l : Ledger). l.freed) h)
      (after_label z q e step o ∙ ap (λ (h : Option Ledger). option_map (labelled e) h) (ap
      (λ (ls : List (Option Ledger)). held ls o) looked ∙ own_now p m parent side new old won))
      ∙ (same_freed e (option_map (with_cut (old ∷ [])) (held (knowledge p.view).ledgers o))
      ∙ freed_with_cut (old ∷ []) (held (knowledge p.view).ledgers o));
}
