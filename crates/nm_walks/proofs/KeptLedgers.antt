-- What a call leaves of the ledgers that its worker holds.
use Rattle.std.proofs.Common.{◌≡◌, ℕ, suc, ◌==◌, List, [], ◌∷◌, length, map, refl, sym, ap, ◌∙◌}
use Rattle.std.specs.Prelude.{Option, Some, None, is_none, option_map, slice_get}
use Rattle.std.proofs.lemmas.Bool.{cond-false, cond-true, eq-eqb, ne_eqb}
use Rattle.nm_edge.specs.declared.node.NodeId.{NodeId}
use Rattle.nm_model.specs.declared.event.Event.TheVariants.{Sight}
use Rattle.nm_model.specs.declared.ledger.Ledger.{Ledger}
use Rattle.nm_model.specs.declared.ledger.Queued.{Queued}
use Rattle.nm_model.specs.declared.reply.Reply.TheVariants.{Labelled}
use Rattle.nm_model.specs.Knowledge.{Knowledge}
use Rattle.nm_model.specs.Ledgers.{held, queue_of, labelled, with_label, with_cut}
use Rattle.nm_laws.proofs.Held.{held-label}
use Rattle.nm_laws.proofs.Learned.{learn_labelled}
use Rattle.nm_order.proofs.HeldLedgers.{held_ledgers_are_kept}
use Rattle.nm_steps.specs.Rules.{knowledge}
use Rattle.nm_steps.specs.Steps.{PassView, Stepped, IsSamePass}
use Rattle.nm_epoch.specs.declared.collecting.HeldQueue.{HeldQueue}
use Rattle.nm_epoch.specs.declared.collecting.Tally.{Tally}
use Rattle.nm_walks.specs.declared.seek_record.ChainEdge.{ChainEdge}
use Rattle.nm_walks.specs.declared.seek_record.SeekRecord.{SeekRecord}
use Rattle.nm_walks.specs.Telling.{IsInRun}
use Rattle.nm_walks.specs.Cleanups.{HasCut, HoldsCuts, KeepsLedgers}
use Rattle.nm_walks.specs.WonCounts.{CountsWon}
use Rattle.nm_epoch.specs.Collecting.{capped}
use Rattle.nm_walks.proofs.Adding.{Adds, counts_on}
use Rattle.nm_walks.proofs.Looks.{enough}
use Rattle.nm_steps.proofs.Presence.{known_after_step}

-- ---- ledgers that stay

-- so does the own queue, with counts that are right
pub holds_so : (p q : PassView) (h : HeldQueue) (t : Tally) → IsSamePass p q
    → (knowledge q.view).ledgers ≡ (knowledge p.view).ledgers → CountsWon q.view.log t → t.freed ≡ h.counts.freed
    → HoldsCuts p h → HoldsCuts q (record h { counts = t })
holds_so p q h t same ledgers counted freed is =
    let number : q.view.number ≡ p.view.number = ap (λ (x : PassView). x.view.number) same in
    let own : held (knowledge q.view).ledgers q.view.number
    ≡ held (knowledge p.view).ledgers p.view.number = ap (λ (w : ℕ). held (knowledge q.view).ledgers w) number
    ∙ ap (λ (ls : List (Option Ledger)). held ls p.view.number) ledgers in
    record {
      own = is.own ∙ sym number;
      queue = ap (λ (l : Option Ledger). option_map (λ (x : Ledger). x.queue) l) own ∙ is.queue;
      counted = counted;
      freed = ap (λ (l : Option Ledger). option_map (λ (ns : List NodeId). capped (length ns))
          (option_map (λ (x : Ledger). x.freed) l)) own ∙ (is.freed ∙ ap (λ (n : ℕ). Some n) (sym freed));
    }

-- and as it was, where nothing was won
pub holds_on : {n : ℕ} (p q : PassView) (h : HeldQueue) → IsSamePass p q
    → (knowledge q.view).ledgers ≡ (knowledge p.view).ledgers → Adds 0 0 0 n p.view.log q.view.log → HoldsCuts p h
    → HoldsCuts q h
holds_on p q h same ledgers adds is = holds_so p q h h.counts same ledgers
    (counts_on h.counts p.view.log q.view.log adds is.counted) refl is

-- ---- a cut, and its label

-- a label changes no queue in which each entry has one
label_one : (e : ℕ) (x : Queued) → (x.label ≡ None → ⊥) → with_label e x ≡ x
label_one e x some = go x.label refl
  where
    go : (o : Option ℕ) → x.label ≡ o → with_label e x ≡ x
    go None is = absurd (some is)
    go (Some n) is = cond-false (is_none x.label) (record { node = x.node; label = Some e }) x (ap is_none is)

label_again : (e : ℕ) (q : List Queued) → ((i : ℕ) (x : Queued) → slice_get q i ≡ Some x → x.label ≡ None → ⊥)
    → map (with_label e) q ≡ q
label_again e [] some = refl
label_again e (x ∷ q) some =
    let rest = label_again e q (λ i y at none'. some (suc i) y at none') in
    ap (λ (y : Queued). y ∷ map (with_label e) q) (label_one e x (λ none'. some 0 x refl none'))
    ∙ ap (λ (ys : List Queued). x ∷ ys) rest

relabelled : (e : ℕ) (h : Option Ledger) → ((i : ℕ) (x : Queued) → slice_get (queue_of h) i ≡ Some x → x.label ≡ None
    → ⊥) → option_map (labelled e) h ≡ h
relabelled e None some = refl
relabelled e (Some l) some = ap (λ (q : List Queued). Some (record l { queue = q })) (label_again e l.queue some)

after_label : (m q : PassView) (e : ℕ) → Stepped m q Sight (Labelled e) → (o : ℕ)
    → held (knowledge q.view).ledgers o ≡ option_map (labelled e) (held (knowledge m.view).ledgers o)
after_label m q e step o =
    ap (λ (k : Knowledge). held k.ledgers o) (known_after_step m q Sight (Labelled e) step
    ∙ learn_labelled m.view.number (knowledge m.view) e)
    ∙ held-label e (knowledge m.view).ledgers o

same_freed : (e : ℕ) (ns : List NodeId) (h : Option Ledger)
    → option_map (λ (l : Ledger). l.freed) (option_map (labelled e) (option_map (with_cut ns) h))
    ≡ option_map (λ (l : Ledger). l.freed) h
same_freed e ns None = refl
same_freed e ns (Some l) = refl

pub cut_ledgers : (s : SeekRecord) (c : List ChainEdge) (ns : List NodeId) (e : ℕ) (p m q : PassView) → IsInRun p
    → HasCut s c ns p m → Stepped m q Sight (Labelled e) → KeepsLedgers p q
cut_ledgers s c ns e p m q run cut step = record {
  others = λ o other.
      let law = held_ledgers_are_kept p.view.layout (enough p.view.layout run.fits) p.view.number p.view.log
      run.run.is_part in
      after_label m q e step o
      ∙ (ap (λ (h : Option Ledger). option_map (labelled e) h)
      (cut.queues o ∙ cond-false (o == p.view.number)
      (option_map (with_cut ns) (held (knowledge p.view).ledgers o)) (held (knowledge p.view).ledgers o)
      (ne_eqb o p.view.number other))
      ∙ relabelled e (held (knowledge p.view).ledgers o) (λ i x at none'. other (law.labelled o i x at none').0));
  freed = let o : ℕ = p.view.number in
      ap (λ (h : Option Ledger). option_map (λ (l : Ledger). l.freed) h)
      (after_label m q e step o
      ∙ ap (λ (h : Option Ledger). option_map (labelled e) h)
      (cut.queues o ∙ cond-true (o == p.view.number) (option_map (with_cut ns) (held (knowledge p.view).ledgers o))
      (held (knowledge p.view).ledgers o) (eq-eqb o o refl)))
      ∙ same_freed e ns (held (knowledge p.view).ledgers o);
}
