-- A label is taken by every node of a held queue that waited for it.
use Rattle.std.proofs.Common.{◌≡◌, ℕ, List, [], ◌∷◌, ◌++◌, map, refl, ap, ◌∙◌}
use Rattle.std.specs.Prelude.{Option, Some, None, option_map}
use Rattle.std.proofs.lemmas.Option.{none-some, same_Some}
use Rattle.nm_edge.specs.declared.node.NodeId.{NodeId}
use Rattle.nm_model.specs.declared.event.Event.TheVariants.{Sight}
use Rattle.nm_model.specs.declared.ledger.Ledger.{Ledger}
use Rattle.nm_model.specs.declared.ledger.Queued.{Queued}
use Rattle.nm_model.specs.declared.reply.Reply.TheVariants.{Labelled}
use Rattle.nm_model.specs.Knowledge.{Knowledge}
use Rattle.nm_model.specs.Ledgers.{held, labelled, unlabelled, with_label}
use Rattle.nm_laws.proofs.Held.{held-label}
use Rattle.nm_laws.proofs.Learned.{learn_labelled}
use Rattle.nm_steps.specs.Rules.{knowledge}
use Rattle.nm_steps.specs.Steps.{PassView, Stepped}
use Rattle.nm_epoch.specs.declared.collecting.Entry.{Entry}
use Rattle.nm_epoch.specs.Collecting.{queued, labelled_so, TakesLabels}
use Rattle.nm_steps.proofs.Presence.{known_after_step}

with_labels : (e : ℕ) (ns : List NodeId) → map (with_label e) (map unlabelled ns) ≡ map queued (map (labelled_so e) ns)
with_labels e [] = refl
with_labels e (n ∷ ns) = ap (λ (q : List Queued). queued (labelled_so e n) ∷ q) (with_labels e ns)

all_labelled : (e : ℕ) (es : List Entry) (ns : List NodeId)
    → map (with_label e) (map queued es ++ map unlabelled ns) ≡ map queued (es ++ map (labelled_so e) ns)
all_labelled e [] ns = with_labels e ns
all_labelled e (x ∷ es) ns = ap (λ (q : List Queued). queued x ∷ q) (all_labelled e es ns)

in_ledger : (e : ℕ) (h : Option Ledger) (es : List Entry) (ns : List NodeId)
    → option_map (λ (l : Ledger). l.queue) h ≡ Some (map queued es ++ map unlabelled ns)
    → option_map (λ (l : Ledger). l.queue) (option_map (labelled e) h)
    ≡ Some (map queued (es ++ map (labelled_so e) ns))
in_ledger e None es ns is = absurd (none-some _ is)
in_ledger e (Some l) es ns is = ap (λ (q : List Queued). Some (map (with_label e) q))
    (same_Some l.queue (map queued es ++ map unlabelled ns) is)
    ∙ ap (λ (q : List Queued). Some q) (all_labelled e es ns)

pub takes_labels : (p q : PassView) (e : ℕ) → Stepped p q Sight (Labelled e)
    → TakesLabels e (knowledge p.view) (knowledge q.view)
takes_labels p q e step o es ns is =
    ap (λ (k : Knowledge). option_map (λ (l : Ledger). l.queue) (held k.ledgers o))
    (known_after_step p q Sight (Labelled e) step ∙ learn_labelled p.view.number (knowledge p.view) e)
    ∙ (ap (λ (h : Option Ledger). option_map (λ (l : Ledger). l.queue) h) (held-label e (knowledge p.view).ledgers o)
    ∙ in_ledger e (held (knowledge p.view).ledgers o) es ns is)

pub drafts_stay : (p q : PassView) (e : ℕ) → Stepped p q Sight (Labelled e)
    → (knowledge q.view).drafts ≡ (knowledge p.view).drafts
drafts_stay p q e step = ap (λ (k : Knowledge). k.drafts)
    (known_after_step p q Sight (Labelled e) step ∙ learn_labelled p.view.number (knowledge p.view) e)
