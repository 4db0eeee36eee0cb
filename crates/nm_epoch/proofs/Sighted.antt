-- A sight leaves what waits as it is, where it has its labels.
use Rattle.std.proofs.Common.{◌≡◌, ℕ, ◌⊎◌, ◌==◌, inl, inr, ⊎_elim, Bool, true, false, cond, List, [], ◌∷◌, map, refl, sym, ap, ◌∙◌}
use Rattle.std.specs.Prelude.{Option, Some, None, option_map}
use Rattle.std.proofs.lemmas.Bool.{cond_both}
use Rattle.std.proofs.lemmas.Option.{none-some, same_Some}
use Rattle.nm_model.specs.declared.event.Event.TheVariants.{Sight}
use Rattle.nm_model.specs.declared.ledger.Ledger.{Ledger}
use Rattle.nm_model.specs.declared.ledger.Queued.{Queued}
use Rattle.nm_model.specs.declared.reply.Reply.{Reply}
use Rattle.nm_model.specs.declared.reply.Reply.TheVariants.{Saw, Labelled, Pinned, Missed}
use Rattle.nm_model.specs.Knowledge.{Knowledge}
use Rattle.nm_model.specs.declared.knowledge.Brief.{Brief}
use Rattle.nm_model.specs.Learning.{learn, learn_sight}
use Rattle.nm_model.specs.Step.{confirmed}
use Rattle.nm_model.specs.Ledgers.{held, label, labelled, with_label}
use Rattle.nm_laws.proofs.Held.{held-label}
use Rattle.nm_laws.proofs.Learned.{learn_saw, learn_labelled, learn_pinned, learn_missed}
use Rattle.nm_model.specs.Walks.{Entry as LogEntry}
use Rattle.nm_steps.specs.Rules.{knowledge}
use Rattle.nm_steps.specs.Steps.{PassView, Stepped, IsSight, sight_of, IsSamePass}
use Rattle.nm_steps.proofs.Presence.{known_push}
use Rattle.nm_epoch.specs.declared.collecting.Entry.{Entry}
use Rattle.nm_epoch.specs.declared.collecting.HeldQueue.{HeldQueue}
use Rattle.nm_epoch.specs.Scans.{IsSightOf}
use Rattle.nm_epoch.specs.Collecting.{queued, IsQueueOf, AreHeld, KeepsRetired, ledgers_seen, retired_of}
use Rattle.nm_epoch.specs.Resting.{epochs}
use Rattle.nm_order.specs.Reads.{sight_epoch}
use Rattle.nm_order.proofs.ReadEpochs.{confirmed_finds}
use Rattle.nm_steps.proofs.Presence.{known_after_step}

-- ---- labels that are there stay

queue_labelled : (e : ℕ) (es : List Entry) → map (with_label e) (map queued es) ≡ map queued es
queue_labelled e [] = refl
queue_labelled e (x ∷ es) = ap (λ (q : List Queued). queued x ∷ q) (queue_labelled e es)

shown_labelled : (e : ℕ) (h : Option Ledger) (es : List Entry)
    → option_map (λ (l : Ledger). l.queue) h ≡ Some (map queued es)
    → option_map (λ (l : Ledger). l.queue) (option_map (labelled e) h) ≡ Some (map queued es)
shown_labelled e None es is = absurd (none-some _ is)
shown_labelled e (Some l) es is = ap (λ (q : List Queued). Some (map (with_label e) q))
    (same_Some l.queue (map queued es) is) ∙ ap (λ (q : List Queued). Some q) (queue_labelled e es)

-- ---- a sight

-- ledgers stay, or all that wait in them have labels now
abbrev pub Sights : Knowledge → Knowledge → Type 0
Sights k l = (l.ledgers ≡ k.ledgers) ⊎ ((e : ℕ) × (l.ledgers ≡ label e k.ledgers))

sights : (w : ℕ) (k : Knowledge) (r : Reply) (e : ℕ) → sight_epoch r ≡ Some e → Sights k (learn w k Sight r)
sights w k (Saw x) e is = rw (learn_saw w k x) (inl refl)
sights w k (Labelled x) e is = rw (learn_labelled w k x) (inr (x, refl))
sights w k (Pinned x) e is = rw (learn_pinned w k x) (inl refl)
sights w k (Missed x) e is = rw (learn_missed w k x) (inl refl)
sights w k _ e is = absurd (none-some e is)

module _ (k l : Knowledge) (s : Sights k l) where
  queue_stays : (o : ℕ) (es : List Entry) → IsQueueOf k o es → IsQueueOf l o es
  queue_stays o es is = ⊎_elim
      (λ (same : l.ledgers ≡ k.ledgers). ap (λ (ls : List (Option Ledger)). option_map (λ (x : Ledger). x.queue)
      (held ls o)) same ∙ is)
      (λ (more : (e : ℕ) × (l.ledgers ≡ label e k.ledgers)). ap
      (λ (ls : List (Option Ledger)). option_map (λ (x : Ledger). x.queue) (held ls o)) more.1
      ∙ (ap (λ (h : Option Ledger). option_map (λ (x : Ledger). x.queue) h) (held-label more.0 k.ledgers o)
      ∙ shown_labelled more.0 (held k.ledgers o) es is)) s

  pub held_stays : (hs : List HeldQueue) → AreHeld k hs → AreHeld l hs
  held_stays [] has = tt
  held_stays (h ∷ hs) has = (queue_stays h.origin h.queue.items has.0, has.1, held_stays hs has.2)

-- ---- by the log

module _ (p q : PassView) (e : ℕ) (same : IsSamePass p q) (sight : IsSightOf e p.view.log q.view.log) where
  step : Stepped p q Sight sight.0
  step = same ∙ ap (λ (log : List LogEntry). record p
      { view = record p.view { log = log; past = q.view.past; stores = q.view.stores } }) sight.2

  seen_so : Sights (knowledge p.view) (knowledge q.view)
  seen_so = rw (ap (λ (y : PassView). knowledge y.view) step
      ∙ known_push p.view.number p.view.layout p.view.log (Sight, sight.0))
      (sights p.view.number (knowledge p.view) sight.0 e sight.1)

  pub held_seen : (hs : List HeldQueue) → AreHeld (knowledge p.view) hs → AreHeld (knowledge q.view) hs
  held_seen hs has = held_stays (knowledge p.view) (knowledge q.view) seen_so hs has

-- what was retired is so still
label_retires : (e : ℕ) (h : Option Ledger) → option_map (λ (l : Ledger). l.retired) (option_map (labelled e) h)
    ≡ option_map (λ (l : Ledger). l.retired) h
label_retires e None = refl
label_retires e (Some l) = refl

pub seen_retires : (p q : PassView) (e : ℕ) → (knowledge q.view).ledgers ≡ ledgers_seen e (knowledge p.view)
    → KeepsRetired (knowledge p.view) (knowledge q.view)
seen_retires p q e is o = ap (λ (ls : List (Option Ledger)). option_map (λ (l : Ledger). l.retired) (held ls o)) is
    ∙ by (knowledge p.view).brief.unlabelled
  where
    by : (u : Bool) → option_map (λ (l : Ledger). l.retired)
        (held (cond u (label e (knowledge p.view).ledgers) (knowledge p.view).ledgers) o)
        ≡ retired_of (knowledge p.view) o
    by true = ap (λ (h : Option Ledger). option_map (λ (l : Ledger). l.retired) h)
        (held-label e (knowledge p.view).ledgers o) ∙ label_retires e (held (knowledge p.view).ledgers o)
    by false = refl

-- ---- what a sight leaves of the ledgers, by whether a cut waited for its label

confirmed_keeps : (k : Knowledge) (pin announced : Option ℕ) (e : ℕ)
    → (learn_sight k (confirmed pin announced e)).ledgers ≡ k.ledgers
confirmed_keeps k (Some p) announced e = refl
confirmed_keeps k None None e = refl
confirmed_keeps k None (Some a) e = cond_both (a == e) (Pinned e) (Missed e)
    (λ r. (learn_sight k r).ledgers ≡ k.ledgers) (λ _. refl) (λ _. refl)

ledgers_by : (u : Bool) (k : Knowledge) (e : ℕ) → (learn_sight k
    (cond u (Labelled e) (confirmed k.brief.pin k.brief.announcement e))).ledgers ≡ cond u (label e k.ledgers) k.ledgers
ledgers_by true k e = refl
ledgers_by false k e = confirmed_keeps k k.brief.pin k.brief.announcement e

after_sight : (w : ℕ) (k : Knowledge) (e : ℕ) → (learn w k Sight (sight_of k.brief e)).ledgers ≡ ledgers_seen e k
unfolding learn
after_sight w k e = ledgers_by k.brief.unlabelled k e

epoch_found : (b : Brief) (e : ℕ) → sight_epoch (sight_of b e) ≡ Some e
epoch_found b e = cond_both b.unlabelled (Labelled e) (confirmed b.pin b.announcement e)
    (λ r. sight_epoch r ≡ Some e) (λ _. refl) (λ _. confirmed_finds b.pin b.announcement e)

pub ledgers_after : (p q : PassView) (r : Reply) (e : ℕ) → Stepped p q Sight r → IsSight (epochs p) r
    → sight_epoch r ≡ Some e → (knowledge q.view).ledgers ≡ ledgers_seen e (knowledge p.view)
ledgers_after p q r e step sight is =
    let same : sight.0 ≡ e = same_Some sight.0 e (sym (epoch_found (epochs p) sight.0)
    ∙ (sym (ap sight_epoch sight.2) ∙ is)) in
    ap (λ (k : Knowledge). k.ledgers) (known_after_step p q Sight r step)
    ∙ (ap (λ (x : Reply). (learn p.view.number (knowledge p.view) Sight x).ledgers) sight.2
    ∙ (after_sight p.view.number (knowledge p.view) sight.0 ∙ ap (λ (n : ℕ). ledgers_seen n (knowledge p.view)) same))
