-- The front of a held queue: it may be freed, and what the worker knows then.
use Rattle.std.proofs.Common.{◌≡◌, ◌≢◌, ℕ, zero, suc, ◌+◌, ◌≤◌, ◌==◌, Bool, true, false, cond, ◌||◌, List, [], ◌∷◌, map, drop, refl, sym, ap, subst, ◌∙◌, arith}
use Rattle.std.specs.Prelude.{Option, Some, None, is_some, is_none, option_map, slice_get}
use Rattle.std.proofs.lemmas.Bool.{cond-true, cond-false, eq-eqb, eqb-true, le-ltb}
use Rattle.std.proofs.lemmas.Option.{none-some, same_Some}
use Rattle.nm_edge.specs.declared.node.NodeId.{NodeId}
use Rattle.nm_model.specs.declared.event.Event.TheVariants.{Give}
use Rattle.nm_model.specs.declared.ledger.Ledger.{Ledger}
use Rattle.nm_model.specs.declared.ledger.Queued.{Queued}
use Rattle.nm_model.specs.declared.reply.Refused.TheVariants.{NoSlot, NotPrivate, NotReady, NotFront, TooYoung}
use Rattle.nm_model.specs.declared.reply.Reply.TheVariants.{Returned, Freed}
use Rattle.nm_model.specs.Knowledge.{Knowledge, is_private}
use Rattle.nm_model.specs.Ledgers.{held, queue_of, front_at, front_of, queued_entry, with_freed, free}
use Rattle.nm_model.specs.Maps.{or_else}
use Rattle.nm_model.specs.Searches.{searched}
use Rattle.nm_model.specs.Step.{refusal, outside, first, free_checks, has_no_label, is_young, node_of}
use Rattle.nm_laws.proofs.Held.{Front, front, entry_is_front}
use Rattle.nm_laws.proofs.Learned.{learn_freed}
use Rattle.nm_steps.specs.Rules.{knowledge}
use Rattle.nm_steps.specs.Steps.{PassView, MayStep, Stepped, give_reply}
use Rattle.nm_steps.proofs.Presence.{known_push}
use Rattle.nm_steps.proofs.Extending.{neither}
use Rattle.nm_epoch.specs.declared.collecting.Entry.{Entry}
use Rattle.nm_epoch.specs.Resting.{epochs, search}
use Rattle.nm_epoch.specs.Collecting.{queued, IsQueueOf, KeepsRetired}
use Rattle.nm_order.specs.Hands.{WaitsAt, AreApart}
use Rattle.nm_epoch.proofs.Allowed.{passes}
use Rattle.nm_epoch.proofs.Entries.{epochs_after, search_is}
use Rattle.nm_model.proofs.Checks.{not_outside, passes_then}

-- ---- lists alone

-- the only front of a slot is the one that a give finds
front_found : (ls : List (Option Ledger)) (o s : ℕ) (e : Queued) → front_at (queue_of (held ls o)) s ≡ Some e
    → ((p : ℕ) (f : Queued) → front_at (queue_of (held ls p)) s ≡ Some f → p ≡ o) → front_of ls s ≡ Some e
front_found [] o s e at alone = absurd (none-some e at)
front_found (l ∷ ls) zero s e at alone = ap (λ (x : Option Queued). or_else x (front_of ls s)) at
front_found (l ∷ ls) (suc o) s e at alone = go (front_at (queue_of l) s) refl
    (front_found ls o s e at (λ p f h. let same : suc p ≡ suc o = alone (suc p) f h in omega (arith, same)))
  where
    go : (x : Option Queued) → front_at (queue_of l) s ≡ x → front_of ls s ≡ Some e → or_else x (front_of ls s) ≡ Some e
    go None is later = later
    go (Some f) is later = absurd (let same : 0 ≡ suc o = alone 0 f is in omega (arith, same))

front_waits : (q : List Queued) (s : ℕ) (e : Queued) → front_at q s ≡ Some e
    → (slice_get q 0 ≡ Some e) × (e.node.slot ≡ s)
front_waits [] s e at = absurd (none-some e at)
front_waits (x ∷ q) s e at = by (x.node.slot == s) refl at
  where
    by : (b : Bool) → (x.node.slot == s) ≡ b → cond b (Some x) None ≡ Some e
        → (slice_get (x ∷ q) 0 ≡ Some e) × (e.node.slot ≡ s)
    by true i h = (h, ap (λ (y : Queued). y.node.slot) (sym (same_Some x e h)) ∙ eqb-true _ s i)
    by false i h = absurd (none-some e h)

abbrev queue_in : Option Ledger → Option (List Queued)
queue_in h = option_map (λ (l : Ledger). l.queue) h

pub shown_queue : (h : Option Ledger) (q : List Queued) → queue_in h ≡ Some q → queue_of h ≡ q
shown_queue None q is = absurd (none-some q is)
shown_queue (Some l) q is = same_Some l.queue q is

-- a node that is freed was retired, and stays so
abbrev retired_in : Option Ledger → Option (List NodeId)
retired_in h = option_map (λ (l : Ledger). l.retired) h

retired_by : (b : Bool) (l : Option Ledger) (ls : List (Option Ledger)) (n : NodeId)
    → ((j : ℕ) → retired_in (held (free ls n) j) ≡ retired_in (held ls j))
    → (j : ℕ) → retired_in (held (cond b (option_map (with_freed n) l ∷ ls) (l ∷ free ls n)) j)
    ≡ retired_in (held (l ∷ ls) j)
retired_by true None ls n later zero = refl
retired_by true (Some l) ls n later zero = refl
retired_by true l ls n later (suc j) = refl
retired_by false l ls n later zero = refl
retired_by false l ls n later (suc j) = later j

retired_freed : (ls : List (Option Ledger)) (n : NodeId) (j : ℕ)
    → retired_in (held (free ls n) j) ≡ retired_in (held ls j)
retired_freed [] n j = refl
retired_freed (l ∷ ls) n j = retired_by (is_some (front_at (queue_of l) n.slot)) l ls n (retired_freed ls n) j

-- ---- the front of a held queue

module _ (p : PassView) (o : ℕ) (x : Entry) (es : List Entry) (has : IsQueueOf (knowledge p.view) o (x ∷ es))
    (apart : AreApart p.view.layout (knowledge p.view)) where
  abbrev k : Knowledge
  k = knowledge p.view

  abbrev s : ℕ
  s = x.node.slot

  queue_is : queue_of (held k.ledgers o) ≡ queued x ∷ map queued es
  queue_is = shown_queue (held k.ledgers o) (queued x ∷ map queued es) has

  at_front : front_at (queue_of (held k.ledgers o)) s ≡ Some (queued x)
  at_front = ap (λ (q : List Queued). front_at q s) queue_is
      ∙ cond-true (s == s) (Some (queued x)) None (eq-eqb s s refl)

  waits : WaitsAt k o 0 (queued x)
  waits = ap (λ (q : List Queued). slice_get q 0) queue_is

  alone : (j : ℕ) (f : Queued) → front_at (queue_of (held k.ledgers j)) s ≡ Some f → j ≡ o
  alone j f at = let w = front_waits (queue_of (held k.ledgers j)) s f at in
      (apart.once j o 0 0 f (queued x) w.0 waits w.1).0

  found : front_of k.ledgers s ≡ Some (queued x)
  found = front_found k.ledgers o s (queued x) at_front alone

  entry : queued_entry k.ledgers s ≡ Some (queued x)
  entry = entry_is_front k.ledgers s (queued x) found

  -- it may be freed, once it is ripe
  pub may_free : (epoch : ℕ) → k.brief.seen ≡ Some epoch → x.label + 2 ≤ epoch → MayStep p (Give s)
  unfolding refusal
  may_free epoch seen ripe = record {
    looked = tt;
    allowed = λ m h. passes_then (outside 6 p.view.layout.nodes s) NoSlot _
        (let range = apart.waiting o 0 (queued x) waits in not_outside 6 p.view.layout.nodes s range.0 range.1)
        (ap (λ (b : Bool). first (cond b [] (free_checks k s))) (apart.shared o 0 (queued x) waits)
        ∙ passes_then (is_none (queued_entry k.ledgers s)) NotPrivate _ (ap (λ (y : Option Queued). is_none y) entry)
        (passes_then (is_none k.brief.seen || has_no_label (queued_entry k.ledgers s)) NotReady _
        (neither (is_none k.brief.seen) (has_no_label (queued_entry k.ledgers s))
        (ap (λ (y : Option ℕ). is_none y) seen) (ap has_no_label entry))
        (passes_then (is_none (front_of k.ledgers s)) NotFront _ (ap (λ (y : Option Queued). is_none y) found)
        (passes (is_young (front_of k.ledgers s) k.brief.seen) TooYoung
        (ap (λ (y : Option Queued). is_young y k.brief.seen) found
        ∙ (ap (λ (y : Option ℕ). is_young (Some (queued x)) y) seen ∙ le-ltb epoch (x.label + 2) ripe))))));
    ordered = refl;
    births = tt;
    key = tt;
  }

  pub freed_reply : give_reply p.view s ≡ Freed x.node
  freed_reply =
      cond-false (is_private k s) (Returned s) (Freed (node_of (front_of k.ledgers s)))
      (apart.shared o 0 (queued x) waits)
      ∙ ap (λ (y : Option Queued). Freed (node_of y)) found

  -- ---- after the step

  module _ (q : PassView) (step : Stepped p q (Give s) (Freed x.node)) where
    learned : knowledge q.view ≡ record k { ledgers = free k.ledgers x.node }
    learned = ap (λ (y : PassView). knowledge y.view) step
        ∙ (known_push p.view.number p.view.layout p.view.log (Give s, Freed x.node)
        ∙ learn_freed p.view.number k s x.node)

    ledgers_are : (knowledge q.view).ledgers ≡ free k.ledgers x.node
    ledgers_are = ap (λ (y : Knowledge). y.ledgers) learned

    f : Front k.ledgers s (queued x) x.node
    f = front k.ledgers s (queued x) x.node refl found

    origin_is : f.origin ≡ o
    origin_is = (apart.once f.origin o 0 0 (queued x) (queued x)
        (ap (λ (y : Option Ledger). slice_get (queue_of y) 0) f.is_held
        ∙ ap (λ (r : List Queued). slice_get r 0) f.queue) waits refl).0

    held_before : held k.ledgers o ≡ Some f.ledger
    held_before = subst (λ (j : ℕ). held k.ledgers j ≡ Some f.ledger) origin_is f.is_held

    held_after : held (knowledge q.view).ledgers o ≡ Some (with_freed x.node f.ledger)
    held_after = ap (λ (ls : List (Option Ledger)). held ls o) ledgers_are
        ∙ subst (λ (j : ℕ). held (free k.ledgers x.node) j ≡ Some (with_freed x.node f.ledger)) origin_is f.after

    ledger_queue : f.ledger.queue ≡ queued x ∷ map queued es
    ledger_queue = sym (ap (λ (y : Option Ledger). queue_of y) held_before) ∙ queue_is

    pub queue_after : IsQueueOf (knowledge q.view) o es
    queue_after = ap (λ (y : Option Ledger). queue_in y) held_after
        ∙ ap (λ (r : List Queued). Some (drop 1 r)) ledger_queue

    pub others_after : (j : ℕ) → j ≢ o → held (knowledge q.view).ledgers j ≡ held k.ledgers j
    others_after j ne = ap (λ (ls : List (Option Ledger)). held ls j) ledgers_are ∙ f.others j (λ e. ne (e ∙ origin_is))

    pub retired_stays : KeepsRetired k (knowledge q.view)
    retired_stays j = ap (λ (ls : List (Option Ledger)). retired_in (held ls j)) ledgers_are
        ∙ retired_freed k.ledgers x.node j

    pub nodes_stay : (knowledge q.view).known ≡ k.known
    nodes_stay = ap (λ (y : Knowledge). y.known) learned

    pub private_stay : (knowledge q.view).drafts ≡ k.drafts
    private_stay = ap (λ (y : Knowledge). y.drafts) learned

    pub epochs_stay : epochs q ≡ epochs p
    epochs_stay = epochs_after p q (Give s) (Freed x.node) step

    pub search_stays : search q ≡ search p
    unfolding searched
    search_stays = search_is p q (Give s) (Freed x.node) step
