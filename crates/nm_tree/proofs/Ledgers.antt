-- What queues tell of ledgers.
use Rattle.std.proofs.Common.{◌≡◌, ◌≢◌, ℕ, zero, suc, ◌+◌, inl, inr, Bool, true, false, List, [], ◌∷◌, length, refl, sym, subst, arith}
use Rattle.std.specs.Prelude.{Option, Some, None, IfSome, IfNone, if◌then◌else◌, ◌==◌, slice_index_or}
use Rattle.std.proofs.lemmas.Bool.{eqb-true, eqb-false}
use Rattle.nm_steps.specs.declared.view.View.{View}
use Rattle.nm_steps.specs.Rules.{knowledge}
use Rattle.nm_steps.specs.Steps.{PassView, IsInRun}
use Rattle.nm_epoch.specs.declared.collecting.HeldQueue.{HeldQueue}
use Rattle.nm_epoch.specs.Collecting.{IsQueueOf, AreHeld, NoneHas, capped}
use Rattle.nm_tree.specs.declared.worker.Counts.{Counts}
use Rattle.nm_tree.specs.Workers.{IsCounted, AreCounted, IsLedger, TellLedgers, QueueStandsAt, HasOrigin, counts_among, counts_in, ledger_in}
use Rattle.nm_tree.proofs.HeldLedgers.{ledger_waits, split_in_run}

capped_sum : (a f l r : ℕ) → a ≡ capped f → r ≡ f + l → capped (a + l) ≡ capped r
capped_sum a f l r was sum = omega (arith, was, sum)

module _ (p : PassView) (run : IsInRun p) where
  told : (h : HeldQueue) → IsCounted p.view h → IsQueueOf (knowledge p.view) h.origin h.queue.items
      → IsLedger p.view h.origin (counts_in h)
  told h is queue = record {
    links = is.won.links;
    flags = is.won.flags;
    splices = is.won.splices;
    retired = capped_sum h.counts.freed (length (ledger_in p.view h.origin).freed) (length h.queue.items)
        (length (ledger_in p.view h.origin).retired) is.freed (split_in_run p h.origin h.queue.items run queue);
    freed = is.freed;
    queued = sym (ledger_waits p.view h.origin h.queue.items queue);
  }

  pub all_told : (hs : List HeldQueue) → AreCounted p.view hs → AreHeld (knowledge p.view) hs → TellLedgers p.view hs
  all_told [] are held = tt
  all_told (h ∷ hs) are held = (told h are.0 held.0, all_told hs are.1 held.2)

-- the one at the own place
pub own_told : (v : View) (i o : ℕ) (hs : List HeldQueue) (h : HeldQueue) → QueueStandsAt i o hs → TellLedgers v hs
    → h ≡ slice_index_or hs i h → IsLedger v o (counts_in h)
own_told v i o [] h s are is = absurd s
own_told v zero o (g ∷ hs) h s are is = subst (λ (x : HeldQueue). IsLedger v o (counts_in x)) (sym is)
    (subst (λ (n : ℕ). IsLedger v n (counts_in g)) s are.0)
own_told v (suc i) o (g ∷ hs) h s are is = own_told v i o hs h s are.1 is

-- what is found for an origin is its ledger; and where nothing is, no queue is of that origin
pub record IsFoundFor (v : View) (o : ℕ) (hs : List HeldQueue) (found : Option Counts) : Type 0 where
  pub some' : IfSome found (IsLedger v o)
  pub held' : IfSome found (λ _. HasOrigin o hs)
  pub none' : IfNone found (NoneHas o hs)

pub found_for : (v : View) (o : ℕ) (hs : List HeldQueue) → TellLedgers v hs → IsFoundFor v o hs (counts_among hs o)
found_for v o [] are = record { some' = tt; held' = tt; none' = tt }
found_for v o (h ∷ hs) are = by (h.origin == o) refl (found_for v o hs are.1)
  where
    onward : (f : Option Counts) → (o ≢ h.origin) → IsFoundFor v o hs f → IsFoundFor v o (h ∷ hs) f
    onward None ne later = record { some' = tt; held' = tt; none' = (ne, later.none') }
    onward (Some c) ne later = record { some' = later.some'; held' = inr later.held'; none' = tt }

    by : (b : Bool) → (h.origin == o) ≡ b → IsFoundFor v o hs (counts_among hs o)
        → IsFoundFor v o (h ∷ hs) (if b then Some (counts_in h) else counts_among hs o)
    by true is later =
        let at : h.origin ≡ o = eqb-true h.origin o is in
        record { some' = subst (λ (n : ℕ). IsLedger v n (counts_in h)) at are.0; held' = inl at; none' = tt }
    by false is later = onward (counts_among hs o) (λ e. eqb-false h.origin o is (sym e)) later

-- it does not depend on what else was seen
pub told_alike : (v u : View) (hs : List HeldQueue) → TellLedgers (record v { past = u.past; stores = u.stores }) hs
    → TellLedgers v hs
told_alike v u [] are = tt
told_alike v u (h ∷ hs) are =
    let is = are.0 in (
      record {
        links = is.links;
        flags = is.flags;
        splices = is.splices;
        retired = is.retired;
        freed = is.freed;
        queued = is.queued;
      },
      told_alike v u hs are.1,
    )
