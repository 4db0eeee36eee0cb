-- What a worker is between two calls, after a call that may have changed its own queue.
use Rattle.std.proofs.Common.{◌≡◌, ◌≢◌, ℕ, zero, suc, ◌≤◌, inl, inr, Bool, false, List, [], ◌∷◌, Option, refl, sym, ap, ◌∙◌, subst}
use Rattle.std.specs.Prelude.{IsSome, unwrap_or, slice_index_or, slice_set, ◌==◌, if◌then◌else◌}
use Rattle.std.proofs.Common.{length-set}
use Rattle.std.proofs.lemmas.Bool.{ne_eqb}
use Rattle.std.proofs.lemmas.Bool.Decides.{eqb_tells}
use Rattle.nm_model.specs.declared.ledger.Ledger.{Ledger}
use Rattle.nm_model.specs.Ledgers.{held, fresh_ledger}
use Rattle.nm_model.specs.Maps.{get}
use Rattle.nm_model.specs.Walks.{Entry as LogEntry}
use Rattle.nm_steps.specs.declared.view.View.{View}
use Rattle.nm_steps.specs.Rules.{knowledge}
use Rattle.nm_steps.specs.Steps.{PassView, IsSamePass}
use Rattle.nm_epoch.specs.declared.collecting.HeldQueue.{HeldQueue}
use Rattle.nm_epoch.specs.Collecting.{AreHeld, NoneHas, IsQueueOf}
use Rattle.nm_walks.specs.Cleanups.{HoldsCuts}
use Rattle.nm_walks.specs.WonCounts.{won_links, won_flags, won_splices}
use Rattle.nm_edge.specs.declared.placement.Fit.{Fit}
use Rattle.nm_calls.specs.declared.deleting.Unfinished.{Unfinished}
use Rattle.nm_tree.specs.Workers.{WorkerView, IsAs, KeepsOtherQueues, IsWorker, IsCounted, AreCounted, AreOf, HasOrigin, QueueStandsAt, OnlyOwnLedger, log_held_of, log_among, ledger_in}
use Rattle.nm_walks.specs.Rooms.{TakesRoom}
use Rattle.nm_tree.proofs.QueueLists.{others_after, few_after, stands_there, stands_after, held_there, held_after, has_after, had_before, ascend_after, not_both, not_none, origin_at}
use Rattle.nm_tree.proofs.OwnQueue.{TellAlike, all_counted_still, counted_still, holds_own, own_counted}
use Rattle.nm_tree.proofs.Numbers.{numbers_stay, resigned_stay}

-- ---- queues of others

-- what a worker had but for its own queue it has still: v is what it held, and w as it was seen
pub others_kept : (v w : WorkerView) (home : ℕ) (q : PassView) (g : HeldQueue) → v ≡ w
    → QueueStandsAt home v.pass.view.number v.queues → g.origin ≡ q.view.number → IsSamePass v.pass q
    → KeepsOtherQueues w.pass.view.number w.queues (slice_set v.queues home g)
others_kept v w home q g seen stands own same =
    subst (λ (x : WorkerView). KeepsOtherQueues x.pass.view.number x.queues (slice_set v.queues home g)) seen
    (others_after home v.pass.view.number v.queues g stands (own ∙ ap (λ (x : PassView). x.view.number) same))

-- ---- logs and ledgers of others

other_log : (b : Bool) (x y : List LogEntry) → b ≡ false → (if b then x else y) ≡ y
other_log b x y is = let P : Bool → Type 0 = λ c. (if c then x else y) ≡ y in subst P (sym is) refl

-- the log of another worker is as it was
pub log_of_another : (p q : PassView) → IsSamePass p q → (o : ℕ) → o ≢ p.view.number
    → log_held_of q.view o ≡ log_held_of p.view o
log_of_another p q same o other =
    let is : (p.view.number == o) ≡ false = ne_eqb p.view.number o (λ e. other (sym e)) in
    let at : (q.view.number == o) ≡ false = ap (λ (x : PassView). x.view.number == o) same ∙ is in
    other_log (q.view.number == o) q.view.log (log_among o q.view.others) at
    ∙ (ap (λ (x : PassView). log_among o x.view.others) same
    ∙ sym (other_log (p.view.number == o) p.view.log (log_among o p.view.others) is))

pub ledger_of_another : (p q : PassView) → OnlyOwnLedger p q → (o : ℕ) → o ≢ p.view.number
    → ledger_in q.view o ≡ ledger_in p.view o
ledger_of_another p q others o other = ap (λ (l : Option Ledger). unwrap_or l fresh_ledger) (others o other)

-- ---- what is counted

-- another origin is told as it was
pub another_alike : (p q : PassView) → IsSamePass p q → OnlyOwnLedger p q → (o : ℕ) → o ≢ p.view.number
    → TellAlike p.view q.view o
another_alike p q same others o other =
    let log = log_of_another p q same o other in
    record {
      log = record { links = ap won_links log; flags = ap won_flags log; splices = ap won_splices log };
      ledger = ledger_of_another p q others o other;
    }

counted_there : (v : View) (i o : ℕ) (hs : List HeldQueue) (h : HeldQueue) → QueueStandsAt i o hs → AreCounted v hs
    → h ≡ slice_index_or hs i h → IsCounted v h
counted_there v i o [] h s are is = absurd s
counted_there v zero o (g ∷ hs) h s are is = subst (λ (x : HeldQueue). IsCounted v x) (sym is) are.0
counted_there v (suc i) o (g ∷ hs) h s are is = counted_there v i o hs h s are.1 is

counted_after : (p q : PassView) (i : ℕ) (hs : List HeldQueue) (g : HeldQueue) → IsSamePass p q → OnlyOwnLedger p q
    → AreHeld (knowledge p.view) hs → QueueStandsAt i p.view.number hs → IsCounted q.view g → AreCounted p.view hs
    → AreCounted q.view (slice_set hs i g)
counted_after p q i [] g same others held s is are = absurd s
counted_after p q zero (h ∷ hs) g same others held s is are =
    let none : NoneHas p.view.number hs = let P : ℕ → Type 0 = λ n. NoneHas n hs in subst P s held.1 in (
      is,
      all_counted_still p.view q.view hs (λ o has. another_alike p q same others o
          (λ e. not_both p.view.number hs (subst (λ (n : ℕ). HasOrigin n hs) e has) none)) are.1,
    )
counted_after p q (suc i) (h ∷ hs) g same others held s is are =
    let apart : h.origin ≢ p.view.number = λ e. not_none p.view.number i hs s
    (let P : ℕ → Type 0 = λ n. NoneHas n hs in subst P e held.1) in (
      counted_still p.view q.view h (another_alike p q same others h.origin apart) are.0,
      counted_after p q i hs g
          same others held.2 s is are.1,
    )

-- ---- a whole worker

-- what it holds of the own origin
pub kept_there : (w : WorkerView) (home : ℕ) (h : HeldQueue) → IsWorker w home → h ≡ slice_index_or w.queues home h
    → HoldsCuts w.pass h
kept_there w home h is there =
    holds_own w.pass h (stands_there home w.pass.view.number w.queues h is.own there)
    (held_there (knowledge w.pass.view) home w.pass.view.number w.queues h is.between.queues is.own there)
    (counted_there w.pass.view home w.pass.view.number w.queues h is.own is.counted there)

-- an origin whose ledger is held has its queue still
origin_stays : (w : WorkerView) (q : PassView) (home : ℕ) (g : HeldQueue)
    → ((o : ℕ) → IsSome (held (knowledge w.pass.view).ledgers o) → HasOrigin o w.queues) → OnlyOwnLedger w.pass q
    → QueueStandsAt home w.pass.view.number w.queues → g.origin ≡ w.pass.view.number → (o : ℕ)
    → IsSome (held (knowledge q.view).ledgers o) → HasOrigin o (slice_set w.queues home g)
origin_stays w q home g all others s own o some' =
    elim (eqb_tells o w.pass.view.number) [
      | inl own' ↦ let P : ℕ → Type 0 = λ x. HasOrigin x (slice_set w.queues home g) in
          subst P (sym own'.1) (origin_at home w.pass.view.number (slice_set w.queues home g)
          (stands_after home w.pass.view.number home w.queues g s own))
      | inr other ↦ let P : Option Ledger → Type 0 = λ l. IsSome l in
          has_after o home w.pass.view.number w.queues g s own (all o (subst P (others o other.1) some'))
    ]

-- the queues are those of the same workers
numbers_after : (v : View) (i o : ℕ) (hs : List HeldQueue) (g : HeldQueue) → QueueStandsAt i o hs → g.origin ≡ o
    → AreOf v hs → AreOf v (slice_set hs i g)
numbers_after v i o hs g s e is = record {
  each = λ x has. is.each x (had_before x i o hs g s e has);
  all = λ x has. has_after x i o hs g s e (is.all x has);
}

-- so it is a worker still, where its own queue is this one now
pub changed : {f : Fit} (w : WorkerView) (home : ℕ) (q : PassView) (n : Option Unfinished) (e : Option ℕ)
    (g : HeldQueue) → IsWorker w home → IsSamePass w.pass q
    → HoldsCuts q g → OnlyOwnLedger w.pass q → ((slot : ℕ)
    → get (knowledge q.view).drafts slot ≡ get (knowledge w.pass.view).drafts slot) → IsAs q n e
    → (h : HeldQueue) × (h ≡ slice_index_or w.queues home h) × TakesRoom h.queue g.queue
    → IsWorker (record { pass = q; queues = slice_set w.queues home g; pending = n; held = e; fit = f }) home
changed w home q n e g is same kept others private stands room =
    let number : q.view.number ≡ w.pass.view.number = ap (λ (x : PassView). x.view.number) same in
    let own : g.origin ≡ w.pass.view.number = kept.own ∙ number in
    let queue = let P : ℕ → Type 0 = λ o. IsQueueOf (knowledge q.view) o g.queue.items in subst P number kept.queue in
    record {
      between = record {
        queues = held_after (knowledge w.pass.view) (knowledge q.view) home w.pass.view.number w.queues g others
            is.own own queue is.between.queues;
        all = λ o some'. origin_stays w q home g is.between.all others is.own own o some';
        ascend = ascend_after home w.pass.view.number w.queues g is.own own is.between.ascend;
        blocks = few_after home w.pass.view.number w.queues room.0 g is.own room.1 room.2 is.between.blocks;
        private = λ slot. private slot ∙ is.between.private slot;
        stands = stands;
      };
      counted = counted_after w.pass q home w.queues g same others is.between.queues is.own (own_counted q g kept)
          is.counted;
      few = let P : ℕ → Type 0 = λ n. n ≤ 64 in subst P (sym (length-set w.queues home g)) is.few;
      own = let P : ℕ → Type 0 = λ o. QueueStandsAt home o (slice_set w.queues home g) in
          subst P (sym number) (stands_after home w.pass.view.number home w.queues g is.own own);
      numbers = numbers_stay w.pass q (slice_set w.queues home g) same
          (numbers_after w.pass.view home w.pass.view.number w.queues g is.own own is.numbers);
      resigned = resigned_stay w.pass q same is.resigned;
      alive = ap (λ (x : PassView). x.view.resigned) same ∙ is.alive;
    }
