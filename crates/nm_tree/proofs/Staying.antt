-- What a worker is between two calls, after a call that changes nothing in its hands.
use Rattle.std.proofs.Common.{◌≡◌, ℕ, inl, inr, true, false, ◌&&◌, List, [], ◌∷◌, Option, Some, None, refl, sym, ap, ◌∙◌, subst, true≢false}
use Rattle.std.specs.List.{list_all}
use Rattle.std.specs.Prelude.{IsSome, is_some, unwrap_or}
use Rattle.nm_model.specs.declared.arrivals.Call.{Call}
use Rattle.nm_model.specs.declared.event.Event.{Event}
use Rattle.nm_model.specs.declared.event.Event.TheVariants.{Look}
use Rattle.nm_model.specs.declared.knowledge.Brief.{Brief}
use Rattle.nm_model.specs.declared.ledger.Ledger.{Ledger}
use Rattle.nm_model.specs.declared.knowledge.Seen.{Seen}
use Rattle.nm_model.specs.Knowledge.{Knowledge, unread}
use Rattle.nm_model.specs.Ledgers.{held, fresh_ledger}
use Rattle.nm_model.specs.Maps.{get, has}
use Rattle.nm_model.specs.Searches.{Search, idle, look_for, searched}
use Rattle.nm_model.specs.Walks.{Entry, search_after}
use Rattle.nm_order.specs.Facts.Fact.{KnowsSlot}
use Rattle.nm_order.proofs.WalksOfRuns.{search-append}
use Rattle.nm_steps.specs.Rules.{knowledge}
use Rattle.nm_steps.specs.Steps.{PassView, IsSamePass}
use Rattle.nm_epoch.specs.declared.collecting.HeldQueue.{HeldQueue}
use Rattle.nm_epoch.specs.Collecting.{AreHeld}
use Rattle.std.proofs.lemmas.Option.{none-some}
use Rattle.nm_epoch.specs.Resting.{IsResting, IsSettled, KeepsHands, Settles, IsPinnedAt, epochs, search}
use Rattle.nm_epoch.proofs.SeveralQueues.{queue_stays}
use Rattle.nm_calls.specs.Deletes.{IsRemoving}
use Rattle.nm_walks.specs.AddedLooks.{AddsLooks, is_look}
use Rattle.nm_walks.specs.Telling.{GoesOn, IsInRun, OnlyLooks}
use Rattle.nm_edge.specs.declared.placement.Fit.{Fit}
use Rattle.nm_tree.specs.declared.worker.Standing.{Standing}
use Rattle.nm_tree.specs.declared.worker.Standing.TheVariants as standing
use Rattle.nm_calls.specs.declared.deleting.Unfinished.{Unfinished}
use Rattle.nm_tree.specs.Workers.{WorkerView, pending_in, held_in, IsAs, IsHolding, IsWorker, QueueStandsAt}
use Rattle.nm_tree.proofs.Numbers.{numbers_stay, resigned_stay}
use Rattle.nm_tree.proofs.OwnQueue.{all_counted_still, quiet_of}
use Rattle.nm_tree.proofs.Quiet.{Quiet}

-- ---- queues

-- queues of ledgers that all stay are held still
pub all_held : (k l : Knowledge) (hs : List HeldQueue) → l.ledgers ≡ k.ledgers → AreHeld k hs → AreHeld l hs
all_held k l [] same are = tt
all_held k l (h ∷ hs) same are = (
  queue_stays k l h.origin h.queue.items
      (ap (λ (ls : List (Option Ledger)). held ls h.origin) same) are.0,
  are.1,
  all_held k l hs same are.2,
)

-- ---- a whole worker

-- nothing in its hands has changed, and nothing was won
pub stays : {f : Fit} (w : WorkerView) (home : ℕ) (q : PassView) (n : Option Unfinished) (e : Option ℕ)
    → IsWorker w home → IsSamePass w.pass q → Quiet w.pass.view.log q.view.log
    → (knowledge q.view).drafts ≡ (knowledge w.pass.view).drafts
    → (knowledge q.view).ledgers ≡ (knowledge w.pass.view).ledgers → IsAs q n e
    → IsWorker (record { pass = q; queues = w.queues; pending = n; held = e; fit = f }) home
stays w home q n e is same none' drafts ledgers stands =
    let P : ℕ → Type 0 = λ number. QueueStandsAt home number w.queues in
    record {
      between = record {
        queues = all_held (knowledge w.pass.view) (knowledge q.view) w.queues ledgers is.between.queues;
        all = λ o some'. let Q : List (Option Ledger) → Type 0 = λ ls. IsSome (held ls o) in
            is.between.all o (subst Q ledgers some');
        ascend = is.between.ascend;
        blocks = is.between.blocks;
        private = λ slot. ap (λ ds. get ds slot) drafts ∙ is.between.private slot;
        stands = stands;
      };
      counted = all_counted_still w.pass.view q.view w.queues
          (λ o has. record {
            log = quiet_of w.pass q same none' o;
            ledger = ap
                (λ (ls : List (Option Ledger)). unwrap_or (held ls o) fresh_ledger) ledgers;
          }) is.counted;
      own = subst P (sym (ap (λ (x : PassView). x.view.number) same)) is.own;
      few = is.few;
      numbers = numbers_stay w.pass q w.queues same is.numbers;
      resigned = resigned_stay w.pass q same is.resigned;
      alive = ap (λ (x : PassView). x.view.resigned) same ∙ is.alive;
    }

-- ---- where it stands

-- no cut of its waits for a label
pub labelled : (p : PassView) (n : Option Unfinished) (e : Option ℕ) → IsAs p n e → (epochs p).unlabelled ≡ false
labelled p None None is = is.labelled
labelled p None (Some e) is = is.labelled
labelled p (Some n) None is = is.labelled
labelled p (Some n) (Some e) is = absurd is

pub held_at : (p : PassView) (e : ℕ) → IsPinnedAt e None p → IsHolding p e
held_at p e is = record {
  announcement = is.announcement;
  pin = is.pin;
  labelled = is.labelled;
  search = is.begun;
  known = ap (λ (m : List (ℕ × Seen)). has m 2) is.known;
}

is_some_of : (o : Option ℕ) (e : ℕ) → o ≡ Some e → IsSome o
is_some_of o e is = ap (λ (x : Option ℕ). is_some x) is

-- it is in the midst of a pin at no time
settled : (p : PassView) (n : Option Unfinished) (e : Option ℕ) → IsAs p n e → IsSettled p
settled p None None is = inr is.silent
settled p None (Some e) is = inl (is_some_of (epochs p).pin e is.pin)
settled p (Some n) None is = inl (is_some_of (epochs p).pin is.pinned.0 is.pinned.1)
settled p (Some n) (Some e) is = absurd is

-- so it stands as it stood where its pin and its call stay
pub stands_still : (p q : PassView) (n : Option Unfinished) (e : Option ℕ) → IsAs p n e → Settles p q → IsInRun q
    → IsAs q n e
stands_still p q None None is s run =
    let t = s.stays (settled p None None is) in
    record {
      unpinned = t.pin ∙ is.unpinned;
      silent = t.announcement
          ∙ is.silent;
      labelled = s.labelled;
      idle = t.search ∙ is.idle;
    }
stands_still p q None (Some e) is s run =
    let t = s.stays (settled p None (Some e) is) in
    record {
      announcement = t.announcement ∙ is.announcement;
      pin = t.pin
          ∙ is.pin;
      labelled = s.labelled;
      search = t.search
          ∙ is.search;
      known = ap (λ (m : List (ℕ × Seen)). has m 2) t.known ∙ is.known;
    }
stands_still p q (Some n) None is s run =
    let t = s.stays (settled p (Some n) None is) in
    record {
      run = run;
      pinned = (is.pinned.0, t.pin ∙ is.pinned.1);
      root = ap (λ (m : List (ℕ × Seen)). has m 1) t.known ∙ is.root;
      known = ap (λ (m : List (ℕ × Seen)). has m 2) t.known ∙ is.known;
      call = ap (λ (x : Search). x.call) t.search ∙ is.call;
      flagged = ap (λ (x : Search). x.flagged) t.search ∙ is.flagged;
      born = ap (λ (m : List (ℕ × Seen)). (unwrap_or (get m n.leaf.slot) unread).birth) t.known ∙ is.born;
      labelled = s.labelled;
    }
stands_still p q (Some n) (Some e) is s run = absurd is

-- ---- looks under the caller's pin

-- a look for no call adds nothing to its search
looks_keep : (s : Search) (es : List Entry) → s.call ≡ None → list_all is_look es ≡ true → search_after s es ≡ s
unfolding searched
looks_keep s [] none' all = refl
looks_keep s ((event, r) ∷ es) none' all = by (looks_keep s es none') event all
  where
    by : (list_all is_look es ≡ true → search_after s es ≡ s) → (e : Event)
        → (is_look (e, r) && list_all is_look es) ≡ true → search_after (searched s e r) es ≡ s
    by rest (Look slot field) all' = ap (λ (t : Search). search_after t es)
        (ap (λ (c : Option Call). look_for s c slot field r) none') ∙ rest all'
    by rest e all' = absurd (true≢false (sym all'))

pub holds_on : {n : ℕ} (p q : PassView) (e : ℕ) → IsHolding p e → GoesOn p q → OnlyLooks p q
    → AddsLooks n p.view.log q.view.log → IsHolding q e
holds_on p q e is on only looks = record {
  announcement = ap (λ (b : Brief). b.announcement) only.epochs ∙ is.announcement;
  pin = ap (λ (b : Brief). b.pin) only.epochs ∙ is.pin;
  labelled = ap (λ (b : Brief). b.unlabelled) only.epochs ∙ is.labelled;
  search = ap (search_after idle) looks.grown ∙ (search-append idle p.view.log looks.looks
      ∙ (looks_keep (search p) looks.looks (ap (λ (s : Search). s.call) is.search) looks.only ∙ is.search));
  known = on.keeps (KnowsSlot 2) is.known;
}

-- the epoch at which its caller has pinned it
pub held_as : (s : Standing) → IsSome (held_in s) → (e : ℕ) × (s ≡ standing.Held e)
held_as standing.Resting some' = absurd (true≢false (sym some'))
held_as (standing.Held e) some' = (e, refl)
held_as (standing.Pending n) some' = absurd (true≢false (sym some'))

pub holding_in : (p : PassView) (s : Standing) (e : ℕ) → s ≡ standing.Held e → IsAs p (pending_in s) (held_in s)
    → IsHolding p e
holding_in p s e is as' = let P : Standing → Type 0 = λ x. IsAs p (pending_in x) (held_in x) in subst P is as'

pub holding_as : (p : PassView) (s : Standing) (e : ℕ) → s ≡ standing.Held e → IsHolding p e
    → IsAs p (pending_in s) (held_in s)
holding_as p s e is holds = let P : Standing → Type 0 = λ x. IsAs p (pending_in x) (held_in x) in subst P (sym is) holds

-- ---- what a worker is in the midst of

-- it rests where it is not held and no delete is pending
pub resting_in : (s : Standing) → held_in s ≡ None → ((n : Unfinished) → s ≡ standing.Pending n → ⊥)
    → s ≡ standing.Resting
resting_in standing.Resting free none' = refl
resting_in (standing.Held e) free none' = absurd (cc)
resting_in (standing.Pending n) free none' = absurd (none' n refl)

pub rests_in : (p : PassView) (s : Standing) → s ≡ standing.Resting → IsAs p (pending_in s) (held_in s) → IsResting p
rests_in p s is as' = let P : Standing → Type 0 = λ x. IsAs p (pending_in x) (held_in x) in subst P is as'

pub rests_as : (p : PassView) (s : Standing) → s ≡ standing.Resting → IsResting p → IsAs p (pending_in s) (held_in s)
rests_as p s is rests = let P : Standing → Type 0 = λ x. IsAs p (pending_in x) (held_in x) in subst P (sym is) rests

-- nor does it have or win anything behind a call with which it rests again
pub stays_resting : {f g : Fit} (p q : PassView) (hs : List HeldQueue) (s : Standing) (home : ℕ) → s ≡ standing.Resting
    → IsWorker (record { pass = p; queues = hs; pending = pending_in s; held = held_in s; fit = f }) home
    → IsSamePass p q → Quiet p.view.log q.view.log → KeepsHands p q → IsResting q
    → IsWorker (record { pass = q; queues = hs; pending = pending_in s; held = held_in s; fit = g }) home
stays_resting {f} {g} p q hs s home at is same quiet hands rests =
    stays (record { pass = p; queues = hs; pending = pending_in s; held = held_in s; fit = f }) home q (pending_in s)
    (held_in s) is same quiet hands.private (hands.ledgers (rests_in p s at is.between.stands).labelled)
    (rests_as q s at rests)

-- and then no delete was pending, and none is
pub free_in : (s : Standing) → s ≡ standing.Resting → (pending_in s ≡ None) × (pending_in s ≡ None)
free_in s is = (ap pending_in is, ap pending_in is)

-- a delete is pending, and its leaf is being removed
pub removing_in : (p : PassView) (s : Standing) (n : Unfinished) → s ≡ standing.Pending n → IsRemoving p n.key n.leaf
    → IsAs p (pending_in s) (held_in s)
removing_in p s n is removing = let P : Standing → Type 0 = λ x. IsAs p (pending_in x) (held_in x) in
    subst P (sym is) removing

-- ---- a worker that has seen more

-- the same pass, which has seen what another one has seen
abbrev pub seeing : PassView → PassView → PassView
seeing q p = record p { view = record p.view { past = q.view.past; stores = q.view.stores } }

as_was : (q p : PassView) (n : Option Unfinished) (e : Option ℕ) → IsAs p n e → IsAs (seeing q p) n e
as_was q p None None is = record { unpinned = is.unpinned; silent = is.silent; labelled = is.labelled; idle = is.idle }
as_was q p None (Some e) is = record {
  announcement = is.announcement;
  pin = is.pin;
  labelled = is.labelled;
  search =
      is.search;
  known = is.known;
}
as_was q p (Some n) None is = record {
  run = record { fits = is.run.fits; run = is.run.run };
  pinned = is.pinned;
  root = is.root;
  known = is.known;
  call = is.call;
  flagged = is.flagged;
  born = is.born;
  labelled = is.labelled;
}
as_was q p (Some n) (Some e) is = absurd is

-- it has done nothing, and is a worker as it was
pub sees_more : (q : PassView) (w : WorkerView) (home : ℕ) → IsWorker w home
    → IsWorker (record w { pass = seeing q w.pass }) home
sees_more q w home is =
    stays w home (seeing q w.pass) w.pending w.held is refl (record { links = refl; flags = refl; splices = refl })
    refl refl (as_was q w.pass w.pending w.held is.between.stands)

-- a worker with no delete pending has no call
pub no_call_open : (p : PassView) (u : Option Unfinished) (e : Option ℕ) → IsAs p u e → u ≡ None
    → (search p).call ≡ None
no_call_open p None None is none' = ap (λ (s : Search). s.call) is.idle
no_call_open p None (Some e) is none' = ap (λ (s : Search). s.call) is.search
no_call_open p (Some n) e is none' = absurd (none-some n (sym none'))
