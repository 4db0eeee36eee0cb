-- Queues and what is counted of them, after a collection.
use Rattle.std.proofs.Common.{◌≡◌, ℕ, zero, suc, ◌+◌, ◌<◌, ◌≤◌, inl, inr, true, false, List, [], ◌∷◌, ◌++◌, map, length, refl, sym, ap, ◌∙◌, subst, arith}
use Rattle.std.specs.Prelude.{Bool, Option, IsSome, cond}
use Rattle.std.proofs.lemmas.List.{length-append}
use Rattle.nm_model.specs.declared.ledger.Ledger.{Ledger}
use Rattle.nm_model.specs.Ledgers.{held, label}
use Rattle.nm_model.specs.Maps.{get}
use Rattle.nm_model.specs.Walks.{Entry as LogEntry}
use Rattle.nm_steps.specs.Rules.{knowledge}
use Rattle.nm_steps.specs.Steps.{Continues, PassView, IsSamePass, IsInRun}
use Rattle.nm_epoch.specs.declared.collecting.Entry.{Entry}
use Rattle.nm_epoch.specs.declared.collecting.HeldQueue.{HeldQueue}
use Rattle.nm_epoch.specs.declared.collecting.Collected.{Collected}
use Rattle.nm_epoch.specs.declared.collecting.Tally.{Tally}
use Rattle.nm_epoch.specs.declared.handing.HandedOut.{HandedOut}
use Rattle.nm_epoch.specs.Collecting.{AreHeld, AreTrimmed, Collects, HaveLost, IsQueueOf, KeepsOtherLedgers, KeepsRetired, capped, freed_more, freeing, ripe_of, ripe_part}
use Rattle.nm_epoch.specs.Handing.{CollectsValues, HaveHandedOut, WasFound, WasRead, WereRead}
use Rattle.nm_calls.specs.HandedBack.{WasCutInner, WasCutWith}
use Rattle.nm_tree.specs.Handing.{GiveBack, WereCutWith}
use Rattle.nm_epoch.specs.Scans.{IsSightOf}
use Rattle.nm_epoch.specs.Resting.{Settles, epochs}
use Rattle.nm_walks.specs.WonCounts.{CountsWon}
use Rattle.nm_edge.specs.declared.placement.Fit.{Fit}
use Rattle.nm_epoch.proofs.OneQueue.{both_parts}
use Rattle.nm_tree.specs.Workers.{WorkerView, IsWorker, IsCounted, AreCounted, HasOrigin, AreAbove, Ascend, QueueStandsAt, log_held_of, ledger_in}
use Rattle.nm_tree.proofs.HeldLedgers.{split_in_run, retired_alike}
use Rattle.nm_tree.proofs.Numbers.{numbers_stay, resigned_stay}
use Rattle.nm_tree.proofs.OwnQueue.{quiet_of}
use Rattle.nm_tree.proofs.Quiet.{Quiet, collected as collected_quietly}
use Rattle.nm_tree.proofs.QueueLists.{few_trimmed, has_or_none, not_both}
use Rattle.nm_tree.proofs.Staying.{labelled, stands_still}

-- ---- what a collection leaves of queues

-- the queue has lost this many entries at its front, and they are added to its count of freed nodes
pub record HasShed (h g : HeldQueue) : Type 0 where
  pub count : ℕ
  pub origin : g.origin ≡ h.origin
  pub parts : count + length g.queue.items ≡ length h.queue.items
  pub counts : g.counts ≡ freed_more count h.counts

abbrev pub HaveShed : List HeldQueue → List HeldQueue → Type 0
HaveShed [] [] = Unit {0}
HaveShed (h ∷ hs) (g ∷ gs) = HasShed h g × HaveShed hs gs
HaveShed _ _ = ⊥

-- all that was ripe
pub have_lost : (epoch : ℕ) (hs gs : List HeldQueue) → HaveLost epoch hs gs → HaveShed hs gs
have_lost epoch [] [] lost = tt
have_lost epoch [] (g ∷ gs) lost = absurd lost
have_lost epoch (h ∷ hs) [] lost = absurd lost
have_lost epoch (h ∷ hs) (g ∷ gs) lost = (
  record {
    count = length (ripe_part epoch h.queue.items);
    origin = lost.0.origin;
    parts = ap (λ (es : List Entry). length (ripe_part epoch h.queue.items) + length es) lost.0.items
        ∙ both_parts epoch h.queue.items;
    counts = lost.0.counts;
  },
  have_lost epoch hs gs lost.1,
)

-- what was handed out: each value that was read for a leaf is one with which the leaf was cut off
were_cut : (o : ℕ) (p q : PassView) (es : List Entry) (vs : List ℕ)
    → ((e : Entry) (v : ℕ) → WasRead o p q e v → WasCutWith q.view.layout q.view.past q.view.stores e.node v)
    → ((e : Entry) → WasFound o p q e false → WasCutInner q.view.layout q.view.past e.node) → WereRead o p q es vs
    → WereCutWith q.view es vs
were_cut o p q [] vs back inner r = r
were_cut o p q (e ∷ es) vs back inner (inl (other, rest)) = inl (inner e other, were_cut o p q es vs back inner rest)
were_cut o p q (e ∷ es) vs back inner (inr (v, later, are, one, rest)) = inr
    (v, later, are, back e v one, were_cut o p q es later back inner rest)

pub gives_back : (epoch : ℕ) (p q : PassView) (hs gs : List HeldQueue) (es : List Entry) (vs : List ℕ)
    → ((o : ℕ) (e : Entry) (v : ℕ) → WasRead o p q e v → WasCutWith q.view.layout q.view.past q.view.stores e.node v)
    → ((o : ℕ) (e : Entry) → WasFound o p q e false → WasCutInner q.view.layout q.view.past e.node)
    → HaveHandedOut epoch p q hs gs es vs → GiveBack epoch q.view hs gs es vs
gives_back epoch p q [] [] es vs back inner d = d
gives_back epoch p q [] (g ∷ gs) es vs back inner d = absurd d
gives_back epoch p q (h ∷ hs) [] es vs back inner d = absurd d
gives_back epoch p q (h ∷ hs) (g ∷ gs) es vs back inner (fs, ws, more, later, freed, values, one, rest) = (
  fs,
  ws,
  more,
  later,
  freed,
  values,
  record {
    parts = one.parts;
    ripe = one.ripe;
    back = were_cut h.origin p q fs ws (back h.origin)
        (inner h.origin) one.read;
    origin = one.origin;
    counts = one.counts;
  },
  gives_back epoch p q hs gs more later back inner rest,
)

pub have_handed : (epoch : ℕ) (p q : PassView) (hs gs : List HeldQueue) (es : List Entry) (vs : List ℕ)
    → HaveHandedOut epoch p q hs gs es vs → HaveShed hs gs
have_handed epoch p q [] [] es vs d = tt
have_handed epoch p q [] (g ∷ gs) es vs d = absurd d
have_handed epoch p q (h ∷ hs) [] es vs d = absurd d
have_handed epoch p q (h ∷ hs) (g ∷ gs) es vs (fs, ws, more, later, freed, values, one, rest) = (
  record {
    count = length fs;
    origin = one.origin;
    parts = (let sum = length-append fs g.queue.items in
        let all : length h.queue.items ≡ length (fs ++ g.queue.items) = ap (λ (l : List Entry). length l) one.parts in
        omega (arith, sum, all));
    counts = one.counts;
  },
  have_handed epoch p q hs gs more later rest,
)

-- ---- the same origins

has_still : (o : ℕ) (hs gs : List HeldQueue) → HaveShed hs gs → HasOrigin o hs → HasOrigin o gs
has_still o [] gs lost has = absurd has
has_still o (h ∷ hs) [] lost has = absurd lost
has_still o (h ∷ hs) (g ∷ gs) lost (inl is) = inl (lost.0.origin ∙ is)
has_still o (h ∷ hs) (g ∷ gs) lost (inr has) = inr (has_still o hs gs lost.1 has)

had_it : (o : ℕ) (hs gs : List HeldQueue) → HaveShed hs gs → HasOrigin o gs → HasOrigin o hs
had_it o hs [] lost has = absurd has
had_it o [] (g ∷ gs) lost has = absurd lost
had_it o (h ∷ hs) (g ∷ gs) lost (inl is) = inl (sym lost.0.origin ∙ is)
had_it o (h ∷ hs) (g ∷ gs) lost (inr has) = inr (had_it o hs gs lost.1 has)

above_still : (o : ℕ) (hs gs : List HeldQueue) → HaveShed hs gs → AreAbove o hs → AreAbove o gs
above_still o [] [] lost above = tt
above_still o [] (g ∷ gs) lost above = absurd lost
above_still o (h ∷ hs) [] lost above = absurd lost
above_still o (h ∷ hs) (g ∷ gs) lost above = let P : ℕ → Type 0 = λ n. (o < n) × AreAbove n gs in
    subst P (sym lost.0.origin) (above.0, above_still h.origin hs gs lost.1 above.1)

ascend_still : (hs gs : List HeldQueue) → HaveShed hs gs → Ascend hs → Ascend gs
ascend_still [] [] lost up = tt
ascend_still [] (g ∷ gs) lost up = absurd lost
ascend_still (h ∷ hs) [] lost up = absurd lost
ascend_still (h ∷ hs) (g ∷ gs) lost up = let P : ℕ → Type 0 = λ n. AreAbove n gs in
    subst P (sym lost.0.origin) (above_still h.origin hs gs lost.1 up)

stands_still_at : (i o : ℕ) (hs gs : List HeldQueue) → HaveShed hs gs → QueueStandsAt i o hs → QueueStandsAt i o gs
stands_still_at i o [] gs lost s = absurd s
stands_still_at i o (h ∷ hs) [] lost s = absurd lost
stands_still_at zero o (h ∷ hs) (g ∷ gs) lost s = lost.0.origin ∙ s
stands_still_at (suc i) o (h ∷ hs) (g ∷ gs) lost s = stands_still_at i o hs gs lost.1 s

pub as_many_queues : (hs gs : List HeldQueue) → HaveShed hs gs → length hs ≡ length gs
as_many_queues [] [] lost = refl
as_many_queues [] (g ∷ gs) lost = absurd lost
as_many_queues (h ∷ hs) [] lost = absurd lost
as_many_queues (h ∷ hs) (g ∷ gs) lost = ap suc (as_many_queues hs gs lost.1)

-- ---- what is held

seen_quietly : (u : Bool) (epoch : ℕ) (ls : List (Option Ledger)) → u ≡ false → cond u (label epoch ls) ls ≡ ls
seen_quietly true epoch ls is = absurd (cc)
seen_quietly false epoch ls is = refl

all_still : (epoch : ℕ) (p q : PassView) (hs gs : List HeldQueue) → (epochs p).unlabelled ≡ false → HaveShed hs gs
    → KeepsOtherLedgers epoch hs (knowledge p.view) (knowledge q.view)
    → ((o : ℕ) → IsSome (held (knowledge p.view).ledgers o) → HasOrigin o hs) → (o : ℕ)
    → IsSome (held (knowledge q.view).ledgers o) → HasOrigin o gs
all_still epoch p q hs gs labelled lost others all o some' =
    elim (has_or_none o hs) [
      | inl has ↦ has_still o hs gs lost has
      | inr none' ↦
          let same : held (knowledge q.view).ledgers o ≡ held (knowledge p.view).ledgers o =
          others o none' ∙ ap (λ (ls : List (Option Ledger)). held ls o)
          (seen_quietly (knowledge p.view).brief.unlabelled epoch (knowledge p.view).ledgers labelled) in
          let P : Option Ledger → Type 0 = λ l. IsSome l in
          absurd (not_both o hs (all o (subst P same some')) none')
    ]

-- ---- what is counted

freed_more_capped : (a f g r s h i n : ℕ) → a ≡ capped f → r ≡ f + h → s ≡ g + i → s ≡ r → n + i ≡ h
    → capped (a + n) ≡ capped g
freed_more_capped a f g r s h i n was old new same parts = omega (arith, was, old, new, same, parts)

freed_counted : (p q : PassView) (h g : HeldQueue) → IsSamePass p q → IsInRun p → IsInRun q
    → Quiet p.view.log q.view.log → KeepsRetired (knowledge p.view) (knowledge q.view)
    → IsQueueOf (knowledge p.view) h.origin h.queue.items → IsQueueOf (knowledge q.view) g.origin g.queue.items
    → HasShed h g → IsCounted p.view h → IsCounted q.view g
freed_counted p q h g same begun run quiet' retired was is lost old =
    let there : IsQueueOf (knowledge q.view) h.origin g.queue.items =
    let P : ℕ → Type 0 = λ o. IsQueueOf (knowledge q.view) o g.queue.items in subst P lost.origin is in
    let log = quiet_of p q same quiet' h.origin in
    let parts : lost.count + length g.queue.items ≡ length h.queue.items = lost.parts in
    let all = freed_more_capped h.counts.freed (length (ledger_in p.view h.origin).freed)
    (length (ledger_in q.view h.origin).freed) (length (ledger_in p.view h.origin).retired)
    (length (ledger_in q.view h.origin).retired)
    (length h.queue.items) (length g.queue.items) (lost.count) old.freed
    (split_in_run p h.origin h.queue.items begun was) (split_in_run q h.origin g.queue.items run there)
    (retired_alike p.view q.view h.origin h.queue.items g.queue.items was there (retired h.origin)) parts in
    let P : ℕ → Tally → Type 0 = λ o t. CountsWon (log_held_of q.view o) t
    × (t.freed ≡ capped (length (ledger_in q.view o).freed)) in
    let won : CountsWon (log_held_of q.view h.origin) h.counts =
    record {
      links = old.won.links ∙ ap capped (sym log.links);
      flags = old.won.flags
          ∙ ap capped (sym log.flags);
      splices = old.won.splices ∙ ap capped (sym log.splices);
    } in
    let here : P h.origin (freed_more (lost.count) h.counts) =
    (record { links = won.links; flags = won.flags; splices = won.splices }, all) in
    let there' : P g.origin g.counts = subst (λ (t : Tally). P g.origin t) (sym lost.counts)
    (subst (λ (o : ℕ). P o (freed_more (lost.count) h.counts)) (sym lost.origin) here) in
    record { won = there'.0; freed = there'.1 }

all_freed_counted : (p q : PassView) (hs gs : List HeldQueue) → IsSamePass p q → IsInRun p → IsInRun q
    → Quiet p.view.log q.view.log → KeepsRetired (knowledge p.view) (knowledge q.view)
    → AreHeld (knowledge p.view) hs → AreHeld (knowledge q.view) gs → HaveShed hs gs → AreCounted p.view hs
    → AreCounted q.view gs
all_freed_counted p q [] [] same begun run quiet' retired was is lost are = tt
all_freed_counted p q [] (g ∷ gs) same begun run quiet' retired was is lost are = absurd lost
all_freed_counted p q (h ∷ hs) [] same begun run quiet' retired was is lost are = absurd lost
all_freed_counted p q (h ∷ hs) (g ∷ gs) same begun run quiet' retired was is lost are = (
  freed_counted p q h g same begun run quiet' retired was.0 is.0 lost.0 are.0,
  all_freed_counted p q hs gs same
      begun run quiet' retired was.2 is.2 lost.1 are.1,
)

-- ---- a whole worker

-- a worker that was in a run, after a collection of all its queues: it freed these nodes, after a sight
-- of this epoch
shed : {f : Fit} (w : WorkerView) (home epoch : ℕ) (q : PassView) (gs : List HeldQueue) (es : List Entry)
    → IsWorker w home → IsInRun w.pass → Continues w.pass q → HaveShed w.queues gs → AreTrimmed w.queues gs
    → AreHeld (knowledge q.view) gs
    → (part : (mid : List LogEntry) × IsSightOf epoch w.pass.view.log mid × (q.view.log ≡ mid ++ map freeing es))
    → KeepsOtherLedgers epoch w.queues (knowledge w.pass.view) (knowledge q.view)
    → KeepsRetired (knowledge w.pass.view) (knowledge q.view) → Settles w.pass q
    → (knowledge q.view).drafts ≡ (knowledge w.pass.view).drafts
    → IsWorker (record { pass = q; queues = gs; pending = w.pending; held = w.held; fit = f }) home
shed {f} w home epoch q gs es is begun on lost trimmed queues part others retired settles private' =
    let same = on.same in
    let was = is.between.stands in
    let quiet' : Quiet w.pass.view.log q.view.log = collected_quietly w.pass.view.log part.0 q.view.log part.1.0 es
    part.1.2 part.2 in
    let P : ℕ → Type 0 = λ o. QueueStandsAt home o gs in
    record {
      between = record {
        queues = queues;
        all = all_still epoch w.pass q w.queues gs (labelled w.pass w.pending w.held was) lost others is.between.all;
        ascend = ascend_still w.queues gs lost is.between.ascend;
        blocks = few_trimmed w.queues gs trimmed;
        private = λ slot. ap (λ ds. get ds slot) private' ∙ is.between.private slot;
        stands = stands_still w.pass q w.pending w.held was settles on.run;
      };
      counted = all_freed_counted w.pass q w.queues gs same begun on.run quiet' retired is.between.queues queues lost
          is.counted;
      few = let F : ℕ → Type 0 = λ n. n ≤ 64 in subst F (as_many_queues w.queues gs lost) is.few;
      own = subst P (sym (ap (λ (x : PassView). x.view.number) same))
          (stands_still_at home w.pass.view.number w.queues gs lost is.own);
      numbers = numbers_stay w.pass q gs same (record {
        each = λ o has. is.numbers.each o (had_it o w.queues gs lost has);
        all = λ o has. has_still o w.queues gs
            lost (is.numbers.all o has);
      });
      resigned = resigned_stay w.pass q same is.resigned;
      alive = ap (λ (x : PassView). x.view.resigned) same ∙ is.alive;
    }

pub collected : {nodes : ℕ} {f : Fit} {c : Collected} (w : WorkerView) (home : ℕ) (q : PassView)
    (gs : List HeldQueue) → IsWorker w home → IsInRun w.pass → Collects nodes w.pass q w.queues gs c
    → IsWorker (record { pass = q; queues = gs; pending = w.pending; held = w.held; fit = f }) home
collected {c = c} w home q gs is begun does =
    shed w home c.epoch q gs (ripe_of c.epoch w.queues) is begun does.on (have_lost c.epoch w.queues gs does.lost)
    does.blocks does.queues does.part does.others does.retired does.settles does.private

pub handed_out : {nodes : ℕ} {f : Fit} {c : HandedOut} {room : Bool} {vs : List ℕ} (w : WorkerView) (home : ℕ)
    (q : PassView) (gs : List HeldQueue) → IsWorker w home → IsInRun w.pass
    → CollectsValues nodes room w.pass q w.queues gs vs c
    → IsWorker (record { pass = q; queues = gs; pending = w.pending; held = w.held; fit = f }) home
handed_out {c = c} {vs = vs} w home q gs is begun does =
    shed w home c.epoch q gs does.freed is begun does.on
    (have_handed c.epoch w.pass q w.queues gs does.freed vs does.handed) does.blocks does.queues does.part
    does.others does.retired does.settles does.private
