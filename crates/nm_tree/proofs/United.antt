-- What a worker is that stands for another one too.
use Rattle.std.proofs.Common.{◌≡◌, ℕ, ◌+◌, ◌≤◌, ◌⊎◌, ◌==◌, inl, inr, Bool, true, cond, List, [], ◌∷◌, ◌++◌, length, refl, sym, ap, ◌∙◌, subst, arith}
use Rattle.std.specs.Prelude.{Option, Some, None, IsSome}
use Rattle.std.proofs.lemmas.Bool.{cond-true, eq-eqb}
use Rattle.std.proofs.lemmas.Option.{none-some}
use Rattle.nm_edge.specs.Layouts.{Layout}
use Rattle.nm_model.specs.declared.event.Event.TheVariants.{Join}
use Rattle.nm_model.specs.declared.knowledge.Draft.{Draft}
use Rattle.nm_model.specs.declared.ledger.Ledger.{Ledger}
use Rattle.nm_model.specs.declared.reply.Reply.TheVariants.{Joined}
use Rattle.nm_model.specs.Knowledge.{Knowledge}
use Rattle.nm_model.specs.Learning.{learn, resigned, inheriting}
use Rattle.nm_model.specs.Ledgers.{held}
use Rattle.nm_model.specs.Maps.{get}
use Rattle.nm_model.specs.Searches.{Search, searched, idle}
use Rattle.nm_model.proofs.Tables.{at_eqb}
use Rattle.nm_order.specs.Logs.{known_by}
use Rattle.nm_order.proofs.HeldSlots.{hands_are_apart}
use Rattle.nm_order.proofs.LastEntries.{search_more}
use Rattle.nm_steps.specs.declared.view.Held.{Held}
use Rattle.nm_steps.specs.declared.view.View.{View}
use Rattle.nm_steps.specs.Rules.{held_log, knowledge, passing, joined}
use Rattle.nm_steps.specs.Steps.{PassView, HasEmptyHands, IsInRun}
use Rattle.nm_steps.specs.Ties.{StandsInRun}
use Rattle.nm_steps.proofs.Presence.{known_push}
use Rattle.nm_epoch.specs.declared.collecting.HeldQueue.{HeldQueue}
use Rattle.nm_epoch.specs.Collecting.{AreHeld}
use Rattle.nm_epoch.specs.Resting.{Settles, search}
use Rattle.nm_epoch.proofs.FewQueues.{few}
use Rattle.nm_tree.specs.Workers.{WorkerView, IsBetweenCalls, IsWorker, HasNumber, HasOrigin, HoldNoSlot}
use Rattle.nm_tree.specs.Resigning.{place_in, merged}
use Rattle.nm_tree.proofs.Heirs.{logs, knows, first_held, second_held, none_apart, first_alike, second_alike, held_by_one}
use Rattle.nm_tree.proofs.Merging.{length-merged, has_merged, merged_has, ascend_merged, held_merged, counted_merged, stands_at_place}
use Rattle.nm_tree.proofs.OwnQueue.{all_counted_still}
use Rattle.nm_tree.proofs.QueueLists.{few_merged}
use Rattle.nm_tree.proofs.Staying.{labelled, stands_still}

-- ---- what a worker that resigns must have

pub no_drafts : (ds : List (ℕ × Draft)) → ((slot : ℕ) → get ds slot ≡ None) → length ds ≡ 0
no_drafts [] none' = refl
no_drafts (d ∷ ds) none' = absurd (none-some d.1 (sym (none' d.0) ∙ first (at_eqb d.0 d.0 ∙ eq-eqb d.0 d.0 refl)))
  where
    first : {b : Bool} → b ≡ true → cond b (Some d.1) (get ds d.0) ≡ Some d.1
    first {b} is = let P : Bool → Type 0 = λ c. cond c (Some d.1) (get ds d.0) ≡ Some d.1 in subst P (sym is) refl

pub empty_hands : (u : WorkerView) → IsBetweenCalls u → HasEmptyHands (knowledge u.pass.view)
empty_hands u is = record {
  drafts = no_drafts (knowledge u.pass.view).drafts is.private;
  labelled = labelled u.pass
      u.pending u.held is.stands;
}

-- ---- how many queues it has

pub few_own : (p : WorkerView) (home : ℕ) → IsWorker p home → IsInRun p.pass
    → length p.queues ≤ p.pass.view.layout.workers
few_own p home is run =
    let L = p.pass.view.layout in
    few L (knowledge p.pass.view) (hands_are_apart L (let least = run.fits.least in omega (arith, least))
    p.pass.view.number p.pass.view.log run.run.is_part) p.queues is.between.queues

-- ---- who has resigned

gone : (w : View) → known_by w.layout w.number (w.log ++ passing w ∷ []) ≡ resigned (knowledge w)
unfolding learn
gone w = known_push w.number w.layout w.log (passing w)
    ∙ cond-true (w.number == w.number) (resigned (knowledge w)) (inheriting (knowledge w) (knowledge w).ledgers)
    (eq-eqb w.number w.number refl)

-- to a worker that resigned with empty hands no slot is private
pub no_slot : (w : View) → HasEmptyHands (knowledge w)
    → length (known_by w.layout w.number (w.log ++ passing w ∷ [])).drafts ≡ 0
no_slot w hands = ap (λ (k : Knowledge). length k.drafts) (gone w) ∙ hands.drafts

hold_no_slot : (L : Layout) (hs gs : List Held) → HoldNoSlot L hs → HoldNoSlot L gs → HoldNoSlot L (hs ++ gs)
hold_no_slot L [] gs first second = second
hold_no_slot L (h ∷ hs) gs first second = (first.0, hold_no_slot L hs gs first.1 second)

-- ---- both

not_searched : (s : Search) (o : ℕ) (ls : List (Option Ledger)) → searched s (Join o) (Joined ls) ≡ s
unfolding searched
not_searched s o ls = refl

has_logs : (v w : View) (o : ℕ) → HasNumber o (logs v) ⊎ HasNumber o (logs w) → HasNumber o (logs (joined v w))
has_logs v w o (inl (inl is)) = inl is
has_logs v w o (inl (inr has)) = inr (front v.others has)
  where
    front : (hs : List Held) → HasNumber o hs → HasNumber o
        (hs ++ held_log w.number (w.log ++ passing w ∷ []) ∷ w.others)
    front [] has' = absurd has'
    front (h ∷ hs) (inl is) = inl is
    front (h ∷ hs) (inr has') = inr (front hs has')
has_logs v w o (inr has) = inr (back v.others)
  where
    back : (hs : List Held) → HasNumber o (hs ++ held_log w.number (w.log ++ passing w ∷ []) ∷ w.others)
    back [] = has
    back (h ∷ hs) = inr (back hs)

logs_have : (v w : View) (o : ℕ) → HasNumber o (logs (joined v w)) → HasNumber o (logs v) ⊎ HasNumber o (logs w)
logs_have v w o (inl is) = inl (inl is)
logs_have v w o (inr has) = elim (part v.others has) [
  | inl front ↦ inl (inr front)
  | inr back ↦ inr back
]
  where
    part : (hs : List Held) → HasNumber o (hs ++ held_log w.number (w.log ++ passing w ∷ []) ∷ w.others)
        → HasNumber o hs ⊎ HasNumber o (logs w)
    part [] has' = inr has'
    part (h ∷ hs) (inl is) = inl (inl is)
    part (h ∷ hs) (inr has') = elim (part hs has') [
      | inl front ↦ inl (inr front)
      | inr back ↦ inr back
    ]

module _ (p u : WorkerView) (home home' : ℕ) (is : IsWorker p home) (more : IsWorker u home')
    (same : p.pass.view.layout ≡ u.pass.view.layout)
    (run : StandsInRun (joined p.pass.view u.pass.view)) where
  abbrev v : View
  v = p.pass.view

  abbrev w : View
  w = u.pass.view

  abbrev j : View
  j = joined v w

  abbrev q : PassView
  q = record p.pass { view = j }

  abbrev all : List HeldQueue
  all = merged p.queues u.queues

  in_run : IsInRun q
  in_run = record { fits = run.fits; run = run.run }

  known_is : knowledge j ≡ record (knowledge v) { ledgers = (knowledge j).ledgers }
  known_is = knows v w run ∙ ap (λ (ls : List (Option Ledger)). record (knowledge v) { ledgers = ls })
      (sym (ap (λ (x : Knowledge). x.ledgers) (knows v w run)))

  apart : Rattle.nm_tree.proofs.Merging.AreApart p.queues u.queues
  apart = none_apart v w run same p.queues u.queues is.numbers more.numbers more.between.all u.queues (λ o has. has)

  are_held : AreHeld (knowledge j) all
  are_held =
      held_merged (knowledge j) p.queues u.queues apart
      (first_held v w run same p.queues u.queues is.numbers more.numbers more.between.all p.queues (λ o has. has)
      is.between.queues)
      (second_held v w run same p.queues u.queues is.numbers more.numbers more.between.all u.queues more.between.queues)

  pub few_queues : length p.queues + length u.queues ≤ v.layout.workers
  few_queues =
      let most = few j.layout (knowledge j) (hands_are_apart j.layout
      (let least = run.fits.least in omega (arith, least)) j.number j.log run.run.is_part) all are_held in
      let sum = length-merged p.queues u.queues in
      omega (arith, most, sum)

  search_is : search q ≡ search p.pass
  search_is = search_more idle v.log (passing w) ∙ not_searched (search p.pass) w.number (knowledge w).ledgers

  settles : Settles p.pass q
  settles = record {
    labelled = ap (λ (x : Knowledge). x.brief.unlabelled) known_is ∙ labelled p.pass p.pending p.held is.between.stands;
    stays = λ _. record {
      announcement = ap (λ (x : Knowledge). x.brief.announcement) known_is;
      pin = ap (λ (x : Knowledge). x.brief.pin) known_is;
      search = search_is;
      known = ap (λ (x : Knowledge). x.known) known_is;
    };
  }

  ascends : Rattle.nm_tree.specs.Workers.Ascend all
  ascends = ascend_merged (knowledge w) p.queues u.queues apart more.between.queues is.between.ascend

  all_there : (o : ℕ) → IsSome (held (knowledge j).ledgers o) → HasOrigin o all
  all_there o some' = elim (held_by_one v w run same p.queues u.queues is.numbers more.numbers more.between.all o
      some') [
        | inl first ↦ has_merged o p.queues u.queues (inl (is.between.all o first))
        | inr second ↦ has_merged o p.queues u.queues (inr (more.between.all o second))
      ]

  each_number : (o : ℕ) → HasOrigin o all → HasNumber o (logs j)
  each_number o has = elim (merged_has o p.queues u.queues has) [
    | inl first ↦ has_logs v w o (inl (is.numbers.each o first))
    | inr second ↦ has_logs v w o (inr (more.numbers.each o second))
  ]

  all_numbers : (o : ℕ) → HasNumber o (logs j) → HasOrigin o all
  all_numbers o has = elim (logs_have v w o has) [
    | inl first ↦ has_merged o p.queues u.queues (inl (is.numbers.all o first))
    | inr second ↦ has_merged o p.queues u.queues (inr (more.numbers.all o second))
  ]

  pub united : IsWorker (record { pass = q; queues = all; pending = p.pending; held = p.held; fit = p.fit })
      (place_in v.number all)
  united = record {
    between = record {
      queues = are_held;
      all = all_there;
      ascend = ascends;
      blocks = few_merged p.queues u.queues is.between.blocks more.between.blocks;
      private = λ slot. ap (λ (x : Knowledge). get x.drafts slot) known_is ∙ is.between.private slot;
      stands = stands_still p.pass q p.pending p.held is.between.stands settles in_run;
    };
    counted = counted_merged j p.queues u.queues (all_counted_still v j p.queues
        (first_alike v w run same p.queues u.queues is.numbers more.numbers more.between.all) is.counted)
        (all_counted_still w j u.queues (second_alike v w run same p.queues u.queues is.numbers more.numbers
        more.between.all more.between.queues) more.counted);
    few = let f = few_queues in let sum = length-merged p.queues u.queues in let most = run.fits.few in
        omega (arith, f, sum, most);
    own = stands_at_place v.number all ascends (all_numbers v.number (inl refl));
    numbers = record { each = each_number; all = all_numbers };
    resigned = let P : Layout → Type 0 = λ L. HoldNoSlot L (held_log w.number (w.log ++ passing w ∷ []) ∷ w.others) in
        hold_no_slot v.layout v.others (held_log w.number (w.log ++ passing w ∷ []) ∷ w.others) is.resigned
        (subst P (sym same) (no_slot w (empty_hands u more.between), more.resigned));
    alive = is.alive;
  }
