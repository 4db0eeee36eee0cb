-- The parts of a swap that is tried.
use Rattle.std.proofs.Common.{◌≡◌, ℕ, true, List, [], ◌∷◌, ◌++◌, length, refl, sym, ap, subst, ◌∙◌}
use Rattle.std.specs.Prelude.{Contains, Some, option_map}
use Rattle.std.proofs.lemmas.List.Elements.{Contains-push}
use Rattle.nm_edge.specs.declared.node.NodeId.{NodeId}
use Rattle.nm_model.specs.declared.event.Event.TheVariants.{Look, Sight, Swap}
use Rattle.nm_model.specs.declared.event.Field.TheVariants.{Birth}
use Rattle.nm_model.specs.declared.event.Op.TheVariants.{Insert}
use Rattle.nm_model.specs.declared.knowledge.Brief.{Brief}
use Rattle.nm_model.specs.declared.knowledge.Draft.{Draft}
use Rattle.nm_model.specs.declared.reply.Reply.{Reply}
use Rattle.nm_model.specs.declared.reply.Reply.TheVariants.{BirthIs, Cut, Labelled}
use Rattle.nm_model.specs.declared.ledger.Ledger.{Ledger}
use Rattle.nm_model.specs.Ledgers.{held}
use Rattle.nm_model.specs.Maps.{get}
use Rattle.nm_model.specs.Searches.{Search}
use Rattle.nm_model.specs.Walks.{Entry}
use Rattle.nm_order.specs.Facts.{Fact}
use Rattle.nm_order.specs.Facts.Since.{ThePin}
use Rattle.nm_order.specs.Facts.Fact.{KnowsSlot, IsBorn, CallIs, EndedAt}
use Rattle.nm_steps.specs.declared.view.Stored.{Stored}
use Rattle.nm_steps.specs.Rules.{IsStored, knowledge}
use Rattle.nm_steps.specs.Steps.{IsInRun, PassView, Stepped}
use Rattle.nm_steps.specs.Values.{OnlySees}
use Rattle.nm_epoch.specs.Resting.{epochs, search}
use Rattle.nm_epoch.specs.declared.collecting.HeldQueue.{HeldQueue}
use Rattle.nm_walks.specs.declared.seek_record.WalkEnd.{WalkEnd}
use Rattle.nm_walks.specs.Cleanups.{HoldsCuts, KeepsLedgers, freed_of_origin}
use Rattle.nm_walks.specs.Making.{HasFilled, HasJustStored, KeepsOtherSlots, OnlyMakes, draft, fills, with_node}
use Rattle.nm_walks.specs.Telling.{GoesOn, OnlyLooks, Tells}
use Rattle.nm_walks.proofs.Adding.{adds_these}
use Rattle.nm_walks.proofs.KeptLedgers.{holds_on}
use Rattle.nm_walks.proofs.Makes.{is_filled, same_draft}
use Rattle.nm_puts.specs.Swaps.{HasSwapped, HoldsCutsThen, IsSwapping, IsUnderPin, MaySwap, Retires, SwapWon, Swaps, leaf_at}
use Rattle.nm_puts.proofs.Retiring.{swap_ledgers}
use Rattle.nm_puts.proofs.UnderPins.{under_then, under_these}

-- ---- before the exchange

-- the new leaf has its birth after the look
birth_still : (p b : PassView) (new : NodeId) → OnlyLooks p b → (draft p new.slot).birth ≡ Some new.birth →
    (draft b new.slot).birth ≡ Some new.birth
birth_still p b new only is = ap (λ (d : Draft). d.birth) (same_draft p b new.slot
    (ap (λ m. get m new.slot) only.private)) ∙ is

pub is_swapping : (p b f : PassView) (k birth : ℕ) (r : WalkEnd) (new : NodeId) → MaySwap p k r new → GoesOn p b
    → OnlyLooks p b
    → Tells b (IsBorn r.seek_record.edge.slot birth) → GoesOn b f → OnlyMakes b f
    → get (knowledge f.view).drafts new.slot ≡ Some (with_node (draft b new.slot) k 0 0)
    → IsSwapping f r.seek_record.parent r.seek_record.side r.seek_record.edge.slot new.slot
is_swapping p b f k birth r new may on only born on' only' filled = record {
  key = k;
  call = keep (CallIs Insert k) may.call;
  unlinked = ap (λ (s : Search). s.linked) only'.search ∙ (only.linked ∙ may.unlinked);
  unswapped = ap (λ (s : Search). s.swapped) only'.search ∙ (only.swapped ∙ may.unswapped);
  knows_parent = keep (KnowsSlot r.seek_record.parent) may.parent;
  knows_leaf = keep (KnowsSlot r.seek_record.edge.slot) may.known;
  ended = keep (EndedAt ThePin k r.seek_record.edge.slot r.seek_record.parent r.seek_record.side k) may.ended;
  born = (birth, on'.keeps (IsBorn r.seek_record.edge.slot birth) born);
  birth = new.birth;
  filled = is_filled b f new.slot new.birth k 0 0 (birth_still p b new only may.new_birth) filled;
}
  where
    keep : (fact : Fact) → Tells p fact → Tells f fact
    keep fact holds = on'.keeps fact (on.keeps fact holds)

pub just_stored : (f : PassView) (new v : ℕ) → HasJustStored f new v → IsStored f.view.stores f.view.number
    (length f.view.log) new
just_stored f new v s =
    let x : Stored = record {
      at = length f.view.past;
      worker = f.view.number;
      own = length f.view.log;
      slot = new;
      value = v;
    } in
    record {
      stored = x;
      there = subst (λ (l : List Stored). Contains l x) (sym s.1) (Contains-push s.0 x);
      by_worker = refl;
      at_own = refl;
      for_slot = refl;
    }

-- ---- the log, and the own queue, up to the exchange

module _ (p b f : PassView) (k birth : ℕ) (r : WalkEnd) (new : NodeId) (looked : Stepped p b
    (Look r.seek_record.edge.slot Birth) (BirthIs birth)) (filled : HasFilled b f new.slot k 0 0) where
  log_of_b : b.view.log ≡ p.view.log ++ (Look r.seek_record.edge.slot Birth, BirthIs birth) ∷ []
  log_of_b = ap (λ (s : PassView). s.view.log) looked

  log_of_f : f.view.log ≡ b.view.log ++ fills new.slot k 0 0
  log_of_f = ap (λ (s : PassView). s.view.log) filled

  pub swaps_so : (s : PassView) (reply : Reply) → Stepped f s
      (Swap r.seek_record.parent r.seek_record.side r.seek_record.edge.slot new.slot) reply
      → Swaps k r new birth reply p.view.log s.view.log
  swaps_so s reply step =
      ap (λ (x : PassView). x.view.log) step
      ∙ ap (λ (l : List Entry). l ++
      (Swap r.seek_record.parent r.seek_record.side r.seek_record.edge.slot new.slot, reply) ∷ [])
      (log_of_f ∙ ap (λ (l : List Entry). l ++ fills new.slot k 0 0) log_of_b)

  pub kept_so : (h : HeldQueue) → GoesOn p b → OnlyLooks p b → GoesOn b f → OnlyMakes b f → HoldsCuts p h
      → HoldsCuts f h
  kept_so h on only on' only' kept =
      holds_on b f h on'.same only'.ledgers (adds_these _ b.view.log f.view.log log_of_f)
      (holds_on p b h on.same only.ledgers (adds_these _ p.view.log b.view.log log_of_b) kept)

  -- up to the look at the old value no pin begins or ends
  pub under_swap : (s z : PassView) (reply : Reply) → Stepped f s
      (Swap r.seek_record.parent r.seek_record.side r.seek_record.edge.slot new.slot) reply
      → OnlySees s z → IsUnderPin p.view.log z.view.log
  under_swap s z reply step looks =
      under_then p.view.log b.view.log z.view.log (under_these _ p.view.log b.view.log log_of_b refl)
      (under_then b.view.log f.view.log z.view.log (under_these _ b.view.log f.view.log log_of_f refl)
      (under_these _ f.view.log z.view.log (ap (λ (x : PassView). x.view.log) looks.same ∙ ap
      (λ (x : PassView). x.view.log) step) refl))

-- a look at a value changes nothing of it
pub then_by_value : (s z : PassView) (h : HeldQueue) (n : NodeId) → OnlySees s z → HoldsCutsThen s h n
    → HoldsCutsThen z h n
then_by_value s z h n looks t = subst (λ (x : PassView). HoldsCutsThen x h n) (sym looks.same) (record {
  own = t.own;
  queue = t.queue;
  counted = t.counted;
  freed = t.freed;
})

-- ---- after it

module _ (p b f s z y : PassView) (k birth : ℕ) (r : WalkEnd) (new : NodeId) (run : IsInRun f)
    (on : GoesOn p b) (only : OnlyLooks p b) (on' : GoesOn b f) (only' : OnlyMakes b f)
    (others : KeepsOtherSlots new.slot b f)
    (looked : Stepped p b (Look r.seek_record.edge.slot Birth) (BirthIs birth)) (filled : HasFilled b f new.slot k 0 0)
    (won : SwapWon f s r.seek_record.parent r.seek_record.side new.slot (leaf_at r birth)) (looks : OnlySees s z)
    (retires : Retires z y) where
  same_epochs : epochs s ≡ record (epochs p) { unlabelled = true }
  same_epochs = won.epochs ∙ ap (λ (e : Brief). record e { unlabelled = true }) (only'.epochs ∙ only.epochs)

  by_look : {A : Type 0} (g : PassView → A) → g
      (record s { view = record s.view { past = z.view.past; stores = z.view.stores } }) ≡ g s → g z ≡ g s
  by_look g is = ap g looks.same ∙ is

  search_now : search y ≡ record (search f) { swapped = true }
  search_now = retires.only.search ∙ (by_look search refl ∙ won.search)

  number : f.view.number ≡ p.view.number
  number = ap (λ (x : PassView). x.view.number) on'.same ∙ ap (λ (x : PassView). x.view.number) on.same

  ledgers_f : (knowledge f.view).ledgers ≡ (knowledge p.view).ledgers
  ledgers_f = only'.ledgers ∙ only.ledgers

  kept_from : KeepsLedgers f y → KeepsLedgers p y
  kept_from kept = record {
    others = λ o other. kept.others o (λ is. other (is ∙ number)) ∙ ap (λ ls. held ls o) ledgers_f;
    freed = subst (λ (n : ℕ). freed_of_origin (knowledge y.view) n ≡ freed_of_origin (knowledge p.view) n) number
        (kept.freed ∙ ap (λ ls. option_map (λ (l : Ledger). l.freed) (held ls f.view.number)) ledgers_f);
  }

  pub has_swapped : HasSwapped p y k r new
  has_swapped = record {
    birth = birth;
    epoch = retires.epoch;
    part = (
      s.view.log,
      swaps_so p b f k birth r new looked filled s (Cut (leaf_at r birth ∷ [])) won.step,
      ap (λ (x : PassView). x.view.log) retires.took.step ∙ ap (λ (l : List Entry). l ++
          (Sight, Labelled retires.epoch) ∷ []) (by_look (λ x. x.view.log) refl),
    );
    rest = record {
      announcement = retires.only.announcement ∙ (by_look (λ x. (epochs x).announcement) refl ∙ ap
          (λ (e : Brief). e.announcement) same_epochs);
      pin = retires.only.pin ∙ (by_look (λ x. (epochs x).pin) refl ∙ ap (λ (e : Brief). e.pin) same_epochs);
      labelled = λ _. retires.only.labelled;
      call = ap (λ (t : Search). t.call) search_now ∙ (ap (λ (t : Search). t.call) only'.search ∙ only.call);
      linked = ap (λ (t : Search). t.linked) search_now ∙ (ap (λ (t : Search). t.linked) only'.search ∙ only.linked);
      flagged = ap (λ (t : Search). t.flagged) search_now ∙ (ap (λ (t : Search). t.flagged) only'.search
          ∙ only.flagged);
      ledgers = kept_from (swap_ledgers f s z y r.seek_record.parent r.seek_record.side new.slot
          (leaf_at r birth) retires.epoch run won
          (by_look (λ x. (knowledge x.view).ledgers) refl) retires.took.step);
    };
    given = ap (λ m. get m new.slot) retires.only.private ∙ (by_look
        (λ x. get (knowledge x.view).drafts new.slot) refl ∙ won.given);
    others = λ x ne. ap (λ m. get m x) retires.only.private ∙ (by_look (λ u. get (knowledge u.view).drafts x) refl
        ∙ (won.others x ne ∙ (others x ne ∙ ap (λ m. get m x) only.private)));
  }
