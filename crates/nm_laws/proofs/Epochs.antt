-- The epoch is a pin's or one above it, over all events.
use Rattle.std.proofs.Common.{◌≡◌, ℕ, ◌+◌, ◌==◌, ◌<◌, ◌≤◌, ◌≢◌, ◌⊎◌, inl, inr, Bool, true, false, cond, not, ◌||◌, List, length, get_or, refl, sym, ap, ◌∙◌, arith, get_or-set_same, get_or-set_other, true≢false, length-set, le_of_eq, subst}
use Rattle.std.specs.Prelude.{Option, Some, None, is_some, is_none, unwrap_or, set}
use Rattle.std.specs.List.{enumerate_from}
use Rattle.std.proofs.lemmas.Bool.{cond_both, eqb-true, eq-eqb, or_parts, or_cases, not-false, cases_lt, leb-false}
use Rattle.std.proofs.lemmas.List.{get_or_past, length-replicate}
use Rattle.std.proofs.lemmas.List.FromFn.{length-enumerate_from, get_or-enumerate_from}
use Rattle.std.proofs.lemmas.Option.{none-some, same_Some}
use Rattle.nm_edge.specs.Edges.{Edge, is_to}
use Rattle.nm_edge.specs.declared.edge.Side.{Side}
use Rattle.nm_model.specs.declared.event.Event.{Event}
use Rattle.nm_model.specs.declared.event.Event.TheVariants.{Sight, SightFor, Announce, Leave, LeaveWith, Scan, Advance, Claim, Give, Look, Fill, Link, Flag, Tag, Splice, Swap, Join}
use Rattle.nm_model.specs.declared.event.Field.{Field}
use Rattle.nm_model.specs.declared.reply.Reply.{Reply}
use Rattle.nm_model.specs.declared.reply.Reply.TheVariants.{Labelled, Pinned, Missed, Moved, Behind, Claimed, Returned, Freed, Filled, Linked, Flagged, Was, Cut, Lost, Joined}
use Rattle.nm_model.specs.Maps.{is_number}
use Rattle.nm_model.specs.Memory.{Memory, announcement, edge, put_edge}
use Rattle.nm_model.specs.Knowledge.{Knowledge, newcomer}
use Rattle.nm_model.specs.Learning.{learn, saw, labelling, pinned, moved as advanced, forgotten, resigned, inheriting}
use Rattle.nm_model.specs.Step.{exchanged, reply_sight, confirmed, reply_scan, others_scanned, is_held_back, refusal, reply, write}
use Rattle.nm_model.specs.Runs.{State, of, is_no_worker, join_refusal, refusal_of, applied}
use Rattle.nm_model.proofs.Numbers.{number_is, repeated, passes_at, mark_or}
use Rattle.nm_laws.proofs.Steps.{each, both, moved, Allowed, passed, is_worker}
use Rattle.nm_laws.proofs.Sizes.{Staffed}
use Rattle.nm_laws.proofs.Learned.{learn_sight_for, learn_leave_with, learn_saw, learn_labelled, learn_pinned, learn_missed, learn_announced, learn_departed, learn_idle, learn_in, learn_moved, learn_behind, look_teaches}

-- the announcements, pins, sights and scans of all workers agree with the epoch
pub record EpochLaw (s : State) : Type 0 where
  pub announced : (w : ℕ) → announcement s.memory w ≡ (of s w).brief.announcement
  pub noted : (w e : ℕ) → (of s w).brief.pin ≡ Some e → (of s w).brief.announcement ≡ Some e
  pub pins : (w e : ℕ) → (of s w).brief.pin ≡ Some e → (e ≤ s.memory.epoch) × (s.memory.epoch ≤ e + 1)
  pub sights : (w e : ℕ) → (of s w).brief.seen ≡ Some e → e ≤ s.memory.epoch
  pub scans : (w u e : ℕ) → (of s w).brief.seen ≡ Some s.memory.epoch → get_or (of s w).scanned u false ≡ true
      → (of s u).brief.pin ≡ Some e → e ≡ s.memory.epoch
  pub marks : (w : ℕ) → length (of s w).scanned ≡ s.layout.workers

-- two states of knowledge agree on the epochs' part
pub record Alike (k l : Knowledge) : Type 0 where
  pub seen : l.brief.seen ≡ k.brief.seen
  pub announcement : l.brief.announcement ≡ k.brief.announcement
  pub pin : l.brief.pin ≡ k.brief.pin
  pub scanned : l.scanned ≡ k.scanned

abbrev pub itself : (k : Knowledge) → Alike k k
itself k = record { seen = refl; announcement = refl; pin = refl; scanned = refl }

-- ---- events about slots, and joins, leave that part alone

module _ (w : ℕ) (k : Knowledge) where
  pub alike_claim : (s : ℕ) (r : Reply) → Alike k (learn w k (Claim s) r)
  unfolding learn
  alike_claim s (Claimed t) = record { seen = refl; announcement = refl; pin = refl; scanned = refl }
  alike_claim s _ = itself k

  pub alike_give : (s : ℕ) (r : Reply) → Alike k (learn w k (Give s) r)
  unfolding learn
  alike_give s (Returned t) = record { seen = refl; announcement = refl; pin = refl; scanned = refl }
  alike_give s (Freed n) = record { seen = refl; announcement = refl; pin = refl; scanned = refl }
  alike_give s _ = itself k

  alike_either : (b : Bool) (l m : Knowledge) → Alike k l → Alike k m → Alike k (cond b l m)
  alike_either true l m p q = p
  alike_either false l m p q = q

  pub alike_look : (s : ℕ) (f : Field) (r : Reply) → Alike k (learn w k (Look s f) r)
  unfolding learn
  alike_look s f r = subst (Alike k) (sym (look_teaches k s f r))
      (record { seen = refl; announcement = refl; pin = refl; scanned = refl })

  pub alike_fill : (s : ℕ) (f : Field) (v : ℕ) → Alike k (learn w k (Fill s f v) Filled)
  unfolding learn
  alike_fill s f v = record { seen = refl; announcement = refl; pin = refl; scanned = refl }

  pub alike_link : (p : ℕ) (side : Side) (leaf new : ℕ) (r : Reply) → Alike k (learn w k (Link p side leaf new) r)
  unfolding learn
  alike_link p side leaf new (Linked n) = record { seen = refl; announcement = refl; pin = refl; scanned = refl }
  alike_link p side leaf new (Lost e) = record { seen = refl; announcement = refl; pin = refl; scanned = refl }
  alike_link p side leaf new _ = itself k

  pub alike_swap : (p : ℕ) (side : Side) (leaf new : ℕ) (r : Reply) → Alike k (learn w k (Swap p side leaf new) r)
  unfolding learn
  alike_swap p side leaf new (Cut ns) = record { seen = refl; announcement = refl; pin = refl; scanned = refl }
  alike_swap p side leaf new (Lost e) = record { seen = refl; announcement = refl; pin = refl; scanned = refl }
  alike_swap p side leaf new _ = itself k

  pub alike_flag : (p : ℕ) (side : Side) (leaf : ℕ) (r : Reply) → Alike k (learn w k (Flag p side leaf) r)
  unfolding learn
  alike_flag p side leaf (Flagged n) = record { seen = refl; announcement = refl; pin = refl; scanned = refl }
  alike_flag p side leaf (Lost e) = record { seen = refl; announcement = refl; pin = refl; scanned = refl }
  alike_flag p side leaf _ = itself k

  pub alike_tag : (p : ℕ) (side : Side) (e : Edge) → Alike k (learn w k (Tag p side) (Was e))
  unfolding learn
  alike_tag p side e = record { seen = refl; announcement = refl; pin = refl; scanned = refl }

  pub alike_splice : (a : ℕ) (side : Side) (s p : ℕ) (keep : Side) (r : Reply)
      → Alike k (learn w k (Splice a side s p keep) r)
  unfolding learn
  alike_splice a side s p keep (Cut ns) = record { seen = refl; announcement = refl; pin = refl; scanned = refl }
  alike_splice a side s p keep (Lost e) = record { seen = refl; announcement = refl; pin = refl; scanned = refl }
  alike_splice a side s p keep _ = itself k

  pub alike_join : (v : ℕ) (r : Reply) → Alike k (learn w k (Join v) r)
  unfolding learn
  alike_join v (Joined ls) = alike_either (w == v) (resigned k) (inheriting k ls)
      (record { seen = refl; announcement = refl; pin = refl; scanned = refl })
      (record { seen = refl; announcement = refl; pin = refl; scanned = refl })
  alike_join v _ = itself k

-- ---- the kinds of step

-- nobody's part of the epochs is touched
pub all_quiet : (s t : State) → t.layout ≡ s.layout → t.memory.epoch ≡ s.memory.epoch
    → ((u : ℕ) → announcement t.memory u ≡ announcement s.memory u) → ((u : ℕ) → Alike (of s u) (of t u))
    → EpochLaw s → EpochLaw t
all_quiet s t layout epoch announcements alike law = record {
  announced = λ w. announcements w ∙ (law.announced w ∙ sym (alike w).announcement);
  noted = λ w e is. (alike w).announcement ∙ law.noted w e (sym (alike w).pin ∙ is);
  pins = λ w e is. rw epoch (law.pins w e (sym (alike w).pin ∙ is));
  sights = λ w e is. rw epoch (law.sights w e (sym (alike w).seen ∙ is));
  scans = λ w u e seen scanned is. law.scans w u e (sym (alike w).seen ∙ (seen ∙ ap Some epoch))
      (ap (λ xs. get_or xs u false) (sym (alike w).scanned) ∙ scanned) (sym (alike u).pin ∙ is) ∙ sym epoch;
  marks = λ w. ap length (alike w).scanned ∙ (law.marks w ∙ ap (λ L. L.workers) (sym layout));
}

-- what the stepping worker owes where the epoch stays
record Owed (s : State) (w : ℕ) (m : Memory) (k : Knowledge) : Type 0 where
  epoch : m.epoch ≡ s.memory.epoch
  others : (u : ℕ) → u ≢ w → announcement m u ≡ announcement s.memory u
  announced : announcement m w ≡ k.brief.announcement
  noted : (e : ℕ) → k.brief.pin ≡ Some e → k.brief.announcement ≡ Some e
  pins : (e : ℕ) → k.brief.pin ≡ Some e → ((of s w).brief.pin ≡ Some e) ⊎ (e ≡ s.memory.epoch)
  sights : (e : ℕ) → k.brief.seen ≡ Some e → e ≤ s.memory.epoch
  scans : (u e : ℕ) → k.brief.seen ≡ Some s.memory.epoch → get_or k.scanned u false ≡ true
      → (of s u).brief.pin ≡ Some e → e ≡ s.memory.epoch
  marks : length k.scanned ≡ s.layout.workers

stays : (s : State) (w : ℕ) (m : Memory) (k : Knowledge) → w < length s.workers → EpochLaw s → Owed s w m k
    → EpochLaw (moved s w m k)
stays s w m k inside law owed = record {
  announced = each s.layout (λ u x. announcement m u ≡ x.brief.announcement) s.workers w k inside owed.announced
      (λ u ne. owed.others u ne ∙ law.announced u);
  noted = each s.layout (λ u x. (e : ℕ) → x.brief.pin ≡ Some e → x.brief.announcement ≡ Some e) s.workers w k inside
      owed.noted (λ u ne. law.noted u);
  pins = each s.layout (λ u x. (e : ℕ) → x.brief.pin ≡ Some e → (e ≤ m.epoch) × (m.epoch ≤ e + 1)) s.workers w k inside
      (λ e is. rw owed.epoch (here e (owed.pins e is))) (λ u ne e is. rw owed.epoch (law.pins u e is));
  sights = each s.layout (λ u x. (e : ℕ) → x.brief.seen ≡ Some e → e ≤ m.epoch) s.workers w k inside
      (λ e is. rw owed.epoch (owed.sights e is)) (λ u ne e is. rw owed.epoch (law.sights u e is));
  scans = rw owed.epoch (each s.layout (λ v x. (u e : ℕ) → x.brief.seen ≡ Some s.memory.epoch
      → get_or x.scanned u false ≡ true → (of (moved s w m k) u).brief.pin ≡ Some e → e ≡ s.memory.epoch) s.workers w k
      inside
      (λ u e seen scanned. seen_by k owed.scans u e seen scanned)
      (λ v ne u e seen scanned. seen_by (of s v) (law.scans v) u e seen scanned));
  marks = each s.layout (λ u x. length x.scanned ≡ s.layout.workers) s.workers w k inside owed.marks
      (λ u ne. law.marks u);
}
  where
    here : (e : ℕ) → ((of s w).brief.pin ≡ Some e) ⊎ (e ≡ s.memory.epoch)
        → (e ≤ s.memory.epoch) × (s.memory.epoch ≤ e + 1)
    here e (inl was) = law.pins w e was
    here e (inr now) = omega arith

    now_or : (e : ℕ) → ((of s w).brief.pin ≡ Some e → e ≡ s.memory.epoch)
        → ((of s w).brief.pin ≡ Some e) ⊎ (e ≡ s.memory.epoch) → e ≡ s.memory.epoch
    now_or e f (inl was) = f was
    now_or e f (inr now) = now

    seen_by : (x : Knowledge) → ((u e : ℕ) → x.brief.seen ≡ Some s.memory.epoch → get_or x.scanned u false ≡ true
        → (of s u).brief.pin ≡ Some e → e ≡ s.memory.epoch)
        → (u e : ℕ) → x.brief.seen ≡ Some s.memory.epoch → get_or x.scanned u false ≡ true
        → (of (moved s w m k) u).brief.pin ≡ Some e → e ≡ s.memory.epoch
    seen_by x was u e seen scanned =
        each s.layout (λ v y. get_or x.scanned v false ≡ true → y.brief.pin ≡ Some e → e ≡ s.memory.epoch) s.workers
        w k inside
        (λ scanned is. now_or e (was w e seen scanned) (owed.pins e is)) (λ v ne scanned is. was v e seen scanned is)
        u scanned

-- the worker's part of the epochs is untouched
quiet : (s : State) (w : ℕ) (m : Memory) (k : Knowledge) → w < length s.workers → EpochLaw s
    → m.epoch ≡ s.memory.epoch → ((u : ℕ) → announcement m u ≡ announcement s.memory u) → Alike (of s w) k
    → EpochLaw (moved s w m k)
quiet s w m k inside law epoch announcements alike =
    all_quiet s (moved s w m k) refl epoch announcements
    (each s.layout (λ u x. Alike (of s u) x) s.workers w k inside alike (λ u ne. itself (of s u))) law

-- ---- sight, announce, leave, scan

-- a mark after the epoch was read stood before, at that epoch
scans_kept : (k : Knowledge) (e u : ℕ) → get_or (cond (is_number k.brief.seen e) k.scanned (forgotten k.scanned)) u
    false ≡ true → (k.brief.seen ≡ Some e) × (get_or k.scanned u false ≡ true)
scans_kept k e u = cond_both (is_number k.brief.seen e) k.scanned (forgotten k.scanned)
    (λ xs. get_or xs u false ≡ true → (k.brief.seen ≡ Some e) × (get_or k.scanned u false ≡ true))
    (λ is h. (number_is k.brief.seen e is, h)) (λ _ h. absurd
    (true≢false (sym h ∙ repeated (length k.scanned) u false)))

still_marked : (k : Knowledge) (e n : ℕ) → length k.scanned ≡ n
    → length (cond (is_number k.brief.seen e) k.scanned (forgotten k.scanned)) ≡ n
still_marked k e n size = cond_both (is_number k.brief.seen e) k.scanned (forgotten k.scanned) (λ xs. length xs ≡ n)
    (λ _. size) (λ _. length-replicate (length k.scanned) false ∙ size)

-- the epoch was read, and the pin is as it was
only_saw : (s : State) (w : ℕ) (k : Knowledge) → w < length s.workers → EpochLaw s
    → k.brief.announcement ≡ (of s w).brief.announcement → k.brief.pin ≡ (of s w).brief.pin
    → k.brief.seen ≡ Some s.memory.epoch → k.scanned
    ≡ cond (is_number (of s w).brief.seen s.memory.epoch) (of s w).scanned (forgotten (of s w).scanned)
    → EpochLaw (moved s w s.memory k)
only_saw s w k inside law announcement pin seen scanned = stays s w s.memory k inside law record {
  epoch = refl;
  others = λ u ne. refl;
  announced = law.announced w ∙ sym announcement;
  noted = λ e is. announcement ∙ law.noted w e (sym pin ∙ is);
  pins = λ e is. inl (sym pin ∙ is);
  sights = λ e is. le_of_eq (sym (same_Some _ _ (sym seen ∙ is)));
  scans = λ u e _ was is.
      let before = scans_kept (of s w) s.memory.epoch u (ap (λ xs. get_or xs u false) (sym scanned) ∙ was) in
      law.scans w u e before.0 before.1 is;
  marks = ap length scanned ∙ still_marked (of s w) s.memory.epoch s.layout.workers (law.marks w);
}

sight : (s : State) (w : ℕ) → w < length s.workers → EpochLaw s
    → EpochLaw (moved s w s.memory (learn w (of s w) Sight (reply_sight (of s w) s.memory.epoch)))
sight s w inside law =
    cond_both (of s w).brief.unlabelled (Labelled s.memory.epoch)
    (confirmed (of s w).brief.pin (of s w).brief.announcement s.memory.epoch)
    (λ r. EpochLaw (moved s w s.memory (learn w (of s w) Sight r)))
    (λ _. rw (learn_labelled w (of s w) s.memory.epoch)
    (only_saw s w (labelling (saw (of s w) s.memory.epoch) s.memory.epoch) inside law refl refl refl refl))
    (λ _. by (of s w).brief.pin (of s w).brief.announcement refl)
  where
    seen : EpochLaw (moved s w s.memory (saw (of s w) s.memory.epoch))
    seen = only_saw s w (saw (of s w) s.memory.epoch) inside law refl refl refl refl

    confirms : (of s w).brief.announcement ≡ Some s.memory.epoch
        → EpochLaw (moved s w s.memory (pinned (saw (of s w) s.memory.epoch) s.memory.epoch))
    confirms is = stays s w s.memory (pinned (saw (of s w) s.memory.epoch) s.memory.epoch) inside law record {
      epoch = refl;
      others = λ u ne. refl;
      announced = law.announced w;
      noted = λ e pin. is ∙ pin;
      pins = λ e pin. inr (sym (same_Some _ _ pin));
      sights = λ e seen. le_of_eq (sym (same_Some _ _ seen));
      scans = λ u e _ was pin. let before = scans_kept (of s w) s.memory.epoch u was in
          law.scans w u e before.0 before.1 pin;
      marks = still_marked (of s w) s.memory.epoch s.layout.workers (law.marks w);
    }

    by : (p n : Option ℕ) → (of s w).brief.announcement ≡ n
        → EpochLaw (moved s w s.memory (learn w (of s w) Sight (confirmed p n s.memory.epoch)))
    by (Some p) n is = rw (learn_saw w (of s w) s.memory.epoch) seen
    by None None is = rw (learn_saw w (of s w) s.memory.epoch) seen
    by None (Some a) is = cond_both (a == s.memory.epoch) (Pinned s.memory.epoch) (Missed s.memory.epoch)
        (λ r. EpochLaw (moved s w s.memory (learn w (of s w) Sight r)))
        (λ here. rw (learn_pinned w (of s w) s.memory.epoch) (confirms (is ∙ ap Some (eqb-true a s.memory.epoch here))))
        (λ _. rw (learn_missed w (of s w) s.memory.epoch) seen)

-- the own announcement changes while there is no pin
reannounced : (s : State) (w : ℕ) (n : Option ℕ) (k : Knowledge) → w < length s.workers
    → w < length s.memory.announcements → EpochLaw s
    → k.brief.announcement ≡ n → k.brief.pin ≡ None → k.brief.seen ≡ (of s w).brief.seen
    → k.scanned ≡ (of s w).scanned → EpochLaw (moved s w
    (record s.memory { announcements = set s.memory.announcements w n }) k)
reannounced s w n k inside place law announcement pin seen scanned = stays s w
    (record s.memory { announcements = set s.memory.announcements w n }) k inside law record {
      epoch = refl;
      others = λ u ne. get_or-set_other s.memory.announcements w u n None ne;
      announced = get_or-set_same s.memory.announcements w n None place ∙ sym announcement;
      noted = λ e is. absurd (none-some e (sym pin ∙ is));
      pins = λ e is. absurd (none-some e (sym pin ∙ is));
      sights = λ e is. law.sights w e (sym seen ∙ is);
      scans = λ u e saw was is. law.scans w u e (sym seen ∙ saw) (ap (λ xs. get_or xs u false) (sym scanned) ∙ was) is;
      marks = ap length scanned ∙ law.marks w;
    }

no_pin : (o : Option ℕ) → is_some o ≡ false → o ≡ None
no_pin None h = refl
no_pin (Some e) h = absurd (true≢false h)

-- marks of w by which a scanned worker is pinned at the epoch, if it is
scanned_more : (s : State) (w : ℕ) (xs : List Bool) → w < length s.workers → EpochLaw s → length xs ≡ s.layout.workers
    → ((u : ℕ) → get_or xs u false ≡ true → (get_or (of s w).scanned u false ≡ true)
    ⊎ ((e : ℕ) → (of s w).brief.seen ≡ Some s.memory.epoch → (of s u).brief.pin ≡ Some e → e ≡ s.memory.epoch))
    → EpochLaw (moved s w s.memory (record (of s w) { scanned = xs }))
scanned_more s w xs inside law size more = stays s w s.memory _ inside law record {
  epoch = refl;
  others = λ u ne. refl;
  announced = law.announced w;
  noted = law.noted w;
  pins = λ e is. inl is;
  sights = law.sights w;
  scans = λ u e saw was is. go u e saw is (more u was);
  marks = size;
}
  where
    go : (u e : ℕ) → (of s w).brief.seen ≡ Some s.memory.epoch → (of s u).brief.pin ≡ Some e
        → (get_or (of s w).scanned u false ≡ true) ⊎ ((e : ℕ) → (of s w).brief.seen ≡ Some s.memory.epoch
        → (of s u).brief.pin ≡ Some e → e ≡ s.memory.epoch) → e ≡ s.memory.epoch
    go u e saw is (inl before) = law.scans w u e saw before is
    go u e saw is (inr now) = now e saw is

scan : (s : State) (w v : ℕ) → w < length s.workers → EpochLaw s → v < s.layout.workers
    → EpochLaw (moved s w s.memory (learn w (of s w) (Scan v) (reply_scan (announcement s.memory v))))
scan s w v inside law there = go (announcement s.memory v) refl
  where
    noted : (n : Option ℕ) (e : ℕ) → announcement s.memory v ≡ n → (of s v).brief.pin ≡ Some e → n ≡ Some e
    noted n e is pin = sym is ∙ (law.announced v ∙ law.noted v e pin)

    marked : (b : Bool) → ((e : ℕ) → b ≡ true → (of s w).brief.seen ≡ Some s.memory.epoch
        → (of s v).brief.pin ≡ Some e → e ≡ s.memory.epoch)
        → EpochLaw (moved s w s.memory (record (of s w) { scanned = set (of s w).scanned v b }))
    marked b holds = scanned_more s w (set (of s w).scanned v b) inside law (length-set _ v b ∙ law.marks w)
        (λ u h. one u (mark_or (of s w).scanned v b u (let size = law.marks w in omega arith) h))
      where
        one : (u : ℕ) → ((u ≡ v) × (b ≡ true)) ⊎ (get_or (of s w).scanned u false ≡ true)
            → (get_or (of s w).scanned u false ≡ true) ⊎ ((e : ℕ) → (of s w).brief.seen ≡ Some s.memory.epoch
            → (of s u).brief.pin ≡ Some e → e ≡ s.memory.epoch)
        one u (inl here) = inr (λ e seen pin. holds e here.1 seen (rw here.0 at pin))
        one u (inr before) = inl before

    go : (n : Option ℕ) → announcement s.memory v ≡ n
        → EpochLaw (moved s w s.memory (learn w (of s w) (Scan v) (reply_scan n)))
    go None is = rw (learn_idle w (of s w) v) (marked true (λ e _ _ pin. absurd (none-some e (noted None e is pin))))
    go (Some n) is = rw (learn_in w (of s w) v n) (marked (is_number (of s w).brief.seen n)
        (λ e at seen pin. sym (same_Some _ _ (noted (Some n) e is pin))
        ∙ sym (same_Some _ _ (sym seen ∙ number_is _ n at))))

-- ---- advance

scanned_all : (marks : List Bool) (w u : ℕ) → others_scanned w marks ≡ true → u < length marks → u ≢ w
    → get_or marks u false ≡ true
scanned_all marks w u all below ne = elim (or_cases (get_or marks u false) (0 + u == w) here) [
  | inl marked ↦ marked
  | inr own ↦ let is = eqb-true (0 + u) w own in absurd (ne (omega arith))
]
  where
    here : (get_or marks u false || (0 + u == w)) ≡ true
    here = ap (λ (mark : ℕ × Bool). mark.1 || (mark.0 == w)) (sym (get_or-enumerate_from 0 marks u (0, false) below))
        ∙ passes_at (λ (mark : ℕ × Bool). mark.1 || (mark.0 == w)) (enumerate_from 0 marks) u (0, false)
        (let e = length-enumerate_from 0 marks in omega arith) all

advance : (s : State) (w : ℕ) → length s.workers ≡ s.layout.workers → w < length s.workers → EpochLaw s
    → not (others_scanned w (of s w).scanned) ≡ false → is_held_back (of s w).brief.pin (of s w).brief.seen ≡ false
    → is_number (of s w).brief.seen s.memory.epoch ≡ true
    → EpochLaw (moved s w (record s.memory { epoch = s.memory.epoch + 1 }) (advanced (of s w) (s.memory.epoch + 1)))
advance s w size inside law all free at = record {
  announced = each s.layout (λ u x. announcement s.memory u ≡ x.brief.announcement) s.workers w _ inside
      (law.announced w) (λ u ne. law.announced u);
  noted = each s.layout (λ u x. (e : ℕ) → x.brief.pin ≡ Some e → x.brief.announcement ≡ Some e) s.workers w _ inside
      (law.noted w) (λ u ne. law.noted u);
  pins = each s.layout (λ u x. (e : ℕ) → x.brief.pin ≡ Some e
      → (e ≤ s.memory.epoch + 1) × (s.memory.epoch + 1 ≤ e + 1)) s.workers w _ inside
      (λ e pin. let same = own (of s w).brief.pin refl free e pin in omega arith)
      (λ u ne e pin. let same = other u ne e pin in omega arith);
  sights = each s.layout (λ u x. (e : ℕ) → x.brief.seen ≡ Some e → e ≤ s.memory.epoch + 1) s.workers w _ inside
      (λ e seen. le_of_eq (sym (same_Some _ _ seen))) (λ u ne e seen. let below = law.sights u e seen in omega arith);
  scans = each s.layout (λ v x. (u e : ℕ) → x.brief.seen ≡ Some (s.memory.epoch + 1)
      → get_or x.scanned u false ≡ true → (of (moved s w (record s.memory { epoch = s.memory.epoch + 1 })
      (advanced (of s w) (s.memory.epoch + 1))) u).brief.pin ≡ Some e → e ≡ s.memory.epoch + 1) s.workers w _ inside
      (λ u e _ marked. absurd (true≢false (sym marked ∙ repeated (length (of s w).scanned) u false)))
      (λ v ne u e seen. let below = law.sights v (s.memory.epoch + 1) seen in absurd (omega arith));
  marks = each s.layout (λ u x. length x.scanned ≡ s.layout.workers) s.workers w _ inside
      (length-replicate (length (of s w).scanned) false ∙ law.marks w) (λ u ne. law.marks u);
}
  where
    seen : (of s w).brief.seen ≡ Some s.memory.epoch
    seen = number_is _ _ at

    own : (o : Option ℕ) → (of s w).brief.pin ≡ o → is_held_back o (of s w).brief.seen ≡ false → (e : ℕ) → o ≡ Some e
        → e ≡ s.memory.epoch
    own None is held e pin = absurd (none-some e pin)
    own (Some x) is held e pin = let same = number_is _ x (not-false _ held) in
        sym (same_Some _ _ pin) ∙ same_Some _ _ (sym same ∙ seen)

    other : (u : ℕ) → u ≢ w → (e : ℕ) → (of s u).brief.pin ≡ Some e → e ≡ s.memory.epoch
    other u ne e pin = elim (cases_lt u s.layout.workers) [
      | inl below ↦ law.scans w u e seen (scanned_all (of s w).scanned w u (not-false _ all)
          (let size = law.marks w in omega arith) ne) pin
      | inr past ↦
          let none : of s u ≡ newcomer s.layout u = get_or_past s.workers u (newcomer s.layout u) (omega arith) in
          absurd (none-some e (sym (ap (λ k. k.brief.pin) none) ∙ pin))
    ]

advance_either : (s : State) (w : ℕ) → length s.workers ≡ s.layout.workers → w < length s.workers → EpochLaw s
    → not (others_scanned w (of s w).scanned) ≡ false → is_held_back (of s w).brief.pin (of s w).brief.seen ≡ false
    → (b : Bool) → is_number (of s w).brief.seen s.memory.epoch ≡ b
    → EpochLaw (moved s w (cond b (record s.memory { epoch = s.memory.epoch + 1 }) s.memory)
    (learn w (of s w) Advance (cond b (Moved (s.memory.epoch + 1)) (Behind s.memory.epoch))))
advance_either s w size inside law all free true at = rw (learn_moved w (of s w) (s.memory.epoch + 1))
    (advance s w size inside law all free at)
advance_either s w size inside law all free false at = rw (learn_behind w (of s w) s.memory.epoch)
    (stays s w s.memory (advanced (of s w) s.memory.epoch) inside law record {
      epoch = refl;
      others = λ u ne. refl;
      announced = law.announced w;
      noted = law.noted w;
      pins = λ e is. inl is;
      sights = λ e seen. le_of_eq (sym (same_Some _ _ seen));
      scans = λ u e _ marked _. absurd (true≢false (sym marked ∙ repeated (length (of s w).scanned) u false));
      marks = length-replicate (length (of s w).scanned) false ∙ law.marks w;
    })

-- ---- every event

-- an exchange changes the tree alone
exchange_quiet : (s : State) (w : ℕ) (p : ℕ) (side : Side) (slot : ℕ) (e : Edge) (k : Knowledge)
    → w < length s.workers → EpochLaw s → Alike (of s w) k → EpochLaw (moved s w (exchanged s.memory p side slot e) k)
exchange_quiet s w p side slot e k inside law alike = cond_both (is_to (edge s.memory p side) slot)
    (put_edge s.memory p side e) s.memory (λ m. EpochLaw (moved s w m k))
    (λ _. quiet s w _ k inside law refl (λ u. refl) alike) (λ _. quiet s w _ k inside law refl (λ u. refl) alike)

-- the worker that a join takes over from
pub other_worker : (s : State) (w v : ℕ) → join_refusal s w v ≡ None → (v ≢ w) × (v < s.layout.workers)
other_worker s w v ok =
    let parts = or_parts (v == w) (is_no_worker s v) (passed _ _ _ ok).0 in
    ((λ e. true≢false (sym (eq-eqb v w e) ∙ parts.0)), (is_worker s v parts.1).0)

pub epoch_step : (s : State) (w : ℕ) (e : Event) → Staffed s → EpochLaw s → Allowed s w e → EpochLaw (applied s w e)
unfolding applied refusal reply write
epoch_step s w e staffed law ok = go e ok.event
  where
    inside : w < length s.workers
    inside = let lt = ok.worker in let size = staffed.workers in omega arith

    place : w < length s.memory.announcements
    place = let lt = ok.worker in let size = staffed.announcements in omega arith

    go : (e : Event) → refusal_of s w e ≡ None → EpochLaw (applied s w e)
    go Sight ok = sight s w inside law
    go (SightFor op key) ok = rw (learn_sight_for w (of s w) op key (reply_sight (of s w) s.memory.epoch))
        (sight s w inside law)
    go Announce ok =
        let free = or_parts (is_none (of s w).brief.seen) (is_some (of s w).brief.pin) (passed _ _ _ ok).0 in
        rw (learn_announced w (of s w) (unwrap_or (of s w).brief.seen 0))
        (reannounced s w (Some (unwrap_or (of s w).brief.seen 0)) _ inside place law refl (no_pin _ free.1) refl refl)
    go Leave ok = rw (learn_departed w (of s w)) (reannounced s w None _ inside place law refl refl refl refl)
    go (LeaveWith answer) ok = rw (learn_leave_with w (of s w) answer, learn_departed w (of s w))
        (reannounced s w None _ inside place law refl refl refl refl)
    go (Scan u) ok = scan s w u inside law (leb-false s.layout.workers u (passed _ _ _ ok).0)
    go Advance ok =
        let ready = or_parts (is_none (of s w).brief.seen)
        (not (others_scanned w (of s w).scanned) || is_held_back (of s w).brief.pin (of s w).brief.seen)
        (passed _ _ _ ok).0 in
        let free = or_parts (not (others_scanned w (of s w).scanned))
        (is_held_back (of s w).brief.pin (of s w).brief.seen) ready.1 in
        advance_either s w staffed.workers inside law free.0 free.1 (is_number (of s w).brief.seen s.memory.epoch) refl
    go (Claim x) ok = quiet s w _ _ inside law refl (λ u. refl) (alike_claim w (of s w) x _)
    go (Give x) ok = quiet s w _ _ inside law refl (λ u. refl) (alike_give w (of s w) x _)
    go (Look x f) ok = quiet s w _ _ inside law refl (λ u. refl) (alike_look w (of s w) x f _)
    go (Fill x f v) ok = quiet s w _ _ inside law refl (λ u. refl) (alike_fill w (of s w) x f v)
    go (Link p side leaf new) ok = exchange_quiet s w p side leaf _ _ inside law
        (alike_link w (of s w) p side leaf new _)
    go (Flag p side leaf) ok = exchange_quiet s w p side leaf _ _ inside law (alike_flag w (of s w) p side leaf _)
    go (Tag p side) ok = quiet s w _ _ inside law refl (λ u. refl) (alike_tag w (of s w) p side (edge s.memory p side))
    go (Splice a side x p keep) ok = exchange_quiet s w a side x _ _ inside law
        (alike_splice w (of s w) a side x p keep _)
    go (Swap p side leaf new) ok = exchange_quiet s w p side leaf _ _ inside law
        (alike_swap w (of s w) p side leaf new _)
    go (Join v) ok =
        let there = other_worker s w v ok in
        all_quiet s (applied s w (Join v)) refl refl (λ u. refl)
        (both s.layout (λ u x. Alike (of s u) x) s.workers w v _ _ inside
        (let size = staffed.workers in let lt = there.1 in omega arith)
        (alike_join w (of s w) v _) (alike_join v (of s v) v _) (λ u _ _. itself (of s u))) law
