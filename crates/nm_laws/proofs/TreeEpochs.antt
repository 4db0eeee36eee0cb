-- The laws of the tree are kept by sights, announcements, leaves, scans and advances.
use Rattle.std.proofs.Common.{◌≡◌, ℕ, zero, suc, ◌==◌, ◌≤◌, ◌⊎◌, inr, eqb, Bool, true, false, cond, List, [], ◌∷◌, refl, sym, ap, subst, ◌∙◌, arith, true≢false}
use Rattle.std.specs.Prelude.{Option, Some, None, slice_get, unwrap_or, is_some, is_none, map, option_map}
use Rattle.std.specs.Ordering.{nat_cmp, is_eq}
use native.Mathlib.Decide.{ℕ_discrete}
use Rattle.std.proofs.lemmas.Bool.{cond_both, cond-false, eqb-true, ne_eqb, le-ltb}
use Rattle.std.proofs.lemmas.Option.{none-some}
use Rattle.nm_edge.specs.declared.edge.Side.{Side}
use Rattle.nm_edge.specs.declared.edge.Side.TheVariants.{Left, Right}
use Rattle.nm_model.specs.declared.event.Event.TheVariants.{Sight, Announce, Leave, Scan, Advance}
use Rattle.nm_model.specs.declared.reply.Reply.TheVariants.{Labelled, Pinned, Missed, Announced, Departed, Moved, Behind}
use Rattle.nm_model.specs.declared.ledger.Queued.{Queued}
use Rattle.nm_model.specs.declared.ledger.Ledger.{Ledger}
use Rattle.nm_model.specs.Memory.{Memory}
use Rattle.nm_model.specs.Ledgers.{held, queue_of, with_label, labelled as labelled_ledger}
use Rattle.nm_model.specs.Knowledge.{Knowledge, unread, knows, is_private, draft_of, read, read_on}
use Rattle.nm_model.specs.Learning.{learn, saw, labelling, pinned}
use Rattle.nm_model.specs.Places.{slot_of}
use Rattle.nm_model.specs.Step.{reply_sight, confirmed, reply_scan}
use Rattle.nm_model.proofs.Tables.{at_eqb}
use Rattle.nm_laws.proofs.Trees.{each_side}
use Rattle.nm_laws.proofs.Held.{held-label}
use Rattle.nm_laws.proofs.Learned.{learn_saw, learn_labelled, learn_pinned, learn_missed, learn_announced, learn_departed, learn_idle, learn_in, learn_moved, learn_behind}
use Rattle.nm_laws.proofs.Pictures.{InReach, IsOnPath, TreeLaw}
use Rattle.nm_laws.proofs.Views.{view, with_worker, row, same_row, quiet_view, learn_view, held_queue, queued_at, label_below, is_late, retimed_view, twice, own_row, drafted_on}

-- ---- labels

label_slots : (e : ℕ) (q : List Queued) (i : ℕ) → queued_at (map (with_label e) q) i ≡ queued_at q i
label_slots e [] i = refl
label_slots e (x ∷ q) zero = cond_both (is_none x.label) (record { node = x.node; label = Some e }) x
    (λ y. Some (slot_of y) ≡ Some (slot_of x)) (λ _. refl) (λ _. refl)
label_slots e (x ∷ q) (suc i) = label_slots e q i

-- a label that no pin is above makes nothing late
fresh : (e : ℕ) (o : Option ℕ) → ((p : ℕ) → o ≡ Some p → p ≤ e) → (q : List Queued) (i : ℕ)
    → is_late o (slice_get q i) ≡ false → is_late o (slice_get (map (with_label e) q) i) ≡ false
fresh e None below q i h = refl
fresh e (Some p) below [] i h = refl
fresh e (Some p) below (x ∷ q) zero h = go x.label refl h
  where
    go : (l : Option ℕ) → x.label ≡ l → label_below p l ≡ false
        → label_below p (cond (is_none x.label) (record { node = x.node; label = Some e }) x).label ≡ false
    go None is h = rw is (le-ltb e p (below p refl))
    go (Some n) is h = ap (λ o. label_below p (cond (is_none o) (record { node = x.node; label = Some e }) x).label)
        is ∙ (ap (label_below p) is ∙ h)
fresh e (Some p) below (x ∷ q) (suc i) h = fresh e (Some p) below q i h

module _ (N : ℕ) (m : Memory) (kn : ℕ → Knowledge) (h : ℕ → ℕ) (w : ℕ) (law : TreeLaw N (view m kn h)) where
  labels_view : (e : ℕ) → ((u p : ℕ) → (kn u).brief.pin ≡ Some p → p ≤ e)
      → TreeLaw N (view m (with_worker kn w (labelling (saw (kn w) e) e)) h)
  labels_view e pins = retimed_view N m kn h w (labelling (saw (kn w) e) e) (record {
    queue = λ o i. ap (λ l. queued_at (queue_of l) i) (held-label e (kn w).ledgers o) ∙ slots (held (kn w).ledgers o) i;
    private = λ x. refl;
    knows = λ x. refl;
    read = λ x d. refl;
    drafted = λ x d. refl;
  }) law young
    where
      slots : (l : Option Ledger) (i : ℕ) → queued_at (queue_of (option_map (labelled_ledger e) l)) i
          ≡ queued_at (queue_of l) i
      slots None i = refl
      slots (Some l) i = label_slots e l.queue i

      ripe : (p : Option ℕ) → ((n : ℕ) → p ≡ Some n → n ≤ e) → (l : Option Ledger) (i : ℕ)
          → is_late p (slice_get (queue_of l) i) ≡ false
          → is_late p (slice_get (queue_of (option_map (labelled_ledger e) l)) i) ≡ false
      ripe p below None i h = h
      ripe p below (Some l) i h = fresh e p below l.queue i h

      young : (u x o i : ℕ) → InReach (view m kn h) u x → (view m kn h).queue o i ≡ Some x
          → is_late (with_worker kn w (labelling (saw (kn w) e) e) u).brief.pin
          (slice_get (held_queue (with_worker kn w (labelling (saw (kn w) e) e) (h o)) o) i) ≡ false
      young u x o i r at = ap (λ p. is_late p (slice_get
          (held_queue (with_worker kn w (labelling (saw (kn w) e) e) (h o)) o) i))
          (sym (same_row (λ y. y.brief.pin) kn w (labelling (saw (kn w) e) e) refl u))
          ∙ row (λ y. is_late (kn u).brief.pin (slice_get (held_queue y o) i)) kn w (labelling (saw (kn w) e) e)
          (h o) false
          (λ own. ap (λ l. is_late (kn u).brief.pin (slice_get (queue_of l) i)) (held-label e (kn w).ledgers o)
          ∙ ripe (kn u).brief.pin (pins u) (held (kn w).ledgers o) i
          (ap (λ (y : ℕ). is_late (kn u).brief.pin (slice_get (held_queue (kn y) o) i)) (sym own)
          ∙ law.unlate u x o i r at))
          (λ _. law.unlate u x o i r at)

-- ---- pins

abbrev forgetful : Knowledge → Knowledge
forgetful k = record k { known = [] }

abbrev repinned : Knowledge → Option ℕ → Knowledge
repinned k o = record k { brief = record k.brief { pin = o } }

-- all known nodes are forgotten
forgets_view : (N : ℕ) (m : Memory) (kn : ℕ → Knowledge) (h : ℕ → ℕ) (w : ℕ) → TreeLaw N (view m kn h)
    → TreeLaw N (view m (with_worker kn w (forgetful (kn w))) h)
forgets_view N m kn h w law = learn_view N m kn h w (forgetful (kn w)) (record {
  pin = refl;
  queue = λ o. refl;
  private = λ x. refl;
  drafted = λ x d. refl;
  met = λ x is. absurd (true≢false (sym is));
  heard = λ x d y is. absurd (none-some y (sym (each_side (λ e. read_on unread e ≡ None) refl refl d) ∙ is));
}) law

-- a worker that knows no node changes its pin
repins_view : (N : ℕ) (m : Memory) (kn : ℕ → Knowledge) (h : ℕ → ℕ) (w : ℕ) (p : Option ℕ) → TreeLaw N (view m kn h)
    → TreeLaw N (view m (with_worker kn w (repinned (forgetful (kn w)) p)) h)
repins_view N m kn h w p law = subst (λ (f : ℕ → Knowledge). TreeLaw N (view m f h))
    (twice kn w (forgetful (kn w)) (repinned (forgetful (kn w)) p))
    (retimed_view N m kn1 h w (repinned (forgetful (kn w)) p) (record {
      queue = λ o i. ap (λ y. queued_at (held_queue y o) i) (sym mine);
      private = λ x. ap (λ y. is_private y x) (sym mine);
      knows = λ x. ap (λ y. knows y x) (sym mine);
      read = λ x d. ap (λ y. read y x d) (sym mine);
      drafted = λ x d. ap (λ y. drafted_on (draft_of y x) d) (sym mine);
    }) law1 young)
  where
    kn1 : ℕ → Knowledge
    kn1 = with_worker kn w (forgetful (kn w))

    mine : kn1 w ≡ forgetful (kn w)
    mine = own_row kn w (forgetful (kn w))

    law1 : TreeLaw N (view m kn1 h)
    law1 = forgets_view N m kn h w law

    young : (u x o i : ℕ) → InReach (view m kn1 h) u x → (view m kn1 h).queue o i ≡ Some x
        → is_late (with_worker kn1 w (repinned (forgetful (kn w)) p) u).brief.pin
        (slice_get (held_queue (with_worker kn1 w (repinned (forgetful (kn w)) p) (h o)) o) i) ≡ false
    young u x o i r at = elim (ℕ_discrete u w) [
      | yes e ↦ absurd (true≢false (sym (rw e at r.known) ∙ ap (λ y. knows y r.from) mine))
      | no ne ↦ ap (λ q. is_late q (slice_get (held_queue (with_worker kn1 w (repinned (forgetful (kn w)) p) (h o))
          o) i)) (ap (λ y. y.brief.pin) (cond-false (eqb u w) (repinned (forgetful (kn w)) p) (kn1 u) (ne_eqb u w ne)))
          ∙ (ap (λ q. is_late (kn1 u).brief.pin (slice_get q i))
          (sym (same_row (λ y. held_queue y o) kn1 w (repinned (forgetful (kn w)) p)
          (ap (λ y. held_queue y o) (sym mine)) (h o)))
          ∙ law1.unlate u x o i r at)
    ]

pins_view : (N : ℕ) (m : Memory) (kn : ℕ → Knowledge) (h : ℕ → ℕ) (w e : ℕ) → TreeLaw N (view m kn h)
    → TreeLaw N (view m (with_worker kn w (pinned (saw (kn w) e) e)) h)
pins_view N m kn h w e law = subst (λ (f : ℕ → Knowledge). TreeLaw N (view m f h))
    (twice kn w (repinned (forgetful (kn w)) (Some e)) (pinned (saw (kn w) e) e))
    (learn_view N m kn1 h w (pinned (saw (kn w) e) e) (record {
      pin = ap (λ y. y.brief.pin) (sym mine);
      queue = λ o. ap (λ y. held_queue y o) (sym mine);
      private = λ x. ap (λ y. is_private y x) (sym mine);
      drafted = λ x d. ap (λ y. drafted_on (draft_of y x) d) (sym mine);
      met = met;
      heard = λ x d y is. absurd (none-some y (sym (unread_there x d) ∙ is));
    }) (repins_view N m kn h w (Some e) law))
  where
    kn1 : ℕ → Knowledge
    kn1 = with_worker kn w (repinned (forgetful (kn w)) (Some e))

    mine : kn1 w ≡ repinned (forgetful (kn w)) (Some e)
    mine = own_row kn w (repinned (forgetful (kn w)) (Some e))

    unread_there : (x : ℕ) (d : Side) → read (pinned (saw (kn w) e) e) x d ≡ None
    unread_there x d = go (is_eq (nat_cmp x 1)) (is_eq (nat_cmp x 2)) d
      where
        go : (b c : Bool) (d : Side) → read_on (unwrap_or (cond b (Some unread) (cond c (Some unread) None)) unread)
            d ≡ None
        go true c Left = refl
        go true c Right = refl
        go false true Left = refl
        go false true Right = refl
        go false false Left = refl
        go false false Right = refl

    met : (x : ℕ) → knows (pinned (saw (kn w) e) e) x ≡ true → InReach (view m kn1 h) w x ⊎ IsOnPath (view m kn1 h) x
    met x is = go (is_eq (nat_cmp x 1)) (is_eq (nat_cmp x 2)) (sym (at_eqb x 1)) (sym (at_eqb x 2)) is
      where
        go : (b c : Bool) → eqb x 1 ≡ b → eqb x 2 ≡ c
            → is_some (cond b (Some unread) (cond c (Some unread) None)) ≡ true
            → InReach (view m kn1 h) w x ⊎ IsOnPath (view m kn1 h) x
        go true c i j is = let one = eqb-true x 1 i in
            inr (record { path = []; ends = sym one; is_slot = λ z. absurd (omega arith) })
        go false true i j is = let two = eqb-true x 2 j in
            inr (record { path = Left ∷ []; ends = law.root_left ∙ sym two; is_slot = λ z. absurd (omega arith) })
        go false false i j is = absurd (true≢false (sym is))

-- ---- events

module _ (N : ℕ) (m : Memory) (kn : ℕ → Knowledge) (h : ℕ → ℕ) (w : ℕ) (law : TreeLaw N (view m kn h)) where
  -- what is known of the epochs changes, and nothing else
  brief_view : (k : Knowledge) → k.brief.pin ≡ (kn w).brief.pin → k.known ≡ (kn w).known → k.drafts ≡ (kn w).drafts
      → k.ledgers ≡ (kn w).ledgers → TreeLaw N (view m (with_worker kn w k) h)
  brief_view k pin known drafts ledgers = quiet_view N m kn h w k (record {
    pin = pin;
    queue = λ o. ap (λ l. queue_of (held l o)) ledgers;
    private = λ x. ap (λ d. is_private (record (kn w) { drafts = d }) x) drafts;
    knows = λ x. ap (λ n. knows (record (kn w) { known = n }) x) known;
    read = λ x d. ap (λ n. read (record (kn w) { known = n }) x d) known;
    drafted = λ x d. ap (λ n. drafted_on (draft_of (record (kn w) { drafts = n }) x) d) drafts;
  }) law

  pub sight_view : ((u p : ℕ) → (kn u).brief.pin ≡ Some p → p ≤ m.epoch)
      → TreeLaw N (view m (with_worker kn w (learn w (kn w) Sight (reply_sight (kn w) m.epoch))) h)
  sight_view pins =
      cond_both (kn w).brief.unlabelled (Labelled m.epoch)
      (confirmed (kn w).brief.pin (kn w).brief.announcement m.epoch)
      (λ r. TreeLaw N (view m (with_worker kn w (learn w (kn w) Sight r)) h))
      (λ _. rw (learn_labelled w (kn w) m.epoch) (labels_view N m kn h w law m.epoch pins))
      (λ _. by (kn w).brief.pin (kn w).brief.announcement)
    where
      seen : TreeLaw N (view m (with_worker kn w (saw (kn w) m.epoch)) h)
      seen = brief_view (saw (kn w) m.epoch) refl refl refl refl

      by : (p n : Option ℕ) → TreeLaw N (view m (with_worker kn w (learn w (kn w) Sight (confirmed p n m.epoch))) h)
      by (Some p) n = rw (learn_saw w (kn w) m.epoch) seen
      by None None = rw (learn_saw w (kn w) m.epoch) seen
      by None (Some a) = cond_both (a == m.epoch) (Pinned m.epoch) (Missed m.epoch)
          (λ r. TreeLaw N (view m (with_worker kn w (learn w (kn w) Sight r)) h))
          (λ _. rw (learn_pinned w (kn w) m.epoch) (pins_view N m kn h w m.epoch law))
          (λ _. rw (learn_missed w (kn w) m.epoch) seen)

  pub announce_view : (e : ℕ) → TreeLaw N (view m (with_worker kn w (learn w (kn w) Announce (Announced e))) h)
  announce_view e = rw (learn_announced w (kn w) e) (brief_view _ refl refl refl refl)

  pub scan_view : (u : ℕ) (n : Option ℕ) → TreeLaw N
      (view m (with_worker kn w (learn w (kn w) (Scan u) (reply_scan n))) h)
  scan_view u None = rw (learn_idle w (kn w) u) (brief_view _ refl refl refl refl)
  scan_view u (Some e) = rw (learn_in w (kn w) u e) (brief_view _ refl refl refl refl)

  pub advance_view : (b : Bool) (e n : ℕ) → TreeLaw N
      (view m (with_worker kn w (learn w (kn w) Advance (cond b (Moved e) (Behind n)))) h)
  advance_view true e n = rw (learn_moved w (kn w) e) (brief_view _ refl refl refl refl)
  advance_view false e n = rw (learn_behind w (kn w) n) (brief_view _ refl refl refl refl)

pub leave_view : (N : ℕ) (m : Memory) (kn : ℕ → Knowledge) (h : ℕ → ℕ) (w : ℕ) → TreeLaw N (view m kn h)
    → TreeLaw N (view m (with_worker kn w (learn w (kn w) Leave Departed)) h)
leave_view N m kn h w law = rw (learn_departed w (kn w))
    (subst (λ (f : ℕ → Knowledge). TreeLaw N (view m f h)) (twice kn w (repinned (forgetful (kn w)) None) left)
    (brief_view N m kn1 h w (repins_view N m kn h w None law) left (ap (λ y. y.brief.pin) (sym mine))
    (ap (λ y. y.known) (sym mine)) (ap (λ y. y.drafts) (sym mine)) (ap (λ y. y.ledgers) (sym mine))))
  where
    left : Knowledge
    left = record (kn w) { brief = record (kn w).brief { announcement = None; pin = None }; known = [] }

    kn1 : ℕ → Knowledge
    kn1 = with_worker kn w (repinned (forgetful (kn w)) None)

    mine : kn1 w ≡ repinned (forgetful (kn w)) None
    mine = own_row kn w (repinned (forgetful (kn w)) None)
