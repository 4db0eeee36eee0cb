-- Grace: who was pinned when a node was cut has left before it is freed.
use Rattle.std.proofs.Common.{◌≡◌, ℕ, zero, suc, ◌+◌, ◌-◌, ◌==◌, ◌<◌, ◌≤◌, ◌≢◌, ◌⊎◌, inl, inr, Bool, true, false, cond, ◌||◌, List, [], ◌∷◌, ◌++◌, length, map, refl, sym, ap, subst, ◌∙◌, arith, length-append, le_of_eq}
use Rattle.std.specs.Prelude.{Option, Some, None, is_some, is_none, slice_get, drop, Result, Ok, Err, option_map}
use native.Mathlib.Decide.{ℕ_discrete}
use Rattle.std.specs.List.{list_any}
use Rattle.std.proofs.lemmas.Bool.{cond_both, cond-true, eq-eqb, and_from, cases_lt, or_right}
use Rattle.std.proofs.lemmas.List.{length-map}
use Rattle.std.proofs.lemmas.Option.{none-some, same_Some, slice_get-get_or}
use Rattle.nm_edge.specs.Edges.{Edge, is_to}
use Rattle.nm_edge.specs.declared.edge.Side.{Side}
use Rattle.nm_edge.specs.declared.node.NodeId.{NodeId}
use Rattle.nm_model.specs.declared.event.Event.{Event}
use Rattle.nm_model.specs.declared.event.Event.TheVariants.{Sight, SightFor, Announce, Leave, LeaveWith, Scan, Advance, Claim, Give, Look, Fill, Link, Flag, Tag, Splice, Swap, Join}
use Rattle.nm_model.specs.declared.reply.Reply.{Reply}
use Rattle.nm_model.specs.declared.reply.Reply.TheVariants.{Labelled, Departed, Moved, Behind, Cut, Freed, Joined}
use Rattle.nm_model.specs.declared.reply.Refused.{Refused}
use Rattle.nm_model.specs.declared.trace.Turn.{Turn}
use Rattle.nm_model.specs.declared.ledger.Queued.{Queued}
use Rattle.nm_model.specs.declared.ledger.Ledger.{Ledger}
use Rattle.nm_model.specs.Maps.{is_number}
use Rattle.nm_model.specs.Memory.{Memory, announcement, edge, put_edge}
use Rattle.nm_model.specs.Ledgers.{held, unlabelled, with_label, labelled, with_cut}
use Rattle.nm_model.specs.Knowledge.{Knowledge}
use Rattle.nm_model.specs.Learning.{learn}
use Rattle.nm_model.specs.Step.{exchanged, reply_sight, confirmed, reply_scan, reply, write}
use Rattle.nm_model.specs.Runs.{State, of, start, after, next, trace, outcome, answered, refused, reply_of, applied, unless_refused}
use Rattle.nm_model.specs.Laws.{OfEachState, nodes_cut_of, node_in, HasLeft, GraceHolds}
use Rattle.nm_model.specs.Headline.{departs, leaves}
use Rattle.nm_laws.proofs.Steps.{each, Allowed, allowed}
use Rattle.nm_laws.proofs.Sizes.{Staffed}
use Rattle.nm_laws.proofs.Epochs.{alike_claim, alike_give, alike_look, alike_fill, alike_link, alike_flag, alike_tag, alike_splice, alike_swap, other_worker}
use Rattle.nm_laws.proofs.Learned.{learn_sight_for, learn_saw, learn_labelled, learn_announced, learn_idle, learn_in, learn_moved, learn_behind}
use Rattle.nm_laws.proofs.Changes.{Ripe, Change, changed}
use Rattle.nm_laws.proofs.Changes.Change.{Keeps, Labels, Cuts, Frees}
use Rattle.nm_laws.proofs.Holders.{joins, by_worker}
use Rattle.nm_laws.proofs.TreeSteps.{Lawful}
use Rattle.nm_laws.proofs.Lawful.{applied_is, JoinOrNot, join_or_not}
use Rattle.nm_laws.proofs.Lawful.JoinOrNot.{IsJoin, IsNone}
use Rattle.nm_laws.proofs.Origins.{OriginStep, ledger_at, cut_at, staffed_next}
use Rattle.nm_laws.proofs.Origins.OriginStep.{Unchanged, Relabelled, Extended, Shortened}
use Rattle.nm_laws.proofs.Retired.{retired_in, retired_step}
use Rattle.nm_laws.proofs.Turns.{LawfulTurn, lawful_turn}
use Rattle.nm_model.proofs.Lists.{get_left, get_right, get_stays}
use Rattle.nm_laws.proofs.Once.{IsSound, OnceLaw, sound, once_turn, sound_over}

-- ---- leaves

-- a leave, with an answer or without
abbrev IsLeave : Event → Type 0
IsLeave Leave = Unit {0}
IsLeave (LeaveWith answer) = Unit {0}
IsLeave e = ⊥

-- worker w left by that event
abbrev left_by : ℕ → Event → Turn
left_by w e = record { worker = w; event = e; outcome = Ok Departed }

leave_departs : (e : Event) → IsLeave e → departs e (Ok Departed) ≡ true
leave_departs Leave is = refl
leave_departs (LeaveWith answer) is = refl
leave_departs e is = absurd is

-- ---- a pin stays until its worker leaves

module _ (w : ℕ) (k : Knowledge) (e : ℕ) (pin : k.brief.pin ≡ Some e) where
  sight_pin : (n : ℕ) → (learn w k Sight (reply_sight k n)).brief.pin ≡ Some e
  sight_pin n = cond_both k.brief.unlabelled (Labelled n) (confirmed k.brief.pin k.brief.announcement n)
      (λ r. (learn w k Sight r).brief.pin ≡ Some e)
      (λ _. rw (learn_labelled w k n) pin) (λ _. by k.brief.pin refl)
    where
      by : (o : Option ℕ) → k.brief.pin ≡ o → (learn w k Sight (confirmed o k.brief.announcement n)).brief.pin ≡ Some e
      by None is = absurd (none-some e (sym is ∙ pin))
      by (Some p) is = rw (learn_saw w k n) pin

  scan_pin : (u : ℕ) (o : Option ℕ) → (learn w k (Scan u) (reply_scan o)).brief.pin ≡ Some e
  scan_pin u None = rw (learn_idle w k u) pin
  scan_pin u (Some n) = rw (learn_in w k u n) pin

  advance_pin : (b : Bool) (n m : ℕ) → (learn w k Advance (cond b (Moved n) (Behind m))).brief.pin ≡ Some e
  advance_pin true n m = rw (learn_moved w k n) pin
  advance_pin false n m = rw (learn_behind w k m) pin

-- a worker's own event keeps its pin, or is its leave
own_pin : (s : State) (w : ℕ) (e : Event) (p : ℕ) → ((v : ℕ) → e ≡ Join v → ⊥) → (of s w).brief.pin ≡ Some p
    → IsLeave e ⊎ ((learn w (of s w) e (reply_of s w e)).brief.pin ≡ Some p)
unfolding reply
own_pin s w Sight p alone pin = inr (sight_pin w (of s w) p pin s.memory.epoch)
own_pin s w (SightFor op key) p alone pin = inr (rw
    (learn_sight_for w (of s w) op key (reply_sight (of s w) s.memory.epoch))
    (sight_pin w (of s w) p pin s.memory.epoch))
own_pin s w Announce p alone pin = inr (rw (learn_announced w (of s w) _) pin)
own_pin s w Leave p alone pin = inl tt
own_pin s w (LeaveWith answer) p alone pin = inl tt
own_pin s w (Scan u) p alone pin = inr (scan_pin w (of s w) p pin u (announcement s.memory u))
own_pin s w Advance p alone pin = inr (advance_pin w (of s w) p pin (is_number (of s w).brief.seen s.memory.epoch)
    (s.memory.epoch + 1) s.memory.epoch)
own_pin s w (Claim x) p alone pin = inr ((alike_claim w (of s w) x _).pin ∙ pin)
own_pin s w (Give x) p alone pin = inr ((alike_give w (of s w) x _).pin ∙ pin)
own_pin s w (Look x f) p alone pin = inr ((alike_look w (of s w) x f _).pin ∙ pin)
own_pin s w (Fill x f v) p alone pin = inr ((alike_fill w (of s w) x f v).pin ∙ pin)
own_pin s w (Link q d leaf new) p alone pin = inr ((alike_link w (of s w) q d leaf new _).pin ∙ pin)
own_pin s w (Flag q d leaf) p alone pin = inr ((alike_flag w (of s w) q d leaf _).pin ∙ pin)
own_pin s w (Tag q d) p alone pin = inr ((alike_tag w (of s w) q d _).pin ∙ pin)
own_pin s w (Splice a d x q keep) p alone pin = inr ((alike_splice w (of s w) a d x q keep _).pin ∙ pin)
own_pin s w (Swap q d leaf new) p alone pin = inr ((alike_swap w (of s w) q d leaf new _).pin ∙ pin)
own_pin s w (Join v) p alone pin = absurd (alone v refl)

-- a turn as the trace tells it
abbrev told_as : State → ℕ × Event → Turn
told_as s t = record { worker = t.0; event = t.1; outcome = outcome s t }

is_departed : (s : State) (w : ℕ) (e : Event) → IsLeave e → reply_of s w e ≡ Departed
unfolding reply
is_departed s w Leave leave = refl
is_departed s w (LeaveWith answer) leave = refl
is_departed s w e leave = elim leave [ ]

-- a turn is worker u's leave
abbrev IsLeaveOf : ℕ → Turn → Type 0
IsLeaveOf u t = (e : Event) × IsLeave e × (t ≡ left_by u e)

pin_turn : (s : State) → Staffed s → (t : ℕ × Event) (u p : ℕ) → (of s u).brief.pin ≡ Some p
    → IsLeaveOf u (told_as s t) ⊎ ((of (next s t) u).brief.pin ≡ Some p)
unfolding next outcome
pin_turn s staffed t u p pin = go (refused s t.0 t.1) refl
  where
    go : (o : Option Refused) → refused s t.0 t.1 ≡ o
        → IsLeaveOf u (record {
          worker = t.0;
          event = t.1;
          outcome = answered (refused s t.0 t.1) (reply_of s t.0 t.1);
        }) ⊎ ((of (unless_refused (refused s t.0 t.1) s (applied s t.0 t.1)) u).brief.pin ≡ Some p)
    go (Some r) is = rw is (inr pin)
    go None is = rw is (by (join_or_not t.1))
      where
        ok : Allowed s t.0 t.1
        ok = allowed s t.0 t.1 is

        inside : t.0 < length s.workers
        inside = let size = staffed.workers in let lt = ok.worker in omega arith

        by : JoinOrNot t.1 → IsLeaveOf u (record { worker = t.0; event = t.1; outcome = Ok (reply_of s t.0 t.1) })
            ⊎ ((of (applied s t.0 t.1) u).brief.pin ≡ Some p)
        by (IsJoin v e) = inr (subst (λ (x : Event). Allowed s t.0 x → (of (applied s t.0 x) u).brief.pin ≡ Some p)
            (sym e)
            (λ ok.
            let there = other_worker s t.0 v ok.event in
            by_worker s (applied s t.0 (Join v)) t.0 v (joins s t.0 v inside
            (let size = staffed.workers in let lt = there.1 in omega arith) there.0)
            (λ y k. (of s y).brief.pin ≡ Some p → k.brief.pin ≡ Some p) (λ z. z) (λ z. z) (λ y _ _ z. z) u pin) ok)
        by (IsNone alone) = elim (ℕ_discrete u t.0) [
          | yes e ↦ own (own_pin s t.0 t.1 p alone (ap (λ (y : ℕ). (of s y).brief.pin) (sym e) ∙ pin)) e
          | no ne ↦ inr (rw (applied_is s t.0 t.1 alone)
              (each s.layout (λ y k. y ≢ t.0 → (of s y).brief.pin ≡ Some p → k.brief.pin ≡ Some p) s.workers t.0 _
              inside (λ far _. absurd (far refl)) (λ y _ _ z. z) u ne pin))
        ]
          where
            own : IsLeave t.1 ⊎ ((learn t.0 (of s t.0) t.1 (reply_of s t.0 t.1)).brief.pin ≡ Some p) → u ≡ t.0
                → IsLeaveOf u (record { worker = t.0; event = t.1; outcome = Ok (reply_of s t.0 t.1) })
                ⊎ ((of (applied s t.0 t.1) u).brief.pin ≡ Some p)
            own (inl leave) e = inl (
              t.1,
              leave,
              λ i. record {
                worker = sym e i;
                event = t.1;
                outcome = Ok
                    (is_departed s t.0 t.1 leave i);
              },
            )
            own (inr same) e = inr (rw (applied_is s t.0 t.1 alone)
                (each s.layout (λ y k. y ≡ t.0 → k.brief.pin ≡ Some p) s.workers t.0 _ inside (λ _. same)
                (λ y far z. absurd (far z)) u e))

leaves_by : (u : ℕ) (t : Turn) → IsLeaveOf u t → leaves u t ≡ true
leaves_by u t left = ap (leaves u) left.2 ∙ and_from (u == u) (departs left.0 (Ok Departed)) (eq-eqb u u refl)
    (leave_departs left.0 left.1)

-- over a run a pin stays, or its worker left
pub left_or_pinned : (s : State) → Staffed s → (ts : List (ℕ × Event)) (u p : ℕ) → (of s u).brief.pin ≡ Some p
    → HasLeft u (trace s ts) ⊎ ((of (after s ts) u).brief.pin ≡ Some p)
unfolding after trace
left_or_pinned s staffed [] u p pin = inr pin
left_or_pinned s staffed (t ∷ ts) u p pin = go (pin_turn s staffed t u p pin)
    (λ still. left_or_pinned (next s t) (staffed_next s t staffed) ts u p still)
  where
    on : HasLeft u (trace (next s t) ts) ⊎ ((of (after (next s t) ts) u).brief.pin ≡ Some p)
        → HasLeft u (told_as s t ∷ trace (next s t) ts) ⊎ ((of (after (next s t) ts) u).brief.pin ≡ Some p)
    on (inl left) = inl (ap (λ (b : Bool). leaves u (told_as s t) || b) left
        ∙ or_right (leaves u (told_as s t)) true refl)
    on (inr still) = inr still

    go : IsLeaveOf u (told_as s t) ⊎ ((of (next s t) u).brief.pin ≡ Some p)
        → ((of (next s t) u).brief.pin ≡ Some p → HasLeft u (trace (next s t) ts)
        ⊎ ((of (after (next s t) ts) u).brief.pin ≡ Some p))
        → HasLeft u (told_as s t ∷ trace (next s t) ts) ⊎ ((of (after (next s t) ts) u).brief.pin ≡ Some p)
    go (inl leave) rest = inl (ap (λ (b : Bool). b || list_any (leaves u) (trace (next s t) ts))
        (leaves_by u (told_as s t) leave))
    go (inr still) rest = on (rest still)

-- ---- the epoch never falls

exchanged_epoch : (m : Memory) (p : ℕ) (d : Side) (leaf : ℕ) (e : Edge) → m.epoch ≤ (exchanged m p d leaf e).epoch
exchanged_epoch m p d leaf e = cond_both (is_to (edge m p d) leaf) (put_edge m p d e) m (λ n. m.epoch ≤ n.epoch)
    (λ _. le_of_eq refl) (λ _. le_of_eq refl)

written_epoch : (m : Memory) (k : Knowledge) (w : ℕ) (e : Event) → m.epoch ≤ (write m k w e).epoch
unfolding write
written_epoch m k w Advance = cond_both (is_number k.brief.seen m.epoch) (record m { epoch = m.epoch + 1 }) m
    (λ n. m.epoch ≤ n.epoch) (λ _. omega arith) (λ _. le_of_eq refl)
written_epoch m k w (Link p d leaf new) = exchanged_epoch m p d leaf _
written_epoch m k w (Flag p d leaf) = exchanged_epoch m p d leaf _
written_epoch m k w (Splice a d x p keep) = exchanged_epoch m a d x _
written_epoch m k w (Swap p d leaf new) = exchanged_epoch m p d leaf _
written_epoch m k w e = le_of_eq refl

pub epoch_grows : (s : State) (t : ℕ × Event) → s.memory.epoch ≤ (next s t).memory.epoch
unfolding next applied
epoch_grows s t = go (refused s t.0 t.1)
  where
    go : (o : Option Refused) → s.memory.epoch ≤ (unless_refused o s (applied s t.0 t.1)).memory.epoch
    go None = written_epoch s.memory (of s t.0) t.0 t.1
    go (Some r) = le_of_eq refl

-- ---- labels of what was cut since an epoch

abbrev pub IsNotBelow : ℕ → Option ℕ → Type 0
IsNotBelow e None = Unit {0}
IsNotBelow e (Some l) = e ≤ l

-- of an origin's queue, what was retired from index n on is unlabelled or has a label of e at least
abbrev pub IsGuarded : ℕ → ℕ → Option Ledger → Type 0
IsGuarded e n None = Unit {0}
IsGuarded e n (Some l) = (j : ℕ) (q : Queued) → slice_get l.queue j ≡ Some q → n ≤ length l.freed + j
    → IsNotBelow e q.label

labelled_not_below : (e m : ℕ) (xs : List Queued) (j : ℕ) (q : Queued) → e ≤ m
    → slice_get (map (with_label m) xs) j ≡ Some q → ((y : Queued) → slice_get xs j ≡ Some y → IsNotBelow e y.label)
    → IsNotBelow e q.label
labelled_not_below e m [] j q le at was = absurd (none-some q at)
labelled_not_below e m (x ∷ xs) zero q le at was = rw
    (← ap (λ (y : Queued). y.label) (same_Some (with_label m x) q at)) (go x.label refl)
  where
    go : (o : Option ℕ) → x.label ≡ o → IsNotBelow e
        (cond (is_none x.label) (record { node = x.node; label = Some m }) x).label
    go None is = rw is le
    go (Some l) is = subst (λ (b : Bool). IsNotBelow e (cond b (record { node = x.node; label = Some m }) x).label)
        (sym (ap is_none is)) (was x refl)
labelled_not_below e m (x ∷ xs) (suc j) q le at was = labelled_not_below e m xs j q le at was

pub unlabelled_at : (ns : List NodeId) (i : ℕ) (q : Queued) → slice_get (map unlabelled ns) i ≡ Some q → q.label ≡ None
unlabelled_at [] i q at = absurd (none-some q at)
unlabelled_at (n ∷ ns) zero q at = ap (λ (y : Queued). y.label) (sym (same_Some (unlabelled n) q at))
unlabelled_at (n ∷ ns) (suc i) q at = unlabelled_at ns i q at

-- a cut adds unlabelled entries alone
extended_guard : (e n : ℕ) (l : Ledger) (ns : List NodeId) → IsGuarded e n (Some l)
    → IsGuarded e n (Some (with_cut ns l))
extended_guard e n l ns was j q at le = elim (cases_lt j (length l.queue)) [
  | inl lt ↦ was j q (get_left l.queue (map unlabelled ns) j q lt at) le
  | inr ge ↦ rw (unlabelled_at ns (j - length l.queue) q (sym (get_right l.queue (map unlabelled ns) j ge) ∙ at)) tt
]

guard_step : (e n : ℕ) (s : State) (t : ℕ × Event) (o : ℕ) (before after : Option Ledger) → e ≤ s.memory.epoch
    → OriginStep s t o before after → IsGuarded e n before → IsGuarded e n after
guard_step e n s t o before after le (Unchanged is _) g = rw is g
guard_step e n s t o before after le (Relabelled is _) g = rw is (go before g)
  where
    go : (x : Option Ledger) → IsGuarded e n x → IsGuarded e n (option_map (labelled s.memory.epoch) x)
    go None g = tt
    go (Some l) g = λ j q at more. labelled_not_below e s.memory.epoch l.queue j q le at (λ y is. g j y is more)
guard_step e n s t o before after le (Extended l ns was is _ _ _ _) g = rw is (extended_guard e n l ns (rw was at g))
guard_step e n s t o before after le (Shortened l q rest was queue is _ _ _ _) g = rw is (λ j y at more.
    (rw was at g) (suc j) y (ap (λ (xs : List Queued). slice_get xs (suc j)) queue
    ∙ (sym (ap (λ (xs : List Queued). slice_get (drop 1 xs) j) queue) ∙ at))
    (let k = length-append l.freed (q.node ∷ []) in omega arith))

-- ---- the origin of a node that is freed

pub record FreedFrom (s : State) (h : ℕ → ℕ) (w : ℕ) (n : NodeId) : Type 0 where
  pub origin : ℕ
  pub ledger : Ledger
  pub entry : Queued
  pub rest : List Queued
  pub is : ledger_at s h origin ≡ Some ledger
  pub queue : ledger.queue ≡ entry ∷ rest
  pub node : entry.node ≡ n
  pub ripe : Ripe (of s w).brief.seen entry

pub freed_from : (s : State) (h : ℕ → ℕ) → Lawful s h → (t : ℕ × Event) (n : NodeId) → outcome s t ≡ Ok (Freed n)
    → FreedFrom s h t.0 n
unfolding outcome
freed_from s h law t n is = go (refused s t.0 t.1) refl is
  where
    differ : (r : Refused) → ◌≡◌ {A = Result Reply Refused} (Err r) (Ok (Freed n)) → ⊥
    differ r e = cc

    same_reply : (r q : Reply) → ◌≡◌ {A = Result Reply Refused} (Ok r) (Ok q) → r ≡ q
    same_reply r q e = cc

    by : (k : Knowledge) → reply_of s t.0 t.1 ≡ Freed n → Change s t.0 t.1 (reply_of s t.0 t.1) k → FreedFrom s h t.0 n
    by k r (Keeps _ _ _ un) = absurd (un n r)
    by k r (Labels _ _ q) = absurd (no (sym q ∙ r))
      where
        no : Labelled s.memory.epoch ≡ Freed n → ⊥
        no e = cc
    by k r (Cuts ns _ _ q _) = absurd (no (sym q ∙ r))
      where
        no : Cut ns ≡ Freed n → ⊥
        no e = cc
    by k r (Frees x y f ripe _ _ q _) = record {
      origin = f.origin;
      ledger = f.ledger;
      entry = y;
      rest = f.rest;
      is = ap (λ (z : ℕ). held (of s z).ledgers f.origin)
          (sym (law.holders.only t.0 f.origin (ap is_some f.is_held))) ∙ f.is_held;
      queue = f.queue;
      node = same (sym q ∙ r);
      ripe = ripe;
    }
      where
        same : Freed y.node ≡ Freed n → y.node ≡ n
        same e = cc

    no_join : (v : ℕ) → t.1 ≡ Join v → reply_of s t.0 t.1 ≡ Freed n → ⊥
    no_join v e r = no (sym (ap (reply_of s t.0) e) ∙ r)
      where
        no : Joined (of s v).ledgers ≡ Freed n → ⊥
        no e = cc

    go : (o : Option Refused) → refused s t.0 t.1 ≡ o
        → ◌≡◌ {A = Result Reply Refused} (answered o (reply_of s t.0 t.1)) (Ok (Freed n)) → FreedFrom s h t.0 n
    go (Some r) i is = absurd (differ r is)
    go None i is = on (join_or_not t.1)
      where
        on : JoinOrNot t.1 → FreedFrom s h t.0 n
        on (IsJoin v e) = absurd (no_join v e (same_reply _ _ is))
        on (IsNone alone) = by _ (same_reply _ _ is) (changed s t.0 t.1 (allowed s t.0 t.1 i) alone).ledgers

-- ---- the law

-- since a cut at epoch e: the node stands at index k of what the origin retired, and what was
-- retired from n on is guarded
record Since (e n o k : ℕ) (x : NodeId) (s : State) (h : ℕ → ℕ) : Type 0 where
  epoch : e ≤ s.memory.epoch
  guard : IsGuarded e n (ledger_at s h o)
  stands : slice_get (retired_in (ledger_at s h o)) k ≡ Some x

since_step : (e n o k : ℕ) (x : NodeId) (s : State) (h : ℕ → ℕ) → Lawful s h → OnceLaw s h
    → (t : ℕ × Event) (turn : LawfulTurn s h t) → Since e n o k x s h → Since e n o k x (next s t) turn.holder
since_step e n o k x s h law once t turn was = record {
  epoch = let more = epoch_grows s t in let le = was.epoch in omega arith;
  guard = guard_step e n s t o (ledger_at s h o) (ledger_at (next s t) turn.holder o) was.epoch (turn.step o) was.guard;
  stands = ap (λ ns. slice_get ns k) (retired_step s t o (ledger_at s h o) (ledger_at (next s t) turn.holder o)
      (turn.step o)) ∙ get_stays (retired_in (ledger_at s h o)) (cut_at s t o) k x was.stands;
}

-- right after the cut
since_cut : (s : State) (h : ℕ → ℕ) → Lawful s h → OnceLaw s h
    → (t : ℕ × Event) (turn : LawfulTurn s h t) (ns : List NodeId) (i : ℕ) (x : NodeId) → outcome s t ≡ Ok (Cut ns)
    → slice_get ns i ≡ Some x
    → Since s.memory.epoch (length (retired_in (ledger_at s h t.0))) t.0
    (length (retired_in (ledger_at s h t.0)) + i) x (next s t) turn.holder
since_cut s h law once t turn ns i x is at = go (turn.step t.0)
  where
    cuts : cut_at s t t.0 ≡ ns
    cuts = cond-true (t.0 == t.0) (nodes_cut_of (outcome s t)) [] (eq-eqb t.0 t.0 refl) ∙ ap nodes_cut_of is

    nothing : cut_at s t t.0 ≡ [] → ⊥
    nothing none = none-some x (ap (λ ms. slice_get ms i) (sym none ∙ cuts) ∙ at)

    same_cut : (ms : List NodeId) → ◌≡◌ {A = Result Reply Refused} (Ok (Cut ms)) (Ok (Cut ns)) → ms ≡ ns
    same_cut ms e = cc

    go : OriginStep s t t.0 (ledger_at s h t.0) (ledger_at (next s t) turn.holder t.0)
        → Since s.memory.epoch (length (retired_in (ledger_at s h t.0))) t.0
        (length (retired_in (ledger_at s h t.0)) + i) x (next s t) turn.holder
    go (Unchanged _ none) = absurd (nothing none)
    go (Relabelled _ none) = absurd (nothing none)
    go (Shortened _ _ _ _ _ _ _ none _ _) = absurd (nothing none)
    go (Extended l ms was now _ _ r _) = record {
      epoch = epoch_grows s t;
      guard = rw (was, now) (guard_new l ms (rw was at (once.balanced t.0)));
      stands = rw (was, now) (get_right l.retired ms (length l.retired + i) (omega arith)
          ∙ (ap (slice_get ms) index ∙ (ap (λ (ys : List NodeId). slice_get ys i) (same_cut ms (sym r ∙ is)) ∙ at)));
    }
      where
        index : length l.retired + i - length l.retired ≡ i
        index = omega arith

        guard_new : (l : Ledger) (ms : List NodeId) → l.retired ≡ l.freed ++ map node_in l.queue
            → IsGuarded s.memory.epoch (length l.retired) (Some (with_cut ms l))
        guard_new l ms b j q at le = rw (unlabelled_at ms (j - length l.queue) q
            (sym (get_right l.queue (map unlabelled ms) j past) ∙ at)) tt
          where
            past : length l.queue ≤ j
            past = let size = ap (λ (ys : List NodeId). length ys) b ∙ length-append l.freed (map node_in l.queue) in
                let same = length-map l.queue node_in in omega arith

-- a worker that was pinned at the cut cannot be pinned still when the node is freed
no_grace_lost : (s : State) (h : ℕ → ℕ) → Lawful s h → OnceLaw s h → (e n o k : ℕ) (x : NodeId) → Since e n o k x s h
    → n ≤ k → (w : ℕ) → FreedFrom s h w x → (u p : ℕ) → (of s u).brief.pin ≡ Some p → p ≤ e → ⊥
no_grace_lost s h law once e n o k x since after' w f u p pin low = clash f.entry.label refl
    (guarded 0 f.entry (ap (λ (ys : List Queued). slice_get ys 0) f.queue) (let at = same.1 in omega arith))
  where
    front : slice_get (retired_in (ledger_at s h f.origin)) (length f.ledger.freed) ≡ Some x
    front = ap (λ y. slice_get (retired_in y) (length f.ledger.freed)) f.is
        ∙ (ap (λ (ys : List NodeId). slice_get ys (length f.ledger.freed))
        (rw f.is at (once.balanced f.origin) ∙ ap (λ (es : List Queued). f.ledger.freed ++ map node_in es) f.queue)
        ∙ (get_right f.ledger.freed (f.entry.node ∷ map node_in f.rest) (length f.ledger.freed) (le_of_eq refl)
        ∙ (ap (slice_get (f.entry.node ∷ map node_in f.rest)) none ∙ ap Some f.node)))
      where
        none : length f.ledger.freed - length f.ledger.freed ≡ 0
        none = omega arith

    same : (o ≡ f.origin) × (k ≡ length f.ledger.freed)
    same = once.once o f.origin k (length f.ledger.freed) x since.stands front

    guarded : IsGuarded e n (Some f.ledger)
    guarded = rw (ap (ledger_at s h) same.0 ∙ f.is) at since.guard

    clash : (l : Option ℕ) → f.entry.label ≡ l → IsNotBelow e f.entry.label → ⊥
    clash None is g = none-some f.ripe.label (sym is ∙ f.ripe.is_labelled)
    clash (Some b) is g =
        let high : e ≤ f.ripe.label = rw f.ripe.is_labelled at g in
        let old = f.ripe.old in
        let seen = law.epochs.sights w f.ripe.epoch f.ripe.is_seen in
        let near = law.epochs.pins u p pin in
        omega arith

pub grace_holds : OfEachState GraceHolds
grace_holds L enough before cut between free ns n w e is there freed pin = go
    (left_or_pinned (next s cut) (staffed_next s cut k.law.staffed) between w e pinned)
  where
    s : State
    s = after (start L) before

    k : IsSound (after (start L) before)
    k = sound L enough before

    turn : LawfulTurn (after (start L) before) k.holder cut
    turn = lawful_turn (after (start L) before) k.holder k.law k.once.born cut

    now : IsSound (next (after (start L) before) cut)
    now = record {
      holder = turn.holder;
      law = turn.law;
      once = once_turn (after (start L) before) k.holder k.law
          k.once cut turn;
    }

    at_cut : slice_get ns there.0 ≡ Some n
    at_cut = slice_get-get_or ns there.0 n there.1 ∙ ap Some there.2

    e0 : ℕ
    e0 = (after (start L) before).memory.epoch

    n0 : ℕ
    n0 = length (retired_in (ledger_at (after (start L) before) k.holder cut.0))

    last : (t : IsSound (after (next (after (start L) before) cut) between))
        × Since (after (start L) before).memory.epoch (length
        (retired_in (ledger_at (after (start L) before) k.holder cut.0))) cut.0
        (length (retired_in (ledger_at (after (start L) before) k.holder cut.0)) + there.0) n
        (after (next (after (start L) before) cut) between) t.holder
    last = sound_over (λ t h. Since (after (start L) before).memory.epoch
        (length (retired_in (ledger_at (after (start L) before) k.holder cut.0))) cut.0
        (length (retired_in (ledger_at (after (start L) before) k.holder cut.0)) + there.0) n t h)
        (since_step _ _ _ _ n) (next (after (start L) before) cut) now between
        (since_cut (after (start L) before) k.holder k.law k.once cut turn ns there.0 n is at_cut)

    -- a cut is no leave
    pinned : (of (next (after (start L) before) cut) w).brief.pin ≡ Some e
    pinned = by (pin_turn (after (start L) before) k.law.staffed cut w e pin)
      where
        no : ◌≡◌ {A = Result Reply Refused} (Ok (Cut ns)) (Ok Departed) → ⊥
        no z = cc

        by : IsLeaveOf w (told_as (after (start L) before) cut)
            ⊎ ((of (next (after (start L) before) cut) w).brief.pin ≡ Some e)
            → (of (next (after (start L) before) cut) w).brief.pin ≡ Some e
        by (inl leave) = absurd (no (sym is ∙ ap (λ (y : Turn). y.outcome) leave.2))
        by (inr still) = still

    go : HasLeft w (trace (next (after (start L) before) cut) between)
        ⊎ ((of (after (next (after (start L) before) cut) between) w).brief.pin ≡ Some e)
        → HasLeft w (trace (next (after (start L) before) cut) between)
    go (inl left) = left
    go (inr still) = absurd (no_grace_lost (after (next (after (start L) before) cut) between) last.0.holder
        last.0.law last.0.once _ _ _ _ n last.1 (omega arith) free.0
        (freed_from (after (next (after (start L) before) cut) between) last.0.holder last.0.law free n freed) w e
        still (k.law.epochs.pins w e pin).0)
