-- Labels in a queue do not fall, unlabelled entries are last and told by the brief, and no label is
-- above the epoch.
use Rattle.std.proofs.Common.{◌≡◌, ℕ, zero, suc, ◌-◌, ◌<◌, ◌≤◌, ◌≢◌, inl, inr, ◌==◌, true, false, cond, not, ◌||◌, List, [], ◌∷◌, ◌++◌, length, map, refl, sym, ap, subst, ◌∙◌, arith, true≢false, le_of_eq}
use Rattle.std.specs.Prelude.{Option, Some, None, is_some, is_none, slice_get, drop, option_map, unwrap_or}
use native.Mathlib.Decide.{ℕ_discrete}
use Rattle.std.proofs.lemmas.Bool.{cond_both, cases_lt, or_parts}
use Rattle.std.proofs.lemmas.Option.{none-some, same_Some}
use Rattle.nm_edge.specs.Layouts.{Layout}
use Rattle.nm_edge.specs.declared.edge.Side.{Side}
use Rattle.nm_edge.specs.declared.node.NodeId.{NodeId}
use Rattle.nm_model.specs.declared.event.Event.{Event}
use Rattle.nm_model.specs.declared.event.Event.TheVariants.{Join}
use Rattle.nm_model.specs.declared.reply.Reply.{Reply}
use Rattle.nm_model.specs.declared.reply.Refused.TheVariants.{NoWorker, NotReady}
use Rattle.nm_model.specs.declared.ledger.Queued.{Queued}
use Rattle.nm_model.specs.declared.ledger.Ledger.{Ledger}
use Rattle.nm_model.specs.Maps.{or_else}
use Rattle.nm_model.specs.Memory.{named}
use Rattle.nm_model.specs.Ledgers.{held, queue_of, unlabelled, with_label, labelled, with_cut, taken_over}
use Rattle.nm_model.specs.Knowledge.{Knowledge, newcomer, way, cut_by}
use Rattle.nm_model.specs.Runs.{State, of, start, after, next, reply_of, applied, join_refusal, is_no_worker}
use Rattle.nm_model.specs.Lawful.{MayPrecede, BriefsAreRight, LabelsDoNotFall, NoLabelIsAboveTheEpoch}
use Rattle.nm_model.specs.Laws.{OfEachState}
use Rattle.nm_laws.proofs.Steps.{each, second}
use Rattle.nm_laws.proofs.Epochs.{other_worker}
use Rattle.nm_laws.proofs.Pins.{all_new}
use Rattle.nm_laws.proofs.Held.{held-label, held-retire_same, held-retire_other, held-taken_over}
use Rattle.nm_laws.proofs.Changes.{Change, changed, IsWon}
use Rattle.nm_laws.proofs.Changes.Change.{Keeps, Labels, Cuts, Frees}
use Rattle.nm_laws.proofs.Holders.{Holders, Joins, joins, by_worker, none_held}
use Rattle.nm_laws.proofs.Views.{held_queue}
use Rattle.nm_laws.proofs.TreeSplice.{Owns}
use Rattle.nm_laws.proofs.TreeSteps.{Lawful, owned}
use Rattle.nm_laws.proofs.Lawful.{applied_is, each_turn}
use Rattle.nm_laws.proofs.Opening.{new_queue}
use Rattle.nm_laws.proofs.Origins.{OriginStep, ledger_at}
use Rattle.nm_laws.proofs.Origins.OriginStep.{Unchanged, Relabelled, Extended, Shortened}
use Rattle.nm_laws.proofs.Retired.{fresh_at_start}
use Rattle.nm_laws.proofs.Turns.{LawfulTurn}
use Rattle.nm_model.proofs.Lists.{get_left, get_right}
use Rattle.nm_laws.proofs.Once.{IsSound, OnceLaw, sound_over, sound_start}
use Rattle.nm_laws.proofs.Grace.{epoch_grows, unlabelled_at}

-- ---- one queue

pub record InOrder (e : ℕ) (q : List Queued) : Type 0 where
  pub rising : (i j : ℕ) (a b : Queued) → slice_get q i ≡ Some a → slice_get q j ≡ Some b → i ≤ j
      → MayPrecede a.label b.label
  pub below : (i l : ℕ) (a : Queued) → slice_get q i ≡ Some a → a.label ≡ Some l → l ≤ e

abbrev pub Orderly : ℕ → Option Ledger → Type 0
Orderly e None = Unit {0}
Orderly e (Some l) = InOrder e l.queue

more_orderly : (e m : ℕ) (x : Option Ledger) → e ≤ m → Orderly e x → Orderly m x
more_orderly e m None le o = tt
more_orderly e m (Some l) le o = record {
  rising = o.rising;
  below = λ i n a at is. let b = o.below i n a at is in
      omega arith;
}

-- the entry that was there before it was labelled
labelled_at : (e : ℕ) (q : List Queued) (i : ℕ) (a : Queued) → slice_get (map (with_label e) q) i ≡ Some a
    → (b : Queued) × (slice_get q i ≡ Some b) × (a ≡ with_label e b)
labelled_at e [] i a at = absurd (none-some a at)
labelled_at e (x ∷ q) zero a at = (x, refl, sym (same_Some (with_label e x) a at))
labelled_at e (x ∷ q) (suc i) a at = labelled_at e q i a at

-- a label: the old one, or that epoch
new_label : (e : ℕ) (b : Queued) → (with_label e b).label ≡ Some (unwrap_or b.label e)
new_label e b = go b.label refl
  where
    go : (o : Option ℕ) → b.label ≡ o → (cond (is_none b.label) (record { node = b.node; label = Some e }) b).label
        ≡ Some (unwrap_or b.label e)
    go None is = rw is refl
    go (Some l) is = cond_both (is_none b.label) (record { node = b.node; label = Some e }) b
        (λ y. y.label ≡ Some (unwrap_or b.label e))
        (λ none. absurd (true≢false (sym none ∙ ap is_none is))) (λ _. is ∙ ap (λ o. Some (unwrap_or o e)) (sym is))

relabelled : (e : ℕ) (q : List Queued) → InOrder e q → InOrder e (map (with_label e) q)
relabelled e q o = record { rising = rising; below = below }
  where
    low : (i : ℕ) (b : Queued) → slice_get q i ≡ Some b → unwrap_or b.label e ≤ e
    low i b at = go b.label refl
      where
        go : (x : Option ℕ) → b.label ≡ x → unwrap_or x e ≤ e
        go None is = le_of_eq refl
        go (Some l) is = o.below i l b at is

    -- what may precede, may so with labels for none
    grows : (x y : Option ℕ) → unwrap_or x e ≤ e → MayPrecede x y → unwrap_or x e ≤ unwrap_or y e
    grows x None le m = le
    grows None (Some n) le m = absurd m
    grows (Some l) (Some n) le m = m

    rising : (i j : ℕ) (a b : Queued) → slice_get (map (with_label e) q) i ≡ Some a
        → slice_get (map (with_label e) q) j ≡ Some b → i ≤ j → MayPrecede a.label b.label
    rising i j a b at at' le =
        let x = labelled_at e q i a at in
        let y = labelled_at e q j b at' in
        let one : a.label ≡ Some (unwrap_or x.0.label e) = ap (λ (z : Queued). z.label) x.2 ∙ new_label e x.0 in
        let two : b.label ≡ Some (unwrap_or y.0.label e) = ap (λ (z : Queued). z.label) y.2 ∙ new_label e y.0 in
        rw (one, two) (grows x.0.label y.0.label (low i x.0 x.1) (o.rising i j x.0 y.0 x.1 y.1 le))

    below : (i l : ℕ) (a : Queued) → slice_get (map (with_label e) q) i ≡ Some a → a.label ≡ Some l → l ≤ e
    below i l a at is =
        let x = labelled_at e q i a at in
        let same : l ≡ unwrap_or x.0.label e = same_Some l (unwrap_or x.0.label e)
        (sym is ∙ (ap (λ (z : Queued). z.label) x.2 ∙ new_label e x.0)) in
        let b = low i x.0 x.1 in
        omega arith

extended : (e : ℕ) (q : List Queued) (ns : List NodeId) → InOrder e q → InOrder e (q ++ map unlabelled ns)
extended e q ns o = record { rising = rising; below = below }
  where
    none : (i : ℕ) (a : Queued) → length q ≤ i → slice_get (q ++ map unlabelled ns) i ≡ Some a → a.label ≡ None
    none i a past at = unlabelled_at ns (i - length q) a (sym (get_right q (map unlabelled ns) i past) ∙ at)

    rising : (i j : ℕ) (a b : Queued) → slice_get (q ++ map unlabelled ns) i ≡ Some a
        → slice_get (q ++ map unlabelled ns) j ≡ Some b → i ≤ j → MayPrecede a.label b.label
    rising i j a b at at' le = elim (cases_lt j (length q)) [
      | inl lt ↦ o.rising i j a b (get_left q (map unlabelled ns) i a (omega arith) at)
          (get_left q (map unlabelled ns) j b lt at') le
      | inr past ↦ rw (none j b past at') tt
    ]

    below : (i l : ℕ) (a : Queued) → slice_get (q ++ map unlabelled ns) i ≡ Some a → a.label ≡ Some l → l ≤ e
    below i l a at is = elim (cases_lt i (length q)) [
      | inl lt ↦ o.below i l a (get_left q (map unlabelled ns) i a lt at) is
      | inr past ↦ absurd (none-some l (sym (none i a past at) ∙ is))
    ]

orderly_step : (s : State) (t : ℕ × Event) (o : ℕ) (before after : Option Ledger) → OriginStep s t o before after
    → Orderly s.memory.epoch before → Orderly s.memory.epoch after
orderly_step s t o before after (Unchanged is _) x = rw is x
orderly_step s t o before after (Relabelled is _) x = rw is (go before x)
  where
    go : (y : Option Ledger) → Orderly s.memory.epoch y
        → Orderly s.memory.epoch (option_map (labelled s.memory.epoch) y)
    go None x = tt
    go (Some l) x = relabelled s.memory.epoch l.queue x
orderly_step s t o before after (Extended l ns was is _ _ _ _) x = rw is
    (extended s.memory.epoch l.queue ns (rw was at x))
orderly_step s t o before after (Shortened l q rest was queue is _ _ _ _) x =
    let y : InOrder s.memory.epoch (q ∷ rest) = rw queue at (rw was at x) in
    rw is (subst (λ (es : List Queued). InOrder s.memory.epoch es) (sym (ap (λ (es : List Queued). drop 1 es) queue))
    (record {
      rising = λ i j a b at at' le. y.rising (suc i) (suc j) a b at at' (omega arith);
      below = λ i l a at is'. y.below (suc i) l a at is';
    }))

-- ---- the brief of one worker

record Briefed (w : ℕ) (k : Knowledge) : Type 0 where
  waiting : (o i : ℕ) (a : Queued) → slice_get (held_queue k o) i ≡ Some a → a.label ≡ None
      → (o ≡ w) × (k.brief.unlabelled ≡ true)
  told : k.brief.unlabelled ≡ true → (i : ℕ) × (a : Queued) × (slice_get (held_queue k w) i ≡ Some a) × (a.label ≡ None)

cut_some : (k : Knowledge) (x : ℕ) (sides : List Side) (keep : Side)
    → (rest : List ℕ) × (cut_by k x sides keep ≡ x ∷ rest)
cut_some k x [] keep = (_, refl)
cut_some k x (d ∷ sides) keep = (_, refl)

module _ (s : State) (h : ℕ → ℕ) (law : Lawful s h) (w : ℕ) (b : Briefed w (of s w)) where
  briefed_change : (e : Event) (r : Reply) (k : Knowledge) → w < s.layout.workers → (of s w).gone ≡ false
      → Change s w e r k → Briefed w k
  briefed_change e r k worker staying (Keeps ledgers same _ _) = record {
    waiting = λ o i a at none.
        let x = b.waiting o i a (ap (λ ls. slice_get (queue_of (held ls o)) i) (sym ledgers) ∙ at) none in
        (x.0, same ∙ x.1);
    told = λ f. let x = b.told (sym same ∙ f) in
        (x.0, x.1, ap (λ ls. slice_get (queue_of (held ls w)) x.0) ledgers ∙ x.2, x.3);
  }
  briefed_change e r k worker staying (Labels ledgers flag _) = record {
    waiting = λ o i a at none. absurd (all (held (of s w).ledgers o) i a
        (ap (λ l. slice_get (queue_of l) i) (sym (ap (λ ls. held ls o) ledgers
        ∙ held-label s.memory.epoch (of s w).ledgers o)) ∙ at) none);
    told = λ f. absurd (true≢false (sym f ∙ flag));
  }
    where
      all : (l : Option Ledger) (i : ℕ) (a : Queued)
          → slice_get (queue_of (option_map (labelled s.memory.epoch) l)) i ≡ Some a → a.label ≡ None → ⊥
      all None i a at none = none-some a at
      all (Some l) i a at none =
          let x = labelled_at s.memory.epoch l.queue i a at in
          none-some (unwrap_or x.0.label s.memory.epoch)
          (sym none ∙ (ap (λ (z : Queued). z.label) x.2 ∙ new_label s.memory.epoch x.0))
  briefed_change e r k worker staying (Cuts ns ledgers flag _ won) = record {
    waiting = λ o i a at none. elim (ℕ_discrete o w) [
      | yes same ↦ (same, flag)
      | no ne ↦
          let x = b.waiting o i a (ap (λ l. slice_get (queue_of l) i)
          (sym (ap (λ ls. held ls o) ledgers ∙ held-retire_other (of s w).ledgers w ns o ne)) ∙ at) none in
          (x.0, flag)
    ];
    told = λ _. (length owns.ledger.queue, unlabelled first.0, now_at ∙ first.1, refl);
  }
    where
      owns : Owns (of s) h w
      owns = owned s h law w worker staying

      first : (n : NodeId) × (slice_get (map unlabelled ns) 0 ≡ Some (unlabelled n))
      first = first_of won
        where
          first_of : IsWon s w e ns → (n : NodeId) × (slice_get (map unlabelled ns) 0 ≡ Some (unlabelled n))
          first_of (inl splice) =
              let x = cut_some (of s w) splice.successor
              (unwrap_or (way s.layout.nodes (of s w) splice.successor splice.parent) []) splice.keep in (
                named s.memory splice.successor,
                ap (λ (xs : List NodeId). slice_get (map unlabelled xs) 0)
                    (splice.nodes ∙ ap (λ (xs : List ℕ). map (named s.memory) xs) x.1),
              )
          first_of (inr swap) =
              (named s.memory swap.leaf, ap (λ (xs : List NodeId). slice_get (map unlabelled xs) 0) swap.nodes)

      now_is : held_queue k w ≡ owns.ledger.queue ++ map unlabelled ns
      now_is = ap queue_of (ap (λ ls. held ls w) ledgers
          ∙ (held-retire_same (of s w).ledgers w ns owns.inside ∙ ap (option_map (with_cut ns)) owns.is_held))

      now_at : slice_get (held_queue k w) (length owns.ledger.queue) ≡ slice_get (map unlabelled ns) 0
      now_at = ap (λ q. slice_get q (length owns.ledger.queue)) now_is
          ∙ (get_right owns.ledger.queue (map unlabelled ns) (length owns.ledger.queue) (le_of_eq refl)
          ∙ ap (slice_get (map unlabelled ns)) none)
        where
          none : length owns.ledger.queue - length owns.ledger.queue ≡ 0
          none = omega arith
  briefed_change e r k worker staying (Frees x q f ripe ledgers same _ _) = record {
    waiting = λ o i a at none. elim (ℕ_discrete o f.origin) [
      | yes here ↦
          let y = b.waiting f.origin (suc i) a (before (suc i)
          ∙ (sym (now i) ∙ (ap (λ (z : ℕ). slice_get (held_queue k z) i) (sym here) ∙ at))) none in
          (here ∙ y.0, same ∙ y.1)
      | no ne ↦ let y = b.waiting o i a (sym (other o i ne) ∙ at) none in (y.0, same ∙ y.1)
    ];
    told = λ flag. let y = b.told (sym same ∙ flag) in elim (ℕ_discrete w f.origin) [
      | yes here ↦ behind here y.0 y.1 y.2 y.3
      | no ne ↦ (y.0, y.1, other w y.0 ne ∙ y.2, y.3)
    ];
  }
    where
      before : (i : ℕ) → slice_get (held_queue (of s w) f.origin) i ≡ slice_get (q ∷ f.rest) i
      before i = ap (λ l. slice_get (queue_of l) i) f.is_held ∙ ap (λ es. slice_get es i) f.queue

      now : (i : ℕ) → slice_get (held_queue k f.origin) i ≡ slice_get f.rest i
      now i = ap (λ l. slice_get (queue_of l) i) (ap (λ ls. held ls f.origin) ledgers ∙ f.after)
          ∙ ap (λ (es : List Queued). slice_get (drop 1 es) i) f.queue

      other : (o i : ℕ) → o ≢ f.origin → slice_get (held_queue k o) i ≡ slice_get (held_queue (of s w) o) i
      other o i ne = ap (λ l. slice_get (queue_of l) i) (ap (λ ls. held ls o) ledgers ∙ f.others o ne)

      behind : w ≡ f.origin → (i : ℕ) (a : Queued) → slice_get (held_queue (of s w) w) i ≡ Some a → a.label ≡ None
          → (i : ℕ) × (a : Queued) × (slice_get (held_queue k w) i ≡ Some a) × (a.label ≡ None)
      behind here i a at none = go i (sym (before i)
          ∙ (ap (λ (z : ℕ). slice_get (held_queue (of s w) z) i) (sym here) ∙ at))
        where
          go : (i : ℕ) → slice_get (q ∷ f.rest) i ≡ Some a
              → (i : ℕ) × (a : Queued) × (slice_get (held_queue k w) i ≡ Some a) × (a.label ≡ None)
          go zero at = absurd (none-some ripe.label (sym none
              ∙ (ap (λ (z : Queued). z.label) (sym (same_Some q a at)) ∙ ripe.is_labelled)))
          go (suc i) at = (i, a, ap (λ (z : ℕ). slice_get (held_queue k z) i) here ∙ (now i ∙ at), none)

-- ---- every turn

briefed_joined : (s : State) (h : ℕ → ℕ) (w v : ℕ) (t : State) → Holders s h → Joins s t w v → v ≢ w
    → w < s.layout.workers → (of s w).gone ≡ false → (of s v).brief.unlabelled ≡ false
    → ((u : ℕ) → Briefed u (of s u)) → (u : ℕ) → Briefed u (of t u)
briefed_joined s h w v t holders j ne worker staying clear b = by_worker s t w v j Briefed
    (record {
      waiting = λ o i a at none. heir o i a (held (of s v).ledgers o) refl
          (ap (λ l. slice_get (queue_of l) i) (sym (taken o)) ∙ at) none;
      told = λ flag. let x = (b w).told flag in
          (x.0, x.1, ap (λ l. slice_get (queue_of l) x.0) (taken w ∙ own (held (of s v).ledgers w) refl) ∙ x.2, x.3);
    })
    (record {
      waiting = λ o i a at none. absurd (none-some a
          (sym (ap (λ l. slice_get (queue_of l) i) (none_held (length (of s v).ledgers) o)) ∙ at));
      told = λ flag. absurd (true≢false (sym flag ∙ clear));
    })
    (λ u _ _. b u)
  where
    taken : (o : ℕ) → held (taken_over (of s w).ledgers (of s v).ledgers) o
        ≡ or_else (held (of s v).ledgers o) (held (of s w).ledgers o)
    taken o = held-taken_over (of s w).ledgers (of s v).ledgers o (holders.sizes w ∙ sym (holders.sizes v))

    heir : (o i : ℕ) (a : Queued) (l : Option Ledger) → held (of s v).ledgers o ≡ l
        → slice_get (queue_of (or_else l (held (of s w).ledgers o))) i ≡ Some a → a.label ≡ None
        → (o ≡ w) × ((of s w).brief.unlabelled ≡ true)
    heir o i a None is at none = (b w).waiting o i a at none
    heir o i a (Some l) is at none = absurd (true≢false
        (sym ((b v).waiting o i a (ap (λ x. slice_get (queue_of x) i) is ∙ at) none).1 ∙ clear))

    own : (l : Option Ledger) → held (of s v).ledgers w ≡ l
        → or_else l (held (of s w).ledgers w) ≡ held (of s w).ledgers w
    own None is = refl
    own (Some l) is = absurd (ne (holders.only v w (ap is_some is) ∙ holders.own w worker staying))

-- a worker that another takes over from has no unlabelled cut
clear_hands : (s : State) (w v : ℕ) → join_refusal s w v ≡ None → (of s v).brief.unlabelled ≡ false
clear_hands s w v ok = (or_parts (not (length (of s v).drafts == 0)) (of s v).brief.unlabelled
    (second ((v == w) || is_no_worker s v) (not (length (of s v).drafts == 0) || (of s v).brief.unlabelled) NoWorker
    NotReady _ ok)).1

briefed_next : (s : State) (h : ℕ → ℕ) → Lawful s h → ((u : ℕ) → Briefed u (of s u)) → (t : ℕ × Event) → (u : ℕ)
    → Briefed u (of (next s t) u)
briefed_next s h law b = each_turn s (λ t. (u : ℕ) → Briefed u (of (next s t) u)) (λ t r is_next _. rw is_next b)
    (λ w e ok is_next _ alone. rw (is_next ∙ applied_is s w e alone)
    (each s.layout Briefed s.workers w _ (inside w ok.worker)
    (briefed_change s h law w (b w) e (reply_of s w e) _ ok.worker ok.stays (changed s w e ok alone).ledgers)
    (λ u _. b u)))
    (λ w v ok is_next _. let there = other_worker s w v ok.event in rw is_next
    (briefed_joined s h w v (applied s w (Join v)) law.holders
    (joins s w v (inside w ok.worker) (inside v there.1) there.0) there.0 ok.worker ok.stays
    (clear_hands s w v ok.event) b))
  where
    inside : (w : ℕ) → w < s.layout.workers → w < length s.workers
    inside w lt = let size = law.staffed.workers in omega (arith, size, lt)

-- ---- runs

record LabelLaw (s : State) (h : ℕ → ℕ) : Type 0 where
  order : (o : ℕ) → Orderly s.memory.epoch (ledger_at s h o)
  brief : (w : ℕ) → Briefed w (of s w)

label_step : (s : State) (h : ℕ → ℕ) → Lawful s h → OnceLaw s h → (t : ℕ × Event) (turn : LawfulTurn s h t)
    → LabelLaw s h → LabelLaw (next s t) turn.holder
label_step s h law once t turn was = record {
  order = λ o. more_orderly s.memory.epoch (next s t).memory.epoch (ledger_at (next s t) turn.holder o)
      (epoch_grows s t) (orderly_step s t o (ledger_at s h o) (ledger_at (next s t) turn.holder o) (turn.step o)
      (was.order o));
  brief = briefed_next s h law was.brief t;
}

label_start : (L : Layout) → LabelLaw (start L) (λ o. o)
label_start L = record {
  order = λ o. go o (ledger_at (start L) (λ o. o) o) refl;
  brief = λ w. rw (all_new L w)
      (new w);
}
  where
    go : (o : ℕ) (x : Option Ledger) → ledger_at (start L) (λ o. o) o ≡ x → Orderly (start L).memory.epoch x
    go o None is = tt
    go o (Some l) is = let e = fresh_at_start L o l is in
        rw e (record { rising = λ i j a b at. absurd (none-some a at); below = λ i n a at. absurd (none-some a at) })

    new : (w : ℕ) → Briefed w (newcomer L w)
    new w = record {
      waiting = λ o i a at _. absurd (none-some a (sym (ap (λ q. slice_get q i) (new_queue L w o)) ∙ at));
      told = λ flag. absurd (true≢false (sym flag));
    }

labels : (L : Layout) → 5 ≤ L.nodes → (turns : List (ℕ × Event))
    → (last : IsSound (after (start L) turns)) × LabelLaw (after (start L) turns) last.holder
labels L enough turns = sound_over LabelLaw label_step (start L) (sound_start L enough) turns (label_start L)

-- the order of a queue, as any worker holds it
order_of : (s : State) (k : IsSound s) → LabelLaw s k.holder → (w o : ℕ)
    → InOrder s.memory.epoch (held_queue (of s w) o)
order_of s k law w o = go (held (of s w).ledgers o) refl
  where
    go : (l : Option Ledger) → held (of s w).ledgers o ≡ l → InOrder s.memory.epoch (queue_of l)
    go None is = record { rising = λ i j a b at. absurd (none-some a at); below = λ i n a at. absurd (none-some a at) }
    go (Some l) is = (rw (ap (λ (y : ℕ). held (of s y).ledgers o) (sym (k.law.holders.only w o (ap is_some is)))
        ∙ is) at (law.order o))

pub labels_do_not_fall : OfEachState LabelsDoNotFall
labels_do_not_fall L enough turns w o i j a b at at' le = let k = labels L enough turns in
    (order_of _ k.0 k.1 w o).rising i j a b at at' le

pub no_label_is_above : OfEachState NoLabelIsAboveTheEpoch
no_label_is_above L enough turns w o i l a at is = let k = labels L enough turns in
    (order_of _ k.0 k.1 w o).below i l a at is

pub briefs_are_right : OfEachState BriefsAreRight
briefs_are_right L enough turns w = let b = (labels L enough turns).1.brief w in
    record { waiting = b.waiting; told = b.told }
