-- The births that a worker had stored in the nodes of its won link stand in memory while its pin
-- does: each of these nodes is reached, or was cut under the pin, and then it waits in a queue with
-- no label below the pin's epoch. So nobody has it in private.
use Rattle.std.proofs.Common.{◌≡◌, ◌≢◌, ℕ, zero, suc, ◌+◌, ◌-◌, ◌<◌, ◌≤◌, ◌⊎◌, inl, inr, ◌==◌, Bool, true, false, cond, ◌||◌, List, [], ◌∷◌, length, map, refl, sym, ap, subst, ◌∙◌, arith, true≢false, Result, Ok}
use Rattle.std.specs.Prelude.{Option, Some, None, IsSome, is_some, is_none, slice_get, option_map, unwrap_or, drop, All, Contains}
use Rattle.std.proofs.lemmas.Bool.{cond-true, eqb-true, eq-eqb, or_cases}
use Rattle.std.proofs.lemmas.Option.{none-some, same_Some, slice_get-get_or, slice_get-map}
use Rattle.nm_edge.specs.Edges.{Edge, to, is_to, other}
use Rattle.nm_edge.specs.Layouts.{Layout}
use Rattle.nm_edge.specs.declared.edge.Side.{Side}
use Rattle.nm_edge.specs.declared.node.NodeId.{NodeId}
use Rattle.nm_model.specs.declared.event.Event.{Event}
use Rattle.nm_model.specs.declared.event.Event.TheVariants.{Fill, Link, Join}
use Rattle.nm_model.specs.declared.event.Field.{Field}
use Rattle.nm_model.specs.declared.reply.Reply.{Reply}
use Rattle.nm_model.specs.declared.reply.Reply.TheVariants.{Linked, Lost, Cut}
use Rattle.nm_model.specs.declared.reply.Refused.{Refused}
use Rattle.nm_model.specs.declared.ledger.Ledger.{Ledger}
use Rattle.nm_model.specs.declared.ledger.Queued.{Queued}
use Rattle.nm_model.specs.Maps.{or_else}
use Rattle.nm_model.specs.Memory.{Memory, node, edge, child, named, put_edge}
use Rattle.nm_model.specs.Queues.{unlabelled, with_label}
use Rattle.nm_model.specs.Ledgers.{held, queue_of, labelled, with_cut, with_freed}
use Rattle.nm_model.specs.Places.{slot_of}
use Rattle.nm_model.specs.Knowledge.{Knowledge, knows, is_private, seen_of, draft_of, beside}
use Rattle.nm_model.specs.Learning.{learn}
use Rattle.nm_model.specs.Laws.{nodes_cut_of}
use Rattle.nm_model.specs.Paths.{Reached}
use Rattle.nm_model.specs.Step.{node_linked, reply, write}
use Rattle.nm_model.specs.Runs.{State, of, next, outcome, reply_of, applied}
use Rattle.nm_model.specs.Walks.{Entry, begins_anew}
use Rattle.nm_model.specs.Ordered.{Configuration, ordered, refused_in, next_in, after_in, trace_in}
use Rattle.nm_model.proofs.Lists.{get_right, get_stays}
use Rattle.nm_laws.proofs.Steps.{Allowed, allowed}
use Rattle.nm_laws.proofs.Pictures.{IsOnPath, on_path, nowhere_else}
use Rattle.nm_laws.proofs.Pictures.SeekRecord.{PrivateTo, InQueue}
use Rattle.nm_laws.proofs.Pins.{all_new}
use Rattle.nm_laws.proofs.Splices.{live_on_path, unmarked_not_queued}
use Rattle.nm_laws.proofs.Views.{picture, queued_at, held_queue, edge_put}
use Rattle.nm_laws.proofs.Slots.{with_edge_at, with_edge-same, with_edge-other}
use Rattle.nm_laws.proofs.Changes.{Ripe}
use Rattle.nm_laws.proofs.Grace.{IsNotBelow}
use Rattle.nm_laws.proofs.TreeSteps.{Lawful, LinkChecked, link_checked}
use Rattle.nm_laws.proofs.TreeSlots.{known_live}
use Rattle.nm_laws.proofs.Origins.{OriginStep, Turned, turned, ledger_at, cut_at}
use Rattle.nm_laws.proofs.Origins.OriginStep.{Unchanged, Relabelled, Extended, Shortened}
use Rattle.nm_laws.proofs.KnownBirths.{written_same}
use Rattle.nm_laws.proofs.Configurations.{refused_next, allowed_outcome, allowed_state, state_outcome, allowed_by_state}
use Rattle.nm_order.specs.Intervals.{HasKey}
use Rattle.nm_order.specs.Logs.{takes_part, part_of, known_by}
use Rattle.nm_order.specs.Moments.{OfEachOrderedRun}
use Rattle.nm_order.specs.OwnBirths.{no_births, with_linked, stored_by, stored_after, stored_in, births_by, OwnBirthsStand}
use Rattle.nm_order.proofs.OrderedChanges.{off_root, off_known}
use Rattle.nm_order.proofs.OrderedMoments.{Lasting, lasting_stays}
use Rattle.nm_order.proofs.OrderedInduction.{births_of}
use Rattle.nm_order.proofs.OrderedLaws.{IsOrdered, ordered_next, each_ordered, law_of_state}
use Rattle.nm_order.proofs.TreeChanges.{WonLink, won_link}
use Rattle.nm_order.proofs.CutTurns.{CutOrNot, cut_or_not}
use Rattle.nm_order.proofs.CutTurns.CutOrNot.{StaysReached, IsCutNow}
use Rattle.nm_order.proofs.FlaggedNodes.{memory_is}
use Rattle.nm_order.proofs.CallWalks.{own_knows}
use Rattle.nm_order.proofs.KnowledgeStays.{learned_stays, answers}
use Rattle.nm_order.proofs.LastEntries.{PartOf, part_or}
use Rattle.nm_order.proofs.LastEntries.PartOf.{Own, Resigns}
use Rattle.nm_order.proofs.PartsOfRuns.{partaking, apart, refused_adds, others_add, own_adds, next_state, logs_tell}
use Rattle.nm_order.proofs.RunExchanges.{opening_ordered}

-- ---- a slot that waits in a queue, with no label below an epoch

record WaitsAt (e x : ℕ) (l : Ledger) : Type 0 where
  index : ℕ
  entry : Queued
  there : slice_get l.queue index ≡ Some entry
  slot : entry.node.slot ≡ x
  low : IsNotBelow e entry.label

abbrev WaitsIn : ℕ → ℕ → Option Ledger → Type 0
WaitsIn e x None = ⊥
WaitsIn e x (Some l) = WaitsAt e x l

record Waits (s : State) (e x : ℕ) : Type 0 where
  holder : ℕ
  origin : ℕ
  waits : WaitsIn e x (held (of s holder).ledgers origin)

relabelled : (e m : ℕ) (q : Queued) → e ≤ m → IsNotBelow e q.label
    → ((with_label m q).node.slot ≡ q.node.slot) × IsNotBelow e (with_label m q).label
relabelled e m q le low = by q.label refl low
  where
    by : (o : Option ℕ) → q.label ≡ o → IsNotBelow e o
        → ((with_label m q).node.slot ≡ q.node.slot) × IsNotBelow e (with_label m q).label
    by None is low = subst (λ (b : Bool). ((cond b (record { node = q.node; label = Some m }) q).node.slot
        ≡ q.node.slot) × IsNotBelow e (cond b (record { node = q.node; label = Some m }) q).label)
        (sym (ap is_none is)) (refl, le)
    by (Some l) is low = subst (λ (b : Bool). ((cond b (record { node = q.node; label = Some m }) q).node.slot
        ≡ q.node.slot) × IsNotBelow e (cond b (record { node = q.node; label = Some m }) q).label)
        (sym (ap is_none is)) (refl, subst (IsNotBelow e) (sym is) low)

module _ (s : State) (h : ℕ → ℕ) (law : Lawful s h) (w e : ℕ) (pin : (of s w).brief.pin ≡ Some e) (x : ℕ)
    (t : ℕ × Event) where
  -- the front of a queue is freed, and it is not this slot, which is too young
  after_front : (l : Ledger) (q : Queued) (rest : List Queued) → l.queue ≡ q ∷ rest → Ripe (of s t.0).brief.seen q
      → WaitsAt e x l → WaitsAt e x (with_freed q.node l)
  after_front l q rest queue ripe waits = by waits.index
      (ap (λ (qs : List Queued). slice_get qs waits.index) (sym queue) ∙ waits.there)
    where
      young : waits.entry ≡ q → ⊥
      young same =
          let high : e ≤ ripe.label = subst (IsNotBelow e) (ap (λ (z : Queued). z.label) same ∙ ripe.is_labelled)
          waits.low in
          let old = ripe.old in
          let seen = law.epochs.sights t.0 ripe.epoch ripe.is_seen in
          let near = (law.epochs.pins w e pin).1 in
          omega (arith, high, old, seen, near)

      by : (i : ℕ) → slice_get (q ∷ rest) i ≡ Some waits.entry → WaitsAt e x (with_freed q.node l)
      by zero at = absurd (young (sym (same_Some q waits.entry at)))
      by (suc i) at = record {
        index = i;
        entry = waits.entry;
        there = ap
            (λ (qs : List Queued). slice_get (drop 1 qs) i) queue ∙ at;
        slot = waits.slot;
        low = waits.low;
      }

  -- what a turn leaves of a queue in which it waits
  waits_on : (o : ℕ) (before after : Option Ledger) → OriginStep s t o before after → WaitsIn e x before
      → WaitsIn e x after
  waits_on o before after (Unchanged is none) waits = subst (WaitsIn e x) (sym is) waits
  waits_on o before after (Relabelled is none) waits = subst (WaitsIn e x) (sym is) (by before waits)
    where
      by : (b : Option Ledger) → WaitsIn e x b → WaitsIn e x (option_map (labelled s.memory.epoch) b)
      by None waits = waits
      by (Some l) waits =
          let new = relabelled e s.memory.epoch waits.entry (law.epochs.pins w e pin).0 waits.low in
          record {
            index = waits.index;
            entry = with_label s.memory.epoch waits.entry;
            there = slice_get-map (with_label s.memory.epoch) l.queue waits.index
                ∙ ap (option_map (with_label s.memory.epoch)) waits.there;
            slot = new.0 ∙ waits.slot;
            low = new.1;
          }
  waits_on o before after (Extended l ns was is own cut answered won) waits = subst (WaitsIn e x) (sym is)
      (by (subst (WaitsIn e x) was waits))
    where
      by : WaitsAt e x l → WaitsAt e x (with_cut ns l)
      by waits = record {
        index = waits.index;
        entry = waits.entry;
        there = get_stays l.queue (map unlabelled ns)
            waits.index waits.entry waits.there;
        slot = waits.slot;
        low = waits.low;
      }
  waits_on o before after (Shortened l q rest was queue is ripe none answered give) waits = subst (WaitsIn e x)
      (sym is) (after_front l q rest queue ripe (subst (WaitsIn e x) was waits))

  -- of the nodes that a turn cuts, each waits then, without a label
  cut_waits : (ns : List NodeId) → outcome s t ≡ Ok (Cut ns) → (n : NodeId) → Contains ns n → n.slot ≡ x
      → (before after : Option Ledger) → OriginStep s t t.0 before after → WaitsIn e x after
  cut_waits ns is n among slot before after step = by step
    where
      at : slice_get ns among.0 ≡ Some n
      at = slice_get-get_or ns among.0 n among.1 ∙ ap Some among.2

      same_cut : (ms : List NodeId) → ◌≡◌ {A = Result Reply Refused} (Ok (Cut ms)) (Ok (Cut ns)) → ms ≡ ns
      same_cut ms e = cc

      some : cut_at s t t.0 ≡ [] → ⊥
      some none = none-some n (ap (λ ms. slice_get ms among.0) (sym none ∙ (cut_is ∙ ap nodes_cut_of is)) ∙ at)
        where
          cut_is : cut_at s t t.0 ≡ nodes_cut_of (outcome s t)
          cut_is = cond-true (t.0 == t.0) (nodes_cut_of (outcome s t)) [] (eq-eqb t.0 t.0 refl)

      by : OriginStep s t t.0 before after → WaitsIn e x after
      by (Unchanged _ none) = absurd (some none)
      by (Relabelled _ none) = absurd (some none)
      by (Shortened _ _ _ _ _ _ _ none _ _) = absurd (some none)
      by (Extended l ms was now _ _ answered _) = subst (WaitsIn e x) (sym now) new
        where
          back : length l.queue + among.0 - length l.queue ≡ among.0
          back = omega arith

          new : WaitsAt e x (with_cut ms l)
          new = record {
            index = length l.queue + among.0;
            entry = unlabelled n;
            there = get_right l.queue (map unlabelled ms) (length l.queue + among.0) (omega arith)
                ∙ (ap (slice_get (map unlabelled ms)) back
                ∙ (slice_get-map unlabelled ms among.0 ∙ ap (option_map unlabelled)
                (ap (λ (ys : List NodeId). slice_get ys among.0) (same_cut ms (sym answered ∙ is)) ∙ at)));
            slot = slot;
            low = tt;
          }

-- ---- what lasts of a node that was linked under a pin

record Lasts (s : State) (w x b : ℕ) : Type 0 where
  birth : (node s.memory x).birth ≡ b
  pin : ℕ
  pinned : (of s w).brief.pin ≡ Some pin
  place : Reached s.memory x ⊎ Waits s pin x

module _ (s : State) (h : ℕ → ℕ) (law : Lawful s h) where
  -- nobody has it in private
  waits_free : (e x u : ℕ) → Waits s e x → is_private (of s u) x ≡ true → ⊥
  waits_free e x u waits own = by (held (of s waits.holder).ledgers waits.origin) refl waits.waits
    where
      by : (o : Option Ledger) → held (of s waits.holder).ledgers waits.origin ≡ o → WaitsIn e x o → ⊥
      by None is none = none
      by (Some l) is here = differ (nowhere_else (picture s h) x (InQueue waits.origin here.index) (PrivateTo u)
          (law.tree.places x (λ z. let r = law.tree.privates u x own in omega arith) (law.tree.privates u x own).1)
          queued own)
        where
          differ : InQueue waits.origin here.index ≡ PrivateTo u → ⊥
          differ e = cc

          queue_is : held_queue (of s (h waits.origin)) waits.origin ≡ l.queue
          queue_is = ap (λ (y : ℕ). held_queue (of s y) waits.origin)
              (sym (law.holders.only waits.holder waits.origin (ap is_some is))) ∙ ap queue_of is

          queued : queued_at (held_queue (of s (h waits.origin)) waits.origin) here.index ≡ Some x
          queued = ap (λ (qs : List Queued). queued_at qs here.index) queue_is
              ∙ (ap (option_map slot_of) here.there ∙ ap Some here.slot)

  free : (w x b u : ℕ) → Lasts s w x b → is_private (of s u) x ≡ true → ⊥
  free w x b u l own = elim l.place [
    | inl r ↦ off_root s h law u x own r.path r.ends
    | inr waits ↦ waits_free l.pin x u waits own
  ]

module _ (L : Layout) (enough : 5 ≤ L.nodes) (w : ℕ) (c : Configuration) (t : ℕ × Event) (has : HasKey t.1)
    (o : IsOrdered L c) (why : refused_in c t.0 t.1 ≡ None) where
  abbrev h : ℕ → ℕ
  h = (law_of_state L enough c o).0

  law : Lawful c.state h
  law = (law_of_state L enough c o).1

  ok : Allowed c.state t.0 t.1
  ok = allowed c.state t.0 t.1 (allowed_by_state c t.0 t.1 why)

  is_next : (next_in c t).state ≡ applied c.state t.0 t.1
  is_next = next_state w c t why

  memory_next : (next_in c t).state.memory ≡ write c.state.memory (of c.state t.0) t.0 t.1
  memory_next = ap (λ (z : State). z.memory) is_next ∙ memory_is c.state h law t.0 t.1 ok

  -- what the turn does to the ledgers
  turn : Turned c.state h t
  turn = turned c.state h law.staffed law.holders t

  waits_then : (e x : ℕ) (v : ℕ) → WaitsIn e x (ledger_at (next c.state t) turn.holder v)
      → Waits (next_in c t).state e x
  waits_then e x v waits = subst (λ (z : State). Waits z e x) (allowed_state c t why)
      (record { holder = turn.holder v; origin = v; waits = waits })

  -- a slot that waits goes on waiting under the pin
  still_waits : (e x : ℕ) → (of c.state w).brief.pin ≡ Some e → Waits c.state e x → Waits (next_in c t).state e x
  still_waits e x pin waits = by (held (of c.state waits.holder).ledgers waits.origin) refl waits.waits
    where
      by : (l : Option Ledger) → held (of c.state waits.holder).ledgers waits.origin ≡ l → WaitsIn e x l
          → Waits (next_in c t).state e x
      by None is none = absurd none
      by (Some l) is waits' = waits_then e x waits.origin
          (waits_on c.state h law w e pin x t waits.origin (ledger_at c.state h waits.origin)
          (ledger_at (next c.state t) turn.holder waits.origin) (turn.step waits.origin)
          (subst (WaitsIn e x) (sym (ap (λ (y : ℕ). held (of c.state y).ledgers waits.origin)
          (sym (law.holders.only waits.holder waits.origin (ap is_some is))) ∙ is)) waits'))

  -- a slot that is reached is so still, or waits
  still_placed : (e x : ℕ) → (of c.state w).brief.pin ≡ Some e → Reached c.state.memory x ⊎ Waits c.state e x
      → Reached (next_in c t).state.memory x ⊎ Waits (next_in c t).state e x
  still_placed e x pin (inr waits) = inr (still_waits e x pin waits)
  still_placed e x pin (inl r) = by (cut_or_not L enough c t has o x r)
    where
      by : CutOrNot L enough c t x → Reached (next_in c t).state.memory x ⊎ Waits (next_in c t).state e x
      by (StaysReached now) = inl now
      by (IsCutNow ns is among gone) = inr (waits_then e x t.0
          (cut_waits c.state h law w e pin x t ns (state_outcome c t why ∙ (sym (allowed_outcome c t why) ∙ is))
          (named c.state.memory x) among refl (ledger_at c.state h t.0)
          (ledger_at (next c.state t) turn.holder t.0) (turn.step t.0)))

  -- so what was linked lasts, where the pin stands
  lasts_on : (x b : ℕ) → (of (next_in c t).state w).brief.pin ≡ (of c.state w).brief.pin → Lasts c.state w x b
      → Lasts (next_in c t).state w x b
  lasts_on x b same l = record {
    birth = ap (λ (m : Memory). (node m x).birth) memory_next
        ∙ (ap (λ (n : Lasting). n.birth) (lasting_stays c.state h law t.0 t.1 ok x (free c.state h law w x b t.0 l))
        ∙ l.birth);
    pin = l.pin;
    pinned = same ∙ l.pinned;
    place = still_placed l.pin x l.pinned l.place;
  }

  -- ---- a link that is won

  module _ (p : ℕ) (d : Side) (leaf new : ℕ) (is : t.1 ≡ Link p d leaf new) (own : t.0 ≡ w)
      (won : is_to (edge c.state.memory p d) leaf ≡ true) where
    ok' : Allowed c.state w (Link p d leaf new)
    ok' = subst (λ (v : ℕ). Allowed c.state v (Link p d leaf new)) own
        (subst (λ (e : Event). Allowed c.state t.0 e) is ok)

    checked : LinkChecked c.state.layout (of c.state w) p leaf new
    checked = link_checked c.state w p d leaf new ok'.event

    k : WonLink c.state h law w p d leaf new
    k = won_link c.state h law w p d leaf new ok' won

    inside : p < length c.state.memory.nodes
    inside = let r = law.tree.known w p checked.known in let size = law.roomy.nodes in omega arith

    abbrev then : IsOrdered L (next_in c t)
    then = ordered_next L enough c t has o

    abbrev g : ℕ → ℕ
    g = (law_of_state L enough (next_in c t) then).0

    after : Lawful (next_in c t).state g
    after = (law_of_state L enough (next_in c t) then).1

    memory_linked : (next_in c t).state.memory ≡ put_edge c.state.memory p d (to new)
    unfolding write
    memory_linked = memory_next ∙ (ap (λ (e : Event). write c.state.memory (of c.state t.0) t.0 e) is
        ∙ cond-true (is_to (edge c.state.memory p d) leaf) (put_edge c.state.memory p d (to new)) c.state.memory won)

    edges : (x : ℕ) (f : Side) → edge (next_in c t).state.memory x f
        ≡ with_edge_at (edge c.state.memory) p d (to new) x f
    edges x f = ap (λ (m : Memory). edge m x f) memory_linked ∙ edge_put c.state.memory p d (to new) inside x f

    new_slot : new ≢ 0
    new_slot z = let r = law.tree.privates w new k.link.own in omega arith

    far_slot : k.drafts.far ≢ 0
    far_slot z = let r = law.tree.privates w k.drafts.far k.link.far_own in omega arith

    new_is_not_p : new ≢ p
    new_is_not_p z = off_known c.state h law w p w new checked.known k.link.own [] (sym z)

    -- the parent is known still, so it is on a path, and with it the two nodes
    known_then : knows (of (next_in c t).state w) p ≡ true
    known_then = ap (λ (z : State). knows (of z w) p) is_next
        ∙ subst (λ (e : Event). knows (of (applied c.state t.0 e) w) p ≡ true) (sym is)
        (subst (λ (v : ℕ). knows (of (applied c.state v (Link p d leaf new)) w) p ≡ true) (sym own) by)
      where
        by : knows (of (applied c.state w (Link p d leaf new)) w) p ≡ true
        by = ap (λ (y : Knowledge). knows y p) (own_knows c.state h law w (Link p d leaf new) ok')
            ∙ (learned_stays c.state.memory (of c.state w) w (Link p d leaf new)
            (reply_of c.state w (Link p d leaf new)) (answers c.state h law w (Link p d leaf new) ok')
            (not_anew (reply_of c.state w (Link p d leaf new)))).known p checked.known
          where
            not_anew : (r : Reply) → begins_anew (Link p d leaf new, r) ≡ false
            not_anew r = refl

    parent_on : IsOnPath (picture (next_in c t).state g) p
    parent_on = live_on_path (next_in c t).state.layout.nodes (picture (next_in c t).state g) p after.tree
        (known_live (next_in c t).state.layout.nodes (next_in c t).state.memory (of (next_in c t).state) g w p
        after.tree known_then) k.link.is_slot (after.tree.known w p known_then).1
        (unmarked_not_queued (next_in c t).state.layout.nodes (picture (next_in c t).state g) p d new after.tree
        (edges p d ∙ with_edge-same (edge c.state.memory) p d (to new)) new_slot)

    new_on : IsOnPath (picture (next_in c t).state g) new
    new_on = subst (IsOnPath (picture (next_in c t).state g)) leads
        (on_path (picture (next_in c t).state g) p d parent_on (λ z. new_slot (sym leads ∙ z)))
      where
        leads : child (next_in c t).state.memory p d ≡ new
        leads = ap (λ (e : Edge). e.slot) (edges p d ∙ with_edge-same (edge c.state.memory) p d (to new))

    far_on : IsOnPath (picture (next_in c t).state g) k.drafts.far
    far_on = subst (IsOnPath (picture (next_in c t).state g)) leads
        (on_path (picture (next_in c t).state g) new (other k.drafts.side) new_on (λ z. far_slot (sym leads ∙ z)))
      where
        leads : child (next_in c t).state.memory new (other k.drafts.side) ≡ k.drafts.far
        leads = ap (λ (e : Edge). e.slot) (edges new (other k.drafts.side)
            ∙ (with_edge-other (edge c.state.memory) p d (to new) new (other k.drafts.side) new_is_not_p
            ∙ k.link.over_far))

    -- a birth that was stored in one of them stands
    linked_lasts : (x b : ℕ) → IsOnPath (picture (next_in c t).state g) x
        → (draft_of (of c.state w) x).birth ≡ Some b → (of (next_in c t).state w).brief.pin ≡ (of c.state w).brief.pin
        → Lasts (next_in c t).state w x b
    linked_lasts x b on stored same = record {
      birth = ap (λ (m : Memory). (node m x).birth) memory_next
          ∙ ((written_same c.state.memory (of c.state t.0) t.0 t.1 x
          (λ y f v fills. absurd (differ y f v (sym is ∙ fills)))).birth
          ∙ (births_of L enough c o w).stored x b stored);
      pin = (law.known w p checked.known).0;
      pinned = same ∙ (law.known w p checked.known).1;
      place = inl (record { path = on.path; ends = on.ends; is_slot = on.is_slot });
    }
      where
        differ : (y : ℕ) (f : Field) (v : ℕ) → Link p d leaf new ≡ Fill y f v → ⊥
        differ y f v e = cc

    -- each birth that is stored then lasts
    stored_lasts : (births : ℕ → Option ℕ) → ((x b : ℕ) → births x ≡ Some b → Lasts c.state w x b)
        → (of (next_in c t).state w).brief.pin ≡ (of c.state w).brief.pin
        → (x b : ℕ) → with_linked births (of c.state w) leaf new x ≡ Some b → Lasts (next_in c t).state w x b
    stored_lasts births stand same x b = by ((x == new)
        || (x == unwrap_or (beside (draft_of (of c.state w) new) leaf) 0)) refl
      where
        by : (one : Bool) → ((x == new) || (x == unwrap_or (beside (draft_of (of c.state w) new) leaf) 0)) ≡ one
            → (cond one (draft_of (of c.state w) x).birth (births x)) ≡ Some b → Lasts (next_in c t).state w x b
        by false none is = lasts_on x b same (stand x b is)
        by true one is = elim (or_cases (x == new) (x == unwrap_or (beside (draft_of (of c.state w) new) leaf) 0) one) [
          | inl at ↦ linked_lasts x b (subst (IsOnPath (picture (next_in c t).state g)) (sym (eqb-true x new at))
              new_on) is same
          | inr at ↦ linked_lasts x b (subst (IsOnPath (picture (next_in c t).state g))
              (sym (eqb-true x _ at ∙ k.drafts.is_far)) far_on) is same
        ]

-- ---- a worker's part

-- an entry that wins a link, or another one
data StoredBy (k : Knowledge) (births : ℕ → Option ℕ) (e : Event) (r : Reply) : Type 0 where
  Links : (p : ℕ) (d : Side) (leaf new : ℕ) (n : NodeId) → e ≡ Link p d leaf new → r ≡ Linked n
      → stored_by k births (e, r) ≡ with_linked births k leaf new → StoredBy k births e r
  Others : stored_by k births (e, r) ≡ cond (begins_anew (e, r)) no_births births → StoredBy k births e r

stored_or : (k : Knowledge) (births : ℕ → Option ℕ) (e : Event) (r : Reply) → StoredBy k births e r
stored_or k births (Link p d leaf new) (Linked n) = Links p d leaf new n refl refl refl
stored_or k births e r = Others refl

-- a link that was answered `linked` found the edge to the leaf
link_found : (s : State) (w p : ℕ) (d : Side) (leaf new : ℕ) (n : NodeId)
    → reply_of s w (Link p d leaf new) ≡ Linked n → is_to (edge s.memory p d) leaf ≡ true
unfolding reply
link_found s w p d leaf new n = by (is_to (edge s.memory p d) leaf)
  where
    by : (b : Bool) → cond b (Linked (node_linked (of s w) new)) (Lost (edge s.memory p d)) ≡ Linked n → b ≡ true
    by true is = refl
    by false is = absurd (differ is)
      where
        differ : Lost (edge s.memory p d) ≡ Linked n → ⊥
        differ e = cc

module _ (L : Layout) (enough : 5 ≤ L.nodes) (w : ℕ) where
  abbrev PassView : Configuration → (ℕ → Option ℕ) → Type 0
  PassView c births = (x b : ℕ) → births x ≡ Some b → Lasts c.state w x b

  module _ (c : Configuration) (t : ℕ × Event) (has : HasKey t.1) (o : IsOrdered L c)
      (why : refused_in c t.0 t.1 ≡ None) (births : ℕ → Option ℕ) (stand : PassView c births) where
    law' : Lawful c.state (law_of_state L enough c o).0
    law' = (law_of_state L enough c o).1

    allowed' : Allowed c.state t.0 t.1
    allowed' = allowed c.state t.0 t.1 (allowed_by_state c t.0 t.1 why)

    -- a turn in which the worker takes part
    own_turn : takes_part w t.0 t.1 ≡ true → PassView (next_in c t)
        (stored_by (of c.state w) births (t.1, reply_of c.state t.0 t.1))
    own_turn takes = by (stored_or (of c.state w) births t.1 (reply_of c.state t.0 t.1))
      where
        knows_then : of (next_in c t).state w ≡ learn w (of c.state w) t.1 (reply_of c.state t.0 t.1)
        knows_then = ap (λ (z : State). of z w) (next_state w c t why)
            ∙ partaking c.state law'.staffed t.0 w t.1 allowed' takes

        same_pin : begins_anew (t.1, reply_of c.state t.0 t.1) ≡ false
            → (of (next_in c t).state w).brief.pin ≡ (of c.state w).brief.pin
        same_pin stands = ap (λ (k : Knowledge). k.brief.pin) knows_then
            ∙ (learned_stays c.state.memory (of c.state w) w t.1 (reply_of c.state t.0 t.1)
            (answers c.state (law_of_state L enough c o).0 law' t.0 t.1 allowed') stands).pin

        anew : (b : Bool) → begins_anew (t.1, reply_of c.state t.0 t.1) ≡ b
            → PassView (next_in c t) (cond b no_births births)
        anew true is x b none = absurd (none-some b none)
        anew false stands x b at = lasts_on L enough w c t has o why x b (same_pin stands) (stand x b at)

        by : StoredBy (of c.state w) births t.1 (reply_of c.state t.0 t.1)
            → PassView (next_in c t) (stored_by (of c.state w) births (t.1, reply_of c.state t.0 t.1))
        by (Others is) = subst (PassView (next_in c t)) (sym is)
            (anew (begins_anew (t.1, reply_of c.state t.0 t.1)) refl)
        by (Links p d leaf new n is answered stored) = subst (PassView (next_in c t)) (sym stored)
            (stored_lasts L enough w c t has o why p d leaf new is (own (part_or w t.0 t.1 takes))
            (link_found c.state t.0 p d leaf new n (ap (reply_of c.state t.0) (sym is) ∙ answered)) births stand
            (same_pin (ap (λ (e : Event). begins_anew (e, reply_of c.state t.0 t.1)) is)))
          where
            own : PartOf w t.0 t.1 → t.0 ≡ w
            own (Own same) = same
            own (Resigns v join) = absurd (differ (sym join ∙ is))
              where
                differ : Join v ≡ Link p d leaf new → ⊥
                differ e = cc

    -- one of another
    other_turn : takes_part w t.0 t.1 ≡ false → PassView (next_in c t) births
    other_turn none x b at = lasts_on L enough w c t has o why x b
        (ap (λ (k : Knowledge). k.brief.pin) (ap (λ (z : State). of z w) (next_state w c t why)
        ∙ apart c.state law'.staffed t.0 w t.1 allowed' none)) (stand x b at)

  stand_after : (ts : List (ℕ × Event)) → All (λ t. HasKey t.1) ts → (c : Configuration) → IsOrdered L c
      → (births : ℕ → Option ℕ) → PassView c births → PassView (after_in c ts)
      (stored_after w (of c.state w) births (part_of w (trace_in c ts)))
  unfolding after_in trace_in
  stand_after [] keys c o births stand = stand
  stand_after (t ∷ ts) keys c o births stand = go (refused_in c t.0 t.1) refl
      (stand_after ts (λ i d below. keys (suc i) d (omega arith)) (next_in c t)
      (ordered_next L enough c t (keys 0 t (omega arith)) o))
    where
      Rest : Type 0
      Rest = (births : ℕ → Option ℕ) → PassView (next_in c t) births
          → PassView (after_in (next_in c t) ts) (stored_after w (of (next_in c t).state w) births
          (part_of w (trace_in (next_in c t) ts)))

      Goal : Type 0
      Goal = PassView (after_in (next_in c t) ts) (stored_after w (of c.state w) births
          (part_of w (trace_in c (t ∷ ts))))

      go : (q : Option Refused) → refused_in c t.0 t.1 ≡ q → Rest → Goal
      go (Some q) is rest = subst (λ (log : List Entry). PassView (after_in (next_in c t) ts)
          (stored_after w (of c.state w) births log)) (sym (refused_adds w c t ts q is))
          (subst (λ (d : Configuration). PassView (after_in (next_in c t) ts)
          (stored_after w (of d.state w) births (part_of w (trace_in d ts)))) (refused_next c t q is)
          (rest births (subst (λ (d : Configuration). PassView d births) (sym (refused_next c t q is)) stand)))
      go None why rest = by (takes_part w t.0 t.1) refl
        where
          has : HasKey t.1
          has = keys 0 t (omega arith)

          by : (b : Bool) → takes_part w t.0 t.1 ≡ b → Goal
          by true takes = subst (λ (log : List Entry). PassView (after_in (next_in c t) ts)
              (stored_after w (of c.state w) births log)) (sym (own_adds w c t ts why takes))
              (subst (λ (k : Knowledge). PassView (after_in (next_in c t) ts)
              (stored_after w k (stored_by (of c.state w) births (t.1, reply_of c.state t.0 t.1))
              (part_of w (trace_in (next_in c t) ts))))
              (ap (λ (z : State). of z w) (next_state w c t why)
              ∙ partaking c.state (law_of_state L enough c o).1.staffed t.0 w t.1
              (allowed c.state t.0 t.1 (allowed_by_state c t.0 t.1 why)) takes)
              (rest (stored_by (of c.state w) births (t.1, reply_of c.state t.0 t.1))
              (own_turn c t has o why births stand takes)))
          by false none = subst (λ (log : List Entry). PassView (after_in (next_in c t) ts)
              (stored_after w (of c.state w) births log)) (sym (others_add w c t ts why none))
              (subst (λ (k : Knowledge). PassView (after_in (next_in c t) ts)
              (stored_after w k births (part_of w (trace_in (next_in c t) ts))))
              (ap (λ (z : State). of z w) (next_state w c t why)
              ∙ apart c.state (law_of_state L enough c o).1.staffed t.0 w t.1
              (allowed c.state t.0 t.1 (allowed_by_state c t.0 t.1 why)) none)
              (rest births (other_turn c t has o why births stand none)))

-- ---- the law

pub own_births_stand : OfEachOrderedRun OwnBirthsStand
own_births_stand L enough turns keys w x b below is = by
    (seen_of (known_by L w (part_of w (trace_in (ordered L) turns))) x).birth refl is
  where
    o : IsOrdered L (after_in (ordered L) turns)
    o = each_ordered L enough turns keys

    knows_it : of (after_in (ordered L) turns).state w ≡ known_by L w (part_of w (trace_in (ordered L) turns))
    knows_it = logs_tell L turns w below

    stored : (y n : ℕ) → stored_in L w (part_of w (trace_in (ordered L) turns)) y ≡ Some n
        → (node (after_in (ordered L) turns).state.memory y).birth ≡ n
    stored y n at = (stand_after L enough w turns keys (ordered L) (opening_ordered L enough) no_births
        (λ z m none. absurd (none-some m none)) y n
        (ap (λ (k : Knowledge). stored_after w k no_births (part_of w (trace_in (ordered L) turns)) y) (all_new L w)
        ∙ at)).birth

    by : (seen : Option ℕ) → (seen_of (known_by L w (part_of w (trace_in (ordered L) turns))) x).birth ≡ seen
        → or_else seen (stored_in L w (part_of w (trace_in (ordered L) turns)) x) ≡ Some b
        → (node (after_in (ordered L) turns).state.memory x).birth ≡ b
    by None none at = stored x b at
    by (Some n) seen at = (births_of L enough (after_in (ordered L) turns) o w).seen x n
        (ap (λ (k : Knowledge). (seen_of k x).birth) knows_it ∙ seen) ∙ same_Some n b at

-- ---- one log

-- what was looked at is told
pub looked_birth : (L : Layout) (w : ℕ) (log : List Entry) (x b : ℕ) → (seen_of (known_by L w log) x).birth ≡ Some b
    → births_by L w log x ≡ Some b
looked_birth L w log x b is = ap (λ (o : Option ℕ). or_else o (stored_in L w log x)) is

pub is_looked : (L : Layout) (w : ℕ) (log : List Entry) (x : ℕ) → IsSome (seen_of (known_by L w log) x).birth
    → IsSome (births_by L w log x)
is_looked L w log x = by (seen_of (known_by L w log) x).birth
  where
    by : (o : Option ℕ) → IsSome o → IsSome (or_else o (stored_in L w log x))
    by None none = absurd (true≢false (sym none))
    by (Some b) some = refl
