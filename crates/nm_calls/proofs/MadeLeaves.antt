-- Right after a won link the map has the key of the new leaf, with the value that was stored for
-- it.
use Rattle.std.proofs.Common.{◌≡◌, ℕ, ◌<◌, ◌==◌, Bool, true, false, cond, ◌||◌, List, [], ◌∷◌, ◌++◌, append-nil, append_assoc, length, refl, sym, ap, subst, ◌∙◌, arith}
use Rattle.std.proofs.lemmas.List.Elements.{Contains-push}
use Rattle.std.specs.Prelude.{All, Contains, Some, Ok, filter, nat_lt}
use Rattle.std.proofs.lemmas.Bool.{eq-eqb, lt-ltb}
use Rattle.std.proofs.lemmas.List.{length-append, same_from_push}
use Rattle.nm_edge.specs.Edges.{to}
use Rattle.nm_edge.specs.Layouts.{Layout, IsLayout}
use Rattle.nm_edge.specs.declared.edge.Side.{Side}
use Rattle.nm_edge.specs.declared.node.NodeId.{NodeId}
use Rattle.nm_model.specs.declared.event.Event.{Event}
use Rattle.nm_model.specs.declared.event.Event.TheVariants.{Link}
use Rattle.nm_model.specs.declared.event.Op.TheVariants.{Insert}
use Rattle.nm_model.specs.declared.reply.Reply.{Reply}
use Rattle.nm_model.specs.declared.reply.Reply.TheVariants.{Linked}
use Rattle.nm_model.specs.declared.trace.Turn.{Turn}
use Rattle.nm_model.specs.Headline.{words_after}
use Rattle.nm_model.specs.Histories.{call_begun}
use Rattle.nm_model.specs.Knowledge.{Knowledge, draft_of}
use Rattle.nm_model.specs.Memory.{Memory, is_leaf, node, put_edge}
use Rattle.nm_model.specs.Ordered.{Configuration, HasKey, ordered, after_in, next_in, outcome_in, trace_in}
use Rattle.nm_model.specs.Paths.{Reached}
use Rattle.nm_model.specs.Runs.{State, of}
use Rattle.nm_model.specs.Walks.{Entry, logged_by}
use Rattle.nm_laws.proofs.KnownBirths.{each_birth_stands}
use Rattle.nm_order.specs.History.{pin_of}
use Rattle.nm_order.specs.Intervals.{IsCalled, key}
use Rattle.nm_order.specs.Logs.{known_by, part_of}
use Rattle.nm_order.proofs.AnswersSince.{part-append}
use Rattle.nm_order.proofs.PartsOfRuns.{logs_tell}
use Rattle.nm_order.proofs.RunExchanges.{first_keys}
use Rattle.nm_theorem.proofs.HistoriesOfRuns.{is_called}
use Rattle.nm_steps.specs.declared.view.Stored.{Stored}
use Rattle.nm_steps.specs.Rules.{Extends, answered_turn, new_leaf, value_from, value_of}
use Rattle.nm_steps.specs.Steps.{HasSeen, HasSeenAllOf, PassView, TakesStep}
use Rattle.nm_steps.proofs.Seeing.{same_by_step, seen_by_turn}
use Rattle.nm_walks.specs.Growing.{HasLinkedLeaf, HasLinkedValue}
use Rattle.nm_walks.proofs.Looks.{enough}
use Rattle.nm_calls.specs.Maps.{HasPut, IsInMap, WasPut, value_at}
use Rattle.nm_calls.proofs.LinkedLeaves.{far_is_leaf, far_reached, is_of_call, key_stays, words_then}
use Rattle.nm_calls.proofs.WonLinks.{is_ordered, link}

-- ---- the last event of a run

pub record LastEvent (c : Configuration) (events : List (ℕ × Event)) (before : List Turn) (t : Turn) : Type 0 where
  pub first : List (ℕ × Event)
  pub last : ℕ × Event
  pub are : events ≡ first ++ last ∷ []
  pub firsts : trace_in c first ≡ before
  pub is : record { worker = last.0; event = last.1; outcome = outcome_in (after_in c first) last } ≡ t

pub last_event : (before : List Turn) (events : List (ℕ × Event)) (c : Configuration) (t : Turn)
    → trace_in c events ≡ before ++ t ∷ [] → LastEvent c events before t
unfolding trace_in after_in
last_event [] [] c t is = absurd (let long = ap (λ (l : List Turn). length l) is in omega (arith, long))
last_event [] (e ∷ []) c t is = record { first = []; last = e; are = refl; firsts = refl; is = cc }
last_event [] (e ∷ f ∷ es) c t is = absurd (let long = ap (λ (l : List Turn). length l) is in omega (arith, long))
last_event (b ∷ bs) [] c t is = absurd (let long = ap (λ (l : List Turn). length l) is in omega (arith, long))
last_event (b ∷ bs) (e ∷ es) c t is =
    let rest : trace_in (next_in c e) es ≡ bs ++ t ∷ [] = cc in
    let head : record { worker = e.0; event = e.1; outcome = outcome_in c e } ≡ b = cc in
    let r = last_event bs es (next_in c e) t rest in
    record {
      first = e ∷ r.first;
      last = r.last;
      are = ap (λ (l : List (ℕ × Event)). e ∷ l) r.are;
      firsts = (λ i. head i ∷ r.firsts i);
      is = r.is;
    }

-- ---- a won link

module _ (L : Layout) (fits : IsLayout L) (events : List (ℕ × Event)) (keys : All (λ t. HasKey t.1) events) (w : ℕ)
    (below : w < L.workers) (parent : ℕ) (side : Side) (old new : ℕ) (n : NodeId) (slot k : ℕ)
    (won : outcome_in (after_in (ordered L) events) (w, Link parent side old new) ≡ Ok (Linked n))
    (is_fresh : new_leaf (known_by L w (part_of w (trace_in (ordered L) events))) old new ≡ slot)
    (has : (draft_of (known_by L w (part_of w (trace_in (ordered L) events))) slot).key ≡ Some k) where
  abbrev c : Configuration
  c = after_in (ordered L) events

  abbrev far : ℕ
  far = (link L fits events keys w parent side old new n won).drafts.far

  told : of c.state w ≡ known_by L w (part_of w (trace_in (ordered L) events))
  told = logs_tell L events w below

  far_is : far ≡ slot
  far_is = sym (link L fits events keys w parent side old new n won).drafts.is_far
      ∙ (ap (λ (j : Knowledge). new_leaf j old new) told ∙ is_fresh)

  abbrev after : Memory
  after = put_edge c.state.memory parent side (to new)

  words : words_after L (trace_in (ordered L) events ++ answered_turn w (Link parent side old new) (Linked n) ∷ [])
      ≡ after
  words = words_then L fits events keys w parent side old new n won

  reached_after : Reached after slot
  reached_after = subst (Reached after) far_is (far_reached L fits events keys w parent side old new n won)

  leaf_after : is_leaf (node after slot) ≡ true
  leaf_after = subst (λ (x : ℕ). is_leaf (node after x) ≡ true) far_is
      (far_is_leaf L fits events keys w parent side old new n won)

  key_before : key c.state.memory slot ≡ k
  key_before =
      let births = subst (λ (s : State). (x v : ℕ) → (draft_of (of s w) x).key ≡ Some v → (node s.memory x).key ≡ v)
      (sym (is_ordered L fits events keys w parent side old new n won).leads)
      (each_birth_stands L (enough L fits) (is_ordered L fits events keys w parent side old new n won).events
      w).key in
      births slot k (ap (λ (j : Knowledge). (draft_of j slot).key) told ∙ has)

  key_kept : key after slot ≡ key c.state.memory slot
  key_kept = key_stays L fits events keys w parent side old new n won slot

  -- the call is for the key of the leaf
  pub called : IsCalled c w Insert k
  called = subst (IsCalled c w Insert) (ap (key after) far_is ∙ (key_kept ∙ key_before))
      (is_of_call L fits events keys w parent side old new n won)

  abbrev turn : Turn
  turn = answered_turn w (Link parent side old new) (Linked n)

  abbrev linked_in_map : (stores : List Stored) (v : ℕ) (first : List Turn) → trace_in (ordered L) events ≡ first
      → value_at (length (first ++ turn ∷ [])) stores slot ≡ v → IsInMap L (first ++ turn ∷ []) stores k v
  linked_in_map stores v first is has_value = record {
    slot = slot;
    reached = subst (λ (ts : List Turn). Reached (words_after L (ts ++ turn ∷ [])) slot) is
        (subst (λ (m : Memory). Reached m slot) (sym words) reached_after);
    leaf = ap (λ (ts : List Turn). is_leaf (node (words_after L (ts ++ turn ∷ [])) slot)) (sym is)
        ∙ (ap (λ (m : Memory). is_leaf (node m slot)) words ∙ leaf_after);
    has_key = ap (λ (ts : List Turn). (node (words_after L (ts ++ turn ∷ [])) slot).key) (sym is)
        ∙ (ap (λ (m : Memory). (node m slot).key) words ∙ (key_kept ∙ key_before));
    has_value = has_value;
  }

-- ---- a value that was stored last

last_value : (slot v at w own was : ℕ) (earlier : List Stored)
    → value_from was (earlier ++ record { at = at; worker = w; own = own; slot = slot; value = v } ∷ []) slot ≡ v
last_value slot v at w own was [] = ap (λ (b : Bool). cond b v was) (eq-eqb slot slot refl)
last_value slot v at w own was (x ∷ xs) = last_value slot v at w own (cond (x.slot == slot) x.value was) xs

kept_last : (n : ℕ) (l : List Stored) (x : Stored) → x.at < n
    → filter (λ (y : Stored). nat_lt y.at n) (l ++ x ∷ []) ≡ filter (λ (y : Stored). nat_lt y.at n) l ++ x ∷ []
kept_last n [] x early = ap (λ (b : Bool). cond b (x ∷ []) []) (lt-ltb x.at n early)
kept_last n (y ∷ ys) x early = go (nat_lt y.at n) (kept_last n ys x early)
  where
    go : (b : Bool) → filter (λ (z : Stored). nat_lt z.at n) (ys ++ x ∷ [])
        ≡ filter (λ (z : Stored). nat_lt z.at n) ys ++ x ∷ []
        → cond b (y ∷ filter (λ (z : Stored). nat_lt z.at n) (ys ++ x ∷ []))
        (filter (λ (z : Stored). nat_lt z.at n) (ys ++ x ∷ []))
        ≡ cond b (y ∷ filter (λ (z : Stored). nat_lt z.at n) ys) (filter (λ (z : Stored). nat_lt z.at n) ys) ++ x ∷ []
    go true rest = ap (λ (l : List Stored). y ∷ l) rest
    go false rest = rest

stored_last : (n slot v at w own : ℕ) (earlier : List Stored) → at < n
    → value_at n (earlier ++ record { at = at; worker = w; own = own; slot = slot; value = v } ∷ []) slot ≡ v
stored_last n slot v at w own earlier early =
    ap (λ (l : List Stored). value_of l slot) (kept_last n earlier
    (record { at = at; worker = w; own = own; slot = slot; value = v }) early)
    ∙ last_value slot v at w own 0 (filter (λ (y : Stored). nat_lt y.at n) earlier)

-- ---- of a pass

pub put_by_link : (p q : PassView) (slot k v : ℕ) → IsLayout q.view.layout → HasSeen q.view
    → HasLinkedLeaf p q slot k → HasLinkedValue q slot v
    → WasPut q.view.layout p.view.past q.view.past q.view.stores q.view.number k v
put_by_link p q slot k v fits seen l s = record {
  so_far = l.before;
  link = turn;
  rest = [];
  are = l.past ∙ sym (append-nil (l.before ++ turn ∷ []));
  later = (let n = ap (λ (ts : List Turn). length ts) l.extends.is ∙ length-append p.view.past l.extends.more in
      omega (arith, n));
  pin = pin_of L e.first w;
  call =
      ap (call_begun w) (sym e.firsts)
      ∙ is_called L (enough L fits) w e.first first_seen Insert k
      (called L fits e.first first_seen w seen.worker l.parent l.side l.old l.new l.node slot k won
      (ap (λ (log : List Entry). new_leaf (known_by L w log) l.old l.new) log_is ∙ l.fresh)
      (ap (λ (log : List Entry). (draft_of (known_by L w log) slot).key) log_is ∙ l.has_key));
  won = record { parent = l.parent; side = l.side; old = l.old; new = l.new; node = l.node; is = refl };
  is = linked_in_map L fits e.first first_seen w seen.worker l.parent l.side l.old l.new l.node slot k
      won
      (ap (λ (log : List Entry). new_leaf (known_by L w log) l.old l.new) log_is ∙ l.fresh)
      (ap (λ (log : List Entry). (draft_of (known_by L w log) slot).key) log_is ∙ l.has_key) q.view.stores v l.before
      e.firsts
      (subst (λ (st : List Stored). value_at (length (l.before ++ turn ∷ [])) st slot ≡ v) (sym s.is)
      (stored_last (length (l.before ++ turn ∷ [])) slot v s.at w s.own s.earlier early));
  stored = record {
    stored = x;
    there = subst (λ (st : List Stored). Contains st x) (sym s.is) (Contains-push s.earlier x);
    by_worker = refl;
    at_own = (
        let long = ap (λ (log : List Entry). length log) l.is_log
        ∙ length-append l.log ((Link l.parent l.side l.old l.new, Linked l.node) ∷ []) in
        let last = s.last in
        let same : length (part_of w l.before) ≡ length l.log = ap (λ (log : List Entry). length log)
        (ap (part_of w) (sym e.firsts) ∙ log_is) in
        omega (arith, long, last, same)
        );
    for_slot = refl;
  };
}
  where
    L : Layout
    L = q.view.layout

    w : ℕ
    w = q.view.number

    turn : Turn
    turn = answered_turn w (Link l.parent l.side l.old l.new) (Linked l.node)

    e : LastEvent (ordered L) seen.events l.before turn
    e = last_event l.before seen.events (ordered L) turn (sym seen.are ∙ l.past)

    first_seen : All (λ t. HasKey t.1) e.first
    first_seen = first_keys e.first (e.last ∷ []) (subst (λ (es : List (ℕ × Event)). All (λ t. HasKey t.1) es) e.are
        seen.keys)

    last_is : e.last ≡ (w, Link l.parent l.side l.old l.new)
    last_is = (λ i. ((ap (λ (t : Turn). t.worker) e.is) i, (ap (λ (t : Turn). t.event) e.is) i))

    won : outcome_in (after_in (ordered L) e.first) (w, Link l.parent l.side l.old l.new) ≡ Ok (Linked l.node)
    won = ap (outcome_in (after_in (ordered L) e.first)) (sym last_is) ∙ ap (λ (t : Turn). t.outcome) e.is

    whole : part_of w l.before ++ (Link l.parent l.side l.old l.new, Linked l.node) ∷ []
        ≡ l.log ++ (Link l.parent l.side l.old l.new, Linked l.node) ∷ []
    whole = sym (ap (λ (b : Bool). part_of w l.before ++ (cond b (logged_by turn) [] ++ [])) (λ i. own_part i))
        ∙ (sym (part-append w l.before (turn ∷ [])) ∙ (ap (part_of w) (sym l.past) ∙ (seen.is_part ∙ l.is_log)))
      where
        own_part : ((w == w) || false) ≡ true
        own_part = ap (λ (b : Bool). b || false) (eq-eqb w w refl)

    log_is : part_of w (trace_in (ordered L) e.first) ≡ l.log
    log_is = ap (part_of w) e.firsts ∙ (same_from_push (part_of w l.before) l.log
        (Link l.parent l.side l.old l.new, Linked l.node) (Link l.parent l.side l.old l.new, Linked l.node) whole).0

    early : s.at < length (l.before ++ turn ∷ [])
    early = subst (λ (n : ℕ). s.at < n) (ap (λ (ts : List Turn). length ts) l.past) s.early

    x : Stored
    x = record { at = s.at; worker = w; own = s.own; slot = slot; value = v }

-- it stays so for all that had been seen earlier
pub put_earlier : (o p q : PassView) (k v : ℕ) → HasSeenAllOf p o → HasPut p q k v → HasPut o q k v
put_earlier o p q k v seen put = record {
  so_far = put.so_far;
  link = put.link;
  rest = put.rest;
  are = put.are;
  later = (let later = put.later in
      let n = ap (λ (ts : List Turn). length ts) seen.goes_on.is ∙ length-append o.view.past seen.goes_on.more in
      omega (arith, later, n));
  pin = put.pin;
  call = put.call;
  won = put.won;
  is = put.is;
  stored = put.stored;
}

-- and for a pass that goes on
pub put_then : (p q z : PassView) (e : Event) (r : Reply) (k v : ℕ) → HasPut p q k v → TakesStep q z e r
    → HasPut p z k v
put_then p q z e r k v put took =
    let on : Extends z.view.past q.view.past = (seen_by_turn q z e r took.past).goes_on in
    subst (λ (st : List Stored). WasPut z.view.layout p.view.past z.view.past st z.view.number k v) (sym took.stores)
    (subst (λ (s : PassView). WasPut s.view.layout p.view.past z.view.past q.view.stores s.view.number k v)
    (sym (same_by_step q z e r took.step)) (record {
      so_far = put.so_far;
      link = put.link;
      rest = put.rest ++ on.more;
      are = on.is ∙ (ap (λ (l : List Turn). l ++ on.more) put.are
          ∙ append_assoc (put.so_far ++ put.link ∷ []) put.rest on.more);
      later = put.later;
      pin = put.pin;
      call = put.call;
      won = put.won;
      is = put.is;
      stored = put.stored;
    }))
