-- Right before a won swap the map has the key with the value of the old leaf, and right after it with
-- the value that was stored for the new one.
use Rattle.std.proofs.Common.{◌≡◌, ◌≤◌, ℕ, ◌==◌, Bool, true, false, cond, ◌||◌, List, [], ◌∷◌, ◌++◌, append-nil, append_assoc, length, refl, sym, ap, subst, ◌∙◌, arith, true≢false}
use Rattle.std.specs.Prelude.{All, Contains, IsSome, Ok, Option, Some, slice_index_or}
use Rattle.std.proofs.lemmas.Bool.{eq-eqb}
use Rattle.std.proofs.lemmas.List.{length-append, same_from_push}
use Rattle.std.proofs.lemmas.List.Elements.{Contains-append_left, Contains-push}
use Rattle.std.proofs.lemmas.Option.{same_Some}
use Rattle.nm_edge.specs.Layouts.{Layout, IsLayout}
use Rattle.nm_edge.specs.declared.edge.Side.{Side}
use Rattle.nm_edge.specs.declared.node.NodeId.{NodeId}
use Rattle.nm_model.specs.declared.event.Event.{Event}
use Rattle.nm_model.specs.declared.event.Event.TheVariants.{Swap}
use Rattle.nm_model.specs.declared.event.Op.TheVariants.{Insert}
use Rattle.nm_model.specs.declared.reply.Reply.{Reply}
use Rattle.nm_model.specs.declared.reply.Reply.TheVariants.{Cut}
use Rattle.nm_model.specs.declared.trace.Turn.{Turn}
use Rattle.nm_model.specs.Headline.{HasLeft, IsPinned, words_after}
use Rattle.nm_model.specs.Histories.{Called, call_begun}
use Rattle.nm_model.specs.Knowledge.{Knowledge}
use Rattle.nm_model.specs.Memory.{named}
use Rattle.nm_model.specs.Ordered.{HasKey, ordered, trace_in}
use Rattle.nm_model.specs.Paths.{Reached}
use Rattle.nm_model.specs.Searches.{idle}
use Rattle.nm_model.specs.Walks.{Entry, logged_by, search_after}
use Rattle.nm_order.specs.Facts.Fact.{CallIs}
use Rattle.nm_order.specs.History.{pin_of}
use Rattle.nm_order.specs.Logs.{known_by, part_of}
use Rattle.nm_order.proofs.AnswersSince.{part-append}
use Rattle.nm_order.proofs.PartsOfRuns.{logs_tell}
use Rattle.nm_order.proofs.RunExchanges.{first_keys}
use Rattle.nm_theorem.proofs.GraceOfRuns.{pin_is}
use Rattle.nm_theorem.proofs.LooksBehind.{pinned_by_turns}
use Rattle.nm_theorem.proofs.Runs.{Parts, parts_of}
use Rattle.nm_steps.specs.declared.view.Stored.{Stored}
use Rattle.nm_steps.specs.declared.view.View.{View}
use Rattle.nm_steps.specs.Rules.{Extends, IsStored, answered_turn, value_of}
use Rattle.nm_steps.specs.Steps.{HasSeen, HasSeenAllOf, IsInRun, PassView, TakesStep}
use Rattle.nm_steps.specs.Values.{HasSeenStores, OnlySees}
use Rattle.nm_steps.proofs.Growing.{goes_on_through}
use Rattle.nm_steps.proofs.Seeing.{same_by_step, seen_by_turn}
use Rattle.nm_steps.proofs.ValueStays.{NobodyHolds, value_stays}
use Rattle.nm_walks.specs.Growing.{HasLinkedValue}
use Rattle.nm_walks.specs.Making.{HasJustStored}
use Rattle.nm_walks.specs.Telling.{IsPinnedSomewhere, Tells}
use Rattle.nm_walks.proofs.Looks.{right_false}
use Rattle.nm_walks.proofs.ValueLooks.{if_linked_value}
use Rattle.nm_calls.specs.KeptValues.{NoneCuts}
use Rattle.nm_calls.specs.Maps.{IsInMap, value_at}
use Rattle.nm_calls.proofs.HandedStores.{value_until_cut}
use Rattle.nm_calls.proofs.MadeLeaves.{LastEvent, last_event}
use Rattle.nm_calls.proofs.MapMoments.{holds_longer, nobody_holds}
use Rattle.nm_calls.proofs.Moments.{call_seen}
use Rattle.nm_calls.proofs.StoresInTurns.{stores_in_turns}
use Rattle.nm_calls.proofs.UnderPins.{stays_longer}
use Rattle.nm_calls.proofs.WonSwaps.{SwapShown, swap_shown}
use Rattle.nm_puts.specs.Replaced.{HasReplaced, WasReplaced}

-- ---- the pass right after a won swap

-- the last turn that was seen is the worker's won swap, after all that had been seen. Right before it
-- the worker was pinned, in a call to insert the key, and it stored the value for the new leaf last
pub record HasSwappedLeaf (p s : PassView) (leaf : NodeId) (new k v : ℕ) : Type 0 where
  pub before : List Turn
  pub extends : Extends before p.view.past
  pub log : List Entry
  pub parent : ℕ
  pub side : Side
  pub past : s.view.past ≡ before ++ answered_turn s.view.number (Swap parent side leaf.slot new) (Cut (leaf ∷ [])) ∷ []
  pub is_log : s.view.log ≡ log ++ (Swap parent side leaf.slot new, Cut (leaf ∷ [])) ∷ []
  pub pin : (epoch : ℕ) × ((known_by s.view.layout s.view.number log).brief.pin ≡ Some epoch)
  pub here : (known_by s.view.layout s.view.number log).gone ≡ false
  pub call : (search_after idle log).call ≡ Some (record { op = Insert; key = k })
  pub stored : HasLinkedValue s new v

pub has_swapped_leaf : (p f s : PassView) (parent : ℕ) (side : Side) (leaf : NodeId) (new k v : ℕ)
    → HasSeenAllOf f p → IsInRun f
    → IsPinnedSomewhere f → Tells f (CallIs Insert k) → HasJustStored f new v
    → TakesStep f s (Swap parent side leaf.slot new) (Cut (leaf ∷ [])) → HasSwappedLeaf p s leaf new k v
has_swapped_leaf p f s parent side leaf new k v seen run pin call stored took = record {
  before = took.past.before;
  extends = goes_on_through took.past.before f.view.past p.view.past took.past.extends seen.goes_on;
  log = f.view.log;
  parent = parent;
  side = side;
  past = took.past.is ∙ ap (λ (z : PassView). took.past.before ++ answered_turn z.view.number
      (Swap parent side leaf.slot new) (Cut (leaf ∷ [])) ∷ []) (sym took.step);
  is_log = ap (λ (z : PassView). z.view.log) took.step;
  pin = (pin.0, ap (λ (z : PassView). (known_by z.view.layout z.view.number f.view.log).brief.pin) took.step ∙ pin.1);
  here = ap (λ (z : PassView). (known_by z.view.layout z.view.number f.view.log).gone) took.step ∙ run.run.here;
  call = call;
  stored = if_linked_value {A = Unit {0}} {E = Unit {0}} (Ok tt) f s (Swap parent side leaf.slot new) (Cut
      (leaf ∷ [])) new v stored took;
}

-- ---- the map before and after it

module _ (p s z : PassView) (fits : IsLayout s.view.layout) (seen : HasSeen s.view) (leaf : NodeId)
    (new k v old : ℕ) (t : HasSwappedLeaf p s leaf new k v)
    (looks : OnlySees s z) (is_value : old ≡ value_of z.view.stores leaf.slot) (high : 6 ≤ leaf.slot)
    (within : leaf.slot ≤ s.view.layout.nodes) where
  abbrev L : Layout
  L = s.view.layout

  abbrev w : ℕ
  w = s.view.number

  abbrev later : View
  later = record s.view { past = z.view.past; stores = z.view.stores }

  there : HasSeenStores (record s.view { past = z.view.past; stores = z.view.stores })
  there = subst (λ (x : PassView). HasSeenStores x.view) looks.same looks.seen

  abbrev turn : Turn
  turn = answered_turn w (Swap t.parent t.side leaf.slot new) (Cut (leaf ∷ []))

  abbrev now : List Turn
  now = t.before ++ turn ∷ []

  past_now : z.view.past ≡ (t.before ++ answered_turn s.view.number (Swap t.parent t.side leaf.slot new)
      (Cut (leaf ∷ [])) ∷ []) ++ looks.past.more
  past_now = looks.past.is ∙ ap (λ (ts : List Turn). ts ++ looks.past.more) t.past

  past_is : z.view.past ≡ t.before ++ answered_turn s.view.number (Swap t.parent t.side leaf.slot new) (Cut
      (leaf ∷ [])) ∷ looks.past.more
  past_is = past_now ∙ append_assoc t.before (turn ∷ []) looks.past.more

  whole : trace_in (ordered s.view.layout) there.run.events ≡ t.before ++ answered_turn s.view.number
      (Swap t.parent t.side leaf.slot new) (Cut (leaf ∷ [])) ∷ looks.past.more
  whole = sym there.run.are ∙ past_is

  pub shown : SwapShown s.view.layout t.before s.view.number t.parent t.side leaf.slot new (leaf ∷ [])
  shown = swap_shown L fits there.run.events there.run.keys t.before looks.past.more w t.parent t.side leaf.slot new
      (leaf ∷ []) whole

  -- ---- the run before the swap

  pub e : LastEvent (ordered s.view.layout) seen.events t.before (answered_turn s.view.number
      (Swap t.parent t.side leaf.slot new) (Cut (leaf ∷ [])))
  e = last_event t.before seen.events (ordered L) turn (sym seen.are ∙ t.past)

  first_seen : All (λ u. HasKey u.1) e.first
  first_seen = first_keys e.first (e.last ∷ []) (subst
      (λ (es : List (ℕ × Event)). All (λ u. HasKey u.1) es) e.are seen.keys)

  log_is : part_of s.view.number t.before ≡ t.log
  log_is = (same_from_push (part_of w t.before) t.log entry entry pushed).0
    where
      entry : Entry
      entry = (Swap t.parent t.side leaf.slot new, Cut (leaf ∷ []))

      own_part : ((s.view.number == s.view.number) || false) ≡ true
      own_part = ap (λ (b : Bool). b || false) (eq-eqb w w refl)

      pushed : part_of s.view.number t.before ++ (
        Swap t.parent t.side leaf.slot new,
        Cut
            (leaf ∷ []),
      ) ∷ [] ≡ t.log ++ (Swap t.parent t.side leaf.slot new, Cut (leaf ∷ [])) ∷ []
      pushed = sym (ap (λ (b : Bool). part_of w t.before ++ (cond b (logged_by turn) [] ++ [])) own_part)
          ∙ (sym (part-append w t.before (turn ∷ [])) ∙ (ap (part_of w) (sym t.past) ∙ (seen.is_part ∙ t.is_log)))

  seen_before : HasSeen (record s.view { log = t.log; past = t.before })
  seen_before = record {
    worker = seen.worker;
    events = e.first;
    keys = first_seen;
    are = sym e.firsts;
    is_part = log_is;
    here = t.here;
  }

  pub called : call_begun s.view.number t.before ≡ Some
      (record { pin = pin_of s.view.layout e.first s.view.number; op = Insert; key = k })
  unfolding e seen_before
  called = call_seen (record s.view { log = t.log; past = t.before }) fits seen_before (Some
      (record { op = Insert; key = k })) t.call

  key_is : shown.of_key ≡ k
  key_is = ap (λ (c : Called). c.key) (same_Some _ _ (sym shown.call ∙ called))

  -- ---- the pin

  pinned : IsPinned s.view.number t.before
  pinned = subst (IsPinned w) e.firsts (pinned_by_turns w (trace_in (ordered L) e.first)
      (subst (λ (o : Option ℕ). IsSome o)
      (sym (ap (λ (j : Knowledge). j.brief.pin) (logs_tell L e.first w seen.worker ∙ ap (known_by L w)
      (ap (part_of w) e.firsts ∙ log_is)) ∙ t.pin.1)
      ∙ pin_is L fits true e.first w) refl))

  not_left : HasLeft s.view.number (answered_turn s.view.number (Swap t.parent t.side leaf.slot new)
      (Cut (leaf ∷ [])) ∷ looks.past.more) → ⊥
  not_left = stays_longer w s.view.past looks.past.more (turn ∷ [])
      (ap (λ (ts : List Turn). length (part_of w ts)) (sym looks.past.is) ∙ ap length (there.run.is_part
      ∙ sym seen.is_part))
      (λ left. true≢false (sym left ∙ ap (λ (b : Bool). b || false) (right_false (w == w) false refl)))

  nobody : NobodyHolds s.view.layout there.run.events (length t.before) leaf.slot
  nobody = subst (λ (ts : List Turn). NobodyHolds L there.run.events (length ts) leaf.slot) (sym q.first_is)
      (nobody_holds L fits there.run.events there.run.keys w leaf.slot high within q.early q.late q.all
      (subst (IsPinned w) q.first_is pinned) (λ left. not_left (subst (HasLeft w) (sym q.rest_is) left))
      (subst (λ (ts : List Turn). Reached (words_after L ts) leaf.slot) q.first_is shown.old_reached))
    where
      q : Parts (ordered s.view.layout) there.run.events t.before (answered_turn s.view.number
          (Swap t.parent t.side leaf.slot new) (Cut (leaf ∷ [])) ∷ looks.past.more)
      q = parts_of (ordered L) there.run.events t.before (turn ∷ looks.past.more) whole

  -- ---- the values

  pub found : IsInMap s.view.layout t.before z.view.stores k old
  found = record {
    slot = leaf.slot;
    reached = shown.old_reached;
    leaf = shown.old_leaf;
    has_key = shown.old_key ∙ key_is;
    has_value = value_stays L there.run.events z.view.stores (length t.before) leaf.slot there.held nobody
        ∙ sym is_value;
  }

  -- the store of the new value
  abbrev x : Stored
  x = record { at = t.stored.at; worker = w; own = t.stored.own; slot = new; value = v }

  its_store : IsStored z.view.stores s.view.number (length (part_of s.view.number t.before)) new
  its_store = record {
    stored = x;
    there = subst (λ (st : List Stored). Contains st x) (sym looks.stores.is)
        (Contains-append_left s.view.stores looks.stores.more x
        (subst (λ (st : List Stored). Contains st x) (sym t.stored.is) (Contains-push t.stored.earlier x)));
    by_worker = refl;
    at_own = (
        let long = ap (λ (l : List Entry). length l) t.is_log ∙ length-append t.log
        ((Swap t.parent t.side leaf.slot new, Cut (leaf ∷ [])) ∷ []) in
        let last = t.stored.last in
        let same = ap (λ (l : List Entry). length l) log_is in
        omega (arith, long, last, same)
        );
    for_slot = refl;
  }

  none_cut : NoneCuts [] new
  none_cut before since u is c = absurd (let long = ap (λ (ts : List Turn). length ts) is ∙ length-append before
      (u ∷ since) in omega (arith, long))

  pub left : IsInMap s.view.layout (t.before ++ answered_turn s.view.number (Swap t.parent t.side leaf.slot new)
      (Cut (leaf ∷ [])) ∷ []) z.view.stores k v
  unfolding its_store
  left = record {
    slot = new;
    reached = shown.new_reached;
    leaf = shown.new_leaf;
    has_key = shown.new_key ∙ key_is;
    has_value = sym (ap (λ (ts : List Turn). value_at (length ts) z.view.stores new) (append-nil now))
        ∙ value_until_cut L fits there.run.events there.run.keys t.before [] looks.past.more w
        (Swap t.parent t.side leaf.slot new) (Cut (leaf ∷ [])) turn refl
        (whole ∙ sym (append_assoc t.before
        (turn ∷ []) looks.past.more)) new shown.new_reached none_cut z.view.stores there.held there.order its_store;
  }

  leaf_is : leaf ≡ named (words_after s.view.layout t.before) leaf.slot
  leaf_is = ap (λ (ns : List NodeId). slice_index_or ns 0 leaf) shown.nodes

  pub was_replaced : WasReplaced s.view.layout p.view.past z.view.past z.view.stores s.view.number k old v
  unfolding found left its_store
  was_replaced = record {
    so_far = t.before;
    swap = turn;
    rest = looks.past.more;
    are = past_is;
    later = (let n = ap (λ (ts : List Turn). length ts) t.extends.is
        ∙ length-append p.view.past t.extends.more in omega (arith, n));
    pin = pin_of L e.first w;
    call = called;
    found = found;
    left = left;
    won = record {
      parent = t.parent;
      side = t.side;
      is = ap (λ (n : NodeId). answered_turn w
          (Swap t.parent t.side leaf.slot new) (Cut (n ∷ []))) leaf_is;
    };
    stored = its_store;
    same = refl;
    holds = stores_in_turns later fits there now (record { more = looks.past.more; is = past_now });
  }

  pub has_replaced : HasReplaced p z k old v
  has_replaced = subst
      (λ (y : PassView). WasReplaced y.view.layout p.view.past z.view.past z.view.stores y.view.number k old v)
      (sym looks.same) was_replaced

-- ---- it stays so for all that is seen later

-- and for all that had been seen earlier
pub replaced_since : (o p q : PassView) (k old v : ℕ) → HasSeenAllOf p o → HasReplaced p q k old v
    → HasReplaced o q k old v
replaced_since o p q k old v seen t = record {
  so_far = t.so_far;
  swap = t.swap;
  rest = t.rest;
  are = t.are;
  later = (let later = t.later in let n = ap (λ (ts : List Turn). length ts) seen.goes_on.is
      ∙ length-append o.view.past seen.goes_on.more in omega (arith, later, n));
  pin = t.pin;
  call = t.call;
  found = t.found;
  left = t.left;
  won = t.won;
  stored = t.stored;
  same = t.same;
  holds = t.holds;
}

pub replaced_then : (p q z : PassView) (e : Event) (r : Reply) (k old v : ℕ) → HasReplaced p q k old v
    → TakesStep q z e r → HasReplaced p z k old v
replaced_then p q z e r k old v t took =
    let on : Extends z.view.past q.view.past = (seen_by_turn q z e r took.past).goes_on in
    subst (λ (st : List Stored). WasReplaced z.view.layout p.view.past z.view.past st z.view.number k old v)
    (sym took.stores)
    (subst (λ (s : PassView). WasReplaced s.view.layout p.view.past z.view.past q.view.stores s.view.number k old v)
    (sym (same_by_step q z e r took.step)) (record {
      so_far = t.so_far;
      swap = t.swap;
      rest = t.rest ++ on.more;
      are = on.is ∙ (ap (λ (l : List Turn). l ++ on.more) t.are ∙ append_assoc t.so_far (t.swap ∷ t.rest) on.more);
      later = t.later;
      pin = t.pin;
      call = t.call;
      found = t.found;
      left = t.left;
      won = t.won;
      stored = t.stored;
      same = t.same;
      holds = holds_longer q.view.layout (t.so_far ++ t.swap ∷ []) q.view.past z.view.past q.view.stores on t.holds;
    }))
