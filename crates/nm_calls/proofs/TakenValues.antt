-- The value of a leaf that a delete has flagged.
use Rattle.std.proofs.Common.{◌≡◌, ℕ, ◌≤◌, inl, inr, true, false, List, [], ◌∷◌, ◌++◌, append_assoc, length, refl, sym, ap, subst, ◌∙◌}
use Rattle.std.specs.Prelude.{None, Some, Result, Ok, Err}
use Rattle.std.proofs.lemmas.Bool.{cases_lt}
use Rattle.std.proofs.lemmas.Option.{none-some, same_Some}
use Rattle.nm_edge.specs.Keys.{IsKey}
use Rattle.nm_edge.specs.Layouts.{Layout, IsLayout}
use Rattle.nm_edge.specs.declared.edge.Side.{Side}
use Rattle.nm_edge.specs.declared.node.NodeId.{NodeId}
use Rattle.nm_model.specs.declared.event.Event.TheVariants.{Flag}
use Rattle.nm_model.specs.declared.event.Op.TheVariants.{Delete}
use Rattle.nm_model.specs.declared.reply.Reply.TheVariants.{Flagged}
use Rattle.nm_model.specs.declared.trace.Turn.{Turn}
use Rattle.nm_model.specs.Headline.{HasLeft}
use Rattle.nm_model.specs.Histories.{Called, call_begun}
use Rattle.nm_model.specs.Walks.{IsOfWalk, WalkEnds, since_pin}
use Rattle.nm_laws.proofs.WalksOfLogs.{arrivals_are_walks}
use Rattle.nm_order.specs.Exchanges.{HasFlagged}
use Rattle.nm_order.specs.Facts.Fact.{CallIs, EndedAt}
use Rattle.nm_order.specs.Facts.Since.{ThePin}
use Rattle.nm_order.specs.History.{pin_of}
use Rattle.nm_order.specs.Logs.{part_of}
use Rattle.nm_order.proofs.LoggedAnswers.{pending_deletes_have_flagged}
use Rattle.nm_theorem.proofs.HistoriesOfRuns.{still_called}
use Rattle.nm_steps.specs.declared.view.Stored.{Stored}
use Rattle.nm_steps.specs.Rules.{Extends, ExtendsStores, answered_turn, value_of}
use Rattle.nm_steps.specs.Steps.{Continues, HasSeen, PassView}
use Rattle.nm_steps.specs.Values.{HasSeenStores}
use Rattle.nm_steps.proofs.Seeing.{continues_then, seen_itself, stores_same}
use Rattle.nm_steps.proofs.ValueStays.{value_stays}
use Rattle.nm_epoch.specs.Resting.{search}
use Rattle.nm_walks.specs.declared.seek_record.WalkEnd.{WalkEnd}
use Rattle.nm_walks.specs.Telling.{GoesOn, Tells}
use Rattle.nm_walks.proofs.Looks.{enough}
use Rattle.nm_calls.specs.declared.deleting.Injected.{Injected}
use Rattle.nm_calls.specs.declared.deleting.Injected.TheVariants as injected
use Rattle.nm_calls.specs.declared.deleting.Deletion.{Deletion}
use Rattle.nm_calls.specs.declared.deleting.Deletion.TheVariants as deletion
use Rattle.nm_calls.specs.declared.fault.CallFault.{CallFault}
use Rattle.nm_calls.specs.Deletes.{HasWonItsFlag, IfFlagged, IfTaken, MayFlag, leaf_of}
use Rattle.nm_calls.specs.Maps.{HasReadFlagged, HasTaken, HoldsStores, IsInMap, WasTaken}
use Rattle.nm_calls.proofs.FlaggedTurns.{are as turns_are, called_then, flag, key_then, leaf_then, named_then, not_left, pinned_then, reached_then, rest, same_pin, so_far, then_is}
use Rattle.nm_calls.proofs.Forks.{going_continues}
use Rattle.nm_calls.proofs.MapMoments.{holds_longer, nobody_holds}
use Rattle.nm_calls.proofs.Moments.{call_seen, none_begun}
use Rattle.nm_calls.proofs.StoresInTurns.{stores_in_turns}

-- ---- what was read of the leaf

-- a walk of the call has ended there
pub walk_ended : (p : PassView) (k slot parent : ℕ) (side : Side) → Tells p (EndedAt ThePin k slot parent side k)
    → WalkEnds k (since_pin [] p.view.log) slot parent side k
walk_ended p k slot parent side (a, key, ended) =
    let log = since_pin [] p.view.log in
    let own : IsOfWalk a.call.key log a.arrival = subst (IsOfWalk a.call.key log) a.among.2
    (arrivals_are_walks p.view.log a.call a.is_call a.among.0 a.arrival a.among.1) in
    let ends = own.ends ended in
    subst (λ (v : ℕ). WalkEnds k log slot parent side v) (same_Some ends.0 k (sym ends.1 ∙ key))
    (subst (λ (d : Side). WalkEnds k log slot parent d ends.0) a.is_side
    (subst (λ (x : ℕ). WalkEnds k log slot x a.arrival.side ends.0) a.is_parent
    (subst (λ (x : ℕ). WalkEnds k log x a.arrival.parent a.arrival.side ends.0) a.is_slot
    (subst (λ (j : ℕ). WalkEnds j log a.arrival.slot a.arrival.parent a.arrival.side ends.0) a.is_for ends.2))))

continues_itself : (p q : PassView) → GoesOn p q → Continues q q
continues_itself p q on = record {
  same = refl;
  past = seen_itself q;
  run = on.run;
  stores = stores_same
      q.view.stores q.view.stores refl;
}

-- a flag was won after p, and the value was read at m
pub read_flagged : (p m : PassView) (k v b : ℕ) (r : WalkEnd) → IsKey k → MayFlag p k r → GoesOn p m
    → HasWonItsFlag p m r b → HasSeenStores m.view → v ≡ value_of m.view.stores r.seek_record.edge.slot
    → HasReadFlagged p m k v
read_flagged p m k v b r is_key may on won seen value = record {
  at = m;
  since = going_continues p m on;
  until = continues_itself p m on;
  is_key = is_key;
  leaf = leaf_of r b;
  call = on.keeps (CallIs Delete k) may.call;
  flagged = won.flagged;
  high = may.high;
  within = subst (λ (s : PassView). r.seek_record.edge.slot ≤ s.view.layout.nodes) (sym on.same) may.within;
  seen = seen;
  value = value;
}

pub read_since : (o p q : PassView) (k v : ℕ) → Continues o p → HasReadFlagged p q k v → HasReadFlagged o q k v
read_since o p q k v on t = record {
  at = t.at;
  since = continues_then o p t.at on t.since;
  until = t.until;
  is_key = t.is_key;
  leaf = t.leaf;
  call = t.call;
  flagged = t.flagged;
  high = t.high;
  within = t.within;
  seen = t.seen;
  value = t.value;
}

pub read_until : (p q r : PassView) (k v : ℕ) → Continues q r → HasReadFlagged p q k v → HasReadFlagged p r k v
read_until p q r k v on t = record {
  at = t.at;
  since = t.since;
  until = continues_then t.at q r t.until on;
  is_key = t.is_key;
  leaf = t.leaf;
  call = t.call;
  flagged = t.flagged;
  high = t.high;
  within = t.within;
  seen = t.seen;
  value = t.value;
}

-- ---- so the map had the key with the value right before the flag

-- by what was seen when the value was read, after an earlier moment at which the worker had no call
module _ (was : List Turn) (m : PassView) (fits : IsLayout m.view.layout) (seen : HasSeenStores m.view)
    (k v : ℕ) (leaf : NodeId) (call : (search m).call ≡ Some (record { op = Delete; key = k }))
    (flagged : (search m).flagged ≡ Some leaf) (high : 6 ≤ leaf.slot) (within : leaf.slot ≤ m.view.layout.nodes)
    (value : v ≡ value_of m.view.stores leaf.slot) (on : Extends m.view.past was)
    (none' : call_begun m.view.number was ≡ None) where
  abbrev L : Layout
  L = m.view.layout

  abbrev w : ℕ
  w = m.view.number

  abbrev run : HasSeen m.view
  run = seen.run

  pub has : (f : HasFlagged L run.events w k) × (f.flagged ≡ leaf)
  has = pending_deletes_have_flagged L (enough L fits) w m.view.log k leaf call flagged (record {
    worker = run.worker;
    turns = run.events;
    keys = run.keys;
    is_part = ap (part_of w) (sym run.are) ∙ run.is_part;
  })

  abbrev f : HasFlagged L run.events w k
  f = has.0

  abbrev first : List Turn
  first = so_far L fits run.events run.keys w k f

  pub past_is : m.view.past ≡ first ++ flag L fits run.events run.keys w k f ∷ rest L fits run.events run.keys w k f
  past_is = run.are ∙ turns_are L fits run.events run.keys w k f

  same_slot : f.leaf ≡ leaf.slot
  same_slot =
      ap (λ (n : NodeId). n.slot) (sym (named_then L fits run.events run.keys w k f) ∙ has.1)

  -- the call began after that moment
  abbrev its_call : Called
  its_call = record { pin = pin_of L f.before w; op = Delete; key = k }

  pub later : length was ≤ pin_of L f.before w
  later = elim (cases_lt (pin_of L f.before w) (length was)) [
    | inl less ↦ absurd (none-some its_call (sym none'
        ∙ still_called w was on.more its_call (ap (call_begun w) (sym on.is) ∙ now) less))
    | inr le ↦ le
  ]
    where
      now : call_begun w m.view.past ≡ Some its_call
      now =
          call_seen m.view fits run (Some (record { op = Delete; key = k })) call
          ∙ ap (λ (n : ℕ). Some (record { pin = n; op = Delete; key = k })) (same_pin L fits run.events run.keys w k f)

  pub in_map : IsInMap L first m.view.stores k v
  in_map = record {
    slot = f.leaf;
    reached = reached_then L fits run.events run.keys w k f;
    leaf = leaf_then L fits run.events run.keys w k f;
    has_key = key_then L fits run.events run.keys w k f;
    has_value =
        value_stays L run.events m.view.stores (length first) f.leaf seen.held
        (nobody_holds L fits run.events run.keys w f.leaf (subst (λ (x : ℕ). 6 ≤ x) (sym same_slot) high)
        (subst (λ (x : ℕ). x ≤ L.nodes) (sym same_slot) within)
        f.before ((w, Flag f.parent f.side f.leaf) ∷ f.since) f.is_run
        (pinned_then L fits run.events run.keys w k f)
        (subst (λ (ts : List Turn). HasLeft w ts → ⊥) (sym (then_is L fits run.events run.keys w k f))
        (not_left L fits run.events run.keys w k f))
        (reached_then L fits run.events run.keys w k f))
        ∙ (ap (value_of m.view.stores) same_slot ∙ sym value);
  }

  pub stores_then : HoldsStores L first m.view.past m.view.stores
  stores_then = stores_in_turns m.view fits seen first
      (record { more = flag L fits run.events run.keys w k f ∷ rest L fits run.events run.keys w k f; is = past_is })

  -- by what is seen later
  pub taken_then : (now : List Turn) (stores : List Stored) → Extends now m.view.past
      → ExtendsStores stores m.view.stores → WasTaken L was now stores w k v
  unfolding in_map has
  taken_then now stores more extends = record {
    so_far = first;
    flag = flag L fits run.events run.keys w k f;
    rest = rest L fits run.events run.keys w k f ++ more.more;
    are = more.is ∙ (ap (λ (ts : List Turn). ts ++ more.more) past_is
        ∙ append_assoc first (flag L fits run.events run.keys w k f ∷ rest L fits run.events run.keys w k f) more.more);
    pin = pin_of L f.before w;
    later = later;
    call = called_then L fits run.events run.keys w k f;
    first = m.view.stores;
    extends = extends;
    is = in_map;
    stored = holds_longer L first m.view.past now m.view.stores more stores_then;
    won = record {
      parent = f.parent;
      side = f.side;
      is = ap (λ (n : NodeId). answered_turn w (Flag f.parent f.side f.leaf) (Flagged n))
          (named_then L fits run.events run.keys w k f);
    };
  }

pub has_taken : (o q : PassView) → HasSeen o.view → IsLayout o.view.layout → (search o).call ≡ None → (k v : ℕ)
    → HasReadFlagged o q k v → HasTaken o q k v
has_taken o q first_seen first_fits none' k v t =
    let m = t.at in
    let fits : IsLayout m.view.layout = subst (λ (s : PassView). IsLayout s.view.layout) (sym t.since.same)
    first_fits in
    let had : call_begun m.view.number o.view.past ≡ None = ap
    (λ (s : PassView). call_begun s.view.number o.view.past) t.since.same
    ∙ none_begun o first_seen first_fits none' in
    subst (λ (s : PassView). WasTaken s.view.layout o.view.past q.view.past q.view.stores s.view.number k v)
    (sym t.until.same)
    (taken_then o.view.past m fits t.seen k v t.leaf t.call t.flagged t.high t.within t.value t.since.past.goes_on
    had q.view.past q.view.stores t.until.past.goes_on t.until.stores)

-- the same by the result of a delete, which was pinned at a
pub if_taken : (o a q : PassView) (k v : ℕ) → HasSeen o.view → IsLayout o.view.layout → (search o).call ≡ None
    → Continues o a → (r : Result Deletion CallFault) → IfTaken r (HasReadFlagged a q k v)
    → IfTaken r (HasTaken o q k v)
if_taken o a q k v seen fits none' pinning (Ok (deletion.Done true)) t = has_taken o q seen fits none' k v
    (read_since o a q k v pinning t)
if_taken o a q k v seen fits none' pinning (Ok (deletion.Done false)) t = tt
if_taken o a q k v seen fits none' pinning (Err e) t = tt
if_taken o a q k v seen fits none' pinning (Ok (deletion.Pending n)) t = has_taken o q seen fits none' k v
    (read_since o a q k v pinning t)

-- ---- by the result

pub if_flagged : (P Q : Type 0) → (P → Q) → (i : Injected) → IfFlagged i P → IfFlagged i Q
if_flagged P Q f (injected.Flagged r b) h = f h
if_flagged P Q f injected.Absent h = tt
if_flagged P Q f injected.Lost h = tt
