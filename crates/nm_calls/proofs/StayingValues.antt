-- A value that was read under a pin stays that of its leaf, as long as its worker takes no step.
use Rattle.std.proofs.Common.{◌≡◌, inl, ℕ, ◌≤◌, List, [], ◌++◌, append_assoc, drop, length, sym, ap, subst, ◌∙◌}
use Rattle.std.specs.Prelude.{All}
use Rattle.nm_edge.specs.Keys.{IsKey}
use Rattle.nm_edge.specs.Layouts.{Layout, IsLayout}
use Rattle.nm_model.specs.declared.event.Event.{Event}
use Rattle.nm_model.specs.declared.trace.Turn.{Turn}
use Rattle.nm_model.specs.Headline.{HasLeft, IsPinned, words_after}
use Rattle.nm_model.specs.Ordered.{HasKey, after_in, ordered, trace_in}
use Rattle.nm_model.specs.Paths.{Reached}
use Rattle.nm_model.specs.Walks.{Entry, WalkEnds, since_pin}
use Rattle.nm_order.specs.Logs.{part_of}
use Rattle.nm_theorem.proofs.Runs.{Parts, parts_of}
use Rattle.nm_steps.specs.declared.view.Stored.{Stored}
use Rattle.nm_steps.specs.Rules.{Extends, ExtendsStores, WereHeld, value_of}
use Rattle.nm_steps.specs.Steps.{IsSamePass, PassView}
use Rattle.nm_steps.specs.Values.{HasSeenStores}
use Rattle.nm_steps.proofs.ValueStays.{NobodyHolds, value_stays}
use Rattle.nm_calls.specs.Maps.{HasReadLater, HasReadValue, HoldsStores, IsInMap}
use Rattle.nm_calls.proofs.MapMoments.{ReadAt, holds_longer, nobody_holds, read_in_run}
use Rattle.nm_calls.proofs.MoreStores.{same_by_more}
use Rattle.nm_calls.proofs.StoresInTurns.{stores_in_turns}
use Rattle.nm_calls.proofs.UnderPins.{stays_longer}

-- a leaf was reached while the worker was pinned, as it still is: its value then is the one that was
-- stored last for it, by all stores that are seen later
module _ (L : Layout) (fits : IsLayout L) (events : List (ℕ × Event)) (keys : All (λ t. HasKey t.1) events) (w : ℕ)
    (first_turns rest : List Turn) (whole : trace_in (ordered L) events ≡ first_turns ++ rest)
    (pinned : IsPinned w first_turns) (stays : HasLeft w rest → ⊥) where
  pub value_by_later : (first stores : List Stored) → HoldsStores L first_turns (trace_in (ordered L) events) first
      → ExtendsStores stores first → HoldsStores L first_turns (trace_in (ordered L) events) stores
      → WereHeld L events stores → (k v : ℕ) → (i : IsInMap L first_turns first k v) → 6 ≤ i.slot → i.slot ≤ L.nodes
      → v ≡ value_of stores i.slot
  value_by_later first stores holds on later held k v i high within =
      sym i.has_value
      ∙ (sym (same_by_more L fits events keys first_turns rest whole i.slot i.reached i.leaf
      (inl high) first stores holds on first_turns later)
      ∙ value_stays L events stores (length first_turns) i.slot held nobody)
    where
      p : Parts (ordered L) events first_turns rest
      p = parts_of (ordered L) events first_turns rest whole

      nobody : NobodyHolds L events (length first_turns) i.slot
      nobody = subst (λ (ts : List Turn). NobodyHolds L events (length ts) i.slot) (sym p.first_is)
          (nobody_holds L fits events keys w i.slot high within p.early p.late p.all
          (subst (IsPinned w) p.first_is pinned)
          (λ left. stays (subst (HasLeft w) (sym p.rest_is) left))
          (subst (λ (ts : List Turn). Reached (words_after L ts) i.slot) p.first_is i.reached))

-- what was read at m is so at q
module _ (m q : PassView) (fits : IsLayout m.view.layout) (same : IsSamePass m q)
    (past : Extends q.view.past m.view.past) (stores : ExtendsStores q.view.stores m.view.stores)
    (log : q.view.log ≡ m.view.log) (seen : HasSeenStores q.view) where
  abbrev L : Layout
  L = m.view.layout

  abbrev w : ℕ
  w = m.view.number

  abbrev there : HasSeenStores (record m.view { log = q.view.log; past = q.view.past; stores = q.view.stores })
  there = subst (λ (s : PassView). HasSeenStores s.view) same seen

  module _ (k v : ℕ) (is_key : IsKey k) (r : HasReadValue m k v) where
    at : ReadAt m [] r.seen.run.events k v r.slot
    at = read_in_run m fits k is_key v r

    abbrev first_turns : List Turn
    first_turns = trace_in (ordered L) at.before

    abbrev rest : List Turn
    rest = trace_in (after_in (ordered L) at.before) at.since

    past_is : q.view.past ≡ first_turns ++ (rest ++ past.more)
    past_is = past.is ∙ (ap (λ (l : List Turn). l ++ past.more) at.are ∙ append_assoc first_turns rest past.more)

    whole : trace_in (ordered L) there.run.events ≡ first_turns ++ (rest ++ past.more)
    whole = sym there.run.are ∙ past_is

    -- the worker has made no turn since
    quiet : length (part_of w (m.view.past ++ past.more)) ≡ length (part_of w m.view.past)
    quiet = ap (λ (ts : List Turn). length (part_of w ts)) (sym past.is)
        ∙ ap length (there.run.is_part ∙ (log ∙ sym r.seen.run.is_part))

    holds : HoldsStores L first_turns (trace_in (ordered L) there.run.events) m.view.stores
    holds = subst (λ (ts : List Turn). HoldsStores L first_turns ts m.view.stores) there.run.are
        (holds_longer L first_turns m.view.past q.view.past m.view.stores past at.stored)

    later : HoldsStores L first_turns (trace_in (ordered L) there.run.events) q.view.stores
    later = subst (λ (ts : List Turn). HoldsStores L first_turns ts q.view.stores) there.run.are
        (stores_in_turns (record m.view { log = q.view.log; past = q.view.past; stores = q.view.stores }) fits there
        first_turns (record { more = rest ++ past.more; is = past_is }))

    pub value_still : HasReadValue q k v
    value_still = record {
      slot = r.slot;
      parent = r.parent;
      side = r.side;
      walk = subst (λ (l : List Entry). WalkEnds k (since_pin [] l) r.slot r.parent r.side k) (sym log) r.walk;
      high = r.high;
      within = subst (λ (s : PassView). r.slot ≤ s.view.layout.nodes) (sym same) r.within;
      seen = seen;
      value =
          value_by_later L fits there.run.events there.run.keys w first_turns (rest ++ past.more) whole at.pinned
          (stays_longer w m.view.past past.more rest quiet at.stays)
          m.view.stores q.view.stores holds stores later there.held k v at.in_map
          (subst (λ (x : ℕ). 6 ≤ x) (sym at.slot_is) r.high)
          (subst (λ (x : ℕ). x ≤ L.nodes) (sym at.slot_is) r.within)
          ∙ ap (value_of q.view.stores) at.slot_is;
    }

  -- and so is its walk, whatever its looks came after
  pub value_still_later : (n k v : ℕ) → IsKey k → HasReadLater n m k v → HasReadLater n q k v
  unfolding value_still
  value_still_later n k v is_key r = record {
    read = value_still k v is_key r.read;
    walk = subst (λ (l : List Entry). WalkEnds k (since_pin [] (drop n l)) r.read.slot r.read.parent r.read.side k)
        (sym log) r.walk;
  }
