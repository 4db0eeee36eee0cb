-- What holds of each slot to which the walks after a call's flag can go on, where it holds of each
-- slot that the call's search comes to now: each event that is in order keeps it.
use Rattle.std.proofs.Common.{◌≡◌, ℕ, false, List, sym, ap, subst, ◌∙◌, arith, get_or-set_same, get_or-set_other}
use Rattle.std.specs.Prelude.{Option, Some, slice_get}
use native.Mathlib.Decide.{ℕ_discrete}
use Rattle.nm_edge.specs.Keys.{IsKey}
use Rattle.nm_edge.specs.declared.node.NodeId.{NodeId}
use Rattle.nm_model.specs.declared.event.Field.{Field}
use Rattle.nm_model.specs.declared.event.Event.{Event}
use Rattle.nm_model.specs.declared.event.Event.TheVariants.{Look}
use Rattle.nm_model.specs.declared.arrivals.Call.{Call}
use Rattle.nm_model.specs.declared.arrivals.Arrival.{Arrival}
use Rattle.nm_model.specs.Memory.{Memory, child}
use Rattle.nm_model.specs.Knowledge.{knows}
use Rattle.nm_model.specs.Step.{write}
use Rattle.nm_model.specs.Runs.{State, of, reply_of, applied}
use Rattle.nm_model.specs.Searches.{Search, idle, searched, walked, look_for, later_walked}
use Rattle.nm_model.specs.Walks.{begins_anew}
use Rattle.nm_model.specs.Ordered.{search_of, learned_from}
use Rattle.nm_laws.proofs.Steps.{Allowed}
use Rattle.nm_laws.proofs.TreeSteps.{Lawful}
use Rattle.nm_order.specs.Intervals.{key}
use Rattle.nm_order.specs.Facts.Since.{TheFlag}
use Rattle.nm_order.proofs.TreeChanges.{tree_change}
use Rattle.nm_order.proofs.OrderedWalks.{WalkLaw}
use Rattle.nm_order.proofs.OrderedSteps.{OrderLaw}
use Rattle.nm_order.proofs.OnwardSlots.{EachOnward, EachNow}
use Rattle.nm_order.proofs.OrderedMoments.{Lasting, lasting, lasting_stays, call_walks, each_outlasts, look_each}
use Rattle.nm_order.proofs.CallWalks.{WalksKept, GoesOn, goes_on_so, look_writes_nothing}
use Rattle.nm_order.proofs.CallWalks.GoesOn.{Same, Looked}
use Rattle.nm_order.proofs.FlaggedNodes.{memory_is}

-- ---- any fact of each slot to which the walks after a flag have come

pub later_walks : (s : State) (ss : List Search) (u : ℕ) → WalksKept s ss u → (call : Call)
    → (search_of ss u).call ≡ Some call → IsKey call.key
    × WalkLaw s.layout.radix (child s.memory) (key s.memory) (knows (of s u)) call.key (search_of ss u).later
later_walks s ss u kept call is_call = call_walks s.layout.radix s.memory (knows (of s u)) (search_of ss u).call
    (search_of ss u).later call is_call (kept.law TheFlag)

module _ (s : State) (h : ℕ → ℕ) (law : Lawful s h) (w : ℕ) (ss : List Search) (l : OrderLaw s ss)
    (kept : (u : ℕ) → WalksKept s ss u) (e : Event) (ok : Allowed s w e)
    (u : ℕ) (call : Call) (is_call : (search_of ss u).call ≡ Some call) (n : NodeId)
    (is_flagged : (search_of ss u).flagged ≡ Some n) (Now : Memory → Type 0) (Each : Memory → ℕ → Type 0) where
  abbrev pub AllLater : State → List Arrival → Type 0
  AllLater s later = (i : ℕ) (a : Arrival) → slice_get later i ≡ Some a → Each s.memory a.slot

  module _ (still : AllLater (applied s w e) (search_of ss u).later)
      (looked : (x : ℕ) (f : Field) → WalkLaw s.layout.radix (child s.memory) (key s.memory) (knows (of s w))
      call.key (search_of ss u).later → Now s.memory
      → AllLater s (walked call.key (search_of ss u).later x f (reply_of s w (Look x f))))
      (now : Now (applied s w e).memory) where
    own : u ≡ w → begins_anew (e, reply_of s w e) ≡ false
        → AllLater (applied s w e) (searched (search_of ss u) e (reply_of s w e)).later
    own same stands = by (goes_on_so (search_of ss u) e (reply_of s w e) stands)
      where
        by : GoesOn (search_of ss u) e (reply_of s w e) (searched (search_of ss u) e (reply_of s w e))
            → AllLater (applied s w e) (searched (search_of ss u) e (reply_of s w e)).later
        by (Same calls before later) = subst (AllLater (applied s w e)) (sym later) still
        by (Looked x f is becomes) = subst (λ (S : Search). AllLater (applied s w e) S.later) (sym becomes)
            (on e is now)
          where
            added : Now s.memory → AllLater s (walked call.key (search_of ss u).later x f (reply_of s w (Look x f)))
            added now = subst (λ (v : ℕ). WalkLaw s.layout.radix (child s.memory) (key s.memory) (knows (of s v))
                call.key (search_of ss u).later → AllLater s
                (walked call.key (search_of ss u).later x f (reply_of s w (Look x f)))) (sym same)
                (λ law'. looked x f law' now) (later_walks s ss u (kept u) call is_call).1

            look : Now s.memory → AllLater s (look_for (search_of ss u) (search_of ss u).call x f
                (reply_of s w (Look x f))).later
            look now = subst (λ (o : Option Call). AllLater s
                (look_for (search_of ss u) o x f (reply_of s w (Look x f))).later) (sym is_call)
                (subst (λ (o : Option NodeId). AllLater s (later_walked o call.key (search_of ss u).later x f
                (reply_of s w (Look x f)))) (sym is_flagged) (added now))

            on : (e : Event) → e ≡ Look x f → Now (applied s w e).memory
                → AllLater (applied s w e) (look_for (search_of ss u) (search_of ss u).call x f (reply_of s w e)).later
            on e is = subst (λ (y : Event). Now (applied s w y).memory
                → AllLater (applied s w y) (look_for (search_of ss u) (search_of ss u).call x f
                (reply_of s w y)).later) (sym is)
                (λ now i a at. subst (λ (m : Memory). Each m a.slot) (sym (look_writes_nothing s w x f))
                (look (subst Now (look_writes_nothing s w x f) now) i a at))

    -- an event that is allowed, under a pin that stands
    pub later_each : (u ≡ w → begins_anew (e, reply_of s w e) ≡ false)
        → AllLater (applied s w e) (search_of (learned_from ss w e (reply_of s w e)) u).later
    later_each stands = elim (ℕ_discrete u w) [
      | yes same ↦ subst (λ (S : Search). AllLater (applied s w e) S.later) (sym (mine same)) (own same (stands same))
      | no ne ↦ subst (λ (S : Search). AllLater (applied s w e) S.later)
          (sym (get_or-set_other ss w u (searched (search_of ss w) e (reply_of s w e)) idle ne)) still
    ]
      where
        mine : u ≡ w → search_of (learned_from ss w e (reply_of s w e)) u ≡ searched (search_of ss u) e (reply_of s w e)
        mine same = ap (search_of (learned_from ss w e (reply_of s w e))) same
            ∙ (get_or-set_same ss w (searched (search_of ss w) e (reply_of s w e)) idle
            (let size = l.sized in let lt = ok.worker in omega arith)
            ∙ ap (λ (v : ℕ). searched (search_of ss v) e (reply_of s w e)) (sym same))

-- ---- a fact of each slot to which they can go on

module _ (s : State) (search : s.layout.radix ≡ false) (h : ℕ → ℕ) (law : Lawful s h) (w : ℕ) (ss : List Search)
    (l : OrderLaw s ss) (kept : (u : ℕ) → WalksKept s ss u) (e : Event) (ok : Allowed s w e)
    (u : ℕ) (call : Call) (is_call : (search_of ss u).call ≡ Some call) (n : NodeId)
    (is_flagged : (search_of ss u).flagged ≡ Some n) (W : ℕ → Lasting → Type 0) where
  -- of each slot to which these walks can go on
  abbrev pub AllOnward : State → List Arrival → Type 0
  AllOnward s later = (i : ℕ) (a : Arrival) → slice_get later i ≡ Some a
      → EachOnward (child s.memory) (key s.memory) (lasting s.memory) call.key W a.slot

  pub later_onward : EachNow (child (applied s w e).memory) (key (applied s w e).memory)
      (lasting (applied s w e).memory) call.key W → AllOnward s (search_of ss u).later
      → (u ≡ w → begins_anew (e, reply_of s w e) ≡ false)
      → AllOnward (applied s w e) (search_of (learned_from ss w e (reply_of s w e)) u).later
  later_onward now was = later_each s h law w ss l kept e ok u call is_call n is_flagged
      (λ m. EachNow (child m) (key m) (lasting m) call.key W)
      (λ m x. EachOnward (child m) (key m) (lasting m) call.key W x) still
      (λ x f law' now. look_each s h law w call.key (search_of ss u).later x f walks.0 l.fixed law' W now was) now
    where
      walks : IsKey call.key × WalkLaw s.layout.radix (child s.memory) (key s.memory) (knows (of s u)) call.key
          (search_of ss u).later
      walks = later_walks s ss u (kept u) call is_call

      still : AllOnward (applied s w e) (search_of ss u).later
      still i a at = subst (λ (m : Memory). EachOnward (child m) (key m) (lasting m) call.key W a.slot)
          (sym (memory_is s h law w e ok))
          (each_outlasts s h law w e (write s.memory (of s w) w e) (λ x free. lasting_stays s h law w e ok x free) u
          a.slot (walks.1.is_known i a at) call.key (walks.1.onward search i a at) W W (λ y t holds. holds)
          (subst (λ (m : Memory). EachNow (child m) (key m) (lasting m) call.key W) (memory_is s h law w e ok) now)
          (tree_change s h law w e ok) (was i a at))
