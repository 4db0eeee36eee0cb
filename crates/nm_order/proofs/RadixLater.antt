-- In a radix tree, what holds of each slot to which the walks after a call's flag can go on by nodes
-- in whose range the key is, where it holds of each slot that the call's search comes to now and says
-- that its range has the key: each event that is in order keeps it.
use Rattle.std.proofs.Common.{◌≡◌, ◌≢◌, ℕ, ◌≤◌, true, false, List, [], ◌∷◌, sym, ap, subst, ◌∙◌, arith}
use Rattle.std.specs.Prelude.{Some, slice_get}
use Rattle.nm_edge.specs.Keys.{IsKey}
use Rattle.nm_edge.specs.Ranges.{covers}
use Rattle.nm_edge.specs.declared.edge.Side.{Side}
use Rattle.nm_edge.specs.declared.node.NodeId.{NodeId}
use Rattle.nm_model.specs.declared.event.Field.{Field}
use Rattle.nm_model.specs.declared.event.Event.{Event}
use Rattle.nm_model.specs.declared.event.Event.TheVariants.{Look}
use Rattle.nm_model.specs.declared.arrivals.Call.{Call}
use Rattle.nm_model.specs.declared.arrivals.Arrival.{Arrival}
use Rattle.nm_model.specs.Memory.{Memory, child}
use Rattle.nm_model.specs.Knowledge.{knows}
use Rattle.nm_model.specs.Paths.{follow}
use Rattle.nm_model.specs.Step.{write}
use Rattle.nm_model.specs.Runs.{State, of, reply_of, applied}
use Rattle.nm_model.specs.Searches.{Search, walked, side_of}
use Rattle.nm_model.specs.Walks.{begins_anew}
use Rattle.nm_model.specs.Ordered.{search_of, learned_from}
use Rattle.nm_laws.proofs.Steps.{Allowed}
use Rattle.nm_laws.proofs.Trees.{follow_none}
use Rattle.nm_laws.proofs.TreeSteps.{Lawful}
use Rattle.nm_order.specs.Intervals.{key}
use Rattle.nm_order.proofs.TreeChanges.{tree_change}
use Rattle.nm_order.proofs.OrderedWalks.{WalkLaw}
use Rattle.nm_order.proofs.OrderedSteps.{OrderLaw}
use Rattle.nm_order.proofs.OnwardSlots.{EachNow}
use Rattle.nm_order.proofs.OrderedMoments.{Lasting, lasting, lasting_stays, look_adds}
use Rattle.nm_order.proofs.RadixTrees.{Nests}
use Rattle.nm_order.proofs.RadixWays.{EachIn, Rooted}
use Rattle.nm_order.proofs.RadixMoments.{rooted, each_in_outlasts, first_in}
use Rattle.nm_order.proofs.CallWalks.{WalksKept}
use Rattle.nm_order.proofs.FlaggedNodes.{memory_is}
use Rattle.nm_order.proofs.StaleWalks.{not_leaf}
use Rattle.nm_order.proofs.LaterOnward.{later_walks, later_each}

-- ---- a look

module _ (s : State) (h : ℕ → ℕ) (law : Lawful s h) (w : ℕ) (r : Rooted (child s.memory) (key s.memory)) where
  look_in : (k : ℕ) (ws : List Arrival) (x : ℕ) (f : Field) → IsKey k
      → WalkLaw s.layout.radix (child s.memory) (key s.memory) (knows (of s w)) k ws → (W : ℕ → Lasting → Type 0)
      → ((y : ℕ) (t : Lasting) → W y t → t.leaf ≡ false → 6 ≤ y → covers t.key k ≡ true)
      → EachNow (child s.memory) (key s.memory) (lasting s.memory) k W
      → ((i : ℕ) (a : Arrival) → slice_get ws i ≡ Some a
      → EachIn (child s.memory) (key s.memory) (lasting s.memory) k W a.slot)
      → (i : ℕ) (a : Arrival) → slice_get (walked k ws x f (reply_of s w (Look x f))) i ≡ Some a
      → EachIn (child s.memory) (key s.memory) (lasting s.memory) k W a.slot
  look_in k ws x f small walks W has now = look_adds s h law w
      (EachIn (child s.memory) (key s.memory) (lasting s.memory) k W) k ws x f walks
      (first_in s.memory r k (omega (arith, small)) W (Unit {0}) now) on
    where
      on : (d : Side) → knows (of s w) x ≡ true → EachIn (child s.memory) (key s.memory) (lasting s.memory) k W x
          → side_of k (key s.memory x) ≡ d → EachIn (child s.memory) (key s.memory) (lasting s.memory) k W
          (child s.memory x d)
      on d known at_x turn q goes covered some = at_x (d ∷ q) (turn, goes)
          ((λ up. has x (lasting s.memory x) (at_x [] tt tt slot_there) (not_leaf s.memory x d there) up), covered) some
        where
          there : child s.memory x d ≢ 0
          there z = some (ap (λ (y : ℕ). follow (child s.memory) y q) z ∙ follow_none (child s.memory) r.nothing q)

          slot_there : x ≢ 0
          slot_there z = let range = law.tree.known w x known in omega (arith, range, z)

-- ---- an event

module _ (s : State) (radix : s.layout.radix ≡ true) (h : ℕ → ℕ) (law : Lawful s h) (w : ℕ) (ss : List Search)
    (l : OrderLaw s ss) (kept : (u : ℕ) → WalksKept s ss u) (e : Event) (ok : Allowed s w e)
    (after : Nests (child (write s.memory (of s w) w e)) (key (write s.memory (of s w) w e)))
    (u : ℕ) (call : Call) (is_call : (search_of ss u).call ≡ Some call) (n : NodeId)
    (is_flagged : (search_of ss u).flagged ≡ Some n) (W : ℕ → Lasting → Type 0)
    (has : (y : ℕ) (t : Lasting) → W y t → t.leaf ≡ false → 6 ≤ y → covers t.key call.key ≡ true) where
  -- of each slot to which these walks can go on
  abbrev pub AllIn : State → List Arrival → Type 0
  AllIn s later = (i : ℕ) (a : Arrival) → slice_get later i ≡ Some a
      → EachIn (child s.memory) (key s.memory) (lasting s.memory) call.key W a.slot

  pub later_in : EachNow (child (applied s w e).memory) (key (applied s w e).memory) (lasting (applied s w e).memory)
      call.key W → AllIn s (search_of ss u).later
      → (u ≡ w → begins_anew (e, reply_of s w e) ≡ false)
      → AllIn (applied s w e) (search_of (learned_from ss w e (reply_of s w e)) u).later
  later_in now was = later_each s h law w ss l kept e ok u call is_call n is_flagged
      (λ m. EachNow (child m) (key m) (lasting m) call.key W)
      (λ m x. EachIn (child m) (key m) (lasting m) call.key W x) still
      (λ x f law' now. look_in s h law w root call.key (search_of ss u).later x f walks.0 law' W has now was) now
    where
      root : Rooted (child s.memory) (key s.memory)
      root = rooted s h law l.fixed l.order (l.nested radix)

      walks : IsKey call.key × WalkLaw s.layout.radix (child s.memory) (key s.memory) (knows (of s u)) call.key
          (search_of ss u).later
      walks = later_walks s ss u (kept u) call is_call

      still : AllIn (applied s w e) (search_of ss u).later
      still i a at = let small = walks.0 in
          subst (λ (m : Memory). EachIn (child m) (key m) (lasting m) call.key W a.slot)
          (sym (memory_is s h law w e ok))
          (each_in_outlasts s h law w root e (write s.memory (of s w) w e) after
          (λ x free. lasting_stays s h law w e ok x free) u a.slot (walks.1.is_known i a at) call.key
          (omega (arith, small)) W W (λ y t holds. holds)
          (subst (λ (m : Memory). EachNow (child m) (key m) (lasting m) call.key W) (memory_is s h law w e ok) now)
          (tree_change s h law w e ok) (was i a at))
