-- What holds of each slot to which the walks for a key came in a worker's log, call or none: each
-- event that is in order keeps it, and a look that takes a walk on gives it to the slot to which it
-- leads.
use Rattle.std.proofs.Common.{◌≡◌, ◌≢◌, ℕ, ◌<◌, ◌≤◌, ◌+◌, ◌*◌, ◌==◌, ◌&&◌, inl, inr, Bool, true, false, List, [], ◌∷◌, ◌++◌, append_assoc, length, refl, sym, ap, subst, ◌∙◌, arith, true≢false, ◌⊎◌, zero, suc}
use Rattle.std.specs.Prelude.{None, Contains}
use Rattle.std.proofs.lemmas.Bool.{eqb-true, eqb-false, and_parts, false_from_ne_true}
use Rattle.std.proofs.lemmas.List.{length-append}
use Rattle.std.proofs.lemmas.List.Elements.{Contains-append_left, Contains-append_right, Contains-append_cases}
use Rattle.nm_edge.specs.Edges.{Edge}
use Rattle.nm_edge.specs.Ranges.{covers}
use Rattle.nm_edge.specs.declared.edge.Side.{Side}
use Rattle.nm_edge.specs.declared.edge.Side.TheVariants.{Left, Right}
use Rattle.nm_model.specs.declared.event.Field.TheVariants.{Key, Edge as EdgeOn}
use Rattle.nm_model.specs.declared.event.Event.{Event}
use Rattle.nm_model.specs.declared.event.Event.TheVariants.{Look}
use Rattle.nm_model.specs.declared.reply.Reply.TheVariants.{KeyIs, EdgeIs}
use Rattle.nm_model.specs.Memory.{Memory, node, edge, child, is_leaf, infinity_1}
use Rattle.nm_model.specs.Knowledge.{Knowledge, knows, is_private, knows_leaf}
use Rattle.nm_model.specs.Step.{reply, write}
use Rattle.nm_model.specs.Runs.{State, of, reply_of, applied}
use Rattle.nm_model.specs.Lawful.{EachBirthStands}
use Rattle.nm_model.specs.Searches.{Search, side_of}
use Rattle.nm_model.specs.Walks.{Entry, IsPart, Leads, WalkComes, WalkReads, WalkEnds}
use Rattle.nm_model.specs.Walks.Leads.{begins, leads_on}
use Rattle.nm_model.specs.Ordered.{search_of, disorder}
use Rattle.nm_order.specs.Intervals.{key}
use Rattle.nm_order.specs.Ranges.{StandsFor, WalkPasses}
use Rattle.nm_order.specs.RadixPaths.{InRanges}
use Rattle.nm_laws.proofs.Steps.{Allowed}
use Rattle.nm_laws.proofs.TreeSteps.{Lawful}
use Rattle.nm_order.proofs.OrderedTrees.{InOrder, Onward}
use Rattle.nm_order.proofs.RadixTrees.{Nests, RadixLaw}
use Rattle.nm_order.proofs.RadixWays.{Rooted, NestsFrom, EachIn}
use Rattle.nm_order.proofs.RangesOfKeys.{bits}
use Rattle.nm_order.proofs.RadixDepths.{under_bits, first_bits}
use Rattle.nm_order.proofs.RadixMoments.{RadixWay, weaker_way, rooted, each_in_outlasts, stood, radix_way_outlasts, first_in, radix_first, radix_next}
use Rattle.nm_order.proofs.TreeChanges.{tree_change}
use Rattle.nm_order.proofs.OrderedChanges.{FixedKeys, first_onward, off_known, Outlasts, outlasts}
use Rattle.nm_order.proofs.OrderedSteps.{OrderLaw, asks_order, radix_step, knows_after, looked_known, known_not_private, low_not_private}
use Rattle.nm_order.proofs.OnwardSlots.{EachOnward, EachNow}
use Rattle.nm_order.proofs.BelowSlots.{EachBelow, below_outlasts, first_below}
use Rattle.nm_order.proofs.OrderedMoments.{Lasting, lasting, lasting_stays, each_outlasts, first_each}
use Rattle.nm_order.proofs.KnowledgeStays.{Stays, leaf_stays}
use Rattle.nm_order.proofs.CallWalks.{own_knows, null_looked}
use Rattle.nm_order.proofs.LogParts.{part_grows, part_itself, part_within, part_ends}
use Rattle.nm_order.proofs.WalksAfter.{nothing_comes}

-- a worker knows the slot, and R holds of each slot below it, with what lasts of them. But in a radix
-- tree, a search for k that goes on from it keeps to its place, and comes only to slots of which W
-- holds. In a radix tree it does so by nodes in whose range k is, and behind the first other one N
-- holds
pub record IsOnWay (s : State) (u k : ℕ) (W R : ℕ → Lasting → Type 0) (N : Type 0) (x : ℕ) : Type 0 where
  pub known : knows (of s u) x ≡ true
  pub below : EachBelow (child s.memory) (lasting s.memory) R x
  pub onward : s.layout.radix ≡ false → k < infinity_1 → Onward (child s.memory) (key s.memory) k x
  pub each : s.layout.radix ≡ false → k < infinity_1
      → EachOnward (child s.memory) (key s.memory) (lasting s.memory) k W x
  pub radix : s.layout.radix ≡ true → k < infinity_1 → RadixWay s.memory k W N x

-- in a radix tree, by how many looks a walk has come to a slot, where each internal node's lowest bit
-- is lower
pub record IsShort (m : Memory) (x n : ℕ) : Type 0 where
  pub most : n ≤ 129
  pub inner : is_leaf (node m x) ≡ false → (6 ≤ x) × (n + 2 * bits 64 (key m x) ≤ 127)

-- so it is of each slot to which a walk for k came in the log, the keys that these walks read are
-- those of their slots, and where one ended its worker knows a leaf. In a radix tree they went on
-- from routers alone; where each of these has k in its range, W holds of what a search comes to, and
-- where one has not, the slot does not stand for k
pub record HoldsOfWalks (s : State) (u k : ℕ) (W R : ℕ → Lasting → Type 0) (N : Type 0) (log : List Entry) : Type
    0 where
  pub comes : (slot parent : ℕ) (side : Side) → WalkComes k log slot parent side → IsOnWay s u k W R N slot
  pub reads : (slot parent : ℕ) (side : Side) (v : ℕ) → WalkReads k log slot parent side v → key s.memory slot ≡ v
  pub ends : (slot parent : ℕ) (side : Side) (v : ℕ) → WalkEnds k log slot parent side v
      → knows_leaf (of s u) slot ≡ true
  pub short : s.layout.radix ≡ true → k < infinity_1
      → (slot parent : ℕ) (side : Side) (r : WalkComes k log slot parent side) → IsShort s.memory slot (length r.looks)
  pub passes : s.layout.radix ≡ true → k < infinity_1 → (slot parent : ℕ) (side : Side) (v : ℕ)
      → WalkPasses k log slot parent side v → (6 ≤ slot) × (covers v v ≡ true) × (is_leaf (node s.memory slot) ≡ false)
  pub ranges : s.layout.radix ≡ true → k < infinity_1
      → (slot parent : ℕ) (side : Side) (r : WalkComes k log slot parent side) → InRanges k r.looks
      → EachIn (child s.memory) (key s.memory) (lasting s.memory) k W slot
  pub apart : s.layout.radix ≡ true → k < infinity_1
      → (slot parent : ℕ) (side : Side) (r : WalkComes k log slot parent side) (x n : ℕ)
      → Contains r.looks (Look x Key, KeyIs n) → covers n k ≡ false
      → StandsFor (child s.memory) (key s.memory) slot k → ⊥

-- a walk that read a key at a slot came to it, and so did one that went on from there
came : (k : ℕ) (log : List Entry) (slot parent : ℕ) (side : Side) (v : ℕ) → WalkReads k log slot parent side v
    → WalkComes k log slot parent side
came k log slot parent side v r = record {
  looks = r.looks;
  leads = r.leads;
  is_part = part_within r.is_part r.looks
      (part_grows ((Look slot Key, KeyIs v) ∷ []) (part_itself r.looks));
}

abbrev pub passed : (k : ℕ) (log : List Entry) (slot parent : ℕ) (side : Side) (v : ℕ)
    → WalkPasses k log slot parent side v → WalkComes k log slot parent side
passed k log slot parent side v r = record {
  looks = r.looks;
  leads = r.leads;
  is_part = part_within r.is_part r.looks (part_grows
      ((Look slot Key, KeyIs v) ∷ (Look slot (EdgeOn (side_of k v)), EdgeIs r.next) ∷ []) (part_itself r.looks));
}

pub read_there : (k : ℕ) (log : List Entry) (slot parent : ℕ) (side : Side) (v : ℕ)
    → WalkPasses k log slot parent side v → WalkReads k log slot parent side v
read_there k log slot parent side v r = record {
  looks = r.looks;
  leads = r.leads;
  is_part = part_within r.is_part (r.looks ++ (Look slot Key, KeyIs v) ∷ [])
      (subst (λ (l : List Entry). IsPart (r.looks ++ (Look slot Key, KeyIs v) ∷ []) l)
      (append_assoc r.looks ((Look slot Key, KeyIs v) ∷ []) ((Look slot (EdgeOn (side_of k v)), EdgeIs r.next) ∷ []))
      (part_grows ((Look slot (EdgeOn (side_of k v)), EdgeIs r.next) ∷ [])
      (part_itself (r.looks ++ (Look slot Key, KeyIs v) ∷ []))));
}

-- in an empty log there are none
pub of_no_walks : (s : State) (u k : ℕ) (W R : ℕ → Lasting → Type 0) (N : Type 0) → HoldsOfWalks s u k W R N []
of_no_walks s u k W R N = record {
  comes = λ slot parent side r. let none = (nothing_comes k).comes slot parent side r in let below = none.there.1 in
      absurd (omega (arith, below));
  reads = λ slot parent side v r. let none = (nothing_comes k).reads slot parent side v r in
      let below = none.there.1 in absurd (omega (arith, below));
  ends = λ slot parent side v r. let none = (nothing_comes k).ends slot parent side v r in
      let below = none.there.1 in absurd (omega (arith, below));
  short = λ radix small slot parent side r. let none = (nothing_comes k).comes slot parent side r in
      let below = none.there.1 in absurd (omega (arith, below));
  passes = λ radix small slot parent side v r.
      let none = (nothing_comes k).comes slot parent side (passed k [] slot parent side v r) in
      let below = none.there.1 in absurd (omega (arith, below));
  ranges = λ radix small slot parent side r. let none = (nothing_comes k).comes slot parent side r in
      let below = none.there.1 in absurd (omega (arith, below));
  apart = λ radix small slot parent side r. let none = (nothing_comes k).comes slot parent side r in
      let below = none.there.1 in absurd (omega (arith, below));
}

-- what holds of the slots may be less
pub weaker : (s : State) (u k : ℕ) (W W' R R' : ℕ → Lasting → Type 0) (N N' : Type 0)
    → ((y : ℕ) (n : Lasting) → W y n → W' y n) → ((y : ℕ) (n : Lasting) → R y n → R' y n) → (N → N')
    → (log : List Entry) → HoldsOfWalks s u k W R N log → HoldsOfWalks s u k W' R' N' log
weaker s u k W W' R R' N N' grows too more log holds = record {
  comes = λ slot parent side r. less slot (holds.comes slot parent side r);
  reads = holds.reads;
  ends = holds.ends;
  short = holds.short;
  passes = holds.passes;
  ranges = λ radix small slot parent side r has q goes covered some. grows _ _
      (holds.ranges radix small slot parent side r has q goes covered some);
  apart = holds.apart;
}
  where
    less : (x : ℕ) → IsOnWay s u k W R N x → IsOnWay s u k W' R' N' x
    less x way = record {
      known = way.known;
      below = λ q some. too _ _ (way.below q some);
      onward = way.onward;
      each = λ search small q goes some. grows _ _ (way.each search small q goes some);
      radix = λ radix small.
          weaker_way s.memory k W W' N N' grows more x (way.radix radix small);
    }

-- ---- an event

module _ (s : State) (h : ℕ → ℕ) (law : Lawful s h) (w : ℕ) (births : EachBirthStands s) (ss : List Search)
    (l : OrderLaw s ss) (e : Event) (ok : Allowed s w e)
    (in_order : disorder s.layout (of s w) (search_of ss w) e ≡ None) where
  outlast : Outlasts s h law (write s.memory (of s w) w e)
  outlast = outlasts s h law w e (write s.memory (of s w) w e) l.order
      (asks_order s h law w births l.order l.nested e (search_of ss w) in_order l.fixed (l.walks w))
      (tree_change s h law w e ok)

  root : s.layout.radix ≡ true → Rooted (child s.memory) (key s.memory)
  root radix = rooted s h law l.fixed l.order (l.nested radix)

  nests_after : s.layout.radix ≡ true → Nests (child (write s.memory (of s w) w e)) (key (write s.memory (of s w) w e))
  nests_after radix = (radix_step s h law w births e ok (search_of ss w) in_order l.order l.fixed (l.walks w) radix
      (l.nested radix)).nests

  module _ (u k : ℕ) (stays : Stays s.memory (of s u) (of (applied s w e) u)) (W W' R R' : ℕ → Lasting → Type 0)
      (N N' : Type 0) (grows : (y : ℕ) (n : Lasting) → W y n → W' y n) (too : (y : ℕ) (n : Lasting) → R y n → R' y n)
      (more : N → N')
      (now : (x : ℕ) → knows (of (applied s w e) u) x ≡ true
      → EachNow (child (applied s w e).memory) (key (applied s w e).memory) (lasting (applied s w e).memory) k W')
      (below : (x : ℕ) → knows (of (applied s w e) u) x ≡ true
      → EachBelow (child (applied s w e).memory) (lasting (applied s w e).memory) R' 1) where
    way_lasts : (x : ℕ) → IsOnWay s u k W R N x → IsOnWay (applied s w e) u k W' R' N' x
    unfolding applied
    way_lasts x way = record {
      known = stays.known x way.known;
      below = below_outlasts s h law w e (write s.memory (of s w) w e) (lasting_stays s h law w e ok) u x way.known R
          R' too (below x (stays.known x way.known)) (tree_change s h law w e ok) way.below;
      onward = λ search small. outlast.onward search u x k way.known (way.onward search small);
      each = λ search small. each_outlasts s h law w e (write s.memory (of s w) w e) (lasting_stays s h law w e ok) u
          x way.known k (way.onward search small) W W' grows (now x (stays.known x way.known))
          (tree_change s h law w e ok) (way.each search small);
      radix = λ radix small. radix_way_outlasts s h law w (root radix) e (write s.memory (of s w) w e)
          (nests_after radix) (lasting_stays s h law w e ok) u x way.known k small W W' grows
          (now x (stays.known x way.known)) N N' more (tree_change s h law w e ok) (way.radix radix small);
    }

    -- what holds of the walks in a log outlasts an event by which their worker knows no less
    pub walks_outlast : (log : List Entry) → HoldsOfWalks s u k W R N log
        → HoldsOfWalks (applied s w e) u k W' R' N' log
    unfolding applied
    walks_outlast log holds = record {
      comes = λ slot parent side r. way_lasts slot (holds.comes slot parent side r);
      reads = λ slot parent side v r. outlast.keys u slot
          (holds.comes slot parent side (came k log slot parent side v r)).known ∙ holds.reads slot parent side v r;
      ends = λ slot parent side v r. leaf_stays s.memory (of s u) (of (applied s w e) u) (law.tree.null_read u) stays
          slot (holds.ends slot parent side v r);
      short = λ radix small slot parent side r. short_still slot (length r.looks)
          (holds.comes slot parent side r).known (holds.short radix small slot parent side r);
      passes = λ radix small slot parent side v r. (
          let was = holds.passes radix small slot parent side v r in (
            was.0,
            was.1,
            ap (λ (t : Lasting). t.leaf) (lasts slot
                (holds.comes slot parent side (passed k log slot parent side v r)).known) ∙ was.2,
          )
          );
      ranges = λ radix small slot parent side r has. (
          let known = (holds.comes slot parent side r).known in
          each_in_outlasts s h law w (root radix) e (write s.memory (of s w) w e) (nests_after radix)
          (lasting_stays s h law w e ok) u slot known k small W W' grows (now slot (stays.known slot known))
          (tree_change s h law w e ok) (holds.ranges radix small slot parent side r has)
          );
      apart = λ radix small slot parent side r x n there out stands. (
          let known = (holds.comes slot parent side r).known in
          holds.apart radix small slot parent side r x n there out
          (stood s h law w (root radix) e (write s.memory (of s w) w e) (nests_after radix)
          (lasting_stays s h law w e ok) u slot known k small W W' grows (now slot (stays.known slot known))
          (tree_change s h law w e ok) stands)
          );
    }
      where
        lasts : (x : ℕ) → knows (of s u) x ≡ true → lasting (write s.memory (of s w) w e) x ≡ lasting s.memory x
        lasts x known = lasting_stays s h law w e ok x (λ own. off_known s h law u x w x known own [] refl)

        short_still : (x n : ℕ) → knows (of s u) x ≡ true → IsShort s.memory x n
            → IsShort (write s.memory (of s w) w e) x n
        short_still x n known short = record {
          most = short.most;
          inner = λ is. rw (ap (λ (t : Lasting). t.key) (lasts x known))
              (short.inner (sym (ap (λ (t : Lasting). t.leaf) (lasts x known)) ∙ is));
        }

-- ---- a look

-- what an entry tells of a state, where it is a look that a walk may take: its edge leads there,
-- which the worker then knows, or is null, by which it knows a leaf; and its key is that
record IsTold (t : State) (u : ℕ) (shared known : ℕ → Type 0) (e : Entry) : Type 0 where
  edge : (x : ℕ) (d : Side) (n : Edge) → (Look x (EdgeOn d), EdgeIs n) ≡ e → child t.memory x d ≡ n.slot
  met : (x : ℕ) (d : Side) (n : Edge) → (Look x (EdgeOn d), EdgeIs n) ≡ e → shared x → n.slot ≢ 0
      → knows (of t u) n.slot ≡ true
  null : (x : ℕ) (d : Side) (n : Edge) → (Look x (EdgeOn d), EdgeIs n) ≡ e → known x → n.slot ≡ 0
      → knows_leaf (of t u) x ≡ true
  key : (x v : ℕ) → (Look x Key, KeyIs v) ≡ e → key t.memory x ≡ v

-- a slot that is no leaf has a child
child_of : (m : Memory) (x : ℕ) → is_leaf (node m x) ≡ false → (d : Side) × (child m x d ≢ 0)
child_of m x inner = by ((node m x).left.slot == 0) refl inner
  where
    by : (b : Bool) → ((node m x).left.slot == 0) ≡ b → (b && ((node m x).right.slot == 0)) ≡ false
        → (d : Side) × (child m x d ≢ 0)
    by false is inner = (Left, eqb-false (node m x).left.slot 0 is)
    by true is inner = (Right, eqb-false (node m x).right.slot 0 inner)

-- a slot with a child is no leaf
pub not_leaf : (m : Memory) (x : ℕ) (d : Side) → child m x d ≢ 0 → is_leaf (node m x) ≡ false
not_leaf m x d there = false_from_ne_true (is_leaf (node m x))
    (λ leaf. there (null d (and_parts ((node m x).left.slot == 0) ((node m x).right.slot == 0) leaf)))
  where
    null : (d : Side) → (((node m x).left.slot == 0) ≡ true) × (((node m x).right.slot == 0) ≡ true) → child m x d ≡ 0
    null Left both = eqb-true (node m x).left.slot 0 both.0
    null Right both = eqb-true (node m x).right.slot 0 both.1

-- a look at an edge reads no key, and two looks at keys that are one have read one key
no_key : {y x m : ℕ} {d : Side} {n : Edge} → ◌≡◌ {A = Entry} (Look y (EdgeOn d), EdgeIs n) (Look x Key, KeyIs m) → ⊥
no_key is = no (ap (λ (z : Entry). z.1) is)
  where
    no : {n : Edge} {m : ℕ} → EdgeIs n ≡ KeyIs m → ⊥
    no is = cc

key_read : (y v x m : ℕ) → ◌≡◌ {A = Entry} (Look y Key, KeyIs v) (Look x Key, KeyIs m) → v ≡ m
key_read y v x m is = one (ap (λ (z : Entry). z.1) is)
  where
    one : KeyIs v ≡ KeyIs m → v ≡ m
    one is = cc

only_one : {X : Type 0} (y x : X) → Contains (y ∷ []) x → y ≡ x
only_one y x (zero, b, is) = is
only_one y x (suc i, b, is) = absurd (omega (arith, b))

module _ (t : State) (h : ℕ → ℕ) (law : Lawful t h) (fixed : FixedKeys t.memory)
    (order : InOrder (child t.memory) (key t.memory))
    (nested : t.layout.radix ≡ true → RadixLaw (child t.memory) (key t.memory)) (u k : ℕ)
    (W R : ℕ → Lasting → Type 0) (N : Type 0)
    (out : t.layout.radix ≡ true → k < infinity_1 → (x : ℕ) (n : Lasting) → W x n → n.leaf ≡ false → 6 ≤ x
    → covers n.key k ≡ false → N)
    (now : (x : ℕ) → knows (of t u) x ≡ true → EachNow (child t.memory) (key t.memory) (lasting t.memory) k W)
    (below : (x : ℕ) → knows (of t u) x ≡ true → EachBelow (child t.memory) (lasting t.memory) R 1) where
  -- where a walk begins
  first_way : knows (of t u) (child t.memory 2 Left) ≡ true → IsOnWay t u k W R N (child t.memory 2 Left)
  first_way known = record {
    known = known;
    below = first_below t h law R (below (child t.memory 2 Left) known);
    onward = λ search small. first_onward t h law k small fixed;
    each = λ search small. first_each t h law u k small fixed W (now (child t.memory 2 Left) known);
    radix = λ radix small. radix_first t.memory (rooted t h law fixed order (nested radix)) k small W N
        (now (child t.memory 2 Left) known);
  }

  some_slot : (x : ℕ) → knows (of t u) x ≡ true → x ≢ 0
  some_slot x known z = let range = law.tree.known u x known in omega (arith, range, z)

  -- where it goes on by the edge on its key's side
  next_way : (x v : ℕ) → IsOnWay t u k W R N x → key t.memory x ≡ v
      → knows (of t u) (child t.memory x (side_of k v)) ≡ true → IsOnWay t u k W R N (child t.memory x (side_of k v))
  next_way x v way is known = record {
    known = known;
    below = λ q some. way.below (side_of k v ∷ q) some;
    onward = λ search small q r f goes there same. way.onward search small (side_of k v ∷ q) r f
        (ap (side_of k) is, goes) there same;
    each = λ search small q goes some. way.each search small (side_of k v ∷ q) (ap (side_of k) is, goes) some;
    radix = λ radix small. radix_next t.memory (rooted t h law fixed order (nested radix)) k small W N x
        (some_slot x way.known) (out radix small x) (side_of k v) (ap (side_of k) is)
        (some_slot (child t.memory x (side_of k v)) known)
        (not_leaf t.memory x (side_of k v) (some_slot (child t.memory x (side_of k v)) known)) (way.radix radix small);
  }

  module _ (shared known : ℕ → Type 0) (second : shared 2) (log : List Entry) (holds : HoldsOfWalks t u k W R N log)
      (each_shared : (slot parent : ℕ) (side : Side) → WalkComes k log slot parent side → shared slot)
      (each_known : (slot parent : ℕ) (side : Side) → WalkComes k log slot parent side → known slot) (e : Entry)
      (told : IsTold t u shared known e) where
    comes_more : (looks : List Entry) (slot parent : ℕ) (side : Side) → Leads k looks slot parent side
        → IsPart looks (log ++ e ∷ []) → IsOnWay t u k W R N slot
    comes_more looks slot parent side (begins n there) p = elim
        (part_ends [] log (Look 2 (EdgeOn Left), EdgeIs n) e p) [
          | inl q ↦ holds.comes n.slot 2 Left (record {
            looks = (Look 2 (EdgeOn Left), EdgeIs n)
                ∷ [];
            leads = begins n there;
            is_part = q;
          })
          | inr q ↦
              let is : child t.memory 2 Left ≡ n.slot = told.edge 2 Left n q.0 in
              subst (IsOnWay t u k W R N) is (first_way (rw is (told.met 2 Left n q.0 second there)))
        ]
    comes_more looks slot parent side (leads_on {looks = before} {slot = above} {parent = over} {side = turn} leads v
        n there) p =
        elim (part_ends (before ++ (Look above Key, KeyIs v) ∷ []) log (Look above (EdgeOn (side_of k v)), EdgeIs n)
        e (subst (λ (es : List Entry). IsPart es (log ++ e ∷ []))
        (sym (append_assoc before ((Look above Key, KeyIs v) ∷ [])
        ((Look above (EdgeOn (side_of k v)), EdgeIs n) ∷ []))) p)) [
          | inl q ↦ holds.comes n.slot above (side_of k v) (record {
            looks = before ++ (Look above Key, KeyIs v) ∷ (Look above (EdgeOn (side_of k v)), EdgeIs n) ∷ [];
            leads = leads_on leads v n there;
            is_part = subst (λ (es : List Entry). IsPart es log)
                (append_assoc before ((Look above Key, KeyIs v) ∷ [])
                ((Look above (EdgeOn (side_of k v)), EdgeIs n) ∷ [])) q;
          })
          | inr q ↦
              let read : WalkReads k log above over turn v = record { looks = before; leads = leads; is_part = q.1 } in
              let walk : WalkComes k log above over turn = came k log above over turn v read in
              let is : child t.memory above (side_of k v) ≡ n.slot = told.edge above (side_of k v) n q.0 in
              subst (IsOnWay t u k W R N) is
              (next_way above v (holds.comes above over turn walk) (holds.reads above over turn v read)
              (rw is (told.met above (side_of k v) n q.0 (each_shared above over turn walk) there)))
        ]

    reads_more : (slot parent : ℕ) (side : Side) (v : ℕ) → WalkReads k (log ++ e ∷ []) slot parent side v
        → key t.memory slot ≡ v
    reads_more slot parent side v r = elim (part_ends r.looks log (Look slot Key, KeyIs v) e r.is_part) [
      | inl q ↦ holds.reads slot parent side v (record { looks = r.looks; leads = r.leads; is_part = q })
      | inr q ↦ told.key slot v q.0
    ]

    ends_more : (slot parent : ℕ) (side : Side) (v : ℕ) → WalkEnds k (log ++ e ∷ []) slot parent side v
        → knows_leaf (of t u) slot ≡ true
    ends_more slot parent side v r =
        elim (part_ends (r.looks ++ (Look slot Key, KeyIs v) ∷ []) log
        (Look slot (EdgeOn (side_of k v)), EdgeIs r.null) e
        (subst (λ (es : List Entry). IsPart es (log ++ e ∷ []))
        (sym (append_assoc r.looks ((Look slot Key, KeyIs v) ∷ [])
        ((Look slot (EdgeOn (side_of k v)), EdgeIs r.null) ∷ []))) r.is_part)) [
          | inl q ↦ holds.ends slot parent side v (record {
            looks = r.looks;
            leads = r.leads;
            null = r.null;
            is_null = r.is_null;
            is_part = subst (λ (es : List Entry). IsPart es log)
                (append_assoc r.looks ((Look slot Key, KeyIs v) ∷ [])
                ((Look slot (EdgeOn (side_of k v)), EdgeIs r.null) ∷ [])) q;
          })
          | inr q ↦ told.null slot (side_of k v) r.null q.0
              (each_known slot parent side (came k log slot parent side v
              (record { looks = r.looks; leads = r.leads; is_part = q.1 }))) r.is_null
        ]

    short_more : (looks : List Entry) (slot parent : ℕ) (side : Side) → Leads k looks slot parent side
        → IsPart looks (log ++ e ∷ []) → t.layout.radix ≡ true → k < infinity_1 → IsShort t.memory slot (length looks)
    unfolding came
    short_more looks slot parent side (begins n there) p radix small = elim
        (part_ends [] log (Look 2 (EdgeOn Left), EdgeIs n) e p) [
          | inl q ↦ holds.short radix small n.slot 2 Left
              (record { looks = (Look 2 (EdgeOn Left), EdgeIs n) ∷ []; leads = begins n there; is_part = q })
          | inr q ↦ subst (λ (y : ℕ). IsShort t.memory y 1) (told.edge 2 Left n q.0)
              (record { most = omega arith; inner = first })
        ]
      where
        first : is_leaf (node t.memory (child t.memory 2 Left)) ≡ false
            → (6 ≤ child t.memory 2 Left) × (1 + 2 * bits 64 (key t.memory (child t.memory 2 Left)) ≤ 127)
        first inner =
            let under = child_of t.memory (child t.memory 2 Left) inner in
            let deep = first_bits (child t.memory) (key t.memory) (rooted t h law fixed order (nested radix)) under.0
            under.1 in
            let few = deep.1 in
            (deep.0, omega (arith, few))
    short_more looks slot parent side (leads_on {looks = before} {slot = above} {parent = over} {side = turn} leads v
        n there) p radix small =
        elim (part_ends (before ++ (Look above Key, KeyIs v) ∷ []) log (Look above (EdgeOn (side_of k v)), EdgeIs n)
        e (subst (λ (es : List Entry). IsPart es (log ++ e ∷ []))
        (sym (append_assoc before ((Look above Key, KeyIs v) ∷ [])
        ((Look above (EdgeOn (side_of k v)), EdgeIs n) ∷ []))) p)) [
          | inl q ↦ holds.short radix small n.slot above (side_of k v) (record {
            looks = before ++ (Look above Key, KeyIs v) ∷ (Look above (EdgeOn (side_of k v)), EdgeIs n) ∷ [];
            leads = leads_on leads v n there;
            is_part = subst (λ (es : List Entry). IsPart es log)
                (append_assoc before ((Look above Key, KeyIs v) ∷ [])
                ((Look above (EdgeOn (side_of k v)), EdgeIs n) ∷ [])) q;
          })
          | inr q ↦
              let read : WalkReads k log above over turn v = record { looks = before; leads = leads; is_part = q.1 } in
              let walk : WalkComes k log above over turn = came k log above over turn v read in
              subst (λ (y : ℕ). IsShort t.memory y (length
              (before ++ (Look above Key, KeyIs v) ∷ (Look above (EdgeOn (side_of k v)), EdgeIs n) ∷ [])))
              (told.edge above (side_of k v) n q.0)
              (rw (length-append before ((Look above Key, KeyIs v) ∷ (Look above (EdgeOn (side_of k v)), EdgeIs n)
              ∷ []))
              (deeper above (side_of k v) (length before)
              (λ z. there (sym (told.edge above (side_of k v) n q.0) ∙ z))
              ((holds.comes above over turn walk).radix radix small).nested
              (holds.short radix small above over turn walk)))
        ]
      where
        deeper : (x : ℕ) (d : Side) (n : ℕ) → child t.memory x d ≢ 0 → NestsFrom (child t.memory) (key t.memory) x
            → IsShort t.memory x n → IsShort t.memory (child t.memory x d) (n + 2)
        deeper x d n there nests short = record {
          most = let most = at.1 in omega (arith, most);
          inner = λ inner. (
              let under = child_of t.memory (child t.memory x d) inner in
              let deep = under_bits (child t.memory) (key t.memory) x d at.0 (nests [] at.0) there under.0 under.1
              (λ up. nests (d ∷ []) up) in
              let most = at.1 in
              let less = deep.1 in
              (deep.0, omega (arith, most, less))
              );
        }
          where
            at : (6 ≤ x) × (n + 2 * bits 64 (key t.memory x) ≤ 127)
            at = short.inner (not_leaf t.memory x d there)

    passes_more : (slot parent : ℕ) (side : Side) (v : ℕ) → WalkPasses k (log ++ e ∷ []) slot parent side v
        → t.layout.radix ≡ true → k < infinity_1 → (6 ≤ slot) × (covers v v ≡ true)
        × (is_leaf (node t.memory slot) ≡ false)
    passes_more slot parent side v r radix small =
        elim (part_ends (r.looks ++ (Look slot Key, KeyIs v) ∷ []) log
        (Look slot (EdgeOn (side_of k v)), EdgeIs r.next) e
        (subst (λ (es : List Entry). IsPart es (log ++ e ∷ []))
        (sym (append_assoc r.looks ((Look slot Key, KeyIs v) ∷ [])
        ((Look slot (EdgeOn (side_of k v)), EdgeIs r.next) ∷ []))) r.is_part)) [
          | inl q ↦ holds.passes radix small slot parent side v (record {
            looks = r.looks;
            leads = r.leads;
            next = r.next;
            there = r.there;
            is_part = subst (λ (es : List Entry). IsPart es log)
                (append_assoc r.looks ((Look slot Key, KeyIs v) ∷ [])
                ((Look slot (EdgeOn (side_of k v)), EdgeIs r.next) ∷ [])) q;
          })
          | inr q ↦
              let read : WalkReads k log slot parent side v =
              record { looks = r.looks; leads = r.leads; is_part = q.1 } in
              let walk : WalkComes k log slot parent side = came k log slot parent side v read in
              let some : child t.memory slot (side_of k v)
              ≢ 0 = λ z. r.there (sym (told.edge slot (side_of k v) r.next q.0) ∙ z) in
              let up = (holds.short radix small slot parent side walk).inner
              (not_leaf t.memory slot (side_of k v) some) in (
                up.0,
                subst (λ (n : ℕ). covers n n ≡ true) (holds.reads slot parent side v read)
                    ((((holds.comes slot parent side walk).radix radix small).nested [] up.0).own (side_of k v) some),
                not_leaf t.memory slot (side_of k v) some,
              )
        ]

    ranges_more : (looks : List Entry) (slot parent : ℕ) (side : Side) → Leads k looks slot parent side
        → IsPart looks (log ++ e ∷ []) → t.layout.radix ≡ true → k < infinity_1 → InRanges k looks
        → EachIn (child t.memory) (key t.memory) (lasting t.memory) k W slot
    unfolding came
    ranges_more looks slot parent side (begins n there) p radix small has = elim
        (part_ends [] log (Look 2 (EdgeOn Left), EdgeIs n) e p) [
          | inl q ↦ holds.ranges radix small n.slot 2 Left
              (record { looks = (Look 2 (EdgeOn Left), EdgeIs n) ∷ []; leads = begins n there; is_part = q }) has
          | inr q ↦
              let is : child t.memory 2 Left ≡ n.slot = told.edge 2 Left n q.0 in
              subst (EachIn (child t.memory) (key t.memory) (lasting t.memory) k W) is
              (first_in t.memory (rooted t h law fixed order (nested radix)) k small W N
              (now (child t.memory 2 Left) (rw is (told.met 2 Left n q.0 second there))))
        ]
    ranges_more looks slot parent side (leads_on {looks = before} {slot = above} {parent = over} {side = turn} leads
        v n there) p radix small has =
        elim (part_ends (before ++ (Look above Key, KeyIs v) ∷ []) log (Look above (EdgeOn (side_of k v)), EdgeIs n)
        e (subst (λ (es : List Entry). IsPart es (log ++ e ∷ []))
        (sym (append_assoc before ((Look above Key, KeyIs v) ∷ [])
        ((Look above (EdgeOn (side_of k v)), EdgeIs n) ∷ []))) p)) [
          | inl q ↦ holds.ranges radix small n.slot above (side_of k v) (record {
            looks = before ++ (Look above Key, KeyIs v) ∷ (Look above (EdgeOn (side_of k v)), EdgeIs n) ∷ [];
            leads = leads_on leads v n there;
            is_part = subst (λ (es : List Entry). IsPart es log)
                (append_assoc before ((Look above Key, KeyIs v) ∷ [])
                ((Look above (EdgeOn (side_of k v)), EdgeIs n) ∷ [])) q;
          }) has
          | inr q ↦
              let read : WalkReads k log above over turn v = record { looks = before; leads = leads; is_part = q.1 } in
              let at : key t.memory above ≡ v = holds.reads above over turn v read in
              subst (EachIn (child t.memory) (key t.memory) (lasting t.memory) k W)
              (told.edge above (side_of k v) n q.0)
              (below_it above v at (has above v (Contains-append_right before
              ((Look above Key, KeyIs v) ∷ (Look above (EdgeOn (side_of k v)), EdgeIs n) ∷ [])
              (Look above Key, KeyIs v) (zero, omega arith, refl)))
              (holds.ranges radix small above over turn (came k log above over turn v read)
              (λ x m c. has x m (Contains-append_left before
              ((Look above Key, KeyIs v) ∷ (Look above (EdgeOn (side_of k v)), EdgeIs n) ∷ [])
              (Look x Key, KeyIs m) c))))
        ]
      where
        below_it : (x v : ℕ) → key t.memory x ≡ v → covers v k ≡ true
            → EachIn (child t.memory) (key t.memory) (lasting t.memory) k W x
            → EachIn (child t.memory) (key t.memory) (lasting t.memory) k W (child t.memory x (side_of k v))
        below_it x v at has each q goes covered some = each (side_of k v ∷ q) (ap (side_of k) at, goes)
            ((λ up. ap (λ (n : ℕ). covers n k) at ∙ has), covered) some

    apart_more : (looks : List Entry) (slot parent : ℕ) (side : Side) → Leads k looks slot parent side
        → IsPart looks (log ++ e ∷ []) → t.layout.radix ≡ true → k < infinity_1
        → (x m : ℕ) → Contains looks (Look x Key, KeyIs m) → covers m k ≡ false
        → StandsFor (child t.memory) (key t.memory) slot k → ⊥
    unfolding came
    apart_more looks slot parent side (begins n there) p radix small x m read out stands = no_key
        (only_one (Look 2 (EdgeOn Left), EdgeIs n) (Look x Key, KeyIs m) read)
    apart_more looks slot parent side (leads_on {looks = before} {slot = above} {parent = over} {side = turn} leads v
        n there) p radix small x m read out stands =
        elim (part_ends (before ++ (Look above Key, KeyIs v) ∷ []) log (Look above (EdgeOn (side_of k v)), EdgeIs n)
        e (subst (λ (es : List Entry). IsPart es (log ++ e ∷ []))
        (sym (append_assoc before ((Look above Key, KeyIs v) ∷ [])
        ((Look above (EdgeOn (side_of k v)), EdgeIs n) ∷ []))) p)) [
          | inl q ↦ holds.apart radix small n.slot above (side_of k v) (record {
            looks = before ++ (Look above Key, KeyIs v) ∷ (Look above (EdgeOn (side_of k v)), EdgeIs n) ∷ [];
            leads = leads_on leads v n there;
            is_part = subst (λ (es : List Entry). IsPart es log)
                (append_assoc before ((Look above Key, KeyIs v) ∷ [])
                ((Look above (EdgeOn (side_of k v)), EdgeIs n) ∷ [])) q;
          }) x m read out stands
          | inr q ↦
              let reads : WalkReads k log above over turn v = record { looks = before; leads = leads; is_part = q.1 } in
              let walk : WalkComes k log above over turn = came k log above over turn v reads in
              let edge : child t.memory above (side_of k v) ≡ n.slot = told.edge above (side_of k v) n q.0 in
              let some : child t.memory above (side_of k v) ≢ 0 = λ z. there (sym edge ∙ z) in
              let up = ((holds.short radix small above over turn walk).inner
              (not_leaf t.memory above (side_of k v) some)).0 in
              let under = (((holds.comes above over turn walk).radix radix small).nested [] up).below (side_of k v) k
              some (subst (λ (y : ℕ). StandsFor (child t.memory) (key t.memory) y k) (sym edge) stands) in
              by above v (side_of k v) n (holds.reads above over turn v reads) under.0
              (λ early. holds.apart radix small above over turn walk x m early out
              (inr ((side_of k v, some), λ _. under.0)))
              (Contains-append_cases before ((Look above Key, KeyIs v)
              ∷ (Look above (EdgeOn (side_of k v)), EdgeIs n) ∷ []) (Look x Key, KeyIs m) read)
        ]
      where
        by : (y v : ℕ) (d : Side) (f : Edge) → key t.memory y ≡ v → covers (key t.memory y) k ≡ true
            → (Contains before (Look x Key, KeyIs m) → ⊥)
            → Contains before (Look x Key, KeyIs m) ⊎ Contains {X = Entry}
            ((Look y Key, KeyIs v) ∷ (Look y (EdgeOn d), EdgeIs f) ∷ []) (Look x Key, KeyIs m) → ⊥
        by y v d f at has never (inl early) = never early
        by y v d f at has never (inr (zero, b, is)) = true≢false
            (sym (sym (ap (λ (n : ℕ). covers n k) (at ∙ key_read y v x m is)) ∙ has) ∙ out)
        by y v d f at has never (inr (suc zero, b, is)) = no_key is
        by y v d f at has never (inr (suc (suc i), b, is)) = omega (arith, b)

    -- with the entry more
    holds_more : HoldsOfWalks t u k W R N (log ++ e ∷ [])
    holds_more = record {
      comes = λ slot parent side r. comes_more r.looks slot parent side r.leads r.is_part;
      reads = reads_more;
      ends = ends_more;
      short = λ radix small slot parent side r. short_more r.looks slot parent
          side r.leads r.is_part radix small;
      passes = λ radix small slot parent side v r. passes_more slot parent side v
          r radix small;
      ranges = λ radix small slot parent side r. ranges_more r.looks slot parent side r.leads
          r.is_part radix small;
      apart = λ radix small slot parent side r. apart_more r.looks slot parent side r.leads
          r.is_part radix small;
    }

same_edge : (a b : Edge) → EdgeIs a ≡ EdgeIs b → a ≡ b
same_edge a b e = cc

same_key : (a b : ℕ) → KeyIs a ≡ KeyIs b → a ≡ b
same_key a b e = cc

-- a look tells its worker of the state after it, which has the memory of the state before
module _ (s : State) (h : ℕ → ℕ) (law : Lawful s h) (w : ℕ) where
  edge_told : (x : ℕ) (d : Side) (n : Edge) → EdgeIs n ≡ reply_of s w (Look x (EdgeOn d))
      → child (applied s w (Look x (EdgeOn d))).memory x d ≡ n.slot
  unfolding applied reply write
  edge_told x d n is = ap (λ (y : Edge). y.slot) (same_edge (edge s.memory x d) n (sym is))

  edge_met : (x : ℕ) (d : Side) (n : Edge) → Allowed s w (Look x (EdgeOn d))
      → EdgeIs n ≡ reply_of s w (Look x (EdgeOn d)) → is_private (of s w) x ≡ false → n.slot ≢ 0
      → knows (of (applied s w (Look x (EdgeOn d))) w) n.slot ≡ true
  unfolding reply
  edge_met x d n ok is shared there =
      let same : child s.memory x d ≡ n.slot = ap (λ (y : Edge). y.slot) (same_edge (edge s.memory x d) n (sym is)) in
      subst (λ (y : ℕ). knows (of (applied s w (Look x (EdgeOn d))) w) y ≡ true) same
      ((knows_after s h law w (Look x (EdgeOn d)) ok).own (child s.memory x d)
      (looked_known s h law w x d shared (λ z. there (sym same ∙ z))))

  null_told : (x : ℕ) (d : Side) (n : Edge) → Allowed s w (Look x (EdgeOn d))
      → EdgeIs n ≡ reply_of s w (Look x (EdgeOn d)) → knows (of s w) x ≡ true → n.slot ≡ 0
      → knows_leaf (of (applied s w (Look x (EdgeOn d))) w) x ≡ true
  unfolding reply
  null_told x d n ok is known null =
      let same : child s.memory x d ≡ n.slot = ap (λ (y : Edge). y.slot) (same_edge (edge s.memory x d) n (sym is)) in
      subst (λ (l : Knowledge). knows_leaf l x ≡ true) (sym (own_knows s h law w (Look x (EdgeOn d)) ok))
      (null_looked s h law w x d known (same ∙ null))

  key_told : (x v : ℕ) → KeyIs v ≡ reply_of s w (Look x Key) → key (applied s w (Look x Key)).memory x ≡ v
  unfolding applied reply write
  key_told x v is = same_key (key s.memory x) v (sym is)

  tells : (e : Event) → Allowed s w e → IsTold (applied s w e) w (λ x. is_private (of s w) x ≡ false)
      (λ x. knows (of s w) x ≡ true) (e, reply_of s w e)
  tells e ok = record {
    edge = λ x d n is. subst (λ (y : Event). EdgeIs n ≡ reply_of s w y → child (applied s w y).memory x d ≡ n.slot)
        (ap (λ (y : Entry). y.0) is) (edge_told x d n) (ap (λ (y : Entry). y.1) is);
    met = λ x d n is. subst (λ (y : Event). Allowed s w y → EdgeIs n ≡ reply_of s w y → is_private (of s w) x ≡ false
        → n.slot ≢ 0 → knows (of (applied s w y) w) n.slot ≡ true) (ap (λ (y : Entry). y.0) is) (edge_met x d n) ok
        (ap (λ (y : Entry). y.1) is);
    null = λ x d n is. subst (λ (y : Event). Allowed s w y → EdgeIs n ≡ reply_of s w y → knows (of s w) x ≡ true
        → n.slot ≡ 0 → knows_leaf (of (applied s w y) w) x ≡ true) (ap (λ (y : Entry). y.0) is) (null_told x d n) ok
        (ap (λ (y : Entry). y.1) is);
    key = λ x v is. subst (λ (y : Event). KeyIs v ≡ reply_of s w y → key (applied s w y).memory x ≡ v)
        (ap (λ (y : Entry). y.0) is) (key_told x v) (ap (λ (y : Entry). y.1) is);
  }

-- ---- an event of the own

-- while its pin stands: the walks in its log, with the entry more
pub own_walks : (s : State) (h : ℕ → ℕ) (law : Lawful s h) (w : ℕ) → EachBirthStands s → (ss : List Search)
    → OrderLaw s ss → (e : Event) (ok : Allowed s w e) → disorder s.layout (of s w) (search_of ss w) e ≡ None
    → (g : ℕ → ℕ) → Lawful (applied s w e) g → FixedKeys (applied s w e).memory
    → InOrder (child (applied s w e).memory) (key (applied s w e).memory)
    → ((applied s w e).layout.radix ≡ true → RadixLaw (child (applied s w e).memory) (key (applied s w e).memory))
    → (k : ℕ) → Stays s.memory (of s w) (of (applied s w e) w) → (W W' R R' : ℕ → Lasting → Type 0) (N N' : Type 0)
    → ((y : ℕ) (n : Lasting) → W y n → W' y n) → ((y : ℕ) (n : Lasting) → R y n → R' y n) → (N → N')
    → ((applied s w e).layout.radix ≡ true → k < infinity_1 → (x : ℕ) (n : Lasting) → W' x n → n.leaf ≡ false → 6 ≤ x
    → covers n.key k ≡ false → N')
    → ((x : ℕ) → knows (of (applied s w e) w) x ≡ true
    → EachNow (child (applied s w e).memory) (key (applied s w e).memory) (lasting (applied s w e).memory) k W')
    → ((x : ℕ) → knows (of (applied s w e) w) x ≡ true
    → EachBelow (child (applied s w e).memory) (lasting (applied s w e).memory) R' 1)
    → (log : List Entry) → HoldsOfWalks s w k W R N log
    → HoldsOfWalks (applied s w e) w k W' R' N' (log ++ (e, reply_of s w e) ∷ [])
own_walks s h law w births ss l e ok in_order g after fixed order nested k stays W W' R R' N N' grows too more out
    now below log holds =
    holds_more (applied s w e) g after fixed order nested w k W' R' N' out now below
    (λ x. is_private (of s w) x ≡ false) (λ x. knows (of s w) x ≡ true) (low_not_private s h law w 2 (omega arith))
    log
    (walks_outlast s h law w births ss l e ok in_order w k stays W W' R R' N N' grows too more now below log holds)
    (λ slot parent side r. known_not_private s h law w slot (holds.comes slot parent side r).known)
    (λ slot parent side r. (holds.comes slot parent side r).known) (e, reply_of s w e) (tells s h law w e ok)
