-- The order of the set, in every ordered run.
use Rattle.std.proofs.Common.{◌≡◌, ◌≢◌, ℕ, suc, ◌<◌, ◌≤◌, inl, inr, ◌⊎◌, ◌==◌, Bool, true, false, cond, ◌&&◌, List, [], ◌∷◌, ◌++◌, refl, sym, ap, subst, ◌∙◌, arith, true≢false}
use Rattle.std.specs.Prelude.{◌↔◌, Contains, Option, Some, None, Result, Ok, option_map, replicate, All}
use Rattle.std.proofs.lemmas.Bool.{eqb-true, eqb-false, eq-eqb, and_parts, and_from}
use Rattle.std.proofs.lemmas.List.{length-replicate}
use Rattle.std.proofs.lemmas.Option.{none-some, same_Some, slice_get-get_or, slice_get_within, get_or_from_slice_get}
use Rattle.nm_edge.specs.Edges.{Edge, to, is_to}
use Rattle.nm_edge.specs.Layouts.{Layout}
use Rattle.nm_edge.specs.declared.edge.Side.{Side}
use Rattle.nm_edge.specs.declared.edge.Side.TheVariants.{Left, Right}
use Rattle.nm_model.specs.declared.event.Op.{Op}
use Rattle.nm_model.specs.declared.event.Op.TheVariants.{Insert}
use Rattle.nm_model.specs.declared.event.Event.{Event}
use Rattle.nm_model.specs.declared.event.Event.TheVariants.{Link}
use Rattle.nm_model.specs.declared.reply.Reply.{Reply}
use Rattle.nm_model.specs.declared.reply.Reply.TheVariants.{Linked, Lost}
use Rattle.nm_model.specs.declared.reply.Refused.{Refused}
use Rattle.nm_model.specs.declared.memory.Node.{Node}
use Rattle.nm_model.specs.declared.arrivals.Call.{Call}
use Rattle.nm_model.specs.declared.arrivals.Arrival.{Arrival}
use Rattle.nm_model.specs.Maps.{or_else}
use Rattle.nm_model.specs.Memory.{Memory, node, edge, child, is_leaf, opening, put_edge, infinity_0}
use Rattle.nm_model.specs.Knowledge.{knows}
use Rattle.nm_model.specs.Step.{reply, write, node_linked}
use Rattle.nm_model.specs.Paths.{follow, Reached}
use Rattle.nm_model.specs.Runs.{State, of, start, after, next, applied, refused, unless_refused, reply_of, answered}
use Rattle.nm_model.specs.Reports.{keys}
use Rattle.nm_model.specs.Searches.{Search, idle}
use Rattle.nm_model.specs.Ordered.{Configuration, ordered, search_of, learned_from, disorder, disorder_in, disorder_among, refused_in, applied_in, unless_refused_in, next_in, outcome_in, after_in}
use Rattle.nm_model.specs.Acts.{InSet}
use Rattle.nm_order.specs.Intervals.{GoesBy, key, InInterval, HasKey, OfEachOrdered, KeysLieInIntervals, LeavesHaveTheirOwnKeys, HasCome, WalksStayInOrder, WalksReadKeys, IsCalled, Gains, LinksInsert, KeysTellTheSet, KeysAscend}
use Rattle.nm_model.proofs.Numbers.{repeated}
use Rattle.nm_laws.proofs.Steps.{Allowed, allowed}
use Rattle.nm_laws.proofs.Reaches.{after-append}
use Rattle.nm_laws.proofs.Trees.{follow_none}
use Rattle.nm_order.proofs.Searching.{one_leaf}
use Rattle.nm_order.proofs.OrderedTrees.{InOrder, Onward, LeafOf, new_leaf, leaf_stays, leaf_was, key_is_new}
use Rattle.nm_laws.proofs.TreeSteps.{Lawful}
use Rattle.nm_laws.proofs.Lawful.{lawful}
use Rattle.nm_laws.proofs.KnownBirths.{each_birth_stands, written_keys}
use Rattle.nm_order.proofs.TreeChanges.{WonLink, won_link}
use Rattle.nm_order.proofs.OrderedWalks.{WalkLaw}
use Rattle.nm_order.proofs.RadixTrees.{RadixLaw}
use Rattle.nm_order.proofs.OrderedKeys.{Under, under, found, keys_ascend}
use Rattle.nm_laws.proofs.TreeCount.{reached_once}
use Rattle.nm_laws.proofs.Outcomes.{same_reply, no_reply}
use Rattle.nm_order.proofs.OrderedSteps.{ForCall, OrderLaw, order_step, LinkOfCall, link_of_call}

-- ---- the opening

pub null_start : (L : Layout) (d : Side) → child (opening L) 0 d ≡ 0
null_start L Left = refl
null_start L Right = refl

order_start : (L : Layout) → InOrder (child (opening L)) (key (opening L))
order_start L [] there = tt
order_start L (Left ∷ []) there = (refl, tt)
order_start L (Right ∷ []) there = (refl, tt)
order_start L (Left ∷ Left ∷ []) there = (refl, (refl, tt))
order_start L (Left ∷ Right ∷ []) there = (refl, (refl, tt))
order_start L (Left ∷ Left ∷ Left ∷ q) there = absurd (there (follow_none (child (opening L)) (null_start L) q))
order_start L (Left ∷ Left ∷ Right ∷ q) there = absurd (there (follow_none (child (opening L)) (null_start L) q))
order_start L (Left ∷ Right ∷ Left ∷ q) there = absurd (there (follow_none (child (opening L)) (null_start L) q))
order_start L (Left ∷ Right ∷ Right ∷ q) there = absurd (there (follow_none (child (opening L)) (null_start L) q))
order_start L (Right ∷ Left ∷ q) there = absurd (there (follow_none (child (opening L)) (null_start L) q))
order_start L (Right ∷ Right ∷ q) there = absurd (there (follow_none (child (opening L)) (null_start L) q))

radix_start : (L : Layout) → RadixLaw (child (opening L)) (key (opening L))
radix_start L = record {
  nests = λ q up. absurd (few q up);
  low = λ q up. absurd (few q up);
  third = omega arith;
  right = refl;
  second_right = refl;
}
  where
    fall : (q : List Side) → follow (child (opening L)) 0 q ≡ 0
    fall q = follow_none (child (opening L)) (null_start L) q

    few : (q : List Side) → 6 ≤ follow (child (opening L)) 1 q → ⊥
    few [] up = omega (arith, up)
    few (Left ∷ []) up = omega (arith, up)
    few (Right ∷ []) up = omega (arith, up)
    few (Left ∷ Left ∷ []) up = omega (arith, up)
    few (Left ∷ Right ∷ []) up = omega (arith, up)
    few (Left ∷ Left ∷ Left ∷ q) up = let z = fall q in omega (arith, up, z)
    few (Left ∷ Left ∷ Right ∷ q) up = let z = fall q in omega (arith, up, z)
    few (Left ∷ Right ∷ Left ∷ q) up = let z = fall q in omega (arith, up, z)
    few (Left ∷ Right ∷ Right ∷ q) up = let z = fall q in omega (arith, up, z)
    few (Right ∷ Left ∷ q) up = let z = fall q in omega (arith, up, z)
    few (Right ∷ Right ∷ q) up = let z = fall q in omega (arith, up, z)

law_start : (L : Layout) → OrderLaw (start L) (replicate L.workers idle)
law_start L = record {
  sized = length-replicate L.workers idle;
  order = order_start L;
  fixed = record { root = refl; second = refl };
  nested = λ radix. radix_start L;
  walks = λ u. rw (repeated L.workers u idle) tt;
}

-- ---- runs

-- a configuration of an ordered core: a run leads to its state, and the order law holds of it
pub record IsOrdered (L : Layout) (c : Configuration) : Type 0 where
  pub searches : List Search
  pub are : c.searches ≡ Some searches
  pub events : List (ℕ × Event)
  pub leads : c.state ≡ after (start L) events
  pub law : OrderLaw c.state searches

pub neither : (a b : Option Refused) → or_else a b ≡ None → (a ≡ None) × (b ≡ None)
neither None None h = (refl, refl)
neither None (Some r) h = absurd (none-some r (sym h))
neither (Some r) b h = absurd (none-some r (sym h))

pub ordered_next : (L : Layout) → 5 ≤ L.nodes → (c : Configuration) (t : ℕ × Event) → HasKey t.1 → IsOrdered L c
    → IsOrdered L (next_in c t)
unfolding next_in applied_in refused_in after next
ordered_next L enough c t has o = go (or_else (refused c.state t.0 t.1) (disorder_in c t.0 t.1)) refl
  where
    go : (r : Option Refused) → or_else (refused c.state t.0 t.1) (disorder_in c t.0 t.1) ≡ r
        → IsOrdered L (unless_refused_in r c (record {
          state = applied c.state t.0 t.1;
          searches = option_map
              (λ ss. learned_from ss t.0 t.1 (reply_of c.state t.0 t.1)) c.searches;
        }))
    go (Some r) is = o
    go None is =
        let none = neither (refused c.state t.0 t.1) (disorder_in c t.0 t.1) is in
        let l = lawful L enough o.events in
        let in_order : disorder c.state.layout (of c.state t.0) (search_of o.searches t.0) t.1
        ≡ None = ap (λ ss. disorder_among c.state.layout ss (of c.state t.0) t.0 t.1) (sym o.are) ∙ none.1 in
        record {
          searches = learned_from o.searches t.0 t.1 (reply_of c.state t.0 t.1);
          are = ap (option_map (λ ss. learned_from ss t.0 t.1 (reply_of c.state t.0 t.1))) o.are;
          events = o.events ++ t ∷ [];
          leads = sym (after-append (start L) o.events (t ∷ [])
              ∙ (ap (λ (s : State). next s t) (sym o.leads)
              ∙ ap (λ r. unless_refused r c.state (applied c.state t.0 t.1)) none.0));
          law = order_step c.state l.holder (rw o.leads l.law) t.0 (rw o.leads (each_birth_stands L enough o.events))
              o.searches o.law t.1 (allowed c.state t.0 t.1 none.0) in_order has;
        }

ordered_after : (L : Layout) → 5 ≤ L.nodes → (turns : List (ℕ × Event)) → All (λ t. HasKey t.1) turns
    → (c : Configuration) → IsOrdered L c → IsOrdered L (after_in c turns)
unfolding after_in
ordered_after L enough [] keys c o = o
ordered_after L enough (t ∷ ts) keys c o = ordered_after L enough ts (λ k d below. keys (suc k) d (omega arith))
    (next_in c t) (ordered_next L enough c t (keys 0 t (omega arith)) o)

pub each_ordered : (L : Layout) → 5 ≤ L.nodes → (turns : List (ℕ × Event)) → All (λ t. HasKey t.1) turns
    → IsOrdered L (after_in (ordered L) turns)
unfolding after
each_ordered L enough turns keys = ordered_after L enough turns keys (ordered L)
    (record { searches = replicate L.workers idle; are = refl; events = []; leads = refl; law = law_start L })

-- the laws of every run hold of its state
pub law_of_state : (L : Layout) → 5 ≤ L.nodes → (c : Configuration) → IsOrdered L c → (h : ℕ → ℕ) × Lawful c.state h
law_of_state L enough c o = (
  (lawful L enough o.events).holder,
  subst
      (λ (s : State). Lawful s (lawful L enough o.events).holder) (sym o.leads) (lawful L enough o.events).law,
)

-- ---- the laws

module _ (L : Layout) (enough : 5 ≤ L.nodes) (c : Configuration) (o : IsOrdered L c) where
  abbrev m : Memory
  m = c.state.memory

  in_interval : (k x : ℕ) (r : Reached m x) → GoesBy (child m) (key m) k 1 r.path → InInterval m k x
  in_interval k x r goes = record { path = r.path; ends = r.ends; goes = goes }

  pub keys_lie : KeysLieInIntervals c
  keys_lie x r = in_interval (key m x) x r (subst (λ (y : ℕ). GoesBy (child m) (key m) (key m y) 1 r.path) r.ends
      (o.law.order r.path (λ z. r.is_slot (sym r.ends ∙ z))))

  leaf_null : (n : Node) → is_leaf n ≡ true → (n.left.slot ≡ 0) × (n.right.slot ≡ 0)
  leaf_null n leaf = let parts = and_parts (n.left.slot == 0) (n.right.slot == 0) leaf in
      (eqb-true n.left.slot 0 parts.0, eqb-true n.right.slot 0 parts.1)

  null_at : (x : ℕ) → is_leaf (node m x) ≡ true → (d : Side) → child m x d ≡ 0
  null_at x leaf Left = (leaf_null (node m x) leaf).0
  null_at x leaf Right = (leaf_null (node m x) leaf).1

  -- one leaf at most has a key in its interval
  pub one_leaf_for : (k x y : ℕ) → InInterval c.state.memory k x → InInterval c.state.memory k y → x ≢ 0 → y ≢ 0
      → is_leaf (node c.state.memory x) ≡ true → is_leaf (node c.state.memory y) ≡ true → x ≡ y
  one_leaf_for k x y p q some some' leaf leaf' =
      let path : p.path ≡ q.path = one_leaf (child m) null (key m) k 1 p.path q.path p.goes q.goes
      (λ z. some (sym p.ends ∙ z)) (λ z. some' (sym q.ends ∙ z)) (rw p.ends (null_at x leaf))
      (rw q.ends (null_at y leaf')) in
      sym p.ends ∙ (ap (follow (child m) 1) path ∙ q.ends)
    where
      null : (d : Side) → child m 0 d ≡ 0
      null d = ap (λ (s : State). child s.memory 0 d) o.leads
          ∙ (let l = lawful L enough o.events in ap (λ (e : Edge). e.slot) (l.law.tree.nothing d))

  pub own_keys : LeavesHaveTheirOwnKeys c
  own_keys x y r q leaf leaf' same = one_leaf_for (key m x) x y (keys_lie x r) (rw same (keys_lie y q)) r.is_slot
      q.is_slot leaf leaf'

  -- the law of the walks that came to a slot
  pub walk_law : (u k : ℕ) (a : Arrival) (h : HasCome c u k a)
      → WalkLaw c.state.layout.radix (child m) (key m) (knows (of c.state u)) k (search_of h.searches u).walks
  walk_law u k a h = subst (λ (n : ℕ). WalkLaw c.state.layout.radix (child m) (key m) (knows (of c.state u)) n
      (search_of h.searches u).walks) h.is_key (by (search_of h.searches u).call h.is_call all)
    where
      same : o.searches ≡ h.searches
      same = same_Some o.searches h.searches (sym o.are ∙ h.are)

      all : ForCall c.state.layout.radix m (knows (of c.state u)) (search_of h.searches u).call
          (search_of h.searches u).walks
      all = subst (λ (ss : List Search). ForCall c.state.layout.radix m (knows (of c.state u)) (search_of ss u).call
          (search_of ss u).walks) same (o.law.walks u)

      by : (call : Option Call) → call ≡ Some h.call
          → ForCall c.state.layout.radix m (knows (of c.state u)) call (search_of h.searches u).walks
          → WalkLaw c.state.layout.radix (child m) (key m) (knows (of c.state u)) h.call.key
          (search_of h.searches u).walks
      by None is f = absurd (none-some h.call is)
      by (Some call) is f = subst (λ (x : Call). WalkLaw c.state.layout.radix (child m) (key m)
          (knows (of c.state u)) x.key (search_of h.searches u).walks) (same_Some call h.call is) f.1

  pub has_child : (x : ℕ) → is_leaf (node c.state.memory x) ≡ false → (d : Side) × (child c.state.memory x d ≢ 0)
  has_child x not_leaf = by ((node m x).left.slot == 0) refl not_leaf
    where
      by : (b : Bool) → ((node m x).left.slot == 0) ≡ b → (b && ((node m x).right.slot == 0)) ≡ false
          → (d : Side) × (child m x d ≢ 0)
      by false is not_leaf = (Left, eqb-false (node m x).left.slot 0 is)
      by true is not_leaf = (Right, eqb-false (node m x).right.slot 0 not_leaf)

  -- the search for k comes to an internal node that is reached, where one comes that goes on from
  -- it
  pub lies_onward : (k x : ℕ) → Onward (child c.state.memory) (key c.state.memory) k x → Reached c.state.memory x
      → is_leaf (node c.state.memory x) ≡ false → InInterval c.state.memory k x
  lies_onward k x onward r inner = let d = has_child x inner in in_interval k x r (onward [] r.path d.0 tt d.1 r.ends)

  stay_in_order : WalksStayInOrder c
  stay_in_order search u k a h r inner = lies_onward k a.slot ((walk_law u k a h).onward search h.index a h.is) r inner

  pub read_keys : WalksReadKeys c
  read_keys u k n a h is = (walk_law u k a h).is_keyed h.index a n h.is is

-- ---- a link that is won

module _ (L : Layout) (enough : 5 ≤ L.nodes) (c : Configuration) (o : IsOrdered L c) where
  h : ℕ → ℕ
  h = (law_of_state L enough c o).0

  law_here : Lawful c.state h
  unfolding h
  law_here = (law_of_state L enough c o).1

  -- leaves, by children
  leaf_of : (m : Memory) (x : ℕ) → Reached m x → is_leaf (node m x) ≡ true → LeafOf (child m) x
  leaf_of m x r leaf = record { path = r.path; ends = r.ends; is_slot = r.is_slot; null = null }
    where
      null : (d : Side) → child m x d ≡ 0
      null Left = eqb-true _ 0 (and_parts ((node m x).left.slot == 0) ((node m x).right.slot == 0) leaf).0
      null Right = eqb-true _ 0 (and_parts ((node m x).left.slot == 0) ((node m x).right.slot == 0) leaf).1

  in_set : (m : Memory) (x k : ℕ) → LeafOf (child m) x → key m x ≡ k → InSet m k
  in_set m x k leaf has = record {
    slot = x;
    reached = record { path = leaf.path; ends = leaf.ends; is_slot = leaf.is_slot };
    leaf = and_from ((node m x).left.slot == 0) ((node m x).right.slot == 0) (eq-eqb _ 0 (leaf.null Left))
        (eq-eqb _ 0 (leaf.null Right));
    has_key = has;
  }

  gained : (w p : ℕ) (d : Side) (leaf new : ℕ) → Allowed c.state w (Link p d leaf new)
      → is_to (edge c.state.memory p d) leaf ≡ true → disorder c.state.layout (of c.state w) (search_of o.searches w)
      (Link p d leaf new) ≡ None
      → (k : ℕ) × IsCalled c w Insert k × Gains c.state.memory (put_edge c.state.memory p d (to new)) k
  gained w p d leaf new ok won in_order = (
    of_call.call.key,
    record {
      searches = o.searches;
      are = o.are;
      is_call = of_call.is_call
          ∙ ap (λ (op : Op). Some (record { op = op; key = of_call.call.key })) of_call.is_op;
    },
    record { was_not = was_not; now = λ j. (there j, back j) },
  )
    where
      m : Memory
      m = c.state.memory

      m' : Memory
      m' = put_edge c.state.memory p d (to new)

      k : WonLink c.state h law_here w p d leaf new
      k = won_link c.state h law_here w p d leaf new ok won

      of_call : LinkOfCall c.state h law_here w (search_of o.searches w) p d leaf new k.drafts
          (child (put_edge c.state.memory p d (to new)))
      of_call = link_of_call c.state h law_here w (rw o.leads (each_birth_stands L enough o.events)) o.law.order
          o.law.nested (search_of o.searches w) p d leaf new in_order o.law.fixed (o.law.walks w) k.drafts k.link
          (child (put_edge c.state.memory p d (to new))) k.exchanged

      some : new ≢ 0
      some z = let r = law_here.tree.privates w new k.link.own in absurd (omega arith)

      far_slot : k.drafts.far ≢ 0
      far_slot z = let r = law_here.tree.privates w k.drafts.far k.link.far_own in absurd (omega arith)

      keys : (x : ℕ) → key (put_edge c.state.memory p d (to new)) x ≡ key c.state.memory x
      keys x = by (is_to (edge c.state.memory p d) leaf) won (link_keys x)
        where
          link_keys : (x : ℕ) → key (cond (is_to (edge c.state.memory p d) leaf)
              (put_edge c.state.memory p d (to new)) c.state.memory) x ≡ key c.state.memory x
          link_keys x = written_keys c.state.memory (of c.state w) w p d leaf new x

          by : (b : Bool) → b ≡ true → key (cond b (put_edge c.state.memory p d (to new)) c.state.memory) x
              ≡ key c.state.memory x → key (put_edge c.state.memory p d (to new)) x ≡ key c.state.memory x
          by true t i = i
          by false t i = absurd (true≢false (sym t))

      was_not : InSet c.state.memory of_call.call.key → ⊥
      was_not s = key_is_new (child m) (child m') (key m) p d leaf new k.drafts.far k.drafts.side of_call.linking
          some far_slot o.law.order s.slot (leaf_of m s.slot s.reached s.leaf) (s.has_key ∙ sym of_call.is_key)

      there : (j : ℕ) → InSet (put_edge c.state.memory p d (to new)) j → InSet c.state.memory j ⊎ (j ≡ of_call.call.key)
      there j s = elim (leaf_was (child m) (child m') (key m) p d leaf new k.drafts.far k.drafts.side of_call.linking
          some far_slot s.slot (leaf_of m' s.slot s.reached s.leaf)) [
            | inl was ↦ inl (in_set m s.slot j was (sym (keys s.slot) ∙ s.has_key))
            | inr is ↦ inr (sym s.has_key ∙ (keys s.slot ∙ (ap (key m) is ∙ of_call.is_key)))
          ]

      back : (j : ℕ) → InSet c.state.memory j ⊎ (j ≡ of_call.call.key) → InSet (put_edge c.state.memory p d (to new)) j
      back j (inl s) = in_set m' s.slot j (leaf_stays (child m) (child m') (key m) p d leaf new k.drafts.far
          k.drafts.side of_call.linking some far_slot s.slot (leaf_of m s.slot s.reached s.leaf))
          (keys s.slot ∙ s.has_key)
      back j (inr is) = in_set m' k.drafts.far j (new_leaf (child m) (child m') (key m) p d leaf new k.drafts.far
          k.drafts.side of_call.linking some far_slot) (keys k.drafts.far ∙ (of_call.is_key ∙ sym is))

  links_insert : LinksInsert c
  unfolding outcome_in next_in applied_in refused_in applied reply write
  links_insert w p d leaf new n is = go (or_else (refused c.state w (Link p d leaf new))
      (disorder_in c w (Link p d leaf new))) refl is
    where
      go : (r : Option Refused) → or_else (refused c.state w (Link p d leaf new))
          (disorder_in c w (Link p d leaf new)) ≡ r → ◌≡◌ {A = Result Reply Refused}
          (answered r (cond (is_to (edge c.state.memory p d) leaf) (Linked (node_linked (of c.state w) new))
          (Lost (edge c.state.memory p d)))) (Ok (Linked n))
          → (k : ℕ) × IsCalled c w Insert k × Gains c.state.memory
          (unless_refused_in r c (applied_in c w (Link p d leaf new))).state.memory k
      go (Some x) none is = absurd (no_reply x (Linked n) is)
      go None none is = won (is_to (edge c.state.memory p d) leaf) refl (same_reply _ _ is)
        where
          parts : (refused c.state w (Link p d leaf new) ≡ None) × (disorder_in c w (Link p d leaf new) ≡ None)
          parts = neither (refused c.state w (Link p d leaf new)) (disorder_in c w (Link p d leaf new)) none

          won : (b : Bool) → is_to (edge c.state.memory p d) leaf ≡ b
              → cond b (Linked (node_linked (of c.state w) new)) (Lost (edge c.state.memory p d)) ≡ Linked n
              → (k : ℕ) × IsCalled c w Insert k × Gains c.state.memory
              (cond (is_to (edge c.state.memory p d) leaf) (put_edge c.state.memory p d (to new)) c.state.memory) k
          won true t r = rw t (gained w p d leaf new (allowed c.state w (Link p d leaf new) parts.0) t
              (ap (λ ss. disorder_among c.state.layout ss (of c.state w) w (Link p d leaf new)) (sym o.are) ∙ parts.1))
          won false t r = absurd (no_link r)
            where
              no_link : Lost (edge c.state.memory p d) ≡ Linked n → ⊥
              no_link e = cc

-- ---- the keys that are told

module _ (s : State) (h : ℕ → ℕ) (law : Lawful s h) where
  -- of a core that is ordered or not, the keys that are told are those of the reached leaves
  pub keys_of_state : (k : ℕ) → Contains (keys s) k ↔ InSet s.memory k × (k < infinity_0)
  keys_of_state k = (told, set)
    where
      told : Contains (keys s) k → InSet s.memory k × (k < infinity_0)
      told there =
          let u : Under s.memory 1 k = under s.memory s.layout.nodes 1 k
          (there.0, slice_get-get_or (keys s) there.0 k there.1 ∙ ap (λ (n : ℕ). Some n) there.2) in (
            record {
              slot = follow (child s.memory) 1 u.path;
              reached =
                  record { path = u.path; ends = refl; is_slot = u.is_slot };
              leaf = u.leaf;
              has_key = u.has_key;
            },
            u.low,
          )

      set : InSet s.memory k × (k < infinity_0) → Contains (keys s) k
      set x =
          let once = reached_once s h law.tree x.0.slot
          (record { path = x.0.reached.path; ends = x.0.reached.ends; is_slot = x.0.reached.is_slot }) in
          let i = found s.memory s.layout.nodes 1 x.0.slot k (λ z. absurd (omega (arith, once, z))) x.0.leaf
          x.0.has_key x.1 in
          (i.0, slice_get_within (keys s) i.0 k i.1, get_or_from_slice_get (keys s) i.0 k k i.1)

keys_tell : (L : Layout) (enough : 5 ≤ L.nodes) (c : Configuration) (o : IsOrdered L c) → KeysTellTheSet c
keys_tell L enough c o k = let l = law_of_state L enough c o in keys_of_state c.state l.0 l.1 k

pub each_key_lies : OfEachOrdered KeysLieInIntervals
each_key_lies L enough turns keys = keys_lie L enough (after_in (ordered L) turns) (each_ordered L enough turns keys)

pub each_leaf_has_its_key : OfEachOrdered LeavesHaveTheirOwnKeys
each_leaf_has_its_key L enough turns keys = own_keys L enough (after_in (ordered L) turns)
    (each_ordered L enough turns keys)

pub each_walk_stays : OfEachOrdered WalksStayInOrder
each_walk_stays L enough turns keys = stay_in_order L enough (after_in (ordered L) turns)
    (each_ordered L enough turns keys)

pub each_walk_reads : OfEachOrdered WalksReadKeys
each_walk_reads L enough turns keys = read_keys L enough (after_in (ordered L) turns) (each_ordered L enough turns keys)

pub each_link_inserts : OfEachOrdered LinksInsert
each_link_inserts L enough turns keys = links_insert L enough (after_in (ordered L) turns)
    (each_ordered L enough turns keys)

pub each_core_tells_the_set : OfEachOrdered KeysTellTheSet
each_core_tells_the_set L enough turns keys = keys_tell L enough (after_in (ordered L) turns)
    (each_ordered L enough turns keys)

pub each_key_ascends : OfEachOrdered KeysAscend
each_key_ascends L enough turns keys =
    let o = each_ordered L enough turns keys in
    keys_ascend (after_in (ordered L) turns).state.memory o.law.order (after_in (ordered L) turns).state.layout.nodes
