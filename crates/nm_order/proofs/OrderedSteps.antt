-- The order law of a state with its searches, and that each event that is in order keeps it.
use Rattle.std.proofs.Common.{◌≡◌, ◌≢◌, ℕ, ◌<◌, ◌≤◌, inl, inr, ◌⊎◌, eqb, ◌==◌, Bool, true, false, cond, not, ◌&&◌, ◌||◌, List, [], length, refl, sym, ap, subst, ◌∙◌, arith, true≢false, get_or-set_same, get_or-set_other}
use Rattle.std.specs.Prelude.{Option, Some, None}
use Rattle.std.specs.List.{list_any}
use native.Mathlib.Decide.{ℕ_discrete}
use Rattle.std.proofs.lemmas.Bool.{cond_both, cond-true, cond-false, eqb-true, eq-eqb, ne_eqb, and_parts, not-false, false_from_ne_true}
use Rattle.std.proofs.lemmas.List.{length-set}
use Rattle.nm_edge.specs.Keys.{IsKey}
use Rattle.nm_edge.specs.declared.edge.Side.{Side}
use Rattle.nm_edge.specs.declared.edge.Side.TheVariants.{Left}
use Rattle.nm_model.specs.declared.event.Field.{Field}
use Rattle.nm_model.specs.declared.event.Field.TheVariants.{Key, Edge as EdgeOn, Birth}
use Rattle.nm_model.specs.declared.event.Op.{Op}
use Rattle.nm_model.specs.declared.event.Op.TheVariants.{Has, Insert, Delete}
use Rattle.nm_model.specs.declared.event.Event.{Event}
use Rattle.nm_model.specs.declared.event.Event.TheVariants.{Look, Link, Join}
use Rattle.nm_model.specs.declared.reply.Reply.{Reply}
use Rattle.nm_model.specs.declared.reply.Refused.TheVariants.{NotOrdered}
use Rattle.nm_model.specs.declared.knowledge.Seen.{Seen}
use Rattle.nm_model.specs.declared.arrivals.Call.{Call}
use Rattle.nm_model.specs.declared.arrivals.Arrival.{Arrival}
use Rattle.nm_model.specs.declared.reply.Reply.TheVariants.{EdgeIs}
use Rattle.nm_model.specs.Maps.{has, put, is_number}
use Rattle.nm_model.specs.Memory.{Memory, child, edge}
use Rattle.nm_model.specs.Knowledge.{knows, knows_leaf, is_private, seen_of, draft_of, unread}
use Rattle.nm_model.specs.Learning.{learn, look_known, look_private, met, with_read, resigned, inheriting}
use Rattle.nm_model.specs.Step.{reply, write}
use Rattle.nm_model.specs.Runs.{State, of, reply_of, applied}
use Rattle.nm_model.specs.Lawful.{EachBirthStands}
use Rattle.nm_model.specs.Searches.{Search, idle, searched, walked, look_for, is_first, goes_on, turns, is_side, is_by}
use Rattle.nm_model.proofs.Numbers.{number_is}
use Rattle.nm_model.specs.Ordered.{search_of, learned_from, disorder, has_put_in, inserts, links_in_order, swaps, swaps_in_order, ended_at, may_flag_at, may_link_at, may_link_between, narrows, shows_place, new_leaf}
use Rattle.nm_order.specs.Intervals.{HasKey, key}
use Rattle.nm_model.proofs.Lists.{any_at}
use Rattle.nm_laws.proofs.Steps.{Allowed, passed}
use Rattle.nm_model.proofs.Tables.{has_put_there}
use Rattle.nm_laws.proofs.Epochs.{other_worker}
use Rattle.nm_laws.proofs.Holders.{Joins, joins, by_worker}
use Rattle.nm_laws.proofs.Trees.{Children, Exchanged}
use Rattle.nm_laws.proofs.Links.{IsLink}
use Rattle.nm_laws.proofs.Views.{picture, of_moved, with_worker}
use Rattle.nm_laws.proofs.TreeLink.{Linkable}
use Rattle.nm_laws.proofs.TreeSteps.{Lawful}
use Rattle.nm_laws.proofs.Lawful.{applied_is, JoinOrNot, join_or_not}
use Rattle.nm_laws.proofs.Lawful.JoinOrNot.{IsJoin, IsNone}
use Rattle.nm_order.proofs.TreeChanges.{tree_change}
use Rattle.nm_order.proofs.OrderedTrees.{InOrder, Linking}
use Rattle.nm_order.proofs.SearchSteps.{StillKnown, SearchStep, search_step}
use Rattle.nm_order.proofs.SearchSteps.SearchStep.{Same, Looked, Begun, Over}
use Rattle.nm_order.proofs.OrderedWalks.{WalkLaw, no_walks, walks_last, key_looked, edge_looked}
use Rattle.nm_order.proofs.OrderedChanges.{FixedKeys, first_onward, Outlasts, AsksKey, AsksOrder, outlasts}
use Rattle.nm_order.proofs.OrderedLinks.{far_key, linking_shown}
use Rattle.nm_order.proofs.RadixTrees.{RadixLaw, Parting}
use Rattle.nm_order.proofs.RadixChanges.{parting, radix_linking, AsksPart, radix_outlasts}

-- the walks of a worker's call, by the tree's shape and what it knows
abbrev pub ForCall : Bool → Memory → (ℕ → Bool) → Option Call → List Arrival → Type 0
ForCall shape m known None ws = Unit {0}
ForCall shape m known (Some call) ws = IsKey call.key × WalkLaw shape (child m) (key m) known call.key ws

pub record OrderLaw (s : State) (ss : List Search) : Type 0 where
  pub sized : length ss ≡ s.layout.workers
  pub order : InOrder (child s.memory) (key s.memory)
  pub fixed : FixedKeys s.memory
  pub nested : s.layout.radix ≡ true → RadixLaw (child s.memory) (key s.memory)
  pub walks : (u : ℕ) → ForCall s.layout.radix s.memory (knows (of s u)) (search_of ss u).call (search_of ss u).walks

-- ---- what is known after an event

abbrev StillKnownBy : (ℕ → Bool) → (ℕ → Bool) → Type 0
StillKnownBy known more = (x : ℕ) → known x ≡ true → more x ≡ true

-- a slot that was met is known
pub met_is_known : (m : List (ℕ × Seen)) (x : ℕ) → x ≢ 0 → has (met m x) x ≡ true
met_is_known m x some = cond_both (x == 0) m (cond (has m x) m (put m x unread)) (λ l. has l x ≡ true)
    (λ z. absurd (some (eqb-true x 0 z)))
    (λ _. cond_both (has m x) m (put m x unread) (λ l. has l x ≡ true) (λ h. h)
    (λ _. has_put_there m x unread x (inl refl)))

module _ (s : State) (h : ℕ → ℕ) (law : Lawful s h) (w : ℕ) where
  inside_list : (v : ℕ) → v < s.layout.workers → v < length s.workers
  inside_list v lt = let size = law.staffed.workers in omega arith

  -- what the worker learned is what it knows, and nobody else knows less
  pub record Knows (e : Event) : Type 0 where
    pub own : StillKnown (learn w (of s w) e (reply_of s w e)) (of (applied s w e) w)
    pub others : (u : ℕ) → u ≢ w → StillKnown (of s u) (of (applied s w e) u)

  pub knows_after : (e : Event) → Allowed s w e → Knows e
  unfolding learn
  knows_after e ok = go (join_or_not e)
    where
      go : JoinOrNot e → Knows e
      go (IsNone alone) =
          let is : (u : ℕ) → of (applied s w e) u ≡ with_worker (of s) w (learn w (of s w) e (reply_of s w e)) u =
          λ u. ap (λ (t : State). of t u) (applied_is s w e alone)
          ∙ of_moved s w (write s.memory (of s w) w e) (learn w (of s w) e (reply_of s w e))
          (inside_list w ok.worker) u in
          record {
            own = λ x k. rw (
              is w,
              cond-true (eqb w w) (learn w (of s w) e (reply_of s w e)) (of s w)
                  (eq-eqb w w refl),
            ) k;
            others = λ u ne x k. rw (
              is u,
              cond-false (eqb u w) (learn w (of s w) e (reply_of s w e)) (of s u)
                  (ne_eqb u w ne),
            ) k;
          }
      go (IsJoin v is) = subst Knows (sym is) (joined v (subst (λ (x : Event). Allowed s w x) is ok))
        where
          joined : (v : ℕ) → Allowed s w (Join v) → Knows (Join v)
          joined v ok =
              let there = other_worker s w v ok.event in
              let j : Joins s (applied s w (Join v)) w v = joins s w v (inside_list w ok.worker)
              (inside_list v there.1) there.0 in
              record {
                own = λ x k. rw j.heir (cond_both (eqb w v) (resigned (of s w))
                    (inheriting (of s w) (of s v).ledgers) (λ l. knows l x ≡ true → knows (of s w) x ≡ true) (λ _ z. z)
                    (λ _ z. z) k);
                others = λ u ne x k. by_worker s (applied s w (Join v)) w v j
                    (λ y l. y ≢ w → knows (of s y) x ≡ true → knows l x ≡ true) (λ n. absurd (n refl)) (λ _ z. z)
                    (λ y _ _ _ z. z) u ne k;
              }

  -- ---- a look

  -- a slot to which a walk goes is not private, so the look makes its child known
  pub looked_known : (x : ℕ) (d : Side) → is_private (of s w) x ≡ false → child s.memory x d ≢ 0
      → knows (learn w (of s w) (Look x (EdgeOn d)) (reply_of s w (Look x (EdgeOn d)))) (child s.memory x d) ≡ true
  unfolding reply learn
  looked_known x d out some = cond_both (is_private (of s w) x)
      (look_private (of s w) x (EdgeOn d) (EdgeIs (edge s.memory x d)))
      (look_known (of s w) x (EdgeOn d) (EdgeIs (edge s.memory x d))) (λ l. knows l (child s.memory x d) ≡ true)
      (λ own. absurd (true≢false (sym own ∙ out)))
      (λ _. has_put_there (met (of s w).known (child s.memory x d)) x
      (with_read (seen_of (of s w) x) d (edge s.memory x d)) (child s.memory x d)
      (inr (met_is_known (of s w).known (child s.memory x d) some)))

  pub known_not_private : (x : ℕ) → knows (of s w) x ≡ true → is_private (of s w) x ≡ false
  known_not_private x known = (law.tree.guarded w x
      (record {
        from = x;
        known = known;
        path = [];
        ends = refl;
        is_slot = λ z.
            (let r = law.tree.known w x known in absurd (omega arith));
      })).shared w

  pub low_not_private : (x : ℕ) → x ≤ 5 → is_private (of s w) x ≡ false
  low_not_private x low = false_from_ne_true (is_private (of s w) x)
      (λ own. let r = law.tree.privates w x own in absurd (omega arith))

  pub look_law : (k : ℕ) (ws : List Arrival) (x : ℕ) (f : Field) → IsKey k → FixedKeys s.memory
      → StillKnown (of s w) (learn w (of s w) (Look x f) (reply_of s w (Look x f)))
      → WalkLaw s.layout.radix (child s.memory) (key s.memory) (knows (of s w)) k ws
      → WalkLaw s.layout.radix (child s.memory) (key s.memory)
      (knows (learn w (of s w) (Look x f) (reply_of s w (Look x f)))) k (walked k ws x f (reply_of s w (Look x f)))
  unfolding reply
  look_law k ws x Key small fixed still walks = key_looked s.layout.radix (child s.memory) (key s.memory) _ k ws x
      (walks_last s.layout.radix (child s.memory) (child s.memory) (key s.memory) (key s.memory) _ _ k ws still
      (λ _ _. refl) (λ _ _ _ o. o) walks)
  look_law k ws x (EdgeOn d) small fixed still walks =
      edge_looked s.layout.radix (child s.memory) (key s.memory)
      (knows (learn w (of s w) (Look x (EdgeOn d)) (reply_of s w (Look x (EdgeOn d))))) k ws x d
      (λ goes some. looked_known x d (out goes) some) (λ search. first_onward s h law k (omega (arith, small)) fixed)
      (walks_last s.layout.radix (child s.memory) (child s.memory) (key s.memory) (key s.memory) _ _ k ws still
      (λ _ _. refl) (λ _ _ _ o. o) walks)
    where
      out : (is_first x d ≡ true) ⊎ (list_any (goes_on k x d) ws ≡ true) → is_private (of s w) x ≡ false
      out (inl root) = let two : x ≡ 2 = eqb-true x 2 (and_parts (x == 2) (is_side d Left) root).0 in
          low_not_private x (omega arith)
      out (inr any) =
          let b = any_at (goes_on k x d) ws any in
          let slot : b.1.slot ≡ x = eqb-true b.1.slot x (and_parts (b.1.slot == x) (turns k b.1.key d) b.3).0 in
          known_not_private x (rw slot at (walks.is_known b.0 b.1 b.2))
  look_law k ws x Birth small fixed still walks = walks_last s.layout.radix (child s.memory) (child s.memory)
      (key s.memory) (key s.memory) _ _ k ws still (λ _ _. refl) (λ _ _ _ o. o) walks

  -- ---- one event

  -- a link that is in order is one of a call to insert, whose key the new leaf has
  pub record LinkOfCall (S : Search) (p : ℕ) (d : Side) (leaf new : ℕ) (l : Linkable (of s w) new leaf)
      (c' : Children) : Type 0 where
    pub call : Call
    pub is_call : S.call ≡ Some call
    pub is_op : call.op ≡ Insert
    pub is_key : key s.memory l.far ≡ call.key
    pub linking : Linking (child s.memory) c' (key s.memory) p d leaf new l.far l.side

  pub link_of_call : EachBirthStands s → InOrder (child s.memory) (key s.memory)
      → (s.layout.radix ≡ true → RadixLaw (child s.memory) (key s.memory))
      → (S : Search) (p : ℕ) (d : Side) (leaf new : ℕ) → disorder s.layout (of s w) S (Link p d leaf new) ≡ None
      → FixedKeys s.memory → ForCall s.layout.radix s.memory (knows (of s w)) S.call S.walks
      → (l : Linkable (of s w) new leaf)
      → IsLink s.layout.radix s.layout.nodes (picture s h) w p d leaf new l.far l.side → (c' : Children)
      → Exchanged (child s.memory) c' p d new → LinkOfCall S p d leaf new l c'
  link_of_call births order nested S p d leaf new ordered fixed walks l link c' exchanged = by S.call refl walks
      (not-false (links_in_order s.layout (of s w) S S.call p d leaf new) (passed _ NotOrdered None ordered).0)
    where
      by : (o : Option Call) → S.call ≡ o → ForCall s.layout.radix s.memory (knows (of s w)) o S.walks
          → links_in_order s.layout (of s w) S o p d leaf new ≡ true → LinkOfCall S p d leaf new l c'
      by None i walks t = absurd (true≢false (sym t))
      by (Some call) i walks t = on call.op refl t
        where
          on : (op : Op) → call.op ≡ op → inserts s.layout (of s w) S op call.key p d leaf new ≡ true
              → LinkOfCall S p d leaf new l c'
          on Has is t = absurd (true≢false (sym t))
          on Delete is t = absurd (true≢false (sym t))
          on Insert is t =
              let parts = and_parts (not (has_put_in S))
              (is_number (new_leaf (of s w) leaf new).key call.key
              && shows_place s.layout (of s w) call.key p d leaf new S.walks) t in
              let rest = and_parts (is_number (new_leaf (of s w) leaf new).key call.key)
              (shows_place s.layout (of s w) call.key p d leaf new S.walks) parts.1 in
              record {
                call = call;
                is_call = i;
                is_op = is;
                is_key = far_key s h law w (births w) call.key walks.0 fixed S.walks walks.1 p d leaf new l link rest.0;
                linking = shaped s.layout.radix refl rest.0 rest.1;
              }
            where
              shaped : (shape : Bool) → s.layout.radix ≡ shape
                  → is_number (new_leaf (of s w) leaf new).key call.key ≡ true
                  → cond shape ((is_first p d || list_any (narrows call.key p d) S.walks)
                  && list_any (may_link_between (draft_of (of s w) new) (knows_leaf (of s w) leaf) call.key p d
                  leaf) S.walks) (list_any (may_link_at (draft_of (of s w) new) call.key p d leaf) S.walks) ≡ true
                  → Linking (child s.memory) c' (key s.memory) p d leaf new l.far l.side
              shaped true radix own place = radix_linking s h law w (births w) call.key walks.0 fixed S.walks walks.1
                  p d leaf new l link own order (nested radix) place c' exchanged
              shaped false search own place = linking_shown s h law w (births w) call.key walks.0 fixed S.walks
                  walks.1 p d leaf new l link own search order place c' exchanged

  -- a swap in order has the call's key at both leaves
  pub asks_key : EachBirthStands s → (e : Event) → (S : Search) → disorder s.layout (of s w) S e ≡ None
      → ForCall s.layout.radix s.memory (knows (of s w)) S.call S.walks → AsksKey s h law w e
  asks_key births e S ordered walks p d leaf new is =
      by S.call walks (not-false (swaps_in_order (of s w) S S.call p d leaf new)
      (passed _ NotOrdered None (subst (λ (x : Event). disorder s.layout (of s w) S x ≡ None) is ordered)).0)
    where
      by : (o : Option Call) → ForCall s.layout.radix s.memory (knows (of s w)) o S.walks
          → swaps_in_order (of s w) S o p d leaf new ≡ true → key s.memory new ≡ key s.memory leaf
      by None walks t = absurd (true≢false (sym t))
      by (Some call) walks t = on call.op t
        where
          on : (op : Op) → swaps (of s w) S op call.key p d leaf new ≡ true → key s.memory new ≡ key s.memory leaf
          on Has t = absurd (true≢false (sym t))
          on Delete t = absurd (true≢false (sym t))
          on Insert t =
              let fresh = and_parts (not (has_put_in S))
              (is_number (draft_of (of s w) new).key call.key
              && list_any (may_flag_at call.key p d leaf) S.walks) t in
              let parts = and_parts (is_number (draft_of (of s w) new).key call.key)
              (list_any (may_flag_at call.key p d leaf) S.walks) fresh.1 in
              let found = any_at (may_flag_at call.key p d leaf) S.walks parts.1 in
              let two = and_parts (is_by leaf p d found.1) (ended_at call.key found.1) found.3 in
              let slot = eqb-true found.1.slot leaf
              (and_parts (found.1.slot == leaf) ((found.1.parent == p) && is_side found.1.side d) two.0).0 in
              let read = number_is found.1.key call.key
              (and_parts found.1.ended (is_number found.1.key call.key) two.1).1 in
              (births w).key new call.key (number_is (draft_of (of s w) new).key call.key parts.0)
              ∙ sym (ap (key s.memory) (sym slot) ∙ walks.1.is_keyed found.0 found.1 call.key found.2 read)

  pub asks_order : EachBirthStands s → InOrder (child s.memory) (key s.memory)
      → (s.layout.radix ≡ true → RadixLaw (child s.memory) (key s.memory)) → (e : Event) → (S : Search)
      → disorder s.layout (of s w) S e ≡ None → FixedKeys s.memory
      → ForCall s.layout.radix s.memory (knows (of s w)) S.call S.walks → AsksOrder s h law w e
  asks_order births order nested e S ordered fixed walks = (
    asks_key births e S ordered walks,
    λ p d leaf new is l link c' exchanged.
        (link_of_call births order nested S p d leaf new
        (subst (λ (x : Event). disorder s.layout (of s w) S x ≡ None) is
        ordered) fixed walks l link c' exchanged).linking,
  )

  -- walks outlast an event by which no less is known
  pub last : (m : Memory) → Outlasts s h law m → (u : ℕ) (known : ℕ → Bool) → StillKnownBy (knows (of s u)) known
      → (call : Option Call) (ws : List Arrival) → ForCall s.layout.radix s.memory (knows (of s u)) call ws
      → ForCall s.layout.radix m known call ws
  last m o u known more None ws f = tt
  last m o u known more (Some call) ws f = (
    f.0,
    walks_last s.layout.radix (child s.memory) (child m) (key s.memory)
        (key m) (knows (of s u)) known call.key ws more (o.keys u) (λ search z k. o.onward search u z call.key k) f.1,
  )

  look_step : (S : Search) (x : ℕ) (f : Field) → FixedKeys s.memory
      → ForCall s.layout.radix s.memory (knows (of s w)) S.call S.walks
      → StillKnown (of s w) (learn w (of s w) (Look x f) (reply_of s w (Look x f))) → Knows (Look x f)
      → ForCall s.layout.radix (applied s w (Look x f)).memory (knows (of (applied s w (Look x f)) w))
      (look_for S S.call x f (reply_of s w (Look x f))).call (look_for S S.call x f (reply_of s w (Look x f))).walks
  unfolding applied write
  look_step S x f fixed walks still k = by S.call refl walks
    where
      r : Reply
      r = reply_of s w (Look x f)

      by : (o : Option Call) → S.call ≡ o → ForCall s.layout.radix s.memory (knows (of s w)) o S.walks
          → ForCall s.layout.radix s.memory (knows (of (applied s w (Look x f)) w))
          (look_for S o x f (reply_of s w (Look x f))).call (look_for S o x f (reply_of s w (Look x f))).walks
      by None i walks = rw i tt
      by (Some call) i walks = rw i (
        walks.0,
        walks_last s.layout.radix (child s.memory) (child s.memory) (key s.memory) (key s.memory) _
            (knows (of (applied s w (Look x f)) w)) call.key (walked call.key S.walks x f (reply_of s w (Look x f)))
            k.own (λ _ _. refl) (λ _ _ _ o. o)
            (look_law call.key S.walks x f walks.0 fixed still walks.1),
      )

  walks_step : EachBirthStands s → (ss : List Search) → OrderLaw s ss → (e : Event) → Allowed s w e
      → disorder s.layout (of s w) (search_of ss w) e ≡ None → HasKey e
      → Outlasts s h law (write s.memory (of s w) w e) → (u : ℕ)
      → ForCall s.layout.radix (applied s w e).memory (knows (of (applied s w e) u))
      (search_of (learned_from ss w e (reply_of s w e)) u).call
      (search_of (learned_from ss w e (reply_of s w e)) u).walks
  unfolding applied
  walks_step births ss l e ok ordered has o u = elim (ℕ_discrete u w) [
    | yes is ↦ rw (
      is,
      get_or-set_same ss w (searched (search_of ss w) e (reply_of s w e)) idle
          (let size = l.sized in let lt = ok.worker in omega arith),
    )
        (own (search_step (search_of ss w) w (of s w) e (reply_of s w e)))
    | no ne ↦ rw (get_or-set_other ss w u (searched (search_of ss w) e (reply_of s w e)) idle ne)
        (last (write s.memory (of s w) w e) o u (knows (of (applied s w e) u)) (k.others u ne) (search_of ss u).call
        (search_of ss u).walks (l.walks u))
  ]
    where
      k : Knows e
      k = knows_after e ok

      S : Search
      S = search_of ss w

      own : SearchStep (search_of ss w) w (of s w) e (reply_of s w e)
          → ForCall s.layout.radix (write s.memory (of s w) w e) (knows (of (applied s w e) w))
          (searched (search_of ss w) e (reply_of s w e)).call (searched (search_of ss w) e (reply_of s w e)).walks
      own (Same call walks still) = rw (call, walks)
          (last (write s.memory (of s w) w e) o w (knows (of (applied s w e) w)) (λ x h. k.own x (still x h))
          (search_of ss w).call (search_of ss w).walks (l.walks w))
      own (Looked x f is becomes still) = rw becomes (at_look e x f is still k)
        where
          at_look : (e : Event) (x : ℕ) (f : Field) → e ≡ Look x f
              → StillKnown (of s w) (learn w (of s w) e (reply_of s w e)) → Knows e
              → ForCall s.layout.radix (write s.memory (of s w) w e) (knows (of (applied s w e) w))
              (look_for (search_of ss w) (search_of ss w).call x f (reply_of s w e)).call
              (look_for (search_of ss w) (search_of ss w).call x f (reply_of s w e)).walks
          at_look e x f is = subst (λ (y : Event). StillKnown (of s w) (learn w (of s w) y (reply_of s w y)) → Knows y
              → ForCall s.layout.radix (write s.memory (of s w) w y) (knows (of (applied s w y) w))
              (look_for (search_of ss w) (search_of ss w).call x f (reply_of s w y)).call
              (look_for (search_of ss w) (search_of ss w).call x f (reply_of s w y)).walks) (sym is)
              (look_step (search_of ss w) x f l.fixed (l.walks w))
      own (Begun op n is call walks) = rw (call, walks) (
        subst HasKey is has,
        no_walks s.layout.radix (child (write s.memory (of s w) w e))
            (key (write s.memory (of s w) w e)) (knows (of (applied s w e) w)) n,
      )
      own (Over call) = rw call tt

  -- the law of a radix tree is kept
  pub radix_step : EachBirthStands s → (e : Event) → Allowed s w e → (S : Search)
      → disorder s.layout (of s w) S e ≡ None → InOrder (child s.memory) (key s.memory) → FixedKeys s.memory
      → ForCall s.layout.radix s.memory (knows (of s w)) S.call S.walks
      → s.layout.radix ≡ true → RadixLaw (child s.memory) (key s.memory)
      → RadixLaw (child (write s.memory (of s w) w e)) (key (write s.memory (of s w) w e))
  radix_step births e ok S ordered order fixed walks radix nested =
      radix_outlasts s h law w e (write s.memory (of s w) w e) fixed order nested
      (asks_key births e S ordered walks) asks (tree_change s h law w e ok)
    where
      asks : AsksPart s h law w e
      asks p d leaf new is l link = by S.call walks (not-false
          (links_in_order s.layout (of s w) S S.call p d leaf new)
          (passed _ NotOrdered None (subst (λ (x : Event). disorder s.layout (of s w) S x ≡ None) is ordered)).0)
        where
          by : (o : Option Call) → ForCall s.layout.radix s.memory (knows (of s w)) o S.walks
              → links_in_order s.layout (of s w) S o p d leaf new ≡ true
              → Parting (child s.memory) (key s.memory) p d leaf new l.far l.side
          by None walks t = absurd (true≢false (sym t))
          by (Some call) walks t = on call.op t
            where
              shaped : (shape : Bool) → shape ≡ true
                  → cond shape ((is_first p d || list_any (narrows call.key p d) S.walks)
                  && list_any (may_link_between (draft_of (of s w) new) (knows_leaf (of s w) leaf) call.key p d
                  leaf) S.walks) (list_any (may_link_at (draft_of (of s w) new) call.key p d leaf) S.walks) ≡ true
                  → ((is_first p d || list_any (narrows call.key p d) S.walks)
                  && list_any (may_link_between (draft_of (of s w) new) (knows_leaf (of s w) leaf) call.key p d
                  leaf) S.walks) ≡ true
              shaped true is t = t
              shaped false is t = absurd (true≢false (sym is))

              on : (op : Op) → inserts s.layout (of s w) S op call.key p d leaf new ≡ true
                  → Parting (child s.memory) (key s.memory) p d leaf new l.far l.side
              on Has t = absurd (true≢false (sym t))
              on Delete t = absurd (true≢false (sym t))
              on Insert t =
                  let parts = and_parts (not (has_put_in S))
                  (is_number (new_leaf (of s w) leaf new).key call.key
                  && shows_place s.layout (of s w) call.key p d leaf new S.walks) t in
                  let rest = and_parts (is_number (new_leaf (of s w) leaf new).key call.key)
                  (shows_place s.layout (of s w) call.key p d leaf new S.walks) parts.1 in
                  parting s h law w (births w) call.key walks.0 fixed S.walks walks.1 p d leaf new l link rest.0
                  (shaped s.layout.radix radix rest.1)

  -- an event that is allowed and in order keeps the law
  pub order_step : EachBirthStands s → (ss : List Search) → OrderLaw s ss → (e : Event) → Allowed s w e
      → disorder s.layout (of s w) (search_of ss w) e ≡ None → HasKey e
      → OrderLaw (applied s w e) (learned_from ss w e (reply_of s w e))
  unfolding applied
  order_step births ss l e ok ordered has =
      let o : Outlasts s h law (write s.memory (of s w) w e) = outlasts s h law w e (write s.memory (of s w) w e)
      l.order (asks_order births l.order l.nested e (search_of ss w) ordered l.fixed (l.walks w))
      (tree_change s h law w e ok) in
      record {
        sized = length-set ss w (searched (search_of ss w) e (reply_of s w e)) ∙ l.sized;
        order = o.order l.order;
        fixed = o.fixed l.fixed;
        nested = λ radix. radix_step births e ok (search_of ss w) ordered l.order l.fixed (l.walks w) radix
            (l.nested radix);
        walks = walks_step births ss l e ok ordered has o;
      }
