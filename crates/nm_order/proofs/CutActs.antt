-- The deletes of one cut, in the order of its leaves.
use Rattle.std.proofs.Common.{◌≡◌, ◌≢◌, ℕ, zero, suc, ◌+◌, ◌≤◌, inl, inr, ◌==◌, Bool, true, false, cond, List, [], ◌∷◌, ◌++◌, map, length, refl, sym, ap, subst, ◌∙◌, arith, true≢false}
use Rattle.std.specs.Prelude.{Option, Some, unwrap_or, Result, Ok, slice_get, Contains, All, ◌↔◌}
use Rattle.std.proofs.lemmas.Bool.{eqb-true, eq-eqb, and_parts, and_from}
use Rattle.std.proofs.lemmas.Option.{none-some, same_Some, slice_get-get_or, slice_get_within, get_or_from_slice_get}
use Rattle.nm_edge.specs.Edges.{other}
use Rattle.nm_edge.specs.Keys.{IsKey}
use Rattle.nm_edge.specs.Layouts.{Layout}
use Rattle.nm_edge.specs.declared.edge.Side.{Side}
use Rattle.nm_edge.specs.declared.edge.Side.TheVariants.{Left, Right}
use Rattle.nm_edge.specs.declared.node.NodeId.{NodeId}
use Rattle.nm_model.specs.declared.event.Op.TheVariants.{Delete}
use Rattle.nm_model.specs.declared.event.Event.{Event}
use Rattle.nm_model.specs.declared.event.Event.TheVariants.{Link}
use Rattle.nm_order.specs.Removals.{is_splice}
use Rattle.nm_order.specs.Exchanges.{is_won_link}
use Rattle.nm_model.specs.declared.reply.Reply.TheVariants.{Cut}
use Rattle.nm_model.specs.declared.reply.Reply.{Reply}
use Rattle.nm_model.specs.declared.reply.Refused.{Refused}
use Rattle.nm_model.specs.Memory.{Memory, node, edge, child, named, is_leaf}
use Rattle.nm_model.specs.Laws.{slots_of}
use Rattle.nm_laws.proofs.SplicedEdges.{IsFrozenChain}
use Rattle.nm_model.specs.Paths.{follow, Reached, IsCut}
use Rattle.nm_model.specs.Knowledge.{knows}
use Rattle.nm_model.specs.Runs.{of}
use Rattle.nm_model.specs.Searches.{Search}
use Rattle.nm_model.specs.Ordered.{Configuration, ordered, search_of, next_in, outcome_in, after_in}
use Rattle.nm_laws.proofs.Trees.{follow-append, append_cancel}
use Rattle.nm_laws.proofs.Pictures.{alone}
use Rattle.nm_laws.proofs.Views.{picture}
use Rattle.nm_laws.proofs.Outcomes.{same_reply}
use Rattle.nm_model.specs.Acts.{InSet, Act, changed, Replays, IsAmong, leaf_keys}
use Rattle.nm_order.specs.Intervals.{HasKey, key}
use Rattle.nm_order.specs.Removals.{IsKeyOf, Loses}
use Rattle.nm_order.specs.History.{SameCall, EachOnce, pin_of}
use Rattle.nm_order.proofs.OrderedMoments.{Lasting, call_walks}
use Rattle.nm_order.proofs.OrderedLaws.{IsOrdered, each_ordered, law_of_state, own_keys}
use Rattle.nm_order.proofs.OwnTurns.{own_search}
use Rattle.nm_order.proofs.CutTurns.{splice_of, cut_shows, cut_goes_down, mapped_among}
use Rattle.nm_order.proofs.SetChanges.{cut_takes}
use Rattle.nm_order.proofs.FlaggedNodes.{FlaggedLeaf}
use Rattle.nm_order.proofs.FlagFates.{own_flagged}
use Rattle.nm_order.proofs.PendingLeaves.{flag_leads_high, owned}
use Rattle.nm_order.proofs.Timelines.{AllAt, TurnChanges, Alike, replays_to}

-- the key of a leaf among these slots
pub record LeafKey (m : Memory) (xs : List ℕ) (k : ℕ) : Type 0 where
  pub index : ℕ
  pub slot : ℕ
  pub at : slice_get xs index ≡ Some slot
  pub leaf : is_leaf (node m slot) ≡ true
  pub has_key : key m slot ≡ k

module _ (L : Layout) (enough : 5 ≤ L.nodes) (ts : List (ℕ × Event)) (keys : All (λ t. HasKey t.1) ts) where
  abbrev c : Configuration
  c = after_in (ordered L) ts

  o : IsOrdered L (after_in (ordered L) ts)
  o = each_ordered L enough ts keys

  -- ---- the leaves of a chain

  abbrev pub AllReached : List ℕ → Type 0
  AllReached xs = (i x : ℕ) → slice_get xs i ≡ Some x → Reached c.state.memory x

  tail_reached : (x l : ℕ) (rest : List ℕ) → AllReached (x ∷ l ∷ rest) → AllReached rest
  tail_reached x l rest all i y at = all (suc (suc i)) y at

  first_reached : (s x l : ℕ) (rest : List ℕ) → x ≡ s → AllReached (x ∷ l ∷ rest) → Reached c.state.memory s
  first_reached s x l rest is all = subst (Reached c.state.memory) is (all 0 x refl)

  -- what hangs by a flagged edge is a leaf
  flagged_is_leaf : (s : ℕ) (g : Side) → Reached c.state.memory s → (edge c.state.memory s g).flag ≡ true
      → is_leaf (node c.state.memory (child c.state.memory s g)) ≡ true
  flagged_is_leaf s g r flag = and_from _ _ (eq-eqb _ 0 (null Left)) (eq-eqb _ 0 (null Right))
    where
      null : (f : Side) → child c.state.memory (child c.state.memory s g) f ≡ 0
      null = subst (λ (z : ℕ). (edge c.state.memory z g).flag ≡ true → (f : Side)
          → child c.state.memory (child c.state.memory z g) f ≡ 0) r.ends
          (λ is. (law_of_state L enough c o).1.tree.leaf_reached r.path g is) flag

  -- an internal node of it is none
  not_leaf : (s : ℕ) (g : Side) → Reached c.state.memory s → (edge c.state.memory s g).flag ≡ true
      → is_leaf (node c.state.memory s) ≡ true → ⊥
  not_leaf s g r flag leaf = by g (flag_leads_high L enough c o s g r flag)
    where
      nulls : ((node c.state.memory s).left.slot ≡ 0) × ((node c.state.memory s).right.slot ≡ 0)
      nulls =
          let parts = and_parts ((node c.state.memory s).left.slot == 0) ((node c.state.memory s).right.slot == 0)
          leaf in (eqb-true _ 0 parts.0, eqb-true _ 0 parts.1)

      by : (g : Side) → 6 ≤ child c.state.memory s g → ⊥
      by Left high = let null = nulls.0 in absurd (omega (arith, high, null))
      by Right high = let null = nulls.1 in absurd (omega (arith, high, null))

  -- each slot of a chain is below its first
  chain_below : (s : ℕ) (xs : List ℕ) → IsFrozenChain c.state.memory s xs → (i x : ℕ) → slice_get xs i ≡ Some x
      → (q : List Side) × (follow (child c.state.memory) s q ≡ x)
  chain_below s [] chain i x at = absurd (none-some x at)
  chain_below s (z ∷ []) chain i x at = absurd chain
  chain_below s (z ∷ l ∷ rest) chain zero x at = ([], sym chain.0 ∙ same_Some z x at)
  chain_below s (z ∷ l ∷ rest) chain (suc zero) x at = (other chain.1 ∷ [], chain.3 ∙ same_Some l x at)
  chain_below s (z ∷ l ∷ rest) chain (suc (suc i)) x at =
      let q = chain_below (child c.state.memory s chain.1) rest chain.5 i x at in (chain.1 ∷ q.0, q.1)

  -- so the leaf beside a node is none of those further down
  apart : (s : ℕ) (d : Side) (x : ℕ) → Reached c.state.memory s → child c.state.memory s (other d) ≢ 0
      → (q : List Side) → follow (child c.state.memory) (child c.state.memory s d) q ≡ x
      → child c.state.memory s (other d) ≡ x → ⊥
  apart s d x r some q ends same = differ d (heads (append_cancel r.path _ _ paths))
    where
      one : follow (child c.state.memory) 1 (r.path ++ other d ∷ []) ≡ child c.state.memory s (other d)
      one = follow-append (child c.state.memory) 1 r.path (other d ∷ [])
          ∙ ap (λ (y : ℕ). child c.state.memory y (other d)) r.ends

      two : follow (child c.state.memory) 1 (r.path ++ d ∷ q) ≡ x
      two = follow-append (child c.state.memory) 1 r.path (d ∷ q)
          ∙ (ap (λ (y : ℕ). follow (child c.state.memory) (child c.state.memory y d) q) r.ends ∙ ends)

      paths : r.path ++ other d ∷ [] ≡ r.path ++ d ∷ q
      paths = alone c.state.layout.nodes (picture c.state (law_of_state L enough c o).0)
          (law_of_state L enough c o).1.tree (r.path ++ other d ∷ []) (r.path ++ d ∷ q) (λ z. some (sym one ∙ z))
          (one ∙ (same ∙ sym two))

      heads : {a b : Side} {p q : List Side} → a ∷ p ≡ b ∷ q → a ≡ b
      heads e = cc

      differ : (d : Side) → other d ≡ d → ⊥
      differ Left e = cc
      differ Right e = cc

  -- ---- its deletes

  abbrev pub delete_of : ℕ → ℕ → Act
  delete_of u l = record {
    worker = u;
    pin = pin_of L ts u;
    op = Delete;
    key = key c.state.memory l;
    answer = true;
    moment = length ts + 1;
  }

  owner : (s : ℕ) (g : Side) → Reached c.state.memory s → (edge c.state.memory s g).flag ≡ true
      → (u : ℕ) × ((own_search c u).flagged ≡ Some (named c.state.memory (child c.state.memory s g)))
  owner s g r flag = owned L enough ts keys s g r flag

  pub deletes : (s : ℕ) (xs : List ℕ) → IsFrozenChain c.state.memory s xs → AllReached xs → List Act
  deletes s [] chain all = []
  deletes s (x ∷ []) chain all = []
  deletes s (x ∷ l ∷ rest) chain all = delete_of (owner s (other chain.1) (first_reached s x l rest chain.0 all)
      chain.2).0 l ∷ deletes (child c.state.memory s chain.1) rest chain.5 (tail_reached x l rest all)

  -- a leaf of a delete: what its worker keeps as flagged
  pub record DeleteOf (xs : List ℕ) (a : Act) : Type 0 where
    pub index : ℕ
    pub slot : ℕ
    pub at : slice_get xs index ≡ Some slot
    pub leaf : is_leaf (node c.state.memory slot) ≡ true
    pub flagged : (own_search c a.worker).flagged ≡ Some (named c.state.memory slot)
    pub is : a ≡ delete_of a.worker slot

  pub each_delete : (s : ℕ) (xs : List ℕ) (chain : IsFrozenChain c.state.memory s xs) (all : AllReached xs) (a : Act)
      → IsAmong (deletes s xs chain all) a → DeleteOf xs a
  unfolding deletes
  each_delete s [] chain all a there = absurd there
  each_delete s (x ∷ []) chain all a there = absurd there
  each_delete s (x ∷ l ∷ rest) chain all a (inl is) =
      let r = first_reached s x l rest chain.0 all in
      let u = owner s (other chain.1) r chain.2 in
      let mine : u.0 ≡ a.worker = ap (λ (y : Act). y.worker) is in
      record {
        index = 1;
        slot = l;
        at = refl;
        leaf = ap (λ (y : ℕ). is_leaf (node c.state.memory y)) (sym chain.3)
            ∙ flagged_is_leaf s (other chain.1) r chain.2;
        flagged = ap (λ (v : ℕ). (own_search c v).flagged) (sym mine)
            ∙ (u.1 ∙ ap Some (ap (named c.state.memory) chain.3));
        is = sym is ∙ ap (λ (v : ℕ). delete_of v l) mine;
      }
  each_delete s (x ∷ l ∷ rest) chain all a (inr there) =
      let d = each_delete (child c.state.memory s chain.1) rest chain.5 (tail_reached x l rest all) a there in
      record { index = suc (suc d.index); slot = d.slot; at = d.at; leaf = d.leaf; flagged = d.flagged; is = d.is }

  -- of each leaf there is one
  pub leaf_deleted : (s : ℕ) (xs : List ℕ) (chain : IsFrozenChain c.state.memory s xs) (all : AllReached xs)
      (i l : ℕ) → slice_get xs i ≡ Some l → is_leaf (node c.state.memory l) ≡ true
      → (u : ℕ) × ((own_search c u).flagged ≡ Some (named c.state.memory l))
      × IsAmong (deletes s xs chain all) (delete_of u l)
  unfolding deletes
  leaf_deleted s [] chain all i l at leaf = absurd (none-some l at)
  leaf_deleted s (x ∷ []) chain all i l at leaf = absurd chain
  leaf_deleted s (x ∷ y ∷ rest) chain all zero l at leaf = absurd
      (not_leaf s (other chain.1) (first_reached s x y rest chain.0 all) chain.2
      (ap (λ (z : ℕ). is_leaf (node c.state.memory z)) (sym chain.0 ∙ same_Some x l at) ∙ leaf))
  leaf_deleted s (x ∷ y ∷ rest) chain all (suc zero) l at leaf =
      let u = owner s (other chain.1) (first_reached s x y rest chain.0 all) chain.2 in
      let same = same_Some y l at in
      (u.0, u.1 ∙ ap Some (ap (named c.state.memory) (chain.3 ∙ same)), inl (ap (delete_of u.0) same))
  leaf_deleted s (x ∷ y ∷ rest) chain all (suc (suc i)) l at leaf =
      let d = leaf_deleted (child c.state.memory s chain.1) rest chain.5 (tail_reached x y rest all) i l at leaf in
      (d.0, d.1, inr d.2)

  -- each at the moment after the turn
  deletes_at : (s : ℕ) (xs : List ℕ) (chain : IsFrozenChain c.state.memory s xs) (all : AllReached xs)
      → AllAt (length ts + 1) (deletes s xs chain all)
  unfolding deletes
  deletes_at s [] chain all = tt
  deletes_at s (x ∷ []) chain all = tt
  deletes_at s (x ∷ l ∷ rest) chain all = (
    refl,
    refl,
    deletes_at (child c.state.memory s chain.1) rest chain.5
        (tail_reached x l rest all),
  )

  -- with the keys of the leaves, in their order
  deletes_keys : (s : ℕ) (xs : List ℕ) (chain : IsFrozenChain c.state.memory s xs) (all : AllReached xs)
      → map (λ (a : Act). a.key) (deletes s xs chain all) ≡ leaf_keys c.state.memory xs
  unfolding deletes
  deletes_keys s [] chain all = refl
  deletes_keys s (x ∷ []) chain all = absurd chain
  deletes_keys s (x ∷ l ∷ rest) chain all = ap (λ (ks : List ℕ). key c.state.memory l ∷ ks)
      (deletes_keys (child c.state.memory s chain.1) rest chain.5 (tail_reached x l rest all)) ∙ sym (skip ∙ keep)
    where
      r : Reached c.state.memory s
      r = first_reached s x l rest chain.0 all

      more : List ℕ
      more = leaf_keys c.state.memory rest

      inner : (b : Bool) → is_leaf (node c.state.memory x) ≡ b
          → cond b (key c.state.memory x ∷ leaf_keys c.state.memory (l ∷ rest)) (leaf_keys c.state.memory (l ∷ rest))
          ≡ leaf_keys c.state.memory (l ∷ rest)
      inner false none = refl
      inner true leaf = absurd (not_leaf s (other chain.1) r chain.2
          (ap (λ (z : ℕ). is_leaf (node c.state.memory z)) (sym chain.0) ∙ leaf))

      skip : leaf_keys c.state.memory (x ∷ l ∷ rest) ≡ leaf_keys c.state.memory (l ∷ rest)
      skip = inner (is_leaf (node c.state.memory x)) refl

      leaf_l : is_leaf (node c.state.memory l) ≡ true
      leaf_l = ap (λ (y : ℕ). is_leaf (node c.state.memory y)) (sym chain.3)
          ∙ flagged_is_leaf s (other chain.1) r chain.2

      keep : leaf_keys c.state.memory (l ∷ rest) ≡ key c.state.memory l ∷ leaf_keys c.state.memory rest
      keep = ap (λ (b : Bool). cond b (key c.state.memory l ∷ leaf_keys c.state.memory rest)
          (leaf_keys c.state.memory rest)) leaf_l

  -- no two of one call
  pub deletes_once : (s : ℕ) (xs : List ℕ) (chain : IsFrozenChain c.state.memory s xs) (all : AllReached xs)
      → EachOnce (deletes s xs chain all)
  unfolding deletes
  deletes_once s [] chain all = tt
  deletes_once s (x ∷ []) chain all = tt
  deletes_once s (x ∷ l ∷ rest) chain all = (
    none,
    deletes_once (child c.state.memory s chain.1) rest chain.5
        (tail_reached x l rest all),
  )
    where
      r : Reached c.state.memory s
      r = first_reached s x l rest chain.0 all

      u : (u : ℕ) × ((own_search c u).flagged ≡ Some (named c.state.memory (child c.state.memory s (other chain.1))))
      u = owner s (other chain.1) (first_reached s x l rest chain.0 all) chain.2

      none : (b : Act) → IsAmong (deletes (child c.state.memory s chain.1) rest chain.5 (tail_reached x l rest all))
          b → SameCall (delete_of (owner s (other chain.1) (first_reached s x l rest chain.0 all) chain.2).0 l) b → ⊥
      none b there same =
          let d = each_delete (child c.state.memory s chain.1) rest chain.5 (tail_reached x l rest all) b there in
          let q = chain_below (child c.state.memory s chain.1) rest chain.5 d.index d.slot d.at in
          let node_is = same_Some _ _ (sym (owner s (other chain.1) (first_reached s x l rest chain.0 all) chain.2).1
          ∙ (ap (λ (v : ℕ). (own_search c v).flagged) same.0 ∙ d.flagged)) in
          apart s chain.1 d.slot r (λ z. let high = flag_leads_high L enough c o s (other chain.1) r chain.2 in
          absurd (omega arith)) q.0 q.1 (ap (λ (n : NodeId). n.slot) node_is)

  -- ---- what they do to a set

  small_key : (u : ℕ) (n : NodeId) → (own_search c u).flagged ≡ Some n → IsKey (key c.state.memory n.slot)
  small_key u n has = subst IsKey (sym (ap (λ (t : Lasting). t.key) f.lasts))
      (call_walks c.state.layout.radix c.state.memory (knows (of c.state u)) (search_of o.searches u).call
      (search_of o.searches u).walks f.call (ap (λ (S : Search). S.call) (sym own_is) ∙ f.is_call) (o.law.walks u)).0
    where
      f : FlaggedLeaf c.state (own_search c u) u n
      f = own_flagged L enough ts keys u n has

      own_is : own_search c u ≡ search_of o.searches u
      own_is = ap (λ (l : Option (List Search)). search_of (unwrap_or l []) u) o.are

  deletes_replay : (s : ℕ) (xs : List ℕ) (chain : IsFrozenChain c.state.memory s xs) (all : AllReached xs)
      (S : ℕ → Type 0) → ((k : ℕ) → LeafKey c.state.memory xs k → S k)
      → Replays S (deletes s xs chain all) (λ k. S k × (LeafKey c.state.memory xs k → ⊥))
  unfolding deletes
  deletes_replay s [] chain all S had = λ k small. ((λ x. (x, λ l. none-some l.slot l.at)), (λ x. x.0))
  deletes_replay s (x ∷ []) chain all S had = absurd chain
  deletes_replay s (x ∷ l ∷ rest) chain all S had = (
    subst IsKey (ap (key c.state.memory) chain.3) (small_key u.0 _ u.1),
    had (key c.state.memory l) here,
    replays_to (changed S Delete (key c.state.memory l) true)
        (λ k. changed S Delete (key c.state.memory l) true k × (LeafKey c.state.memory rest k → ⊥))
        (deletes (child c.state.memory s chain.1) rest chain.5 (tail_reached x l rest all))
        (λ k. S k × (LeafKey c.state.memory (x ∷ l ∷ rest) k → ⊥)) (λ k small. (there k, back k))
        (deletes_replay (child c.state.memory s chain.1) rest chain.5 (tail_reached x l rest all)
        (changed S Delete (key c.state.memory l) true) (λ k f. (had k (further k f), λ same. differ k f same))),
  )
    where
      r : Reached c.state.memory s
      r = first_reached s x l rest chain.0 all

      u : (u : ℕ) × ((own_search c u).flagged ≡ Some (named c.state.memory (child c.state.memory s (other chain.1))))
      u = owner s (other chain.1) (first_reached s x l rest chain.0 all) chain.2

      leaf_l : is_leaf (node c.state.memory l) ≡ true
      leaf_l = ap (λ (y : ℕ). is_leaf (node c.state.memory y)) (sym chain.3)
          ∙ flagged_is_leaf s (other chain.1) r chain.2

      here : LeafKey c.state.memory (x ∷ l ∷ rest) (key c.state.memory l)
      here = record { index = 1; slot = l; at = refl; leaf = leaf_l; has_key = refl }

      further : (k : ℕ) → LeafKey c.state.memory rest k → LeafKey c.state.memory (x ∷ l ∷ rest) k
      further k f = record { index = suc (suc f.index); slot = f.slot; at = f.at; leaf = f.leaf; has_key = f.has_key }

      differ : (k : ℕ) (f : LeafKey c.state.memory rest k) → k ≡ key c.state.memory l → ⊥
      differ k f same =
          let q = chain_below (child c.state.memory s chain.1) rest chain.5 f.index f.slot f.at in
          apart s chain.1 f.slot r (λ z. let high = flag_leads_high L enough c o s (other chain.1) r chain.2 in
          absurd (omega arith)) q.0 q.1
          (chain.3 ∙ own_keys L enough c o l f.slot (all 1 l refl) (all (suc (suc f.index)) f.slot f.at) leaf_l
          f.leaf (sym same ∙ sym f.has_key))

      there : (k : ℕ) → changed S Delete (key c.state.memory l) true k × (LeafKey c.state.memory rest k → ⊥)
          → S k × (LeafKey c.state.memory (x ∷ l ∷ rest) k → ⊥)
      there k b = (b.0.0, λ f. by f.index f.slot f.at f.leaf f.has_key)
        where
          by : (i y : ℕ) → slice_get (x ∷ l ∷ rest) i ≡ Some y → is_leaf (node c.state.memory y) ≡ true
              → key c.state.memory y ≡ k → ⊥
          by zero y at leaf is = not_leaf s (other chain.1) r chain.2
              (ap (λ (z : ℕ). is_leaf (node c.state.memory z)) (sym chain.0 ∙ same_Some x y at) ∙ leaf)
          by (suc zero) y at leaf is = b.0.1 (sym is ∙ ap (key c.state.memory) (sym (same_Some l y at)))
          by (suc (suc i)) y at leaf is = b.1 (record { index = i; slot = y; at = at; leaf = leaf; has_key = is })

      back : (k : ℕ) → S k × (LeafKey c.state.memory (x ∷ l ∷ rest) k → ⊥)
          → changed S Delete (key c.state.memory l) true k × (LeafKey c.state.memory rest k → ⊥)
      back k b = (
        (b.0, λ same. b.1 (subst (LeafKey c.state.memory (x ∷ l ∷ rest)) (sym same) here)),
        λ f. b.1
            (further k f),
      )

  -- ---- a cut

  pub record CutMade (t : ℕ × Event) (ns : List NodeId) : Type 0 where
    pub made : List Act
    pub changes : TurnChanges c t (length ts + 1) made
    pub once : EachOnce made
    -- each is the delete of a leaf that the turn cuts, and each such leaf has its delete
    pub each : (a : Act) → IsAmong made a → (x : ℕ)
        × ((own_search c a.worker).flagged ≡ Some (named c.state.memory x)) × (is_leaf (node c.state.memory x) ≡ true)
        × (a ≡ delete_of a.worker x) × IsCut c.state.memory (next_in c t).state.memory x
    pub all : (x : ℕ) → is_leaf (node c.state.memory x) ≡ true → IsCut c.state.memory (next_in c t).state.memory x
        → (u : ℕ) × ((own_search c u).flagged ≡ Some (named c.state.memory x)) × IsAmong made (delete_of u x)

  pub cut_made : (t : ℕ × Event) → HasKey t.1 → (ns : List NodeId) → outcome_in c t ≡ Ok (Cut ns)
      → is_splice t.1 ≡ true → CutMade t ns
  cut_made t has ns is splice = record {
    made = deletes chain.0 (slots_of ns) chain.1 reached;
    changes = record {
      at = deletes_at chain.0 (slots_of ns) chain.1 reached;
      replays = replays_to (InSet c.state.memory) (λ k. InSet c.state.memory k
          × (LeafKey c.state.memory (slots_of ns) k → ⊥)) (deletes chain.0 (slots_of ns) chain.1 reached)
          (InSet (next_in c t).state.memory) alike
          (deletes_replay chain.0 (slots_of ns) chain.1 reached (InSet c.state.memory)
          (λ k f. takes.had k (to_key k f)));
      cut = λ ms is' _. deletes_keys chain.0 (slots_of ns) chain.1 reached
          ∙ ap (λ (l : List NodeId). leaf_keys c.state.memory (slots_of l)) (same_cut ns ms (sym is ∙ is'));
      owner = λ ms is' _ a there. let d = each_delete chain.0 (slots_of ns) chain.1 reached a there in (
        named c.state.memory d.slot,
        subst (λ (l : List NodeId). Contains l (named c.state.memory d.slot))
            (sym shows.1 ∙ same_cut ns ms (sym is ∙ is'))
            (mapped_among (named c.state.memory) (slots_of ns) d.slot (
              d.index,
              slice_get_within (slots_of ns) d.index d.slot d.at,
              get_or_from_slice_get (slots_of ns)
                  d.index d.slot d.slot d.at,
            )),
        d.flagged,
        sym (ap (λ (y : Act). y.key) d.is),
        ap (λ (y : Act). y.op) d.is,
        ap (λ (y : Act). y.answer) d.is,
      );
      link = λ k called q told such. absurd (true≢false
          (sym such ∙ no_link t.1 q (same_reply (Cut ns) q (sym is ∙ told))));
    };
    once = deletes_once chain.0 (slots_of ns) chain.1 reached;
    each = λ a there. let d = each_delete chain.0 (slots_of ns) chain.1 reached a there in
        (d.slot, d.flagged, d.leaf, d.is, cut_at d.index d.slot d.at);
    all = λ x leaf cut. let i = (shows.0 x).0 cut in
        let at = slice_get-get_or (slots_of ns) i.0 x i.1 ∙ ap Some i.2 in
        leaf_deleted chain.0 (slots_of ns) chain.1 reached i.0 x at leaf;
  }
    where
      no_link : (e : Event) (q : Reply) → Cut ns ≡ q → is_won_link (e, q) ≡ false
      no_link e q cut = subst (λ (q : Reply). is_won_link (e, q) ≡ false) cut (by e)
        where
          by : (e : Event) → is_won_link (e, Cut ns) ≡ false
          by (Link p d leaf new) = refl
          by e = refl

      same_cut : (x y : List NodeId) → ◌≡◌ {A = Result Reply Refused} (Ok (Cut x)) (Ok (Cut y)) → x ≡ y
      same_cut x y e = cc

      shows : ((x : ℕ) → IsCut c.state.memory (next_in c t).state.memory x ↔ Contains (slots_of ns) x)
          × (ns ≡ map (named c.state.memory) (slots_of ns))
      shows = cut_shows L enough c t o ns is

      chain : (s : ℕ) × IsFrozenChain c.state.memory s (slots_of ns)
      chain = cut_goes_down L enough c t o ns (splice_of t.1 splice) is

      cut_at : (i x : ℕ) → slice_get (slots_of ns) i ≡ Some x → IsCut c.state.memory (next_in c t).state.memory x
      cut_at i x at = (shows.0 x).1 (
        i,
        slice_get_within (slots_of ns) i x at,
        get_or_from_slice_get (slots_of ns) i
            x x at,
      )

      reached : AllReached (slots_of ns)
      reached i x at = (cut_at i x at).was

      takes : Loses c.state.memory (next_in c t).state.memory ns
      takes = cut_takes L enough c t has o ns is splice

      to_key : (k : ℕ) → LeafKey c.state.memory (slots_of ns) k → IsKeyOf c.state.memory ns k
      to_key k f = record {
        leaf = named c.state.memory f.slot;
        among = subst (λ (l : List NodeId). Contains l (named c.state.memory f.slot)) (sym shows.1)
            (mapped_among (named c.state.memory) (slots_of ns) f.slot (
              f.index,
              slice_get_within (slots_of ns) f.index f.slot f.at,
              get_or_from_slice_get (slots_of ns) f.index
                  f.slot f.slot f.at,
            ));
        childless = f.leaf;
        has_key = f.has_key;
      }

      from_key : (k : ℕ) → IsKeyOf c.state.memory ns k → LeafKey c.state.memory (slots_of ns) k
      from_key k f = let i = mapped_among (λ (n : NodeId). n.slot) ns f.leaf f.among in
          record {
            index = i.0;
            slot = f.leaf.slot;
            at = slice_get-get_or (slots_of ns) i.0 f.leaf.slot i.1
                ∙ ap Some i.2;
            leaf = f.childless;
            has_key = f.has_key;
          }

      alike : Alike (λ k. InSet c.state.memory k × (LeafKey c.state.memory (slots_of ns) k → ⊥))
          (InSet (next_in c t).state.memory)
      alike k small = (
        (λ b. (takes.now k).1 (b.0, λ f. b.1 (from_key k f))),
        (λ s. let b = (takes.now k).0 s in (b.0, λ f. b.1 (to_key k f))),
      )
