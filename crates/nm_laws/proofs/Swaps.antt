-- The laws of the tree are kept by a swap: a private leaf comes to the place of a leaf, which goes
-- into the worker's queue.
use Rattle.std.proofs.Common.{◌≡◌, ℕ, zero, suc, ◌≢◌, ◌≤◌, ◌⊎◌, inl, inr, eqb, Bool, true, false, cond, ◌||◌, ◌&&◌, List, [], ◌∷◌, ◌++◌, refl, sym, ap, ◌∙◌, arith, true≢false, subst}
use Rattle.std.specs.Prelude.{Option, Some, None, slice_get, ltb, ◌-◌}
use native.Mathlib.Decide.{ℕ_discrete}
use Rattle.std.proofs.lemmas.Bool.{cond_both, eqb-true, eq-eqb, false_from_ne_true, ltb-false, le-ltb}
use Rattle.std.proofs.lemmas.Option.{none-some, same_Some}
use Rattle.nm_edge.specs.Edges.{Edge, to, other}
use Rattle.nm_edge.specs.declared.edge.Side.{Side}
use Rattle.nm_edge.specs.declared.edge.Side.TheVariants.{Left}
use Rattle.nm_model.specs.Paths.{follow}
use Rattle.nm_laws.proofs.Pictures.{SeekRecord}
use Rattle.nm_laws.proofs.Pictures.SeekRecord.{InPool, PrivateTo, OnPath, InQueue}
use Rattle.nm_laws.proofs.Trees.{same_side, no_longer, follow-append, follow_leaf, rest_after, Exchanged, not_taken, taken, is_taken}
use Rattle.nm_laws.proofs.Pictures.{Picture, below, Stands, Once, IsLive, InReach, TreeLaw, new_place, nowhere_else, alone, null_below, IsOnPath, in_reach}
use Rattle.nm_laws.proofs.Slots.{hand, hand-same, hand-other, with_edge_at, with_edge-other, is_exchanged}
use Rattle.nm_laws.proofs.Readings.{changed_or}
use Rattle.nm_laws.proofs.Splices.{repathed, live_on_path, unmarked_not_queued}

-- the slot new goes from the worker's hands to below p, and the leaf from there to entry n of its
-- queue
abbrev pub picture_swapped : Picture → ℕ → ℕ → ℕ → Side → ℕ → ℕ → Picture
picture_swapped P w n p d leaf new = record {
  edges = with_edge_at P.edges p d (to new);
  pool = P.pool;
  private = hand P.private w new false;
  queue = λ u i. cond (eqb u w) (cond (ltb i n) (P.queue w i) (slice_get (leaf ∷ []) (i - n))) (P.queue u i);
  knows = P.knows;
  read = P.read;
  drafted = λ u x g. cond (eqb u w && eqb x new) None (P.drafted u x g);
  late = λ u v i. cond (eqb v w) (cond (ltb i n) (P.late u w i) false) (P.late u v i);
}

-- what the worker has shown: p's edge leads to a leaf above 5, and new is a private leaf
pub record IsSwap (N : ℕ) (P : Picture) (w n p : ℕ) (d : Side) (leaf new : ℕ) : Type 0 where
  pub live : IsLive P p
  pub is_slot : p ≢ 0
  pub inside : p ≤ N
  pub unmarked : P.edges p d ≡ to leaf
  pub high : 6 ≤ leaf
  pub is_leaf : (f : Side) → below P leaf f ≡ 0
  pub own : P.private w new ≡ true
  pub new_leaf : (f : Side) → P.edges new f ≡ to 0
  pub full : (i : ℕ) → n ≤ i → P.queue w i ≡ None

module _ (N : ℕ) (P : Picture) (w n p : ℕ) (d : Side) (leaf new : ℕ) (law : TreeLaw N P)
    (swap : IsSwap N P w n p d leaf new) where
  abbrev pub Q : Picture
  Q = picture_swapped P w n p d leaf new

  leaf_slot : leaf ≢ 0
  leaf_slot z = let h = swap.high in omega arith

  leads_to_leaf : below P p d ≡ leaf
  leads_to_leaf = ap (λ (e : Edge). e.slot) swap.unmarked

  p_on_path : IsOnPath P p
  p_on_path = live_on_path N P p law swap.live swap.is_slot swap.inside
      (unmarked_not_queued N P p d leaf law swap.unmarked leaf_slot)

  new_slot : (new ≢ 0) × (new ≤ N)
  new_slot = let r = law.privates w new swap.own in ((λ z. omega arith), r.1)

  -- a private slot is on no path
  off_path : IsOnPath P new → ⊥
  off_path r = let e : PrivateTo w ≡ OnPath r.path = nowhere_else P new (PrivateTo w) (OnPath r.path)
      (law.places new new_slot.0 new_slot.1) swap.own r.ends in cc

  not_p : new ≢ p
  not_p e = true≢false (sym swap.own ∙ (ap (P.private w) e ∙ swap.live.shared w))

  leaf_path : follow (below P) 1 (p_on_path.path ++ d ∷ []) ≡ leaf
  leaf_path = follow-append (below P) 1 p_on_path.path (d ∷ [])
      ∙ (ap (λ (s : ℕ). below P s d) p_on_path.ends ∙ leads_to_leaf)

  leaf_on_path : IsOnPath P leaf
  leaf_on_path = record { path = p_on_path.path ++ d ∷ []; ends = leaf_path; is_slot = leaf_slot }

  leaf_inside : leaf ≤ N
  leaf_inside = rw (← leads_to_leaf) (law.within p d)

  leaf_not_new : leaf ≢ new
  leaf_not_new e = off_path (subst (λ (x : ℕ). IsOnPath P x) e leaf_on_path)

  unless_p : (x : ℕ) (g : Side) → x ≢ p → with_edge_at P.edges p d (to new) x g ≡ P.edges x g
  unless_p x g ne = with_edge-other P.edges p d (to new) x g ne

  -- the edges that are no clean edges to the leaf stay
  differs : (x : ℕ) (g : Side) → (P.edges x g ≡ to leaf → ⊥) → Q.edges x g ≡ P.edges x g
  differs x g other_edge = go (changed_or P p d (to new) x g)
    where
      go : ((x ≡ p) × (d ≡ g) × (with_edge_at P.edges p d (to new) x g ≡ to new))
          ⊎ (with_edge_at P.edges p d (to new) x g ≡ P.edges x g) → Q.edges x g ≡ P.edges x g
      go (inl c) = absurd (other_edge (ap (λ (y : ℕ). P.edges y g) c.0 ∙ (ap (P.edges p) (sym c.1) ∙ swap.unmarked)))
      go (inr c) = c

  flag_stays : (x : ℕ) (g : Side) → (P.edges x g).flag ≡ true → Q.edges x g ≡ P.edges x g
  flag_stays x g h = differs x g (λ i. true≢false (sym h ∙ ap (λ (z : Edge). z.flag) i))

  tag_stays : (x : ℕ) (g : Side) → (P.edges x g).tag ≡ true → Q.edges x g ≡ P.edges x g
  tag_stays x g h = differs x g (λ i. true≢false (sym h ∙ ap (λ (z : Edge). z.tag) i))

  null_stays : (x : ℕ) (g : Side) → below P x g ≡ 0 → below Q x g ≡ 0
  null_stays x g h = ap (λ (z : Edge). z.slot) (differs x g (λ i. leaf_slot (sym (ap (λ (z : Edge). z.slot) i) ∙ h)))
      ∙ h

  exchange : Exchanged (below P) (below Q) p d new
  exchange = is_exchanged P p d (to new)

  null_below' : (f : Side) → below Q 0 f ≡ 0
  null_below' f = null_stays 0 f (null_below N P law f)

  plain_new : (g : Side) → Q.edges new g ≡ to 0
  plain_new g = unless_p new g not_p ∙ swap.new_leaf g

  new_null : (g : Side) → below Q new g ≡ 0
  new_null g = ap (λ (e : Edge). e.slot) (plain_new g)

  -- ---- paths

  -- a path now: as it was, or to the new leaf
  abbrev Way : List Side → ℕ → Type 0
  Way q x = ((rest_after (below P) p d 1 q ≡ None) × (follow (below P) 1 q ≡ x))
      ⊎ ((q ≡ p_on_path.path ++ d ∷ []) × (x ≡ new))

  way : (q : List Side) (x : ℕ) → follow (below Q) 1 q ≡ x → x ≢ 0 → Way q x
  way q x h some = go (rest_after (below P) p d 1 q) refl
    where
      end : (t : List Side) → follow (below Q) new t ≡ x → (t ≡ []) × (x ≡ new)
      end [] h = (refl, sym h)
      end (g ∷ t) h = absurd (some (sym h ∙ follow_leaf (below Q) null_below' new new_null g t))

      go : (o : Option (List Side)) → rest_after (below P) p d 1 q ≡ o → Way q x
      go None k = inl (k, sym (not_taken (below P) (below Q) p d new exchange 1 q k) ∙ h)
      go (Some t) k =
          let i = taken (below P) (below Q) p d new exchange 1 q t k in
          let first : p_on_path.path ≡ i.front = alone N P law p_on_path.path i.front (rw p_on_path.ends swap.is_slot)
          (p_on_path.ends ∙ sym i.comes) in
          let e = end t (sym i.leads ∙ h) in
          inr (
            i.is ∙ (ap (λ (r : List Side). r ++ d ∷ t) (sym first)
                ∙ ap (λ (r : List Side). p_on_path.path ++ d ∷ r) e.0),
            e.1,
          )

  straight : rest_after (below P) p d 1 p_on_path.path ≡ None
  straight = go (rest_after (below P) p d 1 p_on_path.path) refl
    where
      go : (o : Option (List Side)) → rest_after (below P) p d 1 p_on_path.path ≡ o → o ≡ None
      go None k = refl
      go (Some t) k =
          let i = taken (below P) (below Q) p d new exchange 1 p_on_path.path t k in
          let first : p_on_path.path ≡ i.front = alone N P law p_on_path.path i.front (rw p_on_path.ends swap.is_slot)
          (p_on_path.ends ∙ sym i.comes) in
          absurd (no_longer d p_on_path.path t (i.is ∙ ap (λ (r : List Side). r ++ d ∷ t) (sym first)))

  at_new : follow (below Q) 1 (p_on_path.path ++ d ∷ []) ≡ new
  at_new = follow-append (below Q) 1 p_on_path.path (d ∷ [])
      ∙ (ap (λ (s : ℕ). below Q s d) (not_taken (below P) (below Q) p d new exchange 1 p_on_path.path straight
      ∙ p_on_path.ends) ∙ exchange.here)

  now_alone : (x : ℕ) → x ≢ 0 → (q r : List Side) → follow (below Q) 1 q ≡ x → follow (below Q) 1 r ≡ x → q ≡ r
  now_alone x some q r h k = go (way q x h some) (way r x k some)
    where
      go : Way q x → Way r x → q ≡ r
      go (inl a) (inl b) = alone N P law q r (rw a.1 some) (a.1 ∙ sym b.1)
      go (inl a) (inr b) = absurd (off_path (record { path = q; ends = a.1 ∙ b.1; is_slot = new_slot.0 }))
      go (inr a) (inl b) = absurd (off_path (record { path = r; ends = b.1 ∙ a.1; is_slot = new_slot.0 }))
      go (inr a) (inr b) = a.0 ∙ sym b.0

  -- the leaf is on no path now
  leaf_gone : (q : List Side) → follow (below Q) 1 q ≡ leaf → ⊥
  leaf_gone q h = go (way q leaf h leaf_slot)
    where
      go : Way q leaf → ⊥
      go (inl a) = is_taken (below P) p d 1 p_on_path.path [] p_on_path.ends
          (subst (λ (r : List Side). rest_after (below P) p d 1 r ≡ None)
          (alone N P law q (p_on_path.path ++ d ∷ []) (rw a.1 leaf_slot) (a.1 ∙ sym leaf_path)) a.0)
      go (inr b) = leaf_not_new b.1

  -- all other paths stay
  path_stays : (q : List Side) (x : ℕ) → x ≢ 0 → x ≢ leaf → follow (below P) 1 q ≡ x → follow (below Q) 1 q ≡ x
  path_stays q x some not_leaf h = go (rest_after (below P) p d 1 q) refl
    where
      ends : (t : List Side) → follow (below P) leaf t ≡ x → ⊥
      ends [] e = not_leaf (sym e)
      ends (g ∷ t) e = some (sym e ∙ follow_leaf (below P) (null_below N P law) leaf swap.is_leaf g t)

      go : (o : Option (List Side)) → rest_after (below P) p d 1 q ≡ o → follow (below Q) 1 q ≡ x
      go None k = not_taken (below P) (below Q) p d new exchange 1 q k ∙ h
      go (Some t) k =
          let i = taken (below P) (below Q) p d new exchange 1 q t k in
          absurd (ends t (sym (ap (follow (below P) 1) i.is
          ∙ (follow-append (below P) 1 i.front (d ∷ t)
          ∙ (ap (λ (s : ℕ). follow (below P) (below P s d) t) i.comes
          ∙ ap (λ (s : ℕ). follow (below P) s t) leads_to_leaf))) ∙ h))

  -- the leaf is cut, and nothing else
  pub swap_cuts : IsOnPath P leaf × (IsOnPath Q leaf → ⊥)
  swap_cuts = (leaf_on_path, λ r. leaf_gone r.path r.ends)

  pub swap_stays : (x : ℕ) → x ≢ leaf → IsOnPath P x → IsOnPath Q x
  swap_stays x ne r = record { path = r.path; ends = path_stays r.path x r.is_slot ne r.ends; is_slot = r.is_slot }

  -- ---- places

  private_back : (u x : ℕ) → Q.private u x ≡ true → P.private u x ≡ true
  private_back u x h = go (eqb u w && eqb x new) h
    where
      go : (c : Bool) → cond c false (P.private u x) ≡ true → P.private u x ≡ true
      go true h = absurd (true≢false (sym h))
      go false h = h

  private_there : (u x : ℕ) → x ≢ new → Q.private u x ≡ P.private u x
  private_there u x ne = hand-other P.private w new false u x ne

  given_new : Q.private w new ≡ false
  given_new = hand-same P.private w new false

  -- an entry of the queue after: one from before, or the leaf
  abbrev Entry : ℕ → ℕ → ℕ → Type 0
  Entry u i x = (P.queue u i ≡ Some x) ⊎ ((u ≡ w) × (i ≡ n) × (x ≡ leaf))

  entry : (u i x : ℕ) → Q.queue u i ≡ Some x → Entry u i x
  entry u i x h = go (eqb u w) (ltb i n) refl refl h
    where
      only : (j : ℕ) → slice_get (leaf ∷ []) j ≡ Some x → (j ≡ 0) × (x ≡ leaf)
      only zero h = (refl, sym (same_Some leaf x h))
      only (suc j) h = absurd (none-some x h)

      go : (b c : Bool) → eqb u w ≡ b → ltb i n ≡ c
          → cond b (cond c (P.queue w i) (slice_get (leaf ∷ []) (i - n))) (P.queue u i) ≡ Some x → Entry u i x
      go true true j k h = inl (rw (eqb-true u w j) h)
      go true false j k h =
          let last = only (i - n) h in
          let z : i - n ≡ 0 = last.0 in
          let far : n ≤ i = ltb-false i n k in
          inr (eqb-true u w j, omega (arith, z, far), last.1)
      go false c j k h = inl h

  old_entry : (u i x : ℕ) → P.queue u i ≡ Some x → Q.queue u i ≡ Some x
  old_entry u i x h = go (eqb u w) (ltb i n) refl refl
    where
      go : (b c : Bool) → eqb u w ≡ b → ltb i n ≡ c
          → cond b (cond c (P.queue w i) (slice_get (leaf ∷ []) (i - n))) (P.queue u i) ≡ Some x
      go true true j k = rw (← eqb-true u w j) h
      go true false j k = absurd (none-some x (sym (swap.full i (ltb-false i n k)) ∙ rw (eqb-true u w j) at h))
      go false c j k = h

  new_entry : Q.queue w n ≡ Some leaf
  new_entry =
      let past : ltb n n ≡ false = le-ltb n n (omega arith) in
      let same : n - n ≡ 0 = omega arith in
      rw (eq-eqb w w refl) (rw past (rw same refl))

  place_new : Once Q new
  place_new = new_place P Q new (PrivateTo w) (OnPath (p_on_path.path ++ d ∷ [])) swap.own at_new each
      (law.places new new_slot.0 new_slot.1)
    where
      each : (q : SeekRecord) → Stands Q new q → (q ≡ OnPath (p_on_path.path ++ d ∷ []))
          ⊎ (Stands P new q × (q ≢ PrivateTo w))
      each InPool k = inr (k, λ e. cc)
      each (PrivateTo u) k = elim (ℕ_discrete u w) [
        | yes e ↦ absurd (true≢false (sym k ∙ (ap (λ (y : ℕ). Q.private y new) e ∙ given_new)))
        | no ne ↦ inr (private_back u new k, λ e. ne (worker_of e))
      ]
        where
          worker_of : PrivateTo u ≡ PrivateTo w → u ≡ w
          worker_of e = cc
      each (OnPath q) k = inl (ap OnPath (now_alone new new_slot.0 q (p_on_path.path ++ d ∷ []) k at_new))
      each (InQueue u i) k = by (entry u i new k)
        where
          by : Entry u i new → (InQueue u i ≡ OnPath (p_on_path.path ++ d ∷ []))
              ⊎ (Stands P new (InQueue u i) × (InQueue u i ≢ PrivateTo w))
          by (inl old) = inr (old, λ e. cc)
          by (inr last) = absurd (leaf_not_new (sym last.2))

  place_leaf : Once Q leaf
  place_leaf = new_place P Q leaf (OnPath (p_on_path.path ++ d ∷ [])) (InQueue w n) leaf_path new_entry each
      (law.places leaf leaf_slot leaf_inside)
    where
      each : (q : SeekRecord) → Stands Q leaf q → (q ≡ InQueue w n)
          ⊎ (Stands P leaf q × (q ≢ OnPath (p_on_path.path ++ d ∷ [])))
      each InPool h = inr (h, λ e. cc)
      each (PrivateTo u) h = inr (private_back u leaf h, λ e. cc)
      each (OnPath q) h = absurd (leaf_gone q h)
      each (InQueue u i) h = by (entry u i leaf h)
        where
          by : Entry u i leaf → (InQueue u i ≡ InQueue w n)
              ⊎ (Stands P leaf (InQueue u i) × (InQueue u i ≢ OnPath (p_on_path.path ++ d ∷ [])))
          by (inl old) = inr (old, λ e. cc)
          by (inr last) = inl (ap (λ (y : ℕ). InQueue y i) last.0 ∙ ap (InQueue w) last.1)

  place_other : (x : ℕ) → x ≢ 0 → x ≤ N → x ≢ new → x ≢ leaf → Once Q x
  place_other x some inside not_new not_leaf = repathed P Q x (λ h. h) (λ h. h) (λ u h. private_there u x not_new ∙ h)
      (λ u h. private_back u x h) (λ u i h. old_entry u i x h) (λ u i h. was u i (entry u i x h))
      (λ q h. (q, path_stays q x some not_leaf h)) (λ q h. came q (way q x h some)) (λ q r. now_alone x some q r)
      (law.places x some inside)
    where
      was : (u i : ℕ) → Entry u i x → P.queue u i ≡ Some x
      was u i (inl old) = old
      was u i (inr last) = absurd (not_leaf last.2)

      came : (q : List Side) → Way q x → (r : List Side) × (follow (below P) 1 r ≡ x)
      came q (inl a) = (q, a.1)
      came q (inr b) = absurd (not_new b.1)

  -- ---- what a worker may come to

  abbrev Near : ℕ → ℕ → Type 0
  Near u x = InReach P u x ⊎ ((x ≡ new) ⊎ (x ≡ 0))

  near_step : (u x : ℕ) (g : Side) → Near u x → Near u (below Q x g)
  near_step u x g (inl r) = go (changed_or P p d (to new) x g) (ℕ_discrete (below P x g) 0)
    where
      go : ((x ≡ p) × (d ≡ g) × (with_edge_at P.edges p d (to new) x g ≡ to new))
          ⊎ (with_edge_at P.edges p d (to new) x g ≡ P.edges x g) → Dec (below P x g ≡ 0) → Near u (below Q x g)
      go (inl c) z = inr (inl (ap (λ (e : Edge). e.slot) c.2))
      go (inr c) (yes z) = inr (inr (ap (λ (e : Edge). e.slot) c ∙ z))
      go (inr c) (no s) = inl (rw (ap (λ (e : Edge). e.slot) c) (in_reach P u x g r s))
  near_step u x g (inr (inl e)) = inr (inr (ap (λ (y : ℕ). below Q y g) e ∙ new_null g))
  near_step u x g (inr (inr z)) = inr (inr (ap (λ (y : ℕ). below Q y g) z ∙ null_below' g))

  near_walk : (u s : ℕ) (q : List Side) → Near u s → Near u (follow (below Q) s q)
  near_walk u s [] h = h
  near_walk u s (g ∷ q) h = near_walk u (below Q s g) q (near_step u s g h)

  near : (u x : ℕ) → InReach Q u x → Near u x
  near u x r =
      let range = law.known u r.from r.known in
      rw (← r.ends) (near_walk u r.from r.path
      (inl (record { from = r.from; known = r.known; path = []; ends = refl; is_slot = λ z. omega arith })))

  -- what is shared now, was so or is the new leaf
  live_back : (x : ℕ) → IsLive Q x → (IsLive P x) ⊎ (x ≡ new)
  live_back x l = elim (ℕ_discrete x new) [
    | yes e ↦ inr e
    | no ne ↦ inl (record { pooled = l.pooled; shared = λ u. sym (private_there u x ne) ∙ l.shared u })
  ]

  live_there : (x : ℕ) → IsLive P x → IsLive Q x
  live_there x l = record {
    pooled = l.pooled;
    shared =
        λ u. false_from_ne_true _ (λ h. true≢false (sym (private_back u x h) ∙ l.shared u));
  }

  live_new : IsLive Q new
  live_new = record {
    pooled = false_from_ne_true _
        (λ h. clash (nowhere_else P new InPool (PrivateTo w) (law.places new new_slot.0 new_slot.1) h swap.own));
    shared = λ u. false_from_ne_true _
        (λ h. mine u h (nowhere_else P new (PrivateTo u) (PrivateTo w) (law.places new new_slot.0 new_slot.1)
        (private_back u new h) swap.own));
  }
    where
      clash : InPool ≡ PrivateTo w → ⊥
      clash e = cc

      mine : (u : ℕ) → Q.private u new ≡ true → PrivateTo u ≡ PrivateTo w → ⊥
      mine u h e = true≢false (sym h ∙ (ap (λ (y : ℕ). Q.private y new) (worker_of e) ∙ given_new))
        where
          worker_of : PrivateTo u ≡ PrivateTo w → u ≡ w
          worker_of e = cc

  -- a flag now is a flag from before
  flag_back : (x : ℕ) (g : Side) → (Q.edges x g).flag ≡ true → ((P.edges x g).flag ≡ true) × (Q.edges x g ≡ P.edges x g)
  flag_back x g h = go (changed_or P p d (to new) x g)
    where
      go : ((x ≡ p) × (d ≡ g) × (with_edge_at P.edges p d (to new) x g ≡ to new))
          ⊎ (with_edge_at P.edges p d (to new) x g ≡ P.edges x g) → ((P.edges x g).flag ≡ true)
          × (Q.edges x g ≡ P.edges x g)
      go (inl c) = absurd (true≢false (sym h ∙ ap (λ (e : Edge). e.flag) c.2))
      go (inr c) = (ap (λ (e : Edge). e.flag) (sym c) ∙ h, c)

  flagged_leaf : (x : ℕ) (g : Side) → ((P.edges x g).flag ≡ true → (f : Side) → below P (below P x g) f ≡ 0)
      → (Q.edges x g).flag ≡ true → (f : Side) → below Q (below Q x g) f ≡ 0
  flagged_leaf x g was h f =
      let b = flag_back x g h in
      ap (λ (e : Edge). below Q e.slot f) b.1 ∙ null_stays (below P x g) f (was b.0 f)

  -- the new leaf, and null, have no marks
  unflagged : (x y : ℕ) (g : Side) → x ≡ y → Q.edges y g ≡ to 0 → {A : Type 0} → (Q.edges x g).flag ≡ true → A
  unflagged x y g e plain h =
      absurd (true≢false (sym h ∙ (ap (λ (z : ℕ). (Q.edges z g).flag) e ∙ ap (λ (z : Edge). z.flag) plain)))

  plain_null : (g : Side) → Q.edges 0 g ≡ to 0
  plain_null g = unless_p 0 g (λ h. swap.is_slot (sym h)) ∙ law.nothing g

  pub swap_keeps : TreeLaw N Q
  swap_keeps = record {
    room = law.room;
    nothing = plain_null;
    within = λ x g. cond_both (eqb x p && same_side d g) (to new) (P.edges x g) (λ e. e.slot ≤ N) (λ _. new_slot.1)
        (λ _. law.within x g);
    pools = law.pools;
    privates = λ u x h. law.privates u x (private_back u x h);
    queues = λ u i x h. range u i x (entry u i x h);
    known = law.known;
    root_left = ap (λ (e : Edge). e.slot)
        (differs 1 Left (λ i. let two : leaf ≡ 2 = sym (ap (λ (e : Edge). e.slot) i)
        ∙ law.root_left in let h = swap.high in omega arith)) ∙ law.root_left;
    second = cond_both (eqb 2 p && same_side d Left) (to new) (P.edges 2 Left) (λ e. e.slot ≢ 0) (λ _. new_slot.0)
        (λ _. law.second);
    sentinels = λ x g a b. null_stays x g (law.sentinels x g a b);
    places = λ x some inside. elim (ℕ_discrete x new) [
      | yes e ↦ rw e place_new
      | no not_new ↦ elim (ℕ_discrete x leaf) [
        | yes e ↦ rw e place_leaf
        | no not_leaf ↦ place_other x some inside not_new not_leaf
      ]
    ];
    twins = λ x g l z. twin x g z (live_back x l);
    flags = λ x g l h. high x g h (live_back x l);
    frozen = λ x g l h. froze x g h (live_back x l);
    queued = λ u i x g h there. marked x g there (entry u i x h);
    leaf_reached = λ q g. reached (follow (below Q) 1 q) q g refl;
    leaf_known = λ u x g r. known_leaf u x g (near u x r);
    guarded = λ u x r. guard u x r.is_slot (near u x r);
    unlate = λ u x v i r h. young u x v i r.is_slot (near u x r) h;
    reads = law.reads;
    flag_read = λ u x g y r h. let was = law.flag_read u x g y r h in let same = flag_stays x g was.0 in
        (ap (λ (z : Edge). z.flag) same ∙ was.0, ap (λ (z : Edge). z.slot) same ∙ was.1);
    tag_read = λ u x g y r h. let was = law.tag_read u x g y r h in tag_stays x g (ap (λ (z : Edge). z.tag) was ∙ h)
        ∙ was;
    null_read = λ u x g y r h. null_stays x g (law.null_read u x g y r h);
    drafts = drafts;
  }
    where
      range : (u i x : ℕ) → Entry u i x → (6 ≤ x) × (x ≤ N)
      range u i x (inl old) = law.queues u i x old
      range u i x (inr last) = rw last.2 (swap.high, leaf_inside)

      twin : (x : ℕ) (g : Side) → below Q x g ≡ 0 → (IsLive P x) ⊎ (x ≡ new) → below Q x (other g) ≡ 0
      twin x g z (inl l) = null_stays x (other g) (law.twins x g l (go (changed_or P p d (to new) x g)))
        where
          go : ((x ≡ p) × (d ≡ g) × (with_edge_at P.edges p d (to new) x g ≡ to new))
              ⊎ (with_edge_at P.edges p d (to new) x g ≡ P.edges x g) → below P x g ≡ 0
          go (inl c) = absurd (new_slot.0 (sym (ap (λ (e : Edge). e.slot) c.2) ∙ z))
          go (inr c) = ap (λ (e : Edge). e.slot) (sym c) ∙ z
      twin x g z (inr e) = ap (λ (y : ℕ). below Q y (other g)) e ∙ new_null (other g)

      high : (x : ℕ) (g : Side) → (Q.edges x g).flag ≡ true → (IsLive P x) ⊎ (x ≡ new) → 6 ≤ below Q x g
      high x g h (inl l) = let b = flag_back x g h in rw (ap (λ (e : Edge). e.slot) b.1) (law.flags x g l b.0)
      high x g h (inr e) = unflagged x new g e (plain_new g) h

      froze : (x : ℕ) (g : Side) → (Q.edges x g).tag ≡ true → (IsLive P x) ⊎ (x ≡ new)
          → (Q.edges x (other g)).flag ≡ true
      froze x g h (inl l) = go (changed_or P p d (to new) x g)
        where
          go : ((x ≡ p) × (d ≡ g) × (with_edge_at P.edges p d (to new) x g ≡ to new))
              ⊎ (with_edge_at P.edges p d (to new) x g ≡ P.edges x g) → (Q.edges x (other g)).flag ≡ true
          go (inl c) = absurd (true≢false (sym h ∙ ap (λ (e : Edge). e.tag) c.2))
          go (inr c) = let flag = law.frozen x g l (ap (λ (e : Edge). e.tag) (sym c) ∙ h) in
              ap (λ (e : Edge). e.flag) (flag_stays x (other g) flag) ∙ flag
      froze x g h (inr e) =
          absurd (true≢false (sym h ∙ (ap (λ (y : ℕ). (Q.edges y g).tag) e ∙ ap (λ (z : Edge). z.tag) (plain_new g))))

      marked : {u i : ℕ} (x : ℕ) (g : Side) → below Q x g ≢ 0 → Entry u i x
          → ((Q.edges x g).flag || (Q.edges x g).tag) ≡ true
      marked {u} {i} x g there (inl old) = go (changed_or P p d (to new) x g)
        where
          go : ((x ≡ p) × (d ≡ g) × (with_edge_at P.edges p d (to new) x g ≡ to new))
              ⊎ (with_edge_at P.edges p d (to new) x g ≡ P.edges x g) → ((Q.edges x g).flag || (Q.edges x g).tag) ≡ true
          go (inl c) = absurd (unmarked_not_queued N P p d leaf law swap.unmarked leaf_slot u i (rw c.0 at old))
          go (inr c) = ap (λ (e : Edge). e.flag || e.tag) c
              ∙ law.queued u i x g old (rw (← ap (λ (e : Edge). e.slot) c) there)
      marked x g there (inr last) =
          absurd (there (ap (λ (y : ℕ). below Q y g) last.2 ∙ null_stays leaf g (swap.is_leaf g)))

      reached : (x : ℕ) (q : List Side) (g : Side) → follow (below Q) 1 q ≡ x → (Q.edges x g).flag ≡ true → (f : Side)
          → below Q (below Q x g) f ≡ 0
      reached x q g is h f = go (ℕ_discrete x 0)
        where
          go : Dec (x ≡ 0) → below Q (below Q x g) f ≡ 0
          go (yes z) = unflagged x 0 g z (plain_null g) h
          go (no s) = by (way q x is s)
            where
              by : Way q x → below Q (below Q x g) f ≡ 0
              by (inl a) = flagged_leaf x g (λ k. rw (← a.1) (law.leaf_reached q g (rw a.1 k))) h f
              by (inr b) = unflagged x new g b.1 (plain_new g) h

      known_leaf : (u x : ℕ) (g : Side) → Near u x → (Q.edges x g).flag ≡ true → (f : Side)
          → below Q (below Q x g) f ≡ 0
      known_leaf u x g (inl r) h f = flagged_leaf x g (law.leaf_known u x g r) h f
      known_leaf u x g (inr (inl e)) h f = unflagged x new g e (plain_new g) h
      known_leaf u x g (inr (inr z)) h f = unflagged x 0 g z (plain_null g) h

      not_queued : (v i : ℕ) → P.queue v i ≡ Some new → ⊥
      not_queued v i h = let e : PrivateTo w ≡ InQueue v i = nowhere_else P new (PrivateTo w) (InQueue v i)
          (law.places new new_slot.0 new_slot.1) swap.own h in cc

      young : (u x v i : ℕ) → x ≢ 0 → Near u x → Q.queue v i ≡ Some x → Q.late u v i ≡ false
      young u x v i some (inl r) h = go (eqb v w) (ltb i n) refl h
        where
          go : (b c : Bool) → eqb v w ≡ b
              → cond b (cond c (P.queue w i) (slice_get (leaf ∷ []) (i - n))) (P.queue v i) ≡ Some x
              → cond b (cond c (P.late u w i) false) (P.late u v i) ≡ false
          go true true k h = law.unlate u x w i r h
          go true false k h = refl
          go false c k h = law.unlate u x v i r h
      young u x v i some (inr (inl e)) h = by (entry v i x h)
        where
          by : Entry v i x → Q.late u v i ≡ false
          by (inl old) = absurd (not_queued v i (rw e at old))
          by (inr last) = absurd (leaf_not_new (sym last.2 ∙ e))
      young u x v i some (inr (inr z)) h = absurd (some z)

      guard : (u x : ℕ) → x ≢ 0 → Near u x → IsLive Q x
      guard u x some (inl r) = live_there x (law.guarded u x r)
      guard u x some (inr (inl e)) = rw e live_new
      guard u x some (inr (inr z)) = absurd (some z)

      drafts : (u x : ℕ) (g : Side) (v : ℕ) → Q.drafted u x g ≡ Some v → (Q.private u x ≡ true) × (Q.edges x g ≡ to v)
      drafts u x g v h = go (eqb u w && eqb x new) h
        where
          go : (c : Bool) → cond c None (P.drafted u x g) ≡ Some v → (cond c false (P.private u x) ≡ true)
              × (Q.edges x g ≡ to v)
          go true h = absurd (none-some v h)
          go false h = let was = law.drafts u x g v h in
              (was.0, unless_p x g (λ i. true≢false (sym (rw i at was.0) ∙ swap.live.shared u)) ∙ was.1)
