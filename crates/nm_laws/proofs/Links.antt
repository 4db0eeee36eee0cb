-- The laws of the tree are kept by a link.
use Rattle.std.proofs.Common.{◌≡◌, ℕ, ◌≢◌, ◌≤◌, ◌⊎◌, inl, inr, eqb, Bool, true, false, cond, ◌||◌, ◌&&◌, List, [], ◌∷◌, ◌++◌, refl, sym, ap, ◌∙◌, arith, true≢false}
use Rattle.std.specs.Prelude.{Option, Some, None}
use native.Mathlib.Decide.{ℕ_discrete}
use Rattle.std.proofs.lemmas.Bool.{cond_both, false_from_ne_true}
use Rattle.std.proofs.lemmas.Option.{none-some}
use Rattle.nm_edge.specs.Edges.{Edge}
use Rattle.nm_edge.specs.declared.edge.Side.{Side}
use Rattle.nm_edge.specs.declared.edge.Side.TheVariants.{Left}
use Rattle.nm_edge.specs.Edges.{to, other}
use Rattle.nm_laws.proofs.Trees.{same_side, no_longer}
use Rattle.nm_model.specs.Paths.{follow}
use Rattle.nm_laws.proofs.Pictures.{SeekRecord}
use Rattle.nm_laws.proofs.Pictures.SeekRecord.{InPool, PrivateTo, OnPath, InQueue}
use Rattle.nm_laws.proofs.Trees.{follow-append, follow_leaf, same_side-false, rest_after, Exchanged, not_taken, taken, is_taken, unvisited, same_side-true}
use Rattle.nm_laws.proofs.Pictures.{Picture, below, Stands, Once, IsLive, InReach, TreeLaw, new_place, nowhere_else, alone, null_below, IsOnPath, in_reach}
use Rattle.nm_laws.proofs.Trees.{append_cancel}
use Rattle.nm_laws.proofs.Slots.{hand, hand-same, hand-other, with_edge_at, with_edge-other, is_exchanged}
use Rattle.nm_laws.proofs.Readings.{changed_or}
use Rattle.nm_laws.proofs.Splices.{repathed, live_on_path, unmarked_not_queued}

-- the slots new and far go from the worker's hands to below p
abbrev pub picture_linked : Picture → ℕ → ℕ → Side → ℕ → ℕ → Picture
picture_linked P w p d new far = record {
  edges = with_edge_at P.edges p d (to new);
  pool = P.pool;
  private = hand (hand P.private w new false) w far false;
  queue = P.queue;
  knows = P.knows;
  read = P.read;
  drafted = λ u x g. cond (eqb u w && eqb x far) None (cond (eqb u w && eqb x new) None (P.drafted u x g));
  late = P.late;
}

-- what the worker has shown: p's edge leads to a slot, which is a leaf, or in a radix tree one above
-- 5; new is private, over that slot on the side dl and a private leaf far
pub record IsLink (r : Bool) (N : ℕ) (P : Picture) (w p : ℕ) (d : Side) (leaf new far : ℕ) (dl : Side) : Type 0 where
  pub live : IsLive P p
  pub is_slot : p ≢ 0
  pub inside : p ≤ N
  pub unmarked : P.edges p d ≡ to leaf
  pub leaf_slot : leaf ≢ 0
  pub is_leaf : r ≡ false → (f : Side) → below P leaf f ≡ 0
  pub over : ((f : Side) → below P leaf f ≡ 0) ⊎ (6 ≤ leaf)
  pub own : P.private w new ≡ true
  pub far_own : P.private w far ≡ true
  pub apart : new ≢ far
  pub over_leaf : P.edges new dl ≡ to leaf
  pub over_far : P.edges new (other dl) ≡ to far
  pub far_leaf : (f : Side) → P.edges far f ≡ to 0

module _ (r : Bool) (N : ℕ) (P : Picture) (w p : ℕ) (d : Side) (leaf new far : ℕ) (dl : Side) (law : TreeLaw N P)
    (link : IsLink r N P w p d leaf new far dl) where
  abbrev Q : Picture
  Q = picture_linked P w p d new far

  not_second : leaf ≢ 2
  not_second e = by link.over
    where
      by : ((f : Side) → below P leaf f ≡ 0) ⊎ (6 ≤ leaf) → ⊥
      by (inl null) = law.second (ap (λ (y : ℕ). below P y Left) (sym e) ∙ null Left)
      by (inr high) = omega (arith, high, e)

  leads_to_leaf : below P p d ≡ leaf
  leads_to_leaf = ap (λ (e : Edge). e.slot) link.unmarked

  p_on_path : IsOnPath P p
  p_on_path = live_on_path N P p law link.live link.is_slot link.inside
      (unmarked_not_queued N P p d leaf law link.unmarked link.leaf_slot)

  private_slot : (x : ℕ) → P.private w x ≡ true → (x ≢ 0) × (x ≤ N)
  private_slot x h = let r = law.privates w x h in ((λ z. omega arith), r.1)

  -- private slots are on no path, and not shared
  off_path : (x : ℕ) → P.private w x ≡ true → IsOnPath P x → ⊥
  off_path x own r = let s = private_slot x own in
      let e : PrivateTo w ≡ OnPath r.path = nowhere_else P x (PrivateTo w) (OnPath r.path) (law.places x s.0 s.1) own
      r.ends in cc

  not_live : (x : ℕ) → P.private w x ≡ true → IsLive P x → ⊥
  not_live x own l = true≢false (sym own ∙ l.shared w)

  not_p : (x : ℕ) → P.private w x ≡ true → x ≢ p
  not_p x own e = not_live x own (rw e link.live)

  -- the paths through p's edge, of which none comes back to p
  leaf_path : (u : List Side) → follow (below P) 1 (p_on_path.path ++ d ∷ u) ≡ follow (below P) leaf u
  leaf_path u = follow-append (below P) 1 p_on_path.path (d ∷ u)
      ∙ (ap (λ (s : ℕ). follow (below P) (below P s d) u) p_on_path.ends
      ∙ ap (λ (s : ℕ). follow (below P) s u) leads_to_leaf)

  never_back : (u : List Side) → follow (below P) leaf u ≡ p → ⊥
  never_back u h = no_longer d p_on_path.path u (alone N P law p_on_path.path (p_on_path.path ++ d ∷ u)
      (rw p_on_path.ends link.is_slot) (p_on_path.ends ∙ sym (leaf_path u ∙ h)))

  unless_p : (x : ℕ) (g : Side) → x ≢ p → with_edge_at P.edges p d (to new) x g ≡ P.edges x g
  unless_p x g ne = with_edge-other P.edges p d (to new) x g ne

  differs : (x : ℕ) (g : Side) → (P.edges x g ≡ to leaf → ⊥) → Q.edges x g ≡ P.edges x g
  differs x g other_edge = go (changed_or P p d (to new) x g)
    where
      go : ((x ≡ p) × (d ≡ g) × (with_edge_at P.edges p d (to new) x g ≡ to new))
          ⊎ (with_edge_at P.edges p d (to new) x g ≡ P.edges x g) → Q.edges x g ≡ P.edges x g
      go (inl c) = absurd (other_edge (ap (λ (y : ℕ). P.edges y g) c.0 ∙ (ap (P.edges p) (sym c.1) ∙ link.unmarked)))
      go (inr c) = c

  flag_stays : (x : ℕ) (g : Side) → (P.edges x g).flag ≡ true → Q.edges x g ≡ P.edges x g
  flag_stays x g h = differs x g (λ i. true≢false (sym h ∙ ap (λ (z : Edge). z.flag) i))

  tag_stays : (x : ℕ) (g : Side) → (P.edges x g).tag ≡ true → Q.edges x g ≡ P.edges x g
  tag_stays x g h = differs x g (λ i. true≢false (sym h ∙ ap (λ (z : Edge). z.tag) i))

  null_stays : (x : ℕ) (g : Side) → below P x g ≡ 0 → below Q x g ≡ 0
  null_stays x g h = ap (λ (z : Edge). z.slot) (differs x g
      (λ i. link.leaf_slot (sym (ap (λ (z : Edge). z.slot) i) ∙ h))) ∙ h

  exchange : Exchanged (below P) (below Q) p d new
  exchange = is_exchanged P p d (to new)

  null_below' : (f : Side) → below Q 0 f ≡ 0
  null_below' f = null_stays 0 f (null_below N P law f)

  far_null : (f : Side) → below Q far f ≡ 0
  far_null f = null_stays far f (ap (λ (z : Edge). z.slot) (link.far_leaf f))

  under_leaf : (u : List Side) → follow (below Q) leaf u ≡ follow (below P) leaf u
  under_leaf u = unvisited (below P) (below Q) p d new exchange leaf never_back u

  new_leaf : below Q new dl ≡ leaf
  new_leaf = ap (λ (z : Edge). z.slot) (unless_p new dl (not_p new link.own) ∙ link.over_leaf)

  new_far : below Q new (other dl) ≡ far
  new_far = ap (λ (z : Edge). z.slot) (unless_p new (other dl) (not_p new link.own) ∙ link.over_far)

  -- where a path from new leads
  abbrev Tail : List Side → ℕ → Type 0
  Tail t x = ((t ≡ []) × (x ≡ new)) ⊎ (((u : List Side) × (t ≡ dl ∷ u) × (follow (below P) leaf u ≡ x))
      ⊎ ((t ≡ other dl ∷ []) × (x ≡ far)))

  tail : (t : List Side) (x : ℕ) → follow (below Q) new t ≡ x → x ≢ 0 → Tail t x
  tail [] x h some = inl (refl, sym h)
  tail (g ∷ t) x h some = go (same_side dl g) refl
    where
      over : (y : ℕ) → below Q new g ≡ y → ((f : Side) → below Q y f ≡ 0) → (t ≡ []) × (x ≡ y)
      over y is null = rest t h
        where
          rest : (t : List Side) → follow (below Q) (below Q new g) t ≡ x → (t ≡ []) × (x ≡ y)
          rest [] h = (refl, sym h ∙ is)
          rest (f ∷ t) h = absurd (some (sym h ∙ (ap (λ (z : ℕ). follow (below Q) z (f ∷ t)) is
              ∙ follow_leaf (below Q) null_below' y null f t)))

      go : (b : Bool) → same_side dl g ≡ b → Tail (g ∷ t) x
      go true e =
          let side = same_side-true dl g e in
          inr (inl (
            t,
            ap (λ (y : Side). y ∷ t) (sym side),
            sym (under_leaf t)
                ∙ (ap (λ (s : ℕ). follow (below Q) s t) (sym (ap (below Q new) (sym side) ∙ new_leaf)) ∙ h),
          ))
      go false e =
          let side = same_side-false dl g e in
          let k = over far (ap (below Q new) side ∙ new_far) far_null in
          inr (inr (ap (λ (ys : List Side). g ∷ ys) k.0 ∙ ap (λ (y : Side). y ∷ []) side, k.1))

  -- a path now: as it was, or through the new edge
  abbrev Way : List Side → ℕ → Type 0
  Way q x = ((rest_after (below P) p d 1 q ≡ None) × (follow (below P) 1 q ≡ x))
      ⊎ ((t : List Side) × (q ≡ p_on_path.path ++ d ∷ t) × Tail t x)

  way : (q : List Side) (x : ℕ) → follow (below Q) 1 q ≡ x → x ≢ 0 → Way q x
  way q x h some = go (rest_after (below P) p d 1 q) refl
    where
      go : (o : Option (List Side)) → rest_after (below P) p d 1 q ≡ o → Way q x
      go None k = inl (k, sym (not_taken (below P) (below Q) p d new exchange 1 q k) ∙ h)
      go (Some t) k =
          let i = taken (below P) (below Q) p d new exchange 1 q t k in
          let first : p_on_path.path ≡ i.front = alone N P law p_on_path.path i.front
          (rw p_on_path.ends link.is_slot) (p_on_path.ends ∙ sym i.comes) in
          inr (t, i.is ∙ ap (λ (r : List Side). r ++ d ∷ t) (sym first), tail t x (sym i.leads ∙ h) some)

  straight : rest_after (below P) p d 1 p_on_path.path ≡ None
  straight = go (rest_after (below P) p d 1 p_on_path.path) refl
    where
      go : (o : Option (List Side)) → rest_after (below P) p d 1 p_on_path.path ≡ o → o ≡ None
      go None k = refl
      go (Some t) k =
          let i = taken (below P) (below Q) p d new exchange 1 p_on_path.path t k in
          let first : p_on_path.path ≡ i.front = alone N P law p_on_path.path i.front
          (rw p_on_path.ends link.is_slot) (p_on_path.ends ∙ sym i.comes) in
          absurd (no_longer d p_on_path.path t (i.is ∙ ap (λ (r : List Side). r ++ d ∷ t) (sym first)))

  through : (t : List Side) → follow (below Q) 1 (p_on_path.path ++ d ∷ t) ≡ follow (below Q) new t
  through t = follow-append (below Q) 1 p_on_path.path (d ∷ t)
      ∙ (ap (λ (s : ℕ). follow (below Q) (below Q s d) t)
      (not_taken (below P) (below Q) p d new exchange 1 p_on_path.path straight ∙ p_on_path.ends)
      ∙ ap (λ (s : ℕ). follow (below Q) s t) exchange.here)

  -- what was below stands on a path
  was_below : (u : List Side) (x : ℕ) → x ≢ 0 → follow (below P) leaf u ≡ x → IsOnPath P x
  was_below u x some h = record { path = p_on_path.path ++ d ∷ u; ends = leaf_path u ∙ h; is_slot = some }

  one_tail : (t v : List Side) (x : ℕ) → x ≢ 0 → Tail t x → Tail v x → t ≡ v
  one_tail t v x some (inl a) (inl b) = a.0 ∙ sym b.0
  one_tail t v x some (inl a) (inr (inl b)) = absurd
      (off_path new link.own (was_below b.0 new (private_slot new link.own).0 (b.2 ∙ a.1)))
  one_tail t v x some (inl a) (inr (inr b)) = absurd (link.apart (sym a.1 ∙ b.1))
  one_tail t v x some (inr (inl a)) (inl b) = absurd
      (off_path new link.own (was_below a.0 new (private_slot new link.own).0 (a.2 ∙ b.1)))
  one_tail t v x some (inr (inl a)) (inr (inl b)) = a.1 ∙ (ap (λ (u : List Side). dl ∷ u) same ∙ sym b.1)
    where
      both : p_on_path.path ++ d ∷ a.0 ≡ p_on_path.path ++ d ∷ b.0
      both = alone N P law (p_on_path.path ++ d ∷ a.0) (p_on_path.path ++ d ∷ b.0)
          (λ z. some (sym (leaf_path a.0 ∙ a.2) ∙ z)) (leaf_path a.0 ∙ (a.2 ∙ sym (leaf_path b.0 ∙ b.2)))

      same : a.0 ≡ b.0
      same = let e : d ∷ a.0 ≡ d ∷ b.0 = append_cancel p_on_path.path (d ∷ a.0) (d ∷ b.0) both in cc
  one_tail t v x some (inr (inl a)) (inr (inr b)) = absurd
      (off_path far link.far_own (was_below a.0 far (private_slot far link.far_own).0 (a.2 ∙ b.1)))
  one_tail t v x some (inr (inr a)) (inl b) = absurd (link.apart (sym b.1 ∙ a.1))
  one_tail t v x some (inr (inr a)) (inr (inl b)) = absurd
      (off_path far link.far_own (was_below b.0 far (private_slot far link.far_own).0 (b.2 ∙ a.1)))
  one_tail t v x some (inr (inr a)) (inr (inr b)) = a.0 ∙ sym b.0

  -- an old path that doesn't take the edge, and a new one through it, end apart
  mixed : (q t : List Side) (x : ℕ) → x ≢ 0 → rest_after (below P) p d 1 q ≡ None → follow (below P) 1 q ≡ x
      → Tail t x → ⊥
  mixed q t x some k h (inl a) = off_path new link.own
      (record { path = q; ends = h ∙ a.1; is_slot = (private_slot new link.own).0 })
  mixed q t x some k h (inr (inl a)) =
      let same = alone N P law q (p_on_path.path ++ d ∷ a.0) (rw h some) (h ∙ sym (leaf_path a.0 ∙ a.2)) in
      is_taken (below P) p d 1 p_on_path.path a.0 p_on_path.ends (rw same at k)
  mixed q t x some k h (inr (inr a)) = off_path far link.far_own
      (record { path = q; ends = h ∙ a.1; is_slot = (private_slot far link.far_own).0 })

  now_alone : (x : ℕ) → x ≢ 0 → (q r : List Side) → follow (below Q) 1 q ≡ x → follow (below Q) 1 r ≡ x → q ≡ r
  now_alone x some q r h k = go (way q x h some) (way r x k some)
    where
      go : Way q x → Way r x → q ≡ r
      go (inl a) (inl b) = alone N P law q r (rw a.1 some) (a.1 ∙ sym b.1)
      go (inl a) (inr b) = absurd (mixed q b.0 x some a.0 a.1 b.2)
      go (inr a) (inl b) = absurd (mixed r a.0 x some b.0 b.1 a.2)
      go (inr a) (inr b) = a.1 ∙ (ap (λ (t : List Side). p_on_path.path ++ d ∷ t) (one_tail a.0 b.0 x some a.2 b.2)
          ∙ sym b.1)

  -- ---- places

  private_back : (u x : ℕ) → Q.private u x ≡ true → P.private u x ≡ true
  private_back u x h = go (eqb u w && eqb x far) (eqb u w && eqb x new) h
    where
      go : (b c : Bool) → cond b false (cond c false (P.private u x)) ≡ true → P.private u x ≡ true
      go true c h = absurd (true≢false (sym h))
      go false true h = absurd (true≢false (sym h))
      go false false h = h

  private_there : (u x : ℕ) → x ≢ new → x ≢ far → Q.private u x ≡ P.private u x
  private_there u x n f = hand-other (hand P.private w new false) w far false u x f
      ∙ hand-other P.private w new false u x n

  given_new : Q.private w new ≡ false
  given_new = hand-other (hand P.private w new false) w far false w new link.apart ∙ hand-same P.private w new false

  given_far : Q.private w far ≡ false
  given_far = hand-same (hand P.private w new false) w far false

  place_given : (x : ℕ) → P.private w x ≡ true → Q.private w x ≡ false → (r : List Side) → follow (below Q) 1 r ≡ x
      → Once Q x
  place_given x own gone r h = new_place P Q x (PrivateTo w) (OnPath r) own h each (law.places x s.0 s.1)
    where
      s : (x ≢ 0) × (x ≤ N)
      s = private_slot x own

      each : (q : SeekRecord) → Stands Q x q → (q ≡ OnPath r) ⊎ (Stands P x q × (q ≢ PrivateTo w))
      each InPool k = inr (k, λ e. cc)
      each (PrivateTo u) k = elim (ℕ_discrete u w) [
        | yes e ↦ absurd (true≢false (sym k ∙ (ap (λ (y : ℕ). Q.private y x) e ∙ gone)))
        | no ne ↦ inr (private_back u x k, λ e. ne (worker_of e))
      ]
        where
          worker_of : PrivateTo u ≡ PrivateTo w → u ≡ w
          worker_of e = cc
      each (OnPath q) k = inl (ap OnPath (now_alone x s.0 q r k h))
      each (InQueue u i) k = inr (k, λ e. cc)

  place_other : (x : ℕ) → x ≢ 0 → x ≤ N → x ≢ new → x ≢ far → Once Q x
  place_other x some inside n f = repathed P Q x (λ h. h) (λ h. h) (λ u h. private_there u x n f ∙ h)
      (λ u h. private_back u x h) (λ u i h. h) (λ u i h. h)
      forth came (λ q r. now_alone x some q r) (law.places x some inside)
    where
      forth : (q : List Side) → follow (below P) 1 q ≡ x → (r : List Side) × (follow (below Q) 1 r ≡ x)
      forth q h = go (rest_after (below P) p d 1 q) refl
        where
          go : (o : Option (List Side)) → rest_after (below P) p d 1 q ≡ o
              → (r : List Side) × (follow (below Q) 1 r ≡ x)
          go None k = (q, not_taken (below P) (below Q) p d new exchange 1 q k ∙ h)
          go (Some t) k =
              let i = taken (below P) (below Q) p d new exchange 1 q t k in
              let old : follow (below P) leaf t ≡ x = sym
              (ap (follow (below P) 1) i.is ∙ (follow-append (below P) 1 i.front (d ∷ t)
              ∙ (ap (λ (s : ℕ). follow (below P) (below P s d) t) i.comes
              ∙ ap (λ (s : ℕ). follow (below P) s t) leads_to_leaf))) ∙ h in (
                p_on_path.path ++ d ∷ dl ∷ t,
                through (dl ∷ t)
                    ∙ (ap (λ (s : ℕ). follow (below Q) s t) new_leaf ∙ (under_leaf t ∙ old)),
              )

      came : (q : List Side) → follow (below Q) 1 q ≡ x → (r : List Side) × (follow (below P) 1 r ≡ x)
      came q h = go (way q x h some)
        where
          go : Way q x → (r : List Side) × (follow (below P) 1 r ≡ x)
          go (inl a) = (q, a.1)
          go (inr (t, e, inl a)) = absurd (n a.1)
          go (inr (t, e, inr (inl a))) = (p_on_path.path ++ d ∷ a.0, leaf_path a.0 ∙ a.2)
          go (inr (t, e, inr (inr a))) = absurd (f a.1)

  -- ---- what a worker may come to

  abbrev Near : ℕ → ℕ → Type 0
  Near u x = InReach P u x ⊎ (((x ≡ new) × InReach P u p) ⊎ ((x ≡ far) ⊎ (x ≡ 0)))

  leaf_near : (u : ℕ) → InReach P u p → InReach P u leaf
  leaf_near u r = rw (← leads_to_leaf) (in_reach P u p d r (rw leads_to_leaf link.leaf_slot))

  near_step : (u x : ℕ) (g : Side) → Near u x → Near u (below Q x g)
  near_step u x g (inl r) = go (changed_or P p d (to new) x g) (ℕ_discrete (below P x g) 0)
    where
      go : ((x ≡ p) × (d ≡ g) × (with_edge_at P.edges p d (to new) x g ≡ to new))
          ⊎ (with_edge_at P.edges p d (to new) x g ≡ P.edges x g) → Dec (below P x g ≡ 0) → Near u (below Q x g)
      go (inl c) z = inr (inl (ap (λ (e : Edge). e.slot) c.2, rw c.0 at r))
      go (inr c) (yes z) = inr (inr (inr (ap (λ (e : Edge). e.slot) c ∙ z)))
      go (inr c) (no s) = inl (rw (ap (λ (e : Edge). e.slot) c) (in_reach P u x g r s))
  near_step u x g (inr (inl n)) = go (same_side dl g) refl
    where
      go : (b : Bool) → same_side dl g ≡ b → Near u (below Q x g)
      go true e =
          let is : below Q x g ≡ leaf = ap (λ (y : ℕ). below Q y g) n.0
          ∙ (ap (below Q new) (sym (same_side-true dl g e)) ∙ new_leaf) in
          inl (rw is (leaf_near u n.1))
      go false e = inr (inr (inl (ap (λ (y : ℕ). below Q y g) n.0
          ∙ (ap (below Q new) (same_side-false dl g e) ∙ new_far))))
  near_step u x g (inr (inr (inl f))) = inr (inr (inr (ap (λ (y : ℕ). below Q y g) f ∙ far_null g)))
  near_step u x g (inr (inr (inr z))) = inr (inr (inr (ap (λ (y : ℕ). below Q y g) z ∙ null_below' g)))

  near_walk : (u s : ℕ) (q : List Side) → Near u s → Near u (follow (below Q) s q)
  near_walk u s [] h = h
  near_walk u s (g ∷ q) h = near_walk u (below Q s g) q (near_step u s g h)

  near : (u x : ℕ) → InReach Q u x → Near u x
  near u x r =
      let range = law.known u r.from r.known in
      rw (← r.ends) (near_walk u r.from r.path (inl (record
      { from = r.from; known = r.known; path = []; ends = refl; is_slot = λ z. omega arith })))

  -- what is shared now, was so or was given
  live_back : (x : ℕ) → IsLive Q x → (IsLive P x) ⊎ ((x ≡ new) ⊎ (x ≡ far))
  live_back x l = elim (ℕ_discrete x new) [
    | yes n ↦ inr (inl n)
    | no n ↦ elim (ℕ_discrete x far) [
      | yes f ↦ inr (inr f)
      | no f ↦ inl (record { pooled = l.pooled; shared = λ u. sym (private_there u x n f) ∙ l.shared u })
    ]
  ]

  live_there : (x : ℕ) → IsLive P x → IsLive Q x
  live_there x l = record {
    pooled = l.pooled;
    shared = λ u. false_from_ne_true _
        (λ h. true≢false (sym (private_back u x h) ∙ l.shared u));
  }

  live_given : (x : ℕ) → P.private w x ≡ true → Q.private w x ≡ false → IsLive Q x
  live_given x own gone = record {
    pooled = false_from_ne_true _ (λ h. clash (nowhere_else P x InPool (PrivateTo w) (law.places x s.0 s.1) h own));
    shared = λ u. false_from_ne_true _ (λ h. mine u h
        (nowhere_else P x (PrivateTo u) (PrivateTo w) (law.places x s.0 s.1) (private_back u x h) own));
  }
    where
      s : (x ≢ 0) × (x ≤ N)
      s = private_slot x own

      clash : InPool ≡ PrivateTo w → ⊥
      clash e = cc

      mine : (u : ℕ) → Q.private u x ≡ true → PrivateTo u ≡ PrivateTo w → ⊥
      mine u h e = true≢false (sym h ∙ (ap (λ (y : ℕ). Q.private y x) (worker_of e) ∙ gone))
        where
          worker_of : PrivateTo u ≡ PrivateTo w → u ≡ w
          worker_of e = cc

  unflagged_new : (g : Side) → (Q.edges new g).flag ≡ false
  unflagged_new g = ap (λ (e : Edge). e.flag) (unless_p new g (not_p new link.own)) ∙ go (same_side dl g) refl
    where
      go : (b : Bool) → same_side dl g ≡ b → (P.edges new g).flag ≡ false
      go true e = ap (λ (y : Side). (P.edges new y).flag) (sym (same_side-true dl g e))
          ∙ ap (λ (e : Edge). e.flag) link.over_leaf
      go false e = ap (λ (y : Side). (P.edges new y).flag) (same_side-false dl g e)
          ∙ ap (λ (e : Edge). e.flag) link.over_far

  untagged_new : (g : Side) → (Q.edges new g).tag ≡ false
  untagged_new g = ap (λ (e : Edge). e.tag) (unless_p new g (not_p new link.own)) ∙ go (same_side dl g) refl
    where
      go : (b : Bool) → same_side dl g ≡ b → (P.edges new g).tag ≡ false
      go true e = ap (λ (y : Side). (P.edges new y).tag) (sym (same_side-true dl g e))
          ∙ ap (λ (e : Edge). e.tag) link.over_leaf
      go false e = ap (λ (y : Side). (P.edges new y).tag) (same_side-false dl g e)
          ∙ ap (λ (e : Edge). e.tag) link.over_far

  full_new : (g : Side) → below Q new g ≢ 0
  full_new g = go (same_side dl g) refl
    where
      go : (b : Bool) → same_side dl g ≡ b → below Q new g ≢ 0
      go true e = rw (ap (below Q new) (sym (same_side-true dl g e)) ∙ new_leaf) link.leaf_slot
      go false e = rw (ap (below Q new) (same_side-false dl g e) ∙ new_far) (private_slot far link.far_own).0

  plain_far : (g : Side) → Q.edges far g ≡ to 0
  plain_far g = unless_p far g (not_p far link.far_own) ∙ link.far_leaf g

  -- a flag now is a flag from before, of a slot that was shared
  flag_back : (x : ℕ) (g : Side) → (Q.edges x g).flag ≡ true → ((P.edges x g).flag ≡ true) × (Q.edges x g ≡ P.edges x g)
  flag_back x g h = go (changed_or P p d (to new) x g)
    where
      go : ((x ≡ p) × (d ≡ g) × (with_edge_at P.edges p d (to new) x g ≡ to new))
          ⊎ (with_edge_at P.edges p d (to new) x g ≡ P.edges x g)
          → ((P.edges x g).flag ≡ true) × (Q.edges x g ≡ P.edges x g)
      go (inl c) = absurd (true≢false (sym h ∙ ap (λ (e : Edge). e.flag) c.2))
      go (inr c) = (ap (λ (e : Edge). e.flag) (sym c) ∙ h, c)

  flagged_leaf : (x : ℕ) (g : Side) → ((P.edges x g).flag ≡ true → (f : Side) → below P (below P x g) f ≡ 0)
      → (Q.edges x g).flag ≡ true → (f : Side) → below Q (below Q x g) f ≡ 0
  flagged_leaf x g was h f =
      let b = flag_back x g h in
      ap (λ (e : Edge). below Q e.slot f) b.1 ∙ null_stays (below P x g) f (was b.0 f)

  never : (x : ℕ) (g : Side) → (Q.edges x g).flag ≡ false → {A : Type 0} → (Q.edges x g).flag ≡ true → A
  never x g no' h = absurd (true≢false (sym h ∙ no'))

  pub link_keeps : TreeLaw N Q
  link_keeps = record {
    room = law.room;
    nothing = λ g. unless_p 0 g (λ h. link.is_slot (sym h)) ∙ law.nothing g;
    within = λ x g. cond_both (eqb x p && same_side d g) (to new) (P.edges x g) (λ e. e.slot ≤ N)
        (λ _. (private_slot new link.own).1) (λ _. law.within x g);
    pools = law.pools;
    privates = λ u x h. law.privates u x (private_back u x h);
    queues = law.queues;
    known = law.known;
    root_left = ap (λ (e : Edge). e.slot) (differs 1 Left
        (λ i. not_second (sym (ap (λ (e : Edge). e.slot) i) ∙ law.root_left))) ∙ law.root_left;
    second = cond_both (eqb 2 p && same_side d Left) (to new) (P.edges 2 Left) (λ e. e.slot ≢ 0)
        (λ _. (private_slot new link.own).0) (λ _. law.second);
    sentinels = λ x g a b. null_stays x g (law.sentinels x g a b);
    places = λ x some inside. elim (ℕ_discrete x new) [
      | yes n ↦ rw n (place_given new link.own given_new (p_on_path.path ++ d ∷ []) (through []))
      | no n ↦ elim (ℕ_discrete x far) [
        | yes f ↦ rw f (place_given far link.far_own given_far (p_on_path.path ++ d ∷ other dl ∷ [])
            (through (other dl ∷ []) ∙ new_far))
        | no f ↦ place_other x some inside n f
      ]
    ];
    twins = λ x g l z. twin x g z (live_back x l);
    flags = λ x g l h. high x g h (live_back x l);
    frozen = λ x g l h. froze x g h (live_back x l);
    queued = λ u i x g h there. queued u i x g h there (changed_or P p d (to new) x g);
    leaf_reached = λ q g. reached (follow (below Q) 1 q) q g refl;
    leaf_known = λ u x g r. known_leaf u x g (near u x r);
    guarded = λ u x r. guard u x r.is_slot (near u x r);
    unlate = λ u x v i r h. young u x v i r.is_slot (near u x r) h;
    reads = law.reads;
    flag_read = λ u x g y r h. let was = law.flag_read u x g y r h in let same = flag_stays x g was.0 in
        (ap (λ (z : Edge). z.flag) same ∙ was.0, ap (λ (z : Edge). z.slot) same ∙ was.1);
    tag_read = λ u x g y r h. let was = law.tag_read u x g y r h in
        tag_stays x g (ap (λ (z : Edge). z.tag) was ∙ h) ∙ was;
    null_read = λ u x g y r h. null_stays x g (law.null_read u x g y r h);
    drafts = drafts;
  }
    where
      twin : (x : ℕ) (g : Side) → below Q x g ≡ 0 → (IsLive P x) ⊎ ((x ≡ new) ⊎ (x ≡ far)) → below Q x (other g) ≡ 0
      twin x g z (inl l) = null_stays x (other g) (law.twins x g l (go (changed_or P p d (to new) x g)))
        where
          go : ((x ≡ p) × (d ≡ g) × (with_edge_at P.edges p d (to new) x g ≡ to new))
              ⊎ (with_edge_at P.edges p d (to new) x g ≡ P.edges x g) → below P x g ≡ 0
          go (inl c) = absurd ((private_slot new link.own).0 (sym (ap (λ (e : Edge). e.slot) c.2) ∙ z))
          go (inr c) = ap (λ (e : Edge). e.slot) (sym c) ∙ z
      twin x g z (inr (inl n)) = absurd (full_new g (ap (λ (y : ℕ). below Q y g) (sym n) ∙ z))
      twin x g z (inr (inr f)) = ap (λ (y : ℕ). below Q y (other g)) f ∙ far_null (other g)

      high : (x : ℕ) (g : Side) → (Q.edges x g).flag ≡ true → (IsLive P x) ⊎ ((x ≡ new) ⊎ (x ≡ far)) → 6 ≤ below Q x g
      high x g h (inl l) = let b = flag_back x g h in rw (ap (λ (e : Edge). e.slot) b.1) (law.flags x g l b.0)
      high x g h (inr (inl n)) = absurd (true≢false (sym h ∙ (ap (λ (y : ℕ). (Q.edges y g).flag) n ∙ unflagged_new g)))
      high x g h (inr (inr f)) = absurd (true≢false (sym h
          ∙ (ap (λ (y : ℕ). (Q.edges y g).flag) f ∙ ap (λ (e : Edge). e.flag) (plain_far g))))

      froze : (x : ℕ) (g : Side) → (Q.edges x g).tag ≡ true → (IsLive P x) ⊎ ((x ≡ new) ⊎ (x ≡ far))
          → (Q.edges x (other g)).flag ≡ true
      froze x g h (inl l) = go (changed_or P p d (to new) x g)
        where
          go : ((x ≡ p) × (d ≡ g) × (with_edge_at P.edges p d (to new) x g ≡ to new))
              ⊎ (with_edge_at P.edges p d (to new) x g ≡ P.edges x g) → (Q.edges x (other g)).flag ≡ true
          go (inl c) = absurd (true≢false (sym h ∙ ap (λ (e : Edge). e.tag) c.2))
          go (inr c) = let flag = law.frozen x g l (ap (λ (e : Edge). e.tag) (sym c) ∙ h) in
              ap (λ (e : Edge). e.flag) (flag_stays x (other g) flag) ∙ flag
      froze x g h (inr (inl n)) = absurd (true≢false (sym h ∙ (ap (λ (y : ℕ). (Q.edges y g).tag) n ∙ untagged_new g)))
      froze x g h (inr (inr f)) = absurd (true≢false
          (sym h ∙ (ap (λ (y : ℕ). (Q.edges y g).tag) f ∙ ap (λ (e : Edge). e.tag) (plain_far g))))

      queued : (u i x : ℕ) (g : Side) → P.queue u i ≡ Some x → below Q x g ≢ 0
          → ((x ≡ p) × (d ≡ g) × (with_edge_at P.edges p d (to new) x g ≡ to new))
          ⊎ (with_edge_at P.edges p d (to new) x g ≡ P.edges x g) → ((Q.edges x g).flag || (Q.edges x g).tag) ≡ true
      queued u i x g h there (inl c) = absurd (unmarked_not_queued N P p d leaf law link.unmarked link.leaf_slot u i
          (rw c.0 at h))
      queued u i x g h there (inr c) = ap (λ (e : Edge). e.flag || e.tag) c
          ∙ law.queued u i x g h (rw (← ap (λ (e : Edge). e.slot) c) there)

      reached : (x : ℕ) (q : List Side) (g : Side) → follow (below Q) 1 q ≡ x → (Q.edges x g).flag ≡ true
          → (f : Side) → below Q (below Q x g) f ≡ 0
      reached x q g is h f = go (ℕ_discrete x 0)
        where
          go : Dec (x ≡ 0) → below Q (below Q x g) f ≡ 0
          go (yes z) = absurd (true≢false (sym h ∙ (ap (λ (y : ℕ). (Q.edges y g).flag) z
              ∙ ap (λ (e : Edge). e.flag) (unless_p 0 g (λ k. link.is_slot (sym k)) ∙ law.nothing g))))
          go (no s) = by (way q x is s)
            where
              by : Way q x → below Q (below Q x g) f ≡ 0
              by (inl a) = flagged_leaf x g (λ k. rw (← a.1) (law.leaf_reached q g (rw a.1 k))) h f
              by (inr (t, e, inl a)) = absurd (true≢false
                  (sym h ∙ (ap (λ (y : ℕ). (Q.edges y g).flag) a.1 ∙ unflagged_new g)))
              by (inr (t, e, inr (inl a))) = flagged_leaf x g
                  (λ k. let ends = leaf_path a.0 ∙ a.2 in
                  rw (← ends) (law.leaf_reached (p_on_path.path ++ d ∷ a.0) g (rw ends k))) h f
              by (inr (t, e, inr (inr a))) = absurd (true≢false
                  (sym h ∙ (ap (λ (y : ℕ). (Q.edges y g).flag) a.1 ∙ ap (λ (e : Edge). e.flag) (plain_far g))))

      known_leaf : (u x : ℕ) (g : Side) → Near u x → (Q.edges x g).flag ≡ true → (f : Side)
          → below Q (below Q x g) f ≡ 0
      known_leaf u x g (inl r) h f = flagged_leaf x g (law.leaf_known u x g r) h f
      known_leaf u x g (inr (inl n)) h f = absurd (true≢false
          (sym h ∙ (ap (λ (y : ℕ). (Q.edges y g).flag) n.0 ∙ unflagged_new g)))
      known_leaf u x g (inr (inr (inl k))) h f = absurd
          (true≢false (sym h ∙ (ap (λ (y : ℕ). (Q.edges y g).flag) k ∙ ap (λ (e : Edge). e.flag) (plain_far g))))
      known_leaf u x g (inr (inr (inr z))) h f = absurd
          (true≢false (sym h ∙ (ap (λ (y : ℕ). (Q.edges y g).flag) z
          ∙ ap (λ (e : Edge). e.flag) (unless_p 0 g (λ k. link.is_slot (sym k)) ∙ law.nothing g))))

      not_queued : (x v i : ℕ) → P.private w x ≡ true → P.queue v i ≡ Some x → ⊥
      not_queued x v i own h = let s = private_slot x own in
          let e : PrivateTo w ≡ InQueue v i = nowhere_else P x (PrivateTo w) (InQueue v i) (law.places x s.0 s.1) own
          h in cc

      young : (u x v i : ℕ) → x ≢ 0 → Near u x → P.queue v i ≡ Some x → P.late u v i ≡ false
      young u x v i some (inl r) h = law.unlate u x v i r h
      young u x v i some (inr (inl n)) h = absurd (not_queued new v i link.own (rw n.0 at h))
      young u x v i some (inr (inr (inl f))) h = absurd (not_queued far v i link.far_own (rw f at h))
      young u x v i some (inr (inr (inr z))) h = absurd (some z)

      guard : (u x : ℕ) → x ≢ 0 → Near u x → IsLive Q x
      guard u x some (inl r) = live_there x (law.guarded u x r)
      guard u x some (inr (inl n)) = rw n.0 (live_given new link.own given_new)
      guard u x some (inr (inr (inl f))) = rw f (live_given far link.far_own given_far)
      guard u x some (inr (inr (inr z))) = absurd (some z)

      drafts : (u x : ℕ) (g : Side) (v : ℕ) → Q.drafted u x g ≡ Some v → (Q.private u x ≡ true) × (Q.edges x g ≡ to v)
      drafts u x g v h = go (eqb u w && eqb x far) (eqb u w && eqb x new) h
        where
          go : (b c : Bool) → cond b None (cond c None (P.drafted u x g)) ≡ Some v
              → (cond b false (cond c false (P.private u x)) ≡ true) × (Q.edges x g ≡ to v)
          go true c h = absurd (none-some v h)
          go false true h = absurd (none-some v h)
          go false false h = let was = law.drafts u x g v h in
              (was.0, unless_p x g (λ i. true≢false (sym (rw i at was.0) ∙ link.live.shared u)) ∙ was.1)
