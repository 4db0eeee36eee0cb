-- The laws of the tree are kept where a worker learns what is so, and where an edge gets a mark.
use Rattle.std.proofs.Common.{◌≡◌, ℕ, ◌≢◌, ◌≤◌, ◌⊎◌, inl, inr, eqb, Bool, true, false, cond, ◌||◌, ◌&&◌, List, ◌++◌, refl, sym, ap, ◌∙◌, arith, true≢false}
use Rattle.std.specs.Prelude.{Option, Some}
use Rattle.std.proofs.lemmas.Bool.{eqb-true, and_parts, or_cases, or_left, or_right}
use Rattle.nm_edge.specs.Edges.{Edge}
use Rattle.nm_edge.specs.declared.edge.Side.{Side}
use Rattle.nm_edge.specs.declared.edge.Side.TheVariants.{Left}
use Rattle.nm_edge.specs.Edges.{other}
use Rattle.nm_laws.proofs.Trees.{same_side}
use Rattle.nm_model.specs.Paths.{follow}
use Rattle.nm_laws.proofs.Trees.{follow-append, same_follow, same_side-true}
use Rattle.nm_laws.proofs.Pictures.{Picture, below, IsLive, InReach, TreeLaw, same_ways, within_path, reached_within, reached_live, path_not_queued, IsOnPath}
use Rattle.nm_laws.proofs.Slots.{with_edge_at, with_edge-other, with_edges}

abbrev pub learned : Picture → (ℕ → ℕ → Bool) → (ℕ → ℕ → Side → Option Edge) → Picture
learned P knows read = record {
  edges = P.edges;
  pool = P.pool;
  private = P.private;
  queue = P.queue;
  knows = knows;
  read = read;
  drafted = P.drafted;
  late = P.late;
}

pub learn_keeps : (N : ℕ) (P : Picture) (knows : ℕ → ℕ → Bool) (read : ℕ → ℕ → Side → Option Edge) → TreeLaw N P
    → ((u x : ℕ) → knows u x ≡ true → InReach P u x ⊎ IsOnPath P x)
    → ((u x : ℕ) (d : Side) (e : Edge) → read u x d ≡ Some e
    → (knows u x ≡ true) × ((P.read u x d ≡ Some e) ⊎ (P.edges x d ≡ e)))
    → TreeLaw N (learned P knows read)
learn_keeps N P knows read law met heard = record {
  room = law.room;
  nothing = law.nothing;
  within = law.within;
  pools = law.pools;
  privates = law.privates;
  queues = law.queues;
  known = λ u x k. range u x (met u x k);
  root_left = law.root_left;
  second = law.second;
  sentinels = law.sentinels;
  places = λ x some inside. same_ways P (learned P knows read) x refl (λ u. refl) (λ u i. refl) (λ q. refl)
      (law.places x some inside);
  twins = λ x d h. law.twins x d (live x h);
  flags = λ x d h. law.flags x d (live x h);
  frozen = λ x d h. law.frozen x d (live x h);
  queued = law.queued;
  leaf_reached = law.leaf_reached;
  leaf_known = λ u x d r. leaf u x d (were u x r);
  guarded = λ u x r. guard u x (were u x r);
  unlate = λ u x v i r. young u x v i (were u x r);
  reads = λ u x d e r. (heard u x d e r).0;
  flag_read = λ u x d e r h. flag_of u x d e h (heard u x d e r).1;
  tag_read = λ u x d e r h. tag_of u x d e h (heard u x d e r).1;
  null_read = λ u x d e r h. null_of u x d e h (heard u x d e r).1;
  drafts = law.drafts;
}
  where
    live : (x : ℕ) → IsLive (learned P knows read) x → IsLive P x
    live x h = record { pooled = h.pooled; shared = h.shared }

    were : (u x : ℕ) → InReach (learned P knows read) u x → InReach P u x ⊎ IsOnPath P x
    were u x r = go (met u r.from r.known)
      where
        go : InReach P u r.from ⊎ IsOnPath P r.from → InReach P u x ⊎ IsOnPath P x
        go (inl a) = inl (record {
          from = a.from;
          known = a.known;
          path = a.path
              ++ r.path;
          ends = follow-append (below P) a.from a.path r.path
              ∙ (ap (λ (y : ℕ). follow (below P) y r.path) a.ends ∙ r.ends);
          is_slot = r.is_slot;
        })
        go (inr a) = inr (record {
          path = a.path ++ r.path;
          ends = follow-append (below P) 1 a.path r.path
              ∙ (ap (λ (y : ℕ). follow (below P) y r.path) a.ends ∙ r.ends);
          is_slot = r.is_slot;
        })

    range : (u x : ℕ) → InReach P u x ⊎ IsOnPath P x → (1 ≤ x) × (x ≤ N)
    range u x (inl a) =
        let some = a.is_slot in
        let inside : x ≤ N = rw (← a.ends) (within_path N P law a.from a.path (law.known u a.from a.known).1) in
        (omega arith, inside)
    range u x (inr a) =
        let some = a.is_slot in
        let inside : x ≤ N = rw (← a.ends) (reached_within N P law a.path) in (omega arith, inside)

    young : (u x v i : ℕ) → InReach P u x ⊎ IsOnPath P x → P.queue v i ≡ Some x → P.late u v i ≡ false
    young u x v i (inl a) h = law.unlate u x v i a h
    young u x v i (inr a) h = absurd (path_not_queued N P law a.path v i (rw a.ends a.is_slot)
        (h ∙ ap Some (sym a.ends)))

    guard : (u x : ℕ) → InReach P u x ⊎ IsOnPath P x → IsLive (learned P knows read) x
    guard u x (inl a) = let l = law.guarded u x a in record { pooled = l.pooled; shared = l.shared }
    guard u x (inr a) = let l : IsLive P x = rw (← a.ends) (reached_live N P law a.path (rw a.ends a.is_slot)) in
        record { pooled = l.pooled; shared = l.shared }

    leaf : (u x : ℕ) (d : Side) → InReach P u x ⊎ IsOnPath P x → (P.edges x d).flag ≡ true → (f : Side)
        → below P (below P x d) f ≡ 0
    leaf u x d (inl a) h f = law.leaf_known u x d a h f
    leaf u x d (inr a) h f = ap (λ (y : ℕ). below P (below P y d) f) (sym a.ends)
        ∙ law.leaf_reached a.path d (rw a.ends h) f

    flag_of : (u x : ℕ) (d : Side) (e : Edge) → e.flag ≡ true → (P.read u x d ≡ Some e) ⊎ (P.edges x d ≡ e)
        → ((P.edges x d).flag ≡ true) × (below P x d ≡ e.slot)
    flag_of u x d e h (inl old) = law.flag_read u x d e old h
    flag_of u x d e h (inr new) = (ap (λ (y : Edge). y.flag) new ∙ h, ap (λ (y : Edge). y.slot) new)

    tag_of : (u x : ℕ) (d : Side) (e : Edge) → e.tag ≡ true → (P.read u x d ≡ Some e) ⊎ (P.edges x d ≡ e)
        → P.edges x d ≡ e
    tag_of u x d e h (inl old) = law.tag_read u x d e old h
    tag_of u x d e h (inr new) = new

    null_of : (u x : ℕ) (d : Side) (e : Edge) → e.slot ≡ 0 → (P.read u x d ≡ Some e) ⊎ (P.edges x d ≡ e)
        → below P x d ≡ 0
    null_of u x d e h (inl old) = law.null_read u x d e old h
    null_of u x d e h (inr new) = ap (λ (y : Edge). y.slot) new ∙ h

-- ---- an edge gets a mark

-- what is owed by an edge e in place of that of p on side d: it leads where that led, and its marks
-- are lawful
pub record IsMarking (P : Picture) (p : ℕ) (d : Side) (e : Edge) : Type 0 where
  pub live : IsLive P p
  pub some : p ≢ 0
  pub slot : e.slot ≡ below P p d
  pub flag_stays : (P.edges p d).flag ≡ true → e.flag ≡ true
  pub tag_stays : (P.edges p d).tag ≡ true → e ≡ P.edges p d
  pub flag_high : e.flag ≡ true → 6 ≤ below P p d
  pub flag_leaf : e.flag ≡ true → (f : Side) → below P (below P p d) f ≡ 0
  pub tag_twin : e.tag ≡ true → (P.edges p (other d)).flag ≡ true

-- an edge after one was changed: that one, or as it was
pub changed_or : (P : Picture) (p : ℕ) (d : Side) (e : Edge) (x : ℕ) (g : Side)
    → ((x ≡ p) × (d ≡ g) × (with_edge_at P.edges p d e x g ≡ e)) ⊎ (with_edge_at P.edges p d e x g ≡ P.edges x g)
changed_or P p d e x g = go (eqb x p && same_side d g) refl
  where
    go : (b : Bool) → (eqb x p && same_side d g) ≡ b
        → ((x ≡ p) × (d ≡ g) × (cond b e (P.edges x g) ≡ e)) ⊎ (cond b e (P.edges x g) ≡ P.edges x g)
    go true h = let parts = and_parts (eqb x p) (same_side d g) h in
        inl (eqb-true x p parts.0, same_side-true d g parts.1, refl)
    go false h = inr refl

pub mark_keeps : (N : ℕ) (P : Picture) (p : ℕ) (d : Side) (e : Edge) → TreeLaw N P → IsMarking P p d e
    → TreeLaw N (with_edges P p d e)
mark_keeps N P p d e law mark = record {
  room = law.room;
  nothing = λ g. with_edge-other P.edges p d e 0 g (λ h. mark.some (sym h)) ∙ law.nothing g;
  within = λ x g. rw (same x g) (law.within x g);
  pools = law.pools;
  privates = law.privates;
  queues = law.queues;
  known = law.known;
  root_left = same 1 Left ∙ law.root_left;
  second = rw (same 2 Left) law.second;
  sentinels = λ x g a b. same x g ∙ law.sentinels x g a b;
  places = λ x some inside. same_ways P (with_edges P p d e) x refl (λ u. refl) (λ u i. refl) (path 1)
      (law.places x some inside);
  twins = λ x g h z. same x (other g) ∙ law.twins x g (live x h) (sym (same x g) ∙ z);
  flags = λ x g h z. rw (same x g) (flag_high x g (live x h) (changed_or P p d e x g) z);
  frozen = λ x g h z. grows x (other g) (tag_twin x g (live x h) (changed_or P p d e x g) z);
  queued = λ u i x g at z. marked x g (changed_or P p d e x g) (law.queued u i x g at (λ y. z (same x g ∙ y)));
  leaf_reached = λ q g h f. leaf (follow (below P) 1 q) (follow (below (with_edges P p d e)) 1 q) g (path 1 q)
      (λ k. law.leaf_reached q g k) h f;
  leaf_known = λ u x g r h f. leaf x x g refl (λ k. law.leaf_known u x g (reach u x r) k) h f;
  guarded = λ u x r. let l = law.guarded u x (reach u x r) in record { pooled = l.pooled; shared = l.shared };
  unlate = λ u x v i r. law.unlate u x v i (reach u x r);
  reads = law.reads;
  flag_read = λ u x g y r h. let was = law.flag_read u x g y r h in (grows x g was.0, same x g ∙ was.1);
  tag_read = λ u x g y r h. let was = law.tag_read u x g y r h in
      tag_kept x g (changed_or P p d e x g) (ap (λ (z : Edge). z.tag) was ∙ h) ∙ was;
  null_read = λ u x g y r h. same x g ∙ law.null_read u x g y r h;
  drafts = λ u x g v h. let was = law.drafts u x g v h in
      (was.0, with_edge-other P.edges p d e x g (λ i. true≢false (sym (rw i at was.0) ∙ mark.live.shared u)) ∙ was.1);
}
  where
    same : (x : ℕ) (g : Side) → below (with_edges P p d e) x g ≡ below P x g
    same x g = go (changed_or P p d e x g)
      where
        go : ((x ≡ p) × (d ≡ g) × (with_edge_at P.edges p d e x g ≡ e))
            ⊎ (with_edge_at P.edges p d e x g ≡ P.edges x g) → below (with_edges P p d e) x g ≡ below P x g
        go (inl h) = ap (λ (y : Edge). y.slot) h.2 ∙ (mark.slot
            ∙ (ap (λ (y : ℕ). below P y d) (sym h.0) ∙ ap (below P x) h.1))
        go (inr h) = ap (λ (y : Edge). y.slot) h

    path : (s : ℕ) (q : List Side) → follow (below (with_edges P p d e)) s q ≡ follow (below P) s q
    path s q = same_follow (below P) (below (with_edges P p d e)) same s q

    live : (x : ℕ) → IsLive (with_edges P p d e) x → IsLive P x
    live x h = record { pooled = h.pooled; shared = h.shared }

    reach : (u x : ℕ) → InReach (with_edges P p d e) u x → InReach P u x
    reach u x r = record {
      from = r.from;
      known = r.known;
      path = r.path;
      ends = sym (path r.from r.path)
          ∙ r.ends;
      is_slot = r.is_slot;
    }

    flag_high : (x : ℕ) (g : Side) → IsLive P x → ((x ≡ p) × (d ≡ g) × (with_edge_at P.edges p d e x g ≡ e))
        ⊎ (with_edge_at P.edges p d e x g ≡ P.edges x g) → (with_edge_at P.edges p d e x g).flag ≡ true
        → 6 ≤ below P x g
    flag_high x g l (inl h) z = rw (h.0, ← h.1) (mark.flag_high (ap (λ (y : Edge). y.flag) (sym h.2) ∙ z))
    flag_high x g l (inr h) z = law.flags x g l (ap (λ (y : Edge). y.flag) (sym h) ∙ z)

    tag_twin : (x : ℕ) (g : Side) → IsLive P x → ((x ≡ p) × (d ≡ g) × (with_edge_at P.edges p d e x g ≡ e))
        ⊎ (with_edge_at P.edges p d e x g ≡ P.edges x g) → (with_edge_at P.edges p d e x g).tag ≡ true
        → (P.edges x (other g)).flag ≡ true
    tag_twin x g l (inl h) z = rw (h.0, ← h.1) (mark.tag_twin (ap (λ (y : Edge). y.tag) (sym h.2) ∙ z))
    tag_twin x g l (inr h) z = law.frozen x g l (ap (λ (y : Edge). y.tag) (sym h) ∙ z)

    grows : (x : ℕ) (g : Side) → (P.edges x g).flag ≡ true → (with_edge_at P.edges p d e x g).flag ≡ true
    grows x g z = go (changed_or P p d e x g)
      where
        go : ((x ≡ p) × (d ≡ g) × (with_edge_at P.edges p d e x g ≡ e))
            ⊎ (with_edge_at P.edges p d e x g ≡ P.edges x g) → (with_edge_at P.edges p d e x g).flag ≡ true
        go (inl h) = ap (λ (y : Edge). y.flag) h.2 ∙ mark.flag_stays (rw (← h.0, h.1) z)
        go (inr h) = ap (λ (y : Edge). y.flag) h ∙ z

    tag_kept : (x : ℕ) (g : Side) → ((x ≡ p) × (d ≡ g) × (with_edge_at P.edges p d e x g ≡ e))
        ⊎ (with_edge_at P.edges p d e x g ≡ P.edges x g) → (P.edges x g).tag ≡ true
        → with_edge_at P.edges p d e x g ≡ P.edges x g
    tag_kept x g (inl h) z = h.2 ∙ (mark.tag_stays (rw (← h.0, h.1) z)
        ∙ (ap (λ (y : ℕ). P.edges y d) (sym h.0) ∙ ap (P.edges x) h.1))
    tag_kept x g (inr h) z = h

    marked : (x : ℕ) (g : Side) → ((x ≡ p) × (d ≡ g) × (with_edge_at P.edges p d e x g ≡ e))
        ⊎ (with_edge_at P.edges p d e x g ≡ P.edges x g) → ((P.edges x g).flag || (P.edges x g).tag) ≡ true
        → ((with_edge_at P.edges p d e x g).flag || (with_edge_at P.edges p d e x g).tag) ≡ true
    marked x g c z = elim (or_cases (P.edges x g).flag (P.edges x g).tag z) [
      | inl flag ↦ or_left _ _ (grows x g flag)
      | inr tag ↦ or_right _ _ (ap (λ (y : Edge). y.tag) (tag_kept x g c tag) ∙ tag)
    ]

    leaf : (x y : ℕ) (g : Side) → y ≡ x → ((P.edges x g).flag ≡ true → (f : Side) → below P (below P x g) f ≡ 0)
        → (with_edge_at P.edges p d e y g).flag ≡ true → (f : Side)
        → below (with_edges P p d e) (below (with_edges P p d e) y g) f ≡ 0
    leaf x y g is was h f = same _ f ∙ (ap (λ (z : ℕ). below P z f) (same y g ∙ ap (λ (z : ℕ). below P z g) is)
        ∙ go (changed_or P p d e y g))
      where
        go : ((y ≡ p) × (d ≡ g) × (with_edge_at P.edges p d e y g ≡ e))
            ⊎ (with_edge_at P.edges p d e y g ≡ P.edges y g) → below P (below P x g) f ≡ 0
        go (inl c) = rw (← is) (rw (c.0, ← c.1) (mark.flag_leaf (ap (λ (z : Edge). z.flag) (sym c.2) ∙ h) f))
        go (inr c) = was (ap (λ (z : ℕ). (P.edges z g).flag) (sym is) ∙ (ap (λ (z : Edge). z.flag) (sym c) ∙ h)) f

-- ---- entries become late, or no longer

abbrev pub timed : Picture → (ℕ → ℕ → ℕ → Bool) → Picture
timed P late = record {
  edges = P.edges;
  pool = P.pool;
  private = P.private;
  queue = P.queue;
  knows = P.knows;
  read =
      P.read;
  drafted = P.drafted;
  late = late;
}

pub time_keeps : (N : ℕ) (P : Picture) (late : ℕ → ℕ → ℕ → Bool) → TreeLaw N P
    → ((u x v i : ℕ) → InReach P u x → P.queue v i ≡ Some x → late u v i ≡ false) → TreeLaw N (timed P late)
time_keeps N P late law young = record {
  room = law.room;
  nothing = law.nothing;
  within = law.within;
  pools = law.pools;
  privates = law.privates;
  queues = law.queues;
  known = law.known;
  root_left = law.root_left;
  second = law.second;
  sentinels = law.sentinels;
  places = λ x some inside. same_ways P (timed P late) x refl (λ u. refl) (λ u i. refl) (λ q. refl)
      (law.places x some inside);
  twins = λ x d h. law.twins x d (live x h);
  flags = λ x d h. law.flags x d (live x h);
  frozen = λ x d h. law.frozen x d (live x h);
  queued = law.queued;
  leaf_reached = law.leaf_reached;
  leaf_known = λ u x d r. law.leaf_known u x d (reach u x r);
  guarded = λ u x r. let l = law.guarded u x (reach u x r) in record { pooled = l.pooled; shared = l.shared };
  unlate = λ u x v i r. young u x v i (reach u x r);
  reads = law.reads;
  flag_read = law.flag_read;
  tag_read = law.tag_read;
  null_read = law.null_read;
  drafts = law.drafts;
}
  where
    live : (x : ℕ) → IsLive (timed P late) x → IsLive P x
    live x h = record { pooled = h.pooled; shared = h.shared }

    reach : (u x : ℕ) → InReach (timed P late) u x → InReach P u x
    reach u x r = record { from = r.from; known = r.known; path = r.path; ends = r.ends; is_slot = r.is_slot }
