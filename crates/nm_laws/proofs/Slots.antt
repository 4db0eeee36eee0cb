-- The laws of the tree are kept by claims, by gives of private slots and by fills.
use Rattle.std.proofs.Common.{◌≡◌, ℕ, ◌≢◌, ◌≤◌, ◌⊎◌, inl, inr, eqb, Bool, true, false, cond, ◌||◌, ◌&&◌, List, [], refl, sym, ap, subst, ◌∙◌, arith, true≢false}
use Rattle.std.specs.Prelude.{Option, Some, None}
use native.Mathlib.Decide.{ℕ_discrete}
use Rattle.std.proofs.lemmas.Bool.{and_left, cond_both, cond-true, cond-false, eqb-true, eqb-false, eq-eqb, ne_eqb, and_from}
use Rattle.std.proofs.lemmas.Bool.Decides.{nat_tests}
use Rattle.std.proofs.lemmas.Option.{none-some, same_Some}
use Rattle.nm_edge.specs.Edges.{Edge}
use Rattle.nm_edge.specs.declared.edge.Side.{Side}
use Rattle.nm_edge.specs.declared.edge.Side.TheVariants.{Left}
use Rattle.nm_edge.specs.Edges.{to, other}
use Rattle.nm_laws.proofs.Trees.{same_side}
use Rattle.nm_model.specs.Paths.{follow}
use Rattle.nm_laws.proofs.Pictures.{SeekRecord}
use Rattle.nm_laws.proofs.Pictures.SeekRecord.{InPool, PrivateTo, OnPath, InQueue}
use Rattle.nm_laws.proofs.Trees.{Exchanged, unvisited, same_side-refl}
use Rattle.nm_laws.proofs.Pictures.{Picture, below, Stands, Once, IsLive, InReach, TreeLaw, same_ways, new_place, nowhere_else, reached_live, IsOnPath, on_path, in_reach}

-- one slot's row is changed
abbrev pub at_one : {X : Type 0} → (ℕ → X) → ℕ → X → ℕ → X
at_one f s x q = cond (eqb q s) x (f q)

pub at_one-same : {X : Type 0} (f : ℕ → X) (s : ℕ) (x : X) → at_one f s x s ≡ x
at_one-same f s x = cond-true (eqb s s) x (f s) (eq-eqb s s refl)

pub at_one-other : {X : Type 0} (f : ℕ → X) (s q : ℕ) (x : X) → q ≢ s → at_one f s x q ≡ f q
at_one-other f s q x ne = cond-false (eqb q s) x (f q) (ne_eqb q s ne)

-- whether a slot is private to a worker is changed
abbrev pub hand : (ℕ → ℕ → Bool) → ℕ → ℕ → Bool → ℕ → ℕ → Bool
hand f w s b u q = cond (eqb u w && eqb q s) b (f u q)

pub hand-same : (f : ℕ → ℕ → Bool) (w s : ℕ) (b : Bool) → hand f w s b w s ≡ b
hand-same f w s b = cond-true (eqb w w && eqb s s) b (f w s)
    (and_from (eqb w w) (eqb s s) (eq-eqb w w refl) (eq-eqb s s refl))

pub hand-other : (f : ℕ → ℕ → Bool) (w s : ℕ) (b : Bool) (u q : ℕ) → q ≢ s → hand f w s b u q ≡ f u q
hand-other f w s b u q ne = grind (arith, nat_tests)

pub hand-others : (f : ℕ → ℕ → Bool) (w s : ℕ) (b : Bool) (u q : ℕ) → u ≢ w → hand f w s b u q ≡ f u q
hand-others f w s b u q ne = grind (arith, nat_tests)

-- ---- a slot goes from the pool to a worker, or back

-- one slot's row in the pool and in a worker's hands is changed, and what is drafted
abbrev handed : Picture → ℕ → ℕ → Bool → Bool → (ℕ → ℕ → Side → Option ℕ) → Picture
handed P w s a b drafted = record {
  edges = P.edges;
  pool = at_one P.pool s a;
  private = hand P.private w s b;
  queue = P.queue;
  knows = P.knows;
  read = P.read;
  drafted = drafted;
  late = P.late;
}

apart : (P : Picture) (s x : ℕ) → (IsLive P s → ⊥) → IsLive P x → x ≢ s
apart P s x idle l e = idle (subst (IsLive P) e l)

-- it keeps the laws where the slot is shared neither before nor after
handed_keeps : (N : ℕ) (P : Picture) (w s : ℕ) (a b : Bool) (drafted : ℕ → ℕ → Side → Option ℕ) → TreeLaw N P
    → (IsLive P s → ⊥) → (IsLive (handed P w s a b drafted) s → ⊥)
    → ((x : ℕ) → at_one P.pool s a x ≡ true → (6 ≤ x) × (x ≤ N))
    → ((u x : ℕ) → hand P.private w s b u x ≡ true → (6 ≤ x) × (x ≤ N))
    → (Once P s → Once (handed P w s a b drafted) s)
    → ((u x : ℕ) (d : Side) (v : ℕ) → drafted u x d ≡ Some v
    → (hand P.private w s b u x ≡ true) × (P.edges x d ≡ to v)) → TreeLaw N (handed P w s a b drafted)
handed_keeps N P w s a b drafted law idle idle' pools privates place drafts = record {
  room = law.room;
  nothing = law.nothing;
  within = law.within;
  pools = pools;
  privates = privates;
  queues = law.queues;
  known = law.known;
  root_left = law.root_left;
  second = law.second;
  sentinels = law.sentinels;
  places = λ x some inside. elim (ℕ_discrete x s) [
    | yes e ↦ rw e (place (law.places s (rw e at some) (rw e at inside)))
    | no ne ↦ same_ways P (handed P w s a b drafted) x (at_one-other P.pool s x a ne)
        (λ u. hand-other P.private w s b u x ne) (λ u i. refl) (λ q. refl) (law.places x some inside)
  ];
  twins = λ x d h. law.twins x d (live_back x h);
  flags = λ x d h. law.flags x d (live_back x h);
  frozen = λ x d h. law.frozen x d (live_back x h);
  queued = law.queued;
  leaf_reached = law.leaf_reached;
  leaf_known = λ u x d h. law.leaf_known u x d (reach_back u x h);
  guarded = λ u x h. still_live x (law.guarded u x (reach_back u x h));
  unlate = λ u x v i r. law.unlate u x v i (reach_back u x r);
  reads = law.reads;
  flag_read = law.flag_read;
  tag_read = law.tag_read;
  null_read = law.null_read;
  drafts = drafts;
}
  where
    reach_back : (u x : ℕ) → InReach (handed P w s a b drafted) u x → InReach P u x
    reach_back u x r = record { from = r.from; known = r.known; path = r.path; ends = r.ends; is_slot = r.is_slot }

    still_live : (x : ℕ) → IsLive P x → IsLive (handed P w s a b drafted) x
    still_live x h = let ne : x ≢ s = apart P s x idle h in
        record {
          pooled = at_one-other P.pool s x a ne ∙ h.pooled;
          shared = λ u. hand-other P.private w s b u x ne
              ∙ h.shared u;
        }

    live_back : (x : ℕ) → IsLive (handed P w s a b drafted) x → IsLive P x
    live_back x h = let ne : x ≢ s = apart (handed P w s a b drafted) s x idle' h in
        record {
          pooled = sym (at_one-other P.pool s x a ne)
              ∙ h.pooled;
          shared = λ u. sym (hand-other P.private w s b u x ne) ∙ h.shared u;
        }

abbrev pub claimed : Picture → ℕ → ℕ → Picture
claimed P w s = handed P w s false true P.drafted

pub claim_keeps : (N : ℕ) (P : Picture) (w s : ℕ) → TreeLaw N P → P.pool s ≡ true → TreeLaw N (claimed P w s)
claim_keeps N P w s law free = handed_keeps N P w s false true P.drafted law (λ l. true≢false (sym free ∙ l.pooled))
    (λ l. true≢false (sym (hand-same P.private w s true) ∙ l.shared w)) (λ x h. law.pools x (pool_back x h))
    (λ u x h. elim (ℕ_discrete x s) [
      | yes e ↦ rw e (law.pools s free)
      | no ne ↦ law.privates u x
          (sym (hand-other P.private w s true u x ne) ∙ h)
    ])
    (new_place P (claimed P w s) s InPool (PrivateTo w) free (hand-same P.private w s true) each)
    (λ u x d v h. let was = law.drafts u x d v h in
    (cond_both (eqb u w && eqb x s) true (P.private u x) (λ b. b ≡ true) (λ _. refl) (λ _. was.0), was.1))
  where
    pool_back : (x : ℕ) → (claimed P w s).pool x ≡ true → P.pool x ≡ true
    pool_back x h = grind (arith, nat_tests)

    each : (q : SeekRecord) → Stands (claimed P w s) s q → (q ≡ PrivateTo w) ⊎ (Stands P s q × (q ≢ InPool))
    each InPool h = absurd (true≢false (sym h ∙ at_one-same P.pool s false))
    each (PrivateTo u) h = elim (ℕ_discrete u w) [
      | yes e ↦ inl (ap PrivateTo e)
      | no ne ↦ inr
          (sym (hand-others P.private w s true u s ne) ∙ h, λ e. cc)
    ]
    each (OnPath p) h = inr (h, λ e. cc)
    each (InQueue u i) h = inr (h, λ e. cc)

abbrev pub returned : Picture → ℕ → ℕ → Picture
returned P w s = handed P w s true false (λ u x d. cond (eqb u w && eqb x s) None (P.drafted u x d))

pub return_keeps : (N : ℕ) (P : Picture) (w s : ℕ) → TreeLaw N P → P.private w s ≡ true → TreeLaw N (returned P w s)
return_keeps N P w s law own = handed_keeps N P w s true false _ law (λ l. true≢false (sym own ∙ l.shared w))
    (λ l. true≢false (sym (at_one-same P.pool s true) ∙ l.pooled))
    (λ x h. elim (ℕ_discrete x s) [
      | yes e ↦ rw e (law.privates w s own)
      | no ne ↦ law.pools x
          (sym (at_one-other P.pool s x true ne) ∙ h)
    ]) (λ u x h. law.privates u x (private_back u x h))
    (new_place P (returned P w s) s (PrivateTo w) InPool own (at_one-same P.pool s true) each) drafts
  where
    private_back : (u x : ℕ) → (returned P w s).private u x ≡ true → P.private u x ≡ true
    private_back u x h = grind (arith, nat_tests)

    drafts : (u x : ℕ) (d : Side) (v : ℕ) → (returned P w s).drafted u x d ≡ Some v
        → ((returned P w s).private u x ≡ true) × (P.edges x d ≡ to v)
    drafts u x d v h = go (eqb u w && eqb x s) h
      where
        go : (b : Bool) → cond b None (P.drafted u x d) ≡ Some v
            → (cond b false (P.private u x) ≡ true) × (P.edges x d ≡ to v)
        go true h = absurd (none-some v h)
        go false h = law.drafts u x d v h

    each : (q : SeekRecord) → Stands (returned P w s) s q → (q ≡ InPool) ⊎ (Stands P s q × (q ≢ PrivateTo w))
    each InPool h = inl refl
    each (PrivateTo u) h = elim (ℕ_discrete u w) [
      | yes e ↦ absurd (true≢false (sym h ∙ (ap (λ (y : ℕ). (returned P w s).private y s) e
          ∙ hand-same P.private w s false)))
      | no ne ↦ inr (sym (hand-others P.private w s false u s ne) ∙ h, λ e. ne (worker_of u w e))
    ]
      where
        worker_of : (u w : ℕ) → PrivateTo u ≡ PrivateTo w → u ≡ w
        worker_of u w e = cc
    each (OnPath p) h = inr (h, λ e. cc)
    each (InQueue u i) h = inr (h, λ e. cc)

-- ---- an edge of a private slot is filled

abbrev pub with_edge_at : (ℕ → Side → Edge) → ℕ → Side → Edge → ℕ → Side → Edge
with_edge_at f s d e x g = cond (eqb x s && same_side d g) e (f x g)

pub with_edge-other : (f : ℕ → Side → Edge) (s : ℕ) (d : Side) (e : Edge) (x : ℕ) (g : Side) → x ≢ s
    → with_edge_at f s d e x g ≡ f x g
with_edge-other f s d e x g ne = cond-false _ e (f x g) (and_left (eqb x s) (same_side d g) (ne_eqb x s ne))

pub with_edge-same : (f : ℕ → Side → Edge) (s : ℕ) (d : Side) (e : Edge) → with_edge_at f s d e s d ≡ e
with_edge-same f s d e = cond-true _ e (f s d) (and_from (eqb s s) (same_side d d) (eq-eqb s s refl) (same_side-refl d))

abbrev pub with_edges : Picture → ℕ → Side → Edge → Picture
with_edges P s d e = record {
  edges = with_edge_at P.edges s d e;
  pool = P.pool;
  private = P.private;
  queue =
      P.queue;
  knows = P.knows;
  read = P.read;
  drafted = P.drafted;
  late = P.late;
}

pub is_exchanged : (P : Picture) (s : ℕ) (d : Side) (e : Edge)
    → Exchanged (below P) (below (with_edges P s d e)) s d e.slot
is_exchanged P s d e = record {
  here = ap (λ (x : Edge). x.slot) (with_edge-same P.edges s d e);
  others = λ x g is. ap (λ (y : Edge). y.slot) (cond-false (eqb x s && same_side d g) e (P.edges x g) is);
}

abbrev pub filled : Picture → ℕ → ℕ → Side → ℕ → Picture
filled P w s d v = record {
  edges = with_edge_at P.edges s d (to v);
  pool = P.pool;
  private = P.private;
  queue = P.queue;
  knows = P.knows;
  read = P.read;
  drafted = λ u x g. cond ((eqb u w && eqb x s) && same_side d g) (Some v) (P.drafted u x g);
  late = P.late;
}

pub fill_keeps : (N : ℕ) (P : Picture) (w s : ℕ) (d : Side) (v : ℕ) → TreeLaw N P → P.private w s ≡ true → v ≤ N
    → TreeLaw N (filled P w s d v)
fill_keeps N P w s d v law own small = record {
  room = law.room;
  nothing = λ g. same 0 g (high 0 (λ h. omega arith)) ∙ law.nothing g;
  within = λ x g. cond_both (eqb x s && same_side d g) (to v) (P.edges x g) (λ e. e.slot ≤ N) (λ _. small)
      (λ _. law.within x g);
  pools = law.pools;
  privates = law.privates;
  queues = law.queues;
  known = law.known;
  root_left = down 1 Left (high 1 (λ h. omega arith)) ∙ law.root_left;
  second = rw (down 2 Left (high 2 (λ h. omega arith))) law.second;
  sentinels = λ x g a b. down x g (high x (λ h. omega arith)) ∙ law.sentinels x g a b;
  places = λ x some inside. same_ways P (filled P w s d v) x refl (λ u. refl) (λ u i. refl) path
      (law.places x some inside);
  twins = λ x g h e. down x (other g) (live_not x h) ∙ law.twins x g (live x h) (sym (down x g (live_not x h)) ∙ e);
  flags = λ x g h e. rw (down x g (live_not x h)) (law.flags x g (live x h)
      (ap (λ (y : Edge). y.flag) (sym (same x g (live_not x h))) ∙ e));
  frozen = λ x g h e. ap (λ (y : Edge). y.flag) (same x (other g) (live_not x h))
      ∙ law.frozen x g (live x h) (ap (λ (y : Edge). y.tag) (sym (same x g (live_not x h))) ∙ e);
  queued = λ u i x g at h. let ne : x ≢ s = queue_not u i x at in
      ap (λ (y : Edge). y.flag || y.tag) (same x g ne) ∙ law.queued u i x g at (λ e. h (down x g ne ∙ e));
  leaf_reached = leaf_reached;
  leaf_known = λ u x g r h f. let q = reach_back u x r in
      leaf_of (InReach P u) (in_reach P u) (law.guarded u) (law.leaf_known u) x g q h f;
  guarded = λ u x r. let l = law.guarded u x (reach_back u x r) in record { pooled = l.pooled; shared = l.shared };
  unlate = λ u x v i r. law.unlate u x v i (reach_back u x r);
  reads = law.reads;
  flag_read = λ u x g e r h. let ne = read_not u x g e r in let was = law.flag_read u x g e r h in
      (ap (λ (y : Edge). y.flag) (same x g ne) ∙ was.0, down x g ne ∙ was.1);
  tag_read = λ u x g e r h. same x g (read_not u x g e r) ∙ law.tag_read u x g e r h;
  null_read = λ u x g e r h. down x g (read_not u x g e r) ∙ law.null_read u x g e r h;
  drafts = drafts;
}
  where
    high_s : s ≢ 0
    high_s h = let range = law.privates w s own in omega arith

    inside_s : s ≤ N
    inside_s = (law.privates w s own).1

    worker_of : (u w : ℕ) → PrivateTo u ≡ PrivateTo w → u ≡ w
    worker_of u w e = cc

    same : (x : ℕ) (g : Side) → x ≢ s → with_edge_at P.edges s d (to v) x g ≡ P.edges x g
    same x g ne = with_edge-other P.edges s d (to v) x g ne

    down : (x : ℕ) (g : Side) → x ≢ s → below (filled P w s d v) x g ≡ below P x g
    down x g ne = ap (λ (y : Edge). y.slot) (same x g ne)

    high : (x : ℕ) → (6 ≤ x → ⊥) → x ≢ s
    high x low e = low (rw e (law.privates w s own).0)

    live : (x : ℕ) → IsLive (filled P w s d v) x → IsLive P x
    live x h = record { pooled = h.pooled; shared = h.shared }

    not_live : IsLive P s → ⊥
    not_live h = true≢false (sym own ∙ h.shared w)

    path : (q : List Side) → follow (below (filled P w s d v)) 1 q ≡ follow (below P) 1 q
    path q = unvisited (below P) (below (filled P w s d v)) s d v (is_exchanged P s d (to v)) 1
        (λ p e. not_live (rw e at (reached_live N P law p (rw e high_s)))) q

    known_path : (u y : ℕ) → P.knows u y ≡ true → (q : List Side)
        → follow (below (filled P w s d v)) y q ≡ follow (below P) y q
    known_path u y k q = unvisited (below P) (below (filled P w s d v)) s d v (is_exchanged P s d (to v)) y
        (λ p e. not_live (law.guarded u s (record { from = y; known = k; path = p; ends = e; is_slot = high_s }))) q

    live_not : (x : ℕ) → IsLive (filled P w s d v) x → x ≢ s
    live_not x h e = not_live (rw e at (live x h))

    queue_not : (u i x : ℕ) → P.queue u i ≡ Some x → x ≢ s
    queue_not u i x at e =
        let range = law.queues u i x at in
        let clash : InQueue u i ≡ PrivateTo w = nowhere_else P x (InQueue u i) (PrivateTo w)
        (law.places x (omega arith) range.1) at (rw e own) in cc

    read_not : (u x : ℕ) (g : Side) (e : Edge) → P.read u x g ≡ Some e → x ≢ s
    read_not u x g e r h =
        let k = law.reads u x g e r in
        let range = law.known u x k in
        not_live (rw h at (law.guarded u x (record {
          from = x;
          known = k;
          path = [];
          ends = refl;
          is_slot = omega
              arith;
        })))

    drafts : (u x : ℕ) (g : Side) (n : ℕ) → (filled P w s d v).drafted u x g ≡ Some n
        → (P.private u x ≡ true) × (with_edge_at P.edges s d (to v) x g ≡ to n)
    drafts u x g n h = go (eqb u w) (eqb x s) (same_side d g) refl refl refl h
      where
        go : (a b e : Bool) → eqb u w ≡ a → eqb x s ≡ b → same_side d g ≡ e
            → cond ((a && b) && e) (Some v) (P.drafted u x g) ≡ Some n
            → (P.private u x ≡ true) × (cond (b && e) (to v) (P.edges x g) ≡ to n)
        go true true true i j k h = (rw (eqb-true u w i) (rw (eqb-true x s j) own), ap to (same_Some v n h))
        go true true false i j k h = law.drafts u x g n h
        go true false e i j k h = law.drafts u x g n h
        go false true true i j k h =
            let was = law.drafts u x g n h in
            let mine : P.private u s ≡ true = rw (eqb-true x s j) at was.0 in
            let clash : PrivateTo u ≡ PrivateTo w = nowhere_else P s (PrivateTo u) (PrivateTo w)
            (law.places s (high_s) inside_s) mine own in
            absurd (eqb-false u w i (worker_of u w clash))
        go false true false i j k h = law.drafts u x g n h
        go false false e i j k h = law.drafts u x g n h

    reach_back : (u x : ℕ) → InReach (filled P w s d v) u x → InReach P u x
    reach_back u x r = record {
      from = r.from;
      known = r.known;
      path = r.path;
      ends = sym
          (known_path u r.from r.known r.path) ∙ r.ends;
      is_slot = r.is_slot;
    }

    leaf_of : (R : ℕ → Type 0) → ((y : ℕ) (e : Side) → R y → below P y e ≢ 0 → R (below P y e))
        → ((y : ℕ) → R y → IsLive P y)
        → ((x : ℕ) (g : Side) → R x → (P.edges x g).flag ≡ true → (f : Side) → below P (below P x g) f ≡ 0)
        → (x : ℕ) (g : Side) → R x → ((filled P w s d v).edges x g).flag ≡ true → (f : Side)
        → below (filled P w s d v) (below (filled P w s d v) x g) f ≡ 0
    leaf_of R on lives leaf x g r h f =
        let e = same x g (λ i. not_live (rw i at (lives x r))) in
        let was : (P.edges x g).flag ≡ true = ap (λ (y : Edge). y.flag) (sym e) ∙ h in
        let apart : below P x g ≢ s = λ i. not_live (rw i at (lives (below P x g) (on x g r (rw i (λ z. high_s z))))) in
        ap (λ (y : Edge). below (filled P w s d v) y.slot f) e ∙ (down (below P x g) f apart ∙ leaf x g r was f)

    leaf_reached : (q : List Side) (g : Side) → ((filled P w s d v).edges (follow (below (filled P w s d v)) 1 q)
        g).flag ≡ true → (f : Side) → below (filled P w s d v)
        (below (filled P w s d v) (follow (below (filled P w s d v)) 1 q) g) f ≡ 0
    leaf_reached q g h f = go (ℕ_discrete (follow (below P) 1 q) 0)
      where
        h' : ((filled P w s d v).edges (follow (below P) 1 q) g).flag ≡ true
        h' = ap (λ (y : ℕ). ((filled P w s d v).edges y g).flag) (sym (path q)) ∙ h

        none : follow (below P) 1 q ≡ 0 → ((filled P w s d v).edges (follow (below P) 1 q) g).flag ≡ false
        none is = ap (λ (y : ℕ). ((filled P w s d v).edges y g).flag) is
            ∙ ap (λ (y : Edge). y.flag) (same 0 g (high 0 (λ z. omega arith)) ∙ law.nothing g)

        go : Dec (follow (below P) 1 q ≡ 0) → below (filled P w s d v)
            (below (filled P w s d v) (follow (below (filled P w s d v)) 1 q) g) f ≡ 0
        go (yes is) = absurd (true≢false (sym h' ∙ none is))
        go (no some) = ap (λ (y : ℕ). below (filled P w s d v) (below (filled P w s d v) y g) f) (path q)
            ∙ leaf_of (IsOnPath P) (on_path P) (λ y r. rw (← r.ends)
            (reached_live N P law r.path (rw r.ends r.is_slot)))
            (λ y e r k. rw (← r.ends) (law.leaf_reached r.path e (rw r.ends k)))
            (follow (below P) 1 q) g (record { path = q; ends = refl; is_slot = some }) h' f
