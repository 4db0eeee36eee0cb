-- The laws of the tree are kept by a splice, and what it cuts stands in the worker's queue.
use Rattle.std.proofs.Common.{◌≡◌, ℕ, zero, suc, ◌+◌, ◌≢◌, ◌<◌, ◌≤◌, ◌⊎◌, inl, inr, eqb, Bool, true, false, cond, ◌||◌, ◌&&◌, List, [], ◌∷◌, ◌++◌, refl, sym, ap, ◌∙◌, arith, true≢false}
use Rattle.std.specs.Prelude.{Some, None}
use native.Mathlib.Decide.{ℕ_discrete}
use Rattle.std.proofs.lemmas.Bool.{cases_lt, cond_both, eqb-true, eq-eqb, or_cases, or_left, or_right}
use Rattle.std.proofs.lemmas.Option.{none-some, same_Some}
use Rattle.nm_edge.specs.Edges.{Edge}
use Rattle.nm_edge.specs.declared.edge.Side.{Side}
use Rattle.nm_edge.specs.declared.edge.Side.TheVariants.{Left, Right}
use Rattle.nm_edge.specs.Edges.{to, other}
use Rattle.nm_laws.proofs.Trees.{same_side}
use Rattle.nm_model.specs.Paths.{follow}
use Rattle.nm_laws.proofs.Pictures.{SeekRecord}
use Rattle.nm_laws.proofs.Pictures.SeekRecord.{InPool, PrivateTo, OnPath, InQueue}
use Rattle.nm_laws.proofs.Trees.{Children, follow-append, not_taken}
use Rattle.nm_laws.proofs.Pictures.{Picture, below, Stands, Once, IsLive, InReach, TreeLaw, new_place, within_path, reached_within, reached_live, alone, null_below, IsOnPath}
use Rattle.std.specs.Prelude.{slice_get, ltb, ◌-◌}
use Rattle.std.proofs.lemmas.Bool.{cases_Bool, ltb-false, le-ltb}
use Rattle.nm_laws.proofs.Trees.{append_cancel}
use Rattle.nm_model.proofs.Numbers.{among}
use Rattle.nm_laws.proofs.Slots.{with_edge_at, with_edge-other, is_exchanged}
use Rattle.nm_laws.proofs.Readings.{changed_or}
use Rattle.nm_laws.proofs.CutPaths.{IsFrozen, nodes_cut, Splicing, down, straight, stays_reached, cut_was_reached, cut_is_gone, still_alone}

-- a way down from s by tagged edges, each with its twin flagged
abbrev pub IsWay : Picture → ℕ → List Side → Type 0
IsWay P s [] = Unit {0}
IsWay P s (e ∷ way) = ((P.edges s e).tag ≡ true) × ((P.edges s (other e)).flag ≡ true) × IsWay P (below P s e) way

module _ (N : ℕ) (P : Picture) (law : TreeLaw N P) where
  -- both edges of a frozen node lead to slots
  pub onward_slot : (s : ℕ) (e : Side) → IsLive P s → (P.edges s (other e)).flag ≡ true → below P s e ≢ 0
  onward_slot s e live flag z =
      let none : below P s (other e) ≡ 0 = law.twins s e live z in
      let high = law.flags s (other e) live flag in omega arith

  -- a way from a reached slot is frozen
  pub frozen_way : (q : List Side) (way : List Side) → follow (below P) 1 q ≢ 0 → IsWay P (follow (below P) 1 q) way
      → IsFrozen (below P) (follow (below P) 1 q) way
  frozen_way q [] some w = tt
  frozen_way q (e ∷ way) some w =
      let live = reached_live N P law q some in
      let next : follow (below P) 1 (q ++ e ∷ []) ≡ below P (follow (below P) 1 q) e = follow-append (below P) 1 q
      (e ∷ []) in
      let slot = onward_slot (follow (below P) 1 q) e live w.1 in
      let rest = frozen_way (q ++ e ∷ []) way (rw next slot) (rw next w.2) in (
        some,
        (λ z. let high = law.flags _ (other e) live w.1 in absurd (omega arith)),
        law.leaf_reached q (other e)
            w.1,
        rw next at rest,
      )

  -- a node on a way from above 5 is above 5: the fixed nodes stand higher
  pub high_way : (q : List Side) (e : Side) → follow (below P) 1 q ≢ 0 → 6 ≤ follow (below P) 1 q
      → (P.edges (follow (below P) 1 q) (other e)).flag ≡ true → (f : Side)
      → (P.edges (below P (follow (below P) 1 q) e) f).flag ≡ true → 6 ≤ below P (follow (below P) 1 q) e
  high_way q e some high flag f on = elim (ℕ_discrete (below P (follow (below P) 1 q) e) 1) [
    | yes one ↦ absurd (not_root one)
    | no n1 ↦ elim (ℕ_discrete (below P (follow (below P) 1 q) e) 2) [
      | yes two ↦ absurd (not_second two)
      | no n2 ↦ elim (cases_lt (below P (follow (below P) 1 q) e) 6) [
        | inl low ↦ absurd (not_leaf n1 n2 low)
        | inr ok ↦ ok
      ]
    ]
  ]
    where
      live : IsLive P (follow (below P) 1 q)
      live = reached_live N P law q some

      slot : below P (follow (below P) 1 q) e ≢ 0
      slot = onward_slot (follow (below P) 1 q) e live flag

      next : follow (below P) 1 (q ++ e ∷ []) ≡ below P (follow (below P) 1 q) e
      next = follow-append (below P) 1 q (e ∷ [])

      there : follow (below P) 1 (q ++ e ∷ []) ≢ 0
      there = rw next slot

      not_root : below P (follow (below P) 1 q) e ≡ 1 → ⊥
      not_root one = nil (alone N P law (q ++ e ∷ []) [] there (next ∙ one))
        where
          nil : q ++ e ∷ [] ≡ [] → ⊥
          nil = empty q
            where
              empty : (q : List Side) → q ++ e ∷ [] ≡ [] → ⊥
              empty [] h = cc
              empty (x ∷ q) h = cc

      not_second : below P (follow (below P) 1 q) e ≡ 2 → ⊥
      not_second two = short q (alone N P law (q ++ e ∷ []) (Left ∷ []) there (next ∙ (two ∙ sym law.root_left))) high
        where
          short : (q : List Side) → q ++ e ∷ [] ≡ Left ∷ [] → 6 ≤ follow (below P) 1 q → ⊥
          short [] h high = omega arith
          short (x ∷ []) h high = cc
          short (x ∷ (y ∷ q)) h high = cc

      not_leaf : below P (follow (below P) 1 q) e ≢ 1 → below P (follow (below P) 1 q) e ≢ 2
          → below P (follow (below P) 1 q) e < 6 → ⊥
      not_leaf n1 n2 low =
          let n0 : below P (follow (below P) 1 q) e ≢ 0 = slot in
          let none = law.sentinels (below P (follow (below P) 1 q) e) f (omega arith) (omega arith) in
          let l : IsLive P (below P (follow (below P) 1 q) e) = rw next at (reached_live N P law (q ++ e ∷ []) there) in
          let h = law.flags _ f l on in omega arith

-- ---- places

-- the other places stay, and each slot that ended a path ends one
pub repathed : (P Q : Picture) (x : ℕ)
    → (P.pool x ≡ true → Q.pool x ≡ true) → (Q.pool x ≡ true → P.pool x ≡ true)
    → ((u : ℕ) → P.private u x ≡ true → Q.private u x ≡ true) → ((u : ℕ) → Q.private u x ≡ true → P.private u x ≡ true)
    → ((u i : ℕ) → P.queue u i ≡ Some x → Q.queue u i ≡ Some x)
    → ((u i : ℕ) → Q.queue u i ≡ Some x → P.queue u i ≡ Some x)
    → ((p : List Side) → follow (below P) 1 p ≡ x → (r : List Side) × (follow (below Q) 1 r ≡ x))
    → ((r : List Side) → follow (below Q) 1 r ≡ x → (p : List Side) × (follow (below P) 1 p ≡ x))
    → ((p r : List Side) → follow (below Q) 1 p ≡ x → follow (below Q) 1 r ≡ x → p ≡ r)
    → Once P x → Once Q x
repathed P Q x pool pool' private private' queue queue' forth came alone once = go once.place once.here once.only
  where
    stay : (place : SeekRecord) → Stands Q x place → ((p : List Side) → OnPath p ≡ place → ⊥)
        → ((q : SeekRecord) → Stands P x q → q ≡ place) → Once Q x
    stay place here apart only = record { place = place; here = here; only = each }
      where
        each : (q : SeekRecord) → Stands Q x q → q ≡ place
        each InPool h = only InPool (pool' h)
        each (PrivateTo u) h = only (PrivateTo u) (private' u h)
        each (OnPath r) h = let was = came r h in absurd (apart was.0 (only (OnPath was.0) was.1))
        each (InQueue u i) h = only (InQueue u i) (queue' u i h)

    go : (place : SeekRecord) → Stands P x place → ((q : SeekRecord) → Stands P x q → q ≡ place) → Once Q x
    go InPool h only = stay InPool (pool h) (λ p e. cc) only
    go (PrivateTo u) h only = stay (PrivateTo u) (private u h) (λ p e. cc) only
    go (InQueue u i) h only = stay (InQueue u i) (queue u i h) (λ p e. cc) only
    go (OnPath p) h only = record { place = OnPath now.0; here = now.1; only = each }
      where
        now : (r : List Side) × (follow (below Q) 1 r ≡ x)
        now = forth p h

        each : (q : SeekRecord) → Stands Q x q → q ≡ OnPath now.0
        each InPool h = let e = only InPool (pool' h) in cc
        each (PrivateTo u) h = let e = only (PrivateTo u) (private' u h) in cc
        each (OnPath r) h = ap OnPath (alone r now.0 h now.1)
        each (InQueue u i) h = let e = only (InQueue u i) (queue' u i h) in cc

-- ---- the nodes that are cut, by their index

abbrev pub cut_path : List Side → ℕ → List Side
cut_path [] j = []
cut_path (e ∷ way) zero = []
cut_path (e ∷ way) (suc zero) = other e ∷ []
cut_path (e ∷ way) (suc (suc j)) = e ∷ cut_path way j

pub cut_at : (c : Children) (way : List Side) (s j x : ℕ) → slice_get (nodes_cut c s way) j ≡ Some x
    → follow c s (cut_path way j) ≡ x
cut_at c [] s j x h = absurd (none-some x h)
cut_at c (e ∷ way) s zero x h = same_Some _ x h
cut_at c (e ∷ way) s (suc zero) x h = same_Some _ x h
cut_at c (e ∷ way) s (suc (suc j)) x h = cut_at c way (c s e) j x h

not_itself : (e : Side) → other e ≡ e → ⊥
not_itself Left h = cc
not_itself Right h = cc

heads : {e f : Side} {p q : List Side} → e ∷ p ≡ f ∷ q → e ≡ f
heads h = cc

tails : {e f : Side} {p q : List Side} → e ∷ p ≡ f ∷ q → p ≡ q
tails h = cc

nil-cons : (e : Side) (p : List Side) → [] ≡ e ∷ p → ⊥
nil-cons e p h = cc

pub cut_apart : (c : Children) (way : List Side) (s j k x y : ℕ) → slice_get (nodes_cut c s way) j ≡ Some x
    → slice_get (nodes_cut c s way) k ≡ Some y → cut_path way j ≡ cut_path way k → j ≡ k
cut_apart c [] s j k x y h i e = absurd (none-some x h)
cut_apart c (d ∷ way) s zero zero x y h i e = refl
cut_apart c (d ∷ way) s zero (suc zero) x y h i e = absurd (nil-cons (other d) [] e)
cut_apart c (d ∷ way) s zero (suc (suc k)) x y h i e = absurd (nil-cons d (cut_path way k) e)
cut_apart c (d ∷ way) s (suc zero) zero x y h i e = absurd (nil-cons (other d) [] (sym e))
cut_apart c (d ∷ way) s (suc zero) (suc zero) x y h i e = refl
cut_apart c (d ∷ way) s (suc zero) (suc (suc k)) x y h i e = absurd (not_itself d (heads e))
cut_apart c (d ∷ way) s (suc (suc j)) zero x y h i e = absurd (nil-cons d (cut_path way j) (sym e))
cut_apart c (d ∷ way) s (suc (suc j)) (suc zero) x y h i e = absurd (not_itself d (sym (heads e)))
cut_apart c (d ∷ way) s (suc (suc j)) (suc (suc k)) x y h i e = ap (λ (n : ℕ). suc (suc n))
    (cut_apart c way (c s d) j k x y h i (tails e))

pub among_at : (xs : List ℕ) (x : ℕ) → among xs x ≡ true → (j : ℕ) × (slice_get xs j ≡ Some x)
among_at [] x h = absurd (true≢false (sym h))
among_at (y ∷ xs) x h = elim (or_cases (eqb x y) (among xs x) h) [
  | inl here ↦ (0, ap Some (sym (eqb-true x y here)))
  | inr later ↦ let r = among_at xs x later in (suc r.0, r.1)
]

pub at_among : (xs : List ℕ) (x j : ℕ) → slice_get xs j ≡ Some x → among xs x ≡ true
at_among [] x j h = absurd (none-some x h)
at_among (y ∷ xs) x zero h = or_left (eqb x y) (among xs x) (eq-eqb x y (sym (same_Some y x h)))
at_among (y ∷ xs) x (suc j) h = or_right (eqb x y) (among xs x) (at_among xs x j h)

-- ---- what is shared and isn't queued is reached

pub live_on_path : (N : ℕ) (P : Picture) (x : ℕ) → TreeLaw N P → IsLive P x → x ≢ 0 → x ≤ N
    → ((u i : ℕ) → P.queue u i ≡ Some x → ⊥) → IsOnPath P x
live_on_path N P x law live some inside unqueued = go (law.places x some inside).place (law.places x some inside).here
  where
    go : (p : SeekRecord) → Stands P x p → IsOnPath P x
    go InPool h = absurd (true≢false (sym h ∙ live.pooled))
    go (PrivateTo u) h = absurd (true≢false (sym h ∙ live.shared u))
    go (OnPath p) h = record { path = p; ends = h; is_slot = some }
    go (InQueue u i) h = absurd (unqueued u i h)

-- a node with an unmarked edge to a slot isn't queued
pub unmarked_not_queued : (N : ℕ) (P : Picture) (x : ℕ) (d : Side) (s : ℕ) → TreeLaw N P → P.edges x d ≡ to s → s ≢ 0
    → (u i : ℕ) → P.queue u i ≡ Some x → ⊥
unmarked_not_queued N P x d s law edge some u i h =
    let marked = law.queued u i x d h (λ z. some (sym (ap (λ (e : Edge). e.slot) edge) ∙ z)) in
    true≢false (sym marked ∙ ap (λ (e : Edge). e.flag || e.tag) edge)

-- ---- the splice

abbrev pub spliced : Picture → ℕ → ℕ → List ℕ → ℕ → Side → Edge → Picture
spliced P w n cut a d e = record {
  edges = with_edge_at P.edges a d e;
  pool = P.pool;
  private = P.private;
  queue = λ u i. cond (eqb u w) (cond (ltb i n) (P.queue w i) (slice_get cut (i - n))) (P.queue u i);
  knows = P.knows;
  read = P.read;
  drafted = P.drafted;
  late = λ u v i. cond (eqb v w) (cond (ltb i n) (P.late u w i) false) (P.late u v i);
}

-- what the worker w, with n entries in its queue, has shown of a, its edge on d, the way below it
-- and the edge that is to stand there
pub record IsSplice (N : ℕ) (P : Picture) (w n a : ℕ) (d : Side) (way : List Side) (e : Edge) : Type 0 where
  pub live : IsLive P a
  pub is_slot : a ≢ 0
  pub inside : a ≤ N
  pub unmarked : P.edges a d ≡ to (below P a d)
  pub high : 6 ≤ below P a d
  pub is_way : IsWay P (below P a d) way
  pub leads : e.slot ≡ follow (below P) (below P a d) way
  pub some : e.slot ≢ 0
  pub untagged : e.tag ≡ false
  pub flag_high : e.flag ≡ true → 6 ≤ e.slot
  pub flag_leaf : e.flag ≡ true → (f : Side) → below P e.slot f ≡ 0
  pub full : (i : ℕ) → n ≤ i → P.queue w i ≡ None

module _ (N : ℕ) (P : Picture) (w n a : ℕ) (d : Side) (way : List Side) (e : Edge) (law : TreeLaw N P)
    (splice : IsSplice N P w n a d way e) where
  abbrev pub cut_list : List ℕ
  cut_list = nodes_cut (below P) (below P a d) way

  abbrev pub Q : Picture
  Q = spliced P w n cut_list a d e

  pub first_slot : below P a d ≢ 0
  first_slot z = let h = splice.high in omega arith

  pub a_on_path : IsOnPath P a
  a_on_path = live_on_path N P a law splice.live splice.is_slot splice.inside
      (unmarked_not_queued N P a d (below P a d) law splice.unmarked first_slot)

  first_path : follow (below P) 1 (a_on_path.path ++ d ∷ []) ≡ below P a d
  first_path = follow-append (below P) 1 a_on_path.path (d ∷ []) ∙ ap (λ (y : ℕ). below P y d) a_on_path.ends

  pub splicing : Splicing (below P) (below Q) a d way
  splicing = record {
    nothing = null_below N P law;
    alone = alone N P law;
    front = a_on_path.path;
    at_front = a_on_path.ends;
    is_slot = splice.is_slot;
    frozen = rw first_path at (frozen_way N P law (a_on_path.path ++ d ∷ []) way (rw first_path first_slot)
        (rw first_path splice.is_way));
    exchanged = rw (← splice.leads) (is_exchanged P a d e);
  }

  -- the cut, by the paths before and after
  pub cut_law : (x : ℕ) → among cut_list x ≡ true → IsOnPath P x × (IsOnPath Q x → ⊥)
  cut_law x h =
      let was = cut_was_reached (below P) (below Q) a d way splicing x h in (
        record { path = was.0; ends = was.1; is_slot = was.2 },
        λ r. cut_is_gone (below P) (below Q) a d way splicing
            x h r.path r.ends,
      )

  pub cut_law_back : (x : ℕ) → IsOnPath P x → (IsOnPath Q x → ⊥) → among cut_list x ≡ true
  cut_law_back x r gone = elim (cases_Bool (among cut_list x)) [
    | inl yes' ↦ yes'
    | inr not' ↦
        let out : among cut_list (follow (below P) 1 r.path) ≡ true
        → ⊥ = λ h. true≢false (sym (rw r.ends at h) ∙ not') in
        let still = stays_reached (below P) (below Q) a d way splicing r.path (rw r.ends r.is_slot) out in
        absurd (gone (record { path = still.0; ends = still.1 ∙ r.ends; is_slot = r.is_slot }))
  ]

  -- only the edge of a is another
  pub unless_a : (x : ℕ) (g : Side) → x ≢ a → with_edge_at P.edges a d e x g ≡ P.edges x g
  unless_a x g ne = with_edge-other P.edges a d e x g ne

  -- what is below a node now, was below it before, one step or more
  step_back : (x : ℕ) (g : Side) → (r : List Side) × (follow (below P) x r ≡ below Q x g)
  step_back x g = go (changed_or P a d e x g)
    where
      go : ((x ≡ a) × (d ≡ g) × (with_edge_at P.edges a d e x g ≡ e))
          ⊎ (with_edge_at P.edges a d e x g ≡ P.edges x g) → (r : List Side) × (follow (below P) x r ≡ below Q x g)
      go (inl h) = (
        d ∷ way,
        ap (λ (y : ℕ). follow (below P) (below P y d) way) h.0
            ∙ (sym splice.leads ∙ ap (λ (y : Edge). y.slot) (sym h.2)),
      )
      go (inr h) = (g ∷ [], ap (λ (y : Edge). y.slot) (sym h))

  walk_back : (s : ℕ) (q : List Side) → (r : List Side) × (follow (below P) s r ≡ follow (below Q) s q)
  walk_back s [] = ([], refl)
  walk_back s (g ∷ q) =
      let one = step_back s g in
      let rest = walk_back (below Q s g) q in (
        one.0 ++ rest.0,
        follow-append (below P) s one.0 rest.0
            ∙ (ap (λ (y : ℕ). follow (below P) y rest.0) one.1 ∙ rest.1),
      )

  reach_back : (u x : ℕ) → InReach Q u x → InReach P u x
  reach_back u x r = let b = walk_back r.from r.path in
      record { from = r.from; known = r.known; path = b.0; ends = b.1 ∙ r.ends; is_slot = r.is_slot }

  live_back : (x : ℕ) → IsLive Q x → IsLive P x
  live_back x h = record { pooled = h.pooled; shared = h.shared }

  -- a leaf isn't a, and is a leaf still
  leaf_stays : (y : ℕ) → ((f : Side) → below P y f ≡ 0) → (f : Side) → below Q y f ≡ 0
  leaf_stays y leaf f = ap (λ (z : Edge). z.slot) (unless_a y f
      (λ i. first_slot (ap (λ (z : ℕ). below P z d) (sym i) ∙ leaf d))) ∙ leaf f

  flagged_leaf : (x : ℕ) (g : Side) → ((P.edges x g).flag ≡ true → (f : Side) → below P (below P x g) f ≡ 0)
      → (Q.edges x g).flag ≡ true → (f : Side) → below Q (below Q x g) f ≡ 0
  flagged_leaf x g was h f = go (changed_or P a d e x g)
    where
      go : ((x ≡ a) × (d ≡ g) × (with_edge_at P.edges a d e x g ≡ e))
          ⊎ (with_edge_at P.edges a d e x g ≡ P.edges x g) → below Q (below Q x g) f ≡ 0
      go (inl c) = ap (λ (z : Edge). below Q z.slot f) c.2
          ∙ leaf_stays e.slot (splice.flag_leaf (ap (λ (z : Edge). z.flag) (sym c.2) ∙ h)) f
      go (inr c) = ap (λ (z : Edge). below Q z.slot f) c
          ∙ leaf_stays (below P x g) (was (ap (λ (z : Edge). z.flag) (sym c) ∙ h)) f

  -- an edge that was marked, or null, isn't the one that was exchanged
  marked_stays : (x : ℕ) (g : Side) → (P.edges x g ≡ to (below P a d) → ⊥) → Q.edges x g ≡ P.edges x g
  marked_stays x g differs = go (changed_or P a d e x g)
    where
      go : ((x ≡ a) × (d ≡ g) × (with_edge_at P.edges a d e x g ≡ e))
          ⊎ (with_edge_at P.edges a d e x g ≡ P.edges x g) → Q.edges x g ≡ P.edges x g
      go (inl c) = absurd (differs (ap (λ (y : ℕ). P.edges y g) c.0 ∙ (ap (P.edges a) (sym c.1) ∙ splice.unmarked)))
      go (inr c) = c

  flag_differs : (x : ℕ) (g : Side) → (P.edges x g).flag ≡ true → P.edges x g ≡ to (below P a d) → ⊥
  flag_differs x g h i = true≢false (sym h ∙ ap (λ (z : Edge). z.flag) i)

  tag_differs : (x : ℕ) (g : Side) → (P.edges x g).tag ≡ true → P.edges x g ≡ to (below P a d) → ⊥
  tag_differs x g h i = true≢false (sym h ∙ ap (λ (z : Edge). z.tag) i)

  null_differs : (x : ℕ) (g : Side) → below P x g ≡ 0 → P.edges x g ≡ to (below P a d) → ⊥
  null_differs x g h i = first_slot (sym (ap (λ (z : Edge). z.slot) i) ∙ h)

  a_stays : IsOnPath Q a
  a_stays = record {
    path = splicing.front;
    ends = not_taken (below P) (below Q) a d _ splicing.exchanged 1 splicing.front
        (straight (below P) (below Q) a d way splicing) ∙ splicing.at_front;
    is_slot = splice.is_slot;
  }

  -- what is cut stands above 5, and its edges to slots are marked
  abbrev pub CutWell : List ℕ → Type 0
  CutWell xs = (x : ℕ) → among xs x ≡ true → (6 ≤ x)
      × ((g : Side) → below P x g ≢ 0 → ((P.edges x g).flag || (P.edges x g).tag) ≡ true)

  cut_well : (q way : List Side) → follow (below P) 1 q ≢ 0 → 6 ≤ follow (below P) 1 q
      → IsWay P (follow (below P) 1 q) way → CutWell (nodes_cut (below P) (follow (below P) 1 q) way)
  cut_well q [] some high way x h = absurd (true≢false (sym h))
  cut_well q (g ∷ way) some high w x h = parts (or_cases (eqb x (follow (below P) 1 q)) _ h)
      (on way w.2 (λ some high v. cut_well (q ++ g ∷ []) way some high v x))
    where
      live : IsLive P (follow (below P) 1 q)
      live = reached_live N P law q some

      node_marked : (f : Side) → ((P.edges (follow (below P) 1 q) f).flag || (P.edges (follow (below P) 1 q) f).tag)
          ≡ true
      node_marked f = either g f w.0 w.1
        where
          either : (g f : Side) → (P.edges (follow (below P) 1 q) g).tag ≡ true
              → (P.edges (follow (below P) 1 q) (other g)).flag ≡ true
              → ((P.edges (follow (below P) 1 q) f).flag || (P.edges (follow (below P) 1 q) f).tag) ≡ true
          either Left Left t l = or_right _ _ t
          either Left Right t l = or_left _ _ l
          either Right Left t l = or_left _ _ l
          either Right Right t l = or_right _ _ t

      next : follow (below P) 1 (q ++ g ∷ []) ≡ below P (follow (below P) 1 q) g
      next = follow-append (below P) 1 q (g ∷ [])

      slot : follow (below P) 1 (q ++ g ∷ []) ≢ 0
      slot = rw next (onward_slot N P law (follow (below P) 1 q) g live w.1)

      on : (way : List Side) → IsWay P (below P (follow (below P) 1 q) g) way
          → (follow (below P) 1 (q ++ g ∷ []) ≢ 0 → 6 ≤ follow (below P) 1 (q ++ g ∷ [])
          → IsWay P (follow (below P) 1 (q ++ g ∷ [])) way
          → among (nodes_cut (below P) (follow (below P) 1 (q ++ g ∷ [])) way) x ≡ true
          → (6 ≤ x) × ((g : Side) → below P x g ≢ 0 → ((P.edges x g).flag || (P.edges x g).tag) ≡ true))
          → among (nodes_cut (below P) (below P (follow (below P) 1 q) g) way) x ≡ true
          → (6 ≤ x) × ((g : Side) → below P x g ≢ 0 → ((P.edges x g).flag || (P.edges x g).tag) ≡ true)
      on [] v ih h = absurd (true≢false (sym h))
      on (f ∷ way) v ih h = ih slot (rw next (high_way N P law q g some high w.1 (other f) v.1)) (rw next v) (rw next h)

      parts : (eqb x (follow (below P) 1 q) ≡ true) ⊎ (among
          (below P (follow (below P) 1 q) (other g) ∷ nodes_cut (below P) (below P (follow (below P) 1 q) g) way) x
          ≡ true)
          → (among (nodes_cut (below P) (below P (follow (below P) 1 q) g) way) x ≡ true
          → (6 ≤ x) × ((g : Side) → below P x g ≢ 0 → ((P.edges x g).flag || (P.edges x g).tag) ≡ true))
          → (6 ≤ x) × ((g : Side) → below P x g ≢ 0 → ((P.edges x g).flag || (P.edges x g).tag) ≡ true)
      parts (inl here) rest = rw (eqb-true x _ here) (high, λ f _. node_marked f)
      parts (inr later) rest = elim (or_cases (eqb x (below P (follow (below P) 1 q) (other g))) _ later) [
        | inl twin ↦ rw (eqb-true x _ twin) (
          law.flags (follow (below P) 1 q) (other g) live w.1,
          λ f there. absurd
              (there (law.leaf_reached q (other g) w.1 f)),
        )
        | inr after ↦ rest after
      ]

  cut_is_well : CutWell cut_list
  cut_is_well = rw first_path at (cut_well (a_on_path.path ++ d ∷ []) way (rw first_path first_slot)
      (rw first_path splice.high) (rw first_path splice.is_way))

  -- an entry of the queue after: one from before, or a node that is cut
  entry : (u i x : ℕ) → Q.queue u i ≡ Some x → (P.queue u i ≡ Some x)
      ⊎ ((u ≡ w) × (n ≤ i) × (slice_get cut_list (i - n) ≡ Some x))
  entry u i x h = go (eqb u w) (ltb i n) refl refl h
    where
      go : (b c : Bool) → eqb u w ≡ b → ltb i n ≡ c → cond b (cond c (P.queue w i) (slice_get cut_list (i - n)))
          (P.queue u i) ≡ Some x → (P.queue u i ≡ Some x) ⊎ ((u ≡ w) × (n ≤ i) × (slice_get cut_list (i - n) ≡ Some x))
      go true true j k h = inl (rw (eqb-true u w j) h)
      go true false j k h = inr (eqb-true u w j, ltb-false i n k, h)
      go false c j k h = inl h

  old_entry : (u i x : ℕ) → P.queue u i ≡ Some x → Q.queue u i ≡ Some x
  old_entry u i x h = go (eqb u w) (ltb i n) refl refl
    where
      go : (b c : Bool) → eqb u w ≡ b → ltb i n ≡ c → cond b (cond c (P.queue w i) (slice_get cut_list (i - n)))
          (P.queue u i) ≡ Some x
      go true true j k = rw (← eqb-true u w j) h
      go true false j k = absurd (none-some x (sym (splice.full i (ltb-false i n k)) ∙ rw (eqb-true u w j) at h))
      go false c j k = h

  new_entry : (j x : ℕ) → slice_get cut_list j ≡ Some x → Q.queue w (n + j) ≡ Some x
  new_entry j x h =
      let past : ltb (n + j) n ≡ false = le-ltb (n + j) n (omega arith) in
      let same : n + j - n ≡ j = omega arith in
      rw (eq-eqb w w refl) (rw past (rw same h))

  entry_marked : (u i x : ℕ) (g : Side) → (P.queue u i ≡ Some x)
      ⊎ ((u ≡ w) × (n ≤ i) × (slice_get cut_list (i - n) ≡ Some x)) → below Q x g ≢ 0
      → ((Q.edges x g).flag || (Q.edges x g).tag) ≡ true
  entry_marked u i x g c there = go c (changed_or P a d e x g)
    where
      go : (P.queue u i ≡ Some x) ⊎ ((u ≡ w) × (n ≤ i) × (slice_get cut_list (i - n) ≡ Some x))
          → ((x ≡ a) × (d ≡ g) × (with_edge_at P.edges a d e x g ≡ e)) ⊎ (with_edge_at P.edges a d e x g ≡ P.edges x g)
          → ((Q.edges x g).flag || (Q.edges x g).tag) ≡ true
      go (inl old) (inl h) = absurd (unmarked_not_queued N P a d (below P a d) law splice.unmarked first_slot u i
          (rw h.0 at old))
      go (inl old) (inr h) = ap (λ (z : Edge). z.flag || z.tag) h
          ∙ law.queued u i x g old (rw (← ap (λ (z : Edge). z.slot) h) there)
      go (inr new) (inl h) = absurd ((cut_law a (at_among cut_list a (i - n) (rw h.0 at new.2))).1 a_stays)
      go (inr new) (inr h) = ap (λ (z : Edge). z.flag || z.tag) h
          ∙ (cut_is_well x (at_among cut_list x (i - n) new.2)).1 g (rw (← ap (λ (z : Edge). z.slot) h) there)

  place_cut : (x : ℕ) → x ≢ 0 → x ≤ N → among cut_list x ≡ true → Once Q x
  place_cut x some inside cut = new_place P Q x (OnPath path) (InQueue w (n + at.0)) ends (new_entry at.0 x at.1)
      each (law.places x some inside)
    where
      at : (j : ℕ) × (slice_get cut_list j ≡ Some x)
      at = among_at cut_list x cut

      path : List Side
      path = splicing.front ++ d ∷ cut_path way at.0

      ends : follow (below P) 1 path ≡ x
      ends = down (below P) (below Q) a d way splicing (cut_path way at.0)
          ∙ cut_at (below P) way (below P a d) at.0 x at.1

      same_index : (j : ℕ) → slice_get cut_list j ≡ Some x → j ≡ at.0
      same_index j h =
          let other_path : follow (below P) 1 (splicing.front ++ d ∷ cut_path way j)
          ≡ x = down (below P) (below Q) a d way splicing (cut_path way j)
          ∙ cut_at (below P) way (below P a d) j x h in
          let same = alone N P law (splicing.front ++ d ∷ cut_path way j) path (rw other_path some)
          (other_path ∙ sym ends) in
          cut_apart (below P) way (below P a d) j at.0 x x h at.1 (tails (append_cancel splicing.front _ _ same))

      each : (q : SeekRecord) → Stands Q x q → (q ≡ InQueue w (n + at.0)) ⊎ (Stands P x q × (q ≢ OnPath path))
      each InPool h = inr (h, λ e. cc)
      each (PrivateTo u) h = inr (h, λ e. cc)
      each (OnPath p) h = absurd ((cut_law x cut).1 (record { path = p; ends = h; is_slot = some }))
      each (InQueue u i) h = go (entry u i x h)
        where
          go : (P.queue u i ≡ Some x) ⊎ ((u ≡ w) × (n ≤ i) × (slice_get cut_list (i - n) ≡ Some x))
              → (InQueue u i ≡ InQueue w (n + at.0)) ⊎ (Stands P x (InQueue u i) × (InQueue u i ≢ OnPath path))
          go (inl old) = inr (old, λ e. cc)
          go (inr new) =
              let k = same_index (i - n) new.2 in
              let far : n ≤ i = new.1 in
              let index : i ≡ n + at.0 = omega arith in
              inl (ap (λ (y : ℕ). InQueue y i) new.0 ∙ ap (InQueue w) index)

  place_kept : (x : ℕ) → x ≢ 0 → x ≤ N → among cut_list x ≡ false → Once Q x
  place_kept x some inside uncut = repathed P Q x (λ h. h) (λ h. h) (λ u h. h) (λ u h. h)
      (λ u i h. old_entry u i x h) (λ u i h. was u i (entry u i x h)) forth
      (λ r h. let b = walk_back 1 r in (b.0, b.1 ∙ h))
      (λ p r h k. still_alone (below P) (below Q) a d way splicing p r (rw h some) (h ∙ sym k))
      (law.places x some inside)
    where
      was : (u i : ℕ) → (P.queue u i ≡ Some x) ⊎ ((u ≡ w) × (n ≤ i) × (slice_get cut_list (i - n) ≡ Some x))
          → P.queue u i ≡ Some x
      was u i (inl old) = old
      was u i (inr new) = absurd (true≢false (sym (at_among cut_list x (i - n) new.2) ∙ uncut))

      forth : (p : List Side) → follow (below P) 1 p ≡ x → (r : List Side) × (follow (below Q) 1 r ≡ x)
      forth p h =
          let still = stays_reached (below P) (below Q) a d way splicing p (rw h some)
          (λ c. true≢false (sym (rw h at c) ∙ uncut)) in
          (still.0, still.1 ∙ h)

  pub splice_keeps : TreeLaw N Q
  splice_keeps = record {
    room = law.room;
    nothing = λ g. unless_a 0 g (λ h. splice.is_slot (sym h)) ∙ law.nothing g;
    within = λ x g. cond_both (eqb x a && same_side d g) e (P.edges x g) (λ y. y.slot ≤ N)
        (λ _. rw splice.leads (within_path N P law (below P a d) way (law.within a d))) (λ _. law.within x g);
    pools = law.pools;
    privates = law.privates;
    queues = λ u i x h. range u i x (entry u i x h);
    known = law.known;
    root_left = ap (λ (z : Edge). z.slot) (marked_stays 1 Left
        (λ i. let two : below P a d ≡ 2 = sym (ap (λ (z : Edge). z.slot) i) ∙ law.root_left in let h = splice.high in
        omega arith)) ∙ law.root_left;
    second = cond_both (eqb 2 a && same_side d Left) e (P.edges 2 Left) (λ y. y.slot ≢ 0) (λ _. splice.some)
        (λ _. law.second);
    sentinels = λ x g l h. let z = law.sentinels x g l h in
        ap (λ (y : Edge). y.slot) (marked_stays x g (null_differs x g z)) ∙ z;
    places = λ x some inside. elim (cases_Bool (among cut_list x))
        [ inl cut ↦ place_cut x some inside cut | inr uncut ↦ place_kept x some inside uncut ];
    twins = λ x g h z. twin x g (live_back x h) (changed_or P a d e x g) z;
    flags = λ x g h z. flag_high x g (live_back x h) (changed_or P a d e x g) z;
    frozen = λ x g h z. tag_twin x g (live_back x h) (changed_or P a d e x g) z;
    queued = λ u i x g h there. entry_marked u i x g (entry u i x h) there;
    leaf_reached = λ q g. let b = walk_back 1 q in
        flagged_leaf (follow (below Q) 1 q) g (λ h f. rw (← b.1) (law.leaf_reached b.0 g (rw b.1 h) f));
    leaf_known = λ u x g r. flagged_leaf x g (law.leaf_known u x g (reach_back u x r));
    guarded = λ u x r. let l = law.guarded u x (reach_back u x r) in record { pooled = l.pooled; shared = l.shared };
    unlate = λ u x v i r h. young u x v i (reach_back u x r) h;
    reads = law.reads;
    flag_read = λ u x g y r h. let was = law.flag_read u x g y r h in
        let same = marked_stays x g (flag_differs x g was.0) in
        (ap (λ (z : Edge). z.flag) same ∙ was.0, ap (λ (z : Edge). z.slot) same ∙ was.1);
    tag_read = λ u x g y r h. let was = law.tag_read u x g y r h in
        marked_stays x g (tag_differs x g (ap (λ (z : Edge). z.tag) was ∙ h)) ∙ was;
    null_read = λ u x g y r h. let was = law.null_read u x g y r h in
        ap (λ (z : Edge). z.slot) (marked_stays x g (null_differs x g was)) ∙ was;
    drafts = λ u x g v h. let was = law.drafts u x g v h in
        (was.0, unless_a x g (λ i. true≢false (sym (rw i at was.0) ∙ splice.live.shared u)) ∙ was.1);
  }
    where
      young : (u x v i : ℕ) → InReach P u x → Q.queue v i ≡ Some x → Q.late u v i ≡ false
      young u x v i r h = go (eqb v w) (ltb i n) refl h
        where
          go : (b c : Bool) → eqb v w ≡ b → cond b (cond c (P.queue w i) (slice_get cut_list (i - n))) (P.queue v i)
              ≡ Some x → cond b (cond c (P.late u w i) false) (P.late u v i) ≡ false
          go true true k h = law.unlate u x w i r h
          go true false k h = refl
          go false c k h = law.unlate u x v i r h

      range : (u i x : ℕ) → (P.queue u i ≡ Some x) ⊎ ((u ≡ w) × (n ≤ i) × (slice_get cut_list (i - n) ≡ Some x))
          → (6 ≤ x) × (x ≤ N)
      range u i x (inl old) = law.queues u i x old
      range u i x (inr new) =
          let cut = at_among cut_list x (i - n) new.2 in
          let was = (cut_law x cut).0 in
          ((cut_is_well x cut).0, rw (← was.ends) (reached_within N P law was.path))

      twin : (x : ℕ) (g : Side) → IsLive P x → ((x ≡ a) × (d ≡ g) × (with_edge_at P.edges a d e x g ≡ e))
          ⊎ (with_edge_at P.edges a d e x g ≡ P.edges x g) → below Q x g ≡ 0 → below Q x (other g) ≡ 0
      twin x g l (inl h) z = absurd (splice.some (sym (ap (λ (y : Edge). y.slot) h.2) ∙ z))
      twin x g l (inr h) z =
          let none = law.twins x g l (sym (ap (λ (y : Edge). y.slot) h) ∙ z) in
          ap (λ (y : Edge). y.slot) (marked_stays x (other g) (null_differs x (other g) none)) ∙ none

      flag_high : (x : ℕ) (g : Side) → IsLive P x → ((x ≡ a) × (d ≡ g) × (with_edge_at P.edges a d e x g ≡ e))
          ⊎ (with_edge_at P.edges a d e x g ≡ P.edges x g) → (Q.edges x g).flag ≡ true → 6 ≤ below Q x g
      flag_high x g l (inl h) z = rw (ap (λ (y : Edge). y.slot) h.2)
          (splice.flag_high (ap (λ (y : Edge). y.flag) (sym h.2) ∙ z))
      flag_high x g l (inr h) z = rw (ap (λ (y : Edge). y.slot) h)
          (law.flags x g l (ap (λ (y : Edge). y.flag) (sym h) ∙ z))

      tag_twin : (x : ℕ) (g : Side) → IsLive P x → ((x ≡ a) × (d ≡ g) × (with_edge_at P.edges a d e x g ≡ e))
          ⊎ (with_edge_at P.edges a d e x g ≡ P.edges x g) → (Q.edges x g).tag ≡ true
          → (Q.edges x (other g)).flag ≡ true
      tag_twin x g l (inl h) z = absurd (true≢false (sym z ∙ (ap (λ (y : Edge). y.tag) h.2 ∙ splice.untagged)))
      tag_twin x g l (inr h) z =
          let flag = law.frozen x g l (ap (λ (y : Edge). y.tag) (sym h) ∙ z) in
          ap (λ (y : Edge). y.flag) (marked_stays x (other g) (flag_differs x (other g) flag)) ∙ flag
