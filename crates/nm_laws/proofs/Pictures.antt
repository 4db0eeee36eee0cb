-- A state as the laws of the tree see it: edges, pool, private slots, queues, and what is read and
-- drafted, each as a function.
use Rattle.std.proofs.Common.{◌≡◌, ℕ, ◌≢◌, ◌≤◌, ◌⊎◌, inl, inr, Bool, true, false, ◌||◌, List, [], ◌∷◌, ◌++◌, refl, sym, ap, ◌∙◌, arith}
use Rattle.std.specs.Prelude.{Option, Some}
use Rattle.std.proofs.lemmas.Bool.{false_from_ne_true}
use Rattle.nm_edge.specs.Edges.{Edge}
use Rattle.nm_edge.specs.declared.edge.Side.{Side}
use Rattle.nm_edge.specs.declared.edge.Side.TheVariants.{Left}
use Rattle.nm_edge.specs.Edges.{to, other}
use Rattle.nm_model.specs.Paths.{follow}
use Rattle.nm_laws.proofs.Trees.{Children, follow-append}

pub record Picture : Type 0 where
  pub edges : ℕ → Side → Edge
  pub pool : ℕ → Bool
  -- by worker
  pub private : ℕ → ℕ → Bool
  -- by origin
  pub queue : ℕ → ℕ → Option ℕ
  -- by worker
  pub knows : ℕ → ℕ → Bool
  pub read : ℕ → ℕ → Side → Option Edge
  pub drafted : ℕ → ℕ → Side → Option ℕ
  -- whether a worker's pin is above the label of an entry, by its origin and index
  pub late : ℕ → ℕ → ℕ → Bool

-- where a slot may stand: in the pool, in a worker's hands, on a path from the root, or at an index
-- of an origin's queue
pub data SeekRecord : Type 0 where
  InPool : SeekRecord
  PrivateTo : ℕ → SeekRecord
  OnPath : List Side → SeekRecord
  InQueue : ℕ → ℕ → SeekRecord

abbrev pub below : Picture → Children
below P x d = (P.edges x d).slot

abbrev pub Stands : Picture → ℕ → SeekRecord → Type 0
Stands P x InPool = P.pool x ≡ true
Stands P x (PrivateTo w) = P.private w x ≡ true
Stands P x (OnPath path) = follow (below P) 1 path ≡ x
Stands P x (InQueue w i) = P.queue w i ≡ Some x

pub record Once (P : Picture) (x : ℕ) : Type 0 where
  pub place : SeekRecord
  pub here : Stands P x place
  pub only : (q : SeekRecord) → Stands P x q → q ≡ place

-- neither in the pool nor private
pub record IsLive (P : Picture) (x : ℕ) : Type 0 where
  pub pooled : P.pool x ≡ false
  pub shared : (u : ℕ) → P.private u x ≡ false

-- at the end of a path from a slot that the worker knows
pub record InReach (P : Picture) (u x : ℕ) : Type 0 where
  pub from : ℕ
  pub known : P.knows u from ≡ true
  pub path : List Side
  pub ends : follow (below P) from path ≡ x
  pub is_slot : x ≢ 0

-- at the end of a path from the root
pub record IsOnPath (P : Picture) (x : ℕ) : Type 0 where
  pub path : List Side
  pub ends : follow (below P) 1 path ≡ x
  pub is_slot : x ≢ 0

pub on_path : (P : Picture) (x : ℕ) (e : Side) → IsOnPath P x → below P x e ≢ 0 → IsOnPath P (below P x e)
on_path P x e r n = record {
  path = r.path ++ e ∷ [];
  ends = follow-append (below P) 1 r.path (e ∷ [])
      ∙ ap (λ (z : ℕ). below P z e) r.ends;
  is_slot = n;
}

pub in_reach : (P : Picture) (u x : ℕ) (e : Side) → InReach P u x → below P x e ≢ 0 → InReach P u (below P x e)
in_reach P u x e r n = record {
  from = r.from;
  known = r.known;
  path = r.path ++ e
      ∷ [];
  ends = follow-append (below P) r.from r.path (e ∷ []) ∙ ap (λ (z : ℕ). below P z e) r.ends;
  is_slot = n;
}

pub record TreeLaw (N : ℕ) (P : Picture) : Type 0 where
  pub room : 5 ≤ N
  pub nothing : (d : Side) → P.edges 0 d ≡ to 0
  pub within : (x : ℕ) (d : Side) → below P x d ≤ N
  pub pools : (x : ℕ) → P.pool x ≡ true → (6 ≤ x) × (x ≤ N)
  pub privates : (u x : ℕ) → P.private u x ≡ true → (6 ≤ x) × (x ≤ N)
  pub queues : (u i x : ℕ) → P.queue u i ≡ Some x → (6 ≤ x) × (x ≤ N)
  pub known : (u x : ℕ) → P.knows u x ≡ true → (1 ≤ x) × (x ≤ N)
  pub root_left : below P 1 Left ≡ 2
  pub second : below P 2 Left ≢ 0
  pub sentinels : (x : ℕ) (d : Side) → 3 ≤ x → x ≤ 5 → below P x d ≡ 0
  pub places : (x : ℕ) → x ≢ 0 → x ≤ N → Once P x
  -- a shared node has two children or none; its flags lead to slots above 5; a tagged edge's twin
  -- is flagged
  pub twins : (x : ℕ) (d : Side) → IsLive P x → below P x d ≡ 0 → below P x (other d) ≡ 0
  pub flags : (x : ℕ) (d : Side) → IsLive P x → (P.edges x d).flag ≡ true → 6 ≤ below P x d
  pub frozen : (x : ℕ) (d : Side) → IsLive P x → (P.edges x d).tag ≡ true → (P.edges x (other d)).flag ≡ true
  pub queued : (u i x : ℕ) (d : Side) → P.queue u i ≡ Some x → below P x d ≢ 0
      → ((P.edges x d).flag || (P.edges x d).tag) ≡ true
  -- a flagged edge leads to a leaf, from where somebody may come
  pub leaf_reached : (q : List Side) (d : Side) → (P.edges (follow (below P) 1 q) d).flag ≡ true → (f : Side)
      → below P (below P (follow (below P) 1 q) d) f ≡ 0
  pub leaf_known : (u x : ℕ) (d : Side) → InReach P u x → (P.edges x d).flag ≡ true → (f : Side)
      → below P (below P x d) f ≡ 0
  pub guarded : (u x : ℕ) → InReach P u x → IsLive P x
  pub unlate : (u x v i : ℕ) → InReach P u x → P.queue v i ≡ Some x → P.late u v i ≡ false
  -- what is known is so
  pub reads : (u x : ℕ) (d : Side) (e : Edge) → P.read u x d ≡ Some e → P.knows u x ≡ true
  pub flag_read : (u x : ℕ) (d : Side) (e : Edge) → P.read u x d ≡ Some e → e.flag ≡ true
      → ((P.edges x d).flag ≡ true) × (below P x d ≡ e.slot)
  pub tag_read : (u x : ℕ) (d : Side) (e : Edge) → P.read u x d ≡ Some e → e.tag ≡ true → P.edges x d ≡ e
  pub null_read : (u x : ℕ) (d : Side) (e : Edge) → P.read u x d ≡ Some e → e.slot ≡ 0 → below P x d ≡ 0
  pub drafts : (u x : ℕ) (d : Side) (v : ℕ) → P.drafted u x d ≡ Some v → (P.private u x ≡ true) × (P.edges x d ≡ to v)

-- ---- places

pub same_place : (P Q : Picture) (x : ℕ) → ((q : SeekRecord) → Stands P x q → Stands Q x q)
    → ((q : SeekRecord) → Stands Q x q → Stands P x q) → Once P x → Once Q x
same_place P Q x there back once = record {
  place = once.place;
  here = there once.place once.here;
  only = λ q h.
      once.only q (back q h);
}

-- pool, hands and queues have the slot as before, and each path leads where it led
pub same_ways : (P Q : Picture) (x : ℕ) → Q.pool x ≡ P.pool x → ((u : ℕ) → Q.private u x ≡ P.private u x)
    → ((u i : ℕ) → Q.queue u i ≡ P.queue u i) → ((q : List Side) → follow (below Q) 1 q ≡ follow (below P) 1 q)
    → Once P x → Once Q x
same_ways P Q x pool private queue path = same_place P Q x there back
  where
    there : (q : SeekRecord) → Stands P x q → Stands Q x q
    there InPool h = pool ∙ h
    there (PrivateTo u) h = private u ∙ h
    there (OnPath q) h = path q ∙ h
    there (InQueue u i) h = queue u i ∙ h

    back : (q : SeekRecord) → Stands Q x q → Stands P x q
    back InPool h = sym pool ∙ h
    back (PrivateTo u) h = sym (private u) ∙ h
    back (OnPath q) h = sym (path q) ∙ h
    back (InQueue u i) h = sym (queue u i) ∙ h

-- it goes from old to new, and stood nowhere else
pub new_place : (P Q : Picture) (x : ℕ) (old new : SeekRecord) → Stands P x old → Stands Q x new
    → ((q : SeekRecord) → Stands Q x q → (q ≡ new) ⊎ (Stands P x q × (q ≢ old))) → Once P x → Once Q x
new_place P Q x old new was is each once = record { place = new; here = is; only = λ q h. go q (each q h) }
  where
    go : (q : SeekRecord) → (q ≡ new) ⊎ (Stands P x q × (q ≢ old)) → q ≡ new
    go q (inl e) = e
    go q (inr t) = absurd (t.1 (once.only q t.0 ∙ sym (once.only old was)))

-- a slot that stands in one place stands in no other
pub nowhere_else : (P : Picture) (x : ℕ) (p q : SeekRecord) → Once P x → Stands P x p → Stands P x q → p ≡ q
nowhere_else P x p q once a b = once.only p a ∙ sym (once.only q b)

module _ (N : ℕ) (P : Picture) (law : TreeLaw N P) where
  pub within_path : (s : ℕ) (q : List Side) → s ≤ N → follow (below P) s q ≤ N
  within_path s [] h = h
  within_path s (d ∷ q) h = within_path (below P s d) q (law.within s d)

  pub reached_within : (q : List Side) → follow (below P) 1 q ≤ N
  reached_within q = within_path 1 q (let r = law.room in omega arith)

  -- what is reached is shared
  pub reached_live : (q : List Side) → follow (below P) 1 q ≢ 0 → IsLive P (follow (below P) 1 q)
  reached_live q there = record {
    pooled = false_from_ne_true _ (λ h. clash InPool h (λ e. cc));
    shared = λ u. false_from_ne_true _ (λ h. clash (PrivateTo u) h (λ e. cc));
  }
    where
      clash : (p : SeekRecord) → Stands P (follow (below P) 1 q) p → (p ≡ OnPath q → ⊥) → ⊥
      clash p h apart = apart (nowhere_else P _ p (OnPath q) (law.places _ there (reached_within q)) h refl)

  -- each slot ends one path at most
  pub alone : (q r : List Side) → follow (below P) 1 q ≢ 0 → follow (below P) 1 q ≡ follow (below P) 1 r → q ≡ r
  alone q r there same = path_of _ _ (nowhere_else P (follow (below P) 1 q) (OnPath q) (OnPath r)
      (law.places _ there (reached_within q)) refl (sym same))
    where
      path_of : (q r : List Side) → OnPath q ≡ OnPath r → q ≡ r
      path_of q r h = cc

  pub path_not_queued : (q : List Side) (u i : ℕ) → follow (below P) 1 q ≢ 0
      → P.queue u i ≡ Some (follow (below P) 1 q) → ⊥
  path_not_queued q u i there h =
      let e : InQueue u i ≡ OnPath q = nowhere_else P _ (InQueue u i) (OnPath q)
      (law.places _ there (reached_within q)) h refl in cc

  pub null_below : (d : Side) → below P 0 d ≡ 0
  null_below d = ap (λ (e : Edge). e.slot) (law.nothing d)
