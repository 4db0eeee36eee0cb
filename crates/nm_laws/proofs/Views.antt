-- A state's picture, and what writing a word or learning does to it.
use Rattle.std.proofs.Common.{◌≡◌, ℕ, ◌==◌, ◌≢◌, ◌<◌, ◌⊎◌, inl, inr, eqb, ltb, Bool, true, false, cond, ◌&&◌, List, [], length, refl, sym, ap, subst, ◌∙◌, arith, get_or-set_same, get_or-set_other}
use Rattle.std.specs.Prelude.{Option, Some, None, option_map, slice_get, unwrap_or, is_some}
use mathlib.Core.Path.{fun_ext}
use native.Mathlib.Decide.{ℕ_discrete}
use Rattle.std.proofs.lemmas.Bool.{cond_both, cond-true, cond-false, eqb-true, eqb-false, eq-eqb, ne_eqb, and_parts}
use Rattle.std.proofs.lemmas.Option.{same_Some}
use Rattle.nm_edge.specs.Edges.{Edge}
use Rattle.nm_edge.specs.declared.edge.Side.{Side}
use Rattle.nm_edge.specs.declared.edge.Side.TheVariants.{Left, Right}
use Rattle.nm_model.specs.declared.memory.Node.{Node}
use Rattle.nm_model.specs.declared.knowledge.Seen.{Seen}
use Rattle.nm_model.specs.declared.knowledge.Draft.{Draft}
use Rattle.nm_model.specs.declared.ledger.Queued.{Queued}
use Rattle.nm_model.specs.Maps.{get, put, has}
use Rattle.nm_model.specs.Memory.{Memory, blank, node, edge, edge_of, in_pool, put_edge, with_edge}
use Rattle.nm_model.specs.Ledgers.{held, queue_of}
use Rattle.nm_model.specs.Knowledge.{Knowledge, newcomer, unread, knows, is_private, seen_of, draft_of, read, read_on}
use Rattle.nm_model.specs.Learning.{met, with_read, read_edge}
use Rattle.nm_model.specs.Places.{slot_of}
use Rattle.nm_model.specs.Runs.{State, of}
use Rattle.nm_laws.proofs.Steps.{moved}
use Rattle.nm_model.proofs.Tables.{get-put, has_put, has_put_there}
use Rattle.nm_laws.proofs.Trees.{same_side, same_side-true}
use Rattle.nm_laws.proofs.Pictures.{Picture, below, in_reach, InReach, IsOnPath, TreeLaw}
use Rattle.nm_laws.proofs.Slots.{with_edge_at, with_edge-other, with_edges}
use Rattle.nm_laws.proofs.Readings.{learned, learn_keeps, timed, time_keeps}

abbrev pub drafted_on : Draft → Side → Option ℕ
drafted_on d Left = d.left
drafted_on d Right = d.right

-- the queue of an origin, as a worker holds it
abbrev pub held_queue : Knowledge → ℕ → List Queued
held_queue k o = queue_of (held k.ledgers o)

abbrev pub queued_at : List Queued → ℕ → Option ℕ
queued_at q i = option_map slot_of (slice_get q i)

abbrev pub label_below : ℕ → Option ℕ → Bool
label_below p None = false
label_below p (Some l) = ltb l p

-- an entry is labelled, below the pin
abbrev pub is_late : Option ℕ → Option Queued → Bool
is_late None e = false
is_late (Some p) None = false
is_late (Some p) (Some e) = label_below p e.label

-- by what memory is, what each worker knows, and who holds the ledger of each origin
abbrev pub view : Memory → (ℕ → Knowledge) → (ℕ → ℕ) → Picture
view m kn h = record {
  edges = edge m;
  pool = in_pool m;
  private = λ u. is_private (kn u);
  queue = λ o. queued_at (held_queue (kn (h o)) o);
  knows = λ u. knows (kn u);
  read = λ u. read (kn u);
  drafted = λ u x. drafted_on (draft_of (kn u) x);
  late = λ u o i. is_late (kn u).brief.pin (slice_get (held_queue (kn (h o)) o) i);
}

abbrev pub picture : State → (ℕ → ℕ) → Picture
picture s h = view s.memory (of s) h

-- ---- equal pictures

pub record SamePicture (P Q : Picture) : Type 0 where
  pub edges : (x : ℕ) (d : Side) → P.edges x d ≡ Q.edges x d
  pub pool : (x : ℕ) → P.pool x ≡ Q.pool x
  pub private : (u x : ℕ) → P.private u x ≡ Q.private u x
  pub queue : (u i : ℕ) → P.queue u i ≡ Q.queue u i
  pub knows : (u x : ℕ) → P.knows u x ≡ Q.knows u x
  pub read : (u x : ℕ) (d : Side) → P.read u x d ≡ Q.read u x d
  pub drafted : (u x : ℕ) (d : Side) → P.drafted u x d ≡ Q.drafted u x d
  pub late : (u v i : ℕ) → P.late u v i ≡ Q.late u v i

pub same_picture : (P Q : Picture) → SamePicture P Q → P ≡ Q
same_picture P Q same = λ i. record {
  edges = λ x d. same.edges x d i;
  pool = λ x. same.pool x i;
  private = λ u x. same.private u x i;
  queue = λ u x. same.queue u x i;
  knows = λ u x. same.knows u x i;
  read = λ u x d. same.read u x d i;
  drafted = λ u x d. same.drafted u x d i;
  late = λ u v j. same.late u v j i;
}

pub law_of : (N : ℕ) (P Q : Picture) → TreeLaw N P → SamePicture P Q → TreeLaw N Q
law_of N P Q law same = subst (TreeLaw N) (same_picture P Q same) law

-- ---- one worker learns

abbrev pub with_worker : (ℕ → Knowledge) → ℕ → Knowledge → ℕ → Knowledge
with_worker kn w k u = cond (eqb u w) k (kn u)

pub of_moved : (s : State) (w : ℕ) (m : Memory) (k : Knowledge) → w < length s.workers → (u : ℕ)
    → of (moved s w m k) u ≡ with_worker (of s) w k u
of_moved s w m k inside u = elim (ℕ_discrete u w) [
  | yes e ↦ rw e (get_or-set_same s.workers w k (newcomer s.layout w) inside
      ∙ sym (cond-true (eqb w w) k (of s w) (eq-eqb w w refl)))
  | no ne ↦ get_or-set_other s.workers w u k (newcomer s.layout u) ne
      ∙ sym (cond-false (eqb u w) k (of s u) (ne_eqb u w ne))
]

pub picture_moved : (s : State) (w : ℕ) (m : Memory) (k : Knowledge) (h : ℕ → ℕ) → w < length s.workers
    → picture (moved s w m k) h ≡ view m (with_worker (of s) w k) h
picture_moved s w m k h inside = ap (λ (kn : ℕ → Knowledge). view m kn h) (fun_ext (of_moved s w m k inside))

-- a row of the worker that learns, and of the others
pub row : {X : Type 0} (f : Knowledge → X) (kn : ℕ → Knowledge) (w : ℕ) (k : Knowledge) (u : ℕ) (x : X)
    → (u ≡ w → f k ≡ x) → (u ≢ w → f (kn u) ≡ x) → f (with_worker kn w k u) ≡ x
row f kn w k u x own others = elim (ℕ_discrete u w) [
  | yes e ↦ ap f (cond-true (eqb u w) k (kn u) (eq-eqb u w e)) ∙ own e
  | no ne ↦ ap f (cond-false (eqb u w) k (kn u) (ne_eqb u w ne)) ∙ others ne
]

-- a row that what was learned does not change
pub same_row : {X : Type 0} (f : Knowledge → X) (kn : ℕ → Knowledge) (w : ℕ) (k : Knowledge) → f k ≡ f (kn w)
    → (u : ℕ) → f (kn u) ≡ f (with_worker kn w k u)
same_row f kn w k same u = sym (row f kn w k u (f (kn u)) (λ e. same ∙ ap (λ (y : ℕ). f (kn y)) (sym e)) (λ _. refl))

pub late_rows : (kn : ℕ → Knowledge) (h : ℕ → ℕ) (w : ℕ) (k : Knowledge) → k.brief.pin ≡ (kn w).brief.pin
    → ((o : ℕ) → held_queue k o ≡ held_queue (kn w) o) → (u o i : ℕ)
    → is_late (kn u).brief.pin (slice_get (held_queue (kn (h o)) o) i)
    ≡ is_late (with_worker kn w k u).brief.pin (slice_get (held_queue (with_worker kn w k (h o)) o) i)
late_rows kn h w k pin queue u o i =
    ap (λ p. is_late p (slice_get (held_queue (kn (h o)) o) i)) (same_row (λ y. y.brief.pin) kn w k pin u)
    ∙ ap (λ q. is_late (with_worker kn w k u).brief.pin (slice_get q i))
    (same_row (λ y. held_queue y o) kn w k (queue o) (h o))

pub queue_rows : (kn : ℕ → Knowledge) (h : ℕ → ℕ) (w : ℕ) (k : Knowledge)
    → ((o : ℕ) → held_queue k o ≡ held_queue (kn w) o) → (o i : ℕ)
    → queued_at (held_queue (kn (h o)) o) i ≡ queued_at (held_queue (with_worker kn w k (h o)) o) i
queue_rows kn h w k queue o i = same_row (λ y. queued_at (held_queue y o) i) kn w k
    (ap (λ q. queued_at q i) (queue o)) (h o)

-- two states of knowledge agree on the tree's part
pub record Like (k l : Knowledge) : Type 0 where
  pub pin : l.brief.pin ≡ k.brief.pin
  pub queue : (o : ℕ) → held_queue l o ≡ held_queue k o
  pub private : (x : ℕ) → is_private l x ≡ is_private k x
  pub knows : (x : ℕ) → knows l x ≡ knows k x
  pub read : (x : ℕ) (d : Side) → read l x d ≡ read k x d
  pub drafted : (x : ℕ) (d : Side) → drafted_on (draft_of l x) d ≡ drafted_on (draft_of k x) d

pub like_itself : (k : Knowledge) → Like k k
like_itself k = record {
  pin = refl;
  queue = λ o. refl;
  private = λ x. refl;
  knows = λ x. refl;
  read = λ x d. refl;
  drafted = λ x d. refl;
}

pub quiet_view : (N : ℕ) (m : Memory) (kn : ℕ → Knowledge) (h : ℕ → ℕ) (w : ℕ) (k : Knowledge) → Like (kn w) k
    → TreeLaw N (view m kn h) → TreeLaw N (view m (with_worker kn w k) h)
quiet_view N m kn h w k like law = law_of N (view m kn h) (view m (with_worker kn w k) h) law (record {
  edges = λ x d. refl;
  pool = λ x. refl;
  private = λ u x. same_row (λ y. is_private y x) kn w k (like.private x) u;
  queue = queue_rows kn h w k like.queue;
  knows = λ u x. same_row (λ y. knows y x) kn w k (like.knows x) u;
  read = λ u x d. same_row (λ y. read y x d) kn w k (like.read x d) u;
  drafted = λ u x d. same_row (λ y. drafted_on (draft_of y x) d) kn w k (like.drafted x d) u;
  late = late_rows kn h w k like.pin like.queue;
})

-- ---- writing an edge

pub edge_put : (m : Memory) (p : ℕ) (d : Side) (e : Edge) → p < length m.nodes → (x : ℕ) (g : Side)
    → edge (put_edge m p d e) x g ≡ with_edge_at (edge m) p d e x g
edge_put m p d e inside x g = elim (ℕ_discrete x p) [
  | yes is ↦ rw is (ap (λ (n : Node). edge_of n g)
      (get_or-set_same m.nodes p (with_edge (node m p) d e) blank inside)
      ∙ (on (node m p) d g ∙ ap (λ (b : Bool). cond (b && same_side d g) e (edge m p g)) (sym (eq-eqb p p refl))))
  | no ne ↦ ap (λ (n : Node). edge_of n g) (get_or-set_other m.nodes p x (with_edge (node m p) d e) blank ne)
      ∙ sym (with_edge-other (edge m) p d e x g ne)
]
  where
    on : (n : Node) (d g : Side) → edge_of (with_edge n d e) g ≡ cond (same_side d g) e (edge_of n g)
    on n Left Left = refl
    on n Left Right = refl
    on n Right Left = refl
    on n Right Right = refl

pub edges_view : (m : Memory) (kn : ℕ → Knowledge) (h : ℕ → ℕ) (p : ℕ) (d : Side) (e : Edge) → p < length m.nodes
    → SamePicture (with_edges (view m kn h) p d e) (view (put_edge m p d e) kn h)
edges_view m kn h p d e inside = record {
  edges = λ x g. sym (edge_put m p d e inside x g);
  pool = λ x. refl;
  private = λ u x. refl;
  queue = λ u i. refl;
  knows = λ u x. refl;
  read = λ u x g. refl;
  drafted = λ u x g. refl;
  late = λ u v i. refl;
}

-- ---- reading an edge

abbrev pub seen_in : List (ℕ × Seen) → ℕ → Seen
seen_in m x = unwrap_or (get m x) unread

pub seen_put : (m : List (ℕ × Seen)) (s : ℕ) (n : Seen) (x : ℕ) → seen_in (put m s n) x ≡ cond (eqb x s) n (seen_in m x)
seen_put m s n x = ap (λ o. unwrap_or o unread) (get-put m s n x) ∙ go (eqb x s)
  where
    go : (b : Bool) → unwrap_or (cond b (Some n) (get m x)) unread ≡ cond b n (seen_in m x)
    go true = refl
    go false = refl

-- meeting a slot changes nothing that was read
pub seen_met : (m : List (ℕ × Seen)) (s x : ℕ) → seen_in (met m s) x ≡ seen_in m x
seen_met m s x = cond_both (s == 0) m (cond (has m s) m (put m s unread)) (λ l. seen_in l x ≡ seen_in m x)
    (λ _. refl) (λ _. go (get m s) refl)
  where
    go : (o : Option Seen) → get m s ≡ o → seen_in (cond (is_some o) m (put m s unread)) x ≡ seen_in m x
    go (Some n) h = refl
    go None h = seen_put m s unread x ∙ cond_both (eqb x s) unread (seen_in m x) (λ n. n ≡ seen_in m x)
        (λ e. sym (ap (seen_in m) (eqb-true x s e) ∙ ap (λ o. unwrap_or o unread) h)) (λ _. refl)

pub has_met : (m : List (ℕ × Seen)) (s x : ℕ) → has (met m s) x ≡ true → ((x ≡ s) × (s ≢ 0)) ⊎ (has m x ≡ true)
has_met m s x = cond_both (s == 0) m (cond (has m s) m (put m s unread))
    (λ l. has l x ≡ true → ((x ≡ s) × (s ≢ 0)) ⊎ (has m x ≡ true))
    (λ _ h. inr h)
    (λ some. cond_both (has m s) m (put m s unread) (λ l. has l x ≡ true → ((x ≡ s) × (s ≢ 0)) ⊎ (has m x ≡ true))
    (λ _ h. inr h)
    (λ _ h. elim (has_put m s unread x h) [ inl e ↦ inl (e, eqb-false s 0 some) | inr k ↦ inr k ]))

pub has_met_there : (m : List (ℕ × Seen)) (s x : ℕ) → has m x ≡ true → has (met m s) x ≡ true
has_met_there m s x h = cond_both (s == 0) m (cond (has m s) m (put m s unread)) (λ l. has l x ≡ true) (λ _. h)
    (λ _. cond_both (has m s) m (put m s unread) (λ l. has l x ≡ true) (λ _. h)
    (λ _. has_put_there m s unread x (inr h)))

-- ---- a worker learns what is so

pub record Learns (m : Memory) (kn : ℕ → Knowledge) (h : ℕ → ℕ) (w : ℕ) (k : Knowledge) : Type 0 where
  pub pin : k.brief.pin ≡ (kn w).brief.pin
  pub queue : (o : ℕ) → held_queue k o ≡ held_queue (kn w) o
  pub private : (x : ℕ) → is_private k x ≡ is_private (kn w) x
  pub drafted : (x : ℕ) (d : Side) → drafted_on (draft_of k x) d ≡ drafted_on (draft_of (kn w) x) d
  pub met : (x : ℕ) → knows k x ≡ true → InReach (view m kn h) w x ⊎ IsOnPath (view m kn h) x
  pub heard : (x : ℕ) (d : Side) (e : Edge) → read k x d ≡ Some e
      → (knows k x ≡ true) × ((read (kn w) x d ≡ Some e) ⊎ (edge m x d ≡ e))

known_reach : (N : ℕ) (P : Picture) (u x : ℕ) → TreeLaw N P → P.knows u x ≡ true → InReach P u x
known_reach N P u x law k = let r = law.known u x k in
    record { from = x; known = k; path = []; ends = refl; is_slot = λ z. omega arith }

pub learn_view : (N : ℕ) (m : Memory) (kn : ℕ → Knowledge) (h : ℕ → ℕ) (w : ℕ) (k : Knowledge) → Learns m kn h w k
    → TreeLaw N (view m kn h) → TreeLaw N (view m (with_worker kn w k) h)
learn_view N m kn h w k learns law = law_of N (learned (view m kn h) (λ u. knows (with_worker kn w k u))
    (λ u. read (with_worker kn w k u))) (view m (with_worker kn w k) h)
    (learn_keeps N (view m kn h) (λ u. knows (with_worker kn w k u)) (λ u. read (with_worker kn w k u)) law met
    heard) (record {
      edges = λ x d. refl;
      pool = λ x. refl;
      private = λ u x. same_row (λ y. is_private y x) kn w k (learns.private x) u;
      queue = queue_rows kn h w k learns.queue;
      knows = λ u x. refl;
      read = λ u x d. refl;
      drafted = λ u x d. same_row (λ y. drafted_on (draft_of y x) d) kn w k (learns.drafted x d) u;
      late = late_rows kn h w k learns.pin learns.queue;
    })
  where
    met : (u x : ℕ) → knows (with_worker kn w k u) x ≡ true → InReach (view m kn h) u x ⊎ IsOnPath (view m kn h) x
    met u x = go (eqb u w) refl
      where
        go : (b : Bool) → eqb u w ≡ b → knows (cond b k (kn u)) x ≡ true
            → InReach (view m kn h) u x ⊎ IsOnPath (view m kn h) x
        go true e is = rw (eqb-true u w e) (learns.met x is)
        go false e is = inl (known_reach N (view m kn h) u x law is)

    heard : (u x : ℕ) (d : Side) (e : Edge) → read (with_worker kn w k u) x d ≡ Some e
        → (knows (with_worker kn w k u) x ≡ true) × ((read (kn u) x d ≡ Some e) ⊎ (edge m x d ≡ e))
    heard u x d e = go (eqb u w) refl
      where
        go : (b : Bool) → eqb u w ≡ b → read (cond b k (kn u)) x d ≡ Some e
            → (knows (cond b k (kn u)) x ≡ true) × ((read (kn u) x d ≡ Some e) ⊎ (edge m x d ≡ e))
        go true i is = rw (eqb-true u w i) (learns.heard x d e is)
        go false i is = (law.reads u x d e is, inl is)

read_with : (n : Seen) (d : Side) (e : Edge) (g : Side)
    → read_on (with_read n d e) g ≡ cond (same_side d g) (Some e) (read_on n g)
read_with n Left e Left = refl
read_with n Left e Right = refl
read_with n Right e Left = refl
read_with n Right e Right = refl

pub read_after : (k : Knowledge) (p : ℕ) (d : Side) (e : Edge) (x : ℕ) (g : Side)
    → read (read_edge k p d e) x g ≡ cond (eqb x p && same_side d g) (Some e) (read k x g)
read_after k p d e x g =
    ap (λ (n : Seen). read_on n g) (seen_put (met k.known e.slot) p (with_read (seen_of k p) d e) x) ∙ go (eqb x p) refl
  where
    go : (b : Bool) → eqb x p ≡ b → read_on (cond b (with_read (seen_of k p) d e) (seen_in (met k.known e.slot) x)) g
        ≡ cond (b && same_side d g) (Some e) (read_on (seen_of k x) g)
    go true i = read_with (seen_of k p) d e g ∙ ap (λ (y : ℕ). cond (same_side d g) (Some e) (read k y g))
        (sym (eqb-true x p i))
    go false i = ap (λ (n : Seen). read_on n g) (seen_met k.known e.slot x)

-- an edge of a known slot is read as it is
pub read_edge_view : (N : ℕ) (m : Memory) (kn : ℕ → Knowledge) (h : ℕ → ℕ) (w p : ℕ) (d : Side) (e : Edge)
    → knows (kn w) p ≡ true → edge m p d ≡ e → TreeLaw N (view m kn h)
    → TreeLaw N (view m (with_worker kn w (read_edge (kn w) p d e)) h)
read_edge_view N m kn h w p d e known is law = learn_view N m kn h w (read_edge (kn w) p d e) (record {
  pin = refl;
  queue = λ o. refl;
  private = λ x. refl;
  drafted = λ x g. refl;
  met = λ x i. met_from x (has_put (met (kn w).known e.slot) p (with_read (seen_of (kn w) p) d e) x i);
  heard = heard;
}) law
  where
    met_from : (x : ℕ) → (x ≡ p) ⊎ (has (met (kn w).known e.slot) x ≡ true)
        → InReach (view m kn h) w x ⊎ IsOnPath (view m kn h) x
    met_from x (inl i) = inl (rw i (known_reach N (view m kn h) w p law known))
    met_from x (inr i) = go (has_met (kn w).known e.slot x i)
      where
        go : ((x ≡ e.slot) × (e.slot ≢ 0)) ⊎ (has (kn w).known x ≡ true)
            → InReach (view m kn h) w x ⊎ IsOnPath (view m kn h) x
        go (inl j) =
            let down : below (view m kn h) p d ≡ e.slot = ap (λ (y : Edge). y.slot) is in
            inl (rw (j.0, ← down) (in_reach (view m kn h) w p d (known_reach N (view m kn h) w p law known)
            (rw down j.1)))
        go (inr k) = inl (known_reach N (view m kn h) w x law k)

    heard : (x : ℕ) (g : Side) (y : Edge) → read (read_edge (kn w) p d e) x g ≡ Some y
        → (knows (read_edge (kn w) p d e) x ≡ true) × ((read (kn w) x g ≡ Some y) ⊎ (edge m x g ≡ y))
    heard x g y i = go (eqb x p && same_side d g) refl (sym (read_after (kn w) p d e x g) ∙ i)
      where
        go : (b : Bool) → (eqb x p && same_side d g) ≡ b → cond b (Some e) (read (kn w) x g) ≡ Some y
            → (knows (read_edge (kn w) p d e) x ≡ true) × ((read (kn w) x g ≡ Some y) ⊎ (edge m x g ≡ y))
        go true i k =
            let parts = and_parts (eqb x p) (same_side d g) i in
            let at = eqb-true x p parts.0 in
            let side = same_side-true d g parts.1 in (
              has_put_there (met (kn w).known e.slot) p (with_read (seen_of (kn w) p) d e) x (inl at),
              inr (rw (at, ← side) is ∙ same_Some e y k),
            )
        go false i k = (
          has_put_there (met (kn w).known e.slot) p (with_read (seen_of (kn w) p) d e) x
              (inr (has_met_there (kn w).known e.slot x (law.reads w x g y k))),
          inl k,
        )

-- a birth of a known slot is read
abbrev pub read_birth : Knowledge → ℕ → ℕ → Knowledge
read_birth k s b = record k { known = put k.known s (record (seen_of k s) { birth = Some b }) }

pub read_birth_view : (N : ℕ) (m : Memory) (kn : ℕ → Knowledge) (h : ℕ → ℕ) (w p b : ℕ) → knows (kn w) p ≡ true
    → TreeLaw N (view m kn h) → TreeLaw N (view m (with_worker kn w (read_birth (kn w) p b)) h)
read_birth_view N m kn h w p b known law = learn_view N m kn h w (read_birth (kn w) p b) (record {
  pin = refl;
  queue = λ o. refl;
  private = λ x. refl;
  drafted = λ x g. refl;
  met = λ x i. inl (elim (has_put (kn w).known p _ x i)
      [ inl j ↦ rw j (known_reach N (view m kn h) w p law known) | inr k ↦ known_reach N (view m kn h) w x law k ]);
  heard = λ x g y i. let old = sym (read_same x g) ∙ i in
      (has_put_there (kn w).known p _ x (inr (law.reads w x g y old)), inl old);
}) law
  where
    read_same : (x : ℕ) (g : Side) → read (read_birth (kn w) p b) x g ≡ read (kn w) x g
    read_same x g = ap (λ (n : Seen). read_on n g) (seen_put (kn w).known p
        (record { left = (seen_of (kn w) p).left; right = (seen_of (kn w) p).right; birth = Some b }) x)
        ∙ go (eqb x p) refl g
      where
        go : (c : Bool) → eqb x p ≡ c → (g : Side) → read_on
            (cond c (record { left = (seen_of (kn w) p).left; right = (seen_of (kn w) p).right; birth = Some b })
            (seen_of (kn w) x)) g ≡ read (kn w) x g
        go true i Left = ap (λ (y : ℕ). (seen_of (kn w) y).left) (sym (eqb-true x p i))
        go true i Right = ap (λ (y : ℕ). (seen_of (kn w) y).right) (sym (eqb-true x p i))
        go false i g = refl

-- ---- the pin or the labels of one worker change

pub record Retimes (k l : Knowledge) : Type 0 where
  pub queue : (o i : ℕ) → queued_at (held_queue l o) i ≡ queued_at (held_queue k o) i
  pub private : (x : ℕ) → is_private l x ≡ is_private k x
  pub knows : (x : ℕ) → knows l x ≡ knows k x
  pub read : (x : ℕ) (d : Side) → read l x d ≡ read k x d
  pub drafted : (x : ℕ) (d : Side) → drafted_on (draft_of l x) d ≡ drafted_on (draft_of k x) d

pub retimed_view : (N : ℕ) (m : Memory) (kn : ℕ → Knowledge) (h : ℕ → ℕ) (w : ℕ) (k : Knowledge) → Retimes (kn w) k
    → TreeLaw N (view m kn h)
    → ((u x o i : ℕ) → InReach (view m kn h) u x → (view m kn h).queue o i ≡ Some x
    → is_late (with_worker kn w k u).brief.pin (slice_get (held_queue (with_worker kn w k (h o)) o) i) ≡ false)
    → TreeLaw N (view m (with_worker kn w k) h)
retimed_view N m kn h w k same law young = law_of N
    (timed (view m kn h) (λ u o i. is_late (with_worker kn w k u).brief.pin
    (slice_get (held_queue (with_worker kn w k (h o)) o) i))) (view m (with_worker kn w k) h)
    (time_keeps N (view m kn h) (λ u o i. is_late (with_worker kn w k u).brief.pin
    (slice_get (held_queue (with_worker kn w k (h o)) o) i)) law young) (record {
      edges = λ x d. refl;
      pool = λ x. refl;
      private = λ u x. same_row (λ y. is_private y x) kn w k (same.private x) u;
      queue = λ o i. same_row (λ y. queued_at (held_queue y o) i) kn w k (same.queue o i) (h o);
      knows = λ u x. same_row (λ y. knows y x) kn w k (same.knows x) u;
      read = λ u x d. same_row (λ y. read y x d) kn w k (same.read x d) u;
      drafted = λ u x d. same_row (λ y. drafted_on (draft_of y x) d) kn w k (same.drafted x d) u;
      late = λ u o i. refl;
    })

pub twice : (kn : ℕ → Knowledge) (w : ℕ) (a b : Knowledge) → with_worker (with_worker kn w a) w b ≡ with_worker kn w b
twice kn w a b = fun_ext (λ u. go u (eqb u w))
  where
    go : (u : ℕ) (t : Bool) → cond t b (cond t a (kn u)) ≡ cond t b (kn u)
    go u true = refl
    go u false = refl

pub own_row : (kn : ℕ → Knowledge) (w : ℕ) (k : Knowledge) → with_worker kn w k w ≡ k
own_row kn w k = cond-true (eqb w w) k (kn w) (eq-eqb w w refl)
