-- The laws of the tree are kept by claims, gives, looks, fills, flags and tags.
use Rattle.std.proofs.Common.{◌≡◌, ℕ, suc, ◌+◌, ◌==◌, ◌<◌, ◌≤◌, ◌⊎◌, inl, inr, eqb, Bool, true, false, cond, not, ◌&&◌, List, [], ◌∷◌, length, set, refl, sym, ap, ◌∙◌, arith, true≢false, get_or-set_same, get_or-set_other}
use Rattle.std.specs.Prelude.{Option, Some, None, slice_get, unwrap_or, is_some, drop}
use native.Mathlib.Decide.{ℕ_discrete}
use Rattle.std.proofs.lemmas.Bool.{and_left, and_right, cond_both, cond-true, cond-false, eqb-true, eq-eqb, ne_eqb, and_parts, or_cases, and_from, false_from_ne_true, not-true}
use Rattle.nm_edge.specs.Edges.{Edge, to, other, is_to, tagged}
use Rattle.nm_edge.specs.declared.edge.Side.{Side}
use Rattle.nm_edge.specs.declared.edge.Side.TheVariants.{Left, Right}
use Rattle.nm_edge.specs.declared.node.NodeId.{NodeId}
use Rattle.nm_model.specs.declared.event.Field.{Field}
use Rattle.nm_model.specs.declared.event.Field.TheVariants.{Key, Edge as EdgeOn, Birth}
use Rattle.nm_model.specs.declared.event.Event.TheVariants.{Claim, Look, Fill, Flag, Tag}
use Rattle.nm_model.specs.declared.reply.Reply.TheVariants.{Claimed, Taken, Filled, Flagged, Was, Lost}
use Rattle.nm_model.specs.declared.memory.Node.{Node}
use Rattle.nm_model.specs.declared.knowledge.Draft.{Draft}
use Rattle.nm_model.specs.declared.ledger.Queued.{Queued}
use Rattle.nm_model.specs.Maps.{get, put, without, has}
use Rattle.nm_model.specs.Memory.{Memory, blank, node, edge, edge_of, in_pool, put_node, put_edge, named}
use Rattle.nm_model.specs.Ledgers.{queue_of, free}
use Rattle.nm_model.specs.Knowledge.{Knowledge, unfilled, knows, is_private, draft_of, read, is_null, is_flagged, is_tagged, slot_read, knows_leaf}
use Rattle.nm_model.specs.Learning.{learn, look_private, look_known, filled_in, read_edge, flag_to}
use Rattle.nm_model.specs.Step.{reply_look, exchanged, filled as filled_node}
use Rattle.nm_model.proofs.Tables.{get-put, get-without, Ascends}
use Rattle.nm_laws.proofs.Held.{Front}
use Rattle.nm_laws.proofs.Learned.{learn_claimed, learn_taken, learn_look, learn_filled, learn_flagged, learn_flag_lost, learn_was}
use Rattle.nm_laws.proofs.Trees.{same_side, each_side}
use Rattle.nm_laws.proofs.Pictures.{InReach, IsLive, TreeLaw, nowhere_else}
use Rattle.nm_laws.proofs.Pictures.SeekRecord.{InPool, PrivateTo}
use Rattle.nm_laws.proofs.Slots.{at_one, at_one-same, at_one-other, hand, hand-others, claimed, claim_keeps, returned, return_keeps, with_edges, with_edge-same, filled, fill_keeps}
use Rattle.nm_laws.proofs.Readings.{IsMarking, mark_keeps}
use Rattle.nm_laws.proofs.Splices.{onward_slot}
use Rattle.nm_laws.proofs.Frees.{freed, free_keeps}
use Rattle.nm_laws.proofs.Views.{view, SamePicture, law_of, with_worker, row, same_row, late_rows, queue_rows, Like, like_itself, quiet_view, edges_view, edge_put, read_edge_view, read_birth_view, held_queue, queued_at, is_late, drafted_on}

-- ---- claim

abbrev pub put_pool : Memory → ℕ → Bool → Memory
put_pool m s b = record m { pool = set m.pool s b }

pool_put : (m : Memory) (s : ℕ) (b : Bool) → s < length m.pool → (x : ℕ)
    → in_pool (put_pool m s b) x ≡ at_one (in_pool m) s b x
pool_put m s b inside x = elim (ℕ_discrete x s) [
  | yes e ↦ rw e (get_or-set_same m.pool s b false inside ∙ sym (at_one-same (in_pool m) s b))
  | no ne ↦ get_or-set_other m.pool s x b false ne ∙ sym (at_one-other (in_pool m) s x b ne)
]

drafted_none : (k : Knowledge) (s : ℕ) (d : Side) → is_private k s ≡ false → drafted_on (draft_of k s) d ≡ None
drafted_none k s d h = go (get k.drafts s) d h
  where
    go : (o : Option Draft) (d : Side) → is_some o ≡ false → drafted_on (unwrap_or o unfilled) d ≡ None
    go None Left h = refl
    go None Right h = refl
    go (Some x) d h = absurd (true≢false h)

-- where a draft of a worker is put or dropped, the slot is in its hands or is not
drafted_hand : (kn : ℕ → Knowledge) (w s : ℕ) (o : Option Draft) (u x : ℕ) → u ≡ w
    → is_some (cond (eqb x s) o (get (kn w).drafts x)) ≡ hand (λ v. is_private (kn v)) w s (is_some o) u x
drafted_hand kn w s o u x e = go (eqb x s)
  where
    go : (b : Bool) → is_some (cond b o (get (kn w).drafts x)) ≡ cond (eqb u w && b) (is_some o) (is_private (kn u) x)
    go true = sym (cond-true (eqb u w && true) (is_some o) (is_private (kn u) x)
        (and_from (eqb u w) true (eq-eqb u w e) refl))
    go false = ap (λ (v : ℕ). is_private (kn v) x) (sym e)
        ∙ sym (cond-false (eqb u w && false) (is_some o) (is_private (kn u) x) (and_right (eqb u w) false refl))

claim_won : (N : ℕ) (m : Memory) (kn : ℕ → Knowledge) (h : ℕ → ℕ) (w s : ℕ) → s < length m.pool → in_pool m s ≡ true
    → TreeLaw N (view m kn h) → TreeLaw N (view (put_pool m s false)
    (with_worker kn w (record (kn w) { drafts = put (kn w).drafts s unfilled })) h)
claim_won N m kn h w s inside free law = law_of N (claimed (view m kn h) w s) _
    (claim_keeps N (view m kn h) w s law free) (record {
      edges = λ x d. refl;
      pool = λ x. sym (pool_put m s false inside x);
      private = λ u x. sym (row (λ y. is_private y x) kn w k u (hand (λ v. is_private (kn v)) w s true u x)
          (λ e. ap is_some (get-put (kn w).drafts s unfilled x) ∙ drafted_hand kn w s (Some unfilled) u x e)
          (λ ne. sym (hand-others (λ v. is_private (kn v)) w s true u x ne)));
      queue = queue_rows kn h w k (λ o. refl);
      knows = λ u x. same_row (λ y. knows y x) kn w k refl u;
      read = λ u x d. same_row (λ y. read y x d) kn w k refl u;
      drafted = λ u x d. same_row (λ y. drafted_on (draft_of y x) d) kn w k (mine x d) u;
      late = late_rows kn h w k refl (λ o. refl);
    })
  where
    k : Knowledge
    k = record (kn w) { drafts = put (kn w).drafts s unfilled }

    not_mine : is_private (kn w) s ≡ false
    not_mine = false_from_ne_true _ (λ i.
        let r = law.pools s free in
        let clash : InPool ≡ PrivateTo w = nowhere_else (view m kn h) s InPool (PrivateTo w)
        (law.places s (λ z. omega arith) r.1) free i in cc)

    mine : (x : ℕ) (d : Side) → drafted_on (draft_of k x) d ≡ drafted_on (draft_of (kn w) x) d
    mine x d = ap (λ o. drafted_on (unwrap_or o unfilled) d) (get-put (kn w).drafts s unfilled x) ∙ go (eqb x s) refl
      where
        go : (b : Bool) → eqb x s ≡ b → drafted_on (unwrap_or (cond b (Some unfilled) (get (kn w).drafts x))
            unfilled) d ≡ drafted_on (draft_of (kn w) x) d
        go true i = each_side (λ e. drafted_on unfilled e ≡ None) refl refl d
            ∙ sym (ap (λ (v : ℕ). drafted_on (draft_of (kn w) v) d) (eqb-true x s i) ∙ drafted_none (kn w) s d not_mine)
        go false i = refl

pool_same : (m : Memory) (s : ℕ) → s < length m.pool → in_pool m s ≡ false → (x : ℕ)
    → in_pool (put_pool m s false) x ≡ in_pool m x
pool_same m s inside taken x = pool_put m s false inside x
    ∙ cond_both (eqb x s) false (in_pool m x) (λ b. b ≡ in_pool m x)
    (λ e. sym (ap (in_pool m) (eqb-true x s e) ∙ taken)) (λ _. refl)

same_edges_view : (m n : Memory) (kn : ℕ → Knowledge) (h : ℕ → ℕ) → ((x : ℕ) (d : Side) → edge n x d ≡ edge m x d)
    → ((x : ℕ) → in_pool n x ≡ in_pool m x) → SamePicture (view m kn h) (view n kn h)
same_edges_view m n kn h edges pool = record {
  edges = λ x d. sym (edges x d);
  pool = λ x. sym (pool x);
  private =
      λ u x. refl;
  queue = λ u i. refl;
  knows = λ u x. refl;
  read = λ u x g. refl;
  drafted = λ u x g. refl;
  late = λ u
      v i. refl;
}

pub claim_view : (N : ℕ) (m : Memory) (kn : ℕ → Knowledge) (h : ℕ → ℕ) (w s : ℕ) → s < length m.pool
    → TreeLaw N (view m kn h) → TreeLaw N (view (put_pool m s false)
    (with_worker kn w (learn w (kn w) (Claim s) (cond (in_pool m s) (Claimed s) Taken))) h)
claim_view N m kn h w s inside law = go (in_pool m s) refl
  where
    go : (b : Bool) → in_pool m s ≡ b → TreeLaw N (view (put_pool m s false)
        (with_worker kn w (learn w (kn w) (Claim s) (cond b (Claimed s) Taken))) h)
    go true i = rw (learn_claimed w (kn w) s s) (claim_won N m kn h w s inside i law)
    go false i = rw (learn_taken w (kn w) s) (quiet_view N (put_pool m s false) kn h w (kn w) (like_itself (kn w))
        (law_of N (view m kn h) (view (put_pool m s false) kn h) law
        (same_edges_view m (put_pool m s false) kn h (λ x d. refl) (pool_same m s inside i))))

-- ---- give

pub return_view : (N : ℕ) (m : Memory) (kn : ℕ → Knowledge) (h : ℕ → ℕ) (w s : ℕ) → s < length m.pool
    → is_private (kn w) s ≡ true → Ascends (kn w).drafts → TreeLaw N (view m kn h)
    → TreeLaw N (view (put_pool m s true) (with_worker kn w (record (kn w) { drafts = without (kn w).drafts s })) h)
return_view N m kn h w s inside own keys law = law_of N (returned (view m kn h) w s) _
    (return_keeps N (view m kn h) w s law own) (record {
      edges = λ x d. refl;
      pool = λ x. sym (pool_put m s true inside x);
      private = λ u x. sym (row (λ y. is_private y x) kn w k u (hand (λ v. is_private (kn v)) w s false u x)
          (λ e. ap is_some (get-without (kn w).drafts s x keys) ∙ drafted_hand kn w s None u x e)
          (λ ne. sym (hand-others (λ v. is_private (kn v)) w s false u x ne)));
      queue = queue_rows kn h w k (λ o. refl);
      knows = λ u x. same_row (λ y. knows y x) kn w k refl u;
      read = λ u x d. same_row (λ y. read y x d) kn w k refl u;
      drafted = λ u x d. sym (row (λ y. drafted_on (draft_of y x) d) kn w k u
          (cond (eqb u w && eqb x s) None (drafted_on (draft_of (kn u) x) d))
          (λ e. ap (λ o. drafted_on (unwrap_or o unfilled) d) (get-without (kn w).drafts s x keys) ∙ mine u x d e)
          (λ ne. sym (cond-false (eqb u w && eqb x s) None _ (and_left (eqb u w) (eqb x s) (ne_eqb u w ne)))));
      late = late_rows kn h w k refl (λ o. refl);
    })
  where
    k : Knowledge
    k = record (kn w) { drafts = without (kn w).drafts s }

    mine : (u x : ℕ) (d : Side) → u ≡ w → drafted_on (unwrap_or (cond (eqb x s) None (get (kn w).drafts x)) unfilled)
        d ≡ cond (eqb u w && eqb x s) None (drafted_on (draft_of (kn u) x) d)
    mine u x d e = go (eqb x s) d
      where
        go : (b : Bool) (d : Side) → drafted_on (unwrap_or (cond b None (get (kn w).drafts x)) unfilled) d
            ≡ cond (eqb u w && b) None (drafted_on (draft_of (kn u) x) d)
        go true Left = sym (cond-true (eqb u w && true) None _ (and_from (eqb u w) true (eq-eqb u w e) refl))
        go true Right = sym (cond-true (eqb u w && true) None _ (and_from (eqb u w) true (eq-eqb u w e) refl))
        go false d = ap (λ (v : ℕ). drafted_on (draft_of (kn v) x) d) (sym e)
            ∙ sym (cond-false (eqb u w && false) None _ (and_right (eqb u w) false refl))

-- the node at the front of an origin's queue, which the worker holds, is freed
pub free_view : (N : ℕ) (m : Memory) (kn : ℕ → Knowledge) (h : ℕ → ℕ) (w s : ℕ) (e : Queued) (n : NodeId)
    → s < length m.pool → (f : Front (kn w).ledgers s e n) → h f.origin ≡ w
    → ((u : ℕ) → InReach (view m kn h) u s → ⊥) → TreeLaw N (view m kn h)
    → TreeLaw N (view (put_pool m s true) (with_worker kn w (record (kn w) { ledgers = free (kn w).ledgers n })) h)
free_view N m kn h w s e n inside f holder unseen law = law_of N (freed (view m kn h) f.origin s) _
    (free_keeps N (view m kn h) f.origin s law at_front unseen) (record {
      edges = λ x d. refl;
      pool = λ x. sym (pool_put m s true inside x);
      private = λ u x. same_row (λ y. is_private y x) kn w k refl u;
      queue = λ o i. sym (ap (λ q. queued_at q i) (queue_now o) ∙ by_origin o i queued_at (λ x q. refl));
      knows = λ u x. same_row (λ y. knows y x) kn w k refl u;
      read = λ u x d. same_row (λ y. read y x d) kn w k refl u;
      drafted = λ u x d. same_row (λ y. drafted_on (draft_of y x) d) kn w k refl u;
      late = λ u o i. sym (ap (λ p. is_late p (slice_get (held_queue (with_worker kn w k (h o)) o) i))
          (sym (same_row (λ y. y.brief.pin) kn w k refl u))
          ∙ (ap (λ q. is_late (kn u).brief.pin (slice_get q i)) (queue_now o)
          ∙ by_origin o i (λ q j. is_late (kn u).brief.pin (slice_get q j)) (λ x q. refl)));
    })
  where
    k : Knowledge
    k = record (kn w) { ledgers = free (kn w).ledgers n }

    queue_before : held_queue (kn (h f.origin)) f.origin ≡ e ∷ f.rest
    queue_before = ap (λ (y : ℕ). held_queue (kn y) f.origin) holder ∙ (ap queue_of f.is_held ∙ f.queue)

    at_front : queued_at (held_queue (kn (h f.origin)) f.origin) 0 ≡ Some s
    at_front = ap (λ q. queued_at q 0) queue_before ∙ ap Some f.slot

    -- the queue of an origin now: that one is shorter by its front
    queue_now : (o : ℕ) → held_queue (with_worker kn w k (h o)) o
        ≡ cond (eqb o f.origin) f.rest (held_queue (kn (h o)) o)
    queue_now o = elim (ℕ_discrete o f.origin) [
      | yes is ↦ rw is (row (λ y. held_queue y f.origin) kn w k (h f.origin)
          (cond (eqb f.origin f.origin) f.rest (held_queue (kn (h f.origin)) f.origin))
          (λ _. ap queue_of f.after ∙ (ap (drop 1) f.queue
          ∙ sym (cond-true (eqb f.origin f.origin) f.rest (held_queue (kn (h f.origin)) f.origin)
          (eq-eqb f.origin f.origin refl))))
          (λ ne. absurd (ne holder)))
      | no ne ↦ row (λ y. held_queue y o) kn w k (h o) (cond (eqb o f.origin) f.rest (held_queue (kn (h o)) o))
          (λ own. ap queue_of (f.others o ne) ∙ (ap (λ (y : ℕ). held_queue (kn y) o) (sym own)
          ∙ sym (cond-false (eqb o f.origin) f.rest (held_queue (kn (h o)) o) (ne_eqb o f.origin ne))))
          (λ _. sym (cond-false (eqb o f.origin) f.rest (held_queue (kn (h o)) o) (ne_eqb o f.origin ne)))
    ]

    by_origin : {X : Type 0} (o i : ℕ) (g : List Queued → ℕ → X)
        → ((x : Queued) (q : List Queued) → g q i ≡ g (x ∷ q) (suc i))
        → g (cond (eqb o f.origin) f.rest (held_queue (kn (h o)) o)) i
        ≡ cond (eqb o f.origin) (g (held_queue (kn (h f.origin)) f.origin) (suc i)) (g (held_queue (kn (h o)) o) i)
    by_origin o i g next = go (eqb o f.origin)
      where
        go : (b : Bool) → g (cond b f.rest (held_queue (kn (h o)) o)) i
            ≡ cond b (g (held_queue (kn (h f.origin)) f.origin) (suc i)) (g (held_queue (kn (h o)) o) i)
        go true = next e f.rest ∙ ap (λ q. g q (suc i)) (sym queue_before)
        go false = refl

-- ---- look, fill

pub has_put_own : (k : Knowledge) (s : ℕ) (n : Draft) → is_private k s ≡ true → (x : ℕ)
    → has (put k.drafts s n) x ≡ is_private k x
has_put_own k s n own x = ap is_some (get-put k.drafts s n x) ∙ go (eqb x s) refl
  where
    go : (b : Bool) → eqb x s ≡ b → is_some (cond b (Some n) (get k.drafts x)) ≡ is_private k x
    go true e = sym (ap (is_private k) (eqb-true x s e) ∙ own)
    go false e = refl

-- a draft is changed, and its edges aren't
like_draft : (k : Knowledge) (s : ℕ) (n : Draft) → is_private k s ≡ true
    → ((d : Side) → drafted_on n d ≡ drafted_on (draft_of k s) d) → Like k (record k { drafts = put k.drafts s n })
like_draft k s n own same = record {
  pin = refl;
  queue = λ o. refl;
  private = has_put_own k s n own;
  knows = λ x. refl;
  read = λ x d. refl;
  drafted = λ x d. ap (λ o. drafted_on (unwrap_or o unfilled) d) (get-put k.drafts s n x) ∙ go x d (eqb x s) refl;
}
  where
    go : (x : ℕ) (d : Side) (b : Bool) → eqb x s ≡ b
        → drafted_on (unwrap_or (cond b (Some n) (get k.drafts x)) unfilled) d ≡ drafted_on (draft_of k x) d
    go x d true e = same d ∙ ap (λ (y : ℕ). drafted_on (draft_of k y) d) (sym (eqb-true x s e))
    go x d false e = refl

look_private_view : (N : ℕ) (m : Memory) (kn : ℕ → Knowledge) (h : ℕ → ℕ) (w s : ℕ) (f : Field)
    → is_private (kn w) s ≡ true → TreeLaw N (view m kn h)
    → TreeLaw N (view m (with_worker kn w (look_private (kn w) s f (reply_look (node m s) f))) h)
look_private_view N m kn h w s Key own law = quiet_view N m kn h w (kn w) (like_itself (kn w)) law
look_private_view N m kn h w s (EdgeOn d) own law = quiet_view N m kn h w (kn w) (like_itself (kn w)) law
look_private_view N m kn h w s Birth own law = quiet_view N m kn h w _
    (like_draft (kn w) s _ own (each_side _ refl refl)) law

look_known_view : (N : ℕ) (m : Memory) (kn : ℕ → Knowledge) (h : ℕ → ℕ) (w s : ℕ) (f : Field) → knows (kn w) s ≡ true
    → TreeLaw N (view m kn h) → TreeLaw N (view m (with_worker kn w
    (look_known (kn w) s f (reply_look (node m s) f))) h)
look_known_view N m kn h w s Key known law = quiet_view N m kn h w (kn w) (like_itself (kn w)) law
look_known_view N m kn h w s (EdgeOn d) known law = read_edge_view N m kn h w s d (edge m s d) known refl law
look_known_view N m kn h w s Birth known law = read_birth_view N m kn h w s (node m s).birth known law

pub look_view : (N : ℕ) (m : Memory) (kn : ℕ → Knowledge) (h : ℕ → ℕ) (w s : ℕ) (f : Field)
    → (is_private (kn w) s ≡ false → knows (kn w) s ≡ true) → TreeLaw N (view m kn h)
    → TreeLaw N (view m (with_worker kn w (learn w (kn w) (Look s f) (reply_look (node m s) f))) h)
look_view N m kn h w s f seen law = rw (learn_look w (kn w) s f (reply_look (node m s) f))
    (cond_both (is_private (kn w) s) _ _ (λ k. TreeLaw N (view m (with_worker kn w k) h))
    (λ own. look_private_view N m kn h w s f own law) (λ out. look_known_view N m kn h w s f (seen out) law))

pub node_put_edges : (m : Memory) (s : ℕ) (n : Node) → s < length m.nodes → ((d : Side) → edge_of n d ≡ edge m s d)
    → (x : ℕ) (d : Side) → edge (put_node m s n) x d ≡ edge m x d
node_put_edges m s n inside same x d = elim (ℕ_discrete x s) [
  | yes e ↦ rw e (ap (λ (y : Node). edge_of y d) (get_or-set_same m.nodes s n blank inside) ∙ same d)
  | no ne ↦ ap (λ (y : Node). edge_of y d) (get_or-set_other m.nodes s x n blank ne)
]

-- a fill that leaves the edges of the node and of its draft
fill_beside : (N : ℕ) (m : Memory) (kn : ℕ → Knowledge) (h : ℕ → ℕ) (w s : ℕ) (f : Field) (v : ℕ)
    → s < length m.nodes → is_private (kn w) s ≡ true
    → ((d : Side) → drafted_on (filled_in (draft_of (kn w) s) f v) d ≡ drafted_on (draft_of (kn w) s) d)
    → ((d : Side) → edge_of (filled_node (node m s) f v) d ≡ edge m s d) → TreeLaw N (view m kn h)
    → TreeLaw N (view (put_node m s (filled_node (node m s) f v))
    (with_worker kn w (record (kn w) { drafts = put (kn w).drafts s (filled_in (draft_of (kn w) s) f v) })) h)
fill_beside N m kn h w s f v inside own same kept law = quiet_view N (put_node m s (filled_node (node m s) f v)) kn h
    w _ (like_draft (kn w) s _ own same)
    (law_of N (view m kn h) (view (put_node m s (filled_node (node m s) f v)) kn h) law
    (same_edges_view m (put_node m s (filled_node (node m s) f v)) kn h
    (node_put_edges m s (filled_node (node m s) f v) inside kept) (λ x. refl)))

fill_done : (N : ℕ) (m : Memory) (kn : ℕ → Knowledge) (h : ℕ → ℕ) (w s : ℕ) (f : Field) (v : ℕ) → s < length m.nodes
    → is_private (kn w) s ≡ true → ((d : Side) → f ≡ EdgeOn d → v ≤ N) → TreeLaw N (view m kn h)
    → TreeLaw N (view (put_node m s (filled_node (node m s) f v))
    (with_worker kn w (record (kn w) { drafts = put (kn w).drafts s (filled_in (draft_of (kn w) s) f v) })) h)
fill_done N m kn h w s Key v inside own small law = fill_beside N m kn h w s Key v inside own (each_side _ refl refl)
    (each_side _ refl refl) law
fill_done N m kn h w s Birth v inside own small law = fill_beside N m kn h w s Birth v inside own
    (each_side _ refl refl) (each_side _ refl refl) law
fill_done N m kn h w s (EdgeOn d) v inside own small law = law_of N (filled (view m kn h) w s d v) _
    (fill_keeps N (view m kn h) w s d v law own (small d refl)) (record {
      edges = λ x g. sym (edge_put m s d (to v) inside x g);
      pool = λ x. refl;
      private = λ u x. same_row (λ y. is_private y x) kn w k
          (has_put_own (kn w) s (filled_in (draft_of (kn w) s) (EdgeOn d) v) own x) u;
      queue = queue_rows kn h w k (λ o. refl);
      knows = λ u x. same_row (λ y. knows y x) kn w k refl u;
      read = λ u x g. same_row (λ y. read y x g) kn w k refl u;
      drafted = λ u x g. sym (row (λ y. drafted_on (draft_of y x) g) kn w k u
          (cond ((eqb u w && eqb x s) && same_side d g) (Some v) (drafted_on (draft_of (kn u) x) g))
          (λ e. mine u x g e) (λ ne. sym (cond-false ((eqb u w && eqb x s) && same_side d g) _ _
          (and_left (eqb u w && eqb x s) (same_side d g) (and_left (eqb u w) (eqb x s) (ne_eqb u w ne))))));
      late = late_rows kn h w k refl (λ o. refl);
    })
  where
    k : Knowledge
    k = record (kn w) { drafts = put (kn w).drafts s (filled_in (draft_of (kn w) s) (EdgeOn d) v) }

    filled_side : (n : Draft) (d g : Side) → drafted_on (filled_in n (EdgeOn d) v) g
        ≡ cond (same_side d g) (Some v) (drafted_on n g)
    filled_side n Left Left = refl
    filled_side n Left Right = refl
    filled_side n Right Left = refl
    filled_side n Right Right = refl

    mine : (u x : ℕ) (g : Side) → u ≡ w → drafted_on (draft_of k x) g
        ≡ cond ((eqb u w && eqb x s) && same_side d g) (Some v) (drafted_on (draft_of (kn u) x) g)
    mine u x g e = ap (λ o. drafted_on (unwrap_or o unfilled) g)
        (get-put (kn w).drafts s (filled_in (draft_of (kn w) s) (EdgeOn d) v) x)
        ∙ (go (eqb x s) refl ∙ ap (λ (b : Bool). cond ((b && eqb x s) && same_side d g) (Some v)
        (drafted_on (draft_of (kn u) x) g)) (sym (eq-eqb u w e)))
      where
        go : (b : Bool) → eqb x s ≡ b → drafted_on (unwrap_or
            (cond b (Some (filled_in (draft_of (kn w) s) (EdgeOn d) v)) (get (kn w).drafts x)) unfilled) g
            ≡ cond (b && same_side d g) (Some v) (drafted_on (draft_of (kn u) x) g)
        go true i = filled_side (draft_of (kn w) s) d g
            ∙ ap (λ o. cond (same_side d g) (Some v) o) (ap (λ (y : ℕ). drafted_on (draft_of (kn w) y) g)
            (sym (eqb-true x s i)) ∙ ap (λ (y : ℕ). drafted_on (draft_of (kn y) x) g) (sym e))
        go false i = ap (λ (y : ℕ). drafted_on (draft_of (kn y) x) g) (sym e)

pub fill_view : (N : ℕ) (m : Memory) (kn : ℕ → Knowledge) (h : ℕ → ℕ) (w s : ℕ) (f : Field) (v : ℕ)
    → s < length m.nodes → is_private (kn w) s ≡ true → ((d : Side) → f ≡ EdgeOn d → v ≤ N) → TreeLaw N (view m kn h)
    → TreeLaw N (view (put_node m s (filled_node (node m s) f v))
    (with_worker kn w (learn w (kn w) (Fill s f v) Filled)) h)
fill_view N m kn h w s f v inside own small law = rw (learn_filled w (kn w) s f v)
    (fill_done N m kn h w s f v inside own small law)

-- ---- flag, tag

pub is_to-true : (e : Edge) (s : ℕ) → is_to e s ≡ true → e ≡ to s
is_to-true e s h =
    let parts = and_parts (eqb e.slot s) (not e.flag && not e.tag) h in
    let marks = and_parts (not e.flag) (not e.tag) parts.1 in
    let slot = eqb-true e.slot s parts.0 in
    let flag = not-true e.flag marks.0 in
    let tag = not-true e.tag marks.1 in
    λ i. record { slot = slot i; flag = flag i; tag = tag i }

pub flag_known : (N : ℕ) (m : Memory) (kn : ℕ → Knowledge) (h : ℕ → ℕ) (w x : ℕ) (d : Side) → TreeLaw N (view m kn h)
    → is_flagged (read (kn w) x d) ≡ true → ((edge m x d).flag ≡ true)
    × (slot_read (read (kn w) x d) ≡ (edge m x d).slot)
flag_known N m kn h w x d law f = go (read (kn w) x d) refl f
  where
    go : (o : Option Edge) → read (kn w) x d ≡ o → is_flagged o ≡ true
        → ((edge m x d).flag ≡ true) × (slot_read o ≡ (edge m x d).slot)
    go None is f = absurd (true≢false (sym f))
    go (Some e) is f = let k = law.flag_read w x d e is f in (k.0, sym k.1)

pub tag_known : (N : ℕ) (m : Memory) (kn : ℕ → Knowledge) (h : ℕ → ℕ) (w x : ℕ) (d : Side) → TreeLaw N (view m kn h)
    → is_tagged (read (kn w) x d) ≡ true → read (kn w) x d ≡ Some (edge m x d)
tag_known N m kn h w x d law t = go (read (kn w) x d) refl t
  where
    go : (o : Option Edge) → read (kn w) x d ≡ o → is_tagged o ≡ true → o ≡ Some (edge m x d)
    go None is t = absurd (true≢false (sym t))
    go (Some e) is t = ap Some (sym (law.tag_read w x d e is t))

pub leaf_known : (N : ℕ) (m : Memory) (kn : ℕ → Knowledge) (h : ℕ → ℕ) (w x : ℕ) → TreeLaw N (view m kn h)
    → IsLive (view m kn h) x → knows_leaf (kn w) x ≡ true → (f : Side) → (edge m x f).slot ≡ 0
leaf_known N m kn h w x law live leafy = go (or_cases (is_null (read (kn w) x Left)) (is_null (read (kn w) x Right))
    leafy)
  where
    null : (d : Side) (o : Option Edge) → read (kn w) x d ≡ o → is_null o ≡ true → (edge m x d).slot ≡ 0
    null d None is i = absurd (true≢false (sym i))
    null d (Some e) is i = law.null_read w x d e is (eqb-true e.slot 0 i)

    go : (is_null (read (kn w) x Left) ≡ true) ⊎ (is_null (read (kn w) x Right) ≡ true) → (f : Side)
        → (edge m x f).slot ≡ 0
    go (inl i) Left = null Left (read (kn w) x Left) refl i
    go (inl i) Right = law.twins x Left live (null Left (read (kn w) x Left) refl i)
    go (inr i) Left = law.twins x Right live (null Right (read (kn w) x Right) refl i)
    go (inr i) Right = null Right (read (kn w) x Right) refl i

pub known_live : (N : ℕ) (m : Memory) (kn : ℕ → Knowledge) (h : ℕ → ℕ) (w x : ℕ) → TreeLaw N (view m kn h)
    → knows (kn w) x ≡ true → IsLive (view m kn h) x
known_live N m kn h w x law k = let r = law.known w x k in
    law.guarded w x (record { from = x; known = k; path = []; ends = refl; is_slot = λ z. omega arith })

-- an edge is marked, and the worker knows it so
mark_view : (N : ℕ) (m : Memory) (kn : ℕ → Knowledge) (h : ℕ → ℕ) (w p : ℕ) (d : Side) (e : Edge)
    → p < length m.nodes → knows (kn w) p ≡ true → TreeLaw N (view m kn h) → IsMarking (view m kn h) p d e
    → TreeLaw N (view (put_edge m p d e) (with_worker kn w (read_edge (kn w) p d e)) h)
mark_view N m kn h w p d e inside known law mark = read_edge_view N (put_edge m p d e) kn h w p d e known
    (edge_put m p d e inside p d ∙ with_edge-same (edge m) p d e)
    (law_of N (with_edges (view m kn h) p d e) _ (mark_keeps N (view m kn h) p d e law mark)
    (edges_view m kn h p d e inside))

-- an exchange that is lost reads the edge
pub lost_view : (N : ℕ) (m : Memory) (kn : ℕ → Knowledge) (h : ℕ → ℕ) (w p : ℕ) (d : Side) → knows (kn w) p ≡ true
    → TreeLaw N (view m kn h) → TreeLaw N (view m (with_worker kn w (read_edge (kn w) p d (edge m p d))) h)
lost_view N m kn h w p d known law = read_edge_view N m kn h w p d (edge m p d) known refl law

pub flag_view : (N : ℕ) (m : Memory) (kn : ℕ → Knowledge) (h : ℕ → ℕ) (w p : ℕ) (d : Side) (leaf : ℕ)
    → length m.nodes ≡ N + 1 → 6 ≤ leaf → knows (kn w) p ≡ true → knows (kn w) leaf ≡ true
    → knows_leaf (kn w) leaf ≡ true → TreeLaw N (view m kn h)
    → TreeLaw N (view (exchanged m p d leaf (flag_to leaf))
    (with_worker kn w (learn w (kn w) (Flag p d leaf)
    (cond (is_to (edge m p d) leaf) (Flagged (named m leaf)) (Lost (edge m p d))))) h)
flag_view N m kn h w p d leaf size high known seen leafy law = go (is_to (edge m p d) leaf) refl
  where
    inside : p < length m.nodes
    inside = let r = law.known w p known in omega arith

    go : (b : Bool) → is_to (edge m p d) leaf ≡ b → TreeLaw N
        (view (cond b (put_edge m p d (flag_to leaf)) m)
        (with_worker kn w (learn w (kn w) (Flag p d leaf) (cond b (Flagged (named m leaf)) (Lost (edge m p d))))) h)
    go false i = rw (learn_flag_lost w (kn w) p d leaf (edge m p d)) (lost_view N m kn h w p d known law)
    go true i =
        let is = is_to-true (edge m p d) leaf i in
        let slot : (edge m p d).slot ≡ leaf = ap (λ (y : Edge). y.slot) is in
        rw (learn_flagged w (kn w) p d leaf (named m leaf))
        (mark_view N m kn h w p d (flag_to leaf) inside known law (record {
          live = known_live N m kn h w p law known;
          some = λ z. let r = law.known w p known in absurd (omega arith);
          slot = sym slot;
          flag_stays = λ _. refl;
          tag_stays = λ t. absurd (true≢false (sym t ∙ ap (λ (y : Edge). y.tag) is));
          flag_high = λ _. rw slot high;
          flag_leaf = λ _ f. ap (λ (y : ℕ). (edge m y f).slot) slot
              ∙ leaf_known N m kn h w leaf law (known_live N m kn h w leaf law seen) leafy f;
          tag_twin = λ t. absurd (true≢false (sym t));
        }))

pub tag_view : (N : ℕ) (m : Memory) (kn : ℕ → Knowledge) (h : ℕ → ℕ) (w p : ℕ) (d : Side) → length m.nodes ≡ N + 1
    → knows (kn w) p ≡ true → is_flagged (read (kn w) p (other d)) ≡ true → TreeLaw N (view m kn h)
    → TreeLaw N (view (put_edge m p d (tagged (edge m p d)))
    (with_worker kn w (learn w (kn w) (Tag p d) (Was (edge m p d)))) h)
tag_view N m kn h w p d size known twin law = rw (learn_was w (kn w) p d (edge m p d))
    (mark_view N m kn h w p d (tagged (edge m p d)) (let r = law.known w p known in omega arith) known law (record {
      live = live;
      some = λ z. let r = law.known w p known in absurd (omega arith);
      slot = refl;
      flag_stays = λ f. f;
      tag_stays = λ t. λ i. record { slot = (edge m p d).slot; flag = (edge m p d).flag; tag = (marked ∙ sym t) i };
      flag_high = λ f. law.flags p d live f;
      flag_leaf = λ f. law.leaf_known w p d reach f;
      tag_twin = λ _. flagged;
    }))
  where
    live : IsLive (view m kn h) p
    live = known_live N m kn h w p law known

    reach : InReach (view m kn h) w p
    reach = record {
      from = p;
      known = known;
      path = [];
      ends = refl;
      is_slot = λ z. let r = law.known w p known in
          omega arith;
    }

    flagged : (edge m p (other d)).flag ≡ true
    flagged = (flag_known N m kn h w p (other d) law twin).0

    -- the twin of a flagged edge is not null, so it is marked
    marked : not ((edge m p d).slot == 0) ≡ true
    marked = ap not (ne_eqb (edge m p d).slot 0 (onward_slot N (view m kn h) law p d live flagged))
