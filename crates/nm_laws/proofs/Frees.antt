-- The laws of the tree are kept where the front of a queue returns to the pool.
use Rattle.std.proofs.Common.{◌≡◌, ℕ, zero, suc, ◌≢◌, ◌≤◌, ◌⊎◌, inl, inr, eqb, Bool, true, false, cond, refl, sym, ap, ◌∙◌, arith, true≢false}
use Rattle.std.specs.Prelude.{Some}
use native.Mathlib.Decide.{ℕ_discrete}
use Rattle.std.proofs.lemmas.Bool.{cond-true, cond-false, eqb-true, eq-eqb, ne_eqb}
use Rattle.std.proofs.lemmas.Option.{same_Some}
use Rattle.nm_laws.proofs.Pictures.{SeekRecord}
use Rattle.nm_laws.proofs.Pictures.SeekRecord.{InPool, PrivateTo, OnPath, InQueue}
use Rattle.nm_laws.proofs.Pictures.{Picture, Stands, Once, IsLive, InReach, TreeLaw, new_place, nowhere_else}
use Rattle.nm_laws.proofs.Slots.{at_one, at_one-same, at_one-other}

abbrev pub freed : Picture → ℕ → ℕ → Picture
freed P w s = record {
  edges = P.edges;
  pool = at_one P.pool s true;
  private = P.private;
  queue = λ u i. cond (eqb u w) (P.queue w (suc i)) (P.queue u i);
  knows = P.knows;
  read = P.read;
  drafted = P.drafted;
  late = λ u v i. cond (eqb v w) (P.late u w (suc i)) (P.late u v i);
}

pub free_keeps : (N : ℕ) (P : Picture) (w s : ℕ) → TreeLaw N P → P.queue w 0 ≡ Some s → ((u : ℕ) → InReach P u s → ⊥)
    → TreeLaw N (freed P w s)
free_keeps N P w s law front unseen = record {
  room = law.room;
  nothing = law.nothing;
  within = law.within;
  pools = λ x h. elim (ℕ_discrete x s) [
    | yes e ↦ rw e (law.queues w 0 s front)
    | no ne ↦ law.pools x
        (sym (at_one-other P.pool s x true ne) ∙ h)
  ];
  privates = law.privates;
  queues = λ u i x h. let b = entry u i x h in law.queues u b.0 x b.1;
  known = law.known;
  root_left = law.root_left;
  second = law.second;
  sentinels = law.sentinels;
  places = places;
  twins = λ x d h. law.twins x d (live_back x h);
  flags = λ x d h. law.flags x d (live_back x h);
  frozen = λ x d h. law.frozen x d (live_back x h);
  queued = λ u i x d h. let b = entry u i x h in law.queued u b.0 x d b.1;
  leaf_reached = law.leaf_reached;
  leaf_known = λ u x d h. law.leaf_known u x d (reach_back u x h);
  guarded = λ u x h. let r = reach_back u x h in let l = law.guarded u x r in
      record { pooled = at_one-other P.pool s x true (λ e. unseen u (rw e at r)) ∙ l.pooled; shared = l.shared };
  unlate = λ u x v i r h. young u x v i (reach_back u x r) h;
  reads = law.reads;
  flag_read = law.flag_read;
  tag_read = law.tag_read;
  null_read = law.null_read;
  drafts = law.drafts;
}
  where
    reach_back : (u x : ℕ) → InReach (freed P w s) u x → InReach P u x
    reach_back u x r = record { from = r.from; known = r.known; path = r.path; ends = r.ends; is_slot = r.is_slot }

    live_back : (x : ℕ) → IsLive (freed P w s) x → IsLive P x
    live_back x h = record {
      pooled = sym (at_one-other P.pool s x true
          (λ e. true≢false (sym (at_one-same P.pool s true) ∙ rw e at h.pooled))) ∙ h.pooled;
      shared = h.shared;
    }

    young : (u x v i : ℕ) → InReach P u x → (freed P w s).queue v i ≡ Some x → (freed P w s).late u v i ≡ false
    young u x v i r h = go (eqb v w) h
      where
        go : (b : Bool) → cond b (P.queue w (suc i)) (P.queue v i) ≡ Some x
            → cond b (P.late u w (suc i)) (P.late u v i) ≡ false
        go true h = law.unlate u x w (suc i) r h
        go false h = law.unlate u x v i r h

    -- an entry now is one from before, in the own queue one further on
    entry : (u i x : ℕ) → (freed P w s).queue u i ≡ Some x → (j : ℕ) × (P.queue u j ≡ Some x)
    entry u i x h = go (eqb u w) refl h
      where
        go : (b : Bool) → eqb u w ≡ b → cond b (P.queue w (suc i)) (P.queue u i) ≡ Some x
            → (j : ℕ) × (P.queue u j ≡ Some x)
        go true e h = (suc i, rw (eqb-true u w e) h)
        go false e h = (i, h)

    own_entry : (i x : ℕ) → (freed P w s).queue w i ≡ Some x → P.queue w (suc i) ≡ Some x
    own_entry i x h = sym (cond-true (eqb w w) (P.queue w (suc i)) (P.queue w i) (eq-eqb w w refl)) ∙ h

    others_entry : (u i : ℕ) → u ≢ w → (freed P w s).queue u i ≡ P.queue u i
    others_entry u i ne = cond-false (eqb u w) (P.queue w (suc i)) (P.queue u i) (ne_eqb u w ne)

    queue_before : (u i x : ℕ) → (freed P w s).queue u i ≡ Some x
        → (j : ℕ) × (P.queue u j ≡ Some x) × ((u ≡ w → j ≡ suc i) × (u ≢ w → j ≡ i))
    queue_before u i x h = elim (ℕ_discrete u w) [
      | yes e ↦ (suc i, rw e (own_entry i x (rw e at h)), (λ _. refl, λ ne. absurd (ne e)))
      | no ne ↦ (i, sym (others_entry u i ne) ∙ h, (λ e. absurd (ne e), λ _. refl))
    ]

    in_queue : (u i v j : ℕ) → InQueue u i ≡ InQueue v j → (u ≡ v) × (i ≡ j)
    in_queue u i v j e = (cc, cc)

    index_of : (i j : ℕ) → suc i ≡ suc j → i ≡ j
    index_of i j h = omega arith

    each : (q : SeekRecord) → Stands (freed P w s) s q → (q ≡ InPool) ⊎ (Stands P s q × (q ≢ InQueue w 0))
    each InPool h = inl refl
    each (PrivateTo u) h = inr (h, λ e. cc)
    each (OnPath p) h = inr (h, λ e. cc)
    each (InQueue u i) h =
        let b = queue_before u i s h in
        let same = in_queue u b.0 w 0 (nowhere_else P s (InQueue u b.0) (InQueue w 0)
        (law.places s (high 0 s front) (law.queues w 0 s front).1) b.1 front) in
        let one = b.2.0 same.0 in
        let zero' = same.1 in absurd (omega arith)
      where
        high : (i x : ℕ) → P.queue w i ≡ Some x → x ≢ 0
        high i x h z = let r = law.queues w i x h in omega arith

    some_s : s ≢ 0
    some_s z = let r = law.queues w 0 s front in omega arith

    place_other : (x : ℕ) → x ≢ 0 → x ≤ N → x ≢ s → Once (freed P w s) x
    place_other x some inside ne = go (law.places x some inside).place (law.places x some inside).here
        (law.places x some inside).only
      where
        stay : (place : SeekRecord) → Stands (freed P w s) x place → ((q : SeekRecord) → Stands P x q → (q ≡ place))
            → ((u i : ℕ) → place ≡ InQueue u i → ⊥) → Once (freed P w s) x
        stay place here only apart = record { place = place; here = here; only = only' }
          where
            only' : (q : SeekRecord) → Stands (freed P w s) x q → q ≡ place
            only' InPool h = only InPool (sym (at_one-other P.pool s x true ne) ∙ h)
            only' (PrivateTo u) h = only (PrivateTo u) h
            only' (OnPath p) h = only (OnPath p) h
            only' (InQueue u i) h = let b = entry u i x h in absurd (apart u b.0 (sym (only (InQueue u b.0) b.1)))

        queue_place : (v j i : ℕ) → (freed P w s).queue v i ≡ Some x
            → ((q : SeekRecord) → Stands P x q → q ≡ InQueue v j) → Once (freed P w s) x
        queue_place v j i here only = record { place = InQueue v i; here = here; only = only' }
          where
            only' : (q : SeekRecord) → Stands (freed P w s) x q → q ≡ InQueue v i
            only' InPool h = let e = only InPool (sym (at_one-other P.pool s x true ne) ∙ h) in cc
            only' (PrivateTo u) h = let e = only (PrivateTo u) h in cc
            only' (OnPath p) h = let e = only (OnPath p) h in cc
            only' (InQueue u k) h =
                let b = queue_before u k x h in
                let c = queue_before v i x here in
                let e = in_queue u b.0 v j (only (InQueue u b.0) b.1) in
                let f = in_queue v c.0 v j (only (InQueue v c.0) c.1) in
                elim (ℕ_discrete u w) [
                  | yes own ↦ let m : b.0 ≡ suc k = b.2.0 own in let n : c.0 ≡ suc i = c.2.0 (sym e.0 ∙ own) in
                      let index : k ≡ i = omega (arith, e.1, f.1) in
                      ap (λ (y : ℕ). InQueue y k) e.0 ∙ ap (InQueue v) index
                  | no far ↦ let m : b.0 ≡ k = b.2.1 far in let n : c.0 ≡ i = c.2.1 (λ z. far (e.0 ∙ z)) in
                      let index : k ≡ i = omega (arith, e.1, f.1) in
                      ap (λ (y : ℕ). InQueue y k) e.0 ∙ ap (InQueue v) index
                ]

        go : (place : SeekRecord) → Stands P x place → ((q : SeekRecord) → Stands P x q → q ≡ place)
            → Once (freed P w s) x
        go InPool h only = stay InPool (at_one-other P.pool s x true ne ∙ h) only (λ u i e. cc)
        go (PrivateTo u) h only = stay (PrivateTo u) h only (λ u i e. cc)
        go (OnPath p) h only = stay (OnPath p) h only (λ u i e. cc)
        go (InQueue u i) h only = elim (ℕ_discrete u w) [
          | yes own ↦ from i (rw own at h) (rw own at only)
          | no far ↦ queue_place u i i (others_entry u i far ∙ h) only
        ]
          where
            from : (i : ℕ) → P.queue w i ≡ Some x → ((q : SeekRecord) → Stands P x q → q ≡ InQueue w i)
                → Once (freed P w s) x
            from zero h only = absurd (ne (same_Some x s (sym h ∙ front)))
            from (suc i) h only = queue_place w (suc i) i
                (cond-true (eqb w w) (P.queue w (suc i)) (P.queue w i) (eq-eqb w w refl) ∙ h) only

    places : (x : ℕ) → x ≢ 0 → x ≤ N → Once (freed P w s) x
    places x some inside = elim (ℕ_discrete x s) [
      | yes e ↦ rw e (new_place P (freed P w s) s (InQueue w 0) InPool front (at_one-same P.pool s true) each
          (law.places s some_s (law.queues w 0 s front).1))
      | no ne ↦ place_other x some inside ne
    ]
