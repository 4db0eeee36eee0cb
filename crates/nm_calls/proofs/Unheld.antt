-- If a slot is reached at a moment at which a worker is pinned, nobody has the slot in hands until
-- that worker leaves.
use Rattle.std.proofs.Common.{◌≡◌, ◌⊎◌, inl, inr, ℕ, zero, suc, ◌≤◌, ◌==◌, Bool, true, false, cond, not, ◌&&◌, ◌||◌, List, [], ◌∷◌, ◌++◌, append-nil, append_assoc, refl, sym, ap, subst, ◌∙◌, arith, true≢false}
use Rattle.std.specs.Prelude.{filter, Some, Contains, slice_get, option_map}
use Rattle.std.specs.List.{list_any}
use Rattle.std.proofs.lemmas.Bool.{and_parts, eq-eqb, eqb-true}
use Rattle.std.proofs.lemmas.List.Folds.{list_any-append}
use Rattle.std.proofs.lemmas.List.Elements.{Contains-append_left, Contains-append_right}
use Rattle.nm_edge.specs.Layouts.{Layout}
use Rattle.nm_edge.specs.declared.edge.Side.{Side}
use Rattle.nm_edge.specs.declared.node.NodeId.{NodeId}
use Rattle.nm_model.specs.declared.trace.Turn.{Turn}
use Rattle.nm_model.specs.Memory.{Memory, opening}
use Rattle.nm_model.specs.Paths.{Reached}
use Rattle.nm_model.specs.Headline.{Headline, HasLeft, IsPinned, OnePlace, Place, StandsAt, after_turn, cuts_of, freed_by, has_after, is_among, leaves, nodes_cut_of, nodes_freed_of, slots_of, words_after, words_from}
use Rattle.nm_model.specs.Headline.Place.{InHands, InPool, OnPath, Waits}
use Rattle.nm_theorem.proofs.FreedOfRuns.{cuts-append}
use Rattle.nm_theorem.proofs.LeftSince.{readers_have_left}

-- ---- lists

pub or_right : (a b : Bool) → b ≡ true → (a || b) ≡ true
or_right true b is = refl
or_right false b is = is

pub or_cases : (a b : Bool) → (a || b) ≡ true → (a ≡ true) ⊎ (b ≡ true)
or_cases true b is = inl refl
or_cases false b is = inr is

pub contains_slot : (ns : List NodeId) (x : ℕ) → Contains (slots_of ns) x → (n : NodeId) × Contains ns n × (n.slot ≡ x)
contains_slot [] x c = absurd (let below = c.1 in omega (arith, below))
contains_slot (n ∷ ns) x (zero, below, at) = (n, (0, omega arith, refl), at)
contains_slot (n ∷ ns) x (suc k, below, at) =
    let r = contains_slot ns x (k, omega (arith, below), at) in
    let less = r.1.1 in
    (r.0, (suc r.1.0, omega (arith, less), r.1.2), r.2)

pub in_filter : (p : NodeId → Bool) (ns : List NodeId) (n : NodeId) → Contains ns n → p n ≡ true
    → (i : ℕ) × (slice_get (filter p ns) i ≡ Some n)
in_filter p [] n c passes = absurd (let below = c.1 in omega (arith, below))
in_filter p (m ∷ ms) n (zero, below, at) passes = (
  0,
  ap (λ (b : Bool). slice_get (cond b (m ∷ filter p ms) (filter p ms)) 0) (ap p at ∙ passes)
      ∙ ap (λ (y : NodeId). Some y) at,
)
in_filter p (m ∷ ms) n (suc k, below, at) passes = go (p m) refl (in_filter p ms n (k, omega (arith, below), at) passes)
  where
    go : (b : Bool) → p m ≡ b → (i : ℕ) × (slice_get (filter p ms) i ≡ Some n)
        → (i : ℕ) × (slice_get (filter p (m ∷ ms)) i ≡ Some n)
    go true is r = (suc r.0, ap (λ (b : Bool). slice_get (cond b (m ∷ filter p ms) (filter p ms)) (suc r.0)) is ∙ r.1)
    go false is r = (r.0, ap (λ (b : Bool). slice_get (cond b (m ∷ filter p ms) (filter p ms)) r.0) is ∙ r.1)

same_node : (n m : NodeId) → ((n.slot == m.slot) && (n.birth == m.birth)) ≡ true → m ≡ n
same_node n m same =
    let both = and_parts (n.slot == m.slot) (n.birth == m.birth) same in
    (λ i. record { slot = sym (eqb-true n.slot m.slot both.0) i; birth = sym (eqb-true n.birth m.birth both.1) i })

pub among_in : (ns : List NodeId) (n : NodeId) → is_among ns n ≡ true → Contains ns n
among_in [] n is = absurd (true≢false (sym is))
among_in (m ∷ ms) n is = go (or_cases ((n.slot == m.slot) && (n.birth == m.birth)) (is_among ms n) is) (among_in ms n)
  where
    go : (((n.slot == m.slot) && (n.birth == m.birth)) ≡ true) ⊎ (is_among ms n ≡ true)
        → (is_among ms n ≡ true → Contains ms n) → Contains (m ∷ ms) n
    go (inl same) later = (0, omega arith, same_node n m same)
    go (inr more) later = let c = later more in let less = c.1 in (suc c.0, omega (arith, less), c.2)

pub freed_by-append : (ts us : List Turn) → freed_by (ts ++ us) ≡ freed_by ts ++ freed_by us
freed_by-append [] us = refl
freed_by-append (t ∷ ts) us = ap (λ (ns : List NodeId). nodes_freed_of t.outcome ++ ns) (freed_by-append ts us)
    ∙ sym (append_assoc (nodes_freed_of t.outcome) (freed_by ts) (freed_by us))

pub freed_longer : (ts us : List Turn) (n : NodeId) → Contains (freed_by ts) n → Contains (freed_by (ts ++ us)) n
freed_longer ts us n c = subst (λ (ns : List NodeId). Contains ns n) (sym (freed_by-append ts us))
    (Contains-append_left (freed_by ts) (freed_by us) n c)

words_push : (m : Memory) (ts : List Turn) (t : Turn) → words_from m (ts ++ t ∷ []) ≡ after_turn (words_from m ts) t
words_push m [] t = refl
words_push m (u ∷ ts) t = words_push (after_turn m u) ts t

pub not_place : (w : ℕ) (path : List Side) → ◌≡◌ {A = Place} (InHands w) (OnPath path) → ⊥
not_place w path e = cc

pub not_waiting : (w v i : ℕ) → ◌≡◌ {A = Place} (InHands w) (Waits v i) → ⊥
not_waiting w v i e = cc

-- a pin lasts while the worker has not left
pub pin_lasts : (u : ℕ) (so_far more : List Turn) → IsPinned u so_far → (HasLeft u more → ⊥)
    → IsPinned u (so_far ++ more)
pin_lasts u so_far more pinned none' = record {
  before = pinned.before;
  sight = pinned.sight;
  since = pinned.since ++ more;
  are = ap (λ (ts : List Turn). ts ++ more) pinned.are ∙ append_assoc pinned.before (pinned.sight ∷ pinned.since) more;
  own = pinned.own;
  pins = pinned.pins;
  stays = λ left. by (or_cases (list_any (leaves u) pinned.since) (list_any (leaves u) more)
      (sym (list_any-append (leaves u) pinned.since more) ∙ left));
}
  where
    by : (HasLeft u pinned.since) ⊎ (HasLeft u more) → ⊥
    by (inl early) = pinned.stays early
    by (inr late) = none' late

-- ---- places after a moment at which the slot was reached

module _ (L : Layout) (turns : List Turn) (h : Headline L turns) (u x : ℕ) (low : 6 ≤ x) (most : x ≤ L.nodes)
    (so_far rest : List Turn) (are : turns ≡ so_far ++ rest) (pinned : IsPinned u so_far)
    (stays : HasLeft u rest → ⊥) (reached : Reached (words_after L so_far) x) where
  -- a turn of these has cut it
  record WasCut (mid : List Turn) : Type 0 where
    before : List Turn
    cut : Turn
    since : List Turn
    is : mid ≡ before ++ cut ∷ since
    node : NodeId
    in_cut : Contains (nodes_cut_of cut.outcome) node
    there : node.slot ≡ x

  abbrev Still : List Turn → Type 0
  Still mid = Reached (words_after L (so_far ++ mid)) x ⊎ WasCut mid

  at_moment : (mid late : List Turn) → rest ≡ mid ++ late → turns ≡ (so_far ++ mid) ++ late
  at_moment mid late is = are ∙ (ap (λ (ts : List Turn). so_far ++ ts) is ∙ sym (append_assoc so_far mid late))

  cut_longer : (mid : List Turn) (t : Turn) → WasCut mid → WasCut (mid ++ t ∷ [])
  cut_longer mid t c = record {
    before = c.before;
    cut = c.cut;
    since = c.since ++ t ∷ [];
    is = ap (λ (ts : List Turn). ts ++ t ∷ []) c.is ∙ append_assoc c.before (c.cut ∷ c.since) (t ∷ []);
    node = c.node;
    in_cut = c.in_cut;
    there = c.there;
  }

  step : (mid : List Turn) (t : Turn) (late : List Turn) → rest ≡ (mid ++ t ∷ []) ++ late → Still mid
      → Still (mid ++ t ∷ [])
  step mid t late is (inr c) = inr (cut_longer mid t c)
  step mid t late is (inl r) =
      let one = h.places (so_far ++ (mid ++ t ∷ [])) late (at_moment (mid ++ t ∷ []) late is) x low most in
      by one.place one.here one.only
    where
      is_next : so_far ++ (mid ++ t ∷ []) ≡ (so_far ++ mid) ++ t ∷ []
      is_next = sym (append_assoc so_far mid (t ∷ []))

      gone : (Reached (words_after L (so_far ++ (mid ++ t ∷ []))) x → ⊥) → WasCut (mid ++ t ∷ [])
      gone none' =
          let cuts = h.cuts (so_far ++ mid) late t (are
          ∙ (ap (λ (ts : List Turn). so_far ++ ts) (is ∙ append_assoc mid (t ∷ []) late)
          ∙ sym (append_assoc so_far mid (t ∷ late)))) in
          let c = contains_slot (nodes_cut_of t.outcome) x
          ((cuts.just x).0 (record {
            was = r;
            gone = λ after. none'
                (subst (λ (m : Memory). Reached m x) (sym (ap (words_after L) is_next
                ∙ words_push (opening L) (so_far ++ mid) t)) after);
          })) in
          record { before = mid; cut = t; since = []; is = refl; node = c.0; in_cut = c.1; there = c.2 }

      elsewhere : (p : Place) → ((there : Place) → StandsAt L (so_far ++ (mid ++ t ∷ [])) x there → there ≡ p)
          → ((path : List Side) → ◌≡◌ {A = Place} (OnPath path) p → ⊥) → Still (mid ++ t ∷ [])
      elsewhere p only other = inr (gone (λ a. other a.path (only (OnPath a.path) a.ends)))

      by : (p : Place) → StandsAt L (so_far ++ (mid ++ t ∷ [])) x p
          → ((there : Place) → StandsAt L (so_far ++ (mid ++ t ∷ [])) x there → there ≡ p) → Still (mid ++ t ∷ [])
      by (OnPath path) here only = inl (record {
        path = path;
        ends = here;
        is_slot = λ zero'. omega
            (arith, low, zero');
      })
      by InPool here only = elsewhere InPool only (λ path e. cc)
      by (InHands w) here only = elsewhere (InHands w) only (λ path e. cc)
      by (Waits w i) here only = elsewhere (Waits w i) only (λ path e. cc)

  go : (done todo late : List Turn) → rest ≡ (done ++ todo) ++ late → Still done → Still (done ++ todo)
  go done [] late is s = subst Still (sym (append-nil done)) s
  go done (t ∷ ts) late is s =
      let next : (done ++ t ∷ []) ++ ts ≡ done ++ t ∷ ts = append_assoc done (t ∷ []) ts in
      subst Still next (go (done ++ t ∷ []) ts late (is ∙ ap (λ (l : List Turn). l ++ late) (sym next))
      (step done t (ts ++ late) (is ∙ (append_assoc done (t ∷ ts) late
      ∙ sym (append_assoc done (t ∷ []) (ts ++ late)))) s))

  still : (mid late : List Turn) → rest ≡ mid ++ late → Still mid
  still mid late is = go [] mid late is (inl (subst (λ (ts : List Turn). Reached (words_after L ts) x)
      (sym (append-nil so_far)) reached))

  -- the node that was cut is not freed
  not_freed : (mid late : List Turn) → rest ≡ mid ++ late → (c : WasCut mid)
      → Contains (freed_by (so_far ++ mid)) c.node → ⊥
  not_freed mid late is c freed = stays (left_in (readers_have_left L turns h c.node all_freed (so_far ++ c.before)
      (c.since ++ late) c.cut run_is c.in_cut u (pin_lasts u so_far c.before pinned not_yet)))
    where
      parts : rest ≡ c.before ++ c.cut ∷ (c.since ++ late)
      parts = is ∙ (ap (λ (ts : List Turn). ts ++ late) c.is ∙ append_assoc c.before (c.cut ∷ c.since) late)

      run_is : turns ≡ (so_far ++ c.before) ++ c.cut ∷ (c.since ++ late)
      run_is = are ∙ (ap (λ (ts : List Turn). so_far ++ ts) parts
          ∙ sym (append_assoc so_far c.before (c.cut ∷ (c.since ++ late))))

      all_freed : Contains (freed_by turns) c.node
      all_freed = subst (λ (ts : List Turn). Contains (freed_by ts) c.node) (sym (at_moment mid late is))
          (freed_longer (so_far ++ mid) late c.node freed)

      left_in : HasLeft u (c.since ++ late) → HasLeft u rest
      left_in left =
          ap (list_any (leaves u)) parts
          ∙ (list_any-append (leaves u) c.before (c.cut ∷ (c.since ++ late))
          ∙ or_right (list_any (leaves u) c.before) (list_any (leaves u) (c.cut ∷ (c.since ++ late)))
          (or_right (leaves u c.cut) (list_any (leaves u) (c.since ++ late)) left))

      not_yet : HasLeft u c.before → ⊥
      not_yet left = stays (ap (list_any (leaves u)) parts
          ∙ (list_any-append (leaves u) c.before (c.cut ∷ (c.since ++ late))
          ∙ ap (λ (b : Bool). b || list_any (leaves u) (c.cut ∷ (c.since ++ late))) left))

  cut_there : (mid : List Turn) → (c : WasCut mid) → Contains (cuts_of c.cut.worker (so_far ++ mid)) c.node
  cut_there mid c =
      subst (λ (ns : List NodeId). Contains ns c.node)
      (sym (ap (cuts_of c.cut.worker) (ap (λ (ts : List Turn). so_far ++ ts) c.is
      ∙ sym (append_assoc so_far c.before (c.cut ∷ c.since)))
      ∙ cuts-append c.cut.worker (so_far ++ c.before) (c.cut ∷ c.since)))
      (Contains-append_right (cuts_of c.cut.worker (so_far ++ c.before)) (cuts_of c.cut.worker (c.cut ∷ c.since)) c.node
      (subst (λ (b : Bool). Contains (cond b (nodes_cut_of c.cut.outcome) [] ++ cuts_of c.cut.worker c.since) c.node)
      (sym (eq-eqb c.cut.worker c.cut.worker refl))
      (Contains-append_left (nodes_cut_of c.cut.outcome) (cuts_of c.cut.worker c.since) c.node c.in_cut)))

  pub unheld : (mid late : List Turn) → rest ≡ mid ++ late → (w : ℕ)
      → has_after (opening L) w x false (so_far ++ mid) ≡ false
  unheld mid late is w = by (has_after (opening L) w x false (so_far ++ mid)) refl
    where
      one : OnePlace L (so_far ++ mid) x
      one = h.places (so_far ++ mid) late (at_moment mid late is) x low most

      apart : has_after (opening L) w x false (so_far ++ mid) ≡ true → (there : Place)
          → StandsAt L (so_far ++ mid) x there → ◌≡◌ {A = Place} (InHands w) there
      apart held there stands = one.only (InHands w) held ∙ sym (one.only there stands)

      waits : has_after (opening L) w x false (so_far ++ mid) ≡ true → (c : WasCut mid) → (b : Bool)
          → is_among (freed_by (so_far ++ mid)) c.node ≡ b → ⊥
      waits held c true among = not_freed mid late is c (among_in (freed_by (so_far ++ mid)) c.node among)
      waits held c false other =
          let i = in_filter (λ (n : NodeId). not (is_among (freed_by (so_far ++ mid)) n))
          (cuts_of c.cut.worker (so_far ++ mid)) c.node (cut_there mid c) (ap not other) in
          not_waiting w c.cut.worker i.0 (apart held (Waits c.cut.worker i.0)
          (ap (option_map (λ (n : NodeId). n.slot)) i.1 ∙ ap (λ (y : ℕ). Some y) c.there))

      held_not : has_after (opening L) w x false (so_far ++ mid) ≡ true → Still mid → ⊥
      held_not held (inl r) = not_place w r.path (apart held (OnPath r.path) r.ends)
      held_not held (inr c) = waits held c (is_among (freed_by (so_far ++ mid)) c.node) refl

      by : (b : Bool) → has_after (opening L) w x false (so_far ++ mid) ≡ b → b ≡ false
      by true held = absurd (held_not held (still mid late is))
      by false none' = refl
