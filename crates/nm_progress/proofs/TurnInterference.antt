-- A walk among walks that go on in turns, as long as there are slots, met interference; and so did
-- walks that found no key between two internal nodes.
use Rattle.std.proofs.Common.{◌≡◌, ◌≢◌, ℕ, suc, ◌+◌, ◌*◌, ◌<◌, ◌≤◌, ◌==◌, inl, inr, true, false, List, length, [], ◌∷◌, ◌++◌, append_assoc, refl, sym, ap, subst, ◌∙◌, arith, true≢false}
use Rattle.std.specs.Prelude.{All}
use Rattle.std.specs.List.{list_all, list_any}
use Rattle.std.proofs.lemmas.Bool.{and_parts, eq-eqb}
use Rattle.std.proofs.lemmas.List.{append-nil, append_cancel_left, length-append}
use Rattle.nm_edge.specs.Edges.{Edge}
use Rattle.nm_edge.specs.Layouts.{Layout}
use Rattle.nm_edge.specs.declared.edge.Side.{Side}
use Rattle.nm_edge.specs.declared.edge.Side.TheVariants.{Left}
use Rattle.nm_model.specs.declared.event.Event.{Event}
use Rattle.nm_model.specs.declared.event.Event.TheVariants.{Look, Sight, Announce}
use Rattle.nm_model.specs.declared.event.Field.TheVariants.{Key as KeyOf, Edge as EdgeOn}
use Rattle.nm_model.specs.declared.reply.Reply.TheVariants.{KeyIs, EdgeIs, Announced, Pinned}
use Rattle.nm_model.specs.Memory.{child, infinity_1, infinity_2}
use Rattle.nm_model.specs.Ordered.{Configuration, trace_in}
use Rattle.nm_model.specs.Paths.{follow}
use Rattle.nm_model.specs.Searches.{side_of}
use Rattle.nm_model.specs.Walks.{Entry, since_pin, IsPart, Leads, WalkEnds}
use Rattle.nm_model.specs.Walks.IsPart.{takes, skips}
use Rattle.nm_model.specs.Walks.Leads.{begins, leads_on}
use Rattle.nm_laws.proofs.Trees.{follow-append}
use Rattle.nm_order.specs.Intervals.{HasKey, GoesBy, key}
use Rattle.nm_order.specs.Logs.{part_of}
use Rattle.nm_order.specs.Ranges.{WalkPasses}
use Rattle.nm_order.proofs.CutTurns.{layout_is}
use Rattle.nm_order.proofs.OrderedLaws.{IsOrdered, law_of_state}
use Rattle.nm_order.proofs.RadixTrees.{left_if}
use Rattle.nm_order.proofs.Searching.{goes-append}
use Rattle.nm_order.proofs.WalksOfRuns.{since_pin-append}
use Rattle.nm_epoch.specs.Tries.{IsPinnedBy}
use Rattle.nm_calls.specs.InTurns.{GiveUp}
use Rattle.nm_calls.specs.PlainWalks.{HasPassed}
use Rattle.nm_calls.specs.Scans.{HasFoundNone, HasRouter, HasStoppedShort, StopsShort}
use Rattle.nm_walks.specs.AddedLooks.{AddsLooks, is_look}
use Rattle.nm_progress.specs.Moves.{number_of}
use Rattle.nm_progress.proofs.Between.{Comes, Ends, Passes, both_null, none_between, passes}
use Rattle.nm_progress.proofs.MoreTries.{is_loud, Plain}
use Rattle.nm_progress.proofs.Reshapes.{is_reshape, look_there, key_there, long_path}
use Rattle.nm_progress.proofs.WalkInterference.{HasInterference}

-- ---- an entry of a part is one of the whole

record HasEntry (e : Entry) (l : List Entry) : Type 0 where
  before : List Entry
  behind : List Entry
  is : l ≡ before ++ e ∷ behind

later : (e x : Entry) (l : List Entry) → HasEntry e l → HasEntry e (x ∷ l)
later e x l h = record { before = x ∷ h.before; behind = h.behind; is = ap (λ (l : List Entry). x ∷ l) h.is }

part_has : (xs : List Entry) (e : Entry) (ys l : List Entry) → IsPart (xs ++ e ∷ ys) l → HasEntry e l
part_has [] e ys [] p = elim p [ ]
part_has [] e ys (z ∷ l) (takes p) = record { before = []; behind = l; is = refl }
part_has [] e ys (z ∷ l) (skips p) = later e z l (part_has [] e ys l p)
part_has (x ∷ xs) e ys [] p = elim p [ ]
part_has (x ∷ xs) e ys (z ∷ l) (takes p) = later e z l (part_has xs e ys l p)
part_has (x ∷ xs) e ys (z ∷ l) (skips p) = later e z l (part_has (x ∷ xs) e ys l p)

-- ---- looks

quiet_looks : (es : List Entry) → list_all is_look es ≡ true → list_any is_loud es ≡ false
quiet_looks [] only = refl
quiet_looks (e ∷ es) only = by e (and_parts (is_look e) (list_all is_look es) only).0
    (quiet_looks es (and_parts (is_look e) (list_all is_look es) only).1)
  where
    by : (e : Entry) → is_look e ≡ true → list_any is_loud es ≡ false → list_any is_loud (e ∷ es) ≡ false
    by (Look x f, r) is rest = rest
    by e is rest = absurd (true≢false (sym is))

-- looks alone stand behind the pin
looks_since : (so_far es : List Entry) → list_all is_look es ≡ true → since_pin so_far es ≡ so_far ++ es
looks_since so_far [] only = sym (append-nil so_far)
looks_since so_far (e ∷ es) only = by e (and_parts (is_look e) (list_all is_look es) only).0
    (looks_since (so_far ++ e ∷ []) es (and_parts (is_look e) (list_all is_look es) only).1)
  where
    by : (e : Entry) → is_look e ≡ true → since_pin (so_far ++ e ∷ []) es ≡ (so_far ++ e ∷ []) ++ es
        → since_pin so_far (e ∷ es) ≡ so_far ++ e ∷ es
    by (Look x f, r) is rest = rest ∙ append_assoc so_far ((Look x f, r) ∷ []) es
    by e is rest = absurd (true≢false (sym is))

-- nothing stands behind one that was just confirmed
pub pinned_since : (tries : ℕ) (old new : List Entry) (epoch : ℕ) → IsPinnedBy Sight tries old new epoch
    → since_pin [] new ≡ []
pinned_since tries old new epoch h = ap (since_pin []) h.5.1
    ∙ since_pin-append [] (h.2 ++ (Announce, Announced h.5.0) ∷ []) ((Sight, Pinned epoch) ∷ [])

-- ---- a walk in the tree that stays

module _ (L : Layout) (enough : 5 ≤ L.nodes) (w : ℕ) (c : Configuration) (o : IsOrdered L c) (ts : List (ℕ × Event))
    (keys : All (λ t. HasKey t.1) ts) (calm : number_of is_reshape (trace_in c ts) ≡ 0) where
  at_second : follow (child c.state.memory) 1 (Left ∷ []) ≡ 2
  at_second = (law_of_state L enough c o).1.tree.root_left

  -- a path to the slot, as long as so many looks lead, which the search for k takes
  record IsLed (k looks slot : ℕ) : Type 0 where
    sides : List Side
    size : 2 * length sides ≡ looks + 3
    ends : follow (child c.state.memory) 1 sides ≡ slot
    goes : k < infinity_1 → GoesBy (child c.state.memory) (key c.state.memory) k 1 sides
    is_slot : slot ≢ 0

  -- the key that was read there is the slot's
  read_key : (k slot v : ℕ) (looks : List Entry) → IsLed k (length looks) slot → (more : List Entry)
      → IsPart (looks ++ (Look slot KeyOf, KeyIs v) ∷ more) (part_of w (trace_in c ts)) → v ≡ key c.state.memory slot
  read_key k slot v looks p more part = by (part_has looks (Look slot KeyOf, KeyIs v) more
      (part_of w (trace_in c ts)) part)
    where
      by : HasEntry (Look slot KeyOf, KeyIs v) (part_of w (trace_in c ts)) → v ≡ key c.state.memory slot
      by h = key_there L enough w ts keys c o calm h.before slot v h.behind h.is
          (record { path = p.sides; ends = p.ends; is_slot = p.is_slot })

  led : (k : ℕ) (looks : List Entry) (slot parent : ℕ) (side : Side) → Leads k looks slot parent side
      → (more : List Entry) → IsPart (looks ++ more) (part_of w (trace_in c ts)) → IsLed k (length looks) slot
  led k looks slot parent side (begins e some) more part = by
      (part_has [] (Look 2 (EdgeOn Left), EdgeIs e) more (part_of w (trace_in c ts)) part)
    where
      by : HasEntry (Look 2 (EdgeOn Left), EdgeIs e) (part_of w (trace_in c ts)) → IsLed k 1 e.slot
      by h = record {
        sides = Left ∷ Left ∷ [];
        size = refl;
        ends = ap (λ (x : ℕ). child c.state.memory x Left) at_second
            ∙ sym (look_there L enough w ts keys c o calm h.before 2 Left e h.behind h.is
            (record { path = Left ∷ []; ends = at_second; is_slot = λ z. absurd (omega (arith, z)) }));
        goes = λ low. (
          ap (side_of k) o.law.fixed.root ∙ left_if k infinity_2 (omega (arith, low)),
          (
            ap (λ (x : ℕ). side_of k (key c.state.memory x)) at_second
                ∙ (ap (side_of k) o.law.fixed.second ∙ left_if k infinity_1 low),
            tt,
          ),
        );
        is_slot = some;
      }
  led k looks slot parent side (leads_on {looks = before} {slot = above} {parent = over} {side = turn} leads v e
      some) more part =
      by (led k before above over turn leads ((Look above KeyOf, KeyIs v)
      ∷ (Look above (EdgeOn (side_of k v)), EdgeIs e) ∷ more) whole)
      (part_has (before ++ (Look above KeyOf, KeyIs v) ∷ []) (Look above (EdgeOn (side_of k v)), EdgeIs e) more
      (part_of w (trace_in c ts)) (subst (λ (l : List Entry). IsPart l (part_of w (trace_in c ts)))
      (sym (append_assoc before ((Look above KeyOf, KeyIs v) ∷ [])
      ((Look above (EdgeOn (side_of k v)), EdgeIs e) ∷ more))) whole))
    where
      whole : IsPart (before ++ (Look above KeyOf, KeyIs v) ∷ (Look above (EdgeOn (side_of k v)), EdgeIs e) ∷ more)
          (part_of w (trace_in c ts))
      whole = subst (λ (l : List Entry). IsPart l (part_of w (trace_in c ts)))
          (append_assoc before ((Look above KeyOf, KeyIs v) ∷ (Look above (EdgeOn (side_of k v)), EdgeIs e) ∷ []) more)
          part

      by : IsLed k (length before) above → HasEntry (Look above (EdgeOn (side_of k v)), EdgeIs e)
          (part_of w (trace_in c ts)) → IsLed k (length
          (before ++ (Look above KeyOf, KeyIs v) ∷ (Look above (EdgeOn (side_of k v)), EdgeIs e) ∷ [])) e.slot
      by p h = record {
        sides = p.sides ++ side_of k v ∷ [];
        size = (
            let size = p.size in
            let sides = length-append p.sides (side_of k v ∷ []) in
            let all = length-append before ((Look above KeyOf, KeyIs v)
            ∷ (Look above (EdgeOn (side_of k v)), EdgeIs e) ∷ []) in
            omega (arith, size, sides, all)
            );
        ends = follow-append (child c.state.memory) 1 p.sides (side_of k v ∷ [])
            ∙ (ap (λ (x : ℕ). child c.state.memory x (side_of k v)) p.ends
            ∙ sym (look_there L enough w ts keys c o calm h.before above (side_of k v) e h.behind h.is
            (record { path = p.sides; ends = p.ends; is_slot = p.is_slot })));
        goes = λ low. goes-append (child c.state.memory) (key c.state.memory) k 1 p.sides (side_of k v ∷ [])
            (p.goes low) (
              ap (λ (x : ℕ). side_of k (key c.state.memory x)) p.ends
                  ∙ ap (side_of k) (sym (key_read p)),
              tt,
            );
        is_slot = some;
      }
        where
          key_read : IsLed k (length before) above → v ≡ key c.state.memory above
          key_read p = read_key k above v before p ((Look above (EdgeOn (side_of k v)), EdgeIs e) ∷ more) whole

  -- none is so long
  not_so_long : (k n slot : ℕ) (looks : List Entry) (parent : ℕ) (side : Side) → Leads k looks slot parent side
      → IsPart looks (part_of w (trace_in c ts)) → 1 + 2 * n ≤ length looks → suc n ≡ L.nodes → ⊥
  not_so_long k n slot looks parent side leads part many all = by
      (led k looks slot parent side leads [] (subst (λ (l : List Entry). IsPart l (part_of w (trace_in c ts)))
      (sym (append-nil looks)) part))
    where
      by : IsLed k (length looks) slot → ⊥
      by p =
          let long = long_path L enough c o p.sides (λ z. p.is_slot (sym p.ends ∙ z)) in
          let size = p.size in
          let nodes = ap (λ (M : Layout). M.nodes) (layout_is L enough c o) in
          absurd (omega (arith, many, all, long, size, nodes))

  -- a node that a walk read, and the edge by which it went on or ended
  module _ (k slot v : ℕ) (small : k < infinity_1) (parent : ℕ) (side : Side) (looks : List Entry)
      (leads : Leads k looks slot parent side) (e : Edge)
      (part : IsPart (looks ++ (Look slot KeyOf, KeyIs v) ∷ (Look slot (EdgeOn (side_of k v)), EdgeIs e) ∷ [])
      (part_of w (trace_in c ts))) where
    here : IsLed k (length looks) slot
    here = led k looks slot parent side leads ((Look slot KeyOf, KeyIs v)
        ∷ (Look slot (EdgeOn (side_of k v)), EdgeIs e) ∷ []) part

    comes : Comes L enough c o k slot
    comes = record { path = here.sides; ends = here.ends; goes = here.goes small; is_slot = here.is_slot }

    key_is : key c.state.memory slot ≡ v
    key_is = sym (read_key k slot v looks here ((Look slot (EdgeOn (side_of k v)), EdgeIs e) ∷ []) part)

    leads_to : e.slot ≡ child c.state.memory slot (side_of k v)
    leads_to = by (part_has (looks ++ (Look slot KeyOf, KeyIs v) ∷ []) (Look slot (EdgeOn (side_of k v)), EdgeIs e)
        [] (part_of w (trace_in c ts))
        (subst (λ (l : List Entry). IsPart l (part_of w (trace_in c ts)))
        (sym (append_assoc looks ((Look slot KeyOf, KeyIs v) ∷ [])
        ((Look slot (EdgeOn (side_of k v)), EdgeIs e) ∷ []))) part))
      where
        by : HasEntry (Look slot (EdgeOn (side_of k v)), EdgeIs e) (part_of w (trace_in c ts))
            → e.slot ≡ child c.state.memory slot (side_of k v)
        by h = look_there L enough w ts keys c o calm h.before slot (side_of k v) e h.behind h.is
            (record { path = here.sides; ends = here.ends; is_slot = here.is_slot })

    went_on : e.slot ≢ 0 → Passes L enough c o k slot
    went_on some = passes L enough c o k slot comes (side_of k v) (λ none. some (leads_to ∙ none))

    ended : e.slot ≡ 0 → Ends L enough c o k slot
    ended null = record {
      comes = comes;
      leaf = both_null L enough c o k slot comes (side_of k v)
          (sym leads_to ∙ null);
    }

  -- walks between two internal nodes find a key
  finds_some : (log : List Entry) → since_pin [] log ≡ part_of w (trace_in c ts) → HasFoundNone log → ⊥
  finds_some log is h = by h.lower h.upper
    where
      there : {looks : List Entry} → IsPart looks (since_pin [] log) → IsPart looks (part_of w (trace_in c ts))
      there {looks} part = subst (IsPart looks) is part

      none : (j : ℕ) → h.low ≤ j → j < h.high → (y : ℕ) × Ends L enough c o j y × (key c.state.memory y ≢ j)
      none j le less = at (let top = h.top in omega (arith, less, top)) (h.none j le less)
        where
          at : j < infinity_1 → (leaf parent v : ℕ) × (side : Side)
              × WalkEnds j (since_pin [] log) leaf parent side v × (false ≡ (v == j))
              → (y : ℕ) × Ends L enough c o j y × (key c.state.memory y ≢ j)
          at small (leaf, parent, v, side, walk, other) = (
            leaf,
            ended j leaf v small parent side walk.looks walk.leads walk.null (there walk.is_part) walk.is_null,
            λ same. true≢false (sym (eq-eqb v j (sym (key_is j leaf v small parent side walk.looks walk.leads
                walk.null (there walk.is_part)) ∙ same)) ∙ sym other),
          )

      by : HasRouter log h.low → HasRouter log h.high → ⊥
      by (i, x, over, up, small, walk) (j, z, over', up', small', walk') =
          none_between L enough c o h.low h.high x z h.wide none i j
          (went_on i x h.low small over up walk.looks walk.leads walk.next (there walk.is_part) walk.there)
          (key_is i x h.low small over up walk.looks walk.leads walk.next (there walk.is_part))
          (went_on j z h.high small' over' up' walk'.looks walk'.leads walk'.next (there walk'.is_part) walk'.there)
          (key_is j z h.high small' over' up' walk'.looks walk'.leads walk'.next (there walk'.is_part))

-- ---- where they give up

module _ (L : Layout) (enough : 5 ≤ L.nodes) (w : ℕ) (old new : List Entry) (none : since_pin [] old ≡ []) {most : ℕ}
    (added : AddsLooks most old new) where
  plain : Plain old new
  plain = record { entries = added.looks; are = added.grown; quiet = quiet_looks added.looks added.only }

  -- all that stands behind the pin is what the worker adds
  since_is : (c : Configuration) (ts : List (ℕ × Event)) → old ++ part_of w (trace_in c ts) ≡ new
      → since_pin [] new ≡ part_of w (trace_in c ts)
  since_is c ts whole = ap (since_pin []) added.grown
      ∙ (since_pin-append [] old added.looks ∙ (ap (λ (l : List Entry). since_pin l added.looks) none
      ∙ (looks_since [] added.looks added.only ∙ append_cancel_left old _ _ (sym added.grown ∙ sym whole))))

  far_interference : (k slot n : ℕ) → HasPassed n new k slot → suc n ≡ L.nodes → HasInterference L enough w old new
  far_interference k slot n passed all = record {
    plain = plain;
    never = λ c o ts keys calm whole. not_so_long L enough w c o ts keys calm k n slot passed.2.looks passed.0
        passed.1 passed.2.leads (subst (IsPart passed.2.looks) (since_is c ts whole) passed.2.is_part) passed.3 all;
  }

  none_interference : HasFoundNone new → HasInterference L enough w old new
  none_interference h = record {
    plain = plain;
    never = λ c o ts keys calm whole. finds_some L enough w c o ts keys
        calm new (since_is c ts whole) h;
  }

pub turns_interference : (L : Layout) (enough : 5 ≤ L.nodes) (w : ℕ) (ks : List ℕ) (old new : List Entry)
    → since_pin [] old ≡ [] → GiveUp L ks old new → HasInterference L enough w old new
turns_interference L enough w ks old new none (added, radix, k, slot, n, among, passed, all) = far_interference L
    enough w old new none added k slot n passed all

pub short_interference : (L : Layout) (enough : 5 ≤ L.nodes) (w : ℕ) (old new : List Entry) → since_pin [] old ≡ []
    → StopsShort L old new → HasInterference L enough w old new
short_interference L enough w old new none (most, added, short) = by short
  where
    by : HasStoppedShort L new → HasInterference L enough w old new
    by (inl h) = none_interference L enough w old new none added h
    by (inr (k, (radix, slot, n, passed, all))) = far_interference L enough w old new none added k slot n passed all
