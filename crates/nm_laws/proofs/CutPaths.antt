-- What a splice cuts from a tree, and where the paths lead after it.
use Rattle.std.proofs.Common.{◌≡◌, ℕ, ◌≢◌, inl, inr, eqb, Bool, true, false, cond, List, [], ◌∷◌, ◌++◌, refl, sym, ap, ◌∙◌, append-nil, true≢false}
use Rattle.std.specs.Prelude.{Option, Some, None}
use Rattle.std.proofs.lemmas.Bool.{eqb-true, eq-eqb, or_cases, or_left, or_right}
use Rattle.std.proofs.lemmas.Option.{none-some, same_Some}
use Rattle.nm_edge.specs.declared.edge.Side.{Side}
use Rattle.nm_edge.specs.Edges.{other}
use Rattle.nm_laws.proofs.Trees.{same_side}
use Rattle.nm_model.proofs.Numbers.{among}
use Rattle.nm_model.specs.Paths.{follow}
use Rattle.nm_laws.proofs.Trees.{Children, each_side, same_side-true, same_side-false, same_side-refl, follow-append, follow_leaf, append_cancel, rest_after, Exchanged, not_taken, Taken, taken, is_taken}

-- a way down, and beside each of its nodes a leaf
abbrev pub IsFrozen : Children → ℕ → List Side → Type 0
IsFrozen c s [] = Unit {0}
IsFrozen c s (e ∷ way) = (s ≢ 0) × (c s (other e) ≢ 0) × ((f : Side) → c (c s (other e)) f ≡ 0) × IsFrozen c (c s e) way

-- the nodes of a way, each followed by the leaf beside it
abbrev pub nodes_cut : Children → ℕ → List Side → List ℕ
nodes_cut c s [] = []
nodes_cut c s (e ∷ way) = s ∷ c s (other e) ∷ nodes_cut c (c s e) way

-- what is left of a path after it went the whole way
abbrev pub beyond : List Side → List Side → Option (List Side)
beyond [] q = Some q
beyond (e ∷ way) [] = None
beyond (e ∷ way) (f ∷ q) = cond (same_side e f) (beyond way q) None

beyond_whole : (way q : List Side) → beyond way (way ++ q) ≡ Some q
beyond_whole [] q = refl
beyond_whole (e ∷ way) q = rw (same_side-refl e) (beyond_whole way q)

-- a path that goes the whole way
whole : (c : Children) (way q r : List Side) (s : ℕ) → beyond way q ≡ Some r
    → follow c s q ≡ follow c (follow c s way) r
whole c [] q r s h = ap (follow c s) (same_Some q r h)
whole c (e ∷ way) [] r s h = absurd (none-some r h)
whole c (e ∷ way) (f ∷ q) r s h = go (same_side e f) refl h (whole c way q r (c s e))
  where
    go : (b : Bool) → same_side e f ≡ b → cond b (beyond way q) None ≡ Some r
        → (beyond way q ≡ Some r → follow c (c s e) q ≡ follow c (follow c (c s e) way) r)
        → follow c (c s f) q ≡ follow c (follow c (c s e) way) r
    go true is h ih = rw (sym (same_side-true e f is)) (ih h)
    go false is h ih = absurd (none-some r h)

among_here : (x : ℕ) (xs : List ℕ) → among (x ∷ xs) x ≡ true
among_here x xs = or_left (eqb x x) (among xs x) (eq-eqb x x refl)

among_later : (x y : ℕ) (xs : List ℕ) → among xs x ≡ true → among (y ∷ xs) x ≡ true
among_later x y xs h = or_right (eqb x y) (among xs x) h

-- a path that leaves the way, or ends on it, ends at a node that is cut
stops : (c : Children) → ((f : Side) → c 0 f ≡ 0) → (way q : List Side) (s : ℕ) → IsFrozen c s way
    → beyond way q ≡ None → follow c s q ≢ 0 → among (nodes_cut c s way) (follow c s q) ≡ true
stops c null [] q s frozen h there = absurd (none-some q (sym h))
stops c null (e ∷ way) [] s frozen h there = among_here s (c s (other e) ∷ nodes_cut c (c s e) way)
stops c null (e ∷ way) (f ∷ q) s frozen h there = go (same_side e f) refl h (stops c null way q (c s e) frozen.3)
  where
    beside : (q : List Side) → follow c (c s (other e)) q ≢ 0
        → among (nodes_cut c s (e ∷ way)) (follow c (c s (other e)) q) ≡ true
    beside [] there = among_later (c s (other e)) s (c s (other e) ∷ nodes_cut c (c s e) way)
        (among_here (c s (other e)) (nodes_cut c (c s e) way))
    beside (g ∷ q) there = absurd (there (follow_leaf c null (c s (other e)) frozen.2 g q))

    go : (b : Bool) → same_side e f ≡ b → cond b (beyond way q) None ≡ None
        → (beyond way q ≡ None → follow c (c s e) q ≢ 0 → among (nodes_cut c (c s e) way) (follow c (c s e) q) ≡ true)
        → among (nodes_cut c s (e ∷ way)) (follow c (c s f) q) ≡ true
    go true is h ih =
        let same : f ≡ e = sym (same_side-true e f is) in
        let on : follow c (c s e) q ≢ 0 = rw same at there in
        rw same (among_later (follow c (c s e) q) s (c s (other e) ∷ nodes_cut c (c s e) way)
        (among_later (follow c (c s e) q) (c s (other e)) (nodes_cut c (c s e) way) (ih h on)))
    go false is h ih =
        let twin : f ≡ other e = same_side-false e f is in
        let on : follow c (c s (other e)) q ≢ 0 = rw twin at there in
        rw twin (beside q on)

-- a node that is cut ends such a path
pub record Stop (c : Children) (s : ℕ) (way : List Side) (x : ℕ) : Type 0 where
  path : List Side
  short : beyond way path ≡ None
  ends : follow c s path ≡ x
  is_slot : x ≢ 0

stop : (c : Children) (way : List Side) (s x : ℕ) → IsFrozen c s way → among (nodes_cut c s way) x ≡ true
    → Stop c s way x
stop c [] s x frozen h = absurd (true≢false (sym h))
stop c (e ∷ way) s x frozen h = elim (or_cases (eqb x s) _ h) [
  | inl here ↦ let is = eqb-true x s here in record { path = []; short = refl; ends = sym is; is_slot = rw is frozen.0 }
  | inr later ↦ elim (or_cases (eqb x (c s (other e))) _ later) [
    | inl twin ↦ let is = eqb-true x (c s (other e)) twin in
        record {
          path = other e ∷ [];
          short = each_side (λ d. beyond (d ∷ way) (other d ∷ []) ≡ None) refl refl e;
          ends = sym is;
          is_slot = rw is frozen.1;
        }
    | inr on ↦ let r = stop c way (c s e) x frozen.3 on in
        record { path = e ∷ r.path; short = rw (same_side-refl e) r.short; ends = r.ends; is_slot = r.is_slot }
  ]
]

-- ---- the splice itself

-- a tree in which each slot ends one path at most; a, on the path front, has a frozen way on its
-- side d, and that edge is exchanged for where the way leads
pub record Splicing (c c' : Children) (a : ℕ) (d : Side) (way : List Side) : Type 0 where
  pub nothing : (e : Side) → c 0 e ≡ 0
  pub alone : (q r : List Side) → follow c 1 q ≢ 0 → follow c 1 q ≡ follow c 1 r → q ≡ r
  pub front : List Side
  pub at_front : follow c 1 front ≡ a
  pub is_slot : a ≢ 0
  pub frozen : IsFrozen c (c a d) way
  pub exchanged : Exchanged c c' a d (follow c (c a d) way)

module _ (c c' : Children) (a : ℕ) (d : Side) (way : List Side) (g : Splicing c c' a d way) where
  -- a path that goes on from a by d
  pub down : (q : List Side) → follow c 1 (g.front ++ d ∷ q) ≡ follow c (c a d) q
  down q = follow-append c 1 g.front (d ∷ q) ∙ ap (λ (s : ℕ). follow c (c s d) q) g.at_front

  -- no path through a, on by d, is the one to a
  longer : (q : List Side) → g.front ≡ g.front ++ d ∷ q → ⊥
  longer q h = nil_cons (append_cancel g.front [] (d ∷ q) (append-nil g.front ∙ h))
    where
      nil_cons : [] ≡ d ∷ q → ⊥
      nil_cons h = cc

  there : follow c 1 g.front ≢ 0
  there = rw g.at_front g.is_slot

  -- below the kept edge no path comes back to a
  pub not_back : (q : List Side) → rest_after c a d (follow c (c a d) way) q ≡ None
  not_back q = go (rest_after c a d (follow c (c a d) way) q) refl
    where
      go : (o : Option (List Side)) → rest_after c a d (follow c (c a d) way) q ≡ o → o ≡ None
      go None h = refl
      go (Some r) h =
          let t = taken c c' a d _ g.exchanged (follow c (c a d) way) q r h in
          let back : follow c 1 (g.front ++ d ∷ (way ++ t.front)) ≡ a = down (way ++ t.front)
          ∙ (follow-append c (c a d) way t.front ∙ t.comes) in
          absurd (longer (way ++ t.front) (g.alone g.front _ there (g.at_front ∙ sym back)))

  -- nor does the path to a
  pub straight : rest_after c a d 1 g.front ≡ None
  straight = go (rest_after c a d 1 g.front) refl
    where
      go : (o : Option (List Side)) → rest_after c a d 1 g.front ≡ o → o ≡ None
      go None h = refl
      go (Some r) h =
          let t = taken c c' a d _ g.exchanged 1 g.front r h in
          let first : g.front ≡ t.front = g.alone g.front t.front there (g.at_front ∙ sym t.comes) in
          absurd (longer r (t.is ∙ ap (λ (p : List Side). p ++ d ∷ r) (sym first)))

  -- in the new tree too that path leads to a, and on by d to where the way led
  pub new_down : (q : List Side) → follow c' 1 (g.front ++ d ∷ q) ≡ follow c' (follow c (c a d) way) q
  new_down q =
      follow-append c' 1 g.front (d ∷ q)
      ∙ (ap (λ (s : ℕ). follow c' (c' s d) q) (not_taken c c' a d _ g.exchanged 1 g.front straight ∙ g.at_front)
      ∙ ap (λ (s : ℕ). follow c' s q) g.exchanged.here)

  -- so paths below it lead where they led
  pub below : (q : List Side) → follow c' (follow c (c a d) way) q ≡ follow c (follow c (c a d) way) q
  below q = not_taken c c' a d _ g.exchanged (follow c (c a d) way) q (not_back q)

  -- what a path of the new tree leads to, in the old one
  abbrev pub old_path : Option (List Side) → List Side → List Side
  old_path None q = q
  old_path (Some r) q = g.front ++ d ∷ (way ++ r)

  pub led : (q : List Side) → follow c' 1 q ≡ follow c 1 (old_path (rest_after c a d 1 q) q)
  led q = go (rest_after c a d 1 q) refl
    where
      go : (o : Option (List Side)) → rest_after c a d 1 q ≡ o → follow c' 1 q ≡ follow c 1 (old_path o q)
      go None h = not_taken c c' a d _ g.exchanged 1 q h
      go (Some r) h =
          let t = taken c c' a d _ g.exchanged 1 q r h in
          t.leads ∙ (below r ∙ sym (down (way ++ r) ∙ follow-append c (c a d) way r))

  -- what was reached and isn't cut is reached
  pub stays_reached : (q : List Side) → follow c 1 q ≢ 0
      → (among (nodes_cut c (c a d) way) (follow c 1 q) ≡ true → ⊥) → (r : List Side) × (follow c' 1 r ≡ follow c 1 q)
  stays_reached q there uncut = go (rest_after c a d 1 q) refl
    where
      go : (o : Option (List Side)) → rest_after c a d 1 q ≡ o → (r : List Side) × (follow c' 1 r ≡ follow c 1 q)
      go None h = (q, not_taken c c' a d _ g.exchanged 1 q h)
      go (Some r) h = on (beyond way r) refl
        where
          t : Taken c c' a d (follow c (c a d) way) 1 q r
          t = taken c c' a d _ g.exchanged 1 q r h

          was : follow c 1 q ≡ follow c (c a d) r
          was = ap (follow c 1) t.is ∙ (follow-append c 1 t.front (d ∷ r) ∙ ap (λ (s : ℕ). follow c (c s d) r) t.comes)

          on : (o : Option (List Side)) → beyond way r ≡ o → (r : List Side) × (follow c' 1 r ≡ follow c 1 q)
          on None short =
              let end : follow c (c a d) r ≢ 0 = rw was at there in
              let cut = stops c g.nothing way r (c a d) g.frozen short end in
              absurd (uncut (rw was cut))
          on (Some r') long =
              (g.front ++ d ∷ r', new_down r' ∙ (below r' ∙ sym (was ∙ whole c way r r' (c a d) long)))

  -- what is cut was reached
  pub cut_was_reached : (x : ℕ) → among (nodes_cut c (c a d) way) x ≡ true
      → (q : List Side) × (follow c 1 q ≡ x) × (x ≢ 0)
  cut_was_reached x cut = let r = stop c way (c a d) x g.frozen cut in
      (g.front ++ d ∷ r.path, down r.path ∙ r.ends, r.is_slot)

  -- and is not reached any more
  pub cut_is_gone : (x : ℕ) → among (nodes_cut c (c a d) way) x ≡ true → (q : List Side) → follow c' 1 q ≡ x → ⊥
  cut_is_gone x cut q is = go (rest_after c a d 1 q) refl
    where
      r : Stop c (c a d) way x
      r = stop c way (c a d) x g.frozen cut

      old : follow c 1 (g.front ++ d ∷ r.path) ≡ x
      old = down r.path ∙ r.ends

      slot : follow c 1 (g.front ++ d ∷ r.path) ≢ 0
      slot = rw old r.is_slot

      tail : {p q : List Side} → d ∷ p ≡ d ∷ q → p ≡ q
      tail h = cc

      go : (o : Option (List Side)) → rest_after c a d 1 q ≡ o → ⊥
      go None h =
          let same : g.front ++ d ∷ r.path ≡ q = g.alone _ q slot
          (old ∙ sym (sym (not_taken c c' a d _ g.exchanged 1 q h) ∙ is)) in
          is_taken c a d 1 g.front r.path g.at_front (rw same h)
      go (Some t) h =
          let leads : follow c 1 (g.front ++ d ∷ (way ++ t))
          ≡ x = sym (led q ∙ ap (λ o. follow c 1 (old_path o q)) h) ∙ is in
          let same : g.front ++ d ∷ r.path ≡ g.front ++ d ∷ (way ++ t) = g.alone _ _ slot (old ∙ sym leads) in
          let rest : r.path ≡ way ++ t = tail (append_cancel g.front _ _ same) in
          none-some t (sym r.short ∙ rw rest (beyond_whole way t))

  -- in the new tree too each slot ends one path at most
  pub still_alone : (q r : List Side) → follow c' 1 q ≢ 0 → follow c' 1 q ≡ follow c' 1 r → q ≡ r
  still_alone q r there same = go (rest_after c a d 1 q) (rest_after c a d 1 r) refl refl
    where
      old_same : (o p : Option (List Side)) → rest_after c a d 1 q ≡ o → rest_after c a d 1 r ≡ p
          → old_path o q ≡ old_path p r
      old_same o p h k =
          let lq : follow c' 1 q ≡ follow c 1 (old_path o q) = led q ∙ ap (λ o. follow c 1 (old_path o q)) h in
          let lr : follow c' 1 r ≡ follow c 1 (old_path p r) = led r ∙ ap (λ o. follow c 1 (old_path o r)) k in
          g.alone _ _ (rw (← lq) there) (sym lq ∙ (same ∙ lr))

      mine : (q t : List Side) → rest_after c a d 1 q ≡ Some t → q ≡ g.front ++ d ∷ t
      mine q t h =
          let k = taken c c' a d _ g.exchanged 1 q t h in
          let first : g.front ≡ k.front = g.alone g.front k.front (rw g.at_front g.is_slot)
          (g.at_front ∙ sym k.comes) in
          k.is ∙ ap (λ (p : List Side). p ++ d ∷ t) (sym first)

      mixed : (q r t : List Side) → rest_after c a d 1 q ≡ None → q ≡ g.front ++ d ∷ (way ++ t) → ⊥
      mixed q r t h is = is_taken c a d 1 g.front (way ++ t) g.at_front (rw is at h)

      go : (o p : Option (List Side)) → rest_after c a d 1 q ≡ o → rest_after c a d 1 r ≡ p → q ≡ r
      go None None h k = old_same None None h k
      go None (Some t) h k = absurd (mixed q r t h (old_same None (Some t) h k))
      go (Some t) None h k = absurd (mixed r q t k (sym (old_same (Some t) None h k)))
      go (Some t) (Some u) h k =
          let rest : d ∷ (way ++ t) ≡ d ∷ (way ++ u) = append_cancel g.front _ _ (old_same (Some t) (Some u) h k) in
          let inner : t ≡ u = append_cancel way t u (cc) in
          mine q t h ∙ (ap (λ (x : List Side). g.front ++ d ∷ x) inner ∙ sym (mine r u k))
