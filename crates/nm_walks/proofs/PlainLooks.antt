-- Looks that are added to a log under a pin for no call: a walk begins, goes on, and tells of its
-- key.
use Rattle.std.proofs.Common.{◌≡◌, ℕ, Bool, true, false, cond, List, [], ◌∷◌, ◌++◌, append-nil, append_assoc, refl, sym, ap, subst, ◌∙◌, arith, true≢false}
use Rattle.std.specs.List.{list_all}
use Rattle.std.proofs.lemmas.Bool.{and_parts}
use Rattle.nm_edge.specs.Edges.{Edge}
use Rattle.nm_edge.specs.declared.edge.Side.{Side}
use Rattle.nm_edge.specs.declared.edge.Side.TheVariants.{Left, Right}
use Rattle.nm_model.specs.declared.event.Event.TheVariants.{Look}
use Rattle.nm_model.specs.declared.event.Field.{Field}
use Rattle.nm_model.specs.declared.event.Field.TheVariants.{Key as KeyOf, Edge as EdgeOn}
use Rattle.nm_model.specs.declared.reply.Reply.{Reply}
use Rattle.nm_model.specs.declared.reply.Reply.TheVariants.{KeyIs, EdgeIs}
use Rattle.nm_model.specs.Searches.{side_of}
use Rattle.nm_model.specs.Walks.{Entry, begins_anew, since_pin, IsPart}
use Rattle.nm_model.specs.Walks.IsPart.{nothing, takes, skips}
use Rattle.nm_order.proofs.WalksOfRuns.{since_pin-append}
use Rattle.nm_walks.specs.declared.looking.Onward.{Onward}
use Rattle.nm_walks.specs.AddedLooks.{is_look, AddsLooks}
use Rattle.nm_walks.specs.Walks.{Reads, edge_on}

-- ---- looks alone

-- the looks at a node's key and at its edges
abbrev pub node_looks : ℕ → ℕ → Edge → Edge → List Entry
node_looks x key left right = (Look x KeyOf, KeyIs key) ∷ (Look x (EdgeOn Left), EdgeIs left)
    ∷ (Look x (EdgeOn Right), EdgeIs right) ∷ []

pub read_grows : (k x : ℕ) (old new : List Entry) (on : Onward) (r : Reads k x old new on)
    → new ≡ old ++ node_looks x on.found r.0 r.1
read_grows k x old new on r = r.2 ∙ (append_assoc (old ++ (Look x KeyOf, KeyIs on.found) ∷ [])
    ((Look x (EdgeOn Left), EdgeIs r.0) ∷ []) ((Look x (EdgeOn Right), EdgeIs r.1) ∷ [])
    ∙ append_assoc old ((Look x KeyOf, KeyIs on.found) ∷ [])
    ((Look x (EdgeOn Left), EdgeIs r.0) ∷ (Look x (EdgeOn Right), EdgeIs r.1) ∷ []))

abbrev pub read_added : (k x : ℕ) (old new : List Entry) (on : Onward) → Reads k x old new on → AddsLooks 3 old new
read_added k x old new on r = record {
  looks = node_looks x on.found r.0 r.1;
  grown = read_grows k x old new on r;
  only = refl;
  few = omega arith;
}

-- ---- looks win nothing

pub look_is : (P : Entry → Type 0) → ((x : ℕ) (f : Field) (r : Reply) → P (Look x f, r)) → (e : Entry)
    → is_look e ≡ true → P e
look_is P f (Look x field, r) is = f x field r
look_is P f e is = absurd (true≢false (sym is))

-- ---- the log since the pin

since_looks : (so_far looks : List Entry) → list_all is_look looks ≡ true → since_pin so_far looks ≡ so_far ++ looks
since_looks so_far [] only = sym (append-nil so_far)
since_looks so_far (e ∷ es) only =
    let parts = and_parts (is_look e) (list_all is_look es) only in
    ap (λ (b : Bool). since_pin (cond b [] (so_far ++ e ∷ [])) es)
    (look_is (λ e. begins_anew e ≡ false) (λ x f r. refl) e parts.0)
    ∙ (since_looks (so_far ++ e ∷ []) es parts.1 ∙ append_assoc so_far (e ∷ []) es)

pub since_grows : {n : ℕ} (old new : List Entry) (a : AddsLooks n old new)
    → since_pin [] new ≡ since_pin [] old ++ a.looks
since_grows old new a = ap (since_pin []) a.grown
    ∙ (since_pin-append [] old a.looks ∙ since_looks (since_pin [] old) a.looks a.only)

-- ---- a walk begins

-- at the left edge of slot 2, whatever its key is
pub first_look : (old : List Entry) (e : Edge) → IsPart ((Look 2 (EdgeOn Left), EdgeIs e) ∷ [])
    (since_pin [] (old ++ (Look 2 (EdgeOn Left), EdgeIs e) ∷ []))
first_look old e = subst (IsPart ((Look 2 (EdgeOn Left), EdgeIs e) ∷ []))
    (sym (since_pin-append [] old ((Look 2 (EdgeOn Left), EdgeIs e) ∷ []))) (behind (since_pin [] old))
  where
    behind : (xs : List Entry) → IsPart ((Look 2 (EdgeOn Left), EdgeIs e) ∷ [])
        (xs ++ (Look 2 (EdgeOn Left), EdgeIs e) ∷ [])
    behind [] = takes nothing
    behind (x ∷ xs) = skips (behind xs)

-- ---- and goes on

-- a part of a first list and one of a second are one of both
part_joined : {xs ys us vs : List Entry} → IsPart xs us → IsPart ys vs → IsPart (xs ++ ys) (us ++ vs)
part_joined nothing q = q
part_joined (takes p) q = takes (part_joined p q)
part_joined (skips p) q = skips (part_joined p q)

-- the two looks that a walk takes at a node
abbrev pub walk_looks : ℕ → ℕ → Onward → List Entry
walk_looks k x on = (Look x KeyOf, KeyIs on.found) ∷ (Look x (EdgeOn (side_of k on.found)), EdgeIs on.next) ∷ []

module _ (old new : List Entry) (k x : ℕ) (on : Onward) (r : Reads k x old new on) where
  -- of the three looks a walk takes two
  two_of_three : IsPart (walk_looks k x on) (node_looks x on.found r.0 r.1)
  two_of_three = subst (λ (n : Edge). IsPart ((Look x KeyOf, KeyIs on.found)
      ∷ (Look x (EdgeOn (side_of k on.found)), EdgeIs n) ∷ []) (node_looks x on.found r.0 r.1)) (sym r.4)
      (subst (λ (d : Side). IsPart ((Look x KeyOf, KeyIs on.found)
      ∷ (Look x (EdgeOn d), EdgeIs (edge_on on.side r.0 r.1)) ∷ []) (node_looks x on.found r.0 r.1)) r.3 (by on.side))
    where
      by : (d : Side) → IsPart ((Look x KeyOf, KeyIs on.found) ∷ (Look x (EdgeOn d), EdgeIs (edge_on d r.0 r.1))
          ∷ []) (node_looks x on.found r.0 r.1)
      by Left = takes (takes (skips nothing))
      by Right = takes (skips (takes nothing))

  pub looks_longer : (looks : List Entry) → IsPart looks (since_pin [] old)
      → IsPart (looks ++ walk_looks k x on) (since_pin [] new)
  looks_longer looks part = subst (IsPart (looks ++ walk_looks k x on))
      (sym (since_grows old new (read_added k x old new on r))) (part_joined part two_of_three)
