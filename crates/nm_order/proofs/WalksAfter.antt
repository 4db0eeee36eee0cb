-- Lists alone: where the keys that the walks of a log read are told by one function of slots, each
-- walk of the log is an arrival.
use Rattle.std.proofs.Common.{◌≡◌, ℕ, inl, inr, true, List, [], ◌∷◌, ◌++◌, append_assoc, refl, sym, ap, subst, ◌∙◌}
use Rattle.std.proofs.lemmas.List.{append-nil}
use Rattle.std.specs.Prelude.{Some, All, Contains}
use Rattle.std.proofs.lemmas.Option.{same_Some}
use Rattle.nm_edge.specs.declared.edge.Side.{Side}
use Rattle.nm_edge.specs.declared.edge.Side.TheVariants.{Left}
use Rattle.nm_model.specs.declared.event.Field.TheVariants.{Key, Edge as EdgeOn}
use Rattle.nm_model.specs.declared.event.Event.TheVariants.{Look}
use Rattle.nm_model.specs.declared.reply.Reply.TheVariants.{KeyIs, EdgeIs}
use Rattle.nm_model.specs.declared.arrivals.Arrival.{Arrival}
use Rattle.nm_model.specs.Searches.{side_of}
use Rattle.nm_model.specs.Walks.{Entry, IsPart, Leads, WalkComes, WalkReads, WalkEnds, IsOfWalk}
use Rattle.nm_model.specs.Walks.Leads.{begins, leads_on}
use Rattle.nm_order.specs.WalksToArrivals.{HasArrival, ComingsAreArrivals, ReadingsAreArrivals, EndsAreArrivals}
use Rattle.nm_order.proofs.LogParts.{part_grows, part_within, part_ends}
use Rattle.nm_order.proofs.ArrivalsOfLooks.{walked_by, still_has, key_read, end_read, first_read, next_read}

-- the arrivals after a part of a log
abbrev pub walks_after : ℕ → List Arrival → List Entry → List Arrival
walks_after k ws [] = ws
walks_after k ws (e ∷ es) = walks_after k (walked_by k ws e) es

pub walks_more : (k : ℕ) (ws : List Arrival) (es : List Entry) (e : Entry)
    → walks_after k ws (es ++ e ∷ []) ≡ walked_by k (walks_after k ws es) e
walks_more k ws [] e = refl
walks_more k ws (x ∷ es) e = walks_more k (walked_by k ws x) es e

-- the keys that walks read are those
abbrev pub ReadingsAre : (ℕ → ℕ) → ℕ → List Entry → Type 0
ReadingsAre keys k log = (slot parent : ℕ) (side : Side) (v : ℕ) → WalkReads k log slot parent side v → keys slot ≡ v

-- and so in a part of the log
pub readings_less : (keys : ℕ → ℕ) (k : ℕ) (log more : List Entry) → ReadingsAre keys k (log ++ more)
    → ReadingsAre keys k log
readings_less keys k log more are slot parent side v r = are slot parent side v
    (record { looks = r.looks; leads = r.leads; is_part = part_grows more r.is_part })

pub readings_within : (keys : ℕ → ℕ) (k : ℕ) (part log : List Entry) → IsPart part log → ReadingsAre keys k log
    → ReadingsAre keys k part
readings_within keys k part log p are slot parent side v r = are slot parent side v
    (record { looks = r.looks; leads = r.leads; is_part = part_within p _ r.is_part })

-- ---- what the list has of the log

-- each walk of the log is an arrival
pub record HasWalks (k : ℕ) (log : List Entry) (ws : List Arrival) : Type 0 where
  pub comes : (slot parent : ℕ) (side : Side) → WalkComes k log slot parent side
      → HasArrival ws slot parent side (λ a. Unit {0})
  pub reads : (slot parent : ℕ) (side : Side) (v : ℕ) → WalkReads k log slot parent side v
      → HasArrival ws slot parent side (λ a. a.key ≡ Some v)
  pub ends : (slot parent : ℕ) (side : Side) (v : ℕ) → WalkEnds k log slot parent side v
      → HasArrival ws slot parent side (λ a. (a.key ≡ Some v) × (a.ended ≡ true))

module _ (k : ℕ) (log : List Entry) (ws : List Arrival) (has : HasWalks k log ws) (e : Entry) where
  more_comes : (looks : List Entry) (slot parent : ℕ) (side : Side) → Leads k looks slot parent side
      → IsPart looks (log ++ e ∷ []) → HasArrival (walked_by k ws e) slot parent side (λ a. Unit {0})
  more_comes looks slot parent side (begins n there) p = elim (part_ends [] log (Look 2 (EdgeOn Left), EdgeIs n) e p) [
    | inl q ↦ still_has k ws e (λ a. Unit {0}) (λ a b g u. tt)
        (has.comes n.slot 2 Left (record {
          looks = (Look 2 (EdgeOn Left), EdgeIs n)
              ∷ [];
          leads = begins n there;
          is_part = q;
        }))
    | inr q ↦ subst (λ (f : Entry). HasArrival (walked_by k ws f) n.slot 2 Left (λ a. Unit {0})) q.0
        (first_read k ws n.slot there)
  ]
  more_comes looks slot parent side (leads_on {looks = before} {slot = above} {parent = over} {side = turn} leads v n
      there) p =
      elim (part_ends (before ++ (Look above Key, KeyIs v) ∷ []) log (Look above (EdgeOn (side_of k v)), EdgeIs n) e
      (subst (λ (es : List Entry). IsPart es (log ++ e ∷ []))
      (sym (append_assoc before ((Look above Key, KeyIs v) ∷ [])
      ((Look above (EdgeOn (side_of k v)), EdgeIs n) ∷ []))) p)) [
        | inl q ↦ still_has k ws e (λ a. Unit {0}) (λ a b g u. tt) (has.comes n.slot above (side_of k v) (record {
          looks = before ++ (Look above Key, KeyIs v) ∷ (Look above (EdgeOn (side_of k v)), EdgeIs n) ∷ [];
          leads = leads_on leads v n there;
          is_part = subst (λ (es : List Entry). IsPart es log)
              (append_assoc before ((Look above Key, KeyIs v) ∷ [])
              ((Look above (EdgeOn (side_of k v)), EdgeIs n) ∷ [])) q;
        }))
        | inr q ↦ subst (λ (f : Entry). HasArrival (walked_by k ws f) n.slot above (side_of k v) (λ a. Unit {0})) q.0
            (next_read k v ws n.slot there (has.reads above over turn v
            (record { looks = before; leads = leads; is_part = q.1 })))
      ]

  more_ends : (slot parent : ℕ) (side : Side) (v : ℕ) → WalkEnds k (log ++ e ∷ []) slot parent side v
      → HasArrival (walked_by k ws e) slot parent side (λ a. (a.key ≡ Some v) × (a.ended ≡ true))
  more_ends slot parent side v r =
      elim (part_ends (r.looks ++ (Look slot Key, KeyIs v) ∷ []) log
      (Look slot (EdgeOn (side_of k v)), EdgeIs r.null) e
      (subst (λ (es : List Entry). IsPart es (log ++ e ∷ []))
      (sym (append_assoc r.looks ((Look slot Key, KeyIs v) ∷ [])
      ((Look slot (EdgeOn (side_of k v)), EdgeIs r.null) ∷ []))) r.is_part)) [
        | inl q ↦ still_has k ws e (λ a. (a.key ≡ Some v) × (a.ended ≡ true)) (λ a b g u. (g.key v u.0, g.ended u.1))
            (has.ends slot parent side v (record {
              looks = r.looks;
              leads = r.leads;
              null = r.null;
              is_null = r.is_null;
              is_part = subst (λ (es : List Entry). IsPart es log)
                  (append_assoc r.looks ((Look slot Key, KeyIs v) ∷ [])
                  ((Look slot (EdgeOn (side_of k v)), EdgeIs r.null) ∷ [])) q;
            }))
        | inr q ↦ subst (λ (f : Entry). HasArrival (walked_by k ws f) slot parent side
            (λ a. (a.key ≡ Some v) × (a.ended ≡ true))) q.0
            (end_read k v ws r.null.slot r.is_null (has.reads slot parent side v
            (record { looks = r.looks; leads = r.leads; is_part = q.1 })))
      ]

  -- a key that is looked at is the one that the arrivals at that slot have
  module _ (sound : All (IsOfWalk k log) ws) (keys : ℕ → ℕ) (are : ReadingsAre keys k (log ++ e ∷ [])) where
    more_reads : (slot parent : ℕ) (side : Side) (v : ℕ) → WalkReads k (log ++ e ∷ []) slot parent side v
        → HasArrival (walked_by k ws e) slot parent side (λ a. a.key ≡ Some v)
    more_reads slot parent side v r = elim (part_ends r.looks log (Look slot Key, KeyIs v) e r.is_part) [
      | inl q ↦ still_has k ws e (λ a. a.key ≡ Some v) (λ a b g u. g.key v u)
          (has.reads slot parent side v (record { looks = r.looks; leads = r.leads; is_part = q }))
      | inr q ↦ subst (λ (f : Entry). HasArrival (walked_by k ws f) slot parent side (λ a. a.key ≡ Some v)) q.0
          (key_read ws v agrees (has.comes slot parent side
          (record { looks = r.looks; leads = r.leads; is_part = q.1 })))
    ]
      where
        agrees : (a : Arrival) → Contains ws a → a.slot ≡ slot → (n : ℕ) → a.key ≡ Some n → n ≡ v
        agrees a there at n is =
            let w : IsOfWalk k log a = subst (IsOfWalk k log) there.2 (sound there.0 a there.1) in
            sym (readings_less keys k log (e ∷ []) are a.slot a.parent a.side n (w.reads n is))
            ∙ (ap keys at ∙ are slot parent side v r)

    pub has_more : HasWalks k (log ++ e ∷ []) (walked_by k ws e)
    has_more = record {
      comes = λ slot parent side r. more_comes r.looks slot parent side r.leads r.is_part;
      reads =
          more_reads;
      ends = more_ends;
    }

-- ---- a whole log

pub nothing_comes : (k : ℕ) → HasWalks k [] []
nothing_comes k = record {
  comes = λ slot parent side r. absurd (no_walk r.looks slot parent side r.leads r.is_part);
  reads = λ slot parent side v r. absurd (no_last r.looks (Look slot Key, KeyIs v) [] r.is_part);
  ends = λ slot parent side v r. absurd (no_last r.looks (Look slot Key, KeyIs v)
      ((Look slot (EdgeOn (side_of k v)), EdgeIs r.null) ∷ []) r.is_part);
}
  where
    no_last : (xs : List Entry) (b : Entry) (rest : List Entry) → IsPart (xs ++ b ∷ rest) [] → ⊥
    no_last [] b rest p = elim p [ ]
    no_last (x ∷ xs) b rest p = elim p [ ]

    no_walk : (looks : List Entry) (slot parent : ℕ) (side : Side) → Leads k looks slot parent side → IsPart looks []
        → ⊥
    no_walk looks slot parent side (begins n there) p = elim p [ ]
    no_walk looks slot parent side (leads_on {looks = before} {slot = above} leads v n there) p = no_last before
        (Look above Key, KeyIs v) ((Look above (EdgeOn (side_of k v)), EdgeIs n) ∷ []) p

-- where each part of the log from its start has only arrivals of its walks, and the keys that walks
-- read are told by one function
module _ (k : ℕ) (keys : ℕ → ℕ) (log : List Entry)
    (sound : (part more : List Entry) → part ++ more ≡ log → All (IsOfWalk k part) (walks_after k [] part))
    (are : ReadingsAre keys k log) where
  from_part : (rest part : List Entry) → part ++ rest ≡ log → HasWalks k part (walks_after k [] part)
      → HasWalks k log (walks_after k [] log)
  from_part [] part is has = subst (λ (es : List Entry). HasWalks k es (walks_after k [] es))
      (sym (append-nil part) ∙ is) has
  from_part (e ∷ rest) part is has =
      let longer : (part ++ e ∷ []) ++ rest ≡ log = append_assoc part (e ∷ []) rest ∙ is in
      let less : ReadingsAre keys k (part ++ e ∷ []) = readings_less keys k (part ++ e ∷ []) rest
      (subst (ReadingsAre keys k) (sym longer) are) in
      from_part rest (part ++ e ∷ []) longer
      (subst (HasWalks k (part ++ e ∷ [])) (sym (walks_more k [] part e))
      (has_more k part (walks_after k [] part) has e (sound part (e ∷ rest) is) keys less))

  pub walks_are_there : HasWalks k log (walks_after k [] log)
  walks_are_there = from_part log [] refl (nothing_comes k)

-- ---- arrivals and walks are the same

module _ (k : ℕ) (log : List Entry) (ws : List Arrival) (sound : All (IsOfWalk k log) ws)
    (has : HasWalks k log ws) where
  module _ (slot parent : ℕ) (side : Side) where
    of_walk : {P : Arrival → Type 0} (h : HasArrival ws slot parent side P) → IsOfWalk k log h.arrival
    of_walk h = subst (IsOfWalk k log) h.there.2 (sound h.there.0 h.arrival h.there.1)

    by_edge : {P : Arrival → Type 0} (W : ℕ → ℕ → Side → Type 0) (h : HasArrival ws slot parent side P)
        → W h.arrival.slot h.arrival.parent h.arrival.side → W slot parent side
    by_edge W h w = subst (λ (d : Side). W slot parent d) h.on_side
        (subst (λ (p : ℕ). W slot p h.arrival.side) h.by_parent
        (subst (λ (x : ℕ). W x h.arrival.parent h.arrival.side) h.at_slot w))

  pub comings : ComingsAreArrivals k log ws
  comings slot parent side = (
    has.comes slot parent side,
    λ h. by_edge slot parent side (WalkComes k log) h
        (of_walk slot parent side h).comes,
  )

  pub readings : ReadingsAreArrivals k log ws
  readings slot parent side v = (
    has.reads slot parent side v,
    λ h. by_edge slot parent side
        (λ x p d. WalkReads k log x p d v) h ((of_walk slot parent side h).reads v h.holds),
  )

  pub ends : EndsAreArrivals k log ws
  ends slot parent side v = (has.ends slot parent side v, back)
    where
      back : HasArrival ws slot parent side (λ a. (a.key ≡ Some v) × (a.ended ≡ true))
          → WalkEnds k log slot parent side v
      back h =
          let r = (of_walk slot parent side h).ends h.holds.1 in
          subst (WalkEnds k log slot parent side) (same_Some r.0 v (sym r.1 ∙ h.holds.0))
          (by_edge slot parent side (λ x p d. WalkEnds k log x p d r.0) h r.2)
