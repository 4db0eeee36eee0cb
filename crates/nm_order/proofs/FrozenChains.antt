-- A chain that is frozen by facts is found by the way of a splice: cut at its loops, it has no slot
-- twice, and so it is no longer than the layout has nodes.
use Rattle.std.proofs.Common.{◌≡◌, ◌≢◌, ℕ, zero, suc, ◌<◌, ◌≤◌, inl, inr, eqb, Bool, true, false, cond, not, ◌&&◌, List, [], ◌∷◌, length, refl, sym, ap, subst, ◌∙◌, arith, true≢false}
use Rattle.std.specs.Prelude.{Some, None, is_some}
use Rattle.std.specs.List.{list_any, IsDistinct, AllByRecursion}
use native.Mathlib.Decide.{ℕ_discrete}
use Rattle.std.proofs.lemmas.Bool.{eqb-true, ne_eqb, and_from, or_cases, or_parts, false_from_ne_true}
use Rattle.std.proofs.lemmas.Map.Steps.{length-le_from_distinct_below}
use Rattle.nm_edge.specs.Edges.{other}
use Rattle.nm_edge.specs.Layouts.{Layout}
use Rattle.nm_edge.specs.declared.edge.Side.{Side}
use Rattle.nm_edge.specs.declared.edge.Side.TheVariants.{Left, Right}
use Rattle.nm_edge.specs.declared.node.NodeId.{NodeId}
use Rattle.nm_model.specs.Memory.{child}
use Rattle.nm_model.specs.Knowledge.{Knowledge, knows, read, is_flagged, is_tagged, slot_read, leads_on, onward, way}
use Rattle.nm_model.specs.Step.{is_frozen}
use Rattle.nm_model.specs.Searches.{Search}
use Rattle.nm_model.specs.Runs.{State, of}
use Rattle.nm_model.specs.Walks.{Entry}
use Rattle.nm_model.specs.Ordered.{ordered, search_of, after_in}
use Rattle.nm_model.proofs.Ways.{way_here, way_next, some_before}
use Rattle.nm_laws.proofs.Pictures.{IsLive}
use Rattle.nm_laws.proofs.Views.{picture}
use Rattle.nm_laws.proofs.TreeSteps.{Lawful}
use Rattle.nm_laws.proofs.Retired.{layout_after}
use Rattle.nm_order.specs.Logs.{known_by}
use Rattle.nm_order.specs.Facts.{Fact, HoldsIn, Holds}
use Rattle.nm_order.specs.Facts.Fact.{IsTagged, IsFlagged}
use Rattle.nm_order.specs.Told.{FrozenTo, FrozenChainsMayBeCut}
use Rattle.nm_order.specs.Told.FrozenTo.{ends_there, goes_down}
use Rattle.nm_order.proofs.OrderedLaws.{law_of_state}
use Rattle.nm_order.proofs.LastEntries.{ToldBy, told_by_part}
use Rattle.nm_order.proofs.FactLaws.{told_holds}
use Rattle.nm_order.proofs.ToldNodes.{frozen_so}

-- ---- chains without loops

-- the slots of a way to p, from a slot on
data Chain (k : Knowledge) (p : ℕ) : ℕ → List ℕ → Type 0 where
  stops : Chain k p p (p ∷ [])
  steps : {x : ℕ} {xs : List ℕ} (d : Side) → x ≢ p → onward k x ≡ Some d → Chain k p (slot_read (read k x d)) xs
      → Chain k p x (x ∷ xs)

chain_way : {k : Knowledge} {p x : ℕ} {xs : List ℕ} → Chain k p x xs → (fuel : ℕ) → length xs ≤ fuel
    → is_some (way fuel k x p) ≡ true
chain_way stops zero long = absurd (omega (arith, long))
chain_way {k} {p} stops (suc fuel) long = ap is_some (way_here (suc fuel) fuel k p p (omega arith) refl)
chain_way (steps d ne goes rest) zero long = absurd (omega (arith, long))
chain_way {k} {p} {x} (steps d ne goes rest) (suc fuel) long = ap is_some
    (way_next (suc fuel) fuel k x p d (omega arith) ne goes)
    ∙ (some_before d (way fuel k (slot_read (read k x d)) p) ∙ chain_way rest fuel (omega (arith, long)))

-- each is a slot of the layout
abbrev pub Within : ℕ → List ℕ → Type 0
Within N [] = Unit {0}
Within N (x ∷ xs) = ((1 ≤ x) × (x ≤ N)) × Within N xs

-- none is another
abbrev pub Apart : ℕ → List ℕ → Type 0
Apart x [] = Unit {0}
Apart x (y ∷ ys) = (eqb x y ≡ false) × Apart x ys

abbrev pub Distinct : List ℕ → Type 0
Distinct [] = Unit {0}
Distinct (x ∷ xs) = Apart x xs × Distinct xs

apart_from : (x : ℕ) (xs : List ℕ) → list_any (eqb x) xs ≡ false → Apart x xs
apart_from x [] none = tt
apart_from x (y ∷ ys) none = let parts = or_parts (eqb x y) (list_any (eqb x) ys) none in
    (parts.0, apart_from x ys parts.1)

all_apart : (x : ℕ) (xs : List ℕ) → Apart x xs → AllByRecursion (λ y. eqb x y ≡ false) xs
all_apart x [] apart = tt
all_apart x (y ∷ ys) apart = (apart.0, all_apart x ys apart.1)

are_distinct : (xs : List ℕ) → Distinct xs → IsDistinct eqb xs
unfolding IsDistinct
are_distinct [] distinct = tt
are_distinct (x ∷ xs) distinct = (all_apart x xs distinct.0, are_distinct xs distinct.1)

within_is : (N : ℕ) (xs : List ℕ) → Within N xs → (q : ℕ) → list_any (eqb q) xs ≡ true → (1 ≤ q) × (q ≤ N)
within_is N [] within q is = absurd (true≢false (sym is))
within_is N (x ∷ xs) within q is = elim (or_cases (eqb q x) (list_any (eqb q) xs) is) [
  | inl here ↦ rw (eqb-true q x here) within.0
  | inr later ↦ within_is N xs within.1 q later
]

zero_apart : (N : ℕ) (xs : List ℕ) → Within N xs → Apart 0 xs
zero_apart N [] within = tt
zero_apart N (x ∷ xs) within = (ne_eqb 0 x (λ z. let low = within.0.0 in omega arith), zero_apart N xs within.1)

-- slots of the layout of which none is another are no more than the layout has
pub few : (N : ℕ) (xs : List ℕ) → Distinct xs → Within N xs → length xs ≤ N
few N xs distinct within =
    let all = length-le_from_distinct_below (0 ∷ xs) (suc N)
    (are_distinct (0 ∷ xs) (zero_apart N xs within, distinct)) below in omega (arith, all)
  where
    below : (q : ℕ) → list_any (eqb q) (0 ∷ xs) ≡ true → q < suc N
    below q is = elim (or_cases (eqb q 0) (list_any (eqb q) xs) is) [
      | inl here ↦ (let z = eqb-true q 0 here in omega arith)
      | inr later ↦ (let r = within_is N xs within q later in omega arith)
    ]

record Path (k : Knowledge) (N p x : ℕ) : Type 0 where
  slots : List ℕ
  chain : Chain k p x slots
  distinct : Distinct slots
  within : Within N slots

-- a chain from one of its slots on
cut_back : {k : Knowledge} {p x : ℕ} {xs : List ℕ} (N y : ℕ) → Chain k p x xs → Distinct xs → Within N xs
    → list_any (eqb y) xs ≡ true → Path k N p y
cut_back {k} {p} N y stops distinct within is = elim (or_cases (eqb y p) false is) [
  | inl here ↦ subst (λ (z : ℕ). Path k N p z) (sym (eqb-true y p here))
      (record { slots = p ∷ []; chain = stops; distinct = distinct; within = within })
  | inr none ↦ absurd (true≢false (sym none))
]
cut_back {k} {p} N y (steps {x} {xs} d ne goes rest) distinct within is = elim
    (or_cases (eqb y x) (list_any (eqb y) xs) is) [
      | inl here ↦ subst (λ (z : ℕ). Path k N p z) (sym (eqb-true y x here))
          (record { slots = x ∷ xs; chain = steps d ne goes rest; distinct = distinct; within = within })
      | inr later ↦ cut_back N y rest distinct.1 within.1 later
    ]

-- ---- the chain of a state's facts

module _ (s : State) (h : ℕ → ℕ) (law : Lawful s h) (w : ℕ) (S : Search) where
  abbrev holds : Fact → Type 0
  holds fact = HoldsIn (of s w) S fact

  in_range : (x : ℕ) → knows (of s w) x ≡ true → (1 ≤ x) × (x ≤ s.layout.nodes)
  in_range x known = law.tree.known w x known

  some_slot : (x : ℕ) → knows (of s w) x ≡ true → x ≢ 0
  some_slot x known z = let r = law.tree.known w x known in absurd (omega arith)

  live : (x : ℕ) → knows (of s w) x ≡ true → IsLive (picture s h) x
  live x known = law.tree.guarded w x (record {
    from = x;
    known = known;
    path = [];
    ends = refl;
    is_slot = some_slot
        x known;
  })

  leads_high : (x : ℕ) (d : Side) (y : ℕ) → HoldsIn (of s w) S (IsFlagged x d y) → (g : Side) × (6 ≤ child s.memory x g)
  leads_high x d y f = (
    d,
    law.tree.flags x d (live x (law.tree.reads w x d f.0 f.1))
        (law.tree.flag_read w x d f.0 f.1 f.2).0,
  )

  -- a slot of the chain has an edge that is not null
  has_child : {p : ℕ} {keep : Side} {y : ℕ} {ns : List NodeId}
      → FrozenTo (λ fact. HoldsIn (of s w) S fact) p keep y ns → (g : Side) × (6 ≤ child s.memory y g)
  has_child {p} {keep} (ends_there {leaf} tag flag b c) = leads_high p (other keep) leaf flag
  has_child (goes_down {slot} {to} {leaf} side tag flag b c rest) = leads_high slot (other side) leaf flag

  -- a tagged edge to such a slot is not flagged, for a flagged edge leads to a leaf
  unflagged : (x : ℕ) (d : Side) (t : ℕ) → HoldsIn (of s w) S (IsTagged x d t)
      → (g : Side) × (6 ≤ child s.memory t g) → is_flagged (read (of s w) x d) ≡ false
  unflagged x d t tag down = ap is_flagged tag.1 ∙ false_from_ne_true tag.0.flag (λ flag.
      let known = law.tree.reads w x d tag.0 tag.1 in
      let is = law.tree.flag_read w x d tag.0 tag.1 flag in
      let null : child s.memory (child s.memory x d) down.0
      ≡ 0 = law.tree.leaf_known w x d (record {
        from = x;
        known = known;
        path = [];
        ends = refl;
        is_slot =
            some_slot x known;
      }) is.0 down.0 in
      let same : child s.memory t down.0 ≡ 0 = ap (λ (y : ℕ). child s.memory y down.0) (sym (is.1 ∙ tag.3)) ∙ null in
      let high = down.1 in absurd (omega arith))

  goes_on : (x : ℕ) (d : Side) (t y : ℕ) → HoldsIn (of s w) S (IsTagged x d t)
      → HoldsIn (of s w) S (IsFlagged x (other d) y) → (g : Side) × (6 ≤ child s.memory t g)
      → onward (of s w) x ≡ Some d
  goes_on x d t y tag flag down = by d lead flag
    where
      both : (a b c : Bool) → a ≡ true → b ≡ true → c ≡ false → (a && (b && not c)) ≡ true
      both a b c i j k = rw (i, j, k) refl

      lead : leads_on (of s w) x d ≡ true
      lead = both (is_tagged (read (of s w) x d)) (is_flagged (read (of s w) x (other d)))
          (is_flagged (read (of s w) x d)) (ap is_tagged tag.1 ∙ tag.2) (ap is_flagged flag.1 ∙ flag.2)
          (unflagged x d t tag down)

      never : (a b c : Bool) → c ≡ true → (a && (b && not c)) ≡ false
      never true true c i = ap not i
      never true false c i = refl
      never false b c i = refl

      by : (d : Side) → leads_on (of s w) x d ≡ true → HoldsIn (of s w) S (IsFlagged x (other d) y)
          → onward (of s w) x ≡ Some d
      by Left lead flag = ap (λ (b : Bool). cond b (Some Left) (cond (leads_on (of s w) x Right) (Some Right) None))
          lead
      by Right lead flag = ap (λ (b : Bool). cond b (Some Left) (cond (leads_on (of s w) x Right) (Some Right) None))
          (never (is_tagged (read (of s w) x Left)) (is_flagged (read (of s w) x Right))
          (is_flagged (read (of s w) x Left)) (ap is_flagged flag.1 ∙ flag.2))
          ∙ ap (λ (b : Bool). cond b (Some Right) None) lead

  -- the chain without its loops
  last_alone : (p : ℕ) → knows (of s w) p ≡ true → Path (of s w) s.layout.nodes p p
  last_alone p known = record { slots = p ∷ []; chain = stops; distinct = (tt, tt); within = (in_range p known, tt) }

  path_of : {p : ℕ} {keep : Side} {x : ℕ} {ns : List NodeId} → FrozenTo (λ fact. HoldsIn (of s w) S fact) p keep x ns
      → Path (of s w) s.layout.nodes p x
  path_of {p} {keep} (ends_there tag flag b c) = last_alone p (law.tree.reads w p keep tag.0 tag.1)
  path_of {p} {keep} (goes_down {slot} {to} {leaf} side tag flag b c rest) = elim (ℕ_discrete slot p) [
    | yes is ↦ subst (λ (z : ℕ). Path (of s w) s.layout.nodes p z) (sym is)
        (last_alone p (subst (λ (z : ℕ). knows (of s w) z ≡ true) is known))
    | no ne ↦ on ne (path_of rest) (has_child rest)
  ]
    where
      known : knows (of s w) slot ≡ true
      known = law.tree.reads w slot side tag.0 tag.1

      next : slot_read (read (of s w) slot side) ≡ to
      next = ap slot_read tag.1 ∙ tag.3

      on : slot ≢ p → Path (of s w) s.layout.nodes p to → (g : Side) × (6 ≤ child s.memory to g)
          → Path (of s w) s.layout.nodes p slot
      on ne path down = by (list_any (eqb slot) path.slots) refl
        where
          by : (b : Bool) → list_any (eqb slot) path.slots ≡ b → Path (of s w) s.layout.nodes p slot
          by true back = cut_back s.layout.nodes slot path.chain path.distinct path.within back
          by false new = record {
            slots = slot ∷ path.slots;
            chain = steps side ne (goes_on slot side to leaf tag flag down)
                (subst (λ (y : ℕ). Chain (of s w) p y path.slots) (sym next) path.chain);
            distinct = (apart_from slot path.slots new, path.distinct);
            within = (in_range slot known, path.within);
          }

  last_marks : {p : ℕ} {keep : Side} {x : ℕ} {ns : List NodeId}
      → FrozenTo (λ fact. HoldsIn (of s w) S fact) p keep x ns
      → (is_tagged (read (of s w) p keep) ≡ true) × (is_flagged (read (of s w) p (other keep)) ≡ true)
  last_marks (ends_there tag flag b c) = (ap is_tagged tag.1 ∙ tag.2, ap is_flagged flag.1 ∙ flag.2)
  last_marks (goes_down side tag flag b c rest) = last_marks rest

  frozen_known : {p : ℕ} {keep : Side} {x : ℕ} {ns : List NodeId}
      → FrozenTo (λ fact. HoldsIn (of s w) S fact) p keep x ns → is_frozen s.layout (of s w) x p keep ≡ true
  frozen_known {p} {keep} {x} f =
      let path = path_of f in
      let marks = last_marks f in
      and_from (is_some (way s.layout.nodes (of s w) x p))
      (is_tagged (read (of s w) p keep) && is_flagged (read (of s w) p (other keep)))
      (chain_way path.chain s.layout.nodes (few s.layout.nodes path.slots path.distinct path.within))
      (and_from (is_tagged (read (of s w) p keep)) (is_flagged (read (of s w) p (other keep))) marks.0 marks.1)

pub frozen_chains_may_be_cut : FrozenChainsMayBeCut
frozen_chains_may_be_cut L enough w log l x p keep nodes frozen = by told
  where
    told : ToldBy L w log (after_in (ordered L) l.turns)
    told = subst (λ (log : List Entry). ToldBy L w log (after_in (ordered L) l.turns)) l.is_part
        (told_by_part L enough w l.worker l.turns l.keys)

    by : ToldBy L w log (after_in (ordered L) l.turns) → is_frozen L (known_by L w log) x p keep ≡ true
    by t =
        let law = law_of_state L enough (after_in (ordered L) l.turns) t.is_ordered in
        let layout : (after_in (ordered L) l.turns).state.layout
        ≡ L = ap (λ (s : State). s.layout) t.is_ordered.leads ∙ layout_after L t.is_ordered.events in
        subst (λ (M : Layout). is_frozen M (known_by L w log) x p keep ≡ true) layout
        (subst (λ (k : Knowledge). is_frozen (after_in (ordered L) l.turns).state.layout k x p keep ≡ true) t.knows
        (frozen_known (after_in (ordered L) l.turns).state law.0 law.1 w (search_of t.is_ordered.searches w)
        (frozen_so (λ fact. Holds L w log fact) (λ fact. HoldsIn (of (after_in (ordered L) l.turns).state w)
        (search_of t.is_ordered.searches w) fact) (told_holds L w log (after_in (ordered L) l.turns) t) frozen)))
