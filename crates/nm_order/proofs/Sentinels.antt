-- The five fixed nodes: their keys, that the three leaves among them are always reached, and that
-- none of them has a flagged edge.
use Rattle.std.proofs.Common.{◌≡◌, ◌≢◌, inl, inr, ◌&&◌, ℕ, zero, suc, ◌≤◌, true, List, [], ◌∷◌, refl, sym, ap, subst, ◌∙◌, arith}
use Rattle.std.specs.Prelude.{None, nat_lt, slice_index_or}
use Rattle.std.proofs.lemmas.Bool.{cases_lt, or_parts}
use Rattle.nm_edge.specs.Edges.{Edge}
use Rattle.nm_edge.specs.Layouts.{Layout}
use Rattle.nm_edge.specs.declared.edge.Side.{Side}
use Rattle.nm_edge.specs.declared.edge.Side.TheVariants.{Left, Right}
use Rattle.nm_model.specs.declared.event.Field.{Field}
use Rattle.nm_model.specs.declared.event.Event.{Event}
use Rattle.nm_model.specs.declared.event.Event.TheVariants.{Fill}
use Rattle.nm_model.specs.declared.reply.Refused.TheVariants.{NoSlot}
use Rattle.nm_model.specs.Memory.{node, edge, child, infinity_0, infinity_1, infinity_2}
use Rattle.nm_model.specs.Knowledge.{knows}
use Rattle.nm_model.specs.Paths.{follow}
use Rattle.nm_model.specs.Searches.{side_of}
use Rattle.nm_model.specs.Step.{outside, is_edge, refusal}
use Rattle.nm_model.specs.Runs.{State, of, start, refusal_of, applied}
use Rattle.nm_model.specs.Ordered.{Configuration}
use Rattle.nm_laws.proofs.Steps.{Allowed, passed, by_steps}
use Rattle.nm_laws.proofs.TreeSteps.{Lawful, high_from}
use Rattle.nm_laws.proofs.Trees.{follow_none, each_slot}
use Rattle.nm_laws.proofs.Pictures.{SeekRecord, Stands, Once, IsLive}
use Rattle.nm_laws.proofs.Pictures.SeekRecord.{InPool, PrivateTo, OnPath, InQueue}
use Rattle.nm_laws.proofs.Views.{picture}
use Rattle.nm_laws.proofs.KnownBirths.{written_same}
use Rattle.nm_order.specs.Intervals.{GoesBy, key}
use Rattle.nm_order.proofs.OrderedLaws.{IsOrdered, law_of_state}

-- ---- keys

-- the key of each fixed slot, from slot 1 on
abbrev pub fixed_key : ℕ → ℕ
fixed_key x = slice_index_or (0 ∷ infinity_2 ∷ infinity_1 ∷ infinity_0 ∷ infinity_1 ∷ infinity_2 ∷ []) x 0

pub SentinelKeys : State → Type 0
SentinelKeys s = (x : ℕ) → 1 ≤ x → x ≤ 5 → (node s.memory x).key ≡ fixed_key x

sentinels_stay : (s : State) (w : ℕ) (e : Event) → SentinelKeys s → Allowed s w e → SentinelKeys (applied s w e)
unfolding SentinelKeys applied refusal
sentinels_stay s w e keys ok x low high = (written_same s.memory (of s w) w e x apart).key ∙ keys x low high
  where
    apart : (y : ℕ) (f : Field) (v : ℕ) → e ≡ Fill y f v → x ≢ y
    apart y f v is same =
        let filled = subst (λ (g : Event). refusal_of s w g ≡ None) is ok.event in
        let range = high_from 6 s.layout.nodes y (or_parts (outside 6 s.layout.nodes y)
        (is_edge f && nat_lt s.layout.nodes v) (passed _ NoSlot _ filled).0).0 in
        absurd (omega arith)

sentinels_start : (L : Layout) → SentinelKeys (start L)
unfolding SentinelKeys
sentinels_start L = each_slot (λ x. 1 ≤ x → x ≤ 5 → (node (start L).memory x).key ≡ fixed_key x)
    (λ low high. absurd (omega (arith, low))) (λ low high. refl) (λ low high. refl) (λ low high. refl)
    (λ low high. refl) (λ low high. refl)
    (λ n low high. absurd (omega (arith, high)))

pub sentinels_of : (L : Layout) (c : Configuration) → IsOrdered L c → SentinelKeys c.state
sentinels_of L c o = subst SentinelKeys (sym o.leads)
    (by_steps SentinelKeys sentinels_stay o.events (start L) (sentinels_start L))

high_key : (x : ℕ) → 1 ≤ x → x ≤ 5 → infinity_0 ≤ fixed_key x
high_key = each_slot (λ x. 1 ≤ x → x ≤ 5 → infinity_0 ≤ fixed_key x) (λ low high. absurd (omega (arith, low)))
    (λ low high. omega arith) (λ low high. omega arith) (λ low high. omega arith) (λ low high. omega arith)
    (λ low high. omega arith)
    (λ n low high. absurd (omega (arith, high)))

pub sentinel_is_high : (s : State) → SentinelKeys s → (x : ℕ) → 1 ≤ x → x ≤ 5 → infinity_0 ≤ (node s.memory x).key
unfolding SentinelKeys
sentinel_is_high s keys x low high = rw (keys x low high) (high_key x low high)

-- ---- what stands below the fixed nodes

module _ (L : Layout) (enough : 5 ≤ L.nodes) (c : Configuration) (o : IsOrdered L c) where
  holder : ℕ → ℕ
  holder = (law_of_state L enough c o).0

  law : Lawful c.state holder
  unfolding holder
  law = (law_of_state L enough c o).1

  -- a fixed slot is in nobody's hands, and no splice can queue it: so it is reached
  reached : (x : ℕ) → 1 ≤ x → x ≤ 5 → (path : List Side) × (follow (child c.state.memory) 1 path ≡ x)
  reached x low high = go once.place once.here
    where
      once : Once (picture c.state holder) x
      once = law.tree.places x (λ z. omega arith) (let room = law.tree.room in omega arith)

      go : (p : SeekRecord) → Stands (picture c.state holder) x p
          → (path : List Side) × (follow (child c.state.memory) 1 path ≡ x)
      go InPool is = let r = law.tree.pools x is in absurd (omega arith)
      go (PrivateTo w) is = let r = law.tree.privates w x is in absurd (omega arith)
      go (OnPath path) is = (path, is)
      go (InQueue w i) is = let r = law.tree.queues w i x is in absurd (omega arith)

  null : (d : Side) → child c.state.memory 0 d ≡ 0
  null d = ap (λ (e : Edge). e.slot) (law.tree.nothing d)

  -- an edge by which a fixed leaf is reached is not flagged: it would lead to another leaf
  not_flagged : (front : List Side) (d : Side) (x : ℕ) (rest : List Side) → 1 ≤ x → x ≤ 5
      → follow (child c.state.memory) (child c.state.memory (follow (child c.state.memory) 1 front) d) rest ≡ x
      → IsLive (picture c.state holder) (follow (child c.state.memory) 1 front)
      → (edge c.state.memory (follow (child c.state.memory) 1 front) d).flag ≡ true → ⊥
  not_flagged front d x [] low high ends live flag =
      let six = law.tree.flags (follow (child c.state.memory) 1 front) d live flag in omega arith
  not_flagged front d x (g ∷ rest) low high ends live flag =
      let none : follow (child c.state.memory) (child c.state.memory
      (child c.state.memory (follow (child c.state.memory) 1 front) d) g) rest ≡ 0 =
      ap (λ (y : ℕ). follow (child c.state.memory) y rest) (law.tree.leaf_reached front d flag g)
      ∙ follow_none (child c.state.memory) null rest in
      absurd (omega arith)

  goes : (x : ℕ) (low : 1 ≤ x) (high : x ≤ 5) (path : List Side) → follow (child c.state.memory) 1 path ≡ x
      → GoesBy (child c.state.memory) (key c.state.memory) (fixed_key x) 1 path
  unfolding SentinelKeys
  goes x low high path ends = subst (λ (n : ℕ). GoesBy (child c.state.memory) (key c.state.memory) n 1 path)
      (ap (key c.state.memory) ends ∙ sentinels_of L c o x low high)
      (o.law.order path (λ z. let e = sym ends ∙ z in omega arith))

  key_at : (x : ℕ) → 1 ≤ x → x ≤ 5 → key c.state.memory x ≡ fixed_key x
  unfolding SentinelKeys
  key_at = sentinels_of L c o

  -- the right edge of slot 1 leads to slot 5
  right_of_root : (path : List Side) → follow (child c.state.memory) 1 path ≡ 5
      → (rest : List Side) × (follow (child c.state.memory) (child c.state.memory 1 Right) rest ≡ 5)
  right_of_root [] ends = absurd (omega (arith, ends))
  right_of_root (Right ∷ rest) ends = (rest, ends)
  right_of_root (Left ∷ rest) ends = absurd (differ
      (sym (ap (side_of infinity_2) (key_at 1 (omega arith) (omega arith)))
      ∙ (goes 5 (omega arith) (omega arith) (Left ∷ rest) ends).0))
    where
      differ : Right ≡ Left → ⊥
      differ e = cc

  -- both edges of slot 2 lead to fixed leaves
  below_second : (x : ℕ) (d : Side) (low : 3 ≤ x) (high : x ≤ 4) → side_of (fixed_key x) infinity_2 ≡ Left
      → side_of (fixed_key x) infinity_1 ≡ d → (path : List Side) → follow (child c.state.memory) 1 path ≡ x
      → (rest : List Side) × (follow (child c.state.memory) (child c.state.memory 2 d) rest ≡ x)
  below_second x d low high first second [] ends = absurd (omega arith)
  below_second x d low high first second (f ∷ path) ends = at_second path
      (ap (λ (y : ℕ). follow (child c.state.memory) y path) (sym is_second) ∙ ends)
      (subst (λ (y : ℕ). GoesBy (child c.state.memory) (key c.state.memory) (fixed_key x) y path) is_second all.1)
    where
      all : (side_of (fixed_key x) (key c.state.memory 1) ≡ f)
          × GoesBy (child c.state.memory) (key c.state.memory) (fixed_key x) (child c.state.memory 1 f) path
      all = goes x (omega arith) (omega arith) (f ∷ path) ends

      is_left : f ≡ Left
      is_left = sym all.0 ∙ (ap (side_of (fixed_key x)) (key_at 1 (omega arith) (omega arith)) ∙ first)

      is_second : child c.state.memory 1 f ≡ 2
      is_second = ap (child c.state.memory 1) is_left ∙ law.tree.root_left

      at_second : (path : List Side) → follow (child c.state.memory) 2 path ≡ x
          → GoesBy (child c.state.memory) (key c.state.memory) (fixed_key x) 2 path
          → (rest : List Side) × (follow (child c.state.memory) (child c.state.memory 2 d) rest ≡ x)
      at_second [] ends by = absurd (omega arith)
      at_second (g ∷ rest) ends by = (
        rest,
        subst (λ (f : Side). follow (child c.state.memory)
            (child c.state.memory 2 f) rest ≡ x) (sym by.0
            ∙ (ap (side_of (fixed_key x)) (key_at 2 (omega arith) (omega arith)) ∙ second)) ends,
      )

  at_two : (x : ℕ) (d : Side) → (rest : List Side)
      × (follow (child c.state.memory) (child c.state.memory 2 d) rest ≡ x) → 1 ≤ x → x ≤ 5
      → IsLive (picture c.state holder) 2 → (edge c.state.memory 2 d).flag ≡ true → ⊥
  at_two x d t low high live flag = not_flagged (Left ∷ []) d x t.0 low high
      (ap (λ (y : ℕ). follow (child c.state.memory) (child c.state.memory y d) t.0) law.tree.root_left ∙ t.1)
      (subst (IsLive (picture c.state holder)) (sym law.tree.root_left) live)
      (ap (λ (y : ℕ). (edge c.state.memory y d).flag) law.tree.root_left ∙ flag)

  unflagged : (x : ℕ) (d : Side) → IsLive (picture c.state holder) x → 1 ≤ x → x ≤ 5
      → (edge c.state.memory x d).flag ≡ true → ⊥
  unflagged zero d live low high flag = omega arith
  unflagged (suc zero) Left live low high flag = let six = law.tree.flags 1 Left live flag in
      let two = law.tree.root_left in omega arith
  unflagged (suc zero) Right live low high flag = let r = reached 5 (omega arith) (omega arith) in
      let t = right_of_root r.0 r.1 in not_flagged [] Right 5 t.0 (omega arith) (omega arith) t.1 live flag
  unflagged (suc (suc zero)) Left live low high flag = at_two 3 Left
      (let r = reached 3 (omega arith) (omega arith) in
      below_second 3 Left (omega arith) (omega arith) refl refl r.0 r.1) (omega arith) (omega arith) live flag
  unflagged (suc (suc zero)) Right live low high flag = at_two 4 Right
      (let r = reached 4 (omega arith) (omega arith) in
      below_second 4 Right (omega arith) (omega arith) refl refl r.0 r.1) (omega arith) (omega arith) live flag
  unflagged (suc (suc (suc n))) d live low high flag = let six = law.tree.flags (suc (suc (suc n))) d live flag in
      let none = law.tree.sentinels (suc (suc (suc n))) d (omega arith) high in omega arith

  pub flags_stand_high : (w x : ℕ) (d : Side) → knows (of c.state w) x ≡ true → (edge c.state.memory x d).flag ≡ true
      → 6 ≤ x
  flags_stand_high w x d known flag = elim (cases_lt 5 x) [
    | inl high ↦ omega arith
    | inr low ↦ absurd (unflagged x d live range.0 low flag)
  ]
    where
      range : (1 ≤ x) × (x ≤ c.state.layout.nodes)
      range = law.tree.known w x known

      live : IsLive (picture c.state holder) x
      live = law.tree.guarded w x (record {
        from = x;
        known = known;
        path = [];
        ends = refl;
        is_slot = λ z.
            (let r = law.tree.known w x known in absurd (omega arith));
      })
