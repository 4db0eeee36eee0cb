-- Walks of a radix tree: that they are short, and pass routers alone, by what their looks leave in
-- the log since the pin.
use Rattle.std.proofs.Common.{◌≡◌, ◌≢◌, ◌≤◌, ◌<◌, ◌+◌, ◌*◌, ℕ, zero, suc, Bool, true, false, cond, List, [], ◌∷◌, ◌++◌, refl, sym, ap, subst, ◌∙◌, arith, length}
use Rattle.std.proofs.lemmas.List.{length-append}
use Rattle.nm_edge.specs.Keys.{IsKey}
use Rattle.nm_edge.specs.Layouts.{Layout}
use Rattle.nm_edge.specs.Ranges.{covers}
use Rattle.nm_edge.specs.declared.edge.Side.TheVariants.{Left}
use Rattle.nm_model.specs.declared.event.Op.{Op}
use Rattle.nm_model.specs.declared.event.Event.TheVariants.{Look}
use Rattle.nm_model.specs.declared.event.Field.TheVariants.{Edge as EdgeOn}
use Rattle.nm_model.specs.declared.reply.Reply.TheVariants.{EdgeIs}
use Rattle.nm_model.specs.Walks.{Entry, since_pin, WalkComes}
use Rattle.nm_model.specs.Walks.Leads.{begins, leads_on}
use Rattle.nm_order.proofs.FactLaws.{facts_are_true, tagged_slots_stand_high}
use Rattle.nm_order.proofs.RadixLaws.{walks_are_short, walks_pass_routers}
use Rattle.nm_order.specs.Facts.Fact.{IsTagged, CallIs}
use Rattle.nm_steps.specs.Steps.{TreeView, PassView}
use Rattle.nm_walks.specs.declared.looking.Onward.{Onward}
use Rattle.nm_walks.specs.declared.seek_record.ChainEdge.{ChainEdge}
use Rattle.nm_walks.specs.declared.seek_record.SeekRecord.{SeekRecord}
use Rattle.nm_walks.specs.Bounds.{chain_bound, reach}
use Rattle.nm_walks.specs.Telling.{Tells, IsInRun, IsPinnedIn}
use Rattle.nm_walks.specs.Walks.{onto, chained, chain_onto, Reads, Walks, IsTooLong, IsTooDeep, IsAt, ChainLeads}
use Rattle.nm_walks.proofs.Looks.{enough}
use Rattle.nm_walks.proofs.PlainLooks.{first_look, looks_longer, walk_looks}
use Rattle.nm_walks.proofs.Standing.{onto-edge, onto-parent}

-- a walk that stands at a seek_record came there in the log since the pin, by a look at slot 2 and by two
-- at each node that it passed
abbrev pub HasComeBy : ℕ → ℕ → List Entry → SeekRecord → Type 0
HasComeBy k n log s = (walk : WalkComes k (since_pin [] log) s.edge.slot s.parent s.side)
    × (length walk.looks ≡ 1 + 2 * n)

pub walk_comes : (k n : ℕ) (old new : List Entry) (s : SeekRecord) (c : List ChainEdge) → Walks k n old new s c
    → HasComeBy k n new s
walk_comes k zero old new s c w = subst (λ (t : SeekRecord).
    (walk : WalkComes k (since_pin [] new) s.edge.slot t.parent t.side) × (length walk.looks ≡ 1 + 2 * 0)) (sym w.0) (
      record {
        looks = (Look 2 (EdgeOn Left), EdgeIs s.edge) ∷ [];
        leads = begins s.edge w.2;
        is_part = rw w.3 (first_look old s.edge);
      },
      omega arith,
    )
walk_comes k (suc n) old new s c (mid, t, d, on, w, some, read, is, chain) =
    let above = walk_comes k n old mid t d w in
    rw is (rw (
      onto-edge t on.side on.next,
      (onto-parent t on.side on.next).0,
      (onto-parent t on.side on.next).1,
      read.3,
    ) (
      record {
        looks = above.0.looks ++ walk_looks k t.edge.slot on;
        leads = leads_on above.0.leads on.found on.next some;
        is_part = looks_longer mid new k t.edge.slot on read above.0.looks above.0.is_part;
      },
      (let many = above.1 in let more = length-append above.0.looks (walk_looks k t.edge.slot on) in
          omega (arith, many, more)),
    ))

-- a call is for a key of the set
pub key_of_call : (p : PassView) → IsInRun p → (op : Op) (k : ℕ) → Tells p (CallIs op k) → IsKey k
key_of_call p run op k call = facts_are_true p.view.layout (enough p.view.layout run.fits) p.view.number p.view.log
    run.run.is_part (CallIs op k) call

-- ---- in a run of a radix tree

module _ (q : PassView) (run : IsInRun q) (radix : q.view.layout.radix ≡ true) (k : ℕ) (key : IsKey k) where
  -- no walk passes more than 64 nodes
  pub few_passed : (n : ℕ) (old : List Entry) (s : SeekRecord) (c : List ChainEdge) → Walks k n old q.view.log s c
      → n ≤ 64
  few_passed n old s c w =
      let come = walk_comes k n old q.view.log s c w in
      let many = come.1 in
      let few = walks_are_short q.view.layout (enough q.view.layout run.fits) radix q.view.number q.view.log
      run.run.is_part k s.edge.slot s.parent s.side (omega (arith, key)) come.0 in
      omega (arith, many, few)

  -- each node that it passes is a router above the fixed ones
  pub passes_router : (n : ℕ) (old mid : List Entry) (s : SeekRecord) (c : List ChainEdge) (on : Onward)
      → Walks k n old mid s c → Reads k s.edge.slot mid q.view.log on → on.next.slot ≢ 0
      → (6 ≤ s.edge.slot) × (covers on.found on.found ≡ true)
  passes_router n old mid s c on w read some =
      let come = walk_comes k n old mid s c w in
      walks_pass_routers q.view.layout (enough q.view.layout run.fits) radix q.view.number q.view.log run.run.is_part
      k s.edge.slot s.parent s.side on.found (omega (arith, key)) (record {
        looks = come.0.looks;
        leads = come.0.leads;
        next = on.next;
        there = some;
        is_part = looks_longer mid q.view.log k s.edge.slot on read come.0.looks come.0.is_part;
      })

-- ---- chains

-- a chain has fewer nodes than the walk has passed, or it begins at slot 2
data ChainOf (n : ℕ) (c : List ChainEdge) : Type 0 where
  Short : length c + 1 ≤ n → ChainOf n c
  Empty : c ≡ [] → ChainOf n c
  FromSecond : (rest : List ChainEdge) → c ≡ chained 2 Left ∷ rest → length c ≤ n → ChainOf n c

first_link : (k n : ℕ) (old mid : List Entry) (t : SeekRecord) (d c : List ChainEdge) → Walks k n old mid t d
    → c ≡ chained t.parent t.side ∷ [] → ChainOf (suc n) c
first_link k zero old mid t d c w is = FromSecond [] (is ∙ ap (λ (r : SeekRecord). chained r.parent r.side ∷ []) w.0)
    (let one = ap length is in omega (arith, one))
first_link k (suc n) old mid t d c w is = Short (let one = ap length is in omega (arith, one))

chain_of : (k n : ℕ) (old new : List Entry) (s : SeekRecord) (c : List ChainEdge) → Walks k n old new s c → ChainOf n c
chain_of k zero old new s c w = Empty w.1
chain_of k (suc n) old new s c (mid, t, d, on, w, some, read, is, chain) = by t.edge.tag refl
    (chain_of k n old mid t d w)
  where
    longer : (d : List ChainEdge) → c ≡ d ++ chained t.parent t.side ∷ [] → length c ≡ length d + 1
    longer d is = ap length is ∙ length-append d (chained t.parent t.side ∷ [])

    tagged : ChainOf n d → c ≡ d ++ chained t.parent t.side ∷ [] → ChainOf (suc n) c
    tagged (Short few) is = Short (let one = longer d is in omega (arith, few, one))
    tagged (Empty none) is = first_link k n old mid t d c w
        (is ∙ ap (λ (l : List ChainEdge). l ++ chained t.parent t.side ∷ []) none)
    tagged (FromSecond rest first few) is =
        FromSecond (rest ++ chained t.parent t.side ∷ [])
        (is ∙ ap (λ (l : List ChainEdge). l ++ chained t.parent t.side ∷ []) first)
        (let one = longer d is in omega (arith, few, one))

    by : (b : Bool) → t.edge.tag ≡ b → ChainOf n d → ChainOf (suc n) c
    by false plain above = Empty (chain ∙ ap (λ (b : Bool). cond b (d ++ chained t.parent t.side ∷ []) []) plain)
    by true tag above = tagged above (chain ∙ ap (λ (b : Bool). cond b (d ++ chained t.parent t.side ∷ []) []) tag)

-- where a walk goes on from its seek_record, the chain with the spot's node has at most 64 nodes
pub not_deep : (p q : PassView) → IsInRun p → IsInRun q → q.view.layout.radix ≡ true → (k : ℕ) → IsKey k
    → (n : ℕ) (old : List Entry) (s : SeekRecord) (c : List ChainEdge) (on : Onward) → Walks k n old p.view.log s c
    → IsAt (Tells p) s c
    → Reads k s.edge.slot p.view.log q.view.log on → on.next.slot ≢ 0 → length c + 1 < chain_bound
not_deep p q earlier run radix k key n old s c on w at read some = by (chain_of k n old p.view.log s c w)
  where
    few : suc n ≤ 64
    few = few_passed q run radix k key (suc n) old (onto s on.side on.next) (chain_onto s c)
        (p.view.log, s, c, on, w, some, read, refl, refl)

    untagged : (t : ℕ) → Tells p (IsTagged 2 Left t) → ⊥
    untagged t tag =
        let high = tagged_slots_stand_high p.view.layout (enough p.view.layout earlier.fits) p.view.number p.view.log
        earlier.run.is_part 2 t Left tag in omega (arith, high)

    begins_at : (rest : List ChainEdge) → ChainLeads (Tells p) s.successor (chained 2 Left ∷ rest) s.parent → ⊥
    begins_at rest (is, t, tag, known, more) = untagged t (rw is tag)

    by : ChainOf n c → length c + 1 < chain_bound
    by (Short short) = omega (arith, few, short)
    by (Empty none) = let zero' = ap length none in omega (arith, zero')
    by (FromSecond rest first most) = absurd (begins_at rest
        (subst (λ (chain : List ChainEdge). ChainLeads (Tells p) s.successor chain s.parent) first at.way))

-- ---- walks that are broken off

-- the reach of a walk, by the shape
pub far_of : (L : Layout) (radix : Bool) → L.radix ≡ radix → reach L ≡ cond radix 66 L.nodes
far_of L radix is = ap (λ (b : Bool). cond b 66 L.nodes) is

module _ (b : TreeView) (k : ℕ) (key : IsKey k) (n : ℕ) (old : List Entry) (s : SeekRecord) (c : List ChainEdge) where
  -- a walk that has looked at as many nodes as it may
  pub too_long : (q : PassView) → IsPinnedIn b q → Walks k n old q.view.log s c → suc n ≡ reach b.layout
      → IsTooLong b.layout k old q.view.log
  too_long q pinned w all = by b.layout.radix refl
    where
      by : (radix : Bool) → b.layout.radix ≡ radix → IsTooLong b.layout k old q.view.log
      by false plain = (plain, n, s, c, w, all ∙ far_of b.layout false plain)
      by true radix =
          let few = few_passed q pinned.run (ap (λ (L : Layout). L.radix) pinned.own.layout ∙ radix) k key n old s c
          w in
          let far = all ∙ far_of b.layout true radix in
          absurd (omega (arith, few, far))

  -- and one whose chain would be too long
  pub too_deep : (p q : PassView) → IsPinnedIn b p → IsPinnedIn b q → (on : Onward) → Walks k n old p.view.log s c
      → IsAt (Tells p) s c → Reads k s.edge.slot p.view.log q.view.log on → on.next.slot ≢ 0 → s.edge.tag ≡ true
      → chain_bound ≤ length c + 1
      → n + 2 ≤ reach b.layout → IsTooDeep b.layout k old q.view.log
  too_deep p q earlier pinned on w at read some tag deep few = by b.layout.radix refl
    where
      by : (radix : Bool) → b.layout.radix ≡ radix → IsTooDeep b.layout k old q.view.log
      by false plain = (
        plain,
        n,
        p.view.log,
        s,
        c,
        on,
        (let far = far_of b.layout false plain in omega (arith, few, far)),
        w,
        read,
        some,
        tag,
        deep,
      )
      by true radix =
          let short = not_deep p q earlier.run pinned.run (ap (λ (L : Layout). L.radix) pinned.own.layout ∙ radix) k
          key n old s c on w at read some in
          absurd (omega (arith, short, deep))
