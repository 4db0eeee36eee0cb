-- A whole cleanup: what each step of it asks, and what it leaves.
use Rattle.std.proofs.Common.{◌≡◌, ◌≤◌, arith, inl, inr, ℕ, ◌+◌, ◌*◌, ◌==◌, Bool, true, false, cond, ◌||◌, List, [], ◌∷◌, ◌++◌, length, refl, sym, ap, subst, ◌∙◌}
use Rattle.std.specs.Prelude.{Option, Some, None, option_map}
use Rattle.std.specs.List.{list_any}
use Rattle.std.proofs.lemmas.Bool.{and_from, eq-eqb}
use Rattle.std.proofs.lemmas.List.{length-append}
use Rattle.std.proofs.lemmas.Option.{same_Some}
use Rattle.nm_edge.specs.Edges.{Edge, other}
use Rattle.nm_edge.specs.declared.edge.Side.{Side}
use Rattle.nm_edge.specs.declared.node.NodeId.{NodeId}
use Rattle.nm_model.specs.declared.event.Event.TheVariants.{Sight, Look, Tag}
use Rattle.nm_model.specs.declared.event.Field.TheVariants.{Edge as EdgeOn, Birth}
use Rattle.nm_model.specs.declared.knowledge.Brief.{Brief}
use Rattle.nm_model.specs.declared.ledger.Ledger.{Ledger}
use Rattle.nm_model.specs.declared.reply.Reply.TheVariants.{Labelled, EdgeIs, BirthIs, Was}
use Rattle.nm_model.specs.Knowledge.{Knowledge, seen_of}
use Rattle.nm_model.specs.Ledgers.{held, with_cut}
use Rattle.nm_model.specs.Searches.{Search, idle, is_node, is_flagged_in}
use Rattle.nm_model.specs.Walks.{Entry, search_after}
use Rattle.nm_order.specs.Facts.{HoldsIn}
use Rattle.nm_order.specs.Facts.Fact.{KnowsSlot, IsFlagged, IsFrozen, IsBorn}
use Rattle.nm_order.specs.Told.{FrozenTo}
use Rattle.nm_order.specs.Told.FrozenTo.{ends_there, goes_down}
use Rattle.nm_order.proofs.ToldLaws.{twice_other}
use Rattle.nm_steps.specs.Rules.{knowledge}
use Rattle.nm_steps.specs.Steps.{PassView, Stepped}
use Rattle.nm_walks.specs.declared.cutting.Kept.{Kept}
use Rattle.nm_walks.specs.declared.seek_record.ChainEdge.{ChainEdge}
use Rattle.nm_walks.specs.declared.seek_record.SeekRecord.{SeekRecord}
use Rattle.nm_walks.specs.Telling.{Tells, IsInRun, GoesOn, OnlyLooks}
use Rattle.nm_walks.specs.Walks.{ChainLeads, IsAt}
use Rattle.nm_walks.specs.Marking.{IsToBeCut, OnlyCuts, SpliceWon}
use Rattle.nm_walks.specs.Labelling.{OnlyLabels}
use Rattle.nm_walks.specs.Cleanups.{Chooses, FreezesOne, Freezes, Prepares, CutsOff, CleanupLost, top, HasCut, OnlyCleans}
use Rattle.nm_walks.proofs.Freezing.{top_of}
use Rattle.nm_walks.proofs.KeptLedgers.{cut_ledgers}
use Rattle.nm_walks.proofs.Standing.{leads_kept}

-- ---- the chain of a walk

module _ (p q : PassView) (s : SeekRecord) (c : List ChainEdge) (at : IsAt (Tells p) s c) where
  pub at_top : top c s.parent ≡ s.successor
  at_top = top_of (Tells p) s.successor c s.parent at.way

  pub way_there : GoesOn p q → ChainLeads (Tells q) (top c s.parent) c s.parent
  way_there on = subst (λ (t : ℕ). ChainLeads (Tells q) t c s.parent) (sym at_top)
      (leads_kept (Tells p) (Tells q) (λ fact holds. on.keeps fact holds) s.successor c s.parent at.way)

  pub knows_top : GoesOn p q → Tells q (KnowsSlot (top c s.parent))
  knows_top on = subst (λ (t : ℕ). Tells q (KnowsSlot t)) (sym at_top) (on.keeps (KnowsSlot s.successor) at.successor)

  pub to_be_cut : (keep : Side) (kept : Edge) (ns : List NodeId) → GoesOn p q
      → FrozenTo (Tells q) s.parent keep (top c s.parent) ns → Tells q (IsFrozen s.parent keep kept)
      → IsToBeCut q s.ancestor s.successor s.parent keep kept
  to_be_cut keep kept ns on frozen so = record {
    knows_ancestor = on.keeps (KnowsSlot s.ancestor) at.ancestor;
    nodes = ns;
    frozen = subst (λ (t : ℕ). FrozenTo (Tells q) s.parent keep t ns) at_top frozen;
    kept_so = so;
  }

-- ---- the flagged leaf is among the nodes

pub right_true : (a b : Bool) → b ≡ true → (a || b) ≡ true
right_true true b is = refl
right_true false b is = is

left_true : (a b : Bool) → a ≡ true → (a || b) ≡ true
left_true true b is = refl
left_true false b is = absurd (no is)
  where
    no : false ≡ true → ⊥
    no h = (λ (e : Path Bool false true). subst (λ (b : Bool). cond {A = Type 0} b ⊥ Bool) e true) h

module _ (k : Knowledge) (S : Search) (y b : ℕ) (born : HoldsIn k S (IsBorn y b)) where
  leaf_among : {p : ℕ} {keep : Side} {x : ℕ} {ns : List NodeId} → FrozenTo (λ fact. HoldsIn k S fact) p keep x ns
      → HoldsIn k S (IsFlagged p (other keep) y) → list_any (is_node (record { slot = y; birth = b })) ns ≡ true
  leaf_among {p} {keep} (ends_there {leaf} {birth} {leaf_birth} tag flag node_born leaf_born) known =
      let same : leaf ≡ y = sym flag.3 ∙ (ap (λ (e : Edge). e.slot) (same_Some flag.0 known.0 (sym flag.1 ∙ known.1))
      ∙ known.3) in
      let birth_is : leaf_birth ≡ b = same_Some leaf_birth b
      (sym leaf_born ∙ (ap (λ (z : ℕ). (seen_of k z).birth) same ∙ born)) in
      right_true (is_node (record { slot = y; birth = b }) (record { slot = p; birth = birth })) _
      (left_true (is_node (record { slot = y; birth = b }) (record { slot = leaf; birth = leaf_birth })) false
      (and_from (y == leaf) (b == leaf_birth) (eq-eqb y leaf (sym same)) (eq-eqb b leaf_birth (sym birth_is))))
  leaf_among {p} {keep} (goes_down {slot} {to} {leaf} {birth} {leaf_birth} {nodes} side tag flag node_born leaf_born
      rest) known =
      right_true (is_node (record { slot = y; birth = b }) (record { slot = slot; birth = birth })) _
      (right_true (is_node (record { slot = y; birth = b }) (record { slot = leaf; birth = leaf_birth })) _
      (leaf_among rest known))

-- ---- a chain was cut off

pub has_cut : (s : SeekRecord) (c : List ChainEdge) (o p r t q : PassView) (k : Kept) (was : Edge) (ns : List NodeId)
    → GoesOn o t → OnlyLooks o t
    → Chooses s o.view.log p.view.log (Some k) → r.view.log ≡ p.view.log ++ (Tag s.parent k.side, Was was) ∷ []
    → Freezes s.parent k.side c r.view.log t.view.log → length ns ≡ 2 * (length c + 1)
    → FrozenTo (Tells t) s.parent k.side s.successor ns
    → ((to : ℕ) → Tells o (IsFlagged s.parent s.side to) → k.side ≡ other s.side)
    → SpliceWon t q s.ancestor s.above s.successor s.parent k.side ns → HasCut s c ns o q
has_cut s c o p r t q k was ns on only chosen tag looks size frozen again won = record {
  part = (
    k,
    t.view.log,
    (
      p.view.log,
      was,
      chosen,
      subst
          (λ (log : List Entry). Freezes s.parent k.side c log t.view.log) tag looks,
    ),
    ap (λ (x : PassView). x.view.log)
        won.step,
  );
  size = size;
  queues = λ x. won.queues x ∙ (ap (λ (n : ℕ). left x n (knowledge t.view).ledgers)
      (ap (λ (y : PassView). y.view.number) on.same) ∙ ap (λ (ls : List (Option Ledger)). left x o.view.number ls)
      only.ledgers);
  epochs = won.epochs ∙ ap (λ (b : Brief). record b { unlabelled = true }) only.epochs;
  leaf = λ to b flag born. leaf_among (knowledge t.view) (search_after idle t.view.log) to b
      (on.keeps (IsBorn to b) born) frozen
      (subst (λ (d : Side). Tells t (IsFlagged s.parent d to)) (sym (ap other (again to flag) ∙ twice_other s.side))
      (on.keeps (IsFlagged s.parent s.side to) flag));
  cut = won.cut ∙ (ap (λ (b : Bool). b || is_flagged_in (search_after idle t.view.log).flagged ns) only.cut
      ∙ ap (λ (n : Option NodeId). (search_after idle o.view.log).cut || is_flagged_in n ns) only.flagged);
}
  where
    left : ℕ → ℕ → List (Option Ledger) → Option Ledger
    left x n ls = cond (x == n) (option_map (with_cut ns) (held ls x)) (held ls x)

-- ---- how many steps

pub one_more : (a : Entry) (old new : List Entry) → new ≡ old ++ a ∷ [] → length new ≡ length old + 1
one_more a old new is = ap (λ (l : List Entry). length l) is ∙ length-append old (a ∷ [])

freezes_steps : (slot : ℕ) (side : Side) (old new : List Entry) → FreezesOne slot side old new
    → length new ≡ length old + 3
freezes_steps slot side old new f =
    let one : length (old ++ (Look slot (EdgeOn (other side)), EdgeIs f.0) ∷ [])
    ≡ length old + 1 = one_more _ old _ refl in
    let two : length ((old ++ (Look slot (EdgeOn (other side)), EdgeIs f.0) ∷ []) ++ (Look slot Birth, BirthIs f.1)
    ∷ []) ≡ length (old ++ (Look slot (EdgeOn (other side)), EdgeIs f.0) ∷ []) + 1 = one_more _ _ _ refl in
    let three = one_more _ _ new f.3 in
    omega (arith, one, two, three)

chain_steps : (parent : ℕ) (keep : Side) (c : List ChainEdge) (old new : List Entry) → Freezes parent keep c old new
    → length new ≡ length old + 3 * (length c + 1)
chain_steps parent keep [] old new f = freezes_steps parent keep old new f
chain_steps parent keep (l ∷ c) old new f =
    let one = freezes_steps l.slot l.side old f.0 f.1 in
    let rest = chain_steps parent keep c f.0 new f.2 in
    omega (arith, one, rest)

choice_steps : (s : SeekRecord) (r : Option Kept) (old new : List Entry) → Chooses s old new r
    → length new ≡ length old + 2
choice_steps s r old new f =
    let one : length (old ++ (Look s.parent (EdgeOn s.side), EdgeIs f.0) ∷ [])
    ≡ length old + 1 = one_more _ old _ refl in
    let two = one_more _ _ new f.2 in
    omega (arith, one, two)

prepared_steps : (s : SeekRecord) (c : List ChainEdge) (k : Kept) (old new : List Entry) → Prepares s c k old new
    → length new ≡ length old + 3 * length c + 6
prepared_steps s c k old new f =
    let one = choice_steps s (Some k) old f.0 f.2 in
    let two : length (f.0 ++ (Tag s.parent k.side, Was f.1) ∷ []) ≡ length f.0 + 1 = one_more _ f.0 _ refl in
    let three = chain_steps s.parent k.side c _ new f.3 in
    omega (arith, one, two, three)

pub won_steps : (s : SeekRecord) (c : List ChainEdge) (ns : List NodeId) (old new : List Entry)
    → CutsOff s c ns old new → length new ≡ length old + 3 * length c + 7
won_steps s c ns old new f =
    let one = prepared_steps s c f.0 old f.1 f.2 in
    let two = one_more _ f.1 new f.3 in
    omega (arith, one, two)

pub lost_steps : (s : SeekRecord) (c : List ChainEdge) (old new : List Entry) → CleanupLost s c old new
    → length new ≤ length old + 3 * length c + 8
lost_steps s c old new (inl none') = let one = choice_steps s None old new none' in omega (arith, one)
lost_steps s c old new (inr f) =
    let one = prepared_steps s c f.0 old f.1 f.3 in
    let two = one_more _ f.1 new f.4 in
    omega (arith, one, two)

-- ---- what a cleanup leaves

pub only_cleans : (s : SeekRecord) (c : List ChainEdge) (ns : List NodeId) (epoch : ℕ) (p m q : PassView) → IsInRun p
    → HasCut s c ns p m → OnlyCuts p m → OnlyLabels epoch m q → Stepped m q Sight (Labelled epoch) → OnlyCleans p q
only_cleans s c ns epoch p m q run cut cuts labels step = record {
  announcement = labels.announcement ∙ ap (λ (b : Brief). b.announcement) cut.epochs;
  pin = labels.pin ∙ ap (λ (b : Brief). b.pin) cut.epochs;
  labelled = λ _. labels.labelled;
  private = labels.private ∙ cuts.private;
  call = ap (λ (S : Search). S.call) labels.search ∙ cuts.call;
  linked = ap (λ (S : Search). S.linked) labels.search ∙ cuts.linked;
  swapped = ap (λ (S : Search). S.swapped) labels.search ∙ cuts.swapped;
  flagged = ap (λ (S : Search). S.flagged) labels.search ∙ cuts.flagged;
  ledgers = cut_ledgers s c ns epoch p m q run cut step;
}
