-- The laws of the tree are kept by a splice.
use Rattle.std.proofs.Common.{◌≡◌, ℕ, zero, suc, ◌+◌, ◌<◌, ◌≤◌, inl, inr, eqb, ltb, Bool, true, false, cond, not, ◌&&◌, List, [], ◌∷◌, ◌++◌, ◌-◌, length, refl, sym, ap, ◌∙◌, arith, true≢false}
use Rattle.std.specs.Prelude.{Option, Some, None, option_map, slice_get, unwrap_or, is_some, map}
use native.Mathlib.Decide.{ℕ_discrete}
use Rattle.std.proofs.lemmas.Bool.{cases_Bool, cond-true, cond-false, eqb-true, eq-eqb, ne_eqb, and_parts, ltb-true, ltb-false, lt-ltb, le-ltb}
use Rattle.std.proofs.lemmas.Option.{none-some, same_Some, slice_get_past}
use Rattle.nm_edge.specs.Edges.{Edge, to, other, is_to}
use Rattle.nm_edge.specs.Layouts.{Layout}
use Rattle.nm_edge.specs.declared.edge.Side.{Side}
use Rattle.nm_edge.specs.declared.edge.Side.TheVariants.{Left, Right}
use Rattle.nm_edge.specs.declared.node.NodeId.{NodeId}
use Rattle.nm_model.specs.declared.event.Event.TheVariants.{Splice}
use Rattle.nm_model.specs.declared.reply.Reply.TheVariants.{Cut, Lost}
use Rattle.nm_model.specs.declared.ledger.Queued.{Queued}
use Rattle.nm_model.specs.declared.ledger.Ledger.{Ledger}
use Rattle.nm_model.specs.Memory.{Memory, edge, put_edge, named}
use Rattle.nm_model.specs.Ledgers.{held, queue_of, unlabelled, with_cut}
use Rattle.nm_model.specs.Knowledge.{Knowledge, knows, is_private, draft_of, read, is_flagged, is_tagged, slot_read, leads_on, onward, slot_on, before_way, way, cut_by}
use Rattle.nm_model.specs.Learning.{learn, cutting}
use Rattle.nm_model.specs.Paths.{follow}
use Rattle.nm_model.specs.Places.{slot_of}
use Rattle.nm_model.specs.Step.{exchanged, kept, cut_nodes, is_frozen}
use Rattle.nm_laws.proofs.Held.{held-retire_same, held-retire_other}
use Rattle.nm_laws.proofs.Learned.{learn_cut, learn_splice_lost}
use Rattle.nm_laws.proofs.Trees.{follow-append}
use Rattle.nm_laws.proofs.CutPaths.{nodes_cut}
use Rattle.nm_laws.proofs.Pictures.{Picture, below, InReach, IsLive, TreeLaw}
use Rattle.nm_laws.proofs.Splices.{IsWay, spliced, IsSplice, splice_keeps, onward_slot}
use Rattle.nm_laws.proofs.Views.{view, law_of, with_worker, row, same_row, edge_put, held_queue, queued_at, is_late, drafted_on}
use Rattle.nm_laws.proofs.TreeSlots.{is_to-true, flag_known, tag_known, known_live, lost_view}

-- the way that the worker knows is the way that stands
pub record KnownWay (P : Picture) (k : Knowledge) (s p : ℕ) (sides : List Side) : Type 0 where
  pub ends : follow (below P) s sides ≡ p
  is_way : IsWay P s sides
  cut : (keep : Side) → slot_read (read k p (other keep)) ≡ below P p (other keep)
      → cut_by k s sides keep ≡ nodes_cut (below P) s (sides ++ keep ∷ [])

leads_on-parts : (k : Knowledge) (s : ℕ) (d : Side) → leads_on k s d ≡ true
    → (is_tagged (read k s d) ≡ true) × (is_flagged (read k s (other d)) ≡ true)
leads_on-parts k s d h =
    let one = and_parts (is_tagged (read k s d)) (is_flagged (read k s (other d)) && not (is_flagged (read k s d))) h in
    let two = and_parts (is_flagged (read k s (other d))) (not (is_flagged (read k s d))) one.1 in
    (one.0, two.0)

pub onward_leads : (k : Knowledge) (s : ℕ) (d : Side) → onward k s ≡ Some d → leads_on k s d ≡ true
onward_leads k s d h = go (leads_on k s Left) (leads_on k s Right) refl refl h
  where
    go : (a b : Bool) → leads_on k s Left ≡ a → leads_on k s Right ≡ b
        → cond a (Some Left) (cond b (Some Right) None) ≡ Some d → leads_on k s d ≡ true
    go true b i j h = ap (leads_on k s) (sym (same_Some Left d h)) ∙ i
    go false true i j h = ap (leads_on k s) (sym (same_Some Right d h)) ∙ j
    go false false i j h = absurd (none-some d h)

pub known_way : (N : ℕ) (m : Memory) (kn : ℕ → Knowledge) (hold : ℕ → ℕ) (w : ℕ) → TreeLaw N (view m kn hold)
    → (fuel s p : ℕ) (sides : List Side) → way fuel (kn w) s p ≡ Some sides → KnownWay (view m kn hold) (kn w) s p sides
known_way N m kn hold w law zero s p sides h = absurd (none-some sides h)
known_way N m kn hold w law (suc fuel) s p sides h = go (eqb s p) refl h (λ t r. known_way N m kn hold w law fuel t p r)
  where
    stop : s ≡ p → [] ≡ sides → KnownWay (view m kn hold) (kn w) s p sides
    stop at is = rw (← is) (record {
      ends = at;
      is_way = tt;
      cut = λ keep twin. rw at
          (ap (λ (y : ℕ). p ∷ y ∷ []) twin);
    })

    step : (d : Side) (r : List Side) → leads_on (kn w) s d ≡ true → d ∷ r ≡ sides
        → KnownWay (view m kn hold) (kn w) (slot_read (read (kn w) s d)) p r
        → KnownWay (view m kn hold) (kn w) s p sides
    step d r on is rest =
        let parts = leads_on-parts (kn w) s d on in
        let tag = tag_known N m kn hold w s d law parts.0 in
        let flag = flag_known N m kn hold w s (other d) law parts.1 in
        let slot : slot_read (read (kn w) s d) ≡ (edge m s d).slot = ap slot_read tag in
        let tagged_now : (edge m s d).tag ≡ true = sym (ap is_tagged tag) ∙ parts.0 in
        rw (← is) (record {
          ends = ap (λ (y : ℕ). follow (below (view m kn hold)) y r) (sym slot) ∙ rest.ends;
          is_way = (tagged_now, flag.0, rw slot at rest.is_way);
          cut = λ keep twin. ap (λ (ys : List ℕ). s ∷ slot_read (read (kn w) s (other d)) ∷ ys) (rest.cut keep twin)
              ∙ (ap (λ (y : ℕ). s ∷ y ∷ nodes_cut (below (view m kn hold)) (slot_read (read (kn w) s d))
              (r ++ keep ∷ [])) flag.1
              ∙ ap (λ (y : ℕ). s ∷ (edge m s (other d)).slot ∷ nodes_cut (below (view m kn hold)) y (r ++ keep ∷ []))
              slot);
        })

    on_side : (o : Option Side) → onward (kn w) s ≡ o
        → before_way o (way fuel (kn w) (slot_on (kn w) s o) p) ≡ Some sides
        → ((t : ℕ) (r : List Side) → way fuel (kn w) t p ≡ Some r → KnownWay (view m kn hold) (kn w) t p r)
        → KnownWay (view m kn hold) (kn w) s p sides
    on_side None is h ih = absurd (none-some sides h)
    on_side (Some d) is h ih = go (way fuel (kn w) (slot_read (read (kn w) s d)) p) refl h
      where
        go : (o : Option (List Side)) → way fuel (kn w) (slot_read (read (kn w) s d)) p ≡ o
            → before_way (Some d) o ≡ Some sides → KnownWay (view m kn hold) (kn w) s p sides
        go None k h = absurd (none-some sides h)
        go (Some r) k h = step d r (onward_leads (kn w) s d is) (same_Some (d ∷ r) sides h)
            (ih (slot_read (read (kn w) s d)) r k)

    go : (b : Bool) → eqb s p ≡ b → elim b as (λ _. Option (List Side)) [
      | true ↦ Some []
      | false ↦ before_way (onward (kn w) s)
          (way fuel (kn w) (slot_on (kn w) s (onward (kn w) s)) p)
    ] ≡ Some sides
        → ((t : ℕ) (r : List Side) → way fuel (kn w) t p ≡ Some r → KnownWay (view m kn hold) (kn w) t p r)
        → KnownWay (view m kn hold) (kn w) s p sides
    go true i h ih = stop (eqb-true s p i) (same_Some [] sides h)
    go false i h ih = on_side (onward (kn w) s) refl h ih

slots_of : (ns : List NodeId) (i : ℕ) → option_map slot_of (slice_get (map unlabelled ns) i)
    ≡ slice_get (map (λ (n : NodeId). n.slot) ns) i
slots_of [] i = refl
slots_of (n ∷ ns) zero = refl
slots_of (n ∷ ns) (suc i) = slots_of ns i

ltb_suc : (i n : ℕ) → ltb (suc i) (suc n) ≡ ltb i n
ltb_suc i n = elim (cases_Bool (ltb i n)) [
  | inl t ↦ let lt = ltb-true i n t in lt-ltb (suc i) (suc n) (omega arith) ∙ sym t
  | inr f ↦ let le = ltb-false i n f in le-ltb (suc i) (suc n) (omega arith) ∙ sym f
]

pub queue_append : (q : List Queued) (ns : List NodeId) (i : ℕ)
    → option_map slot_of (slice_get (q ++ map unlabelled ns) i) ≡ cond (ltb i (length q))
    (option_map slot_of (slice_get q i)) (slice_get (map (λ (n : NodeId). n.slot) ns) (i - length q))
queue_append [] ns i =
    let none : i - 0 ≡ i = omega arith in
    let past : ltb i 0 ≡ false = le-ltb i 0 (omega arith) in
    slots_of ns i ∙ (ap (slice_get (map (λ (n : NodeId). n.slot) ns)) (sym none)
    ∙ sym (cond-false (ltb i 0) None (slice_get (map (λ (n : NodeId). n.slot) ns) (i - 0)) past))
queue_append (e ∷ q) ns zero = sym (cond-true (ltb 0 (suc (length q))) (Some (slot_of e)) _
    (lt-ltb 0 (suc (length q)) (omega arith)))
queue_append (e ∷ q) ns (suc i) =
    let less : suc i - suc (length q) ≡ i - length q = omega arith in
    queue_append q ns i
    ∙ (ap (λ (b : Bool). cond b (option_map slot_of (slice_get q i))
    (slice_get (map (λ (n : NodeId). n.slot) ns) (i - length q))) (sym (ltb_suc i (length q)))
    ∙ ap (λ (j : ℕ). cond (ltb (suc i) (suc (length q))) (option_map slot_of (slice_get q i))
    (slice_get (map (λ (n : NodeId). n.slot) ns) j)) (sym less))

late_new : (o : Option ℕ) (ns : List NodeId) (i : ℕ) → is_late o (slice_get (map unlabelled ns) i) ≡ false
late_new None ns i = refl
late_new (Some p) [] i = refl
late_new (Some p) (n ∷ ns) zero = refl
late_new (Some p) (n ∷ ns) (suc i) = late_new (Some p) ns i

pub late_append : (o : Option ℕ) (q : List Queued) (ns : List NodeId) (i : ℕ)
    → is_late o (slice_get (q ++ map unlabelled ns) i) ≡ cond (ltb i (length q)) (is_late o (slice_get q i)) false
late_append o [] ns i = late_new o ns i ∙ sym (cond-false (ltb i 0) (is_late o None) false (le-ltb i 0 (omega arith)))
late_append o (e ∷ q) ns zero = sym (cond-true (ltb 0 (suc (length q))) (is_late o (Some e)) false
    (lt-ltb 0 (suc (length q)) (omega arith)))
late_append o (e ∷ q) ns (suc i) = late_append o q ns i
    ∙ ap (λ (b : Bool). cond b (is_late o (slice_get q i)) false) (sym (ltb_suc i (length q)))

pub named_slots : (m : Memory) (xs : List ℕ) → map (λ (n : NodeId). n.slot) (map (named m) xs) ≡ xs
named_slots m [] = refl
named_slots m (x ∷ xs) = ap (λ (ys : List ℕ). x ∷ ys) (named_slots m xs)

longer_way : (P : Picture) (s p : ℕ) (sides : List Side) (keep : Side) → IsWay P s sides
    → follow (below P) s sides ≡ p → (P.edges p keep).tag ≡ true → (P.edges p (other keep)).flag ≡ true
    → IsWay P s (sides ++ keep ∷ [])
longer_way P s p [] keep w at tag flag = rw at (tag, flag, tt)
longer_way P s p (d ∷ sides) keep w at tag flag = (w.0, w.1, longer_way P (below P s d) p sides keep w.2 at tag flag)

-- what an allowed splice that is won has shown
pub splice_shown : (N : ℕ) (m : Memory) (kn : ℕ → Knowledge) (hold : ℕ → ℕ) (w a : ℕ) (d : Side) (s p : ℕ)
    (keep : Side) (sides : List Side) → 6 ≤ s → 6 ≤ p
    → knows (kn w) a ≡ true → knows (kn w) s ≡ true → way N (kn w) s p ≡ Some sides
    → is_tagged (read (kn w) p keep) ≡ true → is_flagged (read (kn w) p (other keep)) ≡ true
    → edge m a d ≡ to s → TreeLaw N (view m kn hold)
    → IsSplice N (view m kn hold) w (length (held_queue (kn (hold w)) w)) a d (sides ++ keep ∷ [])
    (kept (read (kn w) p keep))
splice_shown N m kn hold w a d s p keep sides high_s high_p known held found tag flag is law = record {
  live = known_live N m kn hold w a law known;
  is_slot = λ z. let r = law.known w a known in omega arith;
  inside = (law.known w a known).1;
  unmarked = is ∙ ap to (sym slot);
  high = rw slot high_s;
  is_way = rw slot (longer_way (view m kn hold) s p sides keep k.is_way k.ends tag_now flag_now);
  leads = ap (λ (y : Edge). y.slot) edge_is ∙ sym (ap
      (λ (y : ℕ). follow (below (view m kn hold)) y (sides ++ keep ∷ [])) slot
      ∙ (follow-append (below (view m kn hold)) s sides (keep ∷ [])
      ∙ ap (λ (y : ℕ). below (view m kn hold) y keep) k.ends));
  some = rw (ap (λ (y : Edge). y.slot) edge_is) (onward_slot N (view m kn hold) law p keep live flag_now);
  untagged = ap (λ (y : Edge). y.tag) edge_is;
  flag_high = λ f. rw (ap (λ (y : Edge). y.slot) edge_is)
      (law.flags p keep live (ap (λ (y : Edge). y.flag) (sym edge_is) ∙ f));
  flag_leaf = λ f g. ap (λ (y : Edge). below (view m kn hold) y.slot g) edge_is
      ∙ law.leaf_known w p keep reach (ap (λ (y : Edge). y.flag) (sym edge_is) ∙ f) g;
  full = λ i past. ap (option_map slot_of) (slice_get_past (held_queue (kn (hold w)) w) i past);
}
  where
    k : KnownWay (view m kn hold) (kn w) s p sides
    k = known_way N m kn hold w law N s p sides found

    slot : (edge m a d).slot ≡ s
    slot = ap (λ (y : Edge). y.slot) is

    tag_is : read (kn w) p keep ≡ Some (edge m p keep)
    tag_is = tag_known N m kn hold w p keep law tag

    edge_is : kept (read (kn w) p keep) ≡ record {
      slot = (edge m p keep).slot;
      flag = (edge m p keep).flag;
      tag =
          false;
    }
    edge_is = ap kept tag_is

    tag_now : (edge m p keep).tag ≡ true
    tag_now = sym (ap is_tagged tag_is) ∙ tag

    flag_now : (edge m p (other keep)).flag ≡ true
    flag_now = (flag_known N m kn hold w p (other keep) law flag).0

    reach : InReach (view m kn hold) w p
    reach = record { from = s; known = held; path = sides; ends = k.ends; is_slot = λ z. omega arith }

    live : IsLive (view m kn hold) p
    live = law.guarded w p reach

pub cut_is : (N : ℕ) (m : Memory) (kn : ℕ → Knowledge) (hold : ℕ → ℕ) (w s p : ℕ) (keep : Side) (sides : List Side)
    → way N (kn w) s p ≡ Some sides → is_flagged (read (kn w) p (other keep)) ≡ true → TreeLaw N (view m kn hold)
    → cut_by (kn w) s (unwrap_or (way N (kn w) s p) []) keep ≡ nodes_cut (below (view m kn hold)) s (sides ++ keep ∷ [])
cut_is N m kn hold w s p keep sides found flag law =
    let k = known_way N m kn hold w law N s p sides found in
    ap (λ o. cut_by (kn w) s (unwrap_or o []) keep) found
    ∙ k.cut keep (flag_known N m kn hold w p (other keep) law flag).1

-- the worker holds its own ledger
pub record Owns (kn : ℕ → Knowledge) (hold : ℕ → ℕ) (w : ℕ) : Type 0 where
  pub holder : hold w ≡ w
  pub ledger : Ledger
  pub is_held : held (kn w).ledgers w ≡ Some ledger
  pub inside : w < length (kn w).ledgers

splice_won : (L : Layout) (m : Memory) (kn : ℕ → Knowledge) (hold : ℕ → ℕ) (w a : ℕ) (d : Side) (s p : ℕ)
    (keep : Side) (sides : List Side) → a < length m.nodes → Owns kn hold w
    → IsSplice L.nodes (view m kn hold) w (length (held_queue (kn (hold w)) w)) a d (sides ++ keep ∷ [])
    (kept (read (kn w) p keep))
    → edge m a d ≡ to s → cut_by (kn w) s (unwrap_or (way L.nodes (kn w) s p) []) keep
    ≡ nodes_cut (below (view m kn hold)) s (sides ++ keep ∷ [])
    → TreeLaw L.nodes (view m kn hold)
    → TreeLaw L.nodes (view (put_edge m a d (kept (read (kn w) p keep)))
    (with_worker kn w (cutting w (kn w) (cut_nodes L m (kn w) s p keep))) hold)
splice_won L m kn hold w a d s p keep sides inside owns shown is cut law = law_of L.nodes
    (spliced (view m kn hold) w (length (held_queue (kn (hold w)) w))
    (nodes_cut (below (view m kn hold)) (edge m a d).slot (sides ++ keep ∷ [])) a d (kept (read (kn w) p keep))) _
    (splice_keeps L.nodes (view m kn hold) w (length (held_queue (kn (hold w)) w)) a d (sides ++ keep ∷ [])
    (kept (read (kn w) p keep)) law shown) (record {
      edges = λ x g. sym (edge_put m a d (kept (read (kn w) p keep)) inside x g);
      pool = λ x. refl;
      private = λ u x. same_row (λ y. is_private y x) kn w k refl u;
      queue = λ o i. sym (ap (λ q. queued_at q i) (queue_now o) ∙ queue_at o i (eqb o w) refl);
      knows = λ u x. same_row (λ y. knows y x) kn w k refl u;
      read = λ u x g. same_row (λ y. read y x g) kn w k refl u;
      drafted = λ u x g. same_row (λ y. drafted_on (draft_of y x) g) kn w k refl u;
      late = λ u o i. sym (ap (λ q. is_late q (slice_get (held_queue (with_worker kn w k (hold o)) o) i))
          (sym (same_row (λ y. y.brief.pin) kn w k refl u))
          ∙ (ap (λ q. is_late (kn u).brief.pin (slice_get q i)) (queue_now o) ∙ late_at u o i (eqb o w) refl));
    })
  where
    ns : List NodeId
    ns = cut_nodes L m (kn w) s p keep

    k : Knowledge
    k = cutting w (kn w) ns

    slots : map (λ (n : NodeId). n.slot) ns ≡ nodes_cut (below (view m kn hold)) (edge m a d).slot (sides ++ keep ∷ [])
    slots = named_slots m (cut_by (kn w) s (unwrap_or (way L.nodes (kn w) s p) []) keep)
        ∙ (cut ∙ ap (λ (y : ℕ). nodes_cut (below (view m kn hold)) y (sides ++ keep ∷ []))
        (sym (ap (λ (y : Edge). y.slot) is)))

    own_before : held_queue (kn (hold w)) w ≡ owns.ledger.queue
    own_before = ap (λ (y : ℕ). held_queue (kn y) w) owns.holder ∙ ap queue_of owns.is_held

    own_now : held_queue k w ≡ held_queue (kn (hold w)) w ++ map unlabelled ns
    own_now = ap queue_of (held-retire_same (kn w).ledgers w ns owns.inside
        ∙ ap (option_map (with_cut ns)) owns.is_held)
        ∙ ap (λ (q : List Queued). q ++ map unlabelled ns) (sym own_before)

    -- the queue of an origin now: the own one is longer
    queue_now : (o : ℕ) → held_queue (with_worker kn w k (hold o)) o
        ≡ cond (eqb o w) (held_queue (kn (hold w)) w ++ map unlabelled ns) (held_queue (kn (hold o)) o)
    queue_now o = elim (ℕ_discrete o w) [
      | yes same ↦ rw same (row (λ y. held_queue y w) kn w k (hold w)
          (cond (eqb w w) (held_queue (kn (hold w)) w ++ map unlabelled ns) (held_queue (kn (hold w)) w))
          (λ _. own_now ∙ sym (cond-true (eqb w w) (held_queue (kn (hold w)) w ++ map unlabelled ns)
          (held_queue (kn (hold w)) w) (eq-eqb w w refl)))
          (λ ne. absurd (ne owns.holder)))
      | no ne ↦ row (λ y. held_queue y o) kn w k (hold o)
          (cond (eqb o w) (held_queue (kn (hold w)) w ++ map unlabelled ns) (held_queue (kn (hold o)) o))
          (λ own. ap queue_of (held-retire_other (kn w).ledgers w ns o ne)
          ∙ (ap (λ (y : ℕ). held_queue (kn y) o) (sym own)
          ∙ sym (cond-false (eqb o w) (held_queue (kn (hold w)) w ++ map unlabelled ns)
          (held_queue (kn (hold o)) o) (ne_eqb o w ne))))
          (λ _. sym (cond-false (eqb o w) (held_queue (kn (hold w)) w ++ map unlabelled ns)
          (held_queue (kn (hold o)) o) (ne_eqb o w ne)))
    ]

    queue_at : (o i : ℕ) (b : Bool) → eqb o w ≡ b → queued_at
        (cond b (held_queue (kn (hold w)) w ++ map unlabelled ns) (held_queue (kn (hold o)) o)) i
        ≡ cond b (cond (ltb i (length (held_queue (kn (hold w)) w))) (queued_at (held_queue (kn (hold w)) w) i)
        (slice_get (nodes_cut (below (view m kn hold)) (edge m a d).slot (sides ++ keep ∷ []))
        (i - length (held_queue (kn (hold w)) w)))) (queued_at (held_queue (kn (hold o)) o) i)
    queue_at o i true at = queue_append (held_queue (kn (hold w)) w) ns i
        ∙ ap (λ (ys : List ℕ). cond (ltb i (length (held_queue (kn (hold w)) w)))
        (queued_at (held_queue (kn (hold w)) w) i) (slice_get ys (i - length (held_queue (kn (hold w)) w)))) slots
    queue_at o i false at = refl

    late_at : (u o i : ℕ) (b : Bool) → eqb o w ≡ b → is_late (kn u).brief.pin
        (slice_get (cond b (held_queue (kn (hold w)) w ++ map unlabelled ns) (held_queue (kn (hold o)) o)) i)
        ≡ cond b (cond (ltb i (length (held_queue (kn (hold w)) w)))
        (is_late (kn u).brief.pin (slice_get (held_queue (kn (hold w)) w) i)) false)
        (is_late (kn u).brief.pin (slice_get (held_queue (kn (hold o)) o) i))
    late_at u o i true at = late_append (kn u).brief.pin (held_queue (kn (hold w)) w) ns i
    late_at u o i false at = refl

pub splice_view : (L : Layout) (m : Memory) (kn : ℕ → Knowledge) (hold : ℕ → ℕ) (w a : ℕ) (d : Side) (s p : ℕ)
    (keep : Side) → length m.nodes ≡ L.nodes + 1 → Owns kn hold w → 6 ≤ s → 6 ≤ p
    → knows (kn w) a ≡ true → knows (kn w) s ≡ true → is_frozen L (kn w) s p keep ≡ true
    → TreeLaw L.nodes (view m kn hold)
    → TreeLaw L.nodes (view (exchanged m a d s (kept (read (kn w) p keep)))
    (with_worker kn w (learn w (kn w) (Splice a d s p keep)
    (cond (is_to (edge m a d) s) (Cut (cut_nodes L m (kn w) s p keep)) (Lost (edge m a d))))) hold)
splice_view L m kn hold w a d s p keep size owns high_s high_p known seen frozen law = go (is_to (edge m a d) s) refl
  where
    inside : a < length m.nodes
    inside = let r = law.known w a known in omega arith

    go : (b : Bool) → is_to (edge m a d) s ≡ b → TreeLaw L.nodes
        (view (cond b (put_edge m a d (kept (read (kn w) p keep))) m)
        (with_worker kn w (learn w (kn w) (Splice a d s p keep)
        (cond b (Cut (cut_nodes L m (kn w) s p keep)) (Lost (edge m a d))))) hold)
    go false h = rw (learn_splice_lost w (kn w) a d s p keep (edge m a d)) (lost_view L.nodes m kn hold w a d known law)
    go true h = rw (learn_cut w (kn w) a d s p keep (cut_nodes L m (kn w) s p keep))
        (by (way L.nodes (kn w) s p) refl (and_parts (is_some (way L.nodes (kn w) s p))
        (is_tagged (read (kn w) p keep) && is_flagged (read (kn w) p (other keep))) frozen))
      where
        by : (o : Option (List Side)) → way L.nodes (kn w) s p ≡ o
            → (is_some (way L.nodes (kn w) s p) ≡ true) × ((is_tagged (read (kn w) p keep)
            && is_flagged (read (kn w) p (other keep))) ≡ true)
            → TreeLaw L.nodes (view (put_edge m a d (kept (read (kn w) p keep)))
            (with_worker kn w (cutting w (kn w) (cut_nodes L m (kn w) s p keep))) hold)
        by None found parts = absurd (true≢false (sym parts.0 ∙ ap is_some found))
        by (Some sides) found parts =
            let marks = and_parts (is_tagged (read (kn w) p keep)) (is_flagged (read (kn w) p (other keep))) parts.1 in
            let is = is_to-true (edge m a d) s h in
            splice_won L m kn hold w a d s p keep sides inside owns
            (splice_shown L.nodes m kn hold w a d s p keep sides high_s high_p known seen found marks.0 marks.1 is
            law) is (cut_is L.nodes m kn hold w s p keep sides found marks.1 law) law
