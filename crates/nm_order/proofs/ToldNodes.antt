-- The nodes that a flag and a splice answer are those that the facts of a log name.
use Rattle.std.proofs.Common.{length-append, ◌≡◌, ◌≢◌, ℕ, zero, suc, ◌≤◌, Bool, true, false, cond, not, ◌&&◌, List, [], ◌∷◌, ◌++◌, length, ◌+◌, map, refl, sym, ap, subst, ◌∙◌, arith, true≢false, Ok}
use Rattle.std.specs.Prelude.{Option, Some, None, unwrap_or}
use native.Mathlib.Decide.{ℕ_discrete}
use Rattle.std.proofs.lemmas.Bool.{and_parts}
use Rattle.std.proofs.lemmas.Option.{none-some, same_Some}
use Rattle.nm_edge.specs.Edges.{Edge, other, is_to}
use Rattle.nm_edge.specs.declared.edge.Side.{Side}
use Rattle.nm_edge.specs.declared.edge.Side.TheVariants.{Left, Right}
use Rattle.nm_edge.specs.declared.node.NodeId.{NodeId}
use Rattle.nm_model.specs.declared.event.Event.TheVariants.{Flag, Splice, Join}
use Rattle.nm_model.specs.declared.reply.Reply.{Reply}
use Rattle.nm_model.specs.declared.reply.Reply.TheVariants.{Flagged, Cut, Lost}
use Rattle.nm_model.specs.Memory.{node, edge, child, named}
use Rattle.nm_model.specs.Knowledge.{Knowledge, knows, read, is_flagged, is_tagged, slot_read, leads_on, onward, before_way, way, cut_by}
use Rattle.nm_model.specs.Paths.{follow}
use Rattle.nm_model.specs.Searches.{Search}
use Rattle.nm_model.specs.Step.{reply}
use Rattle.nm_model.specs.Runs.{State, of, outcome, reply_of}
use Rattle.nm_model.specs.Walks.{Entry}
use Rattle.nm_model.specs.Ordered.{search_of}
use Rattle.nm_laws.proofs.Trees.{follow-append}
use Rattle.nm_laws.proofs.Pictures.{alone, on_path}
use Rattle.nm_laws.proofs.Views.{picture, held_queue}
use Rattle.nm_laws.proofs.TreeSteps.{Lawful}
use Rattle.nm_laws.proofs.Configurations.{state_outcome}
use Rattle.nm_laws.proofs.Cuts.{won_splice, shown}
use Rattle.nm_laws.proofs.Splices.{a_on_path}
use Rattle.nm_model.proofs.Ways.{way_here, way_next, way_end}
use Rattle.nm_order.specs.Facts.{Fact, HoldsIn, Holds}
use Rattle.nm_order.specs.Facts.Fact.{IsTagged, IsFlagged, IsBorn}
use Rattle.nm_order.specs.Told.{FrozenTo, OfEachEntry, CutsAreAsKnown, FlagsAreAsKnown}
use Rattle.nm_order.specs.Told.FrozenTo.{ends_there, goes_down}
use Rattle.nm_order.proofs.LastEntries.{PartOf, LastEntry, last_entry}
use Rattle.nm_order.proofs.LastEntries.PartOf.{Own, Resigns}
use Rattle.nm_order.proofs.OrderedInduction.{births_of}
use Rattle.nm_order.proofs.ToldLaws.{lawful_before, holds_then}

-- ---- a won flag

flag_told : (s : State) (w p leaf : ℕ) (side : Side) (n : NodeId) → reply_of s w (Flag p side leaf) ≡ Flagged n
    → n ≡ named s.memory leaf
unfolding reply
flag_told s w p leaf side n is = go (is_to (edge s.memory p side) leaf) is
  where
    go : (b : Bool) → cond b (Flagged (named s.memory leaf)) (Lost (edge s.memory p side)) ≡ Flagged n
        → n ≡ named s.memory leaf
    go true e = cc
    go false e = absurd (differ e)
      where
        differ : Lost (edge s.memory p side) ≡ Flagged n → ⊥
        differ e = cc

pub flags_are_as_known : OfEachEntry FlagsAreAsKnown
flags_are_as_known L enough w log entry l p leaf birth side n is born = go (last_entry L enough w log entry l)
  where
    go : LastEntry L w log entry → n ≡ record { slot = leaf; birth = birth }
    go last =
        let b : (node last.before.state.memory leaf).birth
        ≡ birth = (births_of L enough last.before last.told.is_ordered w).seen leaf birth
        (holds_then L enough w log entry last (IsBorn leaf birth) born) in
        flag_told last.before.state last.by p leaf side n
        (subst (λ (e : Entry). reply_of last.before.state last.by e.0 ≡ e.1) is last.replied)
        ∙ ap (λ (c : ℕ). record { slot = leaf; birth = c }) b

-- ---- the chain of a won splice

module _ (k : Knowledge) (S : Search) where
  pub flag_known : (x : ℕ) (d : Side) (y : ℕ) → HoldsIn k S (IsFlagged x d y)
      → (is_flagged (read k x d) ≡ true) × (slot_read (read k x d) ≡ y)
  flag_known x d y f = (ap is_flagged f.1 ∙ f.2, ap slot_read f.1 ∙ f.3)

  pub tag_known : (x : ℕ) (d : Side) (y : ℕ) → HoldsIn k S (IsTagged x d y) → slot_read (read k x d) ≡ y
  tag_known x d y f = ap slot_read f.1 ∙ f.3

  -- where the way goes on, it goes by the side whose twin is known flagged
  pub onward_is : (x : ℕ) (d g : Side) (y : ℕ) → HoldsIn k S (IsFlagged x (other d) y) → onward k x ≡ Some g → g ≡ d
  onward_is x d g y flag is = by d g flag (led (leads_on k x Left) (leads_on k x Right) refl refl is)
    where
      led : (a b : Bool) → leads_on k x Left ≡ a → leads_on k x Right ≡ b
          → cond a (Some Left) (cond b (Some Right) None) ≡ Some g → leads_on k x g ≡ true
      led true b i j e = subst (λ (c : Side). leads_on k x c ≡ true) (same_Some Left g e) i
      led false true i j e = subst (λ (c : Side). leads_on k x c ≡ true) (same_Some Right g e) j
      led false false i j e = absurd (none-some g e)

      unflagged : (g : Side) → leads_on k x g ≡ true → is_flagged (read k x g) ≡ true → ⊥
      unflagged g lead flag =
          let one = and_parts (is_tagged (read k x g))
          (is_flagged (read k x (other g)) && not (is_flagged (read k x g))) lead in
          let two = and_parts (is_flagged (read k x (other g))) (not (is_flagged (read k x g))) one.1 in
          true≢false (sym two.1 ∙ ap not flag)

      by : (d g : Side) → HoldsIn k S (IsFlagged x (other d) y) → leads_on k x g ≡ true → g ≡ d
      by Left Left flag lead = refl
      by Right Right flag lead = refl
      by Left Right flag lead = absurd (unflagged Right lead (flag_known x Right y flag).0)
      by Right Left flag lead = absurd (unflagged Left lead (flag_known x Left y flag).0)

module _ (s : State) (h : ℕ → ℕ) (law : Lawful s h) (w : ℕ) (S : Search)
    (births : (x b : ℕ) → HoldsIn (of s w) S (IsBorn x b) → (node s.memory x).birth ≡ b) where
  abbrev k : Knowledge
  k = of s w

  holds : Fact → Type 0
  holds fact = HoldsIn (of s w) S fact

  -- a chain as it is known goes down to p
  path_of : {p : ℕ} {keep : Side} {x : ℕ} {ns : List NodeId} → FrozenTo holds p keep x ns → List Side
  path_of (ends_there tag flag b c) = []
  path_of (goes_down side tag flag b c rest) = side ∷ path_of rest

  tag_leads : (x : ℕ) (d : Side) (y : ℕ) → HoldsIn (of s w) S (IsTagged x d y) → child s.memory x d ≡ y
  tag_leads x d y f = ap (λ (e : Edge). e.slot) (law.tree.tag_read w x d f.0 f.1 f.2) ∙ f.3

  leads : {p : ℕ} {keep : Side} {x : ℕ} {ns : List NodeId} (f : FrozenTo holds p keep x ns)
      → follow (child s.memory) x (path_of f) ≡ p
  unfolding holds path_of
  leads (ends_there tag flag b c) = refl
  leads (goes_down side tag flag b c rest) = ap (λ (y : ℕ). follow (child s.memory) y (path_of rest))
      (tag_leads _ side _ tag) ∙ leads rest

  -- two names of a node
  name_is : (x b : ℕ) → HoldsIn (of s w) S (IsBorn x b) → named s.memory x ≡ record { slot = x; birth = b }
  name_is x b born = ap (λ (c : ℕ). record { slot = x; birth = c }) (births x b born)

  pair_is : (x y b c : ℕ) (d : Side) (rest : List NodeId) → HoldsIn (of s w) S (IsFlagged x d y)
      → HoldsIn (of s w) S (IsBorn x b) → HoldsIn (of s w) S (IsBorn y c)
      → named s.memory x ∷ named s.memory (slot_read (read (of s w) x d)) ∷ rest
      ≡ record { slot = x; birth = b } ∷ record { slot = y; birth = c } ∷ rest
  pair_is x y b c d rest flag born leaf_born = ap (λ (z : ℕ). named s.memory x ∷ named s.memory z ∷ rest)
      (flag_known (of s w) S x d y flag).1 ∙ (λ i. name_is x b born i ∷ name_is y c leaf_born i ∷ rest)

  longer : (q : List Side) (d : Side) (r : List Side) → q ≡ q ++ d ∷ r → ⊥
  longer q d r same = by (length q) (length-append q (d ∷ r)) (ap length same)
    where
      by : (n : ℕ) → length (q ++ d ∷ r) ≡ length q + suc (length r) → length q ≡ length (q ++ d ∷ r) → ⊥
      by n e f = omega (arith, e, f)

  same_cut : {p : ℕ} {keep : Side} {x : ℕ} {ns : List NodeId} (f : FrozenTo holds p keep x ns) (fuel : ℕ)
      (q : List Side) → follow (child s.memory) 1 q ≡ x → x ≢ 0 → (sides : List Side)
      → way fuel (of s w) x p ≡ Some sides
      → map (named s.memory) (cut_by (of s w) x sides keep) ≡ ns
  unfolding holds
  same_cut f zero q at some sides is = absurd (none-some sides is)
  same_cut {p} {keep} (ends_there {leaf} {birth} {leaf_birth} tag flag b c) (suc fuel) q at some sides is =
      subst (λ (r : List Side). map (named s.memory) (cut_by (of s w) p r keep)
      ≡ record { slot = p; birth = birth } ∷ record { slot = leaf; birth = leaf_birth } ∷ [])
      (same_Some [] sides (sym (way_here (suc fuel) fuel (of s w) p p (omega arith) refl) ∙ is))
      (pair_is p leaf birth leaf_birth (other keep) [] flag b c)
  same_cut {p} {keep} (goes_down {slot} {to} {leaf} {birth} {leaf_birth} {nodes} side tag flag b c rest) (suc fuel) q
      at some sides is = elim (ℕ_discrete slot p) [
        | yes back ↦ absurd (longer q side (path_of rest)
            (alone s.layout.nodes (picture s h) law.tree q (q ++ side ∷ path_of rest) (λ z. some (sym at ∙ z))
            (at ∙ (back ∙ sym (follow-append (child s.memory) 1 q (side ∷ path_of rest)
            ∙ (ap (λ (y : ℕ). follow (child s.memory) (child s.memory y side) (path_of rest)) at
            ∙ (ap (λ (y : ℕ). follow (child s.memory) y (path_of rest)) (tag_leads slot side to tag) ∙ leads rest)))))))
        | no ne ↦ on (λ q at some r found. same_cut rest fuel q at some r found) ne (onward (of s w) slot) refl
      ]
    where
      Rest : List Side → Type 0
      Rest r = map (named s.memory) (cut_by (of s w) to r keep) ≡ nodes

      Recurs : Type 0
      Recurs = (q : List Side) → follow (child s.memory) 1 q ≡ to → to ≢ 0 → (r : List Side)
          → way fuel (of s w) to p ≡ Some r → map (named s.memory) (cut_by (of s w) to r keep) ≡ nodes

      then : Recurs → (r : List Side) → way fuel (of s w) to p ≡ Some r → Rest r
      then recurs r found = recurs (q ++ side ∷ []) (follow-append (child s.memory) 1 q (side ∷ [])
          ∙ (ap (λ (y : ℕ). child s.memory y side) at ∙ tag_leads slot side to tag)) (next_some rest) r found
        where
          known_some : (y : ℕ) → knows (of s w) y ≡ true → y ≢ 0
          known_some y known z = let r = law.tree.known w y known in absurd (omega arith)

          next_some : {y : ℕ} {ms : List NodeId} → FrozenTo holds p keep y ms → y ≢ 0
          next_some (ends_there tag flag b c) = known_some _ (law.tree.reads w _ keep tag.0 tag.1)
          next_some (goes_down side tag flag b c rest) = known_some _ (law.tree.reads w _ side tag.0 tag.1)

      met : Recurs → (o : Option (List Side)) → way fuel (of s w) to p ≡ o → before_way (Some side) o ≡ Some sides
          → map (named s.memory) (cut_by (of s w) slot sides keep)
          ≡ record { slot = slot; birth = birth } ∷ record { slot = leaf; birth = leaf_birth } ∷ nodes
      met recurs None found e = absurd (none-some sides e)
      met recurs (Some r) found e = subst (λ (d : List Side). map (named s.memory) (cut_by (of s w) slot d keep)
          ≡ record { slot = slot; birth = birth } ∷ record { slot = leaf; birth = leaf_birth } ∷ nodes)
          (same_Some (side ∷ r) sides e)
          (ap (λ (y : ℕ). named s.memory slot ∷ named s.memory (slot_read (read (of s w) slot (other side)))
          ∷ map (named s.memory) (cut_by (of s w) y r keep)) (tag_known (of s w) S slot side to tag)
          ∙ (ap (λ (ms : List NodeId). named s.memory slot
          ∷ named s.memory (slot_read (read (of s w) slot (other side))) ∷ ms) (then recurs r found)
          ∙ pair_is slot leaf birth leaf_birth (other side) nodes flag b c))

      on : Recurs → slot ≢ p → (o : Option Side) → onward (of s w) slot ≡ o
          → map (named s.memory) (cut_by (of s w) slot sides keep)
          ≡ record { slot = slot; birth = birth } ∷ record { slot = leaf; birth = leaf_birth } ∷ nodes
      on recurs ne None goes = absurd (none-some sides
          (sym (way_end (suc fuel) fuel (of s w) slot p (omega arith) ne goes) ∙ is))
      on recurs ne (Some g) goes =
          let d : g ≡ side = onward_is (of s w) S slot side g leaf flag goes in
          met recurs (way fuel (of s w) to p) refl (ap (λ (y : ℕ). before_way (Some side) (way fuel (of s w) y p))
          (sym (tag_known (of s w) S slot side to tag))
          ∙ (sym (way_next (suc fuel) fuel (of s w) slot p side (omega arith) ne (goes ∙ ap Some d)) ∙ is))

-- ---- a won splice

pub frozen_so : (A B : Fact → Type 0) → ((fact : Fact) → A fact → B fact)
    → {p : ℕ} {keep : Side} {x : ℕ} {ns : List NodeId} → FrozenTo A p keep x ns → FrozenTo B p keep x ns
frozen_so A B f (ends_there tag flag b c) = ends_there (f _ tag) (f _ flag) (f _ b) (f _ c)
frozen_so A B f (goes_down side tag flag b c rest) = goes_down side (f _ tag) (f _ flag) (f _ b) (f _ c)
    (frozen_so A B f rest)

-- by what its worker knows in a state
splice_told : (s : State) (h : ℕ → ℕ) (law : Lawful s h) (w : ℕ) (S : Search)
    → ((x b : ℕ) → HoldsIn (of s w) S (IsBorn x b) → (node s.memory x).birth ≡ b)
    → (a x p : ℕ) (side keep : Side) (ns known : List NodeId)
    → outcome s (w, Splice a side x p keep) ≡ Ok (Cut ns) → FrozenTo (λ fact. HoldsIn (of s w) S fact) p keep x known
    → ns ≡ known
unfolding holds
splice_told s h law w S births a x p side keep ns known is frozen =
    let won = won_splice s w a side x p keep ns is in
    let k = shown s h law w a side x p keep won.ok won.won in
    let above = a_on_path s.layout.nodes (picture s h) w (length (held_queue (of s (h w)) w)) a side
    (k.sides ++ keep ∷ []) _ law.tree k.splice in
    let here : child s.memory a side ≡ x = ap (λ (e : Edge). e.slot) k.is in
    let high : 6 ≤ child s.memory a side = k.splice.high in
    let path = on_path (picture s h) a side above (λ z. omega arith) in
    let sides : unwrap_or (way s.layout.nodes (of s w) x p) [] ≡ k.sides = ap (λ o. unwrap_or o []) k.found in
    sym won.nodes ∙ (ap (λ (r : List Side). map (named s.memory) (cut_by (of s w) x r keep)) sides
    ∙ same_cut s h law w S births frozen s.layout.nodes path.path (path.ends ∙ here) (λ z. omega arith) k.sides k.found)

pub cuts_are_as_known : OfEachEntry CutsAreAsKnown
cuts_are_as_known L enough w log entry l a x p side keep ns known is frozen = go (last_entry L enough w log entry l)
  where
    go : LastEntry L w log entry → ns ≡ known
    go last = by last.takes
      where
        law : (h : ℕ → ℕ) × Lawful last.before.state h
        law = lawful_before L enough w log entry last

        won : (u : ℕ) → u ≡ w → outcome last.before.state (u, entry.0) ≡ Ok entry.1
            → outcome last.before.state (w, Splice a side x p keep) ≡ Ok (Cut ns)
        won u same o = subst (λ (e : Entry). outcome last.before.state (w, e.0) ≡ Ok e.1) is
            (subst (λ (v : ℕ). outcome last.before.state (v, entry.0) ≡ Ok entry.1) same o)

        no_join : (v : ℕ) → Splice a side x p keep ≡ Join v → ⊥
        no_join v e = cc

        by : PartOf w last.by entry.0 → ns ≡ known
        by (Own same) = splice_told last.before.state law.0 law.1 w (search_of last.told.is_ordered.searches w)
            (births_of L enough last.before last.told.is_ordered w).seen a x p side keep ns known
            (won last.by same (state_outcome last.before (last.by, entry.0) last.is_allowed
            ∙ ap (λ (r : Reply). Ok r) last.replied))
            (frozen_so (λ fact. Holds L w log fact) (λ fact. HoldsIn (of last.before.state w)
            (search_of last.told.is_ordered.searches w) fact) (holds_then L enough w log entry last) frozen)
        by (Resigns v join) = absurd (no_join v (ap (λ (e : Entry). e.0) (sym is) ∙ join))
