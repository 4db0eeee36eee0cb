-- A splice that is won cuts just the nodes of its reply, and nothing else cuts anything.
use Rattle.std.proofs.Common.{◌≡◌, ℕ, ◌<◌, eqb, Bool, true, false, cond, ◌&&◌, ◌||◌, List, [], ◌∷◌, ◌++◌, length, map, refl, sym, ap, ◌∙◌, arith, true≢false}
use Rattle.std.specs.Prelude.{Option, Some, None, is_some, unwrap_or, Ok, Contains}
use native.Mathlib.Decide.{ℕ_discrete}
use Rattle.std.proofs.lemmas.Bool.{cond-true, and_parts, ne_eqb}
use Rattle.std.proofs.lemmas.Option.{slice_get-get_or, slice_get_within, get_or_from_slice_get}
use Rattle.nm_edge.specs.Edges.{Edge, to, other, is_to}
use Rattle.nm_edge.specs.declared.edge.Side.{Side}
use Rattle.nm_edge.specs.declared.node.NodeId.{NodeId}
use Rattle.nm_model.specs.declared.event.Event.TheVariants.{Splice, Swap}
use Rattle.nm_model.specs.declared.reply.Reply.TheVariants.{Cut, Lost}
use Rattle.nm_model.specs.declared.reply.Refused.{Refused}
use Rattle.nm_model.specs.Memory.{Memory, edge, named, put_edge}
use Rattle.nm_model.specs.Knowledge.{read, is_flagged, is_tagged, way, cut_by}
use Rattle.nm_model.specs.Paths.{follow, at, IsCut}
use Rattle.nm_model.specs.Step.{reply, write, exchanged, kept, cut_nodes}
use Rattle.nm_model.specs.Runs.{State, of, start, after, next, outcome, refused, answered, unless_refused, applied}
use Rattle.nm_model.specs.Laws.{OfEachState, slots_of, CutsJust, NamesBirths, OfEachCut, OfEachSwap}
use Rattle.nm_model.proofs.Numbers.{among}
use Rattle.nm_laws.proofs.Steps.{Allowed, allowed}
use Rattle.nm_laws.proofs.Trees.{same_follow}
use Rattle.nm_laws.proofs.CutPaths.{nodes_cut}
use Rattle.nm_laws.proofs.Pictures.{below, IsOnPath}
use Rattle.nm_laws.proofs.Splices.{spliced, IsSplice, cut_law, cut_law_back, among_at, at_among}
use Rattle.nm_laws.proofs.Views.{picture, edge_put, held_queue}
use Rattle.nm_laws.proofs.TreeSlots.{is_to-true}
use Rattle.nm_laws.proofs.TreeSplice.{splice_shown, cut_is, named_slots}
use Rattle.nm_laws.proofs.Swaps.{picture_swapped, IsSwap, swap_cuts, swap_stays}
use Rattle.nm_laws.proofs.TreeSwap.{swap_shown}
use Rattle.nm_laws.proofs.TreeSteps.{Lawful, SpliceChecked, splice_checked, swap_checked}
use Rattle.nm_laws.proofs.Lawful.{lawful}
use Rattle.nm_laws.proofs.Outcomes.{same_reply, no_reply}

-- ---- what is among a list

contains_among : (xs : List ℕ) (x : ℕ) → Contains xs x → among xs x ≡ true
contains_among xs x c = at_among xs x c.0 (slice_get-get_or xs c.0 x c.1 ∙ ap Some c.2)

among_contains : (xs : List ℕ) (x : ℕ) → among xs x ≡ true → Contains xs x
among_contains xs x h = let k = among_at xs x h in
    (k.0, slice_get_within xs k.0 x k.1, get_or_from_slice_get xs k.0 x x k.1)

-- ---- a splice that is won

-- a splice whose outcome is a cut was allowed and won
pub record Won (s : State) (w a : ℕ) (d : Side) (x p : ℕ) (keep : Side) (ns : List NodeId) : Type 0 where
  pub ok : Allowed s w (Splice a d x p keep)
  pub won : is_to (edge s.memory a d) x ≡ true
  pub nodes : cut_nodes s.layout s.memory (of s w) x p keep ≡ ns
  pub next_is : next s (w, Splice a d x p keep) ≡ applied s w (Splice a d x p keep)

same_cut : (ns ms : List NodeId) → Cut ns ≡ Cut ms → ns ≡ ms
same_cut ns ms h = cc

pub won_splice : (s : State) (w a : ℕ) (d : Side) (x p : ℕ) (keep : Side) (ns : List NodeId)
    → outcome s (w, Splice a d x p keep) ≡ Ok (Cut ns) → Won s w a d x p keep ns
unfolding outcome next reply
won_splice s w a d x p keep ns h = go (refused s w (Splice a d x p keep)) refl h
  where
    by : (b : Bool) → is_to (edge s.memory a d) x ≡ b
        → cond b (Cut (cut_nodes s.layout s.memory (of s w) x p keep)) (Lost (edge s.memory a d)) ≡ Cut ns
        → (is_to (edge s.memory a d) x ≡ true) × (cut_nodes s.layout s.memory (of s w) x p keep ≡ ns)
    by true i h = (i, same_cut _ _ h)
    by false i h = cc

    go : (o : Option Refused) → refused s w (Splice a d x p keep) ≡ o
        → answered o (reply s.layout s.memory (of s w) (Splice a d x p keep)) ≡ Ok (Cut ns) → Won s w a d x p keep ns
    go None is h =
        let k = by (is_to (edge s.memory a d) x) refl (same_reply _ _ h) in
        record {
          ok = allowed s w (Splice a d x p keep) is;
          won = k.0;
          nodes = k.1;
          next_is = ap
              (λ o. unless_refused o s (applied s w (Splice a d x p keep))) is;
        }
    go (Some r) is h = absurd (no_reply r (Cut ns) h)

-- what the splice has shown, by the picture of the state
pub record Shown (s : State) (h : ℕ → ℕ) (w a : ℕ) (d : Side) (x p : ℕ) (keep : Side) : Type 0 where
  pub sides : List Side
  pub found : way s.layout.nodes (of s w) x p ≡ Some sides
  pub tag : is_tagged (read (of s w) p keep) ≡ true
  pub flag : is_flagged (read (of s w) p (other keep)) ≡ true
  pub inside : a < length s.memory.nodes
  pub is : edge s.memory a d ≡ to x
  pub splice : IsSplice s.layout.nodes (picture s h) w (length (held_queue (of s (h w)) w)) a d (sides ++ keep ∷ [])
      (kept (read (of s w) p keep))

pub shown : (s : State) (h : ℕ → ℕ) → Lawful s h → (w a : ℕ) (d : Side) (x p : ℕ) (keep : Side)
    → Allowed s w (Splice a d x p keep) → is_to (edge s.memory a d) x ≡ true → Shown s h w a d x p keep
shown s h law w a d x p keep ok won = by (way s.layout.nodes (of s w) x p) refl
    (and_parts (is_some (way s.layout.nodes (of s w) x p))
    (is_tagged (read (of s w) p keep) && is_flagged (read (of s w) p (other keep))) c.frozen)
  where
    c : SpliceChecked s.layout (of s w) a x p keep
    c = splice_checked s w a d x p keep ok.event

    by : (o : Option (List Side)) → way s.layout.nodes (of s w) x p ≡ o
        → (is_some (way s.layout.nodes (of s w) x p) ≡ true)
        × ((is_tagged (read (of s w) p keep) && is_flagged (read (of s w) p (other keep))) ≡ true)
        → Shown s h w a d x p keep
    by None found parts = absurd (true≢false (sym parts.0 ∙ ap is_some found))
    by (Some sides) found parts =
        let marks = and_parts (is_tagged (read (of s w) p keep)) (is_flagged (read (of s w) p (other keep))) parts.1 in
        let is = is_to-true (edge s.memory a d) x won in
        record {
          sides = sides;
          found = found;
          tag = marks.0;
          flag = marks.1;
          inside = let r = law.tree.known w a c.known in let size = law.roomy.nodes in omega arith;
          is = is;
          splice = splice_shown s.layout.nodes s.memory (of s) h w a d x p keep sides c.high.0 c.high.1 c.known
              c.held found marks.0 marks.1 is law.tree;
        }

module _ (s : State) (h : ℕ → ℕ) (law : Lawful s h) (w a : ℕ) (d : Side) (x p : ℕ) (keep : Side)
    (k : Shown s h w a d x p keep) where
  -- the slots of the reply are those of the way
  pub slots_are : slots_of (cut_nodes s.layout s.memory (of s w) x p keep)
      ≡ nodes_cut (below (picture s h)) x (k.sides ++ keep ∷ [])
  slots_are = named_slots s.memory (cut_by (of s w) x (unwrap_or (way s.layout.nodes (of s w) x p) []) keep)
      ∙ cut_is s.layout.nodes s.memory (of s) h w x p keep k.sides k.found k.flag law.tree

  pub from_successor : nodes_cut (below (picture s h)) (edge s.memory a d).slot (k.sides ++ keep ∷ [])
      ≡ nodes_cut (below (picture s h)) x (k.sides ++ keep ∷ [])
  from_successor = ap (λ (z : ℕ). nodes_cut (below (picture s h)) z (k.sides ++ keep ∷ []))
      (ap (λ (e : Edge). e.slot) k.is)

  -- the paths after the splice
  new_paths : (q : List Side) → at (put_edge s.memory a d (kept (read (of s w) p keep))) q
      ≡ follow (below (spliced (picture s h) w (length (held_queue (of s (h w)) w))
      (nodes_cut (below (picture s h)) (edge s.memory a d).slot (k.sides ++ keep ∷ [])) a d
      (kept (read (of s w) p keep)))) 1 q
  new_paths q = same_follow _ _ (λ z g. ap (λ (e : Edge). e.slot)
      (edge_put s.memory a d (kept (read (of s w) p keep)) k.inside z g)) 1 q

  cut_there : (y : ℕ) → among (slots_of (cut_nodes s.layout s.memory (of s w) x p keep)) y ≡ true
      → IsCut s.memory (put_edge s.memory a d (kept (read (of s w) p keep))) y
  cut_there y i =
      let c = cut_law s.layout.nodes (picture s h) w (length (held_queue (of s (h w)) w)) a d (k.sides ++ keep ∷ [])
      (kept (read (of s w) p keep)) law.tree k.splice y (rw (slots_are ∙ sym from_successor) at i) in
      record {
        was = record { path = c.0.path; ends = c.0.ends; is_slot = c.0.is_slot };
        gone = λ r. c.1
            (record { path = r.path; ends = sym (new_paths r.path) ∙ r.ends; is_slot = r.is_slot });
      }

  cut_back : (y : ℕ) → IsCut s.memory (put_edge s.memory a d (kept (read (of s w) p keep))) y
      → among (slots_of (cut_nodes s.layout s.memory (of s w) x p keep)) y ≡ true
  cut_back y c = rw (slots_are ∙ sym from_successor)
      (cut_law_back s.layout.nodes (picture s h) w (length (held_queue (of s (h w)) w)) a d (k.sides ++ keep ∷ [])
      (kept (read (of s w) p keep)) law.tree k.splice y
      (record { path = c.was.path; ends = c.was.ends; is_slot = c.was.is_slot })
      (λ r. c.gone (record { path = r.path; ends = new_paths r.path ∙ r.ends; is_slot = r.is_slot })))

named_again : (m : Memory) (xs : List ℕ) → map (named m) xs ≡ map (named m) (slots_of (map (named m) xs))
named_again m [] = refl
named_again m (x ∷ xs) = ap (λ (ns : List NodeId). named m x ∷ ns) (named_again m xs)

pub cuts_just : OfEachState (OfEachCut (λ before successor ns after. CutsJust before.memory ns after.memory))
unfolding applied write
cuts_just L enough turns w a d x p keep ns is y =
    let s = after (start L) turns in
    let won = won_splice s w a d x p keep ns is in
    let l = lawful L enough turns in
    let k = shown s l.holder l.law w a d x p keep won.ok won.won in
    let new_memory : exchanged s.memory a d x (kept (read (of s w) p keep))
    ≡ put_edge s.memory a d (kept (read (of s w) p keep)) = cond-true (is_to (edge s.memory a d) x) _ s.memory
    won.won in
    rw (won.next_is, ← won.nodes) (
      (λ c. among_contains _ y (cut_back s l.holder l.law w a d x p keep k y (rw new_memory at c))),
      (λ c. rw new_memory (cut_there s l.holder l.law w a d x p keep k y (contains_among _ y c))),
    )

pub cuts_name_births : OfEachState (OfEachCut (λ before successor ns after. NamesBirths before ns))
cuts_name_births L enough turns w a d x p keep ns is =
    let s = after (start L) turns in
    let won = won_splice s w a d x p keep ns is in
    rw (← won.nodes) (named_again s.memory (cut_by (of s w) x (unwrap_or (way s.layout.nodes (of s w) x p) []) keep))

-- ---- a swap that is won

-- a swap whose outcome is a cut was allowed and won
pub record WonSwap (s : State) (w p : ℕ) (d : Side) (leaf new : ℕ) (ns : List NodeId) : Type 0 where
  pub ok : Allowed s w (Swap p d leaf new)
  pub won : is_to (edge s.memory p d) leaf ≡ true
  pub nodes : named s.memory leaf ∷ [] ≡ ns
  pub next_is : next s (w, Swap p d leaf new) ≡ applied s w (Swap p d leaf new)

pub won_swap : (s : State) (w p : ℕ) (d : Side) (leaf new : ℕ) (ns : List NodeId)
    → outcome s (w, Swap p d leaf new) ≡ Ok (Cut ns) → WonSwap s w p d leaf new ns
unfolding outcome next reply
won_swap s w p d leaf new ns h = go (refused s w (Swap p d leaf new)) refl h
  where
    by : (b : Bool) → is_to (edge s.memory p d) leaf ≡ b
        → cond b (Cut (named s.memory leaf ∷ [])) (Lost (edge s.memory p d)) ≡ Cut ns
        → (is_to (edge s.memory p d) leaf ≡ true) × (named s.memory leaf ∷ [] ≡ ns)
    by true i h = (i, same_cut _ _ h)
    by false i h = cc

    go : (o : Option Refused) → refused s w (Swap p d leaf new) ≡ o
        → answered o (reply s.layout s.memory (of s w) (Swap p d leaf new)) ≡ Ok (Cut ns) → WonSwap s w p d leaf new ns
    go None is h =
        let k = by (is_to (edge s.memory p d) leaf) refl (same_reply _ _ h) in
        record {
          ok = allowed s w (Swap p d leaf new) is;
          won = k.0;
          nodes = k.1;
          next_is =
              ap (λ o. unless_refused o s (applied s w (Swap p d leaf new))) is;
        }
    go (Some r) is h = absurd (no_reply r (Cut ns) h)

-- what the swap has shown, by the picture of the state
pub record ShownSwap (s : State) (h : ℕ → ℕ) (w p : ℕ) (d : Side) (leaf new : ℕ) : Type 0 where
  pub inside : p < length s.memory.nodes
  pub swap : IsSwap s.layout.nodes (picture s h) w (length (held_queue (of s (h w)) w)) p d leaf new

pub shown_swap : (s : State) (h : ℕ → ℕ) → Lawful s h → (w p : ℕ) (d : Side) (leaf new : ℕ)
    → Allowed s w (Swap p d leaf new) → is_to (edge s.memory p d) leaf ≡ true → ShownSwap s h w p d leaf new
shown_swap s h law w p d leaf new ok won =
    let c = swap_checked s w p d leaf new ok.event in
    record {
      inside = let r = law.tree.known w p c.known in let size = law.roomy.nodes in omega arith;
      swap = swap_shown s.layout.nodes s.memory (of s) h w p d leaf new c.high c.known c.held c.leafy c.own c.ready
          (is_to-true (edge s.memory p d) leaf won) law.tree;
    }

pub swaps_cut_just : OfEachState (OfEachSwap (λ before leaf ns after. CutsJust before.memory ns after.memory))
unfolding applied write
swaps_cut_just L enough turns w p d leaf new ns is y =
    rw (won.next_is, ← won.nodes) ((λ c. there (rw new_memory at c)), (λ c. rw new_memory (back c)))
  where
    s : State
    s = after (start L) turns

    won : WonSwap (after (start L) turns) w p d leaf new ns
    won = won_swap (after (start L) turns) w p d leaf new ns is

    h : ℕ → ℕ
    h = (lawful L enough turns).holder

    law : Lawful (after (start L) turns) (lawful L enough turns).holder
    law = (lawful L enough turns).law

    k : ShownSwap (after (start L) turns) (lawful L enough turns).holder w p d leaf new
    k = shown_swap (after (start L) turns) (lawful L enough turns).holder law w p d leaf new won.ok won.won

    new_memory : exchanged (after (start L) turns).memory p d leaf (to new) ≡ put_edge
        (after (start L) turns).memory p d (to new)
    new_memory = cond-true (is_to (edge (after (start L) turns).memory p d) leaf) _
        (after (start L) turns).memory won.won

    new_paths : (q : List Side)
        → at (put_edge (after (start L) turns).memory p d (to new)) q ≡ follow
        (below (picture_swapped (picture (after (start L) turns) (lawful L enough turns).holder) w
        (length (held_queue (of (after (start L) turns) ((lawful L enough turns).holder w)) w)) p d leaf new)) 1 q
    new_paths q = same_follow _ _
        (λ z g. ap (λ (e : Edge). e.slot) (edge_put (after (start L) turns).memory p d (to new) k.inside z g)) 1 q

    there : IsCut (after (start L) turns).memory (put_edge (after (start L) turns).memory p d (to new)) y
        → Contains (leaf ∷ []) y
    there c = elim (ℕ_discrete y leaf) [
      | yes e ↦ among_contains (leaf ∷ []) y (at_among (leaf ∷ []) y 0 (ap Some (sym e)))
      | no ne ↦
          let on = swap_stays s.layout.nodes
          (picture (after (start L) turns) (lawful L enough turns).holder) w _ p d leaf new law.tree k.swap y ne
          (record { path = c.was.path; ends = c.was.ends; is_slot = c.was.is_slot }) in
          absurd (c.gone (record { path = on.path; ends = new_paths on.path ∙ on.ends; is_slot = on.is_slot }))
    ]

    back : Contains (leaf ∷ []) y
        → IsCut (after (start L) turns).memory (put_edge (after (start L) turns).memory p d (to new)) y
    back c = go (contains_among (leaf ∷ []) y c)
      where
        two : IsOnPath (picture (after (start L) turns) (lawful L enough turns).holder) leaf
            × (IsOnPath (picture_swapped (picture (after (start L) turns) (lawful L enough turns).holder) w
            (length (held_queue (of (after (start L) turns) ((lawful L enough turns).holder w)) w)) p d leaf new) leaf
            → ⊥)
        two = swap_cuts s.layout.nodes
            (picture (after (start L) turns) (lawful L enough turns).holder) w _ p d leaf new law.tree k.swap

        or_false : (b : Bool) → b ≡ false → (b || false) ≡ false
        or_false b h = rw h refl

        here : y ≡ leaf → IsCut (after (start L) turns).memory (put_edge (after (start L) turns).memory p d (to new)) y
        here e = rw e (record {
          was = record { path = two.0.path; ends = two.0.ends; is_slot = two.0.is_slot };
          gone = λ r. two.1 (record { path = r.path; ends = sym (new_paths r.path) ∙ r.ends; is_slot = r.is_slot });
        })

        go : among (leaf ∷ []) y ≡ true
            → IsCut (after (start L) turns).memory (put_edge (after (start L) turns).memory p d (to new)) y
        go i = elim (ℕ_discrete y leaf) [
          | yes e ↦ here e
          | no ne ↦ absurd (true≢false (sym i ∙ or_false (eqb y leaf) (ne_eqb y leaf ne)))
        ]

pub swaps_name_leaves : OfEachState (OfEachSwap (λ before leaf ns after. ns ≡ named before.memory leaf ∷ []))
swaps_name_leaves L enough turns w p d leaf new ns is =
    sym (won_swap (after (start L) turns) w p d leaf new ns is).nodes

pub swaps_name_births : OfEachState (OfEachSwap (λ before leaf ns after. NamesBirths before ns))
swaps_name_births L enough turns w p d leaf new ns is =
    rw (← (won_swap (after (start L) turns) w p d leaf new ns is).nodes) refl
