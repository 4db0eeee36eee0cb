-- The chain of a splice that is won ends at the parent, and the ancestor gets the edge that the
-- parent keeps.
use Rattle.std.proofs.Common.{◌≡◌, ℕ, eqb, Bool, true, false, ◌&&◌, List, [], ◌∷◌, ◌++◌, refl, sym, ap, subst, ◌∙◌}
use Rattle.std.proofs.lemmas.Bool.{cond-true, cond-false, eqb-true}
use Rattle.nm_edge.specs.Edges.{Edge, untagged, is_to, other}
use Rattle.nm_edge.specs.declared.edge.Side.{Side}
use Rattle.nm_model.specs.Knowledge.{read}
use Rattle.nm_model.specs.Laws.{OfEachState, OfEachCut, slots_of}
use Rattle.nm_model.specs.Memory.{Memory, edge, child, put_edge}
use Rattle.nm_model.specs.Paths.{follow}
use Rattle.nm_model.specs.Runs.{State, of, start, after, applied}
use Rattle.nm_model.specs.Step.{write, exchanged, kept, cut_nodes}
use Rattle.nm_model.specs.Headline.{IsFrozenChainTo}
use Rattle.nm_laws.specs.KeptEdges.{KeepsTheEdge, EachSpliceKeepsTheEdge}
use Rattle.nm_laws.proofs.CutPaths.{nodes_cut}
use Rattle.nm_laws.proofs.Cuts.{Shown, shown, slots_are, won_splice}
use Rattle.nm_laws.proofs.Lawful.{lawful}
use Rattle.nm_laws.proofs.Pictures.{below}
use Rattle.nm_laws.proofs.Slots.{with_edge-same}
use Rattle.nm_laws.proofs.Splices.{IsWay}
use Rattle.nm_laws.proofs.Trees.{same_side, same_side-true}
use Rattle.nm_laws.proofs.TreeSlots.{tag_known}
use Rattle.nm_laws.proofs.TreeSplice.{known_way}
use Rattle.nm_laws.proofs.TreeSteps.{Lawful}
use Rattle.nm_laws.proofs.Views.{picture, edge_put}

-- an edge is not the one at that slot on that side
not_there : (x a : ℕ) (d g : Side) → ((x ≡ a) × (g ≡ d) → ⊥) → (eqb x a && same_side d g) ≡ false
not_there x a d g apart = go (eqb x a) refl (same_side d g) refl
  where
    go : (b : Bool) → eqb x a ≡ b → (c : Bool) → same_side d g ≡ c → (b && c) ≡ false
    go false i c j = refl
    go true i false j = refl
    go true i true j = absurd (apart (eqb-true x a i, sym (same_side-true d g j)))

module _ (s : State) (h : ℕ → ℕ) (law : Lawful s h) (w a : ℕ) (d : Side) (x p : ℕ) (keep : Side)
    (k : Shown s h w a d x p keep) where
  -- a way whose last node is the parent, as the slots of its nodes and leaves
  to_parent : (z : ℕ) (sides : List Side) → follow (below (picture s h)) z sides ≡ p
      → IsWay (picture s h) z (sides ++ keep ∷ []) → IsFrozenChainTo s.memory p keep z
      (nodes_cut (below (picture s h)) z (sides ++ keep ∷ []))
  to_parent z [] at i = (refl, at, (i.0, i.1, refl))
  to_parent z (e ∷ []) at i = (refl, e, (i.0, i.1, refl), to_parent (below (picture s h) z e) [] at i.2)
  to_parent z (e ∷ f ∷ sides) at i = (refl, e, (i.0, i.1, refl), to_parent (below (picture s h) z e) (f ∷ sides) at i.2)

  chain : IsFrozenChainTo s.memory p keep x (slots_of (cut_nodes s.layout s.memory (of s w) x p keep))
  chain = rw (slots_are s h law w a d x p keep k) (to_parent x k.sides
      (known_way s.layout.nodes s.memory (of s) h w law.tree s.layout.nodes x p k.sides k.found).ends
      (rw (ap (λ (e : Edge). e.slot) k.is) at k.splice.is_way))

  -- the edge that is put is the parent's, without its tag
  kept_is : kept (read (of s w) p keep) ≡ untagged (edge s.memory p keep)
  kept_is = ap kept (tag_known s.layout.nodes s.memory (of s) h w p keep law.tree k.tag)

  put_there : (e : Edge) → edge (put_edge s.memory a d e) a d ≡ e
  put_there e = edge_put s.memory a d e k.inside a d ∙ with_edge-same (edge s.memory) a d e

  pub keeps_the_edge : KeepsTheEdge s.memory (put_edge s.memory a d (kept (read (of s w) p keep))) a d x p keep
      (slots_of (cut_nodes s.layout s.memory (of s w) x p keep))
  keeps_the_edge = record {
    led = k.is;
    chain = chain;
    slot = ap (λ (e : Edge). e.slot) (put_there (kept (read (of s w) p keep)) ∙ kept_is);
    flag = ap (λ (e : Edge). e.flag) (put_there (kept (read (of s w) p keep)) ∙ kept_is);
    tag = ap (λ (e : Edge). e.tag) (put_there (kept (read (of s w) p keep)) ∙ kept_is);
    others = λ y g apart. edge_put s.memory a d (kept (read (of s w) p keep)) k.inside y g
        ∙ cond-false (eqb y a && same_side d g) (kept (read (of s w) p keep)) (edge s.memory y g)
        (not_there y a d g apart);
  }

pub each_splice_keeps_the_edge : OfEachState EachSpliceKeepsTheEdge
unfolding applied write
each_splice_keeps_the_edge L enough turns w a d x p keep ns is =
    let s = after (start L) turns in
    let won = won_splice s w a d x p keep ns is in
    let l = lawful L enough turns in
    let k = shown s l.holder l.law w a d x p keep won.ok won.won in
    let memory : exchanged s.memory a d x (kept (read (of s w) p keep))
    ≡ put_edge s.memory a d (kept (read (of s w) p keep)) = cond-true (is_to (edge s.memory a d) x) _ s.memory
    won.won in
    rw (won.next_is, ← won.nodes, memory) (keeps_the_edge s l.holder l.law w a d x p keep k)

-- ---- the same with no word on where the chain ends

-- from a slot downwards: each internal node and then its flagged leaf, and on by its tagged edge
abbrev pub IsFrozenChain : Memory → ℕ → List ℕ → Type 0
IsFrozenChain m s [] = Unit {0}
IsFrozenChain m s (x ∷ []) = ⊥
IsFrozenChain m s (x ∷ leaf ∷ rest) = (x ≡ s) × (side : Side) × ((edge m s (other side)).flag ≡ true)
    × (child m s (other side) ≡ leaf) × ((edge m s side).tag ≡ true) × IsFrozenChain m (child m s side) rest

goes_down : (m : Memory) (p : ℕ) (keep : Side) (xs : List ℕ) (s : ℕ) → IsFrozenChainTo m p keep s xs
    → IsFrozenChain m s xs
goes_down m p keep [] s c = absurd c
goes_down m p keep (x ∷ []) s c = absurd c
goes_down m p keep (x ∷ leaf ∷ []) s c = (
  c.0,
  keep,
  ap (λ (z : ℕ). (edge m z (other keep)).flag) (sym c.0)
      ∙ c.2.1,
  ap (λ (z : ℕ). child m z (other keep)) (sym c.0) ∙ c.2.2,
  ap (λ (z : ℕ). (edge m z keep).tag) (sym c.0)
      ∙ c.2.0,
  tt,
)
goes_down m p keep (x ∷ leaf ∷ y ∷ rest) s c = (
  c.0,
  c.1,
  ap (λ (z : ℕ). (edge m z (other c.1)).flag) (sym c.0) ∙ c.2.1,
  ap (λ (z : ℕ). child m z (other c.1)) (sym c.0) ∙ c.2.2,
  ap (λ (z : ℕ). (edge m z c.1).tag) (sym c.0) ∙ c.2.0,
  subst (λ (z : ℕ). IsFrozenChain m (child m z c.1) (y ∷ rest)) c.0 (goes_down m p keep (y ∷ rest) (child m x c.1) c.3),
)

pub cuts_go_down : OfEachState (OfEachCut (λ before successor ns after. IsFrozenChain before.memory successor
    (slots_of ns)))
cuts_go_down L enough turns w a d x p keep ns is = goes_down (after (start L) turns).memory p keep (slots_of ns) x
    (each_splice_keeps_the_edge L enough turns w a d x p keep ns is).chain
