-- The nodes that a splice cuts: each was reached, has the birth in its slot, and stands in the
-- reply once.
use Rattle.std.proofs.Common.{◌≡◌, ℕ, zero, suc, List, [], ◌∷◌, ◌++◌, length, map, refl, sym, ap, ◌∙◌, inl, inr}
use Rattle.std.specs.Prelude.{Some, slice_get, option_map, unwrap_or, Ok}
use Rattle.std.proofs.lemmas.Option.{none-some, same_Some, slice_get-map}
use Rattle.nm_edge.specs.declared.edge.Side.{Side}
use Rattle.nm_edge.specs.declared.node.NodeId.{NodeId}
use Rattle.nm_model.specs.declared.event.Event.{Event}
use Rattle.nm_model.specs.declared.event.Event.TheVariants.{Splice, Swap}
use Rattle.nm_model.specs.declared.reply.Reply.TheVariants.{Cut}
use Rattle.nm_laws.proofs.Trees.{append_cancel}
use Rattle.nm_model.specs.Memory.{Memory, named}
use Rattle.nm_model.specs.Knowledge.{read, cut_by, way}
use Rattle.nm_model.specs.Paths.{follow}
use Rattle.nm_model.specs.Step.{cut_nodes, kept}
use Rattle.nm_model.specs.Runs.{State, of, outcome}
use Rattle.nm_model.specs.Laws.{slots_of}
use Rattle.nm_laws.proofs.Changes.{IsWon, IsSpliced, IsSwapped}
use Rattle.nm_laws.proofs.CutPaths.{nodes_cut, Splicing, down}
use Rattle.nm_laws.proofs.Pictures.{below, IsOnPath}
use Rattle.nm_laws.proofs.Splices.{spliced, splicing, cut_law, cut_at, cut_path, cut_apart, at_among}
use Rattle.nm_laws.proofs.Views.{picture, held_queue}
use Rattle.nm_laws.proofs.Swaps.{swap_cuts}
use Rattle.nm_laws.proofs.TreeSteps.{Lawful}
use Rattle.nm_laws.proofs.Cuts.{won_swap, shown_swap, won_splice, Shown, shown, slots_are, from_successor}
use Rattle.nm_laws.proofs.Births.{word}

pub record CutNodes (s : State) (h : ℕ → ℕ) (ns : List NodeId) : Type 0 where
  pub births : (i : ℕ) (n : NodeId) → slice_get ns i ≡ Some n → n.birth ≡ word s.memory n.slot
  pub reached : (i : ℕ) (n : NodeId) → slice_get ns i ≡ Some n → IsOnPath (picture s h) n.slot
  pub once : (i j : ℕ) (n : NodeId) → slice_get ns i ≡ Some n → slice_get ns j ≡ Some n → i ≡ j

named_at : (m : Memory) (xs : List ℕ) (i : ℕ) (n : NodeId) → slice_get (map (named m) xs) i ≡ Some n
    → n.birth ≡ word m n.slot
named_at m [] i n h = absurd (none-some n h)
named_at m (x ∷ xs) zero n h = let e = same_Some (named m x) n h in
    ap (λ (y : NodeId). y.birth) (sym e) ∙ ap (λ (y : NodeId). word m y.slot) e
named_at m (x ∷ xs) (suc i) n h = named_at m xs i n h

module _ (s : State) (h : ℕ → ℕ) (law : Lawful s h) (w a : ℕ) (d : Side) (x p : ℕ) (keep : Side)
    (k : Shown s h w a d x p keep) where
  slots : slots_of (cut_nodes s.layout s.memory (of s w) x p keep)
      ≡ nodes_cut (below (picture s h)) (below (picture s h) a d) (k.sides ++ keep ∷ [])
  slots = slots_are s h law w a d x p keep k ∙ sym (from_successor s h law w a d x p keep k)

  slot_at : (i : ℕ) (n : NodeId) → slice_get (cut_nodes s.layout s.memory (of s w) x p keep) i ≡ Some n
      → slice_get (nodes_cut (below (picture s h)) (below (picture s h) a d) (k.sides ++ keep ∷ [])) i ≡ Some n.slot
  slot_at i n is = ap (λ xs. slice_get xs i) (sym slots)
      ∙ (slice_get-map (λ (y : NodeId). y.slot) (cut_nodes s.layout s.memory (of s w) x p keep) i
      ∙ ap (option_map (λ (y : NodeId). y.slot)) is)

  g : Splicing (below (picture s h)) (below (spliced (picture s h) w (length (held_queue (of s (h w)) w))
      (nodes_cut (below (picture s h)) (below (picture s h) a d) (k.sides ++ keep ∷ [])) a d
      (kept (read (of s w) p keep)))) a d (k.sides ++ keep ∷ [])
  g = splicing s.layout.nodes (picture s h) w (length (held_queue (of s (h w)) w)) a d (k.sides ++ keep ∷ [])
      (kept (read (of s w) p keep)) law.tree k.splice

  on_path : (i : ℕ) (n : NodeId) → slice_get (cut_nodes s.layout s.memory (of s w) x p keep) i ≡ Some n
      → IsOnPath (picture s h) n.slot
  on_path i n is = (cut_law s.layout.nodes (picture s h) w (length (held_queue (of s (h w)) w)) a d
      (k.sides ++ keep ∷ []) (kept (read (of s w) p keep)) law.tree k.splice n.slot
      (at_among _ n.slot i (slot_at i n is))).0

  only_once : (i j : ℕ) (n : NodeId) → slice_get (cut_nodes s.layout s.memory (of s w) x p keep) i ≡ Some n
      → slice_get (cut_nodes s.layout s.memory (of s w) x p keep) j ≡ Some n → i ≡ j
  only_once i j n is js = cut_apart (below (picture s h)) (k.sides ++ keep ∷ []) (below (picture s h) a d) i j n.slot
      n.slot (slot_at i n is) (slot_at j n js) (tails (append_cancel g.front _ _ same))
    where
      comes : (i : ℕ) → slice_get (nodes_cut (below (picture s h)) (below (picture s h) a d) (k.sides ++ keep ∷ []))
          i ≡ Some n.slot → follow (below (picture s h)) 1 (g.front ++ d ∷ cut_path (k.sides ++ keep ∷ []) i) ≡ n.slot
      comes i at = down _ _ a d (k.sides ++ keep ∷ []) g (cut_path (k.sides ++ keep ∷ []) i)
          ∙ cut_at (below (picture s h)) (k.sides ++ keep ∷ []) (below (picture s h) a d) i n.slot at

      same : g.front ++ d ∷ cut_path (k.sides ++ keep ∷ []) i ≡ g.front ++ d ∷ cut_path (k.sides ++ keep ∷ []) j
      same = g.alone _ _ (rw (comes i (slot_at i n is)) (on_path i n is).is_slot)
          (comes i (slot_at i n is) ∙ sym (comes j (slot_at j n js)))

      tails : {q r : List Side} → d ∷ q ≡ d ∷ r → q ≡ r
      tails e = cc

cut_by_splice : (s : State) (h : ℕ → ℕ) → Lawful s h → (t : ℕ × Event) (ns : List NodeId) → IsSpliced s t.0 t.1 ns
    → outcome s t ≡ Ok (Cut ns) → CutNodes s h ns
cut_by_splice s h law t ns won is =
    let is' : outcome s (t.0, Splice won.ancestor won.side won.successor won.parent won.keep)
    ≡ Ok (Cut ns) = ap (λ (e : Event). outcome s (t.0, e)) (sym won.is) ∙ is in
    let k = won_splice s t.0 won.ancestor won.side won.successor won.parent won.keep ns is' in
    let x = shown s h law t.0 won.ancestor won.side won.successor won.parent won.keep k.ok k.won in
    rw (← k.nodes) (record {
      births = λ i n at. named_at s.memory (cut_by (of s t.0) won.successor
          (unwrap_or (way s.layout.nodes (of s t.0) won.successor won.parent) []) won.keep) i n at;
      reached = on_path s h law t.0 won.ancestor won.side won.successor won.parent won.keep x;
      once = only_once s h law t.0 won.ancestor won.side won.successor won.parent won.keep x;
    })

cut_by_swap : (s : State) (h : ℕ → ℕ) → Lawful s h → (t : ℕ × Event) (ns : List NodeId) → IsSwapped s t.0 t.1 ns
    → outcome s t ≡ Ok (Cut ns) → CutNodes s h ns
cut_by_swap s h law t ns won is =
    let is' : outcome s (t.0, Swap won.parent won.side won.leaf won.new) ≡ Ok (Cut ns) =
    ap (λ (e : Event). outcome s (t.0, e)) (sym won.is) ∙ is in
    let k = won_swap s t.0 won.parent won.side won.leaf won.new ns is' in
    let x = shown_swap s h law t.0 won.parent won.side won.leaf won.new k.ok k.won in
    let reached = (swap_cuts s.layout.nodes (picture s h) t.0
    (length (held_queue (of s (h t.0)) t.0)) won.parent won.side won.leaf won.new law.tree x.swap).0 in
    rw (← k.nodes) (record {
      births = λ i n at. named_at s.memory (won.leaf ∷ []) i n at;
      reached = λ i n at. rw (← ap (λ (y : NodeId). y.slot) (only i n at).1) reached;
      once = λ i j n a b. (only i n a).0 ∙ sym (only j n b).0;
    })
  where
    only : (i : ℕ) (n : NodeId) → slice_get (named s.memory won.leaf ∷ []) i ≡ Some n → (i ≡ 0)
        × (named s.memory won.leaf ≡ n)
    only zero n h = (refl, same_Some _ n h)
    only (suc i) n h = absurd (none-some n h)

pub cut_nodes_of : (s : State) (h : ℕ → ℕ) → Lawful s h → (t : ℕ × Event) (ns : List NodeId) → IsWon s t.0 t.1 ns
    → outcome s t ≡ Ok (Cut ns) → CutNodes s h ns
cut_nodes_of s h law t ns (inl won) is = cut_by_splice s h law t ns won is
cut_nodes_of s h law t ns (inr won) is = cut_by_swap s h law t ns won is
