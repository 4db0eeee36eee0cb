-- What an event that is allowed does to the tree: nothing that matters, one field of a private
-- slot, a link, or a splice.
use Rattle.std.proofs.Common.{◌≡◌, ◌≢◌, ℕ, ◌+◌, ◌<◌, ◌≤◌, List, eqb, Bool, true, false, cond, ◌&&◌, length, refl, sym, ap, ◌∙◌, arith, get_or-set_other}
use Rattle.std.proofs.lemmas.Bool.{cond_both, cond-false, eqb-true, and_parts, or_parts}
use Rattle.nm_edge.specs.Edges.{Edge, to, is_to, tagged}
use Rattle.nm_edge.specs.declared.edge.Side.{Side}
use Rattle.nm_edge.specs.declared.edge.Side.TheVariants.{Left, Right}
use Rattle.nm_model.specs.declared.memory.Node.{Node}
use Rattle.nm_model.specs.declared.event.Field.{Field}
use Rattle.nm_model.specs.declared.event.Event.{Event}
use Rattle.nm_model.specs.declared.event.Event.TheVariants.{Fill, Link, Flag, Tag, Splice, Advance, Swap}
use Rattle.nm_model.specs.Maps.{is_number}
use Rattle.nm_model.specs.Memory.{Memory, blank, node, edge, child, put_edge, put_node}
use Rattle.nm_model.specs.Knowledge.{is_private, read}
use Rattle.nm_model.specs.Learning.{flag_to}
use Rattle.nm_model.specs.Step.{outside, exchanged, filled, kept, refusal, write}
use Rattle.nm_model.specs.Paths.{follow}
use Rattle.nm_model.specs.Runs.{State, of}
use Rattle.nm_order.specs.Intervals.{key}
use Rattle.nm_laws.proofs.Steps.{Allowed, passed}
use Rattle.nm_laws.proofs.Trees.{Exchanged, same_side, same_side-true}
use Rattle.nm_order.proofs.Searching.{Apart}
use Rattle.nm_laws.proofs.CutPaths.{Splicing}
use Rattle.nm_laws.proofs.Slots.{with_edge-same}
use Rattle.nm_laws.proofs.Splices.{splicing, first_slot}
use Rattle.nm_laws.proofs.Links.{IsLink}
use Rattle.nm_laws.proofs.Views.{picture, edge_put}
use Rattle.nm_laws.proofs.TreeSlots.{is_to-true}
use Rattle.nm_laws.proofs.TreeLink.{Linkable, linkable, link_shown}
use Rattle.nm_laws.proofs.TreeSteps.{Lawful, LinkChecked, link_checked, slot_inside, fill_checked}
use Rattle.nm_laws.proofs.Cuts.{shown, shown_swap}
use Rattle.nm_laws.proofs.Swaps.{IsSwap}
use Rattle.nm_laws.proofs.KnownBirths.{written_same}

-- what the memory of a state becomes
pub data TreeChange (s : State) (h : ℕ → ℕ) (w : ℕ) (e : Event) (m : Memory) : Type 0 where
  Kept : ((x : ℕ) (d : Side) → child m x d ≡ child s.memory x d) → ((x : ℕ) → key m x ≡ key s.memory x)
      → TreeChange s h w e m
  Filled : (x : ℕ) → is_private (of s w) x ≡ true → Apart (child s.memory) (child m) (key s.memory) (key m) x
      → TreeChange s h w e m
  Linked : (p : ℕ) (d : Side) (leaf new : ℕ) → e ≡ Link p d leaf new → edge s.memory p d ≡ to leaf
      → (l : Linkable (of s w) new leaf) → IsLink s.layout.radix s.layout.nodes (picture s h) w p d leaf new l.far
      l.side
      → Exchanged (child s.memory) (child m) p d new → ((x : ℕ) → key m x ≡ key s.memory x) → TreeChange s h w e m
  Swapped : (p : ℕ) (d : Side) (leaf new n : ℕ) → e ≡ Swap p d leaf new
      → IsSwap s.layout.nodes (picture s h) w n p d leaf new
      → Exchanged (child s.memory) (child m) p d new → ((x : ℕ) → key m x ≡ key s.memory x) → TreeChange s h w e m
  Spliced : (a : ℕ) (d : Side) (way : List Side) → Splicing (child s.memory) (child m) a d way → child s.memory a d ≢ 0
      → follow (child s.memory) (child s.memory a d) way ≢ 0 → ((x : ℕ) → key m x ≡ key s.memory x)
      → 6 ≤ child s.memory a d → TreeChange s h w e m

-- an edge is exchanged
pub exchanged_put : (m : Memory) (p : ℕ) (d : Side) (e : Edge) → p < length m.nodes
    → Exchanged (child m) (child (put_edge m p d e)) p d e.slot
exchanged_put m p d e inside = record {
  here = ap (λ (y : Edge). y.slot) (edge_put m p d e inside p d ∙ with_edge-same (edge m) p d e);
  others = λ x g is. ap (λ (y : Edge). y.slot) (edge_put m p d e inside x g
      ∙ cond-false (eqb x p && same_side d g) e (edge m x g) is);
}

-- for one that leads to the same slot
marked : (m : Memory) (p : ℕ) (d : Side) (e : Edge) → p < length m.nodes → e.slot ≡ child m p d → (x : ℕ) (g : Side)
    → child (put_edge m p d e) x g ≡ child m x g
marked m p d e inside same x g = ap (λ (y : Edge). y.slot) (edge_put m p d e inside x g)
    ∙ by (eqb x p && same_side d g) refl
  where
    by : (b : Bool) → (eqb x p && same_side d g) ≡ b → (cond b e (edge m x g)).slot ≡ child m x g
    by true h = let parts = and_parts (eqb x p) (same_side d g) h in
        same ∙ (ap (λ (z : ℕ). child m z d) (sym (eqb-true x p parts.0)) ∙ ap (child m x) (same_side-true d g parts.1))
    by false h = refl

module _ (s : State) (h : ℕ → ℕ) (law : Lawful s h) (w : ℕ) where
  pub same_keys : (e : Event) → ((y : ℕ) (f : Field) (v : ℕ) → e ≡ Fill y f v → ⊥) → (x : ℕ)
      → key (write s.memory (of s w) w e) x ≡ key s.memory x
  same_keys e unfilled x = (written_same s.memory (of s w) w e x (λ y f v i. absurd (unfilled y f v i))).key

  filling : (x : ℕ) (f : Field) (v : ℕ) → Allowed s w (Fill x f v)
      → TreeChange s h w (Fill x f v) (put_node s.memory x (filled (node s.memory x) f v))
  filling x f v ok = Filled x (fill_checked s w (Fill x f v) ok.event x f v refl)
      (record {
        edges = λ y d ne. side y d (get_or-set_other s.memory.nodes x y (filled (node s.memory x) f v) blank
            ne);
        keys = λ y ne. ap (λ (n : Node). n.key) (get_or-set_other s.memory.nodes x y (filled (node s.memory x) f v)
            blank ne);
      })
    where
      side : (y : ℕ) (d : Side) → node (put_node s.memory x (filled (node s.memory x) f v)) y ≡ node s.memory y
          → child (put_node s.memory x (filled (node s.memory x) f v)) y d ≡ child s.memory y d
      side y Left same = ap (λ (n : Node). n.left.slot) same
      side y Right same = ap (λ (n : Node). n.right.slot) same

  -- what a link that is won does
  pub record WonLink (p : ℕ) (d : Side) (leaf new : ℕ) : Type 0 where
    pub unmarked : edge s.memory p d ≡ to leaf
    pub drafts : Linkable (of s w) new leaf
    pub link : IsLink s.layout.radix s.layout.nodes (picture s h) w p d leaf new drafts.far drafts.side
    pub exchanged : Exchanged (child s.memory) (child (put_edge s.memory p d (to new))) p d new

  pub won_link : (p : ℕ) (d : Side) (leaf new : ℕ) → Allowed s w (Link p d leaf new)
      → is_to (edge s.memory p d) leaf ≡ true → WonLink p d leaf new
  won_link p d leaf new ok won = record {
    unmarked = is_to-true (edge s.memory p d) leaf won;
    drafts = l;
    link = link_shown s.layout s.layout.nodes s.memory (of s) h w p d leaf new c.known c.held c.leafy c.own l
        (is_to-true (edge s.memory p d) leaf won) law.tree;
    exchanged = exchanged_put s.memory p d (to new)
        (let r = law.tree.known w p c.known in let size = law.roomy.nodes in omega arith);
  }
    where
      c : LinkChecked s.layout (of s w) p leaf new
      c = link_checked s w p d leaf new ok.event

      l : Linkable (of s w) new leaf
      l = linkable (of s w) new leaf c.ready

  linking : (p : ℕ) (d : Side) (leaf new : ℕ) → Allowed s w (Link p d leaf new)
      → TreeChange s h w (Link p d leaf new) (exchanged s.memory p d leaf (to new))
  unfolding write
  linking p d leaf new ok = by (is_to (edge s.memory p d) leaf) refl same_keys'
    where
      same_keys' : (x : ℕ) → key (exchanged s.memory p d leaf (to new)) x ≡ key s.memory x
      same_keys' x = same_keys (Link p d leaf new) (λ y f v i. cc) x

      by : (b : Bool) → is_to (edge s.memory p d) leaf ≡ b
          → ((x : ℕ) → key (cond b (put_edge s.memory p d (to new)) s.memory) x ≡ key s.memory x)
          → TreeChange s h w (Link p d leaf new) (cond b (put_edge s.memory p d (to new)) s.memory)
      by true won keys = let k = won_link p d leaf new ok won in
          Linked p d leaf new refl k.unmarked k.drafts k.link k.exchanged keys
      by false lost keys = Kept (λ x g. refl) keys

  swapping : (p : ℕ) (d : Side) (leaf new : ℕ) → Allowed s w (Swap p d leaf new)
      → TreeChange s h w (Swap p d leaf new) (exchanged s.memory p d leaf (to new))
  unfolding write
  swapping p d leaf new ok = by (is_to (edge s.memory p d) leaf) refl same_keys'
    where
      same_keys' : (x : ℕ) → key (exchanged s.memory p d leaf (to new)) x ≡ key s.memory x
      same_keys' x = same_keys (Swap p d leaf new) (λ y f v i. cc) x

      by : (b : Bool) → is_to (edge s.memory p d) leaf ≡ b
          → ((x : ℕ) → key (cond b (put_edge s.memory p d (to new)) s.memory) x ≡ key s.memory x)
          → TreeChange s h w (Swap p d leaf new) (cond b (put_edge s.memory p d (to new)) s.memory)
      by true won keys = let k = shown_swap s h law w p d leaf new ok won in
          Swapped p d leaf new _ refl k.swap (exchanged_put s.memory p d (to new) k.inside) keys
      by false lost keys = Kept (λ x g. refl) keys

  flagging : (p : ℕ) (d : Side) (leaf : ℕ) → Allowed s w (Flag p d leaf)
      → TreeChange s h w (Flag p d leaf) (exchanged s.memory p d leaf (flag_to leaf))
  unfolding refusal write
  flagging p d leaf ok = Kept (λ x g. by (is_to (edge s.memory p d) leaf) refl x g) same_keys'
    where
      same_keys' : (x : ℕ) → key (exchanged s.memory p d leaf (flag_to leaf)) x ≡ key s.memory x
      same_keys' x = same_keys (Flag p d leaf) (λ y f v i. cc) x

      inside : p < length s.memory.nodes
      inside = slot_inside s h law p 1 (or_parts (outside 1 s.layout.nodes p) (outside 6 s.layout.nodes leaf)
          (passed _ _ _ ok.event).0).0

      by : (b : Bool) → is_to (edge s.memory p d) leaf ≡ b → (x : ℕ) (g : Side)
          → child (cond b (put_edge s.memory p d (flag_to leaf)) s.memory) x g ≡ child s.memory x g
      by true won x g = marked s.memory p d (flag_to leaf) inside
          (sym (ap (λ (e : Edge). e.slot) (is_to-true (edge s.memory p d) leaf won))) x g
      by false lost x g = refl

  splicing_off : (a : ℕ) (d : Side) (x p : ℕ) (keep : Side) → Allowed s w (Splice a d x p keep)
      → TreeChange s h w (Splice a d x p keep) (exchanged s.memory a d x (kept (read (of s w) p keep)))
  unfolding write
  splicing_off a d x p keep ok = by (is_to (edge s.memory a d) x) refl same_keys'
    where
      same_keys' : (y : ℕ) → key (exchanged s.memory a d x (kept (read (of s w) p keep))) y ≡ key s.memory y
      same_keys' y = same_keys (Splice a d x p keep) (λ z f v i. cc) y

      by : (b : Bool) → is_to (edge s.memory a d) x ≡ b
          → ((y : ℕ) → key (cond b (put_edge s.memory a d (kept (read (of s w) p keep))) s.memory) y ≡ key s.memory y)
          → TreeChange s h w (Splice a d x p keep) (cond b (put_edge s.memory a d (kept (read (of s w) p keep)))
          s.memory)
      by true won keys =
          let k = shown s h law w a d x p keep ok won in
          let all = splicing s.layout.nodes (picture s h) w _ a d _ (kept (read (of s w) p keep)) law.tree k.splice in
          Spliced a d _ (record {
            nothing = all.nothing;
            alone = all.alone;
            front = all.front;
            at_front = all.at_front;
            is_slot = all.is_slot;
            frozen = all.frozen;
            exchanged = rw (← k.splice.leads) (exchanged_put s.memory a d (kept (read (of s w) p keep)) k.inside);
          }) (first_slot s.layout.nodes (picture s h) w _ a d _ (kept (read (of s w) p keep)) law.tree k.splice)
          (λ z. k.splice.some (k.splice.leads ∙ z)) keys k.splice.high
      by false lost keys = Kept (λ y g. refl) keys

  pub tree_change : (e : Event) → Allowed s w e → TreeChange s h w e (write s.memory (of s w) w e)
  unfolding write refusal
  tree_change Advance ok = cond_both (is_number (of s w).brief.seen s.memory.epoch)
      (record s.memory { epoch = s.memory.epoch + 1 }) s.memory (λ m. TreeChange s h w Advance m)
      (λ _. Kept (λ x d. refl) (λ x. refl)) (λ _. Kept (λ x d. refl) (λ x. refl))
  tree_change (Fill x f v) ok = filling x f v ok
  tree_change (Link p d leaf new) ok = linking p d leaf new ok
  tree_change (Flag p d leaf) ok = flagging p d leaf ok
  tree_change (Tag p d) ok = Kept (λ x g. marked s.memory p d (tagged (edge s.memory p d))
      (slot_inside s h law p 1 (passed _ _ _ ok.event).0) refl x g) (same_keys (Tag p d) (λ y f v i. cc))
  tree_change (Splice a d x p keep) ok = splicing_off a d x p keep ok
  tree_change (Swap p d leaf new) ok = swapping p d leaf new ok
  tree_change e ok = Kept (λ x d. refl) (λ x. refl)
