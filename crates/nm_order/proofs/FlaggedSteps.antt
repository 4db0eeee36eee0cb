-- Each event keeps each edge flagged that leads to a slot whose edges were all flagged.
use Rattle.std.proofs.Common.{◌≡◌, ◌≢◌, ℕ, ◌+◌, ◌<◌, ◌⊎◌, inl, inr, Bool, true, false, List, [], length, refl, sym, ap, subst, ◌∙◌, arith, true≢false, get_or-set_other}
use Rattle.std.specs.Prelude.{Option, Some, None}
use Rattle.std.proofs.lemmas.Bool.{cond_both, or_parts}
use Rattle.nm_edge.specs.Edges.{Edge, to, is_to, other, tagged, untagged}
use Rattle.nm_edge.specs.declared.edge.Side.{Side}
use Rattle.nm_model.specs.declared.event.Field.{Field}
use Rattle.nm_model.specs.declared.event.Event.{Event}
use Rattle.nm_model.specs.declared.event.Event.TheVariants.{Fill, Link, Flag, Tag, Splice, Advance, Swap}
use Rattle.nm_model.specs.declared.memory.Node.{Node}
use Rattle.nm_model.specs.Maps.{is_number}
use Rattle.nm_model.specs.Memory.{Memory, blank, node, edge, edge_of, child, put_edge, put_node}
use Rattle.nm_model.specs.Knowledge.{is_private, read, is_tagged, slot_read}
use Rattle.nm_model.specs.Learning.{flag_to}
use Rattle.nm_model.specs.Paths.{follow}
use Rattle.nm_model.specs.Step.{outside, filled, kept, refusal, write}
use Rattle.nm_model.specs.Runs.{State, of}
use Rattle.nm_laws.proofs.Steps.{Allowed, passed}
use Rattle.nm_laws.proofs.Trees.{same_side, same_side-true, same_side-false}
use Rattle.nm_laws.proofs.TreeSlots.{is_to-true, tag_known}
use Rattle.nm_laws.proofs.TreeSteps.{Lawful, slot_inside, fill_checked}
use Rattle.nm_laws.proofs.Cuts.{Shown, shown, shown_swap}
use Rattle.nm_order.proofs.TreeChanges.{won_link}
use Rattle.nm_order.proofs.FlaggedPaths.{LeadsFlagged, On, on_next, on_further, flag_on, closed, marked, filled_apart, way_ends, Put, put_case}
use Rattle.nm_order.proofs.FlaggedPaths.Put.{Here, There}

-- ---- a splice that is won

spliced : (m : Memory) (n z a : ℕ) (d : Side) (p : ℕ) (keep : Side) (e : Edge) (sides : List Side)
    → a < length m.nodes → follow (child m) (child m a d) sides ≡ p → edge m p keep ≡ e → LeadsFlagged m n z
    → LeadsFlagged (put_edge m a d (untagged e)) n z
spliced m n z a d p keep e sides inside ends kept_edge good path g is = flag_of
    (follow (child (put_edge m a d (untagged e))) z path) g
    (closed (child (put_edge m a d (untagged e))) (On (child m) z) step z ([], refl) path) is
  where
    -- from a the way comes to p
    on_kept : On (child m) z a → On (child m) z p
    on_kept on = subst (λ (y : ℕ). On (child m) z y) ends
        (on_further (child m) z (child m a d) sides (on_next (child m) z a d on))

    step : (y : ℕ) (g : Side) → On (child m) z y → On (child m) z (child (put_edge m a d (untagged e)) y g)
    step y g on = go (put_case m a d (untagged e) inside y g)
      where
        go : Put m a d (untagged e) y g → On (child m) z (child (put_edge m a d (untagged e)) y g)
        go (Here at side is) = subst (λ (t : ℕ). On (child m) z t)
            (ap (λ (x : Edge). x.slot) kept_edge ∙ ap (λ (x : Edge). x.slot) (sym is))
            (on_next (child m) z p keep (on_kept (subst (λ (t : ℕ). On (child m) z t) at on)))
        go (There is) = subst (λ (t : ℕ). On (child m) z t) (ap (λ (x : Edge). x.slot) (sym is))
            (on_next (child m) z y g on)

    flag_of : (y : ℕ) (g : Side) → On (child m) z y → child (put_edge m a d (untagged e)) y g ≡ n
        → (edge (put_edge m a d (untagged e)) y g).flag ≡ true
    flag_of y g on to_n = go (put_case m a d (untagged e) inside y g)
      where
        go : Put m a d (untagged e) y g → (edge (put_edge m a d (untagged e)) y g).flag ≡ true
        go (Here at side is) = ap (λ (x : Edge). x.flag) is
            ∙ (ap (λ (x : Edge). x.flag) (sym kept_edge)
            ∙ flag_on m n z p keep good (on_kept (subst (λ (t : ℕ). On (child m) z t) at on))
            (ap (λ (x : Edge). x.slot) kept_edge ∙ (ap (λ (x : Edge). x.slot) (sym is) ∙ to_n)))
        go (There is) = ap (λ (x : Edge). x.flag) is ∙ flag_on m n z y g good on
            (ap (λ (x : Edge). x.slot) (sym is) ∙ to_n)

-- ---- a link that is won

module _ (m : Memory) (n z p : ℕ) (d : Side) (leaf new far : ℕ) (dl : Side) (inside : p < length m.nodes)
    (unmarked : edge m p d ≡ to leaf) (over_leaf : edge m new dl ≡ to leaf) (over_far : edge m new (other dl) ≡ to far)
    (far_leaf : (f : Side) → child m far f ≡ 0) (nothing : (f : Side) → child m 0 f ≡ 0) (p_some : p ≢ 0)
    (leaf_some : leaf ≢ 0) (p_new : p ≢ new) (p_far : p ≢ far)
    (n_some : n ≢ 0) (n_new : n ≢ new) (n_far : n ≢ far) (good : LeadsFlagged m n z) where
  abbrev m' : Memory
  m' = put_edge m p d (to new)

  -- on a path from z, or the new node below p, or a node without children
  abbrev Within : ℕ → Type 0
  Within y = On (child m) z y ⊎ (((y ≡ new) × On (child m) z p) ⊎ ((g : Side) → child m' y g ≡ 0))

  as_was : (y : ℕ) (g : Side) → y ≢ p → edge m' y g ≡ edge m y g
  as_was y g far = go (put_case m p d (to new) inside y g)
    where
      go : Put m p d (to new) y g → edge m' y g ≡ edge m y g
      go (Here at side is) = absurd (far at)
      go (There is) = is

  childless : (y : ℕ) → y ≢ p → ((f : Side) → child m y f ≡ 0) → (g : Side) → child m' y g ≡ 0
  childless y apart none g = ap (λ (e : Edge). e.slot) (as_was y g apart) ∙ none g

  below_new : (g : Side) → (child m new g ≡ leaf) ⊎ (child m new g ≡ far)
  below_new g = go (same_side dl g) refl
    where
      go : (b : Bool) → same_side dl g ≡ b → (child m new g ≡ leaf) ⊎ (child m new g ≡ far)
      go true is = inl (ap (child m new) (sym (same_side-true dl g is)) ∙ ap (λ (e : Edge). e.slot) over_leaf)
      go false is = inr (ap (child m new) (same_side-false dl g is) ∙ ap (λ (e : Edge). e.slot) over_far)

  down : (y : ℕ) (g : Side) → Within y → Within (child m' y g)
  down y g (inl on) = go (put_case m p d (to new) inside y g)
    where
      go : Put m p d (to new) y g → Within (child m' y g)
      go (Here at side is) = inr (inl (ap (λ (e : Edge). e.slot) is, subst (λ (t : ℕ). On (child m) z t) at on))
      go (There is) = inl (subst (λ (t : ℕ). On (child m) z t) (ap (λ (e : Edge). e.slot) (sym is))
          (on_next (child m) z y g on))
  down y g (inr (inl new_one)) = subst (λ (t : ℕ). Within t)
      (sym (ap (λ (t : ℕ). child m' t g) new_one.0 ∙ ap (λ (e : Edge). e.slot) (as_was new g (λ at. p_new (sym at)))))
      (go (below_new g))
    where
      go : (child m new g ≡ leaf) ⊎ (child m new g ≡ far) → Within (child m new g)
      go (inl is) = inl (subst (λ (t : ℕ). On (child m) z t) (ap (λ (e : Edge). e.slot) unmarked ∙ sym is)
          (on_next (child m) z p d new_one.1))
      go (inr is) = inr (inr (λ f. ap (λ (t : ℕ). child m' t f) is ∙ childless far (λ at. p_far (sym at)) far_leaf f))
  down y g (inr (inr none)) = inr (inr (λ f. ap (λ (t : ℕ). child m' t f) (none g)
      ∙ childless 0 (λ at. p_some (sym at)) nothing f))

  flag_of : (y : ℕ) (g : Side) → Within y → child m' y g ≡ n → (edge m' y g).flag ≡ true
  flag_of y g (inl on) to_n = go (put_case m p d (to new) inside y g)
    where
      go : Put m p d (to new) y g → (edge m' y g).flag ≡ true
      go (Here at side is) = absurd (n_new (sym to_n ∙ ap (λ (e : Edge). e.slot) is))
      go (There is) = ap (λ (e : Edge). e.flag) is ∙ flag_on m n z y g good on
          (ap (λ (e : Edge). e.slot) (sym is) ∙ to_n)
  flag_of y g (inr (inl new_one)) to_n = absurd (go (below_new g))
    where
      down_to_n : child m new g ≡ n
      down_to_n = sym (ap (λ (t : ℕ). child m' t g) new_one.0
          ∙ ap (λ (e : Edge). e.slot) (as_was new g (λ at. p_new (sym at)))) ∙ to_n

      go : (child m new g ≡ leaf) ⊎ (child m new g ≡ far) → ⊥
      go (inl is) = true≢false (sym (flag_on m n z p d good new_one.1
          (ap (λ (e : Edge). e.slot) unmarked ∙ (sym is ∙ down_to_n))) ∙ ap (λ (e : Edge). e.flag) unmarked)
      go (inr is) = n_far (sym down_to_n ∙ is)
  flag_of y g (inr (inr none)) to_n = absurd (n_some (sym to_n ∙ none g))

  linked : LeadsFlagged (put_edge m p d (to new)) n z
  linked path g to_n = flag_of (follow (child m') z path) g (closed (child m') Within down z (inl ([], refl)) path) to_n

-- ---- a swap that is won

module _ (m : Memory) (n z p : ℕ) (d : Side) (leaf new : ℕ) (inside : p < length m.nodes)
    (new_leaf : (f : Side) → child m new f ≡ 0) (nothing : (f : Side) → child m 0 f ≡ 0) (p_some : p ≢ 0)
    (p_new : p ≢ new)
    (n_some : n ≢ 0) (n_new : n ≢ new) (good : LeadsFlagged m n z) where
  abbrev after_swap : Memory
  after_swap = put_edge m p d (to new)

  -- on a path from z, or a node without children
  abbrev Inside : ℕ → Type 0
  Inside y = On (child m) z y ⊎ ((g : Side) → child after_swap y g ≡ 0)

  unswapped : (y : ℕ) (g : Side) → y ≢ p → edge after_swap y g ≡ edge m y g
  unswapped y g far = go (put_case m p d (to new) inside y g)
    where
      go : Put m p d (to new) y g → edge after_swap y g ≡ edge m y g
      go (Here at side is) = absurd (far at)
      go (There is) = is

  bare : (y : ℕ) → y ≢ p → ((f : Side) → child m y f ≡ 0) → (g : Side) → child after_swap y g ≡ 0
  bare y apart none g = ap (λ (e : Edge). e.slot) (unswapped y g apart) ∙ none g

  go_down : (y : ℕ) (g : Side) → Inside y → Inside (child after_swap y g)
  go_down y g (inl on) = go (put_case m p d (to new) inside y g)
    where
      go : Put m p d (to new) y g → Inside (child after_swap y g)
      go (Here at side is) = inr (λ f. ap (λ (t : ℕ). child after_swap t f) (ap (λ (e : Edge). e.slot) is)
          ∙ bare new (λ at. p_new (sym at)) new_leaf f)
      go (There is) = inl (subst (λ (t : ℕ). On (child m) z t) (sym (ap (λ (e : Edge). e.slot) is))
          (on_next (child m) z y g on))
  go_down y g (inr none) =
      inr (λ f. ap (λ (t : ℕ). child after_swap t f) (none g) ∙ bare 0 (λ at. p_some (sym at)) nothing f)

  flag_inside : (y : ℕ) (g : Side) → Inside y → child after_swap y g ≡ n → (edge after_swap y g).flag ≡ true
  flag_inside y g (inl on) to_n = go (put_case m p d (to new) inside y g)
    where
      go : Put m p d (to new) y g → (edge after_swap y g).flag ≡ true
      go (Here at side is) = absurd (n_new (sym to_n ∙ ap (λ (e : Edge). e.slot) is))
      go (There is) = ap (λ (e : Edge). e.flag) is
          ∙ flag_on m n z y g good on (ap (λ (e : Edge). e.slot) (sym is) ∙ to_n)
  flag_inside y g (inr none) to_n = absurd (n_some (sym to_n ∙ none g))

  swapped : LeadsFlagged (put_edge m p d (to new)) n z
  swapped path g to_n = flag_inside (follow (child after_swap) z path) g
      (closed (child after_swap) Inside go_down z (inl ([], refl)) path) to_n

-- ---- every event

module _ (s : State) (h : ℕ → ℕ) (law : Lawful s h) (w : ℕ) (n z : ℕ) (n_some : n ≢ 0)
    (n_shared : (x : ℕ) → is_private (of s w) x ≡ true → n ≢ x)
    (never : (x : ℕ) → is_private (of s w) x ≡ true → (q : List Side) → follow (child s.memory) z q ≡ x → ⊥) where
  filling : (x : ℕ) (f : Field) (v : ℕ) → Allowed s w (Fill x f v) → LeadsFlagged s.memory n z
      → LeadsFlagged (put_node s.memory x (filled (node s.memory x) f v)) n z
  filling x f v ok = filled_apart s.memory (put_node s.memory x (filled (node s.memory x) f v)) n z x
      (λ y d ne. ap (λ (k : Node). edge_of k d) (get_or-set_other s.memory.nodes x y (filled (node s.memory x) f v)
      blank ne)) (never x (fill_checked s w (Fill x f v) ok.event x f v refl))

  linking : (p : ℕ) (d : Side) (leaf new : ℕ) → Allowed s w (Link p d leaf new)
      → is_to (edge s.memory p d) leaf ≡ true → LeadsFlagged s.memory n z
      → LeadsFlagged (put_edge s.memory p d (to new)) n z
  linking p d leaf new ok won good =
      let k = won_link s h law w p d leaf new ok won in
      linked s.memory n z p d leaf new k.drafts.far k.drafts.side
      (let r = k.link.inside in let size = law.roomy.nodes in omega arith) k.unmarked k.link.over_leaf k.link.over_far
      (λ f. ap (λ (e : Edge). e.slot) (k.link.far_leaf f)) (λ f. ap (λ (e : Edge). e.slot) (law.tree.nothing f))
      k.link.is_slot k.link.leaf_slot
      (λ at. true≢false (sym (ap (is_private (of s w)) at ∙ k.link.own) ∙ k.link.live.shared w))
      (λ at. true≢false (sym (ap (is_private (of s w)) at ∙ k.link.far_own) ∙ k.link.live.shared w))
      n_some (n_shared new k.link.own) (n_shared k.drafts.far k.link.far_own) good

  splicing : (a : ℕ) (d : Side) (x p : ℕ) (keep : Side) → Allowed s w (Splice a d x p keep)
      → is_to (edge s.memory a d) x ≡ true → LeadsFlagged s.memory n z
      → LeadsFlagged (put_edge s.memory a d (kept (read (of s w) p keep))) n z
  splicing a d x p keep ok won good = by (read (of s w) p keep) refl k.tag
    where
      k : Shown s h w a d x p keep
      k = shown s h law w a d x p keep ok won

      so : (y : ℕ) (g : Side) → is_tagged (read (of s w) y g) ≡ true
          → slot_read (read (of s w) y g) ≡ child s.memory y g
      so y g tagged = ap slot_read (tag_known s.layout.nodes s.memory (of s) h w y g law.tree tagged)

      by : (o : Option Edge) → read (of s w) p keep ≡ o → is_tagged o ≡ true
          → LeadsFlagged (put_edge s.memory a d (kept o)) n z
      by None is t = absurd (true≢false (sym t))
      by (Some e) is t = spliced s.memory n z a d p keep e k.sides k.inside
          (ap (λ (y : ℕ). follow (child s.memory) y k.sides) (ap (λ (x : Edge). x.slot) k.is)
          ∙ way_ends (child s.memory) (of s w) so s.layout.nodes x p k.sides k.found)
          (law.tree.tag_read w p keep e is t) good

  swapping : (p : ℕ) (d : Side) (leaf new : ℕ) → Allowed s w (Swap p d leaf new)
      → is_to (edge s.memory p d) leaf ≡ true → LeadsFlagged s.memory n z
      → LeadsFlagged (put_edge s.memory p d (to new)) n z
  swapping p d leaf new ok won good =
      let k = shown_swap s h law w p d leaf new ok won in
      swapped s.memory n z p d leaf new k.inside (λ f. ap (λ (e : Edge). e.slot) (k.swap.new_leaf f))
      (λ f. ap (λ (e : Edge). e.slot) (law.tree.nothing f)) k.swap.is_slot
      (λ at. true≢false (sym (ap (is_private (of s w)) at ∙ k.swap.own) ∙ k.swap.live.shared w)) n_some
      (n_shared new k.swap.own) good

  pub leads_flagged_still : (e : Event) → Allowed s w e → LeadsFlagged s.memory n z
      → LeadsFlagged (write s.memory (of s w) w e) n z
  unfolding write refusal
  leads_flagged_still Advance ok good = cond_both (is_number (of s w).brief.seen s.memory.epoch)
      (record s.memory { epoch = s.memory.epoch + 1 }) s.memory (λ m. LeadsFlagged m n z) (λ _. good) (λ _. good)
  leads_flagged_still (Fill x f v) ok good = filling x f v ok good
  leads_flagged_still (Link p d leaf new) ok good = cond_both (is_to (edge s.memory p d) leaf)
      (put_edge s.memory p d (to new)) s.memory (λ m. LeadsFlagged m n z) (λ won. linking p d leaf new ok won good)
      (λ _. good)
  leads_flagged_still (Flag p d leaf) ok good = cond_both (is_to (edge s.memory p d) leaf)
      (put_edge s.memory p d (flag_to leaf)) s.memory (λ m. LeadsFlagged m n z)
      (λ won. marked s.memory n z p d (flag_to leaf)
      (slot_inside s h law p 1 (or_parts (outside 1 s.layout.nodes p) (outside 6 s.layout.nodes leaf)
      (passed _ _ _ ok.event).0).0) (ap (λ (e : Edge). e.slot) (sym (is_to-true (edge s.memory p d) leaf won)))
      (λ _. refl) good) (λ _. good)
  leads_flagged_still (Tag p d) ok good = marked s.memory n z p d (tagged (edge s.memory p d))
      (slot_inside s h law p 1 (passed _ _ _ ok.event).0) refl (λ f. f) good
  leads_flagged_still (Splice a d x p keep) ok good = cond_both (is_to (edge s.memory a d) x)
      (put_edge s.memory a d (kept (read (of s w) p keep))) s.memory (λ m. LeadsFlagged m n z)
      (λ won. splicing a d x p keep ok won good) (λ _. good)
  leads_flagged_still (Swap p d leaf new) ok good = cond_both (is_to (edge s.memory p d) leaf)
      (put_edge s.memory p d (to new)) s.memory (λ m. LeadsFlagged m n z) (λ won. swapping p d leaf new ok won good)
      (λ _. good)
  leads_flagged_still e ok good = good
