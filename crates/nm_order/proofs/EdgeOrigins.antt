-- Where each edge comes from that is reached after an event: it is one that was reached, but for
-- its tag; it was flagged by the event; or it leads to a node that the event put in, or to none.
use Rattle.std.proofs.Common.{◌≡◌, ◌≢◌, ℕ, ◌+◌, ◌<◌, inl, inr, ◌⊎◌, Bool, true, false, length, [], ◌∷◌, ◌++◌, refl, sym, ap, subst, ◌∙◌, arith, true≢false, get_or-set_other}
use Rattle.std.specs.Prelude.{Option, Some, None}
use Rattle.std.proofs.lemmas.Bool.{cond_both, or_parts}
use Rattle.nm_edge.specs.Edges.{Edge, to, is_to, tagged, untagged}
use Rattle.nm_edge.specs.declared.edge.Side.{Side}
use Rattle.nm_model.specs.declared.memory.Node.{Node}
use Rattle.nm_model.specs.declared.event.Event.{Event}
use Rattle.nm_model.specs.declared.event.Event.TheVariants.{Fill, Link, Flag, Tag, Splice, Advance, Swap}
use Rattle.nm_model.specs.declared.event.Field.{Field}
use Rattle.nm_model.specs.Maps.{is_number}
use Rattle.nm_model.specs.Memory.{Memory, blank, node, edge, edge_of, child, put_edge, put_node}
use Rattle.nm_model.specs.Knowledge.{is_private, read, is_tagged, slot_read}
use Rattle.nm_model.specs.Learning.{flag_to}
use Rattle.nm_model.specs.Paths.{follow, Reached}
use Rattle.nm_model.specs.Step.{outside, filled, kept, refusal, write}
use Rattle.nm_model.specs.Runs.{State, of}
use Rattle.nm_laws.proofs.Steps.{Allowed, passed}
use Rattle.nm_laws.proofs.Trees.{same_side, same_side-true, same_side-false, same_follow, follow-append}
use Rattle.nm_laws.proofs.Pictures.{IsOnPath}
use Rattle.nm_laws.proofs.Splices.{live_on_path, unmarked_not_queued}
use Rattle.nm_laws.proofs.Views.{picture}
use Rattle.nm_laws.proofs.TreeSlots.{is_to-true, tag_known}
use Rattle.nm_laws.proofs.TreeSteps.{Lawful, slot_inside, fill_checked}
use Rattle.nm_laws.proofs.Cuts.{Shown, shown, ShownSwap, shown_swap}
use Rattle.nm_order.proofs.TreeChanges.{WonLink, won_link}
use Rattle.nm_order.proofs.OrderedChanges.{off_root}
use Rattle.nm_order.proofs.FlaggedPaths.{On, on_next, closed, Put, put_case, way_ends}
use Rattle.nm_order.proofs.FlaggedPaths.Put.{Here, There}

-- the event puts new in at the edge of p that led to the leaf: over it, or in its place
abbrev pub PutsIn : Event → ℕ → Side → ℕ → ℕ → Type 0
PutsIn e p d leaf new = (e ≡ Link p d leaf new) ⊎ (e ≡ Swap p d leaf new)

-- an edge of a node that is reached after the event
pub data EdgeOrigin (s : State) (w : ℕ) (e : Event) (m : Memory) (y : ℕ) (g : Side) : Type 0 where
  -- it led there from a node that was reached, flagged or not as it is
  WasThere : (p : ℕ) (d : Side) → Reached s.memory p → child s.memory p d ≡ child m y g
      → (edge s.memory p d).flag ≡ (edge m y g).flag → EdgeOrigin s w e m y g
  -- it is flagged by the event
  IsFlaggedNow : (leaf : ℕ) → e ≡ Flag y g leaf → Reached s.memory y → edge s.memory y g ≡ to leaf
      → edge m y g ≡ flag_to leaf → EdgeOrigin s w e m y g
  -- it leads to a node that is put in, or to none
  LeadsToNew : (p : ℕ) (d : Side) (leaf new : ℕ) → PutsIn e p d leaf new → edge s.memory p d ≡ to leaf
      → is_private (of s w) (child m y g) ≡ true → (edge m y g).flag ≡ false → EdgeOrigin s w e m y g
  LeadsNowhere : child m y g ≡ 0 → EdgeOrigin s w e m y g

module _ (s : State) (h : ℕ → ℕ) (law : Lawful s h) (w : ℕ) where
  abbrev Origins : Event → Memory → Type 0
  Origins e m = (y : ℕ) → Reached m y → (g : Side) → EdgeOrigin s w e m y g

  -- no edge is changed
  kept_edges : (e : Event) (m : Memory) → ((y : ℕ) (g : Side) → edge m y g ≡ edge s.memory y g) → Origins e m
  kept_edges e m same y r g = WasThere y g (record {
    path = r.path;
    ends = sym (same_follow (child s.memory) (child m) (λ x f. ap (λ (k : Edge). k.slot) (same x f))
        1 r.path) ∙ r.ends;
    is_slot = r.is_slot;
  })
      (sym (ap (λ (k : Edge). k.slot) (same y g))) (sym (ap (λ (k : Edge). k.flag) (same y g)))

  -- an edge is marked
  mark_paths : (p : ℕ) (d : Side) (e : Edge) → p < length s.memory.nodes → e.slot ≡ child s.memory p d
      → (y : ℕ) (g : Side) → child (put_edge s.memory p d e) y g ≡ child s.memory y g
  mark_paths p d e inside slot y g = by (put_case s.memory p d e inside y g)
    where
      by : Put s.memory p d e y g → child (put_edge s.memory p d e) y g ≡ child s.memory y g
      by (Here at side is) = ap (λ (z : Edge). z.slot) is
          ∙ (slot ∙ (ap (λ (z : ℕ). child s.memory z d) (sym at) ∙ ap (child s.memory y) side))
      by (There is) = ap (λ (z : Edge). z.slot) is

  marked_reached : (p : ℕ) (d : Side) (e : Edge) → p < length s.memory.nodes → e.slot ≡ child s.memory p d → (y : ℕ)
      → Reached (put_edge s.memory p d e) y → Reached s.memory y
  marked_reached p d e inside slot y r = record {
    path = r.path;
    ends = sym
        (same_follow (child s.memory) (child (put_edge s.memory p d e)) (mark_paths p d e inside slot) 1 r.path)
        ∙ r.ends;
    is_slot = r.is_slot;
  }

  tagging : (p : ℕ) (d : Side) → p < length s.memory.nodes
      → Origins (Tag p d) (put_edge s.memory p d (tagged (edge s.memory p d)))
  tagging p d inside y r g = by (put_case s.memory p d (tagged (edge s.memory p d)) inside y g)
    where
      was : Reached s.memory y
      was = marked_reached p d (tagged (edge s.memory p d)) inside refl y r

      by : Put s.memory p d (tagged (edge s.memory p d)) y g
          → EdgeOrigin s w (Tag p d) (put_edge s.memory p d (tagged (edge s.memory p d))) y g
      by (Here at side is) = WasThere p d (subst (Reached s.memory) at was) (sym (ap (λ (z : Edge). z.slot) is))
          (sym (ap (λ (z : Edge). z.flag) is))
      by (There is) = WasThere y g was (sym (ap (λ (z : Edge). z.slot) is)) (sym (ap (λ (z : Edge). z.flag) is))

  flagging : (p : ℕ) (d : Side) (leaf : ℕ) → p < length s.memory.nodes → edge s.memory p d ≡ to leaf
      → Origins (Flag p d leaf) (put_edge s.memory p d (flag_to leaf))
  flagging p d leaf inside unmarked y r g = by (put_case s.memory p d (flag_to leaf) inside y g)
    where
      was : Reached s.memory y
      was = marked_reached p d (flag_to leaf) inside (sym (ap (λ (z : Edge). z.slot) unmarked)) y r

      by : Put s.memory p d (flag_to leaf) y g → EdgeOrigin s w (Flag p d leaf)
          (put_edge s.memory p d (flag_to leaf)) y g
      by (Here at side is) = IsFlaggedNow leaf (λ i. Flag (sym at i) (side i) leaf) was
          (ap (λ (z : ℕ). edge s.memory z g) at ∙ (ap (edge s.memory p) (sym side) ∙ unmarked)) is
      by (There is) = WasThere y g was (sym (ap (λ (z : Edge). z.slot) is)) (sym (ap (λ (z : Edge). z.flag) is))

  -- a field of a private slot is filled
  filling : (x : ℕ) (f : Field) (v : ℕ) → is_private (of s w) x ≡ true
      → Origins (Fill x f v) (put_node s.memory x (filled (node s.memory x) f v))
  filling x f v own y r g = WasThere y g was (sym (ap (λ (z : Edge). z.slot) (same y g (off y on))))
      (sym (ap (λ (z : Edge). z.flag) (same y g (off y on))))
    where
      m : Memory
      m = put_node s.memory x (filled (node s.memory x) f v)

      same : (y : ℕ) (g : Side) → y ≢ x → edge (put_node s.memory x (filled (node s.memory x) f v)) y g
          ≡ edge s.memory y g
      same y g ne = ap (λ (k : Node). edge_of k g) (get_or-set_other s.memory.nodes x y
          (filled (node s.memory x) f v) blank ne)

      off : (y : ℕ) → On (child s.memory) 1 y → y ≢ x
      off y on at = off_root s h law w x own on.0 (on.1 ∙ at)

      step : (y : ℕ) (d : Side) → On (child s.memory) 1 y
          → On (child s.memory) 1 (child (put_node s.memory x (filled (node s.memory x) f v)) y d)
      step y d on = subst (λ (t : ℕ). On (child s.memory) 1 t)
          (sym (ap (λ (k : Edge). k.slot) (same y d (off y on)))) (on_next (child s.memory) 1 y d on)

      on : On (child s.memory) 1 y
      on = subst (λ (t : ℕ). On (child s.memory) 1 t) r.ends
          (closed (child (put_node s.memory x (filled (node s.memory x) f v))) (On (child s.memory) 1) step 1
          ([], refl) r.path)

      was : Reached s.memory y
      was = record { path = on.0; ends = on.1; is_slot = r.is_slot }

  -- a splice
  splicing : (a : ℕ) (d : Side) (x p : ℕ) (keep : Side) → Allowed s w (Splice a d x p keep)
      → is_to (edge s.memory a d) x ≡ true → Origins (Splice a d x p keep)
      (put_edge s.memory a d (kept (read (of s w) p keep)))
  splicing a d x p keep ok won = by (read (of s w) p keep) refl k.tag
    where
      k : Shown s h w a d x p keep
      k = shown s h law w a d x p keep ok won

      so : (y : ℕ) (g : Side) → is_tagged (read (of s w) y g) ≡ true
          → slot_read (read (of s w) y g) ≡ child s.memory y g
      so y g tagged = ap slot_read (tag_known s.layout.nodes s.memory (of s) h w y g law.tree tagged)

      above : IsOnPath (picture s h) a
      above = live_on_path s.layout.nodes (picture s h) a law.tree k.splice.live k.splice.is_slot k.splice.inside
          (unmarked_not_queued s.layout.nodes (picture s h) a d (child s.memory a d) law.tree k.splice.unmarked
          (λ z. let high = k.splice.high in omega arith))

      to_p : On (child s.memory) 1 p
      to_p = (
        above.path ++ d ∷ k.sides,
        follow-append (child s.memory) 1 above.path (d ∷ k.sides)
            ∙ (ap (λ (y : ℕ). follow (child s.memory) (child s.memory y d) k.sides) above.ends
            ∙ (ap (λ (y : ℕ). follow (child s.memory) y k.sides) (ap (λ (e : Edge). e.slot) k.is)
            ∙ way_ends (child s.memory) (of s w) so s.layout.nodes x p k.sides k.found)),
      )

      by : (o : Option Edge) → read (of s w) p keep ≡ o → is_tagged o ≡ true
          → Origins (Splice a d x p keep) (put_edge s.memory a d (kept o))
      by None is t y r g = absurd (true≢false (sym t))
      by (Some e) is t y r g = from (put_case s.memory a d (untagged e) k.inside y g)
        where
          kept_edge : edge s.memory p keep ≡ e
          kept_edge = law.tree.tag_read w p keep e is t

          p_slot : p ≢ 0
          p_slot z = let range = law.tree.known w p (law.tree.reads w p keep e is) in absurd (omega arith)

          p_reached : Reached s.memory p
          p_reached = record { path = to_p.0; ends = to_p.1; is_slot = p_slot }

          step : (y : ℕ) (f : Side) → On (child s.memory) 1 y
              → On (child s.memory) 1 (child (put_edge s.memory a d (untagged e)) y f)
          step y f on = go (put_case s.memory a d (untagged e) k.inside y f)
            where
              go : Put s.memory a d (untagged e) y f → On (child s.memory) 1
                  (child (put_edge s.memory a d (untagged e)) y f)
              go (Here at side is) = subst (λ (t : ℕ). On (child s.memory) 1 t)
                  (ap (λ (x : Edge). x.slot) kept_edge ∙ ap (λ (x : Edge). x.slot) (sym is))
                  (on_next (child s.memory) 1 p keep to_p)
              go (There is) = subst (λ (t : ℕ). On (child s.memory) 1 t) (ap (λ (x : Edge). x.slot) (sym is))
                  (on_next (child s.memory) 1 y f on)

          on : On (child s.memory) 1 y
          on = subst (λ (t : ℕ). On (child s.memory) 1 t) r.ends
              (closed (child (put_edge s.memory a d (untagged e))) (On (child s.memory) 1) step 1 ([], refl) r.path)

          from : Put s.memory a d (untagged e) y g → EdgeOrigin s w (Splice a d x p keep)
              (put_edge s.memory a d (untagged e)) y g
          from (Here at side is') = WasThere p keep p_reached
              (ap (λ (x : Edge). x.slot) kept_edge ∙ sym (ap (λ (x : Edge). x.slot) is'))
              (ap (λ (x : Edge). x.flag) kept_edge ∙ sym (ap (λ (x : Edge). x.flag) is'))
          from (There is') = WasThere y g (record { path = on.0; ends = on.1; is_slot = r.is_slot })
              (sym (ap (λ (z : Edge). z.slot) is')) (sym (ap (λ (z : Edge). z.flag) is'))

  -- a link
  linking : (p : ℕ) (d : Side) (leaf new : ℕ) → Allowed s w (Link p d leaf new)
      → is_to (edge s.memory p d) leaf ≡ true → Origins (Link p d leaf new) (put_edge s.memory p d (to new))
  linking p d leaf new ok won y r g = from within
    where
      k : WonLink s h law w p d leaf new
      k = won_link s h law w p d leaf new ok won

      m : Memory
      m = put_edge s.memory p d (to new)

      inside : p < length s.memory.nodes
      inside = let b = k.link.inside in let size = law.roomy.nodes in omega arith

      above : IsOnPath (picture s h) p
      above = live_on_path s.layout.nodes (picture s h) p law.tree k.link.live k.link.is_slot k.link.inside
          (unmarked_not_queued s.layout.nodes (picture s h) p d leaf law.tree k.link.unmarked k.link.leaf_slot)

      p_reached : Reached s.memory p
      p_reached = record { path = above.path; ends = above.ends; is_slot = above.is_slot }

      to_leaf : On (child s.memory) 1 leaf
      to_leaf = subst (λ (t : ℕ). On (child s.memory) 1 t) (ap (λ (e : Edge). e.slot) k.unmarked)
          (on_next (child s.memory) 1 p d (above.path, above.ends))

      not_p : (z : ℕ) → is_private (of s w) z ≡ true → z ≢ p
      not_p z own at = true≢false (sym (ap (is_private (of s w)) (sym at) ∙ own) ∙ k.link.live.shared w)

      as_was : (z : ℕ) (f : Side) → z ≢ p → edge (put_edge s.memory p d (to new)) z f ≡ edge s.memory z f
      as_was z f far = go (put_case s.memory p d (to new) inside z f)
        where
          go : Put s.memory p d (to new) z f → edge (put_edge s.memory p d (to new)) z f ≡ edge s.memory z f
          go (Here at side is) = absurd (far at)
          go (There is) = is

      Below : Side → Type 0
      Below f = (edge s.memory new f ≡ to leaf) ⊎ (edge s.memory new f ≡ to k.drafts.far)

      below : (f : Side) → Below f
      below f = go (same_side k.drafts.side f) refl
        where
          go : (b : Bool) → same_side k.drafts.side f ≡ b → Below f
          go true is = inl (ap (edge s.memory new) (sym (same_side-true k.drafts.side f is)) ∙ k.link.over_leaf)
          go false is = inr (ap (edge s.memory new) (same_side-false k.drafts.side f is) ∙ k.link.over_far)

      -- on a path of the old tree, or one of the two new nodes, or none
      Within : ℕ → Type 0
      Within z = On (child s.memory) 1 z ⊎ ((z ≡ new) ⊎ ((z ≡ k.drafts.far) ⊎ (z ≡ 0)))

      step : (z : ℕ) (f : Side) → Within z → Within (child (put_edge s.memory p d (to new)) z f)
      step z f (inl on) = go (put_case s.memory p d (to new) inside z f)
        where
          go : Put s.memory p d (to new) z f → Within (child (put_edge s.memory p d (to new)) z f)
          go (Here at side is) = inr (inl (ap (λ (e : Edge). e.slot) is))
          go (There is) = inl (subst (λ (t : ℕ). On (child s.memory) 1 t) (sym (ap (λ (e : Edge). e.slot) is))
              (on_next (child s.memory) 1 z f on))
      step z f (inr (inl at)) = subst Within (sym (ap (λ (t : ℕ). child (put_edge s.memory p d (to new)) t f) at
          ∙ ap (λ (e : Edge). e.slot) (as_was new f (not_p new k.link.own)))) (go (below f))
        where
          go : Below f → Within (child s.memory new f)
          go (inl is) = inl (subst (λ (t : ℕ). On (child s.memory) 1 t) (sym (ap (λ (e : Edge). e.slot) is)) to_leaf)
          go (inr is) = inr (inr (inl (ap (λ (e : Edge). e.slot) is)))
      step z f (inr (inr (inl at))) = inr (inr (inr (ap (λ (t : ℕ). child (put_edge s.memory p d (to new)) t f) at
          ∙ (ap (λ (e : Edge). e.slot) (as_was k.drafts.far f (not_p k.drafts.far k.link.far_own))
          ∙ ap (λ (e : Edge). e.slot) (k.link.far_leaf f)))))
      step z f (inr (inr (inr at))) = inr (inr (inr (ap (λ (t : ℕ). child (put_edge s.memory p d (to new)) t f) at
          ∙ (ap (λ (e : Edge). e.slot) (as_was 0 f (λ z. k.link.is_slot (sym z)))
          ∙ ap (λ (e : Edge). e.slot) (law.tree.nothing f)))))

      within : Within y
      within = subst Within r.ends (closed (child (put_edge s.memory p d (to new))) Within step 1 (inl ([], refl))
          r.path)

      from : Within y → EdgeOrigin s w (Link p d leaf new) (put_edge s.memory p d (to new)) y g
      from (inl on) = go (put_case s.memory p d (to new) inside y g)
        where
          go : Put s.memory p d (to new) y g → EdgeOrigin s w (Link p d leaf new) (put_edge s.memory p d (to new)) y g
          go (Here at side is) = LeadsToNew p d leaf new (inl refl) k.unmarked
              (ap (is_private (of s w)) (ap (λ (e : Edge). e.slot) is) ∙ k.link.own) (ap (λ (e : Edge). e.flag) is)
          go (There is) = WasThere y g (record { path = on.0; ends = on.1; is_slot = r.is_slot })
              (sym (ap (λ (e : Edge). e.slot) is)) (sym (ap (λ (e : Edge). e.flag) is))
      from (inr (inl at)) = go (below g)
        where
          now : edge (put_edge s.memory p d (to new)) y g ≡ edge s.memory new g
          now = ap (λ (t : ℕ). edge (put_edge s.memory p d (to new)) t g) at ∙ as_was new g (not_p new k.link.own)

          go : Below g → EdgeOrigin s w (Link p d leaf new) (put_edge s.memory p d (to new)) y g
          go (inl is) = WasThere p d p_reached (ap (λ (e : Edge). e.slot) k.unmarked
              ∙ sym (ap (λ (e : Edge). e.slot) (now ∙ is)))
              (ap (λ (e : Edge). e.flag) k.unmarked ∙ sym (ap (λ (e : Edge). e.flag) (now ∙ is)))
          go (inr is) = LeadsToNew p d leaf new (inl refl) k.unmarked
              (ap (is_private (of s w)) (ap (λ (e : Edge). e.slot) (now ∙ is)) ∙ k.link.far_own)
              (ap (λ (e : Edge). e.flag) (now ∙ is))
      from (inr (inr (inr at))) = absurd (r.is_slot at)
      from (inr (inr (inl at))) = LeadsNowhere (ap (λ (t : ℕ). child (put_edge s.memory p d (to new)) t g) at
          ∙ (ap (λ (e : Edge). e.slot) (as_was k.drafts.far g (not_p k.drafts.far k.link.far_own))
          ∙ ap (λ (e : Edge). e.slot) (k.link.far_leaf g)))

  -- a swap
  swapping : (p : ℕ) (d : Side) (leaf new : ℕ) → Allowed s w (Swap p d leaf new)
      → is_to (edge s.memory p d) leaf ≡ true → Origins (Swap p d leaf new) (put_edge s.memory p d (to new))
  swapping p d leaf new ok won y r g = from within
    where
      k : ShownSwap s h w p d leaf new
      k = shown_swap s h law w p d leaf new ok won

      as_was : (z : ℕ) (f : Side) → z ≢ p → edge (put_edge s.memory p d (to new)) z f ≡ edge s.memory z f
      as_was z f far = go (put_case s.memory p d (to new) k.inside z f)
        where
          go : Put s.memory p d (to new) z f → edge (put_edge s.memory p d (to new)) z f ≡ edge s.memory z f
          go (Here at side is) = absurd (far at)
          go (There is) = is

      none_below : (f : Side) → child (put_edge s.memory p d (to new)) new f ≡ 0
      none_below f = ap (λ (e : Edge). e.slot)
          (as_was new f (λ at. true≢false (sym (ap (is_private (of s w)) (sym at) ∙ k.swap.own)
          ∙ k.swap.live.shared w))) ∙ ap (λ (e : Edge). e.slot) (k.swap.new_leaf f)

      -- on a path of the old tree, or the new leaf, or none
      Within : ℕ → Type 0
      Within z = On (child s.memory) 1 z ⊎ ((z ≡ new) ⊎ (z ≡ 0))

      step : (z : ℕ) (f : Side) → Within z → Within (child (put_edge s.memory p d (to new)) z f)
      step z f (inl on) = go (put_case s.memory p d (to new) k.inside z f)
        where
          go : Put s.memory p d (to new) z f → Within (child (put_edge s.memory p d (to new)) z f)
          go (Here at side is) = inr (inl (ap (λ (e : Edge). e.slot) is))
          go (There is) = inl (subst (λ (t : ℕ). On (child s.memory) 1 t) (sym (ap (λ (e : Edge). e.slot) is))
              (on_next (child s.memory) 1 z f on))
      step z f (inr (inl at)) = inr (inr (ap (λ (t : ℕ). child (put_edge s.memory p d (to new)) t f) at ∙ none_below f))
      step z f (inr (inr at)) =
          inr (inr (ap (λ (t : ℕ). child (put_edge s.memory p d (to new)) t f) at
          ∙ (ap (λ (e : Edge). e.slot) (as_was 0 f (λ z. k.swap.is_slot (sym z)))
          ∙ ap (λ (e : Edge). e.slot) (law.tree.nothing f))))

      within : Within y
      within = subst Within r.ends
          (closed (child (put_edge s.memory p d (to new))) Within step 1 (inl ([], refl)) r.path)

      from : Within y → EdgeOrigin s w (Swap p d leaf new) (put_edge s.memory p d (to new)) y g
      from (inl on) = go (put_case s.memory p d (to new) k.inside y g)
        where
          go : Put s.memory p d (to new) y g → EdgeOrigin s w (Swap p d leaf new) (put_edge s.memory p d (to new)) y g
          go (Here at side is) = LeadsToNew p d leaf new (inr refl) k.swap.unmarked
              (ap (is_private (of s w)) (ap (λ (e : Edge). e.slot) is) ∙ k.swap.own) (ap (λ (e : Edge). e.flag) is)
          go (There is) = WasThere y g (record { path = on.0; ends = on.1; is_slot = r.is_slot })
              (sym (ap (λ (e : Edge). e.slot) is)) (sym (ap (λ (e : Edge). e.flag) is))
      from (inr (inl at)) = LeadsNowhere (ap (λ (t : ℕ). child (put_edge s.memory p d (to new)) t g) at ∙ none_below g)
      from (inr (inr at)) = absurd (r.is_slot at)

  pub edge_origins : (e : Event) → Allowed s w e → Origins e (write s.memory (of s w) w e)
  unfolding write refusal
  edge_origins Advance ok = cond_both (is_number (of s w).brief.seen s.memory.epoch)
      (record s.memory { epoch = s.memory.epoch + 1 }) s.memory (λ m. Origins Advance m)
      (λ _. kept_edges Advance (record s.memory { epoch = s.memory.epoch + 1 }) (λ y g. refl))
      (λ _. kept_edges Advance s.memory (λ y g. refl))
  edge_origins (Fill x f v) ok = filling x f v (fill_checked s w (Fill x f v) ok.event x f v refl)
  edge_origins (Link p d leaf new) ok = cond_both (is_to (edge s.memory p d) leaf) (put_edge s.memory p d (to new))
      s.memory (λ m. Origins (Link p d leaf new) m) (λ won. linking p d leaf new ok won)
      (λ _. kept_edges (Link p d leaf new) s.memory (λ y g. refl))
  edge_origins (Flag p d leaf) ok = cond_both (is_to (edge s.memory p d) leaf) (put_edge s.memory p d (flag_to leaf))
      s.memory (λ m. Origins (Flag p d leaf) m)
      (λ won. flagging p d leaf (slot_inside s h law p 1
      (or_parts (outside 1 s.layout.nodes p) (outside 6 s.layout.nodes leaf) (passed _ _ _ ok.event).0).0)
      (is_to-true (edge s.memory p d) leaf won)) (λ _. kept_edges (Flag p d leaf) s.memory (λ y g. refl))
  edge_origins (Tag p d) ok = tagging p d (slot_inside s h law p 1 (passed _ _ _ ok.event).0)
  edge_origins (Splice a d x p keep) ok = cond_both (is_to (edge s.memory a d) x)
      (put_edge s.memory a d (kept (read (of s w) p keep))) s.memory (λ m. Origins (Splice a d x p keep) m)
      (λ won. splicing a d x p keep ok won) (λ _. kept_edges (Splice a d x p keep) s.memory (λ y g. refl))
  edge_origins (Swap p d leaf new) ok = cond_both (is_to (edge s.memory p d) leaf)
      (put_edge s.memory p d (to new)) s.memory (λ m. Origins (Swap p d leaf new) m)
      (λ won. swapping p d leaf new ok won) (λ _. kept_edges (Swap p d leaf new) s.memory (λ y g. refl))
  edge_origins e ok = kept_edges e (write s.memory (of s w) w e) (λ y g. refl)
