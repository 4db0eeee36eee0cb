-- A way over what a worker knows is one over the known nodes alone; and what keeps a memory of
-- chains right.
use Rattle.std.proofs.Common.{◌≡◌, ◌≢◌, ◌<◌, length, ◌⊎◌, inl, inr, ℕ, zero, suc, ◌+◌, ◌==◌, eqb, ◌||◌, Bool, true, false, cond, Option, Some, None, is_some, unwrap_or, List, [], ◌∷◌, ◌++◌, set, refl, sym, ap, subst, ◌∙◌}
use Rattle.std.specs.Prelude.{slice_index_or}
use Rattle.std.proofs.Math.Numerals.{add-one}
use Rattle.std.proofs.lemmas.Bool.{ne_eqb, eqb-true}
use Rattle.std.proofs.lemmas.List.Elements.{All-push, All-set, All-nil}
use Rattle.nm_edge.specs.declared.edge.Side.{Side}
use Rattle.nm_edge.specs.declared.edge.Side.TheVariants.{Left, Right}
use Rattle.nm_model.specs.declared.knowledge.Seen.{Seen}
use Rattle.nm_model.specs.Maps.{get, put}
use Rattle.nm_model.specs.Knowledge.{Knowledge, unread, read, slot_read, leads_on, slot_on, before_way, way}
use Rattle.nm_model.proofs.Tables.{get-put}
use Rattle.nm_model.proofs.Ways.{some_before}
use Rattle.nm_core.specs.Chains.{next_slot_of, next_slot_in, from_next, leads_to, IsRight, Remembers}
use Rattle.nm_core.specs.declared.found_steps.ChainStep.{ChainStep}

-- ---- ways

abbrev at_test : Bool → Option (List Side) → Option (List Side)
at_test b rest = elim b [ true ↦ Some [] | false ↦ rest ]

-- by the tests whether this is the last node, and whether the chain goes on to the left or to the
-- right
module _ (k : Knowledge) (s : ℕ) (w : ℕ → Option (List Side)) (v : ℕ → Bool)
    (same : (t : ℕ) → is_some (w t) ≡ v t) where
  abbrev side_by : Bool → Bool → Option Side
  side_by a b = cond a (Some Left) (cond b (Some Right) None)

  one_step : (here a b : Bool) → is_some (at_test here (before_way (side_by a b) (w (slot_on k s (side_by a b)))))
      ≡ (here || from_next (cond a (Some (slot_read (read k s Left)))
      (cond b (Some (slot_read (read k s Right))) None)) v)
  one_step true a b = refl
  one_step false true b = some_before Left (w (slot_read (read k s Left))) ∙ same (slot_read (read k s Left))
  one_step false false true = some_before Right (w (slot_read (read k s Right))) ∙ same (slot_read (read k s Right))
  one_step false false false = refl

pub way_leads : (n : ℕ) (k : Knowledge) (s p : ℕ) → is_some (way n k s p) ≡ leads_to n k.known s p
way_leads zero k s p = refl
way_leads (suc n) k s p = one_step k s (λ t. way n k t p) (λ t. leads_to n k.known t p) (λ t. way_leads n k t p)
    (s == p) (leads_on k s Left) (leads_on k s Right)

module _ (n m : ℕ) (known : List (ℕ × Seen)) (s p : ℕ) (more : n ≡ m + 1) where
  turn : leads_to n known s p ≡ (s == p) || from_next (next_slot_in known s) (λ t. leads_to m known t p)
  turn = rw (more, add-one) refl

  -- where the chain goes on, or ends
  pub leads_from : s ≢ p → (o : Option ℕ) → next_slot_in known s ≡ o
      → leads_to n known s p ≡ from_next o (λ t. leads_to m known t p)
  leads_from apart o is = turn ∙ ap (λ b. b || from_next (next_slot_in known s) (λ t. leads_to m known t p))
      (ne_eqb s p apart) ∙ ap (λ x. from_next x (λ t. leads_to m known t p)) is

-- ---- the memory

-- a step that leads nowhere yet
pub remembers_place : (known : List (ℕ × Seen)) (steps : List ChainStep) (x : ChainStep) → x.next.slot ≡ 0
    → Remembers known steps → Remembers known (steps ++ x ∷ [])
unfolding Remembers
remembers_place known steps x none h = All-push (IsRight known) steps x h (λ some. absurd (some none))

-- a step that was found
pub remembers_step : (known : List (ℕ × Seen)) (steps : List ChainStep) (i : ℕ) (x : ChainStep)
    → next_slot_in known x.slot ≡ Some x.next.slot → Remembers known steps → Remembers known (set steps i x)
unfolding Remembers
remembers_step known steps i x is h = All-set (IsRight known) steps i x (λ some. is) h

-- of a node from which no chain went on, or from which it goes on to the same slot, something is
-- known
module _ (known : List (ℕ × Seen)) (s : ℕ) (n : Seen)
    (kept : (next_slot_in known s ≡ None) ⊎ (next_slot_in known s ≡ next_slot_of n)) where
  next_kept : (q t : ℕ) → next_slot_in known q ≡ Some t → next_slot_in (put known s n) q ≡ Some t
  next_kept q t is = ap (λ o. next_slot_of (unwrap_or o unread)) (get-put known s n q) ∙ go (eqb q s) refl
    where
      go : (b : Bool) → eqb q s ≡ b → next_slot_of (unwrap_or (cond b (Some n) (get known q)) unread) ≡ Some t
      go false apart = is
      go true same = by kept
        where
          here : next_slot_in known s ≡ Some t
          here = ap (next_slot_in known) (sym (eqb-true q s same)) ∙ is

          by : (next_slot_in known s ≡ None) ⊎ (next_slot_in known s ≡ next_slot_of n) → next_slot_of n ≡ Some t
          by (inl none) = absurd (let e : ◌≡◌ {A = Option ℕ} None (Some t) = sym none ∙ here in cc)
          by (inr to) = sym to ∙ here

  pub remembers_kept : (steps : List ChainStep) → Remembers known steps → Remembers (put known s n) steps
  unfolding Remembers
  remembers_kept steps h i d below some = next_kept _ _ (h i d below some)

-- a step that stands in it
pub remembers_at : (known : List (ℕ × Seen)) (steps : List ChainStep) (i : ℕ) (x : ChainStep) → i < length steps
    → x ≡ slice_index_or steps i x → x.next.slot ≢ 0 → Remembers known steps
    → next_slot_in known x.slot ≡ Some x.next.slot
unfolding Remembers
remembers_at known steps i x below is some h = subst (λ (y : ChainStep). IsRight known y) (sym is) (h i x below) some
