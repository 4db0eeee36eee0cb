use Rattle.std.proofs.Common.{◌≡◌, ◌<◌, ◌≤◌, ◌+◌, ◌∙◌, ℕ, zero, suc, Bool, false, true, List, [], ◌∷◌, set, refl, ap, arith, get_or-set_other}
use Rattle.std.specs.Prelude.{slice_index_or}
use native.Mathlib.Decide.{ℕ_discrete}
use Rattle.nm_steps.proofs.pass.closing.take_slots.Goals as goal

emptied : (l : List Bool) (i : ℕ) → slice_index_or (set l i false) i false ≡ false
emptied [] i = refl
emptied (x ∷ l) zero = refl
emptied (x ∷ l) (suc i) = emptied l i

-- after one more slot was taken
one_taken : (l new : List Bool) (i : ℕ) → new ≡ set l i false → ((k : ℕ) → k < i → slice_index_or l k false ≡ false)
    → (k : ℕ) → k < i + 1 → slice_index_or new k false ≡ false
one_taken l new i is taken k less = elim (ℕ_discrete k i) [
  | yes same ↦ ap (λ (m : List Bool). slice_index_or m k false) is
      ∙ (ap (λ (j : ℕ). slice_index_or (set l i false) j false) same ∙ emptied l i)
  | no other ↦ ap (λ (m : List Bool). slice_index_or m k false) is
      ∙ (get_or-set_other l i k false false other ∙ taken k (omega (arith, less, other)))
]

still_full : (l new : List Bool) (i len : ℕ) → new ≡ set l i false
    → ((k : ℕ) → i ≤ k → k < len → slice_index_or l k false ≡ true) → (k : ℕ) → i + 1 ≤ k → k < len
    → slice_index_or new k false ≡ true
still_full l new i len is full k above less = ap (λ (m : List Bool). slice_index_or m k false) is
    ∙ (get_or-set_other l i k false false (λ e. omega (arith, above, e)) ∙ full k (omega (arith, above)) less)

pub loop-slot-init : goal.loop-slot-init
loop-slot-init c = record {
  end = c.slot_count-slot-end.ensures;
  taken = λ k less. absurd (omega (arith, less));
  full = λ k above less. c.requires k less;
}

pub take-requires : goal.take-requires
take-requires c =
    let below = c.loop-slot-test.true in
    let end = c.loop-slot.invariant.end in
    (omega (arith, below, end), c.loop-slot.invariant.full c.loop-slot.slot (omega arith) (omega (arith, below, end)))
