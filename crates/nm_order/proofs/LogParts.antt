-- Parts of a log: of one that is part of a longer log, whether its last entry is the log's last.
use Rattle.std.proofs.Common.{◌≡◌, ◌⊎◌, inl, inr, List, [], ◌∷◌, ◌++◌, refl}
use Rattle.nm_model.specs.Walks.{IsPart}
use Rattle.nm_model.specs.Walks.IsPart.{nothing, takes, skips}

module _ {X : Type 0} where
  pub part_of_nothing : (ys : List X) → IsPart [] ys
  part_of_nothing [] = nothing
  part_of_nothing (y ∷ ys) = skips (part_of_nothing ys)

  pub part_itself : (ys : List X) → IsPart ys ys
  part_itself [] = nothing
  part_itself (y ∷ ys) = takes (part_itself ys)

  -- a log that grows keeps its parts
  pub part_grows : {xs ys : List X} (more : List X) → IsPart xs ys → IsPart xs (ys ++ more)
  part_grows more nothing = part_of_nothing more
  part_grows more (takes p) = takes (part_grows more p)
  part_grows more (skips p) = skips (part_grows more p)

  -- a part of a part
  pub part_within : {ys zs : List X} → IsPart ys zs → (xs : List X) → IsPart xs ys → IsPart xs zs
  part_within nothing xs p = p
  part_within (skips q) xs p = skips (part_within q xs p)
  part_within (takes q) [] p = part_of_nothing _
  part_within (takes q) (x ∷ xs) (takes p) = takes (part_within q xs p)
  part_within (takes q) (x ∷ xs) (skips p) = skips (part_within q (x ∷ xs) p)

  no_part : (xs : List X) (b : X) → IsPart (xs ++ b ∷ []) [] → ⊥
  no_part [] b p = elim p [ ]
  no_part (x ∷ xs) b p = elim p [ ]

  -- a part ends before the log's last entry, or with it
  pub part_ends : (xs ys : List X) (b e : X) → IsPart (xs ++ b ∷ []) (ys ++ e ∷ [])
      → IsPart (xs ++ b ∷ []) ys ⊎ ((b ≡ e) × IsPart xs ys)
  part_ends [] [] b e (takes p) = inr (refl, nothing)
  part_ends [] [] b e (skips p) = absurd (no_part [] b p)
  part_ends [] (y ∷ ys) b e (takes p) = inl (takes (part_of_nothing ys))
  part_ends [] (y ∷ ys) b e (skips p) = elim (part_ends [] ys b e p) [
    | inl q ↦ inl (skips q)
    | inr q ↦ inr (q.0, skips q.1)
  ]
  part_ends (x ∷ xs) [] b e (takes p) = absurd (no_part xs b p)
  part_ends (x ∷ xs) [] b e (skips p) = absurd (no_part (x ∷ xs) b p)
  part_ends (x ∷ xs) (y ∷ ys) b e (takes p) = elim (part_ends xs ys b e p) [
    | inl q ↦ inl (takes q)
    | inr q ↦ inr (q.0, takes q.1)
  ]
  part_ends (x ∷ xs) (y ∷ ys) b e (skips p) = elim (part_ends (x ∷ xs) ys b e p) [
    | inl q ↦ inl (skips q)
    | inr q ↦ inr (q.0, skips q.1)
  ]
