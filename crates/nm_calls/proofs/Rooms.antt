-- The memory that calls take for their queue, added up.
use Rattle.std.proofs.Common.{◌≡◌, ◌∙◌, ◌≤◌, ◌<◌, ◌⊎◌, inl, inr, ℕ, zero, suc, ◌+◌, ◌-◌, length, List, refl, sym, ap, arith, true, false, leb}
use Rattle.std.specs.Prelude.{Result, Ok, Err, OnOk, IfErr}
use Rattle.std.proofs.Math.Nat.{eq-or-lt_of_le}
use Rattle.std.proofs.lemmas.Bool.Decides.{leb_tells}
use Rattle.nm_limbo.specs.declared.queue.NoMemory.{NoMemory}
use Rattle.nm_epoch.specs.declared.collecting.Entry.{Entry}
use Rattle.nm_limbo.specs.Queue.{BlockQueue, IsGrown, IsBalanced, HasLeast}
use Rattle.nm_walks.specs.Bounds.{cut_bound}
use Rattle.nm_walks.specs.Rooms.{FillsUp, HasJustRoom, TakesRoom}

pub fills_none : (q : BlockQueue Entry) → FillsUp q q
fills_none q = record { blocks = refl; places = refl; spare = omega arith }

pub fills_then : (q r s : BlockQueue Entry) → FillsUp q r → FillsUp r s → FillsUp q s
fills_then q r s f g =
    let a = f.spare in
    let b = g.spare in
    record { blocks = g.blocks ∙ f.blocks; places = g.places ∙ f.places; spare = omega (arith, a, b) }

-- ---- what a whole call takes

pub takes_none : (q : BlockQueue Entry) → TakesRoom q q
takes_none q = inl (fills_none q)

pub just_room_on : (r s : BlockQueue Entry) → HasJustRoom r → FillsUp r s → HasJustRoom s
just_room_on r s h f =
    let a = h.spare in
    let b = h.blocks in
    let c = f.blocks in
    let d = f.places in
    let e = f.spare in
    record { spare = omega (arith, a, e); blocks = omega (arith, b, c, d) }

pub takes_then : (q r s : BlockQueue Entry) → TakesRoom q r → TakesRoom r s → TakesRoom q s
takes_then q r s before (inr just) = inr just
takes_then q r s (inl f) (inl g) = inl (fills_then q r s f g)
takes_then q r s (inr just) (inl g) = inr (just_room_on r s just g)

pub takes_fills : (q r s : BlockQueue Entry) → TakesRoom q r → FillsUp r s → TakesRoom q s
takes_fills q r s before f = takes_then q r s before (inl f)

-- ---- room that is made

-- no block was taken
same_room : (q r : BlockQueue Entry) → IsGrown q r → r.blocks ≡ q.blocks → FillsUp q r
same_room q r grown same =
    let spare = grown.2 in
    let items = ap (λ (es : List Entry). length es) grown.0 in
    record { blocks = same; places = omega (arith, spare, items, same); spare = omega (arith, spare, same) }

-- some were, and less than the room and a block is to spare
more_room : (r : BlockQueue Entry) → IsBalanced r → r.spare < cut_bound + 32 → HasJustRoom r
more_room r balanced few =
    let all = balanced.0 in
    let used = balanced.1 in
    record { spare = few; blocks = omega (arith, all, used) }

-- the fewest that are enough
least_room : (q r : BlockQueue Entry) → IsGrown q r → IsBalanced r → HasLeast q r cut_bound → TakesRoom q r
least_room q r grown balanced least = elim (eq-or-lt_of_le grown.1) [
  | inl same ↦ inl (same_room q r grown (sym same))
  | inr more ↦ inr (more_room r balanced (few more (leb_tells (cut_bound + 32) r.spare)))
]
  where
    few : q.blocks < r.blocks → ((leb (cut_bound + 32) r.spare ≡ true) × (cut_bound + 32 ≤ r.spare))
        ⊎ ((leb (cut_bound + 32) r.spare ≡ false) × (r.spare < cut_bound + 32)) → r.spare < cut_bound + 32
    few more (inr below) = below.1
    few more (inl above) =
        let spare = grown.2 in
        let far = above.1 in
        let less = least.1 (r.blocks - q.blocks - 1) (omega (arith, spare, more, far)) in
        omega (arith, less, more)

-- room of a try is made, or refused
pub room_made : (q r : BlockQueue Entry) (o : Result Unit NoMemory) → IsGrown q r → IsBalanced r
    → OnOk o (HasLeast q r cut_bound) → IfErr o (λ _. r.spare < cut_bound) → TakesRoom q r
room_made q r (Ok u) grown balanced least refused = least_room q r grown balanced least
room_made q r (Err e) grown balanced least refused = inr (more_room r balanced (omega (arith, refused)))

-- the room of the first try is there, so what is refused is that of a later one
pub later_refused : (n : ℕ) (q r : BlockQueue Entry) → (n ≡ 0 → cut_bound ≤ q.spare) → q.spare ≤ r.spare
    → r.spare < cut_bound → 0 < n
later_refused zero q r first more less = let room = first refl in omega (arith, room, more, less)
later_refused (suc n) q r first more less = omega arith
