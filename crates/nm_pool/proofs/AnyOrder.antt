-- Claims of slots in any order: what was passed over, as a list of slots.
use Rattle.std.proofs.Common.{◌≡◌, inl, inr, ℕ, zero, suc, ◌+◌, ◌-◌, ◌≤◌, ◌<◌, ◌==◌, List, [], ◌∷◌, ◌++◌, length, refl, sym, subst, arith}
use Rattle.std.specs.Prelude.{Option, Some, None}
use Rattle.std.proofs.Math.Nat.{eq-or-lt_of_le}
use Rattle.std.proofs.lemmas.Bool.{cases_lt, cond-false, ne_eqb}
use Rattle.std.proofs.lemmas.List.{length-append}
use Rattle.nm_edge.specs.declared.node.NodeId.{NodeId}
use Rattle.nm_model.specs.Walks.{Entry}
use Rattle.nm_pool.specs.Claims.{Doing, DoneInTurn, PassedOver, PassedWithin, DoneAt, IsOneOfSlots, IsClaim, IsClaimBetween, IsClaimOfFew, IsNearClaim, MadeNew, node_in}

-- ---- a range as a list, from its end

abbrev pub down : ℕ → ℕ → List ℕ
down from zero = []
down from (suc n) = (from + n) ∷ down from n

length-down : (from n : ℕ) → length (down from n) ≡ n
length-down from zero = refl
length-down from (suc n) = let less = length-down from n in omega (arith, less)

among_down : (s from n : ℕ) → from ≤ s → s < from + n → IsOneOfSlots s (down from n)
among_down s from zero low high = absurd (omega (arith, low, high))
among_down s from (suc n) low high =
    elim (eq-or-lt_of_le (let le : s ≤ from + n = omega (arith, high) in le)) [
      | inl last ↦ inl (sym last)
      | inr less ↦ inr (among_down s from n low less)
    ]

listed : (nodes from n : ℕ) (old new : List Entry) → 5 < from → from + n ≤ nodes + 1
    → DoneInTurn PassedOver from n old new → DoneAt (PassedWithin nodes) (down from n) old new
listed nodes from zero old new low high done = done
listed nodes from (suc n) old new low high done = (
  done.0,
  listed nodes from n old done.0 low (omega (arith, high)) done.1,
  (omega (arith, low), omega (arith, high), done.2),
)

-- ---- one list behind another

joined : (Done : Doing) (xs ys : List ℕ) (old mid new : List Entry) → DoneAt Done xs old mid → DoneAt Done ys mid new
    → DoneAt Done (ys ++ xs) old new
joined Done xs [] old mid new a b = subst (DoneAt Done xs old) (sym b) a
joined Done xs (y ∷ ys) old mid new a b = (b.0, joined Done xs ys old mid b.0 a b.1, b.2)

among_left : (s : ℕ) (xs ys : List ℕ) → IsOneOfSlots s xs → IsOneOfSlots s (xs ++ ys)
among_left s [] ys among = absurd among
among_left s (x ∷ xs) ys (inl here) = inl here
among_left s (x ∷ xs) ys (inr later) = inr (among_left s xs ys later)

among_right : (s : ℕ) (xs ys : List ℕ) → IsOneOfSlots s ys → IsOneOfSlots s (xs ++ ys)
among_right s [] ys among = among
among_right s (x ∷ xs) ys among = inr (among_right s xs ys among)

-- ---- claims of few tries

pub wider : (limit more nodes : ℕ) (old new : List Entry) (o : Option NodeId) → limit ≤ more
    → IsClaimOfFew limit nodes old new o → IsClaimOfFew more nodes old new o
wider limit more nodes old new None le p = let few = p.1 in (p.0, omega (arith, le, few), p.2)
wider limit more nodes old new (Some n) le c =
    let few = c.few in
    record {
      least = c.least;
      most = c.most;
      slots = c.slots;
      few = omega (arith, le, few);
      before = c.before;
      passed = c.passed;
      made = c.made;
    }

pub few_then : (a b nodes : ℕ) (old mid new : List Entry) (o : Option NodeId) → IsClaimOfFew a nodes old mid None
    → IsClaimOfFew b nodes mid new o → IsClaimOfFew (a + b) nodes old new o
few_then a b nodes old mid new None p q =
    let sum = length-append q.0 p.0 in
    let first = p.1 in
    let last = q.1 in
    (q.0 ++ p.0, omega (arith, sum, first, last), joined (PassedWithin nodes) p.0 q.0 old mid new p.2 q.2)
few_then a b nodes old mid new (Some n) p c =
    let sum = length-append c.slots p.0 in
    let first = p.1 in
    let last = c.few in
    record {
      least = c.least;
      most = c.most;
      slots = c.slots ++ p.0;
      few = omega (arith, sum, first, last);
      before = c.before;
      passed = joined (PassedWithin nodes) p.0 c.slots old mid c.before p.2 c.passed;
      made = c.made;
    }

pub few_between : (from to nodes : ℕ) (old new : List Entry) (o : Option NodeId) → 5 < from → from ≤ to
    → to ≤ nodes + 1 → IsClaimBetween from to old new o → IsClaimOfFew (to - from) nodes old new o
few_between from to nodes old new None low order high done =
    let long = length-down from (to - from) in (
      down from (to - from),
      omega (arith, long),
      listed nodes from (to - from) old new low
          (omega (arith, order, high)) done,
    )
few_between from to nodes old new (Some n) low order high c =
    let long = length-down from (n.slot - from) in
    let least = c.least in
    let below = c.below in
    record {
      least = omega (arith, low, least);
      most = omega (arith, below, high);
      slots = down from (n.slot - from);
      few = omega (arith, long, least, below);
      before = c.before;
      passed = listed nodes from (n.slot - from) old c.before low (omega (arith, least, below, high)) c.passed;
      made = c.made;
    }

-- a claim from slot 6 on is one of the lowest
pub is_lowest : (nodes : ℕ) (old new : List Entry) (o : Option NodeId) → IsClaimBetween 6 (nodes + 1) old new o
    → IsClaim nodes old new o
is_lowest nodes old new None done = done
is_lowest nodes old new (Some n) c = let below = c.below in
    record { least = c.least; most = omega (arith, below); before = c.before; passed = c.passed; made = c.made }

-- a node that was made is that of an answer, since its birth was raised
pub in_answer : (n : NodeId) (old new : List Entry) → MadeNew n old new → node_in n ≡ Some n
in_answer n old new made = let raised = made.raised in
    cond-false (n.birth == 0) nothing (Some n) (ne_eqb n.birth 0 (λ none'. omega (arith, none', raised)))
  where
    nothing : Option NodeId
    nothing = None

-- ---- near claims

module _ (nodes first : ℕ) (old a : List Entry) (low : 5 < first) (high : first ≤ nodes)
    (few : IsClaimOfFew 1 nodes old a None) where
  -- behind a hint, upwards from the cursor
  upwards : (b : List Entry) (o : Option NodeId) → IsClaimBetween first (nodes + 1) a b o
      → IsClaimOfFew (1 + (nodes + 1 - first)) nodes old b o
  upwards b o up = few_then 1 (nodes + 1 - first) nodes old a b o few
      (few_between first (nodes + 1) nodes a b o low (omega (arith, high)) (omega arith) up)

  pub near_above : (b : List Entry) (n : NodeId) → IsClaimBetween first (nodes + 1) a b (Some n)
      → IsNearClaim nodes old b (Some n)
  near_above b n up = wider (1 + (nodes + 1 - first)) nodes nodes old b (Some n) (omega (arith, low, high))
      (upwards b (Some n) up)

  module _ (b new : List Entry) (up : IsClaimBetween first (nodes + 1) a b None) where
    pub near_below : (n : NodeId) → IsClaimBetween 6 first b new (Some n) → IsNearClaim nodes old new (Some n)
    near_below n around =
        wider (1 + (nodes + 1 - first) + (first - 6)) nodes nodes old new (Some n) (omega (arith, low, high))
        (few_then (1 + (nodes + 1 - first)) (first - 6) nodes old b new (Some n) (upwards b None up)
        (few_between 6 first nodes b new (Some n) (omega arith) (omega (arith, low)) (omega (arith, high)) around))

    pub near_nowhere : IsClaimBetween 6 first b new None → IsNearClaim nodes old new None
    near_nowhere around =
        let above : List ℕ = down first (nodes + 1 - first) in
        let below : List ℕ = down 6 (first - 6) in
        let long_above = length-down first (nodes + 1 - first) in
        let long_below = length-down 6 (first - 6) in
        let sum = length-append below (above ++ few.0) in
        let part = length-append above few.0 in
        let one = few.1 in
        record {
          slots = below ++ (above ++ few.0);
          few = omega (arith, low, high, long_above, long_below, sum, part, one);
          all = λ s least most. elim (cases_lt s first) [
            | inl less ↦ among_left s below (above ++ few.0)
                (among_down s 6 (first - 6) least (omega (arith, less, low)))
            | inr more ↦ among_right s below (above ++ few.0)
                (among_left s above few.0 (among_down s first (nodes + 1 - first) more (omega (arith, most, high))))
          ];
          passed = joined (PassedWithin nodes) (above ++ few.0) below old b new
              (joined (PassedWithin nodes) few.0 above old a b few.2
              (listed nodes first (nodes + 1 - first) a b low (omega (arith, high)) up))
              (listed nodes 6 (first - 6) b new (omega arith) (omega (arith, low, high)) around);
        }
