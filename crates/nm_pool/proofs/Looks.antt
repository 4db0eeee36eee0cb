-- Rows that are passed over at a look, and claims behind them.
use Rattle.std.proofs.Common.{◌≡◌, inl, ℕ, zero, suc, ◌+◌, ◌-◌, ◌≤◌, List, sym, ap, subst, arith}
use Rattle.nm_edge.specs.declared.node.NodeId.{NodeId}
use Rattle.nm_model.specs.Maps.{get}
use Rattle.nm_model.specs.Knowledge.{Knowledge}
use Rattle.nm_model.specs.Walks.{Entry}
use Rattle.nm_pool.specs.Claims.{Doing, DoneInTurn, DoneBelow, FoundTaken, LearnsSlots, PassedOver, ClaimsBetween, IsTriedRow, IsClaimBetween}
use Rattle.std.specs.Prelude.{Option, Some, None, Err}
use Rattle.nm_pool.proofs.PrivateSlots.{one_more}

-- so many more
run_on : (Done : Doing) (a b k : ℕ) (old mid new : List Entry) → a ≤ b → DoneBelow Done a b old mid
    → DoneInTurn Done b k mid new → DoneBelow Done a (b + k) old new
run_on Done a b zero old mid new le first more =
    let same : b ≡ b + 0 = omega arith in
    subst (λ (c : ℕ). DoneBelow Done a c old new) same (subst (DoneBelow Done a b old) (sym more) first)
run_on Done a b (suc k) old mid new le first more =
    let last : b + k + 1 ≡ b + suc k = omega arith in
    subst (λ (c : ℕ). DoneBelow Done a c old new) last
    (one_more Done a (b + k) old more.0 new (omega (arith, le)) (run_on Done a b k old mid more.0 le first more.1)
    more.2)

pub below_then : (Done : Doing) (a b c : ℕ) (old mid new : List Entry) → a ≤ b → b ≤ c → DoneBelow Done a b old mid
    → DoneBelow Done b c mid new → DoneBelow Done a c old new
below_then Done a b c old mid new le more first last =
    let is : b + (c - b) ≡ c = omega (arith, more) in
    subst (λ (d : ℕ). DoneBelow Done a d old new) is (run_on Done a b (c - b) old mid new le first last)

pub passed_by_look : (from k : ℕ) (old new : List Entry) → DoneInTurn FoundTaken from k old new
    → DoneInTurn PassedOver from k old new
passed_by_look from zero old new done = done
passed_by_look from (suc k) old new done = (done.0, passed_by_look from k old done.0 done.1, inl done.2)

pub claims_behind : (a b c : ℕ) (old mid new : List Entry) (n : NodeId) → a ≤ b → DoneBelow PassedOver a b old mid
    → ClaimsBetween b c mid new n → ClaimsBetween a c old new n
claims_behind a b c old mid new n le first claim =
    let least = claim.least in
    record {
      least = omega (arith, le, least);
      below = claim.below;
      before = claim.before;
      passed = below_then
          PassedOver a b n.slot old mid claim.before le least first claim.passed;
      made = claim.made;
    }

pub learns_nothing : (k l : Knowledge) → l ≡ k → LearnsSlots k l
learns_nothing k l is = record {
  brief = ap (λ (x : Knowledge). x.brief) is;
  scanned = ap (λ (x : Knowledge). x.scanned) is;
  known = ap (λ (x : Knowledge). x.known) is;
  ledgers = ap (λ (x : Knowledge). x.ledgers) is;
  gone = ap (λ (x : Knowledge). x.gone) is;
  kept = λ s own. ap (λ (x : Knowledge). get x.drafts s) is;
}

-- a row, and the rest
pub row_then : (from next to : ℕ) (old mid new : List Entry) (o : Option NodeId)
    → IsTriedRow from to old mid (Err next) → IsClaimBetween next to mid new o → IsClaimBetween from to old new o
row_then from next to old mid new None row rest = below_then PassedOver from next to old mid new
    (let less = row.0 in omega (arith, less)) row.1 row.2 rest
row_then from next to old mid new (Some n) row claim = claims_behind from next to old mid new n
    (let less = row.0 in omega (arith, less)) row.2 claim
