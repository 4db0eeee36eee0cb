-- One more worker was looked at, and its bit was set where it holds the epoch back.
use Rattle.std.proofs.Common.{◌≡◌, ◌+◌, ◌^◌, ◌<◌, ◌%◌, ◌*◌, ℕ, suc, Bool, true, false, cond, List, sym, ap, subst, ◌∙◌, add-one, arith}
use Rattle.std.specs.Prelude.{Option, Some, None, MatchOption, is_some}
use Rattle.std.proofs.Math.Nat.{two-pow-succ, mod-eq_of_lt, one-mul}
use Rattle.std.proofs.lemmas.Nat.{pow_below}
use Rattle.nm_model.specs.declared.knowledge.Brief.{Brief}
use Rattle.nm_model.specs.Walks.{Entry}
use Rattle.nm_steps.specs.Steps.{PassView, IsSamePass}
use Rattle.nm_epoch.specs.Resting.{epochs}
use Rattle.nm_epoch.specs.Scans.{LooksAt, lets_pass}
use Rattle.nm_epoch.specs.Watches.{SightThenWatch, bit_of}
use Rattle.nm_epoch.proofs.Scanning.{look_epochs}

-- how far it has come: those below n were looked at
pub record IsWatching (me e n mask : ℕ) (old : List Entry) (p : PassView) : Type 0 where
  pub part : SightThenWatch me (epochs p).pin e n mask old p.view.log
  pub seen : (epochs p).seen ≡ Some e
  pub small : mask < 2 ^ n

-- the bit, by whether the worker was found elsewhere
pub bit_set : (o found : Option ℕ) (e v : ℕ) → MatchOption o (lets_pass found e ≡ true)
    (λ at. (found ≡ Some at) × (lets_pass found e ≡ false)) → is_some o ≡ true → bit_of v found e ≡ 2 ^ v
bit_set None found e v m is = cc
bit_set (Some at) found e v m is = ap (λ (b : Bool). cond b 0 (2 ^ v)) m.1

pub bit_clear : (o found : Option ℕ) (e v : ℕ) → MatchOption o (lets_pass found e ≡ true)
    (λ at. (found ≡ Some at) × (lets_pass found e ≡ false)) → is_some o ≡ false → bit_of v found e ≡ 0
bit_clear None found e v m is = ap (λ (b : Bool). cond b 0 (2 ^ v)) m
bit_clear (Some at) found e v m is = cc

bit_small : (v e mask : ℕ) (found : Option ℕ) → mask < 2 ^ v → mask + bit_of v found e < 2 ^ (v + 1)
bit_small v e mask found small = go (lets_pass found e)
  where
    go : (b : Bool) → mask + cond b 0 (2 ^ v) < 2 ^ (v + 1)
    go true = let double = two-pow-succ v in rw (add-one v) (omega (arith, double, small))
    go false = let double = two-pow-succ v in rw (add-one v) (omega (arith, double, small))

-- a bit of a mask, as it is shifted there
pub shifted : (v : ℕ) → v < 64 → (1 * 2 ^ v) % 2 ^ 64 ≡ 2 ^ v
shifted v below = ap (λ (n : ℕ). n % 2 ^ 64) (one-mul (2 ^ v)) ∙ mod-eq_of_lt (pow_below v 64 below)

pub watching_on : (me e v mask more : ℕ) (found : Option ℕ) (old : List Entry) (p q : PassView) → IsSamePass p q
    → LooksAt me (epochs p).pin v found p.view.log q.view.log → more ≡ mask + bit_of v found e
    → IsWatching me e v mask old p
    → IsWatching me e (v + 1) more old q
watching_on me e v mask more found old p q same look sum h =
    let still : epochs q ≡ epochs p = look_epochs me v (epochs p).pin found p q same look in
    let pin : (epochs p).pin ≡ (epochs q).pin = sym (ap (λ (b : Brief). b.pin) still) in
    let sighted = h.part in
    let longer : SightThenWatch me (epochs p).pin e (suc v) more old q.view.log =
    (sighted.0, sighted.1, (p.view.log, found, mask, sighted.2, look, sum)) in
    record {
      part = subst (λ (o : Option ℕ). SightThenWatch me o e (v + 1) more old q.view.log) pin (rw (add-one v) longer);
      seen = ap (λ (b : Brief). b.seen) still ∙ h.seen;
      small = subst (λ (n : ℕ). n < 2 ^ (v + 1)) (sym sum) (bit_small v e mask found h.small);
    }
