-- What is known stays known as more is met, and what was met can be forgotten again.
use Rattle.std.proofs.Common.{◌≡◌, ℕ, ◌<◌, ◌==◌, eqb, Bool, true, false, cond, Some, is_some, List, [], ◌∷◌, ap, ◌∙◌, refl, arith, true≢false}
use Rattle.std.specs.declared.cmp.Ordering.{Ordering}
use Rattle.std.specs.declared.cmp.Ordering.TheVariants.{Less, Equal, Greater}
use Rattle.std.specs.Ordering.{nat_cmp, is_eq, match_ordering}
use Rattle.std.proofs.lemmas.Bool.Decides.{nat_tests}
use Rattle.std.proofs.lemmas.Bool.{cond_both}
use Rattle.nm_model.specs.declared.knowledge.Seen.{Seen}
use Rattle.nm_model.specs.Maps.{get, put, without, has}
use Rattle.nm_model.specs.Knowledge.{Knowledge, unread}
use Rattle.nm_model.specs.Learning.{met}
use Rattle.nm_model.proofs.Tables.{get-put}

has_put : (m : List (ℕ × Seen)) (x : ℕ) (s : Seen) (q : ℕ) → has m q ≡ true → has (put m x s) q ≡ true
has_put m x s q h = ap is_some (get-put m x s q) ∙ by (eqb q x)
  where
    by : (b : Bool) → is_some (cond b (Some s) (get m q)) ≡ true
    by true = refl
    by false = h

pub met_has : (m : List (ℕ × Seen)) (x q : ℕ) → has m q ≡ true → has (met m x) q ≡ true
met_has m x q h = cond_both (x == 0) m (cond (has m x) m (put m x unread)) (λ es. has es q ≡ true) (λ _. h)
    (λ _. cond_both (has m x) m (put m x unread) (λ es. has es q ≡ true) (λ _. h) (λ _. has_put m x unread q h))

itself : (s : ℕ) → is_eq (nat_cmp s s) ≡ true
itself s = grind (arith, nat_tests)

-- a slot that was put where it was not, and is taken out, leaves what was there
without_put : (m : List (ℕ × Seen)) (s : ℕ) (x : Seen) → has m s ≡ false → without (put m s x) s ≡ m
without_put [] s x h = rw (itself s) refl
without_put (e ∷ es) s x h = by (nat_cmp s e.0) refl (without_put es s x)
  where
    by : (r : Ordering) → nat_cmp s e.0 ≡ r → (has es s ≡ false → without (put es s x) s ≡ es)
        → without (match_ordering r ((s, x) ∷ e ∷ es) ((e.0, x) ∷ es) (e ∷ put es s x)) s ≡ e ∷ es
    by Less is later = rw (itself s) refl
    by Equal is later = let bad = rw (is) at h in absurd (true≢false bad)
    by Greater is later =
        let rest : has es s ≡ false = rw (is) at h in
        rw (is) (ap (λ l. e ∷ l) (later rest))

pub without_met : (m : List (ℕ × Seen)) (s : ℕ) → (s == 0) ≡ false → has m s ≡ false → without (met m s) s ≡ m
without_met m s some h = rw (some, h) (without_put m s unread h)

-- a leaf was met that was not known, and is forgotten again: so all is as before
pub unmet : (k m : Knowledge) (new : ℕ) (known : List (ℕ × Seen)) → 0 < new → has k.known new ≡ false
    → m ≡ record k { known = met k.known new } → known ≡ without m.known new → record m { known = known } ≡ k
unmet k m new known is_slot absent is left =
    let same : known ≡ k.known = left ∙ rw is (without_met k.known new (grind (arith, nat_tests)) absent) in
    rw (is, same) refl
