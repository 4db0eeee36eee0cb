use Rattle.std.proofs.Common.{◌≡◌, ℕ, List, [], ◌∷◌, sym, subst, arith}
use Rattle.nm_callers.specs.Arenas.{AreReset, ChangesOnly}
use Rattle.nm_callers.proofs.ArenaResets.{changes_more, resets_more}
use Rattle.nm_callers.proofs.arena.+reset_each.Goals as goal

pub returns-in-Some-clause-only : goal.returns-in-Some-clause-only
returns-in-Some-clause-only t c =
    let n = c.in-Some.first.now in
    let ns = c.in-Some.rest.now in
    let new = c.reset_each.new.objects in
    subst (λ (all : List ℕ). ChangesOnly all c.args.objects.now new) (sym c.in-Some.ensures.cases.0)
    (changes_more n ns c.args.objects.now new (subst (λ (mid : List ℕ). ChangesOnly ns mid new) c.reset_one.ensures
    c.reset_each.ensures.only))

pub returns-in-Some-clause-reset : goal.returns-in-Some-clause-reset
returns-in-Some-clause-reset t c =
    let n = c.in-Some.first.now in
    let ns = c.in-Some.rest.now in
    let new = c.reset_each.new.objects in
    subst (λ (all : List ℕ). AreReset all new) (sym c.in-Some.ensures.cases.0)
    (resets_more n ns c.args.objects.now new (subst (λ (mid : List ℕ). ChangesOnly ns mid new) c.reset_one.ensures
    c.reset_each.ensures.only) c.reset_each.ensures.reset)
