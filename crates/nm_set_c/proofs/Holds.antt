-- What a handle holds, by its two words.
use Rattle.std.proofs.Common.{◌≡◌, ℕ, zero, suc, refl, sym, ap, ◌∙◌, subst}
use Rattle.std.specs.Prelude.{Option, Some, None}
use Rattle.nm_set_c.specs.declared.handle.Handle.{Handle}
use Rattle.nm_set_c.specs.declared.outcome.Outcome.{Outcome}
use Rattle.nm_set_c.specs.declared.outcome.Outcome.TheVariants as outcome
use Rattle.nm_set_c.specs.declared.owner.Owner.{Owner}
use Rattle.nm_set_c.specs.declared.place.Place.{Place}
use Rattle.nm_set_c.specs.Handles.{Hold, Closed, Open, InUse, hold, held_by, IsRefused, CannotOpen}

pub is_closed : (h : Handle) → h.place.held ≡ None → h.in_use ≡ 0 → held_by h ≡ Closed
unfolding held_by
is_closed h e z = ap (λ (x : Option Owner). hold x h.in_use) e ∙ ap (hold None) z

pub is_open : (h : Handle) (x : Owner) → h.place.held ≡ Some x → h.in_use ≡ 0 → held_by h ≡ Open x
unfolding held_by
is_open h x e z = ap (λ (y : Option Owner). hold y h.in_use) e ∙ ap (hold (Some x)) z

refuses_used : (x : Option Owner) (n m : ℕ) → (n ≡ 0 → ⊥) → m ≡ 1
    → IsRefused (hold x n) (hold x m) outcome.InUse × CannotOpen (hold x n) (hold x m) outcome.InUse
unfolding IsRefused CannotOpen
refuses_used x zero m used one = absurd (used refl)
refuses_used x (suc n) m used one = let e = in_use x m one in ((refl, e), (refl, e)) where
  in_use : (y : Option Owner) (m : ℕ) → m ≡ 1 → hold y m ≡ InUse y
  in_use None m one = ap (hold None) one
  in_use (Some z) m one = ap (hold (Some z)) one

-- a handle that is in use stays so, whatever number says so
pub refused_used : (h n : Handle) → (h.in_use ≡ 0 → ⊥) → n.place ≡ h.place → n.in_use ≡ 1
    → IsRefused (held_by h) (held_by n) outcome.InUse
unfolding held_by
refused_used h n used same one = subst
    (λ (p : Place). IsRefused (hold h.place.held h.in_use) (hold p.held n.in_use) outcome.InUse)
    (sym same) (refuses_used h.place.held h.in_use n.in_use used one).0

pub not_opened_used : (h n : Handle) → (h.in_use ≡ 0 → ⊥) → n.place ≡ h.place → n.in_use ≡ 1
    → CannotOpen (held_by h) (held_by n) outcome.InUse
unfolding held_by
not_opened_used h n used same one = subst
    (λ (p : Place). CannotOpen (hold h.place.held h.in_use) (hold p.held n.in_use) outcome.InUse)
    (sym same) (refuses_used h.place.held h.in_use n.in_use used one).1

pub refused_closed : (old new : Hold) → old ≡ Closed → new ≡ Closed → IsRefused old new outcome.Closed
unfolding IsRefused
refused_closed old new e f = subst (λ (h : Hold). IsRefused h new outcome.Closed) (sym e) (refl, f)

pub not_opened_open : (x : Owner) (old new : Hold) → old ≡ Open x → new ≡ Open x → CannotOpen old new outcome.Open
unfolding CannotOpen
not_opened_open x old new e f = subst (λ (h : Hold). CannotOpen h new outcome.Open) (sym e) (refl, f)

-- what is refused is as it was
pub refused_same : (old new : Hold) (o : Outcome) → IsRefused old new o → new ≡ old
unfolding IsRefused
refused_same Closed new o r = r.1
refused_same (InUse x) new o r = r.1
refused_same (Open x) new o r = absurd r

pub refused_there : (old new : Hold) (o : Outcome) → IsRefused old new o → IsRefused old old o
refused_there old new o r = subst (λ (h : Hold). IsRefused old h o) (refused_same old new o r) r
