-- What a call on a handle leaves, by what the handle owns.
use Rattle.std.proofs.Common.{◌≡◌, refl, sym, subst, inl, inr}
use Rattle.nm_set.specs.Seats.{MemberView}
use Rattle.nm_set_c.specs.Handles.{Hold, Open, IsRefused}
use Rattle.nm_set_c.specs.Owners.{HasDone, Owns, OfHandle, OfWorker, OfMapWorker, OfReport}
use Rattle.nm_set_c.specs.declared.outcome.Outcome.{Outcome}
use Rattle.nm_set_c.specs.declared.outcome.Outcome.TheVariants.{Kind}
use Rattle.nm_set_c.specs.declared.owner.Owner.{Owner}
use Rattle.nm_set_c.specs.declared.owner.Owner.TheVariants.{Worker, MapWorker, Ended}
use Rattle.nm_set_c.specs.declared.remains.Remains.{Remains}

pub has_done : {A : Type 0} (does : A → A → Outcome → Type 0) (m n : A) (o : Outcome) → does m n o → HasDone does m n o
unfolding HasDone
has_done does m n o d = d

-- ---- of a handle of any kind: it is refused, or has something of the kind, or something else

pub refused : {A : Type 0} (kind : A → Owner) (does : A → A → Outcome → Type 0) (same : Type 0) (old new : Hold)
    (o : Outcome) → IsRefused old new o → same → OfHandle kind does same old new o
unfolding OfHandle
refused kind does same old new o r s = inl (r, s)

pub owned : {A : Type 0} (kind : A → Owner) (does : A → A → Outcome → Type 0) (same : Type 0) (old new : Hold)
    (x y : Owner) (o : Outcome)
    → old ≡ Open x → new ≡ Open y → Owns kind does same x (Open y) o → OfHandle kind does same old new o
unfolding OfHandle
owned kind does same old new x y o e f d = inr (x, e, subst (λ (h : Hold). Owns kind does same x h o) (sym f) d)

pub does_owned : {A : Type 0} (kind : A → Owner) (does : A → A → Outcome → Type 0) (same : Type 0) (x : Owner)
    (m n : A) (o : Outcome)
    → x ≡ kind m → does m n o → Owns kind does same x (Open (kind n)) o
unfolding Owns
does_owned kind does same x m n o e d = inl (m, e, (n, refl, d))

pub told : {A : Type 0} (kind : A → Owner) (does : A → A → Outcome → Type 0) (same : Type 0) (old new : Hold)
    (m n : A) (o : Outcome)
    → old ≡ Open (kind m) → new ≡ Open (kind n) → does m n o → OfHandle kind does same old new o
told kind does same old new m n o e f d = owned kind does same old new (kind m) (kind n) o e f
    (does_owned kind does same (kind m) m n o refl d)

pub asked : {A : Type 0} (kind : A → Owner) (does : A → A → Outcome → Type 0) (same : Type 0) (old new : Hold)
    (m n : A) (o : Outcome)
    → HasDone does m n o → new ≡ Open (kind n) → old ≡ Open (kind m) → OfHandle kind does same old new o
unfolding HasDone
asked kind does same old new m n o d f e = told kind does same old new m n o e f d

pub is_other : {A : Type 0} (kind : A → Owner) (does : A → A → Outcome → Type 0) (same : Type 0) (x : Owner)
    → ((a : A) → x ≡ kind a → ⊥) → same → Owns kind does same x (Open x) Kind
unfolding Owns
is_other kind does same x not s = inr (not, (refl, refl, s))

pub other : {A : Type 0} (kind : A → Owner) (does : A → A → Outcome → Type 0) (same : Type 0) (old new : Hold)
    (x : Owner)
    → ((a : A) → x ≡ kind a → ⊥) → old ≡ Open x → new ≡ Open x → same → OfHandle kind does same old new Kind
other kind does same old new x not e f s = owned kind does same old new x x Kind e f (is_other kind does same x not s)

-- ---- the same for each kind, because search needs to know the kind that it looks for

abbrev Told : {A : Type 0} → (A → Owner) → Type 1
Told {A} kind = (does : A → A → Outcome → Type 0) (same : Type 0) (old new : Hold) (m n : A) (o : Outcome)
    → old ≡ Open (kind m) → new ≡ Open (kind n) → does m n o → OfHandle kind does same old new o

pub told_worker : Told Worker
told_worker = told Worker

pub told_map_worker : Told MapWorker
told_map_worker = told MapWorker

pub told_report : Told Ended
told_report = told Ended

pub other_report : (does : Remains → Remains → Outcome → Type 0) (same : Type 0) (old new : Hold) (x : Owner)
    → ((r : Remains) → x ≡ Ended r → ⊥) → old ≡ Open x → new ≡ Open x → same → OfReport does same old new Kind
other_report = other Ended

-- ---- by which an export is proved: one that returns what it reads, and one that makes a call, whose
-- clauses are not opened there

pub ruleset told_of_worker = (refused, told_worker, other)

pub ruleset told_of_report = (refused, told_report, other_report)

pub ruleset asked_of_owner = (has_done, refused, asked, other, told_map_worker)
