-- What a call on a handle leaves, by the kind of what the handle owns.
use Rattle.std.specs.Prelude.{◌≡◌, ◌⊎◌}
use Rattle.nm_set.specs.Seats.{MemberView}
use Rattle.nm_set_c.specs.Handles.{Hold, Open, IsRefused}
use Rattle.nm_set_c.specs.declared.outcome.Outcome.{Outcome}
use Rattle.nm_set_c.specs.declared.outcome.Outcome.TheVariants as outcome
use Rattle.nm_set_c.specs.declared.owner.Owner.{Owner}
use Rattle.nm_set_c.specs.declared.owner.Owner.TheVariants.{Worker, MapWorker, Ended}
use Rattle.nm_set_c.specs.declared.remains.Remains.{Remains}

-- what a call does, as one word: it begins with m, leaves n, and has this outcome
unfoldable pub HasDone : {A : Type 0} → (A → A → Outcome → Type 0) → A → A → Outcome → Type 0
HasDone does m n o = does m n o

-- an owner is of a kind, which is given as what makes owners of it, and then this holds of what it
-- has; or it is of another kind, and then the other thing holds
abbrev pub ByKind : {A : Type 0} → (A → Owner) → Owner → (A → Type 0) → Type 0 → Type 0
ByKind {A} kind x holds other =
    ((a : A) × (x ≡ kind a) × holds a) ⊎ (((a : A) → x ≡ kind a → ⊥) × other)

-- the call is refused because what the open handle owns is of another kind: the handle is
-- unchanged, and so is what else is named
abbrev pub IsKind : Type 0 → Owner → Hold → Outcome → Type 0
IsKind same x new o = (o ≡ outcome.Kind) × (new ≡ Open x) × same

-- the call was made with what the handle owns, and what it left stays in the handle
abbrev pub IsMadeWith : {A : Type 0} → (A → Owner) → (A → A → Outcome → Type 0) → Hold → Outcome → A → Type 0
IsMadeWith {A} kind does new o a = (b : A) × (new ≡ Open (kind b)) × does a b o

-- if the owner is of the kind, the call is made with it, and it stays in its handle; otherwise the
-- call is refused
unfoldable pub Owns : {A : Type 0} → (A → Owner) → (A → A → Outcome → Type 0) → Type 0 → Owner → Hold
    → Outcome → Type 0
Owns kind does same x new o = ByKind kind x (IsMadeWith kind does new o) (IsKind same x new o)

-- a handle that is closed or in use is refused; for an open one it depends on what it owns
unfoldable pub OfHandle : {A : Type 0} → (A → Owner) → (A → A → Outcome → Type 0) → Type 0 → Hold → Hold
    → Outcome → Type 0
OfHandle kind does same old new o =
    (IsRefused old new o × same) ⊎ ((x : Owner) × (old ≡ Open x) × Owns kind does same x new o)

-- `OfWorker`, `OfMapWorker`, `OfReport`: a call on the handle of a worker of a set, of a worker of a
-- map, or of a report
abbrev pub OfWorker : (MemberView → MemberView → Outcome → Type 0) → Type 0 → Hold → Hold → Outcome → Type 0
OfWorker = OfHandle Worker

abbrev pub OfMapWorker : (MemberView → MemberView → Outcome → Type 0) → Type 0 → Hold → Hold → Outcome → Type 0
OfMapWorker = OfHandle MapWorker

abbrev pub OfReport : (Remains → Remains → Outcome → Type 0) → Type 0 → Hold → Hold → Outcome → Type 0
OfReport = OfHandle Ended
