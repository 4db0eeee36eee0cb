-- How many steps the calls on the epoch take at most.
use Rattle.std.proofs.Common.{◌≡◌, ◌≢◌, ◌⊎◌, inl, inr, ⊎_elim, ℕ, zero, suc, ◌+◌, ◌*◌, ◌≤◌, ◌<◌, List, [], ◌∷◌, ◌++◌, length, refl, ap, arith}
use Rattle.std.specs.Prelude.{Option, Some, Result, Ok, Err, IfOk, IfErr}
use Rattle.nm_model.specs.declared.event.Event.{Event}
use Rattle.nm_model.specs.declared.event.Event.TheVariants.{Sight, Announce, Leave, Scan}
use Rattle.nm_model.specs.declared.reply.Reply.{Reply}
use Rattle.nm_model.specs.declared.reply.Reply.TheVariants.{Saw, Pinned, Missed, Announced, Departed}
use Rattle.nm_model.specs.Step.{last_number, reply_scan}
use Rattle.nm_model.specs.Walks.{Entry}
use Rattle.nm_epoch.specs.declared.answers.Advance.{Advance}
use Rattle.nm_epoch.specs.declared.answers.Advance.TheVariants.{Moved, Held, Lost, Spent}
use Rattle.nm_epoch.specs.declared.answers.Moved.{Moved as LostPin}
use Rattle.nm_epoch.specs.Scans.{IsSightOf, LooksAt, AllLetPass, SightThenScans, IsAdvance}
use Rattle.nm_epoch.specs.Watches.{AllWatched, SightThenWatch}
use Rattle.nm_epoch.specs.Tries.{LostTries, IsPinnedBy, IsMoved, after_sight}
use Rattle.nm_model.proofs.Lists.{longer_by}

pub one_longer : (old new : List Entry) (x : Entry) → new ≡ old ++ x ∷ [] → length new ≡ length old + 1
one_longer old new x is = longer_by old new (x ∷ []) is

-- ---- looks at the workers

-- a look at the own worker is no step, at another one
look_steps : (me v : ℕ) (pin found : Option ℕ) (old new : List Entry) → LooksAt me pin v found old new
    → ((v ≡ me) × (length new ≡ length old)) ⊎ ((v ≢ me) × (length new ≡ length old + 1))
look_steps me v pin found old new look = ⊎_elim
    (λ (own : (v ≡ me) × (found ≡ pin) × (new ≡ old)). inl (own.0, ap (λ (log : List Entry). length log) own.2))
    (λ (other : (v ≢ me) × (new ≡ old ++ (Scan v, reply_scan found) ∷ [])). inr
    (other.0, one_longer old new (Scan v, reply_scan found) other.1)) look

one_at_most : (me v : ℕ) (pin found : Option ℕ) (old new : List Entry) → LooksAt me pin v found old new
    → length new ≤ length old + 1
one_at_most me v pin found old new look = elim (look_steps me v pin found old new look) [
  | inl own ↦ let same = own.1 in omega (arith, same)
  | inr other ↦ let more = other.1 in omega (arith, more)
]

-- so many workers take as many steps at most, and one less where the own one is among them
record FewLooks (me n : ℕ) (old new : List Entry) : Type 0 where
  most : length new ≤ length old + n
  less : me < n → length new + 1 ≤ length old + n

no_looks : (me : ℕ) (old new : List Entry) → new ≡ old → FewLooks me 0 old new
no_looks me old new is = let same : length new ≡ length old = ap (λ (log : List Entry). length log) is in
    record { most = omega (arith, same); less = λ lt. absurd (omega (arith, lt)) }

one_look : (me n : ℕ) (pin found : Option ℕ) (old mid new : List Entry) → FewLooks me n old mid
    → LooksAt me pin n found mid new → FewLooks me (suc n) old new
one_look me n pin found old mid new few look =
    let most = few.most in
    let last = one_at_most me n pin found mid new look in
    record { most = omega (arith, most, last); less = λ lt. by lt (look_steps me n pin found mid new look) }
  where
    by : me < suc n → ((n ≡ me) × (length new ≡ length mid)) ⊎ ((n ≢ me) × (length new ≡ length mid + 1))
        → length new + 1 ≤ length old + suc n
    by lt (inl own) = let most = few.most in let same = own.1 in omega (arith, most, same)
    by lt (inr other) = let ne = other.0 in let more = other.1 in let before = few.less (omega (arith, lt, ne)) in
        omega (arith, before, more)

passing_few : (me : ℕ) (pin : Option ℕ) (e n : ℕ) (old new : List Entry) → AllLetPass me pin e n old new
    → FewLooks me n old new
passing_few me pin e zero old new is = no_looks me old new is
passing_few me pin e (suc n) old new is = one_look me n pin is.1 old is.0 new (passing_few me pin e n old is.0 is.2)
    is.3

watching_few : (me : ℕ) (pin : Option ℕ) (e n mask : ℕ) (old new : List Entry) → AllWatched me pin e n mask old new
    → FewLooks me n old new
watching_few me pin e zero mask old new is = no_looks me old new is.0
watching_few me pin e (suc n) mask old new is = one_look me n pin is.1 old is.0 new
    (watching_few me pin e n is.2 old is.0 is.3) is.4

sight_steps : (e : ℕ) (old new : List Entry) → IsSightOf e old new → length new ≡ length old + 1
sight_steps e old new sight = one_longer old new _ sight.2

-- all workers, the own one among them
scan_steps : (me : ℕ) (pin : Option ℕ) (e m : ℕ) (old new : List Entry) → me < m → SightThenScans me pin e m old new
    → length new ≤ length old + m
scan_steps me pin e m old new there s =
    let first = sight_steps e old s.0 s.1 in
    let rest = (passing_few me pin e m s.0 new s.2).less there in
    omega (arith, first, rest)

pub watch_steps : (me : ℕ) (pin : Option ℕ) (e m mask : ℕ) (old new : List Entry) → me < m
    → SightThenWatch me pin e m mask old new → length new ≤ length old + m
watch_steps me pin e m mask old new there s =
    let first = sight_steps e old s.0 s.1 in
    let rest = (watching_few me pin e m mask s.0 new s.2).less there in
    omega (arith, first, rest)

pub advance_steps : (me : ℕ) (pin : Option ℕ) (m : ℕ) (old new : List Entry) (a : Advance) → me < m
    → IsAdvance m me pin old new a → length new ≤ length old + (m + 1)
advance_steps me pin m old new (Moved next) there is =
    let scans = scan_steps me pin is.0 m old is.1 there is.2 in
    let last = one_longer is.1 new _ is.4 in
    omega (arith, scans, last)
advance_steps me pin m old new (Lost found) there is =
    let scans = scan_steps me pin is.0 m old is.1 there is.2 in
    let last = one_longer is.1 new _ is.4 in
    omega (arith, scans, last)
advance_steps me pin m old new (Held v at) there is =
    let first = sight_steps is.0 old is.2.0 is.2.1 in
    let rest = (passing_few me pin is.0 v is.2.0 is.1 is.2.2).most in
    let below = is.3 in
    let last = one_at_most me v pin (Some at) is.1 new is.5 in
    omega (arith, first, rest, below, last)
advance_steps me pin m old new Spent there is = let scans = scan_steps me pin last_number m old new there is in
    omega (arith, scans)

-- ---- pins

-- a try that was lost or won is two steps
try_steps : (by : Event) (a : ℕ) (answer : Reply) (old new : List Entry)
    → new ≡ (old ++ (Announce, Announced a) ∷ []) ++ (by, answer) ∷ [] → length new ≡ length old + 2
try_steps by a answer old new is =
    let announced = one_longer old (old ++ (Announce, Announced a) ∷ []) (Announce, Announced a) refl in
    let told = one_longer (old ++ (Announce, Announced a) ∷ []) new (by, answer) is in
    omega (arith, announced, told)

lost_steps : (by : Event) (n : ℕ) (old new : List Entry) → LostTries by n old new → length new ≡ length old + 2 * n
lost_steps by zero old new is = let same : length new ≡ length old = ap (λ (log : List Entry). length log) is in
    omega (arith, same)
lost_steps by (suc n) old new is =
    let before = lost_steps by n old is.0 is.1 in
    let last = try_steps by is.2.0 (Missed is.2.1) is.0 new is.2.2 in
    omega (arith, before, last)

first_step : (old : List Entry) (e : ℕ) → length (after_sight old e) ≡ length old + 1
first_step old e = one_longer old (after_sight old e) (Sight, Saw e) refl

pinned_steps : (by : Event) (tries : ℕ) (old new : List Entry) (e : ℕ) → IsPinnedBy by tries old new e
    → length new ≤ length old + (3 * tries + 1)
pinned_steps by tries old new e is =
    let below = is.3 in
    let first = first_step old is.0 in
    let lost = lost_steps by is.1 (after_sight old is.0) is.2 is.4 in
    let won = try_steps by is.5.0 (Pinned e) is.2 new is.5.1 in
    omega (arith, below, first, lost, won)

moved_steps : (by : Event) (tries : ℕ) (old new : List Entry) → IsMoved by tries old new
    → length new ≤ length old + (3 * tries + 1)
moved_steps by zero old new is = let first = one_longer old new (Sight, Saw is.0) is.1 in omega (arith, first)
moved_steps by (suc n) old new is =
    let first = first_step old is.0 in
    let lost = lost_steps by (suc n) (after_sight old is.0) is.1 is.2 in
    let left = one_longer is.1 new (Leave, Departed) is.3 in
    omega (arith, first, lost, left)

pub pin_steps : (by : Event) (tries : ℕ) (old new : List Entry) (r : Result ℕ LostPin)
    → IfOk r (λ e. IsPinnedBy by tries old new e) → IfErr r (λ m. IsMoved by tries old new)
    → length new ≤ length old + (3 * tries + 1)
pin_steps by tries old new (Ok e) pinned moved = pinned_steps by tries old new e pinned
pin_steps by tries old new (Err m) pinned moved = moved_steps by tries old new moved
