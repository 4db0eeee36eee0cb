-- What clauses see of values that are lent, of a caller, and of a loan.
use Rattle.std.specs.Prelude.{◌≡◌, ◌≢◌, ◌⊎◌, ◌+◌, ◌/◌, ◌%◌, ◌<◌, ◌==◌, ◌&&◌, not, Bool, ℕ, [], ◌∷◌, ◌++◌, List, Option, Some}
use Rattle.atomic_table.specs.Seated.{TableId}
use Rattle.atomic_table.specs.declared.shared.Seat.{Seat}
use Rattle.nm_lending.specs.declared.knowing.Known.{Known}
use Rattle.nm_lending.specs.declared.knowing.Look.{Look}
use Rattle.nm_lending.specs.declared.knowing.Visit.{Visit}
use Rattle.nm_lending.specs.Visits.{away, caller, retired, sitting}

-- the seats of one site
pub record LendingView (C : Type 0) : Type 0 where
  pub table : TableId
  pub site : C

-- a caller with the visits that it made, and the looks that it made in vain. What it left last sits on
-- that seat in sitting `turn`, if nobody has had it since; `left` is `None` if it has left nothing
pub record CallerView (T C : Type 0) : Type 0 where
  pub table : TableId
  pub site : Option C
  pub seat : ℕ
  pub turn : ℕ
  pub left : Option T
  pub visits : List (Visit T)
  pub looks : List Look

-- a caller that has what sat on a seat in sitting `turn`
pub record LoanView (T C : Type 0) : Type 0 where
  pub table : TableId
  pub site : Option C
  pub seat : ℕ
  pub turn : ℕ
  pub taken : Option T
  pub visits : List (Visit T)

module _ {T C : Type 0} where
  pub record IsCaller (p : Seat (Option T) (Known T C)) (i n : ℕ) : Type 0 where
    pub knows : p.me.0 ≡ caller p.me.0.site i n p.me.0.value p.me.0.visits p.me.0.looks
    pub has : p.me.1 ≡ []
    pub left : (n ≡ 0) ⊎ ((x : T) × (p.me.0.value ≡ Some x) × (i < p.table_id.slots))

  pub record IsLoan (p : Seat (Option T) (Known T C)) (i n : ℕ) : Type 0 where
    pub value : T
    pub knows : p.me.0 ≡ away p.me.0.site i n value p.me.0.visits p.me.0.looks
    pub left : Option T
    pub has : p.me.1 ≡ (i, left) ∷ []
    pub within : i < p.table_id.slots
    pub few : sitting n + 3 < 18446744073709551616

-- x was taken from that seat for this loan, by a caller that had made these visits
pub record IsLent {T C : Type 0} (resident : C → ℕ → ℕ → T → Type 0) (s : LendingView C) (i : ℕ)
    (bs : List (Visit T)) (x : T) (l : LoanView T C) : Type 0 where
  pub table : l.table ≡ s.table
  pub site : l.site ≡ Some s.site
  pub seat : l.seat ≡ i
  pub taken : l.taken ≡ Some x
  pub visits : l.visits ≡ bs
  pub here : resident s.site i l.turn x

-- ---- what was not borrowed

-- the caller found this word on that seat
abbrev pub look : ℕ → ℕ → Look
look i n = record { seat = i; word = n }

-- one of these looks found the word n on seat i
abbrev pub HasFound : List Look → ℕ → ℕ → Type 0
HasFound [] i n = ⊥
HasFound (l ∷ ls) i n = (l ≡ look i n) ⊎ HasFound ls i n

-- what sits on a seat in a later sitting than this one stays there
abbrev pub last_turn : ℕ
last_turn = 9223372036854775792

-- by this word nothing sits on the seat, or what sits there stays there
abbrev pub CannotBeLent : ℕ → Type 0
CannotBeLent n = (n % 2 ≡ 0) ⊎ (last_turn < n / 2)

-- by this word a caller has what sat on the seat, and may give it back
abbrev pub says_away : ℕ → Bool
says_away n = (n % 2 == 0) && not (n == retired)

-- by these looks the seat could not be lent at some moment; or its word changed from one moment to
-- another, so that another caller was faster
abbrev pub FoundAway : List Look → ℕ → Type 0
FoundAway ls i = ((n : ℕ) × HasFound ls i n × CannotBeLent n)
    ⊎ ((n : ℕ) × (m : ℕ) × HasFound ls i n × HasFound ls i m × (n ≢ m))

-- the caller is as it was, but for these looks more
abbrev pub HasLooked : {T C : Type 0} → CallerView T C → List Look → CallerView T C → Type 0
HasLooked b ls d = d ≡ record b { looks = b.looks ++ ls }

-- a caller was not lent what sits on any of these seats: it found each of them away
pub record NoneIsLent {T C : Type 0} (b : CallerView T C) (Seats : ℕ → Type 0) (d : CallerView T C) : Type 0 where
  pub looks : List Look
  pub more : HasLooked b looks d
  pub each : (i : ℕ) → Seats i → FoundAway looks i

-- a caller was not lent what sat on seat i in sitting n: it found another word there
pub record IsAnother {T C : Type 0} (b : CallerView T C) (i n : ℕ) (d : CallerView T C) : Type 0 where
  pub word : ℕ
  pub more : HasLooked b (look i word ∷ []) d
  pub other : word ≢ sitting n

-- a caller was not lent again what it left last: it found another word there; or it has left nothing, or what
-- it left stays there
abbrev pub IsNotThere : {T C : Type 0} → CallerView T C → CallerView T C → Type 0
IsNotThere b d = IsAnother b b.seat b.turn d ⊎ ((d ≡ b) × ((b.turn ≡ 0) ⊎ (last_turn < b.turn)))
