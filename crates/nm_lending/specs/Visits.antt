-- Values that are lent, by numbered sittings, and the visits that callers made. T is what is known of a
-- value, and C what is known of all seats.
use Rattle.std.specs.Prelude.{◌≡◌, ◌≢◌, ◌⊎◌, ◌+◌, ◌*◌, ◌<◌, ℕ, suc, true, false, List, [], ◌∷◌, ◌++◌, Option, Some, None}
use mathlib.Core.Option.{some}
use lib.ListN.{get_elem?}
use Rattle.atomic_table.specs.Table.{State, Me, Step, rest}
use Rattle.nm_lending.specs.declared.knowing.Known.{Known}
use Rattle.nm_lending.specs.declared.knowing.Look.{Look}
use Rattle.nm_lending.specs.declared.knowing.Visit.{Visit}

-- the word of a seat in sitting n, after it, and when its value does not come back
abbrev pub sitting : ℕ → ℕ
sitting n = 2 * n + 1

abbrev pub away_after : ℕ → ℕ
away_after n = 2 * n + 2

abbrev pub retired : ℕ
retired = 18446744073709551614

-- the value that a party holds
abbrev pub value_in : {T : Type 0} → List (ℕ × Option T) → Option T
value_in [] = None
value_in (h ∷ hs) = h.1

-- the second value was made of the first one by some changes, each of which is allowed
pub data Leads {T : Type 0} (R : T → T → Type 0) (x : T) : T → Type 0 where
  Stays : Leads R x x
  On : (y z : T) → Leads R x y → R y z → Leads R x z

module _ {T : Type 0} where
  -- the list has the visit
  abbrev pub Has : List (Visit T) → Visit T → Type 0
  Has [] b = ⊥
  Has (a ∷ ds) b = (a ≡ b) ⊎ Has ds b

  -- two visits are not the same one
  abbrev pub IsApart : Visit T → Visit T → Type 0
  IsApart a b = a.seat ≡ b.seat → a.turn ≡ b.turn → ⊥

  abbrev pub IsApartFromAll : Visit T → List (Visit T) → Type 0
  IsApartFromAll a [] = Unit {0}
  IsApartFromAll a (b ∷ bs) = IsApart a b × IsApartFromAll a bs

  -- no two of these visits are the same one
  abbrev pub AreApart : List (Visit T) → Type 0
  AreApart [] = Unit {0}
  AreApart (a ∷ ds) = IsApartFromAll a ds × AreApart ds

  -- of two visits to one seat, what the earlier one left led to what the later one found
  abbrev pub InOrder : (T → T → Type 0) → Visit T → Visit T → Type 0
  InOrder R a b = a.seat ≡ b.seat → a.turn < b.turn → Leads R a.left b.was

  abbrev pub AreInOrder : (T → T → Type 0) → List (Visit T) → Type 0
  AreInOrder R bs = (a b : Visit T) → Has bs a → Has bs b → InOrder R a b

module _ {T C : Type 0} where
  -- a caller that has nothing in hand. It left this value on seat i, which sits there in sitting n; or
  -- it has left nothing
  abbrev pub caller : Option C → ℕ → ℕ → Option T → List (Visit T) → List Look → Known T C
  caller c i n x bs ls =
      record { site = c; seat = i; turn = n; out = false; value = x; visits = bs; looks = ls }

  -- `idle`: a caller that has left nothing; `newcomer`: one that has made no visits; `gone`: one whose
  -- visits another one has taken over
  abbrev pub idle : Option C → List (Visit T) → List Look → Known T C
  idle c bs ls = caller c 0 0 None bs ls

  abbrev pub newcomer : C → Known T C
  newcomer c = idle (Some c) [] []

  abbrev pub gone : Known T C
  gone = idle None [] []

  -- the first one with the visits of both
  abbrev pub joined : Known T C → Known T C → Known T C
  joined v w = caller v.site v.seat v.turn v.value (v.visits ++ w.visits) v.looks

  -- a caller that has what sat on seat i in sitting n
  abbrev pub away : Option C → ℕ → ℕ → T → List (Visit T) → List Look → Known T C
  away c i n x bs ls =
      record { site = c; seat = i; turn = n; out = true; value = Some x; visits = bs; looks = ls }

  -- the same caller after one look more: it found the word n on seat i
  abbrev pub looking : Known T C → ℕ → ℕ → Known T C
  looking v i n = record v { looks = v.looks ++ record { seat = i; word = n } ∷ [] }

  -- caller j made this visit
  abbrev pub MadeBy : List (Known T C) → ℕ → Visit T → Type 0
  MadeBy views j b = (v : Known T C) × (get_elem? views j ≡ some v) × Has v.visits b

  -- one of the caller's visits left this value, on the seat and for the sitting that the caller knows
  pub record HasLeft (v : Known T C) (x : T) : Type 0 where
    pub visit : Visit T
    pub its : Has v.visits visit
    pub seat : visit.seat ≡ v.seat
    pub turn : suc visit.turn ≡ v.turn
    pub left : visit.left ≡ x

  -- ---- the rule of all seats

  pub record Fits (c : C) (s : State (Option T) (Known T C)) (v : Known T C) : Type 0 where
    pub site : (d : C) → v.site ≡ Some d → d ≡ c
    pub out : v.out ≡ true → get_elem? s.words v.seat ≡ some (away_after v.turn)
    pub last : v.out ≡ false → (x : T) → v.value ≡ Some x → HasLeft v x

  -- each seat whose word says so has a value, which belongs there in this sitting; one caller at most
  -- has what sat on a seat; each visit was made once, by one caller; what a visit left has led to what
  -- sits there now, to what is away from there, and to what a later visit found; and in the next
  -- sitting it is what sits there
  pub record Lent (resident : C → ℕ → ℕ → T → Type 0) (goes : C → T → T → Type 0) (c : C)
      (s : State (Option T) (Known T C)) : Type 0 where
    pub seats : (i n : ℕ) → get_elem? s.words i ≡ some (sitting n)
        → (x : T) × (get_elem? s.homes i ≡ some (some (Some x))) × resident c i n x
    pub known : (j : ℕ) (v : Known T C) → get_elem? s.views j ≡ some v → Fits c s v
    pub alone : (j k : ℕ) (v u : Known T C) → get_elem? s.views j ≡ some v → get_elem? s.views k ≡ some u
        → v.out ≡ true → u.out ≡ true → v.seat ≡ u.seat → j ≡ k
    pub at_home : (j : ℕ) (b : Visit T) → MadeBy s.views j b → (n : ℕ) (x : T)
        → get_elem? s.words b.seat ≡ some (sitting n) → get_elem? s.homes b.seat ≡ some (some (Some x))
        → (b.turn < n) × Leads (goes c) b.left x × (n ≡ suc b.turn → x ≡ b.left)
    pub away_from : (j : ℕ) (b : Visit T) → MadeBy s.views j b → (k : ℕ) (v : Known T C) (x : T)
        → get_elem? s.views k ≡ some v → v.out ≡ true → v.value ≡ Some x → b.seat ≡ v.seat
        → (b.turn < v.turn) × Leads (goes c) b.left x
    pub chain : (j k : ℕ) (a b : Visit T) → MadeBy s.views j a → MadeBy s.views k b → InOrder (goes c) a b
    pub once : (j k : ℕ) (a b : Visit T) → MadeBy s.views j a → MadeBy s.views k b → a.seat ≡ b.seat
        → a.turn ≡ b.turn → j ≡ k
    pub each : (j : ℕ) (v : Known T C) → get_elem? s.views j ≡ some v → AreApart v.visits

  -- ---- what each step says

  abbrev pub came : Step (Option T) → Me (Option T) (Known T C) → ℕ → Me (Option T) (Known T C) → Type 0
  came s m n k = k ≡ m

  -- the caller keeps what it found
  abbrev pub looked : Step (Option T) → Me (Option T) (Known T C) → ℕ → Me (Option T) (Known T C) → Type 0
  looked s m found k = k ≡ (looking m.0 s.word found, m.1)

  -- the caller is shown that its visits are apart, and in order
  abbrev pub showed : (C → T → T → Type 0) → Step (Option T) → Me (Option T) (Known T C) → ℕ
      → Me (Option T) (Known T C) → Type 0
  showed goes s m n k = (k ≡ m) × AreApart m.0.visits × ((c : C) → m.0.site ≡ Some c → AreInOrder (goes c) m.0.visits)

  -- x, which sat on seat i in sitting n, was taken by a caller that knew v; it is what that caller
  -- left, if it left it there for that sitting
  pub record HasTaken (resident : C → ℕ → ℕ → T → Type 0) (v : Known T C) (i n : ℕ) (x : T) : Type 0 where
    pub here : (c : C) → v.site ≡ Some c → resident c i n x
    pub same : (y : T) → v.out ≡ false → v.value ≡ Some y → v.seat ≡ i → v.turn ≡ n → x ≡ y

  abbrev pub took : (C → ℕ → ℕ → T → Type 0) → Step (Option T) → Me (Option T) (Known T C) → ℕ
      → Me (Option T) (Known T C) → Type 0
  took resident s m found k =
      (found ≡ s.first → (n : ℕ) → s.first ≡ sitting n
      → (x : T) × (k ≡ (away m.0.site s.word n x m.0.visits m.0.looks, (s.word, Some x) ∷ m.1)) ×
      HasTaken resident m.0 s.word n x)
      × (found ≢ s.first → looked s m found k)

  -- a visit ends
  abbrev pub visited : Known T C → Option T → Option T → List (Visit T)
  visited v (Some x) (Some z) = v.visits ++ record { seat = v.seat; turn = v.turn; was = x; left = z } ∷ []
  visited v _ _ = v.visits

  abbrev pub gave_back : Step (Option T) → Me (Option T) (Known T C) → ℕ → Me (Option T) (Known T C) → Type 0
  gave_back s m found k =
      k ≡ (
        caller m.0.site m.0.seat (suc m.0.turn) (value_in m.1) (visited m.0 m.0.value (value_in m.1)) m.0.looks,
        rest m.1,
      )

  -- the value does not come back
  abbrev pub gave_up : Step (Option T) → Me (Option T) (Known T C) → ℕ → Me (Option T) (Known T C) → Type 0
  gave_up s m found k = k ≡ (idle m.0.site m.0.visits m.0.looks, rest m.1)

  -- ---- the beginning and the end

  -- on seat i, seat i + 1, and so on, sit values that belong there in sitting 0
  abbrev pub AreSeated : (C → ℕ → ℕ → T → Type 0) → C → ℕ → List (Option T) → Type 0
  AreSeated resident c i [] = Unit {0}
  AreSeated resident c i (None ∷ xs) = ⊥
  AreSeated resident c i (Some x ∷ xs) = resident c i 0 x × AreSeated resident c (suc i) xs

  -- each of these belongs to some seat in some sitting
  abbrev pub AreResident : (C → ℕ → ℕ → T → Type 0) → C → List T → Type 0
  AreResident resident c [] = Unit {0}
  AreResident resident c (x ∷ xs) = ((i : ℕ) × (n : ℕ) × resident c i n x) × AreResident resident c xs
