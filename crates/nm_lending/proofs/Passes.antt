-- What a pass knows after it has borrowed a value, and after it has given one back.
use Rattle.std.proofs.Common.{◌≡◌, ◌≢◌, ◌⊎◌, inl, inr, ⊎_elim, ℕ, zero, suc, ◌+◌, ◌≤◌, ◌<◌, List, [], ◌∷◌, ◌++◌, append_assoc, append-nil, refl, sym, ap, ◌∙◌, subst, arith}
use Rattle.std.specs.Prelude.{Option, Some, Result, Ok, Err, IfErr}
use Rattle.atomic_table.specs.Seated.{TableId}
use Rattle.atomic_table.specs.declared.shared.Seat.{Seat}
use Rattle.atomic_table.specs.Table.{Me, rest}
use Rattle.nm_lending.specs.declared.knowing.Known.{Known}
use Rattle.nm_lending.specs.declared.knowing.Look.{Look}
use Rattle.nm_lending.specs.declared.knowing.Visit.{Visit}
use Rattle.nm_lending.specs.Visits.{sitting, away, caller, idle, looking, value_in}
use Rattle.nm_lending.specs.Views.{CallerView, CannotBeLent, FoundAway, HasFound, HasLooked, IsAnother, IsCaller, IsLoan, IsLent, LendingView, LoanView, NoneIsLent, look}

-- a seat of this table has a slot
pub has_slot : (z y w : TableId) (i : ℕ) → z ≡ w → y ≡ w → y.slots ≡ y.words → i < w.words → i < z.slots
has_slot z y w i same own as_many less =
    let a = ap (λ (t : TableId). t.slots) (same ∙ sym own) in
    let b = ap (λ (t : TableId). t.words) own in
    omega (arith, a, b, as_many, less)

-- and a word
pub has_word : (z y : TableId) (i : ℕ) → z ≡ y → y.slots ≡ y.words → i < z.slots → i < y.words
has_word z y i same as_many less = let a = ap (λ (t : TableId). t.slots) same in omega (arith, a, as_many, less)

module _ {T : Type 0} where
  pub holds : (held m : List (ℕ × Option T)) (i : ℕ) (x : Option T) → held ≡ (i, x) ∷ m → held ≡ (i, x) ∷ rest held
  holds held m i x e = e ∙ ap (λ (l : List (ℕ × Option T)). (i, x) ∷ l) (sym (ap rest e))

  pub found : (held m : List (ℕ × Option T)) (i : ℕ) (x y : Option T) → held ≡ (i, x) ∷ m → held ≡ (i, y) ∷ rest held
      → y ≡ x
  found held m i x y e f = ap value_in (sym f) ∙ ap value_in e

module _ {T C : Type 0} where
  pub knows_same : {m n : Me (Option T) (Known T C)} → m ≡ n → m.0 ≡ n.0
  knows_same e = ap (λ (m : Me (Option T) (Known T C)). m.0) e

  pub holds_same : {m n : Me (Option T) (Known T C)} → m ≡ n → m.1 ≡ n.1
  holds_same e = ap (λ (m : Me (Option T) (Known T C)). m.1) e

  -- a pass that has taken a value and left the seat empty
  pub is_loan : (p : Seat (Option T) (Known T C)) (k : Known T C) (i n : ℕ) (left : Option T) (x : T) (c : Option C)
      (bs : List (Visit T)) (ls : List Look) → p.me ≡ (k, (i, left) ∷ []) → k ≡ away c i n x bs ls
      → i < p.table_id.slots → sitting n + 3 < 18446744073709551616 → IsLoan p i n
  is_loan p k i n left x c bs ls same knows within few =
      let e : p.me.0 ≡ away c i n x bs ls = knows_same same ∙ knows in
      record {
        value = x;
        knows = e ∙ sym (ap (λ (v : Known T C). away v.site i n x v.visits v.looks) e);
        left = left;
        has =
            holds_same same;
        within = within;
        few = few;
      }

  pub is_lent : (resident : C → ℕ → ℕ → T → Type 0) (s : LendingView C) (k : Known T C) (c : Option C) (i n : ℕ)
      (x y : T) (bs : List (Visit T)) (ls : List Look) (l : LoanView T C)
      → l.table ≡ s.table → c ≡ Some s.site → l.site ≡ k.site → l.seat ≡ i → l.turn ≡ n → l.taken ≡ k.value
      → l.visits ≡ k.visits → k ≡ away c i n x bs ls → x ≡ y → ((d : C) → c ≡ Some d → resident d i n y)
      → IsLent resident s i bs y l
  is_lent resident s k c i n x y bs ls l table site own seat turn taken visits knows same here = record {
    table = table;
    site = own ∙ (ap (λ (v : Known T C). v.site) knows ∙ site);
    seat = seat;
    taken = taken ∙ (ap (λ (v : Known T C). v.value) knows ∙ ap Some same);
    visits = visits ∙ ap (λ (v : Known T C). v.visits) knows;
    here = subst (λ (m : ℕ). resident s.site i m y) (sym turn) (here s.site site);
  }

  -- it has put a value back
  pub loan_still : (m k : Me (Option T) (Known T C)) (i n : ℕ) (x : T) (y : Option T) → m ≡ (k.0, (i, y) ∷ rest k.1)
      → k.0 ≡ away k.0.site i n x k.0.visits k.0.looks → m.0 ≡ away m.0.site i n x m.0.visits m.0.looks
  loan_still m k i n x y e knows = subst (λ (v : Known T C). v ≡ away v.site i n x v.visits v.looks)
      (sym (knows_same e)) knows

  pub puts : (m k : Me (Option T) (Known T C)) (i : ℕ) (x y : Option T) → m ≡ (k.0, (i, x) ∷ rest k.1)
      → k.1 ≡ (i, y) ∷ [] → m.1 ≡ (i, x) ∷ []
  puts m k i x y e has = holds_same e ∙ ap (λ (l : List (ℕ × Option T)). (i, x) ∷ l) (ap rest has)

  -- it is a caller again, which left that value
  pub back_again : (p : Seat (Option T) (Known T C)) (m : Me (Option T) (Known T C)) (i n k : ℕ) (x z : T)
      (bs : List (Visit T)) (ls : List Look)
      → p.me ≡ (caller m.0.site m.0.seat (suc m.0.turn) (value_in m.1) bs ls, rest m.1)
      → m.0 ≡ away m.0.site i n x m.0.visits m.0.looks → m.1 ≡ (i, Some z) ∷ [] → k ≡ suc n → i < p.table_id.slots
      → IsCaller p i k
  back_again p m i n k x z bs ls e knows has next within =
      let now : p.me.0 ≡ caller m.0.site m.0.seat (suc m.0.turn) (value_in m.1) bs ls = knows_same e in
      let seat : m.0.seat ≡ i = ap (λ (v : Known T C). v.seat) knows in
      let turn : suc m.0.turn ≡ k = ap (λ (v : Known T C). suc v.turn) knows ∙ sym next in
      let value : p.me.0.value ≡ Some z = ap (λ (v : Known T C). v.value) now ∙ ap value_in has in
      let here : p.me.0 ≡ caller m.0.site i k (value_in m.1) bs ls = now
      ∙ (λ l. caller m.0.site (seat l) (turn l) (value_in m.1) bs ls) in
      record {
        knows = here ∙ sym (ap (λ (v : Known T C). caller v.site i k v.value v.visits v.looks) here);
        has = holds_same e ∙ ap rest has;
        left = inr (z, value, within);
      }

  -- it is a caller again, which has left nothing
  pub idle_again : (p : Seat (Option T) (Known T C)) (m : Me (Option T) (Known T C)) (i : ℕ) (left : Option T)
      (bs : List (Visit T)) (ls : List Look) → p.me ≡ (idle m.0.site bs ls, rest m.1) → m.1 ≡ (i, left) ∷ []
      → IsCaller p 0 0
  idle_again p m i left bs ls e has = let now : p.me.0 ≡ idle m.0.site bs ls = knows_same e in record {
    knows = now ∙ sym (ap (λ (v : Known T C). caller v.site 0 0 v.value v.visits v.looks) now);
    has = holds_same e ∙ ap rest has;
    left = inl refl;
  }

  -- it left a value on a seat of the table
  pub left_within : (p : Seat (Option T) (Known T C)) (i n : ℕ) → IsCaller p i n → n ≢ 0 → i < p.table_id.slots
  left_within p i n is some = ⊎_elim (λ (e : n ≡ 0). absurd (some e))
      (λ (t : (x : T) × (p.me.0.value ≡ Some x) × (i < p.table_id.slots)). t.2) is.left

-- ---- looks

-- a caller that has looked once more, and found the word k on seat j
pub still_caller : {T C : Type 0} (p q : Seat (Option T) (Known T C)) (i n j k : ℕ) → q.table_id ≡ p.table_id
    → q.me ≡ (looking p.me.0 j k, p.me.1) → IsCaller p i n → IsCaller q i n
still_caller {T} {C} p q i n j k table e is = record {
  knows = subst (λ (v : Known T C). v ≡ caller v.site i n v.value v.visits v.looks) (sym (knows_same e))
      (ap (λ (v : Known T C). looking v j k) is.knows);
  has = holds_same e ∙ is.has;
  left = ⊎_elim inl (λ (t : (x : T) × (p.me.0.value ≡ Some x) × (i < p.table_id.slots)). inr (
    t.0,
    ap (λ (v : Known T C). v.value) (knows_same e) ∙ t.1,
    subst (λ (z : TableId). i < z.slots) (sym table) t.2,
  )) is.left;
}

pub found_first : (ls ms : List Look) (i n : ℕ) → HasFound ls i n → HasFound (ls ++ ms) i n
found_first [] ms i n found = absurd found
found_first (l ∷ ls) ms i n (inl e) = inl e
found_first (l ∷ ls) ms i n (inr h) = inr (found_first ls ms i n h)

pub found_last : (ls ms : List Look) (i n : ℕ) → HasFound ms i n → HasFound (ls ++ ms) i n
found_last [] ms i n found = found
found_last (l ∷ ls) ms i n found = inr (found_last ls ms i n found)

pub away_first : (ls ms : List Look) (i : ℕ) → FoundAway ls i → FoundAway (ls ++ ms) i
away_first ls ms i (inl t) = inl (t.0, found_first ls ms i t.0 t.1, t.2)
away_first ls ms i (inr t) =
    inr (t.0, t.1, found_first ls ms i t.0 t.2, found_first ls ms i t.1 t.3, t.4)

pub away_last : (ls ms : List Look) (i : ℕ) → FoundAway ms i → FoundAway (ls ++ ms) i
away_last ls ms i (inl t) = inl (t.0, found_last ls ms i t.0 t.1, t.2)
away_last ls ms i (inr t) = inr (t.0, t.1, found_last ls ms i t.0 t.2, found_last ls ms i t.1 t.3, t.4)

-- a number is below another one, or not
or_later : (a b : ℕ) → (a < b) ⊎ (b ≤ a)
or_later a zero = inr (omega arith)
or_later zero (suc b) = inl (omega arith)
or_later (suc a) (suc b) = ⊎_elim (λ (l : a < b). inl (omega (arith, l))) (λ (l : b ≤ a). inr (omega (arith, l)))
    (or_later a b)

-- a seat below `all` is one from `first` on, or one before it
pub in_one_part : (first least all i : ℕ) → (least ≡ first) ⊎ (least ≡ all) → i < all
    → ((first ≤ i) × (i < all)) ⊎ ((0 ≤ i) × (i < least))
in_one_part first least all i is below = ⊎_elim
    (λ (e : least ≡ first). ⊎_elim (λ (l : i < first). inr (omega arith, omega (arith, l, e)))
    (λ (l : first ≤ i). inl (l, below)) (or_later i first))
    (λ (e : least ≡ all). inr (omega arith, omega (arith, below, e)))
    is

pub in_next_part : (from seat i : ℕ) → (from ≤ i) × (i < seat + 1) → ((from ≤ i) × (i < seat)) ⊎ (i ≡ seat)
in_next_part from seat i t = let less = t.1 in ⊎_elim (λ (l : i < seat). inl (t.0, l))
    (λ (l : seat ≤ i). inr (omega (arith, l, less))) (or_later i seat)

-- what holds of an error
pub of_error : {A B : Type 0} (r : Result A B) (P Q : B → Type 0) → ((d : B) → P d → Q d) → IfErr r P → IfErr r Q
of_error (Ok a) P Q follows is = tt
of_error (Err d) P Q follows is = follows d is

module _ {T C : Type 0} where
  -- two rows of looks, one after the other
  pub looked_twice : (b d e : CallerView T C) (ls ms : List Look) → HasLooked b ls d → HasLooked d ms e
      → HasLooked b (ls ++ ms) e
  looked_twice b d e ls ms first second = second ∙ (ap (λ (v : CallerView T C). record v { looks = v.looks ++ ms })
      first
      ∙ ap (λ (l : List Look). record b { looks = l }) (append_assoc b.looks ls ms))

  -- first these seats were found away, and then those
  pub none_of_both : (b d e : CallerView T C) (P Q R : ℕ → Type 0) → NoneIsLent b P d → NoneIsLent d Q e
      → ((i : ℕ) → R i → P i ⊎ Q i) → NoneIsLent b R e
  none_of_both b d e P Q R first second which = record {
    looks = first.looks ++ second.looks;
    more = looked_twice b d e first.looks second.looks first.more second.more;
    each = λ i is. ⊎_elim (λ (p : P i). away_first first.looks second.looks i (first.each i p))
        (λ (q : Q i). away_last first.looks second.looks i (second.each i q)) (which i is);
  }

  -- fewer seats
  pub none_of_some : (b d : CallerView T C) (P Q : ℕ → Type 0) → ((i : ℕ) → Q i → P i) → NoneIsLent b P d
      → NoneIsLent b Q d
  none_of_some b d P Q fewer none = record {
    looks = none.looks;
    more = none.more;
    each = λ i is. none.each i (fewer i is);
  }

  pub none_yet : (b : CallerView T C) (P : ℕ → Type 0) → ((i : ℕ) → P i → ⊥) → NoneIsLent b P b
  none_yet b P never = record {
    looks = [];
    more = ap (λ (l : List Look). record b { looks = l }) (sym (append-nil b.looks));
    each = λ i is. absurd (never i is);
  }

  -- one look found it away
  pub away_at_once : (b d : CallerView T C) (i n : ℕ) → HasLooked b (look i n ∷ []) d → CannotBeLent n
      → NoneIsLent b (λ j. j ≡ i) d
  away_at_once b d i n more never = record {
    looks = look i n ∷ [];
    more = more;
    each = λ j is. subst (FoundAway (look i n ∷ [])) (sym is) (inl (n, inl refl, never));
  }

  -- a second look found another word
  pub away_then : (b d e : CallerView T C) (i n k : ℕ) → HasLooked b (look i n ∷ []) d → n ≡ sitting k
      → IsAnother d i k e → NoneIsLent b (λ j. j ≡ i) e
  away_then b d e i n k more is other = record {
    looks = look i n ∷ look i other.word ∷ [];
    more = looked_twice b d e (look i n ∷ []) (look i other.word ∷ []) more other.more;
    each = λ j same. subst (FoundAway (look i n ∷ look i other.word ∷ [])) (sym same)
        (inr (other.word, n, inr (inl refl), inl refl, λ e'. other.other (e' ∙ is)));
  }
