-- Each step on a seat keeps the rule of all seats.
use Rattle.std.proofs.Common.{◌≡◌, ◌≢◌, ℕ, zero, suc, ◌+◌, ◌*◌, ◌/◌, ◌%◌, ◌<◌, ◌≤◌, ◌⊎◌, div-add-mod', mod-lt, inl, inr, append_assoc, length-append, get_or-set_other, Bool, true, false, true≢false, eqb, List, [], ◌∷◌, ◌++◌, map, length, get_or, set, replicate, sym, refl, ap, ◌∙◌, subst, ⊎_elim, arith}
use mathlib.Core.Option.{none, some, some-ne-none, some-injective}
use mathlib.Core.Option as maybe
use mathlib.Core.Logic.{dite}
use native.Mathlib.Decide.{ℕ_discrete}
use prog.Atomic.{either}
use lib.ListN.{get_elem?}
use Rattle.std.specs.Prelude.{Option, Some, None, is_some}
use Rattle.atomic_table.specs.Table.{State, Me, step, Act, keeps, takes, gives, Allows, Enters, Joins, opening, Final, stepped, carried_after, Valid, rest}
use Rattle.atomic_table.proofs.Lists.{at_set, at_snoc, set_here, set_else, set_again, exchanged}
use Rattle.nm_lending.specs.declared.knowing.Known.{Known}
use Rattle.nm_lending.specs.declared.knowing.Visit.{Visit}
use Rattle.nm_lending.specs.Visits.{sitting, away_after, retired, value_in, Leads, Stays, On, Has, IsApart, IsApartFromAll, AreApart, InOrder, caller, idle, newcomer, gone, joined, away, MadeBy, HasLeft, Fits, Lent, came, looking, looked, showed, HasTaken, took, visited, gave_back, gave_up, AreSeated, AreResident}

-- ---- numbers and lists

even_is_odd : (n m : ℕ) → away_after n ≡ sitting m → ⊥
even_is_odd n m e = omega (arith, e)

odd_is_not_retired : (n : ℕ) → retired ≡ sitting n → ⊥
odd_is_not_retired n e = omega (arith, e)

-- a word with an odd number is of a sitting
pub odd_sits : (w : ℕ) → w % 2 ≢ 0 → w ≡ sitting (w / 2)
odd_sits w odd =
    let all = div-add-mod' w 2 in
    let low : w % 2 < 2 = mod-lt w (omega arith) in
    let q : ℕ = w / 2 in
    let r : ℕ = w % 2 in
    let all' : q * 2 + r ≡ w = all in
    let low' : r < 2 = low in
    let odd' : r ≢ 0 = odd in
    omega (arith, all', low', odd')

one_turn : (n m : ℕ) → sitting n ≡ sitting m → n ≡ m
one_turn n m e = omega (arith, e)

module _ {A : Type 0} where
  there : (l : List A) (i : ℕ) (a : A) → get_elem? l i ≡ some a → i < length l
  there [] i a e = absurd (some-ne-none a (sym e))
  there (x ∷ xs) zero a e = omega arith
  there (x ∷ xs) (suc i) a e = let more = there xs i a e in omega (arith, more)

  pub same_value : (x y : A) → Some x ≡ Some y → x ≡ y
  same_value x y e = cc

  pub no_value : (o : Option A) (x : A) → o ≡ None → o ≡ Some x → ⊥
  no_value o x e f = true≢false (ap is_some (sym f ∙ e))

found_there : (l : List ℕ) (i n : ℕ) → get_or l i 0 ≡ n → 0 < n → get_elem? l i ≡ some n
found_there [] i n e pos = absurd (omega (arith, e, pos))
found_there (x ∷ xs) zero n e pos = ap some e
found_there (x ∷ xs) (suc i) n e pos = found_there xs i n e pos

set_same : (l : List ℕ) (i : ℕ) → set l i (get_or l i 0) ≡ l
set_same [] i = refl
set_same (x ∷ xs) zero = refl
set_same (x ∷ xs) (suc i) = ap (λ (l : List ℕ). x ∷ l) (set_same xs i)

-- ---- visits

module _ {T : Type 0} where
  has_last : (bs : List (Visit T)) (b d : Visit T) → Has (bs ++ b ∷ []) d → Has bs d ⊎ (b ≡ d)
  has_last [] b d (inl e) = inr e
  has_last [] b d (inr h) = absurd h
  has_last (a ∷ ds) b d (inl e) = inl (inl e)
  has_last (a ∷ ds) b d (inr h) = ⊎_elim (λ t. inl (inr t)) inr (has_last ds b d h)

  has_new : (bs : List (Visit T)) (b : Visit T) → Has (bs ++ b ∷ []) b
  has_new [] b = inl refl
  has_new (a ∷ ds) b = inr (has_new ds b)

  has_first : (ds bs : List (Visit T)) (b : Visit T) → Has ds b → Has (ds ++ bs) b
  has_first (a ∷ ds) bs b (inl e) = inl e
  has_first (a ∷ ds) bs b (inr h) = inr (has_first ds bs b h)
  has_first [] bs b h = absurd h

  apart_from_last : (a : Visit T) (bs : List (Visit T)) (b : Visit T) → IsApartFromAll a bs → IsApart a b
      → IsApartFromAll a (bs ++ b ∷ [])
  apart_from_last a [] b all one = (one, tt)
  apart_from_last a (d ∷ ds) b all one = (all.0, apart_from_last a ds b all.1 one)

  apart_last : (bs : List (Visit T)) (b : Visit T) → AreApart bs → ((a : Visit T) → Has bs a → IsApart a b)
      → AreApart (bs ++ b ∷ [])
  apart_last [] b all each = (tt, tt)
  apart_last (a ∷ ds) b all each = (
    apart_from_last a ds b all.0 (each a (inl refl)),
    apart_last ds b all.1
        (λ d h. each d (inr h)),
  )

module _ {T : Type 0} where
  has_both : (as' bs : List (Visit T)) (d : Visit T) → Has (as' ++ bs) d → Has as' d ⊎ Has bs d
  has_both [] bs d h = inr h
  has_both (a ∷ ds) bs d (inl e) = inl (inl e)
  has_both (a ∷ ds) bs d (inr h) = ⊎_elim (λ t. inl (inr t)) inr (has_both ds bs d h)

  apart_from_both : (a : Visit T) (ds bs : List (Visit T)) → IsApartFromAll a ds
      → ((b : Visit T) → Has bs b → IsApart a b) → IsApartFromAll a (ds ++ bs)
  apart_from_both a [] [] all more = tt
  apart_from_both a [] (b ∷ bs) all more = (more b (inl refl), apart_from_both a [] bs tt (λ d h. more d (inr h)))
  apart_from_both a (d ∷ ds) bs all more = (all.0, apart_from_both a ds bs all.1 more)

  apart_both : (ds bs : List (Visit T)) → AreApart ds → AreApart bs
      → ((a b : Visit T) → Has ds a → Has bs b → IsApart a b) → AreApart (ds ++ bs)
  apart_both [] bs first second each = second
  apart_both (a ∷ ds) bs first second each = (
    apart_from_both a ds bs first.0
        (λ b h. each a b (inl refl) h),
    apart_both ds bs first.1 second (λ d b h l. each d b (inr h) l),
  )

-- the view j has the visits of k: it is the joint one, and k one of the two; or it is another one
abbrev IsFrom : ℕ → ℕ → ℕ → ℕ → Type 0
IsFrom id other j k = ((j ≡ id) × ((k ≡ id) ⊎ (k ≡ other))) ⊎ ((j ≡ k) × (j ≢ id) × (j ≢ other))

one_from : (id other j k l n : ℕ) → IsFrom id other j l → IsFrom id other k n → l ≡ n → j ≡ k
one_from id other j k l n (inl (x, a)) (inl (y, b)) e = x ∙ sym y
one_from id other j k l n (inl (x, inl a)) (inr (y, b, d)) e = absurd (b (y ∙ (sym e ∙ a)))
one_from id other j k l n (inl (x, inr a)) (inr (y, b, d)) e = absurd (d (y ∙ (sym e ∙ a)))
one_from id other j k l n (inr (x, a, b)) (inl (y, inl d)) e = absurd (a (x ∙ (e ∙ d)))
one_from id other j k l n (inr (x, a, b)) (inl (y, inr d)) e = absurd (b (x ∙ (e ∙ d)))
one_from id other j k l n (inr (x, a, b)) (inr (y, d, f)) e = x ∙ (e ∙ sym y)

-- ---- the rule

module _ {T C : Type 0} (resident : C → ℕ → ℕ → T → Type 0) (goes : C → T → T → Type 0) (c : C) where
  abbrev K : Type 0
  K = Known T C

  abbrev St : Type 0
  St = State (Option T) K

  abbrev Homes : Type 0
  Homes = List (maybe.Option (Option T))

  abbrev Rule : St → Type 0
  Rule = Lent resident goes c

  abbrev Here : Homes → ℕ → ℕ → Type 0
  Here homes i n = (x : T) × (get_elem? homes i ≡ some (some (Some x))) × resident c i n x

  abbrev after : St → ℕ → ℕ → ℕ → Homes → K → St
  after s i k id homes w = record { words = set s.words i k; homes = homes; views = set s.views id w }

  -- what is told of the seat itself, whatever visits were made
  record Changes (s : St) (i k id : ℕ) (homes : Homes) (w : K) : Type 0 where
    inside : i < length s.words
    others : (j : ℕ) → j ≢ i → get_elem? homes j ≡ get_elem? s.homes j
    seat : (n : ℕ) → k ≡ sitting n → Here homes i n
    site : (d : C) → w.site ≡ Some d → d ≡ c
    last : w.out ≡ false → (x : T) → w.value ≡ Some x → HasLeft w x
    own_out : w.out ≡ true → (w.seat ≡ i) × (k ≡ away_after w.turn)
    out : (j : ℕ) (u : K) → j ≢ id → get_elem? s.views j ≡ some u → u.out ≡ true → u.seat ≢ i

  module _ (s : St) (i k id : ℕ) (homes : Homes) (w : K) (r : Rule s) (ch : Changes s i k id homes w) where
    seats_after : (j n : ℕ) → get_elem? (set s.words i k) j ≡ some (sitting n) → Here homes j n
    seats_after j n e = ⊎_elim (λ (t : (j ≡ i) × (k ≡ sitting n)). subst (λ (l : ℕ). Here homes l n) (sym t.0)
        (ch.seat n t.1))
        (λ (t : (j ≢ i) × (get_elem? s.words j ≡ some (sitting n))). let old = r.seats j n t.1 in
        (old.0, ch.others j t.0 ∙ old.1, old.2)) (at_set s.words i j k (sitting n) e)

    known_after : (j : ℕ) (u : K) → get_elem? (set s.views id w) j ≡ some u → Fits c (after s i k id homes w) u
    known_after j u e = ⊎_elim
        (λ (t : (j ≡ id) × (w ≡ u)). subst (Fits c (after s i k id homes w)) t.1 (record {
          site = ch.site;
          out = λ o. let at = ch.own_out o in ap (get_elem? (set s.words i k)) at.0
              ∙ (set_here s.words i k ch.inside ∙ ap some at.1);
          last = ch.last;
        }))
        (λ (t : (j ≢ id) × (get_elem? s.views j ≡ some u)). let old = r.known j u t.1 in record {
          site = old.site;
          out = λ o. set_else s.words i u.seat k (ch.out j u t.0 t.1 o) ∙ old.out o;
          last = old.last;
        })
        (at_set s.views id j w u e)

    alone_after : (j l : ℕ) (v u : K) → get_elem? (set s.views id w) j ≡ some v
        → get_elem? (set s.views id w) l ≡ some u → v.out ≡ true → u.out ≡ true → v.seat ≡ u.seat → j ≡ l
    alone_after j l v u ve ue vo uo same = ⊎_elim
        (λ (a : (j ≡ id) × (w ≡ v)). ⊎_elim
        (λ (b : (l ≡ id) × (w ≡ u)). a.0 ∙ sym b.0)
        (λ (b : (l ≢ id) × (get_elem? s.views l ≡ some u)). absurd
        (ch.out l u b.0 b.1 uo (sym same ∙ (ap (λ (y : K). y.seat) (sym a.1)
        ∙ (ch.own_out (ap (λ (y : K). y.out) a.1 ∙ vo)).0))))
        (at_set s.views id l w u ue))
        (λ (a : (j ≢ id) × (get_elem? s.views j ≡ some v)). ⊎_elim
        (λ (b : (l ≡ id) × (w ≡ u)). absurd (ch.out j v a.0 a.1 vo
        (same ∙ (ap (λ (y : K). y.seat) (sym b.1) ∙ (ch.own_out (ap (λ (y : K). y.out) b.1 ∙ uo)).0))))
        (λ (b : (l ≢ id) × (get_elem? s.views l ≡ some u)). r.alone j l v u a.1 b.1 vo uo same)
        (at_set s.views id l w u ue))
        (at_set s.views id j w v ve)

  -- ---- a caller that comes

  pub comes : (slots i : ℕ) → Enters Rule slots i (λ n w. came (step slots i 0 0 none) (newcomer c, []) n (w, []))
  comes slots i s r wide small = (
    newcomer c,
    record {
      seats = r.seats;
      known = known;
      alone = alone;
      at_home = λ j b m. r.at_home j b
          (old j b m);
      away_from = away_from;
      chain = λ j k a b m l. r.chain j k a b (old j a m)
          (old k b l);
      once = λ j k a b m l. r.once j k a b (old j a m) (old k b l);
      each = each;
    },
    refl,
  )
    where
      views : List K
      views = s.views ++ newcomer c ∷ []

      next : St
      next = record { words = s.words; homes = s.homes; views = views }

      known : (j : ℕ) (u : K) → get_elem? views j ≡ some u → Fits c next u
      known j u e = ⊎_elim (λ (t : get_elem? s.views j ≡ some u). let f = r.known j u t in
          record { site = f.site; out = f.out; last = f.last }) (λ (t : newcomer c ≡ u). subst (Fits c next) t
          (record {
            site = λ d e. sym (same_value c d e);
            out = λ o. absurd (true≢false (sym o));
            last = λ o x is. absurd (no_value None x refl is);
          }))
          (at_snoc s.views (newcomer c) u j e)

      here : (j : ℕ) (u : K) → get_elem? views j ≡ some u → u.out ≡ true → get_elem? s.views j ≡ some u
      here j u e o = ⊎_elim (λ (t : get_elem? s.views j ≡ some u). t)
          (λ (t : newcomer c ≡ u). absurd (true≢false (sym o ∙ ap (λ (y : K). y.out) (sym t))))
          (at_snoc s.views (newcomer c) u j e)

      alone : (j l : ℕ) (v u : K) → get_elem? views j ≡ some v → get_elem? views l ≡ some u → v.out ≡ true
          → u.out ≡ true → v.seat ≡ u.seat → j ≡ l
      alone j l v u ve ue vo uo same = r.alone j l v u (here j v ve vo) (here l u ue uo) vo uo same

      old : (j : ℕ) (b : Visit T) → MadeBy views j b → MadeBy s.views j b
      old j b m = ⊎_elim (λ (t : get_elem? s.views j ≡ some m.0). (m.0, t, m.2))
          (λ (t : newcomer c ≡ m.0). absurd (subst (λ (v : K). Has v.visits b) (sym t) m.2))
          (at_snoc s.views (newcomer c) m.0 j m.1)

      away_from : (j : ℕ) (b : Visit T) → MadeBy views j b → (k : ℕ) (v : K) (x : T) → get_elem? views k ≡ some v
          → v.out ≡ true → v.value ≡ Some x → b.seat ≡ v.seat → (b.turn < v.turn) × Leads (goes c) b.left x
      away_from j b m k v x e o is same = r.away_from j b (old j b m) k v x (here k v e o) o is same

      each : (j : ℕ) (v : K) → get_elem? views j ≡ some v → AreApart v.visits
      each j v e = ⊎_elim (λ (t : get_elem? s.views j ≡ some v). r.each j v t)
          (λ (t : newcomer c ≡ v). subst (λ (u : K). AreApart u.visits) t tt) (at_snoc s.views (newcomer c) v j e)

  -- ---- a caller looks at a seat

  module _ (s : St) (r : Rule s) (id i n : ℕ) (v : K) (at : get_elem? s.views id ≡ some v) where
    abbrev looked_views : List K
    looked_views = set s.views id (looking v i n)

    abbrev looked_next : St
    looked_next = record { words = s.words; homes = s.homes; views = looked_views }

    -- each caller was there before, with other looks
    record WasThere (j : ℕ) (u : K) : Type 0 where
      was : K
      here : get_elem? s.views j ≡ some was
      rest : u ≡ record was { looks = u.looks }

    was_there : (j : ℕ) (u : K) → get_elem? looked_views j ≡ some u → WasThere j u
    was_there j u e = ⊎_elim
        (λ (t : (j ≡ id) × (looking v i n ≡ u)). record {
          was = v;
          here = ap (get_elem? s.views) t.0 ∙ at;
          rest = subst (λ (z : K). z ≡ record v { looks = z.looks }) t.1 refl;
        })
        (λ (t : (j ≢ id) × (get_elem? s.views j ≡ some u)). record { was = u; here = t.1; rest = refl })
        (at_set s.views id j (looking v i n) u e)

    old_look : (j : ℕ) (b : Visit T) → MadeBy looked_views j b → MadeBy s.views j b
    old_look j b m = let o = was_there j m.0 m.1 in
        (o.was, o.here, subst (λ (z : K). Has z.visits b) o.rest m.2)

    fits_still : (u : K) (w : K) → u ≡ record w { looks = u.looks } → Fits c s w → Fits c looked_next u
    fits_still u w e f = subst (Fits c looked_next) (sym e) (record {
      site = f.site;
      out = f.out;
      last = λ o x is. let l = f.last o x is in
          record { visit = l.visit; its = l.its; seat = l.seat; turn = l.turn; left = l.left };
    })

    looked_rule : Rule looked_next
    looked_rule = record {
      seats = r.seats;
      known = λ j u e. let o = was_there j u e in fits_still u o.was o.rest (r.known j o.was o.here);
      alone = λ j l a b ae be ao bo same. let o = was_there j a ae in let p = was_there l b be in
          r.alone j l o.was p.was o.here p.here (sym (ap (λ (z : K). z.out) o.rest) ∙ ao)
          (sym (ap (λ (z : K). z.out) p.rest) ∙ bo)
          (sym (ap (λ (z : K). z.seat) o.rest) ∙ (same ∙ ap (λ (z : K). z.seat) p.rest));
      at_home = λ j b m. r.at_home j b (old_look j b m);
      away_from = λ j b m k u x e out is same. let o = was_there k u e in
          subst (λ (l : ℕ). (b.turn < l) × Leads (goes c) b.left x) (sym (ap (λ (z : K). z.turn) o.rest))
          (r.away_from j b (old_look j b m) k o.was x o.here (sym (ap (λ (z : K). z.out) o.rest) ∙ out)
          (sym (ap (λ (z : K). z.value) o.rest) ∙ is) (same ∙ ap (λ (z : K). z.seat) o.rest));
      chain = λ j k a b m l. r.chain j k a b (old_look j a m) (old_look k b l);
      once = λ j k a b m l. r.once j k a b (old_look j a m) (old_look k b l);
      each = λ j u e. let o = was_there j u e in subst (λ (z : K). AreApart z.visits) (sym o.rest)
          (r.each j o.was o.here);
    }

  -- a word is read, and stays
  abbrev Reads : St → ℕ → ℕ → Me (Option T) K → (ℕ → Me (Option T) K → Type 0) → Type 0
  Reads s id i m told = (w : K) × (a : Act (Option T)) × Valid s.homes m.1 a
      × Rule (stepped s i (get_or s.words i 0) id m.1 w a) × told (get_or s.words i 0) (w, carried_after m.1 a)

  reads : (s : St) (r : Rule s) (id i : ℕ) (m : Me (Option T) K) (told : ℕ → Me (Option T) K → Type 0)
      → get_elem? s.views id ≡ some m.0
      → told (get_or s.words i 0) (looking m.0 i (get_or s.words i 0), m.1) → Reads s id i m told
  reads s r id i m told at then = (
    looking m.0 i (get_or s.words i 0),
    keeps,
    tt,
    subst (λ (ws : List ℕ). Rule (record {
      words = ws;
      homes = s.homes;
      views = set s.views id (looking m.0 i (get_or s.words i 0));
    })) (sym (set_same s.words i)) (looked_rule s r id i (get_or s.words i 0) m.0 at),
    then,
  )

  pub looks : (slots id i : ℕ) (m : Me (Option T) K)
      → Allows Rule slots id m i (λ n. n) (looked (step slots i 0 0 none) m)
  looks slots id i m s r wide at small = reads s r id i m (looked (step slots i 0 0 none) m) at refl

  -- ---- a seat has no value now

  module _ (s : St) (i k id : ℕ) (homes : Homes) (v w : K) (r : Rule s) (at : get_elem? s.views id ≡ some v)
      (ch : Changes s i k id homes w) (same : w.visits ≡ v.visits) (empty : (m : ℕ) → k ≡ sitting m → ⊥)
      (own : (j : ℕ) (b : Visit T) (y : T) → MadeBy s.views j b → w.out ≡ true → w.value ≡ Some y → b.seat ≡ w.seat
      → (b.turn < w.turn) × Leads (goes c) b.left y) where
    old_visit : (j : ℕ) (b : Visit T) → MadeBy (set s.views id w) j b → MadeBy s.views j b
    old_visit j b m = ⊎_elim
        (λ (t : (j ≡ id) × (w ≡ m.0)). (
          v,
          ap (get_elem? s.views) t.0
              ∙ at,
          subst (λ (l : List (Visit T)). Has l b) (ap (λ (u : K). u.visits) (sym t.1) ∙ same) m.2,
        ))
        (λ (t : (j ≢ id) × (get_elem? s.views j ≡ some m.0)). (m.0, t.1, m.2))
        (at_set s.views id j w m.0 m.1)

    home_then : (j : ℕ) (b : Visit T) → MadeBy (set s.views id w) j b → (m : ℕ) (y : T)
        → get_elem? (set s.words i k) b.seat ≡ some (sitting m)
        → get_elem? homes b.seat ≡ some (some (Some y))
        → (b.turn < m) × Leads (goes c) b.left y × (m ≡ suc b.turn → y ≡ b.left)
    home_then j b made m y word found = ⊎_elim
        (λ (t : (b.seat ≡ i) × (k ≡ sitting m)). absurd (empty m t.1))
        (λ (t : (b.seat ≢ i) × (get_elem? s.words b.seat ≡ some (sitting m))). r.at_home j b
        (old_visit j b made) m y t.1 (sym (ch.others b.seat t.0) ∙ found))
        (at_set s.words i b.seat k (sitting m) word)

    away_then : (j : ℕ) (b : Visit T) → MadeBy (set s.views id w) j b → (l : ℕ) (u : K) (y : T)
        → get_elem? (set s.views id w) l ≡ some u → u.out ≡ true → u.value ≡ Some y → b.seat ≡ u.seat
        → (b.turn < u.turn) × Leads (goes c) b.left y
    away_then j b made l u y e o is seat = ⊎_elim
        (λ (t : (l ≡ id) × (w ≡ u)). subst (λ (z : K). (b.turn < z.turn) × Leads (goes c) b.left y) t.1
        (own j b y (old_visit j b made) (ap (λ (z : K). z.out) t.1 ∙ o) (ap (λ (z : K). z.value) t.1 ∙ is)
        (seat ∙ ap (λ (z : K). z.seat) (sym t.1))))
        (λ (t : (l ≢ id) × (get_elem? s.views l ≡ some u)). r.away_from j b (old_visit j b made) l u y t.1 o is seat)
        (at_set s.views id l w u e)

    each_then : (j : ℕ) (u : K) → get_elem? (set s.views id w) j ≡ some u → AreApart u.visits
    each_then j u e = ⊎_elim
        (λ (t : (j ≡ id) × (w ≡ u)). subst (λ (z : K). AreApart z.visits) t.1
        (subst AreApart (sym same) (r.each id v at)))
        (λ (t : (j ≢ id) × (get_elem? s.views j ≡ some u)). r.each j u t.1)
        (at_set s.views id j w u e)

    emptied : Rule (after s i k id homes w)
    emptied = record {
      seats = seats_after s i k id homes w r ch;
      known = known_after s i k id homes w r ch;
      alone = alone_after s i k id homes w r ch;
      at_home = home_then;
      away_from = away_then;
      chain = λ j l a b m n. r.chain j l a b (old_visit j a m) (old_visit l b n);
      once = λ j l a b m n. r.once j l a b (old_visit j a m) (old_visit l b n);
      each = each_then;
    }

  -- ---- a value is borrowed

  module _ (s : St) (r : Rule s) (i n id : ℕ) (v : K) (x : T) (here : get_elem? s.words i ≡ some (sitting n))
      (at : get_elem? s.views id ≡ some v) (home : get_elem? s.homes i ≡ some (some (Some x))) where
    abbrev w_then : K
    w_then = away v.site i n x v.visits v.looks

    takes_seat : Changes s i (sitting n + 1) id (set s.homes i none) w_then
    takes_seat = record {
      inside = there s.words i (sitting n) here;
      others = λ j apart. set_else s.homes i j none apart;
      seat = λ m e. absurd (even_is_odd n m (omega (arith, e)));
      site = (r.known id v at).site;
      last = λ o. absurd (true≢false o);
      own_out = λ o. (refl, omega arith);
      out = λ j u apart ue o same. let eq = some-injective (away_after u.turn) (sitting n)
          (sym ((r.known j u ue).out o) ∙ (ap (get_elem? s.words) same ∙ here)) in even_is_odd u.turn n eq;
    }

    -- an earlier visit to this seat
    earlier : (j : ℕ) (b : Visit T) → MadeBy s.views j b → b.seat ≡ i
        → (b.turn < n) × Leads (goes c) b.left x × (n ≡ suc b.turn → x ≡ b.left)
    earlier j b m same = r.at_home j b m n x (ap (get_elem? s.words) same ∙ here) (ap (get_elem? s.homes) same ∙ home)

    taken : Rule (after s i (sitting n + 1) id (set s.homes i none) w_then)
    taken = emptied s i (sitting n + 1) id (set s.homes i none) v w_then r at takes_seat refl
        (λ m e. even_is_odd n m (omega (arith, e)))
        (λ j b y m o is same. let told = earlier j b m same in
        (told.0, subst (Leads (goes c) b.left) (same_value x y is) told.1))

    has_taken : resident c i n x → HasTaken resident v i n x
    has_taken fits = record {
      here = λ d e. subst (λ (z : C). resident z i n x) (sym ((r.known id v at).site d e)) fits;
      same = λ y in' is seat turn.
          let left = (r.known id v at).last in' y is in
          (earlier id left.visit (v, at, left.its) (left.seat ∙ seat)).2 (sym (left.turn ∙ turn)) ∙ left.left;
    }

  pub takes_value : (slots id i old : ℕ) (m : Me (Option T) K) → (n : ℕ) → old ≡ sitting n
      → Allows Rule slots id m i (λ y. either (eqb y old) (old + 1) y)
      (took resident (step slots i old (old + 1) none) m)
  takes_value slots id i old m n is s r wide at small =
      let y : ℕ = get_or s.words i 0 in
      let told : ℕ → Me (Option T) K → Type 0 = took resident (step slots i old (old + 1) none) m in
      exchanged y old (old + 1) (λ (z : ℕ). (w : K) × (a : Act (Option T)) × Valid s.homes m.1 a × Rule
      (stepped s i z id m.1 w a) × told y (w, carried_after m.1 a))
      (λ hit.
      let here : get_elem? s.words i ≡ some (sitting n) = found_there s.words i (sitting n) (hit ∙ is) (omega arith) in
      let on = r.seats i n here in
      let w : K = away m.0.site i n on.0 m.0.visits m.0.looks in
      let P : ℕ → Type 0 = λ (l : ℕ). (x : T) × ((w, (i, Some on.0) ∷ m.1) ≡
      (away m.0.site i l x m.0.visits m.0.looks, (i, Some x) ∷ m.1)) × HasTaken resident m.0 i l x in (
        w,
        takes i (Some on.0),
        on.1,
        subst (λ (k : ℕ). Rule (after s i (k + 1) id (set s.homes i none) w)) (sym is)
            (taken s r i n id m.0 on.0 here at on.1),
        (
          (λ _ l eq. subst P (one_turn n l (sym is ∙ eq))
              (on.0, refl, has_taken s r i n id m.0 on.0 here at on.1 on.2)),
          λ miss. absurd
              (miss hit),
        ),
      ))
      (λ miss. reads s r id i m told at ((λ hit. absurd (miss hit)), λ _. refl))

  -- ---- it is given back

  module _ (s : St) (r : Rule s) (i n id : ℕ) (v : K) (x z : T) (bs : List (Visit T))
      (knows : v ≡ away v.site i n x bs v.looks) (at : get_elem? s.views id ≡ some v) (within : i < length s.homes)
      (fits : resident c i (suc n) z) (on : goes c x z) where
    abbrev homes_back : Homes
    homes_back = set s.homes i (some (Some z))

    abbrev visit : Visit T
    visit = record { seat = i; turn = n; was = x; left = z }

    abbrev w_back : K
    w_back = caller v.site i (suc n) (Some z) (bs ++ visit ∷ []) v.looks

    abbrev k_back : ℕ
    k_back = sitting (suc n)

    is_out : v.out ≡ true
    is_out = ap (λ (u : K). u.out) knows

    in_seat : v.seat ≡ i
    in_seat = ap (λ (u : K). u.seat) knows

    in_turn : v.turn ≡ n
    in_turn = ap (λ (u : K). u.turn) knows

    in_hand : v.value ≡ Some x
    in_hand = ap (λ (u : K). u.value) knows

    its_visits : v.visits ≡ bs
    its_visits = ap (λ (u : K). u.visits) knows

    word : get_elem? s.words i ≡ some (away_after n)
    word = ap (get_elem? s.words) (sym in_seat) ∙ ((r.known id v at).out is_out
        ∙ ap (λ (l : ℕ). some (away_after l)) in_turn)

    home_back : get_elem? homes_back i ≡ some (some (Some z))
    home_back = set_here s.homes i (some (Some z)) within

    gives_seat : Changes s i k_back id homes_back w_back
    gives_seat = record {
      inside = there s.words i (away_after n) word;
      others = λ j apart. set_else s.homes i j (some (Some z)) apart;
      seat = λ m e. (z, home_back, subst (λ (l : ℕ). resident c i l z) (one_turn (suc n) m e) fits);
      site = (r.known id v at).site;
      last = λ o y is. record
          { visit = visit; its = has_new bs visit; seat = refl; turn = refl; left = same_value z y is };
      own_out = λ o. absurd (true≢false (sym o));
      out = λ j u apart ue o same. apart (r.alone j id u v ue at o is_out (same ∙ sym in_seat));
    }

    -- an earlier visit, or this one
    abbrev IsOld : ℕ → Visit T → Type 0
    IsOld j b = MadeBy s.views j b ⊎ ((j ≡ id) × (visit ≡ b))

    made : (j : ℕ) (b : Visit T) → MadeBy (set s.views id w_back) j b → IsOld j b
    made j b m = ⊎_elim
        (λ (t : (j ≡ id) × (w_back ≡ m.0)). ⊎_elim
        (λ (h : Has bs b). inl (
          v,
          ap (get_elem? s.views) t.0
              ∙ at,
          subst (λ (l : List (Visit T)). Has l b) (sym its_visits) h,
        ))
        (λ (e : visit ≡ b). inr (t.0, e))
        (has_last bs visit b (subst (λ (u : K). Has u.visits b) (sym t.1) m.2)))
        (λ (t : (j ≢ id) × (get_elem? s.views j ≡ some m.0)). inl (m.0, t.1, m.2))
        (at_set s.views id j w_back m.0 m.1)

    -- an earlier visit to this seat
    before : (j : ℕ) (b : Visit T) → MadeBy s.views j b → b.seat ≡ i → (b.turn < n) × Leads (goes c) b.left x
    before j b m same = let told = r.away_from j b m id v x at is_out in_hand (same ∙ sym in_seat) in
        (subst (λ (l : ℕ). b.turn < l) in_turn told.0, told.1)

    home_then_back : (j : ℕ) (b : Visit T) → MadeBy (set s.views id w_back) j b → (m : ℕ) (y : T)
        → get_elem? (set s.words i k_back) b.seat ≡ some (sitting m)
        → get_elem? homes_back b.seat ≡ some (some (Some y))
        → (b.turn < m) × Leads (goes c) b.left y × (m ≡ suc b.turn → y ≡ b.left)
    home_then_back j b new m y at_word found = ⊎_elim
        (λ (t : (b.seat ≡ i) × (k_back ≡ sitting m)).
        let turn : suc n ≡ m = one_turn (suc n) m t.1 in
        let value : z ≡ y = same_value z y (some-injective (Some z) (Some y)
        (some-injective (some (Some z)) (some (Some y))
        (sym home_back ∙ (ap (get_elem? homes_back) (sym t.0) ∙ found)))) in
        ⊎_elim
        (λ (o : MadeBy s.views j b). let told = before j b o t.0 in let low = told.0 in (
          omega (arith, low, turn),
          subst (Leads (goes c) b.left) value (On x z told.1 on),
          λ next. absurd (omega (arith, low, turn, next)),
        ))
        (λ (e : (j ≡ id) × (visit ≡ b)). let same : n ≡ b.turn = ap (λ (d : Visit T). d.turn) e.1 in (
          omega (arith, same, turn),
          subst (λ (d : Visit T). Leads (goes c) d.left y) e.1
              (subst (Leads (goes c) z) value Stays),
          λ _. sym value ∙ ap (λ (d : Visit T). d.left) e.1,
        ))
        (made j b new))
        (λ (t : (b.seat ≢ i) × (get_elem? s.words b.seat ≡ some (sitting m))). ⊎_elim
        (λ (o : MadeBy s.views j b). r.at_home j b o m y t.1
        (sym (set_else s.homes i b.seat (some (Some z)) t.0) ∙ found))
        (λ (e : (j ≡ id) × (visit ≡ b)). absurd (t.0 (ap (λ (d : Visit T). d.seat) (sym e.1))))
        (made j b new))
        (at_set s.words i b.seat k_back (sitting m) at_word)

    away_then_back : (j : ℕ) (b : Visit T) → MadeBy (set s.views id w_back) j b → (k : ℕ) (u : K) (y : T)
        → get_elem? (set s.views id w_back) k ≡ some u → u.out ≡ true → u.value ≡ Some y → b.seat ≡ u.seat
        → (b.turn < u.turn) × Leads (goes c) b.left y
    away_then_back j b new k u y e o is same = ⊎_elim
        (λ (t : (k ≡ id) × (w_back ≡ u)). absurd (true≢false (sym o ∙ ap (λ (d : K). d.out) (sym t.1))))
        (λ (t : (k ≢ id) × (get_elem? s.views k ≡ some u)). ⊎_elim
        (λ (m : MadeBy s.views j b). r.away_from j b m k u y t.1 o is same)
        (λ (q : (j ≡ id) × (visit ≡ b)). absurd (t.0
        (r.alone k id u v t.1 at o is_out (sym same ∙ (ap (λ (d : Visit T). d.seat) (sym q.1) ∙ sym in_seat)))))
        (made j b new))
        (at_set s.views id k w_back u e)

    chain_back : (j k : ℕ) (a b : Visit T) → MadeBy (set s.views id w_back) j a → MadeBy (set s.views id w_back) k b
        → InOrder (goes c) a b
    chain_back j k a b l m same less = ⊎_elim
        (λ (o : MadeBy s.views j a). ⊎_elim
        (λ (p : MadeBy s.views k b). r.chain j k a b o p same less)
        (λ (q : (k ≡ id) × (visit ≡ b)). subst (λ (d : Visit T). Leads (goes c) a.left d.was) q.1
        (before j a o (same ∙ ap (λ (d : Visit T). d.seat) (sym q.1))).1)
        (made k b m))
        (λ (o : (j ≡ id) × (visit ≡ a)).
        let first : n ≡ a.turn = ap (λ (d : Visit T). d.turn) o.1 in
        ⊎_elim
        (λ (p : MadeBy s.views k b). let low = (before k b p (sym same ∙ ap (λ (d : Visit T). d.seat) (sym o.1))).0
        in absurd (omega (arith, less, first, low)))
        (λ (q : (k ≡ id) × (visit ≡ b)). let second : n ≡ b.turn = ap (λ (d : Visit T). d.turn) q.1 in
        absurd (omega (arith, less, first, second)))
        (made k b m))
        (made j a l)

    once_back : (j k : ℕ) (a b : Visit T) → MadeBy (set s.views id w_back) j a → MadeBy (set s.views id w_back) k b
        → a.seat ≡ b.seat → a.turn ≡ b.turn → j ≡ k
    once_back j k a b l m same turn = ⊎_elim
        (λ (o : MadeBy s.views j a). ⊎_elim
        (λ (p : MadeBy s.views k b). r.once j k a b o p same turn)
        (λ (q : (k ≡ id) × (visit ≡ b)). let low =
        (before j a o (same ∙ ap (λ (d : Visit T). d.seat) (sym q.1))).0 in
        let second : n ≡ b.turn = ap (λ (d : Visit T). d.turn) q.1 in absurd (omega (arith, low, second, turn)))
        (made k b m))
        (λ (o : (j ≡ id) × (visit ≡ a)). ⊎_elim
        (λ (p : MadeBy s.views k b). let low = (before k b p (sym same ∙ ap (λ (d : Visit T). d.seat) (sym o.1))).0
        in let first : n ≡ a.turn = ap (λ (d : Visit T). d.turn) o.1 in absurd (omega (arith, low, first, turn)))
        (λ (q : (k ≡ id) × (visit ≡ b)). o.0 ∙ sym q.0)
        (made k b m))
        (made j a l)

    each_back : (j : ℕ) (u : K) → get_elem? (set s.views id w_back) j ≡ some u → AreApart u.visits
    each_back j u e = ⊎_elim
        (λ (t : (j ≡ id) × (w_back ≡ u)). subst (λ (d : K). AreApart d.visits) t.1
        (apart_last bs visit (subst AreApart its_visits (r.each id v at))
        (λ a h seat turn. let low = (before id a
        (v, at, subst (λ (l : List (Visit T)). Has l a) (sym its_visits) h) seat).0 in omega (arith, low, turn))))
        (λ (t : (j ≢ id) × (get_elem? s.views j ≡ some u)). r.each j u t.1)
        (at_set s.views id j w_back u e)

    given : Rule (after s i k_back id homes_back w_back)
    given = record {
      seats = seats_after s i k_back id homes_back w_back r gives_seat;
      known = known_after s i k_back id homes_back w_back r gives_seat;
      alone = alone_after s i k_back id homes_back w_back r gives_seat;
      at_home = home_then_back;
      away_from = away_then_back;
      chain = chain_back;
      once = once_back;
      each = each_back;
    }

  pub gives_value : (slots id i n k : ℕ) (m : Me (Option T) K) (x z : T) (bs : List (Visit T)) → i < slots
      → k ≡ sitting (suc n) → m.0 ≡ away m.0.site i n x bs m.0.looks → m.1 ≡ (i, Some z) ∷ [] → resident c i (suc n) z
      → goes c x z → Allows Rule slots id m i (λ _. k) (λ _. gave_back (step slots i k 0 none) m k)
  gives_value slots id i n k m x z bs within is knows has here on s r wide at small =
      let visit : Visit T = record { seat = i; turn = n; was = x; left = z } in
      let w : K = caller m.0.site i (suc n) (Some z) (bs ++ visit ∷ []) m.0.looks in
      let homes : Homes = set s.homes i (some (Some z)) in
      let new = given s r i n id m.0 x z bs knows at (omega (arith, within, wide)) here on in
      let new' : Rule (after s i k id homes w) = subst (λ (l : ℕ). Rule (after s i l id homes w)) (sym is) new in
      let value : value_in m.1 ≡ Some z = ap value_in has in
      let same : visited m.0 m.0.value (value_in m.1) ≡ bs ++ visit ∷ [] = ap
      (λ (u : K). visited u u.value (value_in m.1)) knows
      ∙ ap (λ (o : Option T). visited (away m.0.site i n x bs m.0.looks) (Some x) o) value in
      let seat : m.0.seat ≡ i = ap (λ (u : K). u.seat) knows in
      let turn : m.0.turn ≡ n = ap (λ (u : K). u.turn) knows in (
        w,
        gives,
        tt,
        subst (λ (c' : List (ℕ × Option T)). Rule (stepped s i k id c' w gives)) (sym has) new',
        λ l. (caller m.0.site (sym seat l) (suc (sym turn l)) (sym value l) (sym same l) m.0.looks, rest m.1),
      )

  -- ---- it does not come back

  pub gives_up : (slots id i n : ℕ) (m : Me (Option T) K) (x : T) (left : Option T) → i < slots
      → m.0 ≡ away m.0.site i n x m.0.visits m.0.looks → m.1 ≡ (i, left) ∷ []
      → Allows Rule slots id m i (λ _. retired) (λ _. gave_up (step slots i retired 0 none) m retired)
  gives_up slots id i n m x left within knows has s r wide at small =
      let own = r.known id m.0 at in
      let out : m.0.out ≡ true = ap (λ (v : K). v.out) knows in
      let seat : m.0.seat ≡ i = ap (λ (v : K). v.seat) knows in
      let turn : m.0.turn ≡ n = ap (λ (v : K). v.turn) knows in
      let word : get_elem? s.words i ≡ some (away_after n) = ap (get_elem? s.words) (sym seat)
      ∙ (own.out out ∙ ap (λ (l : ℕ). some (away_after l)) turn) in
      let homes : Homes = set s.homes i (some left) in
      let w : K = idle m.0.site m.0.visits m.0.looks in
      let ch : Changes s i retired id homes w = record {
        inside = there s.words i (away_after n) word;
        others = λ j apart. set_else s.homes i j (some left) apart;
        seat = λ l e. absurd (odd_is_not_retired l e);
        site = own.site;
        last = λ o y is. absurd (no_value None y refl is);
        own_out = λ o. absurd (true≢false (sym o));
        out = λ j u apart ue o same. apart (r.alone j id u m.0 ue at o out (same ∙ sym seat));
      } in
      let given = emptied s i retired id homes m.0 w r at ch refl odd_is_not_retired
      (λ j b y _ o. absurd (true≢false (sym o))) in (
        w,
        gives,
        tt,
        subst (λ (c' : List (ℕ × Option T)). Rule (stepped s i retired id c' w gives)) (sym has) given,
        refl,
      )

  -- ---- a caller is shown its visits

  pub shows : (slots id i : ℕ) (m : Me (Option T) K)
      → Allows Rule slots id m i (λ n. n) (showed goes (step slots i 0 0 none) m)
  shows slots id i m s r wide at small =
      let site = (r.known id m.0 at).site in (
        m.0,
        keeps,
        tt,
        subst Rule (λ k. record {
          words = sym (set_same s.words i) k;
          homes = s.homes;
          views = sym
              (set_again s.views id m.0 at) k;
        }) r,
        (
          refl,
          r.each id m.0 at,
          λ d e a b h l. subst (λ (z : C). InOrder (goes z) a b) (sym (site d e))
              (r.chain id id a b (m.0, at, h) (m.0, at, l)),
        ),
      )

  -- ---- a caller takes over the visits of another one

  pub joins : (id other : ℕ) (v w : K) → v.out ≡ false → w.out ≡ false → Joins Rule id v other w (joined v w) gone
  joins id other v w v_in w_in s r at apart at' = record {
    seats = r.seats;
    known = λ j u e. by j u e (λ (z : K). Fits c next z)
        (record {
          site = (r.known id v at).site;
          out = λ o. absurd (true≢false (sym o));
          last = λ _ x is. let l = (r.known id v at).last v_in x is in record {
            visit = l.visit;
            its = has_first v.visits w.visits l.visit l.its;
            seat = l.seat;
            turn = l.turn;
            left = l.left;
          };
        })
        (record {
          site = λ d e'. absurd (no_value None d refl e');
          out = λ o. absurd (true≢false (sym o));
          last = λ _ x is. absurd (no_value None x refl is);
        })
        (λ _ _ t. let f = r.known j u t in record { site = f.site; out = f.out; last = f.last });
    alone = λ j l a b ae be ao bo same. r.alone j l a b (here j a ae ao) (here l b be bo) ao bo same;
    at_home = λ j b m. let o = made j b m in r.at_home o.0 b o.1;
    away_from = λ j b m k u x e out. let o = made j b m in r.away_from o.0 b o.1 k u x (here k u e out) out;
    chain = λ j k a b m l. let o = made j a m in let p = made k b l in r.chain o.0 p.0 a b o.1 p.1;
    once = λ j k a b m l same turn. let o = made j a m in let p = made k b l in
        one_from id other j k o.0 p.0 (made_is j a m) (made_is k b l) (r.once o.0 p.0 a b o.1 p.1 same turn);
    each = λ j u e. by j u e (λ (z : K). AreApart z.visits)
        (apart_both v.visits w.visits (r.each id v at) (r.each other w there_too)
        (λ a b h l same turn. apart (sym (r.once id other a b (v, at, h) (w, there_too, l) same turn)))) tt
        (λ _ _ t. r.each j u t);
  }
    where
      both : List K
      both = set s.views id (joined v w)

      views : List K
      views = set both other gone

      next : St
      next = record { words = s.words; homes = s.homes; views = views }

      there_too : get_elem? s.views other ≡ some w
      there_too = sym (set_else s.views id other (joined v w) apart) ∙ at'

      by : (j : ℕ) (u : K) → get_elem? views j ≡ some u → (P : K → Type 0) → P (joined v w) → P gone
          → (j ≢ id → j ≢ other → get_elem? s.views j ≡ some u → P u) → P u
      by j u e P first second rest' = ⊎_elim
          (λ (t : (j ≡ other) × (gone ≡ u)). subst P t.1 second)
          (λ (t : (j ≢ other) × (get_elem? both j ≡ some u)). ⊎_elim
          (λ (q : (j ≡ id) × (joined v w ≡ u)). subst P q.1 first)
          (λ (q : (j ≢ id) × (get_elem? s.views j ≡ some u)). rest' q.0 t.0 q.1)
          (at_set s.views id j (joined v w) u t.1))
          (at_set both other j gone u e)

      here : (j : ℕ) (u : K) → get_elem? views j ≡ some u → u.out ≡ true → get_elem? s.views j ≡ some u
      here j u e = by j u e (λ (z : K). z.out ≡ true → get_elem? s.views j ≡ some z)
          (λ o. absurd (true≢false (sym o))) (λ o. absurd (true≢false (sym o))) (λ _ _ t _. t)

      made_of : (j : ℕ) (b : Visit T) → MadeBy views j b → (k : ℕ) × MadeBy s.views k b × IsFrom id other j k
      made_of j b m = ⊎_elim
          (λ (t : (j ≡ other) × (gone ≡ m.0)). absurd (subst (λ (z : K). Has z.visits b) (sym t.1) m.2))
          (λ (t : (j ≢ other) × (get_elem? both j ≡ some m.0)). ⊎_elim
          (λ (q : (j ≡ id) × (joined v w ≡ m.0)). ⊎_elim
          (λ (h : Has v.visits b). (id, (v, at, h), inl (q.0, inl refl)))
          (λ (h : Has w.visits b). (other, (w, there_too, h), inl (q.0, inr refl)))
          (has_both v.visits w.visits b (subst (λ (z : K). Has z.visits b) (sym q.1) m.2)))
          (λ (q : (j ≢ id) × (get_elem? s.views j ≡ some m.0)). (j, (m.0, q.1, m.2), inr (refl, q.0, t.0)))
          (at_set s.views id j (joined v w) m.0 t.1))
          (at_set both other j gone m.0 m.1)

      made : (j : ℕ) (b : Visit T) → MadeBy views j b → (k : ℕ) × MadeBy s.views k b
      made j b m = let o = made_of j b m in (o.0, o.1)

      made_is : (j : ℕ) (b : Visit T) (m : MadeBy views j b) → IsFrom id other j (made j b m).0
      made_is j b m = (made_of j b m).2

  -- ---- the beginning

  ones_at : (k i n : ℕ) → get_elem? (replicate k 1) i ≡ some n → n ≡ 1
  ones_at zero i n e = absurd (some-ne-none n (sym e))
  ones_at (suc k) zero n e = sym (some-injective 1 n e)
  ones_at (suc k) (suc i) n e = ones_at k i n e

  seated_at : (i : ℕ) (xs : List (Option T)) → AreSeated resident c i xs → (k j : ℕ) → k < length xs → j ≡ k + i
      → (x : T) × (get_elem? (map some xs) k ≡ some (some (Some x))) × resident c j 0 x
  seated_at i [] are k j less e = absurd (omega (arith, less))
  seated_at i (None ∷ xs) are k j less e = absurd are
  seated_at i (Some x ∷ xs) are zero j less e = let at : i ≡ j = omega (arith, e) in
      (x, refl, subst (λ (n : ℕ). resident c n 0 x) at are.0)
  seated_at i (Some x ∷ xs) are (suc k) j less e = seated_at (suc i) xs are.1 k j (omega (arith, less))
      (omega (arith, e))

  length_ones : (k : ℕ) → length {A = ℕ} (replicate k 1) ≡ k
  length_ones zero = refl
  length_ones (suc k) = ap suc (length_ones k)

  pub begins : (words : List ℕ) (xs : List (Option T)) → words ≡ replicate (length xs) 1 → AreSeated resident c 0 xs
      → Rule (opening words xs (newcomer c))
  begins words xs ones are = record {
    seats = λ i n e.
        let e' = subst (λ (l : List ℕ). get_elem? l i ≡ some (sitting n)) ones e in
        let one = ones_at (length xs) i (sitting n) e' in
        let less = there (replicate (length xs) 1) i (sitting n) e' in
        let on = seated_at 0 xs are i i (omega (arith, less, length_ones (length xs))) (omega arith) in
        let turn : 0 ≡ n = omega (arith, one) in
        (on.0, on.1, subst (λ (l : ℕ). resident c i l on.0) turn on.2);
    known = λ j v e. subst (Fits c first) (only j v e)
        (record {
          site = λ d e'. sym (same_value c d e');
          out = λ o. absurd (true≢false (sym o));
          last = λ o x is. absurd (no_value None x refl is);
        });
    alone = λ j l v u ve ue vo uo same. absurd (true≢false (sym vo ∙ ap (λ (y : K). y.out) (sym (only j v ve))));
    at_home = λ j b m. absurd (no_visit j b m);
    away_from = λ j b m. absurd (no_visit j b m);
    chain = λ j k a b m. absurd (no_visit j a m);
    once = λ j k a b m. absurd (no_visit j a m);
    each = λ j v e. subst (λ (u : K). AreApart u.visits) (only j v e) tt;
  }
    where
      first : St
      first = opening words xs (newcomer c)

      only : (j : ℕ) (v : K) → get_elem? (newcomer c ∷ []) j ≡ some v → newcomer c ≡ v
      only zero v e = some-injective (newcomer c) v e
      only (suc j) v e = absurd (some-ne-none v (sym e))

      no_visit : (j : ℕ) (b : Visit T) → MadeBy (newcomer c ∷ []) j b → ⊥
      no_visit j b m = subst (λ (v : K). Has v.visits b) (sym (only j m.0 m.1)) m.2

  -- ---- the end

  -- what was found on a seat whose word says that it sits there belongs there
  pub sat_there : (words : List ℕ) (xs : List (Option T)) → Final Rule words xs → (i w : ℕ) (o : Option T) (x : T)
      → get_elem? words i ≡ some w → w % 2 ≢ 0 → get_elem? xs i ≡ some o → o ≡ Some x → (n : ℕ) × resident c i n x
  sat_there words xs (s, r, ws, long, homes) i w o x at odd found is =
      let at' : get_elem? s.words i ≡ some (sitting (w / 2)) = ap (λ (l : List ℕ). get_elem? l i) ws
      ∙ (at ∙ ap some (odd_sits w odd)) in
      let on = r.seats i (w / 2) at' in
      let same = same_value on.0 x
      (some-injective (Some on.0) (Some x) (sym (homes i (Some on.0) on.1) ∙ (found ∙ ap some is))) in
      (w / 2, subst (λ (y : T). resident c i (w / 2) y) same on.2)

  abbrev Belongs : T → Type 0
  Belongs x = (i : ℕ) × (n : ℕ) × resident c i n x

  resident_and : (xs : List T) (x : T) → AreResident resident c xs → Belongs x → AreResident resident c (xs ++ x ∷ [])
  resident_and [] x are is = (is, tt)
  resident_and (y ∷ ys) x are is = (are.0, resident_and ys x are.1 is)

  -- one seat more
  pub one_more : (before old next : List T) → (rest : List T) × (old ≡ before ++ rest) × AreResident resident c rest
      → (next ≡ old) ⊎ ((x : T) × Belongs x × (next ≡ old ++ x ∷ []))
      → (rest : List T) × (next ≡ before ++ rest) × AreResident resident c rest
  one_more before old next (rest', is, are) (inl same) = (rest', same ∙ is, are)
  one_more before old next (rest', is, are) (inr (x, here, more)) = (
    rest' ++ x ∷ [],
    more ∙ (ap (λ (l : List T). l ++ x ∷ []) is ∙ append_assoc before rest' (x ∷ [])),
    resident_and rest' x are here,
  )

  pub one_longer : (old next : List T) → (next ≡ old) ⊎ ((x : T) × Belongs x × (next ≡ old ++ x ∷ []))
      → length next ≤ length old + 1
  one_longer old next (inl same) = let e = ap (λ (l : List T). length l) same in omega (arith, e)
  one_longer old next (inr (x, here, more)) = let e = ap (λ (l : List T). length l) more in
      omega (arith, e, length-append old (x ∷ []))

-- the seats that were looked at are empty
set_gone : (l : List Bool) (j : ℕ) → get_or (set l j false) j false ≡ false
set_gone [] j = refl
set_gone (x ∷ xs) zero = refl
set_gone (x ∷ xs) (suc j) = set_gone xs j

pub gone_next : (fs : List Bool) (i : ℕ) → ((k : ℕ) → k < i → get_or fs k false ≡ false) → (k : ℕ) → k < i + 1
    → get_or (set fs i false) k false ≡ false
gone_next fs i gone k less = dite (ℕ_discrete k i)
    (λ (e : k ≡ i). subst (λ (j : ℕ). get_or (set fs i false) j false ≡ false) (sym e) (set_gone fs i))
    (λ (ne : k ≢ i). get_or-set_other fs i k false false (λ e. ne e) ∙ gone k (omega (arith, less, ne)))

pub left_next : (fs : List Bool) (i n : ℕ) → ((k : ℕ) → i ≤ k → k < n → get_or fs k false ≡ true) → (k : ℕ)
    → i + 1 ≤ k → k < n → get_or (set fs i false) k false ≡ true
left_next fs i n left k low high = get_or-set_other fs i k false false (λ e. omega (arith, low, e))
    ∙ left k (omega (arith, low)) high
