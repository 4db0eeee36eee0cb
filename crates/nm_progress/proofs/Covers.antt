-- Lists that have each of some slots: one is taken out, where it is in; and what a step leaves of them.
use Rattle.std.proofs.Common.{◌≡◌, ◌≢◌, ℕ, suc, ◌+◌, ◌≤◌, inl, inr, ◌⊎◌, Bool, true, false, List, [], ◌∷◌, length, refl, sym, ap, ◌∙◌, arith, cond}
use Rattle.nm_laws.proofs.ListOrders.{In}

abbrev pub one_if : Bool → ℕ
one_if b = cond b 1 0

module _ {X : Type 0} where
  -- without one of its elements
  pub record Without (xs : List X) (x : X) : Type 0 where
    pub rest : List X
    pub shorter : length xs ≡ suc (length rest)
    pub others : (y : X) → y ≢ x → In xs y → In rest y

  pub taken_out : (xs : List X) (x : X) → In xs x → Without xs x
  taken_out [] x none = absurd none
  taken_out (y ∷ ys) x (inl is) = record { rest = ys; shorter = refl; others = λ z ne there. by z ne there }
    where
      by : (z : X) → z ≢ x → (z ≡ y) ⊎ In ys z → In ys z
      by z ne (inl at) = absurd (ne (at ∙ sym is))
      by z ne (inr there) = there
  taken_out (y ∷ ys) x (inr there) = further (taken_out ys x there)
    where
      further : Without ys x → Without (y ∷ ys) x
      further w = record { rest = y ∷ w.rest; shorter = ap suc w.shorter; others = by }
        where
          by : (z : X) → z ≢ x → (z ≡ y) ⊎ In ys z → (z ≡ y) ⊎ In w.rest z
          by z ne (inl at) = inl at
          by z ne (inr there) = inr (w.others z ne there)

-- ---- a list that covers what is such, where a step adds one such slot, takes one away, or neither

module _ (Was Is : ℕ → Type 0) (added taken : Bool) where
  pub record NextList (slots : List ℕ) : Type 0 where
    pub list : List ℕ
    pub covers : (x : ℕ) → Is x → In list x
    pub paid : length list + one_if taken ≤ length slots + one_if added

  pub next_list : (added ≡ true → taken ≡ false) → (added ≡ true → (new : ℕ) × ((x : ℕ) → Is x → (x ≡ new) ⊎ Was x))
      → (added ≡ false → taken ≡ true → (gone : ℕ) × Was gone × ((x : ℕ) → Is x → (x ≢ gone) × Was x))
      → (added ≡ false → (x : ℕ) → Is x → Was x) → (slots : List ℕ) → ((x : ℕ) → Was x → In slots x) → NextList slots
  next_list apart adds takes stays slots covers = go added refl taken refl
    where
      go : (a : Bool) → added ≡ a → (b : Bool) → taken ≡ b → NextList slots
      go true adding b taking = record {
        list = new.0 ∷ slots;
        covers = λ x is. on x (new.1 x is);
        paid =
            let one = ap one_if adding in let none = ap one_if (apart adding) in omega (arith, one, none);
      }
        where
          new : (new : ℕ) × ((x : ℕ) → Is x → (x ≡ new) ⊎ Was x)
          new = adds adding

          on : (x : ℕ) → (x ≡ new.0) ⊎ Was x → (x ≡ new.0) ⊎ In slots x
          on x (inl at) = inl at
          on x (inr was) = inr (covers x was)
      go false adding true taking = record {
        list = w.rest;
        covers = λ x is. let b = gone.2 x is in
            w.others x b.0 (covers x b.1);
        paid = let one = ap one_if taking in let size = w.shorter in
            omega (arith, one, size);
      }
        where
          gone : (gone : ℕ) × Was gone × ((x : ℕ) → Is x → (x ≢ gone) × Was x)
          gone = takes adding taking

          w : Without slots gone.0
          w = taken_out slots gone.0 (covers gone.0 gone.1)
      go false adding false taking = record {
        list = slots;
        covers = λ x is. covers x (stays adding x is);
        paid =
            let none = ap one_if taking in omega (arith, none);
      }
