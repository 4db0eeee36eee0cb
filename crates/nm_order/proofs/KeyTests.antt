-- Whether the calls of a list of events are for keys of the set, by a test.
use Rattle.std.proofs.Common.{◌≡◌, ℕ, zero, suc, ◌-◌, ◌^◌, Bool, true, List, [], ◌∷◌, arith, nat_le}
use Rattle.std.specs.Prelude.{All}
use Rattle.std.specs.List.{list_all}
use Rattle.std.proofs.lemmas.Bool.{and_parts, leb-true}
use Rattle.nm_model.specs.declared.event.Event.{Event}
use Rattle.nm_model.specs.declared.event.Event.TheVariants.{SightFor}
use Rattle.nm_order.specs.Intervals.{HasKey}

abbrev pub key_fits : Event → Bool
key_fits (SightFor op k) = nat_le k (2 ^ 64 - 4)
key_fits _ = true

has_key : (e : Event) → key_fits e ≡ true → HasKey e
has_key (SightFor op k) fits = leb-true k (2 ^ 64 - 4) fits
has_key e fits = tt

pub all_keys : (ts : List (ℕ × Event)) → list_all (λ t. key_fits t.1) ts ≡ true → All (λ t. HasKey t.1) ts
all_keys [] fits i d below = absurd (omega (arith, below))
all_keys (t ∷ ts) fits zero d below = has_key t.1 (and_parts (key_fits t.1) (list_all (λ t. key_fits t.1) ts) fits).0
all_keys (t ∷ ts) fits (suc i) d below = all_keys ts
    (and_parts (key_fits t.1) (list_all (λ t. key_fits t.1) ts) fits).1 i d (omega arith)
