-- The words of a tree: different fields have different words, and different slots different bits.
use Rattle.std.proofs.Common.{◌≡◌, ℕ, ◌+◌, ◌-◌, ◌*◌, ◌/◌, ◌%◌, ◌^◌, ◌<◌, ◌≤◌, refl, ap, arith}
use Rattle.std.proofs.Math.Nat.{eq_of_mul-eq-mul_left, mul-le-mul_left}
use Rattle.std.proofs.lemmas.Nat.{pow_apart, pow_below}
use Rattle.nm_edge.specs.Layouts.{Layout}
use Rattle.nm_edge.specs.declared.edge.Side.TheVariants.{Left, Right}
use Rattle.nm_edge.specs.Words.{at_epoch, at_announcement, at_key, at_edge, at_birth, at_row, FieldsAreApart, FieldsAreWithin, PoolMasksAreApart, PoolPlacesAreApart, PoolPlacesAreRows, behind_announcements}

-- ---- announcements

-- an announcement stands behind the epoch's word, and with its gap before all that stands behind the announcements
pub announcement_within : (L : Layout) (w : ℕ) → w < L.workers
    → behind_announcements L w + 1 + L.gap ≤ behind_announcements L L.workers
announcement_within L w below =
    let more : (1 + L.gap) * (w + 1) ≤ (1 + L.gap) * L.workers = mul-le-mul_left (1 + L.gap)
    (let e : w + 1 ≤ L.workers = omega (arith, below) in e) in
    omega (arith, more)

announcements_apart : (L : Layout) (v w : ℕ) → behind_announcements L v ≡ behind_announcements L w → v ≡ w
announcements_apart L v w e = eq_of_mul-eq-mul_left (1 + L.gap) (omega arith) v w (omega (arith, e))

pub fields_apart : FieldsAreApart
fields_apart L at_epoch at_epoch f g e = refl
fields_apart L (at_announcement v) (at_announcement w) f g e = ap at_announcement (announcements_apart L v w e)
fields_apart L (at_announcement v) (at_edge t Left) f g e = absurd
    (let within = announcement_within L v f in omega (arith, e, within))
fields_apart L (at_announcement v) (at_edge t Right) f g e = absurd
    (let within = announcement_within L v f in omega (arith, e, within))
fields_apart L (at_announcement v) _ f g e = absurd (let within = announcement_within L v f in omega (arith, e, within))
fields_apart L (at_edge s Left) (at_announcement w) f g e = absurd
    (let within = announcement_within L w g in omega (arith, e, within))
fields_apart L (at_edge s Right) (at_announcement w) f g e = absurd
    (let within = announcement_within L w g in omega (arith, e, within))
fields_apart L _ (at_announcement w) f g e = absurd (let within = announcement_within L w g in omega (arith, e, within))
fields_apart L (at_key s) (at_key t) f g e = ap at_key (omega (arith, e))
fields_apart L (at_edge s Left) (at_edge t Left) f g e = ap (λ (n : ℕ). at_edge n Left) (omega (arith, e, f.0, g.0))
fields_apart L (at_edge s Right) (at_edge t Right) f g e = ap (λ (n : ℕ). at_edge n Right) (omega (arith, e, f.0, g.0))
fields_apart L (at_birth s) (at_birth t) f g e = ap at_birth (omega (arith, e, f.0, g.0))
fields_apart L (at_row q) (at_row r) f g e = ap at_row (omega (arith, e))
fields_apart L (at_edge s Left) _ f g e = absurd (omega (arith, e))
fields_apart L (at_edge s Right) _ f g e = absurd (omega (arith, e))
fields_apart L _ (at_edge t Left) f g e = absurd (omega (arith, e))
fields_apart L _ (at_edge t Right) f g e = absurd (omega (arith, e))
fields_apart L _ _ f g e = absurd (omega (arith, e))

pub fields_within : FieldsAreWithin
fields_within L at_epoch f = omega arith
fields_within L (at_announcement w) f = let within = announcement_within L w f in omega (arith, within)
fields_within L (at_key s) f = omega (arith, f.0, f.1)
fields_within L (at_edge s Left) f = omega (arith, f.0, f.1)
fields_within L (at_edge s Right) f = omega (arith, f.0, f.1)
fields_within L (at_birth s) f = omega (arith, f.0, f.1)
fields_within L (at_row r) f = omega (arith, f)

pub places_are_rows : PoolPlacesAreRows
places_are_rows L s h = omega (arith, h.0, h.1)

-- slots of one row have different bits
bits_apart : (b s t : ℕ) → 1 ≤ s → 1 ≤ t → b + (s - 1) / 64 ≡ b + (t - 1) / 64 → (s - 1) % 64 ≡ (t - 1) % 64 → s ≡ t
bits_apart b s t hs ht row bit = omega (arith, row, bit)

pub masks_apart : PoolMasksAreApart
masks_apart L s t hs ht apart row =
    pow_apart ((s - 1) % 64) ((t - 1) % 64) (λ same. apart (bits_apart _ s t hs.0 ht.0 row same))

powers_apart : (i j : ℕ) → 2 ^ i ≡ 2 ^ j → i ≡ j
powers_apart i j e = grind (arith, pow_below, e)

pub places_apart : PoolPlacesAreApart
places_apart L s t hs ht e =
    bits_apart _ s t hs.0 ht.0 (λ i. (e i).word) (powers_apart _ _ (λ i. (e i).mask))
