use Rattle.std.proofs.Common.{ℕ, List, [], ◌∷◌, ◌++◌, length, length-append, sym, ap, subst, arith}
use Rattle.nm_set.specs.Seats.{ArePlaces}
use Rattle.nm_set.specs.declared.home.Site.{Site}
use Rattle.nm_set.proofs.Places.{one_seat}
use Rattle.nm_set.proofs.home.mailboxes_of.Goals as goal

pub loop-number-preserved : goal.loop-number-preserved
loop-number-preserved c =
    let site : Site = c.loop-number.place.0 in
    let before = c.loop-number.mailboxes.items in
    let more = c.in_ok-push.ensures.items in
    let P : Site × ℕ → Type 0 = λ s. ArePlaces site 0 (before ++ s ∷ []) in
    let places = subst P (sym c.empty_mailbox.ensures)
    (one_seat site 0 before c.loop-number.number (omega (arith, c.loop-number.invariant.count))
    c.loop-number.invariant.places) in
    record {
      places = subst (ArePlaces site 0) (sym more) places;
      count = omega (
        arith,
        ap (λ (ss : List (Site × ℕ)). length ss) more,
        length-append before
            (c.empty_mailbox.result ∷ []),
        c.loop-number.invariant.count,
      );
      site = c.loop-number.invariant.site;
      within = omega (arith, c.loop-number.invariant.within);
    }
