use Rattle.std.proofs.Common.{◌∙◌, ◌<◌, ℕ, List, length, ap, subst}
use Rattle.nm_set.specs.Seats.{HomeView, site_in}
use Rattle.nm_set.specs.declared.home.Site.{Site}
use Rattle.nm_set.proofs.Places.{seat_of}
use Rattle.nm_set.proofs.home.Home.mailbox_of.Goals as goal

pub returns-clause-some : goal.returns-clause-some
returns-clause-some c =
    let found = c.in_ok-get.ensures.lookup in
    let P : List (Site × ℕ) → Type 0 = λ ss. c.args.number < length ss in
    let less = subst P c.deref.ensures.value found.3.0 in
    let here = seat_of c.self.inside.site c.self.inside.mailboxes.items c.self.invariant.2 c.args.number
    c.in_ok-get.field-0.now less in
    let at = rw c.deref.ensures.value at found.1 in (
      at ∙ here ∙ ap (λ (h : HomeView). (site_in h, c.args.number)) c.self.view_is,
      subst
          (λ (h : HomeView). c.args.number < h.tree.layout.workers) c.self.view_is
          (subst (λ (n : ℕ). c.args.number < n) c.self.invariant.3 less),
    )
