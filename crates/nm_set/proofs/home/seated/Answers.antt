use Rattle.std.proofs.Common.{◌≡◌, ℕ, suc, List, [], ◌∷◌, length, length-append, sym, ap, subst, arith}
use Rattle.std.specs.Prelude.{Option, Some}
use Rattle.nm_tree.specs.Workers.{WorkerView, AreNew, HaveFit}
use Rattle.nm_set.specs.Seats.{AreOnSeats}
use Rattle.nm_set.specs.declared.home.Site.{Site}
use Rattle.nm_set.proofs.Seating.{new_resident, seated_and}
use Rattle.nm_set.proofs.home.seated.Goals as goal

pub loop-worker-preserved : goal.loop-worker-preserved
loop-worker-preserved c =
    let site : Site = c.args.site.now in
    let before : List (Option WorkerView) = c.loop-worker.on_seats.items in
    let w : WorkerView = c.in-Some.worker in
    let first = c.in-Some.ensures.steps.0 in
    let more = c.push_reserved.ensures.items in
    let new = subst (AreNew site.tree (length before)) first c.loop-worker.invariant.left in
    let fits = subst (HaveFit site.fit) first c.loop-worker.invariant.fit in
    let resident = new_resident site.tree site.fit (length before) w c.next.new.self.rest.items new fits.0 in
    let longer : length c.push_reserved.new.self.items
    ≡ suc (length before) = omega (
      arith,
      ap (λ (ms : List (Option WorkerView)). length ms) more,
      length-append
          before (Some w ∷ []),
    ) in
    record {
      made = subst (AreOnSeats site 0) (sym more) (seated_and site 0 before (length before) w (omega arith)
          c.loop-worker.invariant.made
          (record { resident = resident; first = λ _. (new.0, new.1, new.2, new.3, new.4, tt) }));
      left = subst (λ (n : ℕ). AreNew site.tree n c.next.new.self.rest.items) (sym longer) new.5;
      fit = fits.1;
      all = omega (arith, longer, ap (λ (ws : List WorkerView). length ws) first, c.loop-worker.invariant.all);
      room = omega (arith, c.loop-worker.invariant.room, c.push_reserved.ensures.capacity);
    }
