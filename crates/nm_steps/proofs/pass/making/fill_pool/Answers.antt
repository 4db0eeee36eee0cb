use Rattle.std.proofs.Common.{◌+◌, ◌≤◌, ap, arith}
use Rattle.nm_steps.proofs.OpeningWords.{pool_begins, row_within, pool_grows}
use Rattle.nm_steps.proofs.pass.making.fill_pool.Goals as goal

pub loop-slot-init : goal.loop-slot-init
loop-slot-init c = record {
  end = ap (λ n. n + 1) c.nodes-slot-end.ensures.nodes;
  fits = c.nodes-slot-end.ensures.fits;
  words_are = pool_begins c.args.layout _ (omega (arith, c.nodes-slot-end.ensures.fits.least)) c.requires;
}

pub index_mut-requires : goal.index_mut-requires
index_mut-requires c =
    let inside : c.loop-slot.slot ≤ c.args.layout.nodes = omega
    (arith, c.loop-slot-test.true, c.loop-slot.invariant.end) in
    omega (
      arith,
      c.loop-slot.tree.ok.0,
      row_within c.args.layout c.loop-slot.slot _ _ c.loop-slot.auto.slot inside
          c.loop-slot.invariant.words_are (ap (λ p. p.word) c.pool-place.ensures),
    )

pub loop-slot-preserved : goal.loop-slot-preserved
loop-slot-preserved c =
    let inside : c.loop-slot.slot ≤ c.args.layout.nodes = omega
    (arith, c.loop-slot-test.true, c.loop-slot.invariant.end) in
    record {
      end = c.loop-slot.invariant.end;
      fits = c.loop-slot.invariant.fits;
      words_are = pool_grows c.args.layout c.loop-slot.slot _ _ _ _ c.loop-slot.auto.slot inside
          c.loop-slot.invariant.words_are (ap (λ p. p.word) c.pool-place.ensures)
          (ap (λ p. p.mask) c.pool-place.ensures) c.index_mut.ensures.value;
    }
