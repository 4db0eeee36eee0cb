use Rattle.std.proofs.Common.{◌<◌, length, sym, arith}
use Rattle.nm_tree.specs.Ended.{end_of}
use Rattle.nm_tree.proofs.Ends.{fits, pooled_above}
use Rattle.nm_tree.proofs.Pools.{none_below, counted_yes, counted_no, all_counted}
use Rattle.nm_tree.proofs.reporting.reading.count_free.Goals.{then-is_free, else-is_free}
use Rattle.nm_tree.proofs.reporting.reading.count_free.Goals as goal

pub loop-slot-init : goal.loop-slot-init
loop-slot-init c = record {
  least = omega arith;
  few = omega arith;
  counted = λ e. let size = (fits c.args.layout c.args.words.now.core e).pool in let least = e.fits.least in
      sym (none_below (end_of c.args.layout c.args.words.now.core e).memory.pool 6 (omega arith)
      (omega (arith, size, least)) (pooled_above c.args.layout c.args.words.now.core e));
}

pub loop-slot-preserved : goal.loop-slot-preserved
loop-slot-preserved c = record {
  least = let least = c.loop-slot.invariant.least in omega (arith, least);
  few = let few = c.loop-slot.invariant.few in elim c.if-is_free.branch [
    | then-is_free w ↦ let is = w.free-is in omega (arith, is, few)
    | else-is_free w ↦ let is = w.free-is in omega (arith, is, few)
  ];
  counted = λ e. let size = (fits c.args.layout c.args.words.now.core e).pool in
      let test = c.loop-slot-test.true in
      let nodes = c.nodes-nodes.ensures.nodes in
      let below : c.loop-slot.slot < length (end_of c.args.layout c.args.words.now.core e).memory.pool = omega
      (arith, size, test, nodes) in
      elim c.if-is_free.branch [
        | then-is_free w ↦ counted_yes (end_of c.args.layout c.args.words.now.core e).memory.pool c.loop-slot.slot
            c.loop-slot.free c.if-is_free.free c.is_free.result below (c.is_free.ensures e) w.if-is_free.true w.free-is
            (c.loop-slot.invariant.counted e)
        | else-is_free w ↦ counted_no (end_of c.args.layout c.args.words.now.core e).memory.pool c.loop-slot.slot
            c.loop-slot.free c.if-is_free.free c.is_free.result below (c.is_free.ensures e) w.if-is_free.false
            w.free-is (c.loop-slot.invariant.counted e)
      ];
}

pub returns : goal.returns
returns c = λ e. let size = (fits c.args.layout c.args.words.now.core e).pool in
    all_counted (end_of c.args.layout c.args.words.now.core e).memory.pool c.loop-slot.slot c.loop-slot.free
    (omega (arith, size, c.loop-slot-test.false, c.nodes-nodes.ensures.nodes)) (c.loop-slot.invariant.counted e)
