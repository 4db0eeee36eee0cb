use Rattle.std.proofs.Common.{rules, ◌≡◌, [], ◌++◌, List, length, arith, sym, ap, subst, ◌∙◌}
use Rattle.std.specs.Prelude.{Option}
use Rattle.std.proofs.lemmas.Option.{same_Some}
use Rattle.nm_edge.specs.Edges.{Edge, tagged}
use Rattle.nm_edge.specs.declared.node.NodeId.{NodeId}
use Rattle.nm_order.specs.Facts.Fact.{IsFrozen}
use Rattle.nm_order.specs.Told.{FrozenTo}
use Rattle.nm_steps.specs.Steps.{PassView}
use Rattle.nm_walks.specs.declared.cutting.Kept.{Kept}
use Rattle.nm_walks.specs.Telling.{Tells}
use Rattle.nm_walks.specs.Cleanups.{Chooses}
use Rattle.nm_walks.proofs.GoingOn.{goes_then, only_then}
use Rattle.nm_walks.proofs.WholeCleanups.{way_there, knows_top, at_top, to_be_cut, has_cut}
use Rattle.nm_walks.proofs.cleaning.cut_off.Goals as goal

pub freeze-requires-clause-way : goal.freeze-requires-clause-way
freeze-requires-clause-way c = way_there c.args.pass.now c.tag-was.new.pass c.args.seek_record.now c.args.chain.now
    c.requires.at (goes_then c.args.pass.now c.choose.new.pass c.tag-was.new.pass c.choose.ensures.on
    c.tag-was.ensures.on)

pub freeze-requires-clause-known : goal.freeze-requires-clause-known
freeze-requires-clause-known c = knows_top c.args.pass.now c.tag-was.new.pass c.args.seek_record.now c.args.chain.now
    c.requires.at (goes_then c.args.pass.now c.choose.new.pass c.tag-was.new.pass c.choose.ensures.on
    c.tag-was.ensures.on)

pub splice-requires-clause-frozen : goal.splice-requires-clause-frozen
splice-requires-clause-frozen c =
    let o = c.args.pass.now in
    let p = c.choose.new.pass in
    let r = c.tag-was.new.pass in
    let t = c.freeze.new.pass in
    let s = c.args.seek_record.now in
    let frozen = c.freeze.ensures.frozen in
    to_be_cut o t s c.args.chain.now c.requires.at c.in-Some.kept.side c.tagged.result frozen.0
    (goes_then o r t (goes_then o p r c.choose.ensures.on c.tag-was.ensures.on) c.freeze.ensures.on) frozen.2
    (subst (λ (e : Edge). Tells t (IsFrozen s.parent c.in-Some.kept.side e)) (sym c.tagged.ensures)
    (c.freeze.ensures.on.keeps (IsFrozen s.parent c.in-Some.kept.side (tagged c.tag-was.result))
    c.tag-was.ensures.told.frozen))

pub returns-clause-won : goal.returns-clause-won
returns-clause-won c =
    let o = c.args.pass.now in
    let p = c.choose.new.pass in
    let r = c.tag-was.new.pass in
    let t = c.freeze.new.pass in
    let s = c.args.seek_record.now in
    let k = c.in-Some.kept in
    let frozen = c.freeze.ensures.frozen in
    let none' : c.clear.new.self.items ≡ [] = search rules in
    let all : c.freeze.new.nodes.items ≡ frozen.0 = frozen.1 ∙ ap (λ (ns : List NodeId). ns ++ frozen.0) none' in
    let low : FrozenTo (Tells t) s.parent k.side s.successor c.freeze.new.nodes.items =
    subst (λ (ns : List NodeId). FrozenTo (Tells t) s.parent k.side s.successor ns) (sym all)
    (subst (λ n. FrozenTo (Tells t) s.parent k.side n frozen.0) (at_top o t s c.args.chain.now c.requires.at)
    frozen.2) in
    λ won. has_cut s c.args.chain.now o p r t c.splice.new.pass k c.tag-was.result c.freeze.new.nodes.items
    (goes_then o r t (goes_then o p r c.choose.ensures.on c.tag-was.ensures.on) c.freeze.ensures.on)
    (only_then o r t (only_then o p r c.choose.ensures.only c.tag-was.ensures.only) c.freeze.ensures.only)
    (subst (λ (x : Option Kept). Chooses s o.view.log p.view.log x) c.in-Some.is c.choose.ensures.looks)
    (ap (λ (x : PassView). x.view.log) c.tag-was.ensures.step) c.freeze.ensures.looks
    (let size = c.freeze.ensures.size in let zero-long = ap (λ (ns : List NodeId). length ns) none' in
    omega (arith, size, zero-long)) low
    (λ to flag. ap (λ (x : Kept). x.side) (same_Some k _ (sym c.in-Some.is ∙ c.choose.ensures.again to flag)))
    (c.in-Ok.ensures.won c.freeze.new.nodes.items low)
