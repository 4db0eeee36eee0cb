use Rattle.std.proofs.Common.{◌≡◌, ◌≢◌, ◌+◌, false, [], refl, ap, subst, sym, ◌∙◌, arith}
use Rattle.std.proofs.lemmas.Bool.{or_parts}
use Rattle.nm_edge.specs.Layouts.{Layout}
use Rattle.nm_order.specs.Facts.Fact.{KnowsSlot}
use Rattle.nm_steps.specs.Steps.{PassView}
use Rattle.nm_walks.specs.Bounds.{reach}
use Rattle.nm_walks.specs.declared.walking.Stop.{Stop}
use Rattle.nm_walks.specs.Places.{IsStopOf}
use Rattle.nm_walks.specs.Telling.{Tells, OnwardTold}
use Rattle.nm_walks.specs.Walks.{Reads, IsWalking, chain_onto}
use Rattle.nm_walks.proofs.GoingOn.{goes_then, only_then, pinned_in_still, come_first}
use Rattle.nm_walks.proofs.Standing.{at_begin}
use Rattle.nm_walks.proofs.Stopping.{narrowed_first, narrowed_on, comes_out}
use Rattle.nm_walks.proofs.Walked.{no_chain, finds_on, finds_out, walks_on}
use Rattle.nm_walks.proofs.walking.descend.Goals as goal

pub read_node-on-requires-clause-pinned : goal.read_node-on-requires-clause-pinned
read_node-on-requires-clause-pinned c = pinned_in_still c.args.shared.now c.args.pass.now c.loop-below.pass
    c.loop-below.invariant.on c.requires.pinned

pub slot-node-requires : goal.slot-node-requires
slot-node-requires c =
    let within = c.loop-below.invariant.within in
    let most = c.requires.pinned.run.fits.most in
    let layout = ap (λ (L : Layout). L.nodes) c.requires.pinned.own.layout in
    omega (arith, within, most, layout)

pub loop-below-init : goal.loop-below-init
loop-below-init c =
    let p = c.look_edge.new.pass in
    let e = c.look_edge.result in
    let some = c.look_edge.ensures.told.root refl refl in
    let come = come_first c.args.pass.now p c.args.key e c.first-unmarked_seek.result c.look_edge.ensures.told
    c.first-unmarked_seek.ensures in
    record {
      within = rw c.first-unmarked_seek.ensures (rw (← c.requires.pinned.own.layout) c.look_edge.ensures.told.within);
      finding = record {
        walk = (
          [],
          rw c.first-unmarked_seek.ensures (
            refl,
            refl,
            some,
            ap (λ (s : PassView). s.view.log)
                c.look_edge.ensures.step,
          ),
        );
        known = rw c.first-unmarked_seek.ensures (c.look_edge.ensures.told.learned.leads some);
        come = come;
      };
      narrowed = narrowed_first c.args.stop c.args.pass.now p c.args.key e c.first-unmarked_seek.result
          c.first-unmarked_seek.ensures;
      on = c.look_edge.ensures.on;
      only = c.look_edge.ensures.only;
      walking = λ root. record {
        walk = rw c.first-unmarked_seek.ensures (
          refl,
          refl,
          some,
          ap (λ (s : PassView). s.view.log)
              c.look_edge.ensures.step,
        );
        at = rw c.first-unmarked_seek.ensures (at_begin (Tells p) e (c.look_edge.ensures.on.keeps (KnowsSlot 1) root)
            (c.look_edge.ensures.on.keeps (KnowsSlot 2) c.requires.known) c.look_edge.ensures.told.learned some);
        within = rw c.first-unmarked_seek.ensures (rw (← c.requires.pinned.own.layout) c.look_edge.ensures.told.within);
        short = omega arith;
        on = c.look_edge.ensures.on;
        only = c.look_edge.ensures.only;
        come = come;
      };
    }

pub loop-below-preserved : goal.loop-below-preserved
loop-below-preserved c =
    let o = c.args.pass.now in
    let p = c.loop-below.pass in
    let q = c.read_node-on.new.pass in
    let t = c.loop-below.unmarked_seek in
    let on = c.read_node-on.result in
    let L = c.args.shared.now.layout in
    let goes = c.stops.ensures.no c.if-stops.false in
    let some : on.next.slot ≢ 0 = goes.0 in
    let told : OnwardTold p q c.args.key t.edge.slot on.found on.side on.next = subst
    (λ n. OnwardTold p q c.args.key n on.found on.side on.next) c.slot-node.ensures c.read_node-on.ensures.told in
    let read : Reads c.args.key t.edge.slot p.view.log q.view.log on = subst
    (λ n. Reads c.args.key n p.view.log q.view.log on) c.slot-node.ensures c.read_node-on.ensures.looks in
    let plain : t.edge.tag ≡ false = (or_parts t.edge.flag t.edge.tag
    (sym c.is_marked.ensures ∙ c.if-is_marked.false)).1 in
    let none' : chain_onto t [] ≡ [] = no_chain t [] plain in
    record {
      within = rw c.further-unmarked_seek.ensures.edge c.read_node-on.ensures.within;
      finding = finds_on L c.args.key c.loop-below.below o p q t on c.loop-below.invariant.finding read told some
          c.further-unmarked_seek.result c.further-unmarked_seek.ensures.seek_record
          c.further-unmarked_seek.ensures.edge;
      narrowed = narrowed_on c.args.stop c.args.key o p q t on c.loop-below.invariant.finding.come read told goes.1
          c.further-unmarked_seek.result c.further-unmarked_seek.ensures.seek_record;
      on = goes_then o p q c.loop-below.invariant.on c.read_node-on.ensures.on;
      only = only_then o p q c.loop-below.invariant.only c.read_node-on.ensures.only;
      walking = λ root. subst (λ chain. IsWalking L c.args.key (c.loop-below.below + 1) o q
          c.further-unmarked_seek.result chain) none'
          (walks_on L c.args.key c.loop-below.below o p q t [] on (c.loop-below.invariant.walking root) read
          c.read_node-on.ensures.on c.read_node-on.ensures.only told
          some c.read_node-on.ensures.within (rw none' (omega arith)) c.further-unmarked_seek.result
          c.further-unmarked_seek.ensures.seek_record c.further-unmarked_seek.ensures.edge);
    }

pub returns-then-stops : goal.returns-then-stops
returns-then-stops c =
    let o = c.args.pass.now in
    let p = c.loop-below.pass in
    let q = c.read_node-on.new.pass in
    let t = c.loop-below.unmarked_seek in
    let on = c.read_node-on.result in
    let b = c.args.shared.now in
    let told : OnwardTold p q c.args.key t.edge.slot on.found on.side on.next = subst
    (λ n. OnwardTold p q c.args.key n on.found on.side on.next) c.slot-node.ensures c.read_node-on.ensures.told in
    let read : Reads c.args.key t.edge.slot p.view.log q.view.log on = subst
    (λ n. Reads c.args.key n p.view.log q.view.log on) c.slot-node.ensures c.read_node-on.ensures.looks in
    let goes = goes_then o p q c.loop-below.invariant.on c.read_node-on.ensures.on in
    let below = c.loop-below-test.true in
    let size = c.reach-most.ensures.reach in
    let layout = ap reach c.layout-layout.ensures in
    let stopped = c.stops.ensures.yes c.if-stops.true in
    record {
      came = λ leaf. rw (c.end_at.ensures.seek_record ∙ c.seek_record-then-stops.ensures, c.end_at.ensures.key)
          (finds_out b.layout c.args.key c.loop-below.below o p q t on c.loop-below.invariant.finding read told
          (subst (λ (stop : Stop). IsStopOf stop c.args.key on) leaf stopped) (omega (arith, below, size, layout)));
      remembers = λ root. comes_out c.args.stop b c.requires.radix c.args.key c.requires.key c.loop-below.below o p q
          t [] on (c.loop-below.invariant.walking root) read c.read_node-on.ensures.on c.read_node-on.ensures.only told
          (pinned_in_still b o q goes c.requires.pinned)
          stopped (omega (arith, below, size, layout)) c.loop-below.invariant.narrowed c.end_at.result
          (c.end_at.ensures.seek_record ∙ c.seek_record-then-stops.ensures) c.end_at.ensures.key;
      on = goes;
      only = only_then o p q c.loop-below.invariant.only c.read_node-on.ensures.only;
    }
