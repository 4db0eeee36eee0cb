use Rattle.std.proofs.Common.{List, inl, inr, ◌≢◌, ◌+◌, ap, subst, sym, arith}
use Rattle.nm_walks.specs.Bounds.{reach}
use Rattle.nm_walks.specs.declared.seek_record.ChainEdge.{ChainEdge}
use Rattle.nm_walks.specs.Places.{HasCome}
use Rattle.nm_walks.specs.Telling.{OnwardTold}
use Rattle.nm_walks.specs.Walks.{Reads, IsWalking}
use Rattle.nm_walks.proofs.Adding.{reads_add, walk_adds}
use Rattle.nm_walks.proofs.GoingOn.{goes_then, only_then, pinned_in_still}
use Rattle.nm_walks.proofs.ShortWalks.{too_long, too_deep}
use Rattle.nm_walks.proofs.Stopping.{broken_off, come_result, come_steps, comes_out, narrowed_on}
use Rattle.nm_walks.proofs.Walked.{walks_on}
use Rattle.nm_walks.proofs.walking.seek.Goals as goal

pub read_node-on-requires-clause-pinned : goal.read_node-on-requires-clause-pinned
read_node-on-requires-clause-pinned c = pinned_in_still c.args.shared.now c.args.pass.now c.loop-below.pass
    c.loop-below.invariant.walking.on c.requires.pinned

pub loop-below-preserved : goal.loop-below-preserved
loop-below-preserved c =
    let p = c.loop-below.pass in
    let q = c.read_node-on.new.pass in
    let t = c.loop-below.seek_record in
    let on = c.read_node-on.result in
    let L = c.args.shared.now.layout in
    let goes = c.stops.ensures.no c.if-stops.false in
    let some : on.next.slot ≢ 0 = goes.0 in
    let told : OnwardTold p q c.args.key t.edge.slot on.found on.side on.next = subst
    (λ n. OnwardTold p q c.args.key n on.found on.side on.next) c.slot-node.ensures c.read_node-on.ensures.told in
    let read : Reads c.args.key t.edge.slot p.view.log q.view.log on = subst
    (λ n. Reads c.args.key n p.view.log q.view.log on) c.slot-node.ensures c.read_node-on.ensures.looks in
    let more = c.extend.ensures.more c.if-not-extend.false in
    let below = c.loop-below-test.true in
    let size = c.reach-below-end.ensures.reach in
    let layout = ap reach c.layout-layout.ensures in
    record {
      inside = omega (arith, below, size, layout);
      walking = subst (λ chain. IsWalking L c.args.key (c.loop-below._below + 1) c.args.pass.now q
          c.further-seek_record.result chain) (sym more)
          (walks_on L c.args.key c.loop-below._below c.args.pass.now p q t c.loop-below.chain.items on
          c.loop-below.invariant.walking read c.read_node-on.ensures.on c.read_node-on.ensures.only told
          some c.read_node-on.ensures.within (rw (← more) (c.extend.ensures.short c.if-not-extend.false))
          c.further-seek_record.result c.further-seek_record.ensures.seek_record c.further-seek_record.ensures.edge);
      narrowed = narrowed_on c.args.stop c.args.key c.args.pass.now p q t on c.loop-below.invariant.walking.come read
          told goes.1 c.further-seek_record.result c.further-seek_record.ensures.seek_record;
    }

pub returns-then-stops : goal.returns-then-stops
returns-then-stops c =
    let o = c.args.pass.now in
    let p = c.loop-below.pass in
    let q = c.read_node-on.new.pass in
    let t = c.loop-below.seek_record in
    let on = c.read_node-on.result in
    let b = c.args.shared.now in
    let told : OnwardTold p q c.args.key t.edge.slot on.found on.side on.next = subst
    (λ n. OnwardTold p q c.args.key n on.found on.side on.next) c.slot-node.ensures c.read_node-on.ensures.told in
    let read : Reads c.args.key t.edge.slot p.view.log q.view.log on = subst
    (λ n. Reads c.args.key n p.view.log q.view.log on) c.slot-node.ensures c.read_node-on.ensures.looks in
    let walking = c.loop-below.invariant.walking in
    let goes = goes_then o p q walking.on c.read_node-on.ensures.on in
    let below = c.loop-below-test.true in
    let size = c.reach-below-end.ensures.reach in
    let layout = ap reach c.layout-layout.ensures in
    let came = comes_out c.args.stop b c.requires.radix c.args.key c.requires.key c.loop-below._below o p q t
    c.loop-below.chain.items on walking read c.read_node-on.ensures.on c.read_node-on.ensures.only told
    (pinned_in_still b o q goes c.requires.pinned)
    (c.stops.ensures.yes c.if-stops.true) (omega (arith, below, size, layout)) c.loop-below.invariant.narrowed
    c.end_at.result c.end_at.ensures.seek_record c.end_at.ensures.key in
    record {
      walk = come_result c.args.stop b.layout c.args.key o q c.loop-below.chain.items c.end_at.result came;
      came = came;
      steps = come_steps c.args.stop b.layout c.args.key o q c.loop-below.chain.items c.end_at.result came;
      on = goes;
      only = only_then o p q walking.only c.read_node-on.ensures.only;
    }

pub returns-in-Ended : goal.returns-in-Ended
returns-in-Ended c =
    let L = c.args.shared.now.layout in
    let chain = c.clear.new.self.items in
    let came = subst (λ (links : List ChainEdge). HasCome c.args.stop L c.args.key c.args.pass.now c.descend.new.pass
    links c.in-Ended.end) (sym c.clear.ensures) (c.in-Ended.ensures.remembers c.requires.root) in
    record {
      walk = come_result c.args.stop L c.args.key c.args.pass.now c.descend.new.pass chain c.in-Ended.end came;
      came = came;
      steps = come_steps c.args.stop L c.args.key c.args.pass.now c.descend.new.pass chain c.in-Ended.end came;
      on = c.descend.ensures.on;
      only = c.descend.ensures.only;
    }

pub returns-then-not-extend-clause-steps : goal.returns-then-not-extend-clause-steps
returns-then-not-extend-clause-steps c =
    let above = (walk_adds c.args.key c.loop-below._below c.args.pass.now.view.log c.loop-below.pass.view.log
    c.loop-below.seek_record c.loop-below.chain.items c.loop-below.invariant.walking.walk).steps in
    let last = (reads_add c.args.key c.slot-node.result c.loop-below.pass.view.log c.read_node-on.new.pass.view.log
    c.read_node-on.result c.read_node-on.ensures.looks).steps in
    let below = c.loop-below-test.true in
    let L = c.reach-below-end.ensures.reach in
    let layout = ap reach c.layout-layout.ensures in
    omega (arith, above, last, below, L, layout)

pub returns-clause-steps : goal.returns-clause-steps
returns-clause-steps c =
    let above = (walk_adds c.args.key c.loop-below._below c.args.pass.now.view.log c.loop-below.pass.view.log
    c.loop-below.seek_record c.loop-below.chain.items c.loop-below.invariant.walking.walk).steps in
    let inside = c.loop-below.invariant.inside in
    omega (arith, above, inside)

pub returns-then-not-extend-clause-walk : goal.returns-then-not-extend-clause-walk
returns-then-not-extend-clause-walk c =
    let o = c.args.pass.now in
    let p = c.loop-below.pass in
    let q = c.read_node-on.new.pass in
    let t = c.loop-below.seek_record in
    let on = c.read_node-on.result in
    let read : Reads c.args.key t.edge.slot p.view.log q.view.log on = subst
    (λ n. Reads c.args.key n p.view.log q.view.log on) c.slot-node.ensures c.read_node-on.ensures.looks in
    let walking = c.loop-below.invariant.walking in
    let below = c.loop-below-test.true in
    let size = c.reach-below-end.ensures.reach in
    let layout = ap reach c.layout-layout.ensures in
    broken_off c.args.stop c.args.shared.now.layout c.args.key o.view.log q.view.log _
    (inr (too_deep c.args.shared.now c.args.key c.requires.key c.loop-below._below o.view.log t
    c.loop-below.chain.items p q (pinned_in_still c.args.shared.now o p walking.on c.requires.pinned)
    (pinned_in_still c.args.shared.now o q (goes_then o p q walking.on c.read_node-on.ensures.on) c.requires.pinned)
    on walking.walk walking.at read (c.stops.ensures.no c.if-stops.false).0
    (c.extend.ensures.tagged c.if-not-extend.true)
    (c.extend.ensures.full c.if-not-extend.true) (omega (arith, below, size, layout))))

pub returns-clause-walk : goal.returns-clause-walk
returns-clause-walk c =
    let o = c.args.pass.now in
    let p = c.loop-below.pass in
    let walking = c.loop-below.invariant.walking in
    let inside = c.loop-below.invariant.inside in
    let end = c.loop-below-test.false in
    let size = c.reach-below-end.ensures.reach in
    let layout = ap reach c.layout-layout.ensures in
    broken_off c.args.stop c.args.shared.now.layout c.args.key o.view.log p.view.log _
    (inl (too_long c.args.shared.now c.args.key c.requires.key c.loop-below._below o.view.log
    c.loop-below.seek_record c.loop-below.chain.items p
    (pinned_in_still c.args.shared.now o p walking.on c.requires.pinned) walking.walk
    (omega (arith, inside, end, size, layout))))
