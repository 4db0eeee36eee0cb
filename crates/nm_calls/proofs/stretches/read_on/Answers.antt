use Rattle.std.proofs.Common.{◌≡◌, ◌+◌, ℕ, inl, inr, sym, subst}
use Rattle.std.specs.Prelude.{⊤}
use Rattle.nm_edge.specs.declared.edge.Side.TheVariants.{Right}
use Rattle.nm_model.specs.declared.event.Event.TheVariants.{Look}
use Rattle.nm_model.specs.declared.event.Field.TheVariants.{Edge as EdgeOn}
use Rattle.nm_model.specs.declared.reply.Reply.TheVariants.{EdgeIs}
use Rattle.nm_order.specs.Facts.Fact.{KnowsSlot}
use Rattle.nm_calls.specs.declared.stretches.Stretch.{Stretch}
use Rattle.nm_calls.specs.PlainWalks.{HasEndedAt}
use Rattle.nm_calls.specs.Scans.{IsStretch}
use Rattle.nm_steps.specs.Steps.{Stepped}
use Rattle.nm_walks.specs.Telling.{EdgeTold, OnwardTold, Tells}
use Rattle.nm_walks.specs.Walks.{IsLeafRead, Reads}
use Rattle.nm_walks.proofs.PlainLooks.{read_added}
use Rattle.nm_calls.proofs.PlainLooks.{look_added}
use Rattle.nm_calls.proofs.ScanLooks.{chosen, leaf_on, leaf_right, lower_still, stretch_on, stretch_sooner, stretches_still, upper_on}
use Rattle.nm_calls.proofs.stretches.read_on.Goals as goal
use Rattle.nm_calls.proofs.stretches.read_on.Goals.{then-is_null-via-then-is_null, then-is_null-via-else-is_null+then-on-stretch, then-is_null-via-else-is_null+else-on-stretch+then-stretch-on}

pub read_node-on-requires-clause-known : goal.read_node-on-requires-clause-known
read_node-on-requires-clause-known c = subst (λ (x : ℕ). Tells c.args.pass.now (KnowsSlot x))
    (sym c.slot-node.ensures) c.requires.known

pub look_edge-right-requires-clause-known : goal.look_edge-right-requires-clause-known
look_edge-right-requires-clause-known c = c.read_node-on.ensures.on.keeps (KnowsSlot c.slot-node.result)
    (subst (λ (x : ℕ). Tells c.args.pass.now (KnowsSlot x)) (sym c.slot-node.ensures) c.requires.known)

pub returns-then-is_null-clause-walks : goal.returns-then-is_null-clause-walks
returns-then-is_null-clause-walks c end n w all =
    let side = c.args.side in
    let p = c.args.pass.now in
    let q = c.read_node-on.new.pass in
    let d = c.args.stretch.now in
    let on = c.read_node-on.result in
    let did = c.read_node-on.ensures in
    let is = c.slot-node.ensures in
    let looks = subst (λ (x : ℕ). Reads d.low x p.view.log q.view.log on) is did.looks in
    let told = subst (λ (x : ℕ). OnwardTold p q d.low x on.found on.side on.next) is did.told in
    let leaf = subst (λ (x : ℕ). IsLeafRead x p.view.log q.view.log on) is did.leaf in (
      stretch_on side end n p q d on looks told w c.requires.some leaf (λ more.
          elim c.then-is_null.branch [
            | then-is_null-via-then-is_null v ↦ absurd (more (c.is_null.ensures.yes v.if-is_null.true))
            | then-is_null-via-else-is_null+then-on-stretch v ↦ inl v.if-on-stretch.true
            | then-is_null-via-else-is_null+else-on-stretch+then-stretch-on v ↦ inr v.if-stretch-on.true
          ]),
      stretches_still side end 0 p q (read_added d.low d.next.slot p.view.log q.view.log on looks) did.on
          c.args.stretches.now.items all,
    )

pub returns-clause-walks : goal.returns-clause-walks
returns-clause-walks c end n w all =
    let side = c.args.side in
    let p = c.args.pass.now in
    let q = c.read_node-on.new.pass in
    let z = c.look_edge-right.new.pass in
    let d = c.args.stretch.now in
    let on = c.read_node-on.result in
    let did = c.read_node-on.ensures in
    let is = c.slot-node.ensures in
    let looks = subst (λ (x : ℕ). Reads d.low x p.view.log q.view.log on) is did.looks in
    let told = subst (λ (x : ℕ). OnwardTold p q d.low x on.found on.side on.next) is did.told in
    let e = c.look_edge-right.result in
    let then = c.look_edge-right.ensures in
    let step = subst (λ (x : ℕ). Stepped q z (Look x (EdgeOn Right)) (EdgeIs e)) is then.step in
    let edge = subst (λ (x : ℕ). EdgeTold q z x Right e) is then.told in
    let more = c.is_null.ensures.no c.if-is_null.false in
    let lower : Stretch = record { low = d.low; high = on.found; next = on.next; found = on.found } in
    let upper : Stretch = record { low = on.found; high = d.high; next = e; found = on.found } in
    chosen side (IsStretch side end (n + 1) z) (IsStretch side end 0 z) c.args.stretches.now.items
    c.choose.new.stretches.items lower upper c.choose.result c.choose.ensures
    (stretches_still side end 0 q z (look_added q z d.next.slot Right e step) then.on c.args.stretches.now.items
    (stretches_still side end 0 p q (read_added d.low d.next.slot p.view.log q.view.log on looks) did.on
    c.args.stretches.now.items all))
    (lower_still side end n p q d on looks told w c.requires.some more c.if-on-stretch.false c.if-stretch-on.false z
    e step then.on edge)
    (upper_on side end n p q d on looks told w c.requires.some more c.if-on-stretch.false c.if-stretch-on.false z e
    step then.on edge)
    (stretch_sooner side end (n + 1) z)

pub returns-then-is_null-clause-hit : goal.returns-then-is_null-clause-hit
returns-then-is_null-clause-hit c end n w null le less =
    let p = c.args.pass.now in
    let q = c.read_node-on.new.pass in
    let d = c.args.stretch.now in
    let on = c.read_node-on.result in
    let did = c.read_node-on.ensures in
    let is = c.slot-node.ensures in
    leaf_on c.args.side end n p q d on (subst (λ (x : ℕ). Reads d.low x p.view.log q.view.log on) is did.looks)
    (subst (λ (x : ℕ). OnwardTold p q d.low x on.found on.side on.next) is did.told) w c.requires.some
    (subst (λ (x : ℕ). IsLeafRead x p.view.log q.view.log on) is did.leaf) null le less

pub returns-clause-hit : goal.returns-clause-hit
returns-clause-hit c end n w null le less =
    let side = c.args.side in
    let p = c.args.pass.now in
    let q = c.read_node-on.new.pass in
    let z = c.look_edge-right.new.pass in
    let d = c.args.stretch.now in
    let on = c.read_node-on.result in
    let did = c.read_node-on.ensures in
    let is = c.slot-node.ensures in
    let looks = subst (λ (x : ℕ). Reads d.low x p.view.log q.view.log on) is did.looks in
    let told = subst (λ (x : ℕ). OnwardTold p q d.low x on.found on.side on.next) is did.told in
    let e = c.look_edge-right.result in
    let then = c.look_edge-right.ensures in
    let step = subst (λ (x : ℕ). Stepped q z (Look x (EdgeOn Right)) (EdgeIs e)) is then.step in
    let edge = subst (λ (x : ℕ). EdgeTold q z x Right e) is then.told in
    let more = c.is_null.ensures.no c.if-is_null.false in
    let lower : Stretch = record { low = d.low; high = on.found; next = on.next; found = on.found } in
    let upper : Stretch = record { low = on.found; high = d.high; next = e; found = on.found } in
    (chosen side (λ (x : Stretch). x.next.slot ≡ 0 → HasEndedAt z x.found d.next.slot) (λ (x : Stretch). ⊤)
    c.args.stretches.now.items c.choose.new.stretches.items lower upper c.choose.result c.choose.ensures
    (λ k x below. tt) (λ none. absurd (more none))
    (leaf_right side end n p q d on looks told w c.requires.some more c.if-on-stretch.false c.if-stretch-on.false z e
    step then.on edge)
    (λ x is'. tt)).0 null
