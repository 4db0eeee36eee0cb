use Rattle.std.proofs.Common.{◌≡◌, ◌+◌, ◌*◌, ◌∙◌, ℕ, subst, sym, arith}
use Rattle.std.specs.Prelude.{length, take}
use Rattle.nm_edge.specs.declared.edge.Side.{Side}
use Rattle.nm_order.specs.Facts.Fact.{KnowsSlot}
use Rattle.nm_walks.specs.Bounds.{reach}
use Rattle.nm_calls.specs.declared.scan_plan.What.{What}
use Rattle.nm_calls.specs.MapScans.{keys_in}
use Rattle.nm_calls.specs.NearKeys.{bound}
use Rattle.nm_calls.specs.PlainWalks.{HasEndedSo}
use Rattle.nm_calls.specs.Scans.{IsFull, IsRangeBy, end_of, entry_of, leg_looks}
use Rattle.nm_calls.proofs.Adding.{mul_below}
use Rattle.nm_calls.proofs.PlainLooks.{looks_in, looks_then}
use Rattle.nm_calls.proofs.ScanLooks.{early_in, end_cut, gives_up}
use Rattle.nm_calls.proofs.scanning.scan_pinned.Goals as goal

pub write_all-requires-clause-known : goal.write_all-requires-clause-known
write_all-requires-clause-known c = c.walk_down-first.ensures.on.keeps (KnowsSlot 2)
    (c.begin-begun.ensures.on.keeps (KnowsSlot 2) c.requires.known)

pub returns-then-not-is_null-clause-looks : goal.returns-then-not-is_null-clause-looks
returns-then-not-is_null-clause-looks c =
    let o = c.args.pass.now in
    let p = c.begin-begun.new.pass in
    let q = c.walk_down-first.new.pass in
    let most = leg_looks (reach c.args.shared.now.layout) in
    let some = c.requires.some in
    let few = mul_below 0 c.args.tries most (omega (arith, some)) in
    looks_in ((0 + c.args.tries) * most) o.view.log q.view.log (omega (arith, few))
    (looks_then o.view.log p.view.log q.view.log c.begin-begun.ensures.looks c.walk_down-first.ensures.looks)

pub returns-then-not-is_null-clause-given_up : goal.returns-then-not-is_null-clause-given_up
returns-then-not-is_null-clause-given_up c =
    let o = c.args.pass.now in
    let p = c.begin-begun.new.pass in
    let q = c.walk_down-first.new.pass in
    let first = c.walk_down-first.result in
    let did = c.walk_down-first.ensures in
    gives_up c.args.shared.now.layout c.args.side c.args.from first o.view.log q.view.log did.walks.wide
    (subst (λ (side : Side). entry_of side first ≡ bound c.args.side c.args.from) c.plan_of-plan.ensures.side
    (did.entry ∙ c.begin-begun.ensures.entry ∙ c.start_at-start.ensures))
    (did.long (c.is_null.ensures.no c.if-not-is_null.true))
    (looks_in (leg_looks (reach c.args.shared.now.layout)) o.view.log q.view.log (omega arith)
    (looks_then o.view.log p.view.log q.view.log c.begin-begun.ensures.looks did.looks))

pub returns-clause-looks : goal.returns-clause-looks
returns-clause-looks c =
    let o = c.args.pass.now in
    let p = c.begin-begun.new.pass in
    let q = c.walk_down-first.new.pass in
    let z = c.write_all.new.pass in
    let most = leg_looks (reach c.args.shared.now.layout) in
    let legs = c.write_all.ensures.looks in
    let few = legs.1 in
    let less = mul_below legs.0 (c.write_all.result.count + c.args.tries) most (omega (arith, few)) in
    looks_in ((c.write_all.result.count + c.args.tries) * most) o.view.log z.view.log (omega (arith, less))
    (looks_then o.view.log q.view.log z.view.log (looks_then o.view.log p.view.log q.view.log
    c.begin-begun.ensures.looks c.walk_down-first.ensures.looks) legs.2)

pub returns-clause-told : goal.returns-clause-told
returns-clause-told c =
    let z = c.write_all.new.pass in
    let plan = c.plan_of-plan.ensures in
    let s = c.write_all.result in
    let keys = take s.count (keys_in c.args.what c.write_all.new.out c.write_all.new.entries) in
    let enters = c.walk_down-first.ensures.entry ∙ c.begin-begun.ensures.entry ∙ c.start_at-start.ensures in
    end_cut c.plan_of-plan.result.end c.args.to plan.end.0 plan.end.1 c.args.side (HasEndedSo z)
    (bound c.args.side c.args.from) s.next keys
    (subst (λ (side : Side). IsRangeBy side (HasEndedSo z) (bound c.args.side c.args.from)
    (end_of side c.plan_of-plan.result.end s.next) keys) plan.side
    (subst (λ (start : ℕ). IsRangeBy c.plan_of-plan.result.side (HasEndedSo z) start
    (end_of c.plan_of-plan.result.side c.plan_of-plan.result.end s.next) keys) enters
    (subst (λ (w : What). IsRangeBy c.plan_of-plan.result.side (HasEndedSo z)
    (entry_of c.plan_of-plan.result.side c.walk_down-first.result)
    (end_of c.plan_of-plan.result.side c.plan_of-plan.result.end s.next)
    (take s.count (keys_in w c.write_all.new.out c.write_all.new.entries))) plan.what c.write_all.ensures.told)))

pub returns-clause-leaves : goal.returns-clause-leaves
returns-clause-leaves c what = c.write_all.ensures.leaves (c.plan_of-plan.ensures.what ∙ what)

pub returns-clause-early : goal.returns-clause-early
returns-clause-early c =
    let places = length (keys_in c.args.what c.write_all.new.out c.write_all.new.entries) in
    let room = c.plan_of-plan.result.room in
    let as_many = subst (λ (w : What). length (keys_in w c.write_all.new.out c.write_all.new.entries)
    ≡ length (keys_in w c.args.out.now c.args.entries.now)) c.plan_of-plan.ensures.what
    c.write_all.ensures.places in
    early_in c.args.shared.now.layout c.write_all.new.pass c.args.tries room places c.write_all.result.count
    c.write_all.result.next (subst (λ (n : ℕ). IsFull n room) (c.places.ensures ∙ sym as_many)
    c.plan_of-plan.ensures.limit) c.write_all.ensures.early
