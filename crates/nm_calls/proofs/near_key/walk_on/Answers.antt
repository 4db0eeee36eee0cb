use Rattle.std.proofs.Common.{ℕ, refl}
use Rattle.std.specs.Prelude.{IfSome, Option}
use Rattle.nm_order.specs.Facts.Fact.{KnowsSlot}
use Rattle.nm_walks.specs.Bounds.{reach}
use Rattle.nm_calls.specs.NearKeys.{IsNearBy}
use Rattle.nm_calls.specs.PlainWalks.{HasEndedAt, HasEndedSo, most_looks}
use Rattle.nm_walks.proofs.GoingOn.{goes_then, only_then}
use Rattle.nm_calls.proofs.NearLooks.{walks_then, walks_within, earlier_still, hit_at, is_near, none_near, none_more, none_until, next_lies, next_is_key, key_made}
use Rattle.nm_calls.proofs.near_key.walk_on.Goals as goal

pub walk_down-walk-requires-clause-known : goal.walk_down-walk-requires-clause-known
walk_down-walk-requires-clause-known c = c.loop-walk.invariant.on.keeps (KnowsSlot 2) c.requires.known

pub returns-then-walk-ne0-clause-looks : goal.returns-then-walk-ne0-clause-looks
returns-then-walk-ne0-clause-looks c = walks_within c.loop-walk._walk c.args.tries _ _ c.loop-walk.pass.view.log _
    c.loop-walk-test.true c.loop-walk.invariant.looks c.walk_down-walk.ensures.looks

pub returns-then-hits-clause-looks : goal.returns-then-hits-clause-looks
returns-then-hits-clause-looks c = walks_within c.loop-walk._walk c.args.tries _ _ c.loop-walk.pass.view.log _
    c.loop-walk-test.true c.loop-walk.invariant.looks c.walk_down-walk.ensures.looks

pub returns-in_default-clause-looks : goal.returns-in_default-clause-looks
returns-in_default-clause-looks c = walks_within c.loop-walk._walk c.args.tries _ _ c.loop-walk.pass.view.log _
    c.loop-walk-test.true c.loop-walk.invariant.looks c.walk_down-walk.ensures.looks

pub returns-then-hits-clause-near : goal.returns-then-hits-clause-near
returns-then-hits-clause-near c =
    let q = c.walk_down-walk.new.pass in
    let walk = c.walk_down-walk.result in
    let held = c.loop-walk.invariant in
    let did = c.walk_down-walk.ensures in
    let earlier = earlier_still c.args.side c.loop-walk.pass q did.looks c.args.key c.loop-walk.from held.earlier in
    let is = is_near c.args.side c.args.shared.now.layout did.under_way.0 c.loop-walk.pass q c.args.key
    c.loop-walk.from walk did.under_way.1 did.from c.if-walk-ne0.false held.beyond earlier held.is_key
    (c.hits.ensures.yes c.if-hits.true) in
    key_made c.new.result walk.found (IsNearBy c.args.side (HasEndedSo q) c.args.key) is.1 c.new.ensures is

pub returns-then-hits-clause-ended : goal.returns-then-hits-clause-ended
returns-then-hits-clause-ended c =
    let q = c.walk_down-walk.new.pass in
    let walk = c.walk_down-walk.result in
    let held = c.loop-walk.invariant in
    let did = c.walk_down-walk.ensures in
    let hit = c.hits.ensures.yes c.if-hits.true in
    let earlier = earlier_still c.args.side c.loop-walk.pass q did.looks c.args.key c.loop-walk.from held.earlier in
    let is = is_near c.args.side c.args.shared.now.layout did.under_way.0 c.loop-walk.pass q c.args.key
    c.loop-walk.from walk did.under_way.1 did.from c.if-walk-ne0.false held.beyond earlier held.is_key hit in
    let at = hit_at c.args.side c.args.shared.now.layout did.under_way.0 c.loop-walk.pass q c.args.key
    c.loop-walk.from walk did.under_way.1 did.from c.if-walk-ne0.false held.beyond earlier hit in
    key_made c.new.result walk.found (λ (o : Option ℕ). IfSome o (λ k. HasEndedAt q k walk.leaf)) is.1 c.new.ensures at

pub returns-in_default-clause-near : goal.returns-in_default-clause-near
returns-in_default-clause-near c =
    let q = c.walk_down-walk.new.pass in
    let held = c.loop-walk.invariant in
    let did = c.walk_down-walk.ensures in
    let earlier = earlier_still c.args.side c.loop-walk.pass q did.looks c.args.key c.loop-walk.from held.earlier in
    none_near c.args.side c.args.shared.now.layout did.under_way.0 c.loop-walk.pass q c.args.key c.loop-walk.from
    c.walk_down-walk.result did.under_way.1 did.from c.if-walk-ne0.false held.beyond earlier
    (c.hits.ensures.no c.if-hits.false) (c.in_default.ensures.none refl)

pub loop-walk-preserved : goal.loop-walk-preserved
loop-walk-preserved c =
    let side = c.args.side in
    let L = c.args.shared.now.layout in
    let o = c.args.pass.now in
    let p = c.loop-walk.pass in
    let q = c.walk_down-walk.new.pass in
    let walk = c.walk_down-walk.result in
    let held = c.loop-walk.invariant in
    let did = c.walk_down-walk.ensures in
    let n = did.under_way.0 in
    let w = did.under_way.1 in
    let null = c.if-walk-ne0.false in
    let earlier = earlier_still side p q did.looks c.args.key c.loop-walk.from held.earlier in
    let miss = c.hits.ensures.no c.if-hits.false in
    let next = c.in-Some.ensures.some in
    record {
      looks = walks_then c.loop-walk._walk (most_looks (reach L) 1) o.view.log p.view.log q.view.log held.looks
          did.looks;
      is_key = next_is_key side L n p q c.args.key c.loop-walk.from walk w did.from null held.beyond earlier miss
          c.in-Some.next next.0 next.1 held.is_key;
      beyond = next_lies side L n p q c.args.key c.loop-walk.from walk w did.from null held.beyond earlier miss
          c.in-Some.next next.0 next.1;
      earlier = none_until side L n p q c.args.key c.loop-walk.from walk w did.from null held.beyond earlier miss
          c.in-Some.next next.0 next.1;
      walked = none_more side L n p q c.args.key c.loop-walk.from walk w did.from null held.beyond earlier miss
          c.in-Some.next next.0 next.1 c.loop-walk._walk o.view.log held.walked;
      on = goes_then o p q held.on did.on;
      only = only_then o p q held.only did.only;
    }
