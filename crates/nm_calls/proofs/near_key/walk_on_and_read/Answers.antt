use Rattle.std.proofs.Common.{ap, subst, sym}
use Rattle.nm_edge.specs.Layouts.{IsLayout}
use Rattle.nm_steps.specs.Steps.{PassView}
use Rattle.nm_walks.proofs.GoingOn.{own_still}
use Rattle.nm_calls.proofs.NearValues.{leaf_slot, leaf_with_key, read_near}
use Rattle.nm_calls.proofs.near_key.walk_on_and_read.Goals as goal

pub look_value-requires-clause-slot : goal.look_value-requires-clause-slot
look_value-requires-clause-slot c =
    let p = c.walk_on.new.pass in
    let found = c.in-Ok-Some.ensures in
    leaf_slot c.args.shared.now p (own_still c.args.shared.now c.args.pass.now p c.requires.pinned.own found.on.same)
    c.know_run.ensures.fits c.know_run.ensures.seen c.in-Ok-Some.found c.walk_on.new.leaf
    (leaf_with_key p c.args.side c.args.key c.walk_on.new.leaf c.in-Ok-Some.found c.in-Ok-Some.field-0
    c.in-Ok-Some.field-0-is found.near found.ended)

pub returns-in-Ok-Some-clause-read : goal.returns-in-Ok-Some-clause-read
returns-in-Ok-Some-clause-read c =
    let p = c.walk_on.new.pass in
    let m = c.look_value.new.pass in
    let found = c.in-Ok-Some.ensures in
    let looked = c.look_value.ensures.looks in
    read_near p m (ap (λ (x : PassView). x.view.log) looked.same)
    (subst (λ (x : PassView). IsLayout x.view.layout) (sym looked.same) c.know_run.ensures.fits) c.in-Ok-Some.found
    c.walk_on.new.leaf c.look_value.result
    (leaf_with_key p c.args.side c.args.key c.walk_on.new.leaf c.in-Ok-Some.found c.in-Ok-Some.field-0
    c.in-Ok-Some.field-0-is found.near found.ended) looked.seen c.look_value.ensures.value
