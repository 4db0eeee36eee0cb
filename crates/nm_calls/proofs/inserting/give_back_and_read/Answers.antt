use Rattle.nm_order.specs.Facts.Fact.{EndedAt}
use Rattle.nm_order.specs.Facts.Since.{ThePin}
use Rattle.nm_walks.proofs.GoingOn.{goes_then}
use Rattle.nm_calls.proofs.FoundValues.{found_slot, given_and_looked, makes_and_looks, read_found, returned_and_looked}
use Rattle.nm_calls.proofs.inserting.give_back_and_read.Goals as goal

pub read_value-requires-clause-slot : goal.read_value-requires-clause-slot
read_value-requires-clause-slot c = found_slot c.args.shared.now c.args.pass.now c.requires.own
    (record { fits = c.know_run.ensures.fits; run = c.know_run.ensures.run }) c.know_run.ensures.seen c.args.leaf
    c.requires.ended

pub returns-clause-part : goal.returns-clause-part
returns-clause-part c = returned_and_looked c.args.pass.now c.args.pass.now c.give_back.new.pass
    c.read_value.new.pass c.read_value.ensures.same c.args.new_nodes.now c.give_back.ensures.part

pub returns-clause-given : goal.returns-clause-given
returns-clause-given c = λ o has. given_and_looked o c.args.pass.now c.give_back.new.pass c.read_value.new.pass
    c.read_value.ensures.same (c.give_back.ensures.given o has)

pub returns-clause-on : goal.returns-clause-on
returns-clause-on c = goes_then c.args.pass.now c.give_back.new.pass c.read_value.new.pass c.give_back.ensures.on
    c.read_value.ensures.on

pub returns-clause-only : goal.returns-clause-only
returns-clause-only c = makes_and_looks c.args.pass.now c.args.pass.now c.give_back.new.pass c.read_value.new.pass
    c.read_value.ensures.same c.give_back.ensures.only

pub returns-clause-read : goal.returns-clause-read
returns-clause-read c = λ values k ended.
    let m = c.read_value.new.pass in
    let on = goes_then c.args.pass.now c.give_back.new.pass m c.give_back.ensures.on c.read_value.ensures.on in
    let saw = c.read_value.ensures.sees values in
    read_found m on.run k c.args.leaf c.read_value.new.found
    (ended.0, ended.1, on.keeps (EndedAt ThePin k c.args.leaf ended.0 ended.1 k) ended.2) saw.0 saw.1
