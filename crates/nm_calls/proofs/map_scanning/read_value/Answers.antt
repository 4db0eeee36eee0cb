use Rattle.std.proofs.Common.{◌≤◌, arith, subst}
use Rattle.nm_edge.specs.Layouts.{Layout}
use Rattle.nm_walks.proofs.ValueLooks.{goes_by_value}
use Rattle.nm_calls.proofs.ScannedEntries.{entry_read, leaf_fits}
use Rattle.nm_calls.proofs.map_scanning.read_value.Goals as goal

pub overflow_cast-entry : goal.overflow_cast-entry
overflow_cast-entry c =
    let within = (leaf_fits c.args.pass.now c.know_run.ensures.fits c.know_run.ensures.seen c.args.entry.now
    c.requires.leaf).1 in
    let most = c.know_run.ensures.fits.most in
    omega (arith, within, most)

pub look_value-entry-requires-clause-slot : goal.look_value-entry-requires-clause-slot
look_value-entry-requires-clause-slot c =
    let within = leaf_fits c.args.pass.now c.know_run.ensures.fits c.know_run.ensures.seen c.args.entry.now
    c.requires.leaf in
    (within.0, subst (λ (L : Layout). c.args.entry.now.value ≤ L.nodes) c.requires.pinned.own.layout within.1)

pub returns-clause-read : goal.returns-clause-read
returns-clause-read c =
    let p = c.args.pass.now in
    let m = c.look_value-entry.new.pass in
    let looks = c.look_value-entry.ensures.looks in
    entry_read p m looks c.know_run.ensures.fits (goes_by_value p m looks c.know_run.ensures.fits) c.args.entry.now
    c.look_value-entry.result c.requires.leaf c.look_value-entry.ensures.value
