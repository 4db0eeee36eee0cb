use Rattle.std.proofs.Common.{refl}
use Rattle.nm_steps.proofs.Seeing.{seen_by_turn}
use Rattle.nm_walks.proofs.Looks.{may_look, goes_on, only_looks, birth_told}
use Rattle.nm_walks.proofs.looking.look_birth.Goals as goal

pub look_birth-birth-requires-clause-may : goal.look_birth-birth-requires-clause-may
look_birth-birth-requires-clause-may c = may_look c.args.pass.now c.args.slot _ c.requires.pinned.run
    c.requires.pinned.pin c.requires.known

pub returns-clause-on : goal.returns-clause-on
returns-clause-on c = goes_on c.args.pass.now c.look_birth-birth.new.pass _ _ c.look_birth-birth.ensures.took.step
    (seen_by_turn _ _ _ _ c.look_birth-birth.ensures.took.past) c.look_birth-birth.ensures.took.stores refl refl
    c.know_run.ensures.fits c.know_run.ensures.run

pub returns-clause-born : goal.returns-clause-born
returns-clause-born c = birth_told c.args.pass.now c.look_birth-birth.new.pass c.args.slot c.know_run.ensures.fits
    c.know_run.ensures.run c.look_birth-birth.result c.look_birth-birth.ensures.took.step c.requires.known

pub returns-clause-only : goal.returns-clause-only
returns-clause-only c = only_looks c.args.pass.now c.look_birth-birth.new.pass c.args.slot _ _
    c.look_birth-birth.ensures.took.step c.requires.pinned.run c.requires.known
