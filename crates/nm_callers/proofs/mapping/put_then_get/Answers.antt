use Rattle.std.proofs.Common.{ap, subst, Bool}
use Rattle.std.specs.Prelude.{Ok}
use Rattle.nm_edge.specs.Keys.{IsKey}
use Rattle.nm_model.specs.declared.event.Op.TheVariants.{Insert}
use Rattle.nm_set.specs.Maps.{SaysChange}
use Rattle.nm_callers.proofs.MappedMembers.{finds, finds_some, puts_then_gets}
use Rattle.nm_callers.proofs.mapping.put_then_get.Goals as goal

pub returns-clause-answers : goal.returns-clause-answers
returns-clause-answers c =
    let w = c.args.member.now.worker in
    let x = c.insert.new.self.worker in
    let z = c.get-found.new.self.worker in
    puts_then_gets c.args.member.now.tree c.insert.new.self.tree c.args.options.now c.args.key c.args.value w x z
    c.get-found.result c.ok.result c.ok.ensures.value
    (c.in-Ok-true.ensures.puts (ap Ok c.in-Ok-true.field-0-test)) c.get-found.ensures.says

pub returns-clause-found : goal.returns-clause-found
returns-clause-found c none unreplaced =
    let b = c.args.member.now.tree in
    let w = c.args.member.now.worker in
    let x = c.insert.new.self.worker in
    let z = c.get-found.new.self.worker in
    let says = subst (λ (a : Bool). SaysChange Insert b c.args.options.now c.args.key w x (Ok a))
    c.in-Ok-true.field-0-test c.in-Ok-true.ensures.says in
    finds b c.insert.new.self.tree c.args.options.now c.args.key c.args.value w x z c.get-found.result c.ok.result
    c.ok.ensures.value
    (subst IsKey c.get-number.ensures.number c.get-number.ensures.fits) c.know_run.ensures.seen
    c.know_run.ensures.fits c.know_run.ensures.turns.plain_set says
    (c.in-Ok-true.ensures.puts (ap Ok c.in-Ok-true.field-0-test)) none unreplaced c.get-found.ensures.says

pub returns-clause-there : goal.returns-clause-there
returns-clause-there c none =
    let b = c.args.member.now.tree in
    let w = c.args.member.now.worker in
    let x = c.insert.new.self.worker in
    let z = c.get-found.new.self.worker in
    finds_some b c.insert.new.self.tree c.args.options.now c.args.key c.args.value w x z c.get-found.result c.ok.result
    c.ok.ensures.value (subst IsKey c.get-number.ensures.number c.get-number.ensures.fits)
    c.know_run.ensures.turns.plain_set
    (subst (λ (a : Bool). SaysChange Insert b c.args.options.now c.args.key w x (Ok a)) c.in-Ok-true.field-0-test
    c.in-Ok-true.ensures.says) none c.get-found.ensures.says
