use Rattle.std.proofs.Common.{◌≡◌, false}
use Rattle.nm_callers.proofs.Answered.{if_answered}
use Rattle.nm_callers.proofs.OnlyWorkers.{only_finds_nothing}
use Rattle.nm_callers.proofs.fresh.look_only.Goals as goal

pub returns-clause-missed : goal.returns-clause-missed
returns-clause-missed c =
    let m = c.args.member.now in
    let z = c.contains-found.new.self in
    if_answered c.contains-found.result c.ok.result (λ answer. answer ≡ false) c.ok.ensures.value
    (only_finds_nothing m.tree z.tree c.args.options.now c.args.key m z.worker c.contains-found.result c.requires.new
    c.requires.one c.contains-found.ensures.tree c.know_run.ensures.own c.know_run.ensures.turns
    c.contains-found.ensures.says)
