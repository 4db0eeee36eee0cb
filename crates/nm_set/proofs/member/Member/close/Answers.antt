use Rattle.std.proofs.Common.{subst}
use Rattle.nm_tree.specs.Workers.{WorkerView}
use Rattle.nm_set.specs.Posts.{HasSat, IsReturned}
use Rattle.nm_set.specs.Seats.{seats_in}
use Rattle.nm_set.proofs.LettingGo.{done_before}
use Rattle.nm_set.proofs.member.Member.close.Goals as goal

returned : (g : _) (c : goal.After-of g) → IsReturned c.let_go.new.self.worker c.of.result
returned g c =
    let sat = c.receive-sat.result in
    c.of.ensures.returned c.let_go.new.self.worker (subst
    (λ (u : WorkerView). HasSat (seats_in c.apart-home.result.0) u sat.done sat.note sat.ticket)
    c.apart-home.ensures.worker c.receive-sat.ensures)

pub returns-clause-did : goal.returns-clause-did
returns-clause-did g c = (c.let_go.new.self.worker, c.let_go.ensures.did, returned g c)

pub returns-clause-tally : goal.returns-clause-tally
returns-clause-tally g c =
    let before = c.know_run.ensures in
    let behind = c.know_run-2.ensures in
    done_before c.of.result.done c.args.self.worker c.let_go.new.self.worker before.seen behind.seen before.between
    behind.between c.let_go.ensures.did (returned g c).tally
