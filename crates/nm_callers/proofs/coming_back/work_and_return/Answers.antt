use Rattle.std.proofs.Common.{◌≡◌, ◌+◌, ℕ, List, length, arith}
use Rattle.nm_walks.specs.WonCounts.{won_flags, won_links}
use Rattle.nm_tree.specs.Workers.{WorkerView}
use Rattle.nm_callers.proofs.Working.{new_won}
use Rattle.nm_callers.proofs.coming_back.work_and_return.Goals as goal

pub returns : goal.returns
returns c =
    let b = c.in-Ok.set.tree in
    let f = c.in-Ok.set.fit in
    let x : WorkerView = c.add_tasks.new.member.worker in
    let y : WorkerView = c.take_tasks.new.member.worker in
    let left : List ℕ = c.in_ok-report.report.keys.items in
    let one = new_won b f 0 c.in_ok-one.one x c.in_ok-added.added 0 c.in_ok-one.ensures c.in_ok-added.ensures.did in
    let two = new_won b f 1 c.in_ok-two.two y 0 (length c.in_ok-taken.taken.items) c.in_ok-two.ensures
    c.in_ok-taken.ensures.did in
    let sum : 0 + won_links x.pass.view.log + won_links y.pass.view.log
    ≡ 0 + won_flags x.pass.view.log + won_flags y.pass.view.log + length left = c.in_ok-report.ensures in
    let a = one.0 in let a' = one.1 in let d = two.0 in let d' = two.1 in
    omega (arith, sum, a, a', d, d')
