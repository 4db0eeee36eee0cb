use Rattle.std.proofs.Common.{◌≡◌, ◌+◌, ℕ, List, length, arith}
use Rattle.nm_walks.specs.WonCounts.{won_flags, won_links}
use Rattle.nm_tree.specs.Workers.{WorkerView}
use Rattle.nm_callers.proofs.Working.{new_won}
use Rattle.nm_callers.proofs.sharing.share_tasks.Goals as goal

pub returns : goal.returns
returns c =
    let b = c.in-Ok.set.tree in
    let f = c.in-Ok.set.fit in
    let new = c.in_ok-one.ensures.new b f c.in-Ok.ensures.new in
    let x : WorkerView = c.add_tasks.new.member.worker in
    let y : WorkerView = c.add_tasks-2.new.member.worker in
    let z : WorkerView = c.take_tasks.new.member.worker in
    let left : List ℕ = c.in_ok-report.report.keys.items in
    let one = new_won b f 0 c.in_ok-one.one x c.in_ok-first.first 0 new.0 c.in_ok-first.ensures.did in
    let two = new_won b f 1 c.in_ok-one.two y c.in_ok-second.second 0 new.1 c.in_ok-second.ensures.did in
    let three = new_won b f 2 c.in_ok-one.three z 0 (length c.in_ok-taken.taken.items) new.2
    c.in_ok-taken.ensures.did in
    let sum : 0 + won_links x.pass.view.log + won_links y.pass.view.log + won_links z.pass.view.log
    ≡ 0 + won_flags x.pass.view.log + won_flags y.pass.view.log + won_flags z.pass.view.log
    + length left = c.in_ok-report.ensures in
    let a = one.0 in let a' = one.1 in let d = two.0 in let d' = two.1 in let e = three.0 in let e' = three.1 in
    omega (arith, sum, a, a', d, d', e, e')
