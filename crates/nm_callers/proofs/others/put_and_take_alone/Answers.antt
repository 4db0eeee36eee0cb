use Rattle.std.proofs.Common.{rules, ◌≡◌, ◌∙◌, ◌+◌, ℕ, length, ap}
use Rattle.nm_edge.specs.Keys.{IsKey}
use Rattle.nm_edge.specs.Layouts.{Layout}
use Rattle.nm_model.specs.declared.event.Op.TheVariants.{Has, Insert, Delete}
use Rattle.nm_steps.specs.declared.view.View.{View}
use Rattle.nm_steps.specs.Steps.{TreeView}
use Rattle.nm_walks.specs.WonCounts.{won_links, won_flags}
use Rattle.nm_tree.specs.Workers.{WorkerView}
use Rattle.nm_set.specs.Filling.{OthersRest}
use Rattle.nm_set.proofs.Rests.{rests_below}
use Rattle.nm_callers.proofs.FourCalls.{is_added, is_there, is_removed, is_gone, same_number}
use Rattle.nm_callers.proofs.others.put_and_take_alone.Goals as goal

pub returns-clause-told : goal.returns-clause-told
returns-clause-told c =
    let h = c.args.options.now in
    let k = c.args.key in
    let key : IsKey k = search rules in
    let n : ℕ = length c.args.others.items in
    let b1 : TreeView = c.args.member.now.tree in
    let b2 : TreeView = c.insert.new.self.tree in
    let b3 : TreeView = c.contains.new.self.tree in
    let b4 : TreeView = c.remove.new.self.tree in
    let y0 : WorkerView = c.args.member.now.worker in
    let y1 : WorkerView = c.insert.new.self.worker in
    let y2 : WorkerView = c.contains.new.self.worker in
    let y3 : WorkerView = c.remove.new.self.worker in
    let y4 : WorkerView = c.contains-2.new.self.worker in
    let a1 = c.in-Ok.added in
    let a2 = c.in-Ok-contains.there in
    let a3 = c.in-Ok-remove.removed in
    let a4 = c.in-Ok-contains-2.still in
    let s1 = c.in-Ok.ensures.says in
    let s2 = c.in-Ok-contains.ensures.says in
    let s3 = c.in-Ok-remove.ensures.says in
    let s4 = c.in-Ok-contains-2.ensures.says in
    let links : won_links y0.pass.view.log ≡ 0 = ap (λ (v : View). won_links v.log) c.requires.new.new.1 in
    let flags : won_flags y0.pass.view.log ≡ 0 = ap (λ (v : View). won_flags v.log) c.requires.new.new.1 in
    let number : y4.pass.view.number ≡ n = same_number Has b4 h k y3 y4 a4 s4
    ∙ (same_number Delete b3 h k y2 y3 a3 s3 ∙ (same_number Has b2 h k y1 y2 a2 s2
    ∙ (same_number Insert b1 h k y0 y1 a1 s1 ∙ ap (λ (v : View). v.number) c.requires.new.new.1))) in
    let tree = c.contains-2.ensures.tree ∙ (c.remove.ensures.tree
    ∙ (c.contains.ensures.tree ∙ c.insert.ensures.tree)) in
    let workers : y4.pass.view.layout.workers ≡ n + 1 = ap (λ (l : Layout). l.workers)
    c.know_run-4.ensures.own.own.layout ∙ (ap (λ (d : TreeView). d.layout.workers) tree ∙ c.requires.all) in
    let rest : OthersRest y4.pass = rests_below y4.pass n number workers c.send_home.ensures.rested in
    let seen1 = c.know_run.ensures.seen in
    let seen2 = c.know_run-2.ensures.seen in
    let seen3 = c.know_run-3.ensures.seen in
    let seen4 = c.know_run-4.ensures.seen in
    let fits = c.know_run-4.ensures.fits in (
      is_added h k key b1 b2 b3 b4 y0 y1 y2 y3 y4 a1 a2 a3 a4 s1 s2 s3 s4 links flags seen1 seen2 seen3 seen4 fits rest,
      is_there h k key b1 b2 b3 b4 y0 y1 y2 y3 y4 a1 a2 a3 a4 s1 s2 s3 s4 links flags seen1 seen2 seen3 seen4 fits rest,
      is_removed h k key b1 b2 b3 b4 y0 y1 y2 y3 y4 a1 a2 a3 a4 s1 s2 s3 s4 links flags seen1 seen2 seen3 seen4 fits
          rest,
      is_gone h k key b1 b2 b3 b4 y0 y1 y2 y3 y4 a1 a2 a3 a4 s1 s2 s3 s4 links flags seen1 seen2 seen3 seen4 fits rest,
    )
