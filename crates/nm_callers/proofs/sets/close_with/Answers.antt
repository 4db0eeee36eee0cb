use Rattle.std.proofs.Common.{◌≡◌, ◌∙◌, List, [], ◌∷◌, ◌++◌, sym, ap, subst}
use Rattle.nm_steps.specs.Steps.{TreeView}
use Rattle.nm_tree.specs.Workers.{WorkerView}
use Rattle.nm_set.specs.Seats.{IsOwn, SetView}
use Rattle.nm_callers.proofs.OneMember.{reported}
use Rattle.nm_callers.proofs.sets.close_with.Goals as goal

pub returns-in-Ok-close : goal.returns-in-Ok-close
returns-in-Ok-close c =
    let s : SetView = c.keep.new.self in
    let worker : WorkerView = c.args.member.worker in
    let is = c.in-Ok.ensures.kept in
    let tree : s.tree ≡ c.args.set.tree = ap (λ (x : SetView). x.tree) is in
    let kept : s.kept ≡ worker ∷ [] = ap (λ (x : SetView). x.kept) is
    ∙ ap (λ (ws : List WorkerView). ws ++ worker ∷ []) c.requires.new in
    let one = subst (λ (b : TreeView). b.layout.workers ≡ 1) (sym tree) c.requires.one in
    let own = subst (λ (b : TreeView). IsOwn b worker) (c.requires.own ∙ sym tree) c.know_run.ensures.own in
    reported s worker c.args.key c.in-Ok-close.report kept one own c.know_run.ensures.turns c.requires.added
    c.in-Ok-close.ensures.says
