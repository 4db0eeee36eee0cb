use Rattle.std.proofs.Common.{rules, ◌≡◌, ◌≤◌, ◌+◌, ◌∙◌, List, [], ◌∷◌, ◌++◌, length, sym, ap, subst}
use Rattle.std.specs.Prelude.{vec_capacity}
use Rattle.nm_steps.specs.Steps.{TreeView}
use Rattle.nm_tree.specs.Workers.{WorkerView}
use Rattle.nm_set.specs.Seats.{AreOwn, IsOwn, SetView}
use Rattle.nm_set.specs.States.{MayGather, room_for_one, site_of}
use Rattle.nm_set.proofs.SetEnds.{own_and, room_behind, tree_of}
use Rattle.nm_set.proofs.set.Set.keep.Goals as goal

pub invariant_of-self : goal.invariant_of-self
invariant_of-self g c =
    let tree : TreeView = (site_of c.self.inside.state).tree in
    let before = c.self.inside.kept.items in
    let worker = c.args.member.worker in
    let more = c.stay_with.ensures.items ∙ ap (λ (ws : List WorkerView). ws ++ worker ∷ []) c.in-Ok.ensures.items in
    let same : c.args.member.tree ≡ tree = c.requires.own
    ∙ (ap (λ (s : SetView). s.tree) (sym c.self.view_is) ∙ tree_of c.self.inside.state before) in
    let own = subst (λ (b : TreeView). IsOwn b worker) same c.stay_with.ensures.own in
    let room = vec_capacity c.stay_with.new.workers in
    let enough : length before + room_for_one c.self.inside.state
    ≤ room = search (
      rules,
      c.room_for_one.ensures,
      c.stay_with.ensures.capacity,
      c.in-Ok.ensures.ok,
      c.reserve.ensures.items,
    ) in (
      subst (AreOwn tree) (sym more) (own_and tree before worker c.self.invariant.0 own),
      subst (λ (ws : List WorkerView). MayGather c.self.inside.state ws room) (sym more)
          (room_behind c.self.inside.state before worker room enough),
      c.self.invariant.2,
    )
