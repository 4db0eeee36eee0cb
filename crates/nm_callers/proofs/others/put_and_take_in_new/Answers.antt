use Rattle.std.proofs.Common.{◌≡◌, ◌∙◌, List, [], ◌∷◌, length, length-append, ap, arith}
use Rattle.nm_edge.specs.Layouts.{Layout}
use Rattle.nm_steps.specs.Steps.{TreeView}
use Rattle.nm_set.specs.Seats.{MemberView}
use Rattle.nm_set.proofs.FirstLooks.{taken_off, last_new, of_tree, others_of}
use Rattle.nm_callers.proofs.others.put_and_take_in_new.Goals as goal

pub put_and_take_alone-requires : goal.put_and_take_alone-requires
put_and_take_alone-requires c =
    let b = c.in-Ok._set.tree in
    let f = c.in-Ok._set.fit in
    let m = c.in_ok-member.member in
    let rest : List MemberView = c.pop.new.self.items in
    let all : List MemberView = c.in-Ok.others.items in
    let is = c.in_ok-member.ensures.items in
    let last = last_new b f all rest m is c.in-Ok.ensures.new in
    let few = (taken_off b f all rest m is c.in-Ok.ensures.new).0 in
    let size = ap (λ (ms : List MemberView). length ms) is ∙ length-append rest (m ∷ []) in
    let count = c.in-Ok.ensures.count in
    let workers : m.tree.layout.workers ≡ c.args.workers = ap (λ (d : TreeView). d.layout.workers) last.tree
    ∙ ap (λ (l : Layout). l.workers) c.in-Ok.ensures.open.layout in
    record {
      new = of_tree b f (length rest) m last;
      rest = (f, others_of b f 0 rest m last.tree few);
      all = omega (arith, size, count, workers);
    }
