use Rattle.std.proofs.Common.{◌≡◌, ◌<◌, ◌∙◌, ℕ, List, [], ◌∷◌, length, length-append, ap, arith, subst, sym}
use Rattle.nm_edge.specs.Layouts.{Layout}
use Rattle.nm_edge.specs.declared.placement.Fit.{Fit}
use Rattle.nm_order.specs.Logs.{part_of}
use Rattle.nm_steps.specs.Steps.{TreeView}
use Rattle.nm_set.specs.Filling.{HasInserted, HaveWatched}
use Rattle.nm_set.specs.Seats.{AreNewMembers, IsNewMember, MemberView}
use Rattle.nm_set.proofs.Filled.{has_filled}
use Rattle.nm_set.proofs.FirstLooks.{last_new, taken_off}
use Rattle.nm_set.proofs.filling.Set+Keys.of_keys.Goals as goal

pub fill-requires-clause-free : goal.fill-requires-clause-free
fill-requires-clause-free c = (last_new c.in-Ok.made.0.tree c.in-Ok.made.0.fit c.in-Ok.made.1.items
    c.pop.new.self.items c.in-Some.filler c.in-Some.ensures.items c.in-Ok.ensures.new).new.3

pub fill-requires-clause-settled : goal.fill-requires-clause-settled
fill-requires-clause-settled c = (last_new c.in-Ok.made.0.tree c.in-Ok.made.0.fit c.in-Ok.made.1.items
    c.pop.new.self.items c.in-Some.filler c.in-Some.ensures.items c.in-Ok.ensures.new).new.2

pub show-requires : goal.show-requires
show-requires c =
    let b : TreeView = c.in-Ok.made.0.tree in
    let f : Fit = c.in-Ok.made.0.fit in
    let rest : List MemberView = c.pop.new.self.items in
    let m : MemberView = c.in-Some.filler in
    let y : MemberView = c.fill.new.member in
    let is = c.in-Some.ensures.items in
    let last = last_new b f c.in-Ok.made.1.items rest m is c.in-Ok.ensures.new in
    let few = (taken_off b f c.in-Ok.made.1.items rest m is c.in-Ok.ensures.new).0 in
    let tree : y.tree ≡ b = c.fill.ensures.tree ∙ last.tree in
    let fit : y.worker.fit ≡ f = c.in_default-fill.ensures.did.fit ∙ last.fit in
    record {
      new = subst (λ (g : Fit). AreNewMembers y.tree g 0 rest) (sym fit)
          (subst (λ (d : TreeView). AreNewMembers d f 0 rest) (sym tree) few);
    }

pub returns-clause-filler : goal.returns-clause-filler
returns-clause-filler c =
    let b : TreeView = c.in-Ok.made.0.tree in
    let f : Fit = c.in-Ok.made.0.fit in
    let all : List MemberView = c.in-Ok.made.1.items in
    let rest : List MemberView = c.pop.new.self.items in
    let shown : List MemberView = c.in-Some-show.others.items in
    let m : MemberView = c.in-Some.filler in
    let y : MemberView = c.fill.new.member in
    let z : MemberView = c.show.new.filler in
    let ks : List ℕ = c.args.keys.now in
    let is = c.in-Some.ensures.items in
    let last = last_new b f all rest m is c.in-Ok.ensures.new in
    let same : y ≡ z = sym c.show.ensures.same in
    let count : length shown ≡ length rest = c.in-Some-show.ensures.count in
    let size = ap (λ (ms : List MemberView). length ms) is ∙ length-append rest (m ∷ []) in
    let given = c.in-Ok.ensures.count in
    let tree : z.tree ≡ m.tree = ap (λ (x : MemberView). x.tree) (sym same) ∙ c.fill.ensures.tree in
    let layout : z.worker.pass.view.layout.workers ≡ c.args.workers = ap (λ (l : Layout). l.workers)
    c.know_run.ensures.own.own.layout
    ∙ (ap (λ (d : TreeView). d.layout.workers) (tree ∙ last.tree)
    ∙ ap (λ (l : Layout). l.workers) c.in-Ok.ensures.open.layout) in
    let new : IsNewMember b f (length shown) m = subst (λ (n : ℕ). IsNewMember b f n m) (sym count) last in
    let rested : (i : ℕ) → i < length shown → part_of i z.worker.pass.view.past ≡ [] = λ i less.
    subst (λ (x : MemberView). part_of i x.worker.pass.view.past ≡ []) same
    (c.in-Some-show.ensures.rested i (omega (arith, less, count))) in
    has_filled b f (length shown) ks m z new tree
    (subst (λ (x : MemberView). HasInserted ks m.worker x.worker) same c.in_default-fill.ensures.did)
    (ap (λ (x : MemberView). x.worker.held) (sym same) ∙ c.in_default-fill.ensures.free)
    (ap (λ (x : MemberView). x.worker.pending) (sym same) ∙ c.in_default-fill.ensures.settled)
    c.know_run.ensures.seen c.know_run.ensures.turns c.know_run.ensures.fits
    (omega (arith, layout, size, given, count)) rested (c.ascend.ensures.yes c.if-not-ascend.false)

pub returns-clause-others : goal.returns-clause-others
returns-clause-others c =
    let b : TreeView = c.in-Ok.made.0.tree in
    let f : Fit = c.in-Ok.made.0.fit in
    let shown : List MemberView = c.in-Some-show.others.items in
    let y : MemberView = c.fill.new.member in
    let last = last_new b f c.in-Ok.made.1.items c.pop.new.self.items c.in-Some.filler c.in-Some.ensures.items
    c.in-Ok.ensures.new in
    let tree : y.tree ≡ b = c.fill.ensures.tree ∙ last.tree in
    let fit : y.worker.fit ≡ f = c.in_default-fill.ensures.did.fit ∙ last.fit in
    subst (λ (x : MemberView). HaveWatched b f x.worker.pass 0 shown) (sym c.show.ensures.same)
    (subst (λ (g : Fit). HaveWatched b g y.worker.pass 0 shown) fit
    (subst (λ (d : TreeView). HaveWatched d y.worker.fit y.worker.pass 0 shown) tree c.in-Some-show.ensures.watched))
