use Rattle.std.proofs.Common.{◌≡◌, ◌∙◌, Bool, false, sym, ap, subst}
use Rattle.std.specs.Prelude.{Ok}
use Rattle.nm_model.specs.declared.event.Op.TheVariants.{Delete}
use Rattle.nm_steps.specs.Rules.{Extends}
use Rattle.nm_steps.specs.Steps.{TreeView, HasSeenAllOf}
use Rattle.nm_set.specs.Seats.{IsOwn, MemberView}
use Rattle.nm_set.specs.Managed.{SaysManaged}
use Rattle.nm_callers.proofs.Answered.{if_answered}
use Rattle.nm_callers.proofs.ToldMembers.{takes_once}
use Rattle.nm_callers.proofs.members.take_once.Goals as goal

pub returns : goal.returns
returns c =
    let b = c.args.first.now.tree in
    let d = c.hear.new.self.tree in
    let h = c.args.options.now in
    let k = c.args.key in
    let w = c.args.first.now.worker in
    let first : MemberView = c.remove.new.self in
    let x = first.worker in
    let y = c.hear.new.self.worker in
    let z = c.remove-taken.new.self.worker in
    let took = subst (λ (answer : Bool). SaysManaged Delete b h k w x (Ok answer)) c.in-Ok-true.field-0-test
    c.in-Ok-true.ensures.says in
    let told : HasSeenAllOf y.pass x.pass = record {
      goes_on = subst (Extends y.pass.view.past)
          (ap (λ n. n.past) c.note-note.ensures.note) c.hear.ensures.heard;
    } in
    let own : IsOwn first.tree x = subst (λ (m : MemberView). IsOwn m.tree m.worker) c.note-note.ensures.same
    c.know_run.ensures.own in
    let tree = c.remove.ensures.tree ∙ (c.requires.same
    ∙ (sym c.hear.ensures.tree ∙ sym c.remove-taken.ensures.tree)) in
    let layout = own.own.layout ∙ (ap (λ (e : TreeView). e.layout) tree ∙ sym c.know_run-2.ensures.own.own.layout) in
    record {
      once = λ none. if_answered c.remove-taken.result c.ok.result (λ answer. answer ≡ false) c.ok.ensures.value
          (takes_once b d h k w x y z c.remove-taken.result took c.remove-taken.ensures.says told layout none);
    }
