use Rattle.std.proofs.Common.{◌≡◌, ◌∙◌, Bool, true, sym, ap, subst}
use Rattle.std.specs.Prelude.{Ok}
use Rattle.nm_model.specs.declared.event.Op.TheVariants.{Has, Insert}
use Rattle.nm_steps.specs.Rules.{Extends}
use Rattle.nm_steps.specs.Steps.{Notice, TreeView, HasSeenAllOf}
use Rattle.nm_steps.proofs.Seeing.{seen_through}
use Rattle.nm_set.specs.Managed.{SaysManaged}
use Rattle.nm_tree.proofs.Taking.{moment_since}
use Rattle.nm_callers.specs.Meanwhile.{NoneDeleted}
use Rattle.nm_callers.proofs.ClosedMembers.{closed_seen, closed_table}
use Rattle.nm_callers.proofs.ToldMembers.{moment_of, seen_behind}
use Rattle.nm_callers.proofs.ToldWorkers.{told_so}
use Rattle.nm_callers.proofs.TwoAnswers.{inserted_then_found}
use Rattle.nm_callers.proofs.rejoining.add_then_rejoin.Goals as goal

pub returns-clause-found : goal.returns-clause-found
returns-clause-found c none =
    let b = c.args.member.tree in
    let d = c.hear.new.self.tree in
    let h = c.args.options.now in
    let k = c.args.key in
    let w = c.args.member.worker in
    let x = c.insert.new.self.worker in
    let y = c.hear.new.self.worker in
    let z = c.contains.new.self.worker in
    let there = c.in-Ok-contains.there in
    let added = subst (λ (answer : Bool). SaysManaged Insert b h k w x (Ok answer)) c.in-Ok-true.field-0-test
    c.in-Ok-true.ensures.says in
    let looked : SaysManaged Has d h k y z (Ok there) = c.in-Ok-contains.ensures.says in
    let told : HasSeenAllOf y.pass x.pass = record {
      goes_on = closed_seen x c.close.result c.close.ensures.did y.pass.view.past
          (subst (Extends y.pass.view.past) (ap (λ (n : Notice). n.past) c.into_note-note.ensures)
          c.hear.ensures.heard);
    } in
    let seen = seen_through x.pass y.pass z.pass told (seen_behind Has d h k y z (Ok there) looked) in
    let trees : c.contains.new.self.tree ≡ c.insert.new.self.tree = c.contains.ensures.tree
    ∙ (c.hear.ensures.tree ∙ (c.in-Ok.ensures.member.0 ∙ (sym c.requires.own ∙ sym c.insert.ensures.tree))) in
    let layout = c.know_run.ensures.own.own.layout ∙ (ap (λ (e : TreeView). e.layout) (sym trees)
    ∙ sym c.know_run-2.ensures.own.own.layout) in
    told_so NoneDeleted Insert true inserted_then_found k w.pass x.pass z.pass layout seen there
    (moment_since x.pass y.pass z.pass Has k there told (moment_of Has d h k y z (Ok there) looked))
    (moment_of Insert b h k w x (Ok true) added) none

pub hear-requires : goal.hear-requires
hear-requires c =
    let x = c.insert.new.self.worker in
    let tree : c.in-Ok.other.tree ≡ c.insert.new.self.tree = c.in-Ok.ensures.member.0
    ∙ (sym c.requires.own ∙ sym c.insert.ensures.tree) in
    record {
      table = ap (λ (n : Notice). n.table) c.into_note-note.ensures
          ∙ (closed_table x c.close.result c.close.ensures.did
          ∙ (c.know_run.ensures.own.own.table ∙ ap (λ (e : TreeView). e.table) (sym tree)));
    }
