use Rattle.std.proofs.Common.{◌≡◌, true, false, sym, subst}
use Rattle.std.specs.Prelude.{Ok, Some}
use Rattle.nm_model.specs.declared.event.Op.{Op}
use Rattle.nm_tree.specs.Calls.{LeavesHas, LeavesInsert, LeavesDelete}
use Rattle.nm_steps.specs.Values.{HasValues}
use Rattle.nm_calls.specs.Maps.{HasPut, HasTaken, MapGave}
use Rattle.nm_tree.specs.Answers.{IfTaken}
use Rattle.nm_tree.proofs.Unfreed.{delete_frees_none, has_frees_none, insert_frees_none}
use Rattle.nm_set.specs.Managed.{Answers, round_bound}
use Rattle.nm_set.specs.MapRounds.{MovesValue}
use Rattle.nm_set.proofs.Inside.{of_member}
use Rattle.nm_set.proofs.Managing.{has_answers, insert_answers, delete_answers}
use Rattle.nm_set.proofs.member.Member.ask.Goals as goal

pub returns-in-Has-clause-says : goal.returns-in-Has-clause-says
returns-in-Has-clause-says g c =
    let L = c.args.self.now.tree.layout in
    let w = c.args.self.now.worker in
    let z = c.has.new.worker in
    let r = c.has.result in
    let did = of_member (λ b v. LeavesHas b.layout c.args.tries c.args.key v z r) _ _ _ c.self.view_is
    c.tree-tree.ensures c.has.ensures.leaves in
    subst (λ (op : Op). Answers op c.args.key (round_bound c.args.tries L) c.args.tries w z r) (sym c.in-Has.is)
    (has_answers L c.args.tries c.args.key w z r c.requires.none did)

pub returns-in-Insert-clause-says : goal.returns-in-Insert-clause-says
returns-in-Insert-clause-says g c =
    let L = c.args.self.now.tree.layout in
    let w = c.args.self.now.worker in
    let z = c.insert_with_value.new.worker in
    let r = c.insert_with_value.result in
    let did = of_member (λ b v. LeavesInsert b.layout c.args.tries c.args.key v z r) _ _ _ c.self.view_is
    c.tree-tree.ensures c.insert_with_value.ensures.leaves in
    subst (λ (op : Op). Answers op c.args.key (round_bound c.args.tries L) c.args.tries w z r) (sym c.in-Insert.is)
    (insert_answers L c.args.tries c.args.key w z r c.requires.none did)

pub returns-in-Delete-clause-says : goal.returns-in-Delete-clause-says
returns-in-Delete-clause-says g c =
    let L = c.args.self.now.tree.layout in
    let w = c.args.self.now.worker in
    let z = c.delete_with_value.new.worker in
    let r = c.delete_with_value.result in
    let did = of_member (λ b v. LeavesDelete b.layout c.args.tries c.args.key v z r) _ _ _ c.self.view_is
    c.tree-tree.ensures c.delete_with_value.ensures.leaves in
    subst (λ (op : Op). Answers op c.args.key (round_bound c.args.tries L) c.args.tries w z r) (sym c.in-Delete.is)
    (delete_answers L c.args.tries c.args.key w z r c.requires.none did)

pub returns-in-Has-clause-frees : goal.returns-in-Has-clause-frees
returns-in-Has-clause-frees g c =
    let z = c.has.new.worker in
    let did = of_member (λ b v. LeavesHas b.layout c.args.tries c.args.key v z c.has.result) _ _ _ c.self.view_is
    c.tree-tree.ensures c.has.ensures.leaves in
    has_frees_none c.args.self.now.tree.layout c.args.tries c.args.key c.args.self.now.worker z c.has.result did.did

pub returns-in-Insert-clause-frees : goal.returns-in-Insert-clause-frees
returns-in-Insert-clause-frees g c =
    let z = c.insert_with_value.new.worker in
    let r = c.insert_with_value.result in
    let did = of_member (λ b v. LeavesInsert b.layout c.args.tries c.args.key v z r) _ _ _ c.self.view_is
    c.tree-tree.ensures c.insert_with_value.ensures.leaves in
    insert_frees_none c.args.self.now.tree.layout c.args.tries c.args.key c.args.self.now.worker z r did.did

pub returns-in-Delete-clause-frees : goal.returns-in-Delete-clause-frees
returns-in-Delete-clause-frees g c =
    let z = c.delete_with_value.new.worker in
    let r = c.delete_with_value.result in
    let did = of_member (λ b v. LeavesDelete b.layout c.args.tries c.args.key v z r) _ _ _ c.self.view_is
    c.tree-tree.ensures c.delete_with_value.ensures.leaves in
    delete_frees_none c.args.self.now.tree.layout c.args.tries c.args.key c.args.self.now.worker z r did.did

pub returns-in-Has-clause-moves : goal.returns-in-Has-clause-moves
returns-in-Has-clause-moves g c = λ has. subst (λ (op : Op). MovesValue op c.args.key c.args.value c.args.found.now
    c.args.self.now.worker.pass c.has.new.worker.pass c.has.result) (sym c.in-Has.is) tt

pub returns-in-Insert-clause-moves : goal.returns-in-Insert-clause-moves
returns-in-Insert-clause-moves g c =
    let k = c.args.key in
    let z = c.insert_with_value.new.worker in
    let f = c.insert_with_value.new.found in
    let r = c.insert_with_value.result in
    let puts = of_member (λ b v. HasValues b → r ≡ Ok true → HasPut v.pass z.pass k c.args.value) _ _ _
    c.self.view_is c.tree-tree.ensures c.insert_with_value.ensures.puts in
    let finds = of_member (λ b v. HasValues b → r ≡ Ok false → MapGave v.pass z.pass k (Some f)) _ _ _ c.self.view_is
    c.tree-tree.ensures c.insert_with_value.ensures.finds in
    λ has. subst (λ (op : Op). MovesValue op k c.args.value f c.args.self.now.worker.pass z.pass r)
    (sym c.in-Insert.is) (puts has, finds has)

pub returns-in-Delete-clause-moves : goal.returns-in-Delete-clause-moves
returns-in-Delete-clause-moves g c =
    let z = c.delete_with_value.new.worker in
    let t = c.delete_with_value.new.taken in
    let r = c.delete_with_value.result in
    let takes = of_member (λ b v. HasValues b → IfTaken r (HasTaken v.pass z.pass c.args.key t)) _ _ _ c.self.view_is
    c.tree-tree.ensures c.delete_with_value.ensures.takes in
    λ has. subst (λ (op : Op). MovesValue op c.args.key c.args.value t c.args.self.now.worker.pass z.pass r)
    (sym c.in-Delete.is) (takes has)
