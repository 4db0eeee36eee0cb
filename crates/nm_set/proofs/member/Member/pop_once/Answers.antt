use Rattle.std.proofs.Common.{◌∙◌, ℕ, Bool, subst}
use Rattle.std.specs.Prelude.{Option, Some, Ok, Err}
use Rattle.std.proofs.lemmas.Result.{err_from_is_err_and}
use Rattle.nm_steps.specs.Steps.{TreeView}
use Rattle.nm_tree.specs.Answers.{IfTaken}
use Rattle.nm_tree.specs.Popping.{Finds}
use Rattle.nm_tree.proofs.Taking.{found_by}
use Rattle.nm_set.specs.Maps.{TookMeanwhile}
use Rattle.nm_set.proofs.MapManaging.{pops_earlier}
use Rattle.nm_set.specs.MapRounds.{SaysRemoved}
use Rattle.nm_set.proofs.PopRounds.{pops_key, pops_late, pops_none, pops_not_found, pops_not_removed, pops_outside}
use Rattle.nm_set.proofs.member.Member.pop_once.Goals as goal

pub returns-in_err-key-clause-says : goal.returns-in_err-key-clause-says
returns-in_err-key-clause-says g c =
    let p = err_from_is_err_and c.from_residual.result c.from_residual.ensures.1 in
    rw (p.1, p.2) (pops_not_found c.args.end c.args.self.now.tree c.args.options.now c.args.self.now.worker
    c.requires.none c.key_at.new.self.worker c.in_err-key.field-0.0 c.in_err-key.ensures.says)

pub returns-in_default-clause-says : goal.returns-in_default-clause-says
returns-in_default-clause-says g c =
    let w = c.args.self.now.worker in
    let x = c.key_at.new.self.worker in
    let found = subst (λ (f : Option ℕ). Finds c.args.end c.args.self.now.tree.layout c.args.options.now.tries w x
    (Ok f)) c.in_default.is c.in_ok-key.ensures.says in
    pops_none c.args.end c.args.self.now.tree c.args.options.now w c.requires.none x found

pub returns-in_err-remove_popped-clause-says : goal.returns-in_err-remove_popped-clause-says
returns-in_err-remove_popped-clause-says g c =
    let w = c.args.self.now.worker in
    let x = c.key_at.new.self.worker in
    let z = c.remove_popped.new.self.worker in
    let h = c.args.options.now in
    let found = subst (λ (f : Option ℕ). Finds c.args.end c.args.self.now.tree.layout h.tries w x (Ok f))
    c.in-Some.is c.in_ok-key.ensures.says in
    let did = subst (λ (b : TreeView). SaysRemoved b h c.in-Some.key x z (Err c.in_err-remove_popped.field-0.0))
    c.key_at.ensures.tree c.in_err-remove_popped.ensures.says in
    let p = err_from_is_err_and c.from_residual-in_err-remove_popped.result
    c.from_residual-in_err-remove_popped.ensures.1 in
    rw (p.1, p.2) (pops_not_removed c.args.end c.args.self.now.tree h w c.requires.none x z c.in-Some.key found
    (c.has.ensures.yes c.if-not-has.false) c.in_err-remove_popped.field-0.0 did)

pub returns-then-branch-clause-says : goal.returns-then-branch-clause-says
returns-then-branch-clause-says g c =
    let w = c.args.self.now.worker in
    let x = c.key_at.new.self.worker in
    let z = c.remove_popped.new.self.worker in
    let h = c.args.options.now in
    let found = subst (λ (f : Option ℕ). Finds c.args.end c.args.self.now.tree.layout h.tries w x (Ok f))
    c.in-Some.is c.in_ok-key.ensures.says in
    let told = subst (λ (answer : Bool). SaysRemoved c.key_at.new.self.tree h c.in-Some.key x z (Ok answer))
    c.if-branch.true c.in_ok-remove_popped.ensures.says in
    pops_key c.args.end c.args.self.now.tree h w c.requires.none x z c.in-Some.key found
    (c.has.ensures.yes c.if-not-has.false) (subst (λ (b : TreeView). SaysRemoved b h c.in-Some.key x z _)
    c.key_at.ensures.tree told)

pub returns-else-branch-clause-says : goal.returns-else-branch-clause-says
returns-else-branch-clause-says g c =
    let w = c.args.self.now.worker in
    let x = c.key_at.new.self.worker in
    let z = c.remove_popped.new.self.worker in
    let h = c.args.options.now in
    let found = subst (λ (f : Option ℕ). Finds c.args.end c.args.self.now.tree.layout h.tries w x (Ok f))
    c.in-Some.is c.in_ok-key.ensures.says in
    let told = subst (λ (answer : Bool). SaysRemoved c.key_at.new.self.tree h c.in-Some.key x z (Ok answer))
    c.if-branch.false c.in_ok-remove_popped.ensures.says in
    pops_late c.args.end c.args.self.now.tree h w c.requires.none x z c.in-Some.key found
    (c.has.ensures.yes c.if-not-has.false) c.know_run.ensures.seen c.know_run.ensures.between
    c.know_run-else-branch.ensures.seen c.know_run-else-branch.ensures.fits
    (subst (λ (b : TreeView). SaysRemoved b h c.in-Some.key x z _) c.key_at.ensures.tree told)

pub returns-then-not-has-clause-says : goal.returns-then-not-has-clause-says
returns-then-not-has-clause-says g c =
    let w = c.args.self.now.worker in
    let x = c.key_at.new.self.worker in
    let found = subst (λ (f : Option ℕ). Finds c.args.end c.args.self.now.tree.layout c.args.options.now.tries w x
    (Ok f)) c.in-Some.is c.in_ok-key.ensures.says in
    pops_outside c.args.end c.args.self.now.tree c.args.options.now w c.requires.none x c.in-Some.key found
    (c.has.ensures.no c.if-not-has.true)

pub returns-in_err-key-clause-frees : goal.returns-in_err-key-clause-frees
returns-in_err-key-clause-frees g c = λ map. c.key_at.ensures.frees

pub returns-in_default-clause-frees : goal.returns-in_default-clause-frees
returns-in_default-clause-frees g c = λ map. c.key_at.ensures.frees

pub returns-then-not-has-clause-frees : goal.returns-then-not-has-clause-frees
returns-then-not-has-clause-frees g c = λ map. c.key_at.ensures.frees

pub returns-in_err-remove_popped-clause-frees : goal.returns-in_err-remove_popped-clause-frees
returns-in_err-remove_popped-clause-frees g c = λ map. c.remove_popped.ensures.frees map ∙ c.key_at.ensures.frees

pub returns-then-branch-clause-frees : goal.returns-then-branch-clause-frees
returns-then-branch-clause-frees g c = λ map. c.remove_popped.ensures.frees map ∙ c.key_at.ensures.frees

pub returns-else-branch-clause-frees : goal.returns-else-branch-clause-frees
returns-else-branch-clause-frees g c = λ map. c.remove_popped.ensures.frees map ∙ c.key_at.ensures.frees

pub returns-then-branch-clause-takes : goal.returns-then-branch-clause-takes
returns-then-branch-clause-takes g c = λ map.
    let w = c.args.self.now.worker in
    let x = c.key_at.new.self.worker in
    let z = c.remove_popped.new.self.worker in
    let t = c.remove_popped.new.taken in
    let h = c.args.options.now in
    let found = subst (λ (f : Option ℕ). Finds c.args.end c.args.self.now.tree.layout h.tries w x (Ok f))
    c.in-Some.is c.in_ok-key.ensures.says in
    let took = subst (λ (answer : Bool). IfTaken (Ok answer) (TookMeanwhile x.pass z.pass c.in-Some.key t))
    c.if-branch.true (c.in_ok-remove_popped.ensures.takes map) in
    pops_earlier w.pass x.pass z.pass t (Ok (Some c.in-Some.key))
    (found_by c.args.end c.args.self.now.tree.layout h.tries w x (Ok (Some c.in-Some.key)) found).past took
