use Rattle.std.proofs.Common.{subst}
use Rattle.nm_model.specs.declared.event.Op.TheVariants.{Delete}
use Rattle.nm_steps.specs.Steps.{TreeView}
use Rattle.nm_set.specs.Managed.{SaysManaged, of_insert}
use Rattle.nm_callers.proofs.RunningAlone.{both_managed}
use Rattle.nm_callers.proofs.alone.insert_then_remove_alone.Goals as goal

pub returns-clause-answered : goal.returns-clause-answered
returns-clause-answered c =
    let b = c.args.member.now.tree in
    let h = c.args.options.now in
    let x = c.insert-inserted.new.self.worker in
    let z = c.remove-removed.new.self.worker in
    let r = c.remove-removed.result in
    both_managed b h c.args.key c.args.member.now.worker x z (of_insert c.insert-inserted.result) r c.requires.some
    c.requires.free c.requires.none c.insert-inserted.ensures.says
    (subst (λ (d : TreeView). SaysManaged Delete d h c.args.key x z r) c.insert-inserted.ensures.tree
    c.remove-removed.ensures.says)
