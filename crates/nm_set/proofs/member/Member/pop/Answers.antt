use Rattle.std.proofs.Common.{rules, ◌≡◌, ◌∙◌, ◌+◌, ◌*◌, inr, subst}
use Rattle.std.specs.Prelude.{None}
use Rattle.nm_steps.specs.Steps.{TreeView}
use Rattle.nm_tree.specs.Popping.{among, comes_before}
use Rattle.nm_set.specs.Popping.{Pops, pop_round_bound}
use Rattle.nm_set.proofs.MapManaging.{pops_earlier}
use Rattle.nm_set.proofs.PopRounds.{pops_after}
use Rattle.nm_set.proofs.member.Member.pop.Goals as goal

pub returns-clause-says : goal.returns-clause-says
returns-clause-says g c =
    let h = c.args.options.now in
    let w = c.args.self.now.worker in
    let x = c.finish_with_retries.new.self.worker in
    let z = c.pop_with_retries.new.self.worker in
    let r = c.pop_with_retries.result in
    let free : w.held ≡ None = search rules in
    let P : TreeView → Type 0 = λ b. Pops (among c.args.end) (comes_before c.args.end) h
    ((h.rounds + 1) * pop_round_bound h b.layout) (h.rounds + 1) x z r in
    inr (
      free,
      pops_after (among c.args.end) (comes_before c.args.end) c.args.self.now.tree h w x z c.in-Ok._done r
          c.in-Ok.ensures.says (subst P c.finish_with_retries.ensures.tree c.pop_with_retries.ensures.says),
    )

pub returns-in_default-clause-frees : goal.returns-in_default-clause-frees
returns-in_default-clause-frees g c = λ map. c.in_default.ensures.says.frees

pub returns-clause-frees : goal.returns-clause-frees
returns-clause-frees g c = λ map. c.pop_with_retries.ensures.frees map ∙ c.in-Ok.ensures.says.frees

pub returns-clause-takes : goal.returns-clause-takes
returns-clause-takes g c = λ map. pops_earlier c.args.self.now.worker.pass c.finish_with_retries.new.self.worker.pass
    c.pop_with_retries.new.self.worker.pass c.pop_with_retries.new.taken c.pop_with_retries.result
    c.in-Ok.ensures.says.on.past (c.pop_with_retries.ensures.takes map)
