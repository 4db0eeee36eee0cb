use Rattle.std.proofs.Common.{◌∙◌, ◌+◌, ℕ, refl, subst, arith}
use Rattle.std.specs.Prelude.{Option, Result}
use Rattle.nm_steps.specs.Steps.{TreeView}
use Rattle.nm_calls.specs.declared.fault.CallFault.{CallFault}
use Rattle.nm_tree.specs.Popping.{among, comes_before}
use Rattle.nm_set.specs.Popping.{Pops, pop_round_bound}
use Rattle.nm_set.proofs.MapManaging.{pops_earlier}
use Rattle.nm_set.proofs.PopRounds.{last_round, no_round_yet, one_round_more}
use Rattle.nm_set.proofs.member.Member.pop_with_retries.Goals as goal

pub pop_once-told-requires-clause-free : goal.pop_once-told-requires-clause-free
pop_once-told-requires-clause-free g c = c.loop-round.invariant.lost.onward.on.held

pub pop_once-told-requires-clause-none : goal.pop_once-told-requires-clause-none
pop_once-told-requires-clause-none g c = c.loop-round.invariant.lost.onward.none

pub pop_once-requires-clause-free : goal.pop_once-requires-clause-free
pop_once-requires-clause-free g c = c.loop-round.invariant.lost.onward.on.held

pub pop_once-requires-clause-none : goal.pop_once-requires-clause-none
pop_once-requires-clause-none g c = c.loop-round.invariant.lost.onward.none

pub loop-round-init : goal.loop-round-init
loop-round-init g c = record {
  tree = refl;
  lost = no_round_yet (among c.args.end) (comes_before c.args.end)
      c.args.options.now (pop_round_bound c.args.options.now c.args.self.now.tree.layout) c.args.self.now.worker
      c.requires.none c.requires.free;
  frees = λ map. refl;
}

pub loop-round-preserved : goal.loop-round-preserved
loop-round-preserved g c =
    let at = c.loop-round in
    let h = c.args.options.now in
    let Among = among c.args.end in
    let Before = comes_before c.args.end in
    let most = pop_round_bound h c.args.self.now.tree.layout in
    let P : TreeView → Type 0 = λ b. Pops Among Before h (pop_round_bound h b.layout) 1 at.self.worker
    c.pop_once-told.new.self.worker c.pop_once-told.result in
    let R : Result (Option ℕ) CallFault → Type 0 = λ r. Pops Among Before h most 1 at.self.worker
    c.pop_once-told.new.self.worker r in
    let last = subst R (c.if-not-is_busy.ensures.yes refl) (subst P at.invariant.tree c.pop_once-told.ensures.says) in
    record {
      tree = c.pop_once-told.ensures.tree ∙ at.invariant.tree;
      lost = one_round_more Among Before h most at._round c.args.self.now.worker at.self.worker
          c.pop_once-told.new.self.worker at.invariant.lost last;
      frees = λ map. c.pop_once-told.ensures.frees map ∙ at.invariant.frees map;
    }

pub returns-then-not-is_busy-clause-says : goal.returns-then-not-is_busy-clause-says
returns-then-not-is_busy-clause-says g c =
    let at = c.loop-round in
    let h = c.args.options.now in
    let Among = among c.args.end in
    let Before = comes_before c.args.end in
    let z = c.pop_once-told.new.self.worker in
    let r = c.pop_once-told.result in
    let P : TreeView → Type 0 = λ b. Pops Among Before h (pop_round_bound h b.layout) 1 at.self.worker z r in
    last_round Among Before h (pop_round_bound h c.args.self.now.tree.layout) at._round (h.rounds + 1)
    c.args.self.now.worker at.self.worker z r (omega (arith, c.loop-round-test.true))
    (λ is. absurd (c.if-not-is_busy.ensures.no refl is)) at.invariant.lost
    (subst P at.invariant.tree c.pop_once-told.ensures.says)

pub returns-clause-says : goal.returns-clause-says
returns-clause-says g c =
    let at = c.loop-round in
    let h = c.args.options.now in
    let past = c.loop-round-test.false in
    let within = at.auto._round-end in
    let Among = among c.args.end in
    let Before = comes_before c.args.end in
    let z = c.pop_once.new.self.worker in
    let r = c.pop_once.result in
    let P : TreeView → Type 0 = λ b. Pops Among Before h (pop_round_bound h b.layout) 1 at.self.worker z r in
    last_round Among Before h (pop_round_bound h c.args.self.now.tree.layout) at._round (h.rounds + 1)
    c.args.self.now.worker at.self.worker z r (omega (arith, within)) (λ is. omega (arith, past, within))
    at.invariant.lost (subst P at.invariant.tree c.pop_once.ensures.says)

pub returns-then-not-is_busy-clause-frees : goal.returns-then-not-is_busy-clause-frees
returns-then-not-is_busy-clause-frees g c = λ map. c.pop_once-told.ensures.frees map ∙ c.loop-round.invariant.frees map

pub returns-clause-frees : goal.returns-clause-frees
returns-clause-frees g c = λ map. c.pop_once.ensures.frees map ∙ c.loop-round.invariant.frees map

pub returns-then-not-is_busy-clause-takes : goal.returns-then-not-is_busy-clause-takes
returns-then-not-is_busy-clause-takes g c = λ map.
    let at = c.loop-round in
    pops_earlier c.args.self.now.worker.pass at.self.worker.pass c.pop_once-told.new.self.worker.pass
    c.pop_once-told.new.taken c.pop_once-told.result at.invariant.lost.onward.on.past
    (c.pop_once-told.ensures.takes map)

pub returns-clause-takes : goal.returns-clause-takes
returns-clause-takes g c = λ map.
    let at = c.loop-round in
    pops_earlier c.args.self.now.worker.pass at.self.worker.pass c.pop_once.new.self.worker.pass c.pop_once.new.taken
    c.pop_once.result at.invariant.lost.onward.on.past (c.pop_once.ensures.takes map)
