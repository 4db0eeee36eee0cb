use Rattle.std.proofs.Common.{◌∙◌, ◌+◌, refl, sym, subst, arith, Bool}
use Rattle.std.specs.Prelude.{Result}
use Rattle.nm_steps.specs.Steps.{TreeView}
use Rattle.nm_calls.specs.declared.fault.CallFault.{CallFault}
use Rattle.nm_set.specs.Managed.{Answers, round_bound}
use Rattle.nm_steps.specs.Values.{HasValues}
use Rattle.nm_set.proofs.Managing.{answers_last, busy_again, not_yet_busy}
use Rattle.nm_set.proofs.MapManaging.{moves_earlier}
use Rattle.nm_set.proofs.member.Member.ask_value_with_retries.Goals as goal

pub ask-told-requires-clause-free : goal.ask-told-requires-clause-free
ask-told-requires-clause-free g c = c.loop-round.invariant.busy.onward.on.held

pub ask-told-requires-clause-none : goal.ask-told-requires-clause-none
ask-told-requires-clause-none g c = c.loop-round.invariant.busy.onward.none

pub ask-requires-clause-free : goal.ask-requires-clause-free
ask-requires-clause-free g c = c.loop-round.invariant.busy.onward.on.held

pub ask-requires-clause-none : goal.ask-requires-clause-none
ask-requires-clause-none g c = c.loop-round.invariant.busy.onward.none

pub loop-round-init : goal.loop-round-init
loop-round-init g c = record {
  tree = refl;
  busy = not_yet_busy c.args.self.now.tree c.args.options.now c.args.op
      c.args.self.now.worker c.requires.none c.requires.free;
  frees = refl;
}

pub loop-round-preserved : goal.loop-round-preserved
loop-round-preserved g c =
    let at = c.loop-round in
    let h = c.args.options.now in
    let P : TreeView → Type 0 = λ b. Answers c.args.op c.args.key (round_bound h.tries b.layout) h.tries
    at.self.worker c.ask-told.new.self.worker c.ask-told.result in
    let R : Result Bool CallFault → Type 0 = λ r. Answers c.args.op c.args.key
    (round_bound h.tries c.args.self.now.tree.layout) h.tries at.self.worker c.ask-told.new.self.worker r in
    let last = subst R (c.if-not-is_busy.ensures.yes refl) (subst P at.invariant.tree c.ask-told.ensures.says) in
    record {
      tree = c.ask-told.ensures.tree ∙ at.invariant.tree;
      busy = busy_again c.args.self.now.tree h c.args.op c.args.key at._round c.args.self.now.worker at.self.worker
          c.ask-told.new.self.worker at.invariant.busy last;
      frees = c.ask-told.ensures.frees ∙ at.invariant.frees;
    }

pub returns-then-not-is_busy-clause-says : goal.returns-then-not-is_busy-clause-says
returns-then-not-is_busy-clause-says g c =
    let at = c.loop-round in
    let h = c.args.options.now in
    let P : TreeView → Type 0 = λ b. Answers c.args.op c.args.key (round_bound h.tries b.layout) h.tries
    at.self.worker c.ask-told.new.self.worker c.ask-told.result in
    answers_last c.args.self.now.tree h c.args.op c.args.key at._round (h.rounds + 1) c.args.self.now.worker
    at.self.worker c.ask-told.new.self.worker c.ask-told.result (omega (arith, c.loop-round-test.true))
    (λ is. absurd (c.if-not-is_busy.ensures.no refl is)) at.invariant.busy
    (subst P at.invariant.tree c.ask-told.ensures.says)

pub returns-clause-says : goal.returns-clause-says
returns-clause-says g c =
    let at = c.loop-round in
    let h = c.args.options.now in
    let past = c.loop-round-test.false in
    let within = at.auto._round-end in
    let P : TreeView → Type 0 = λ b. Answers c.args.op c.args.key (round_bound h.tries b.layout) h.tries
    at.self.worker c.ask.new.self.worker c.ask.result in
    answers_last c.args.self.now.tree h c.args.op c.args.key at._round (h.rounds + 1) c.args.self.now.worker
    at.self.worker c.ask.new.self.worker c.ask.result (omega (arith, within)) (λ is. omega (arith, past, within))
    at.invariant.busy (subst P at.invariant.tree c.ask.ensures.says)

pub returns-then-not-is_busy-clause-frees : goal.returns-then-not-is_busy-clause-frees
returns-then-not-is_busy-clause-frees g c = c.ask-told.ensures.frees ∙ c.loop-round.invariant.frees

pub returns-clause-frees : goal.returns-clause-frees
returns-clause-frees g c = c.ask.ensures.frees ∙ c.loop-round.invariant.frees

pub returns-then-not-is_busy-clause-moves : goal.returns-then-not-is_busy-clause-moves
returns-then-not-is_busy-clause-moves g c = λ has.
    let at = c.loop-round in
    moves_earlier c.args.op c.args.key c.args.value c.ask-told.new.found c.args.self.now.worker.pass
    at.self.worker.pass c.ask-told.new.self.worker.pass c.ask-told.result at.invariant.busy.onward.on.past
    (c.ask-told.ensures.moves (subst HasValues (sym at.invariant.tree) has))

pub returns-clause-moves : goal.returns-clause-moves
returns-clause-moves g c = λ has.
    let at = c.loop-round in
    moves_earlier c.args.op c.args.key c.args.value c.ask.new.found c.args.self.now.worker.pass at.self.worker.pass
    c.ask.new.self.worker.pass c.ask.result at.invariant.busy.onward.on.past
    (c.ask.ensures.moves (subst HasValues (sym at.invariant.tree) has))
