use Rattle.set_bench.proofs.parts_of.Given as goal

abbrev pub invariant-loop-four : goal.invariant-loop-four
invariant-loop-four l =
    (goal.iterator-loop-four).can_next l.four-iterator ×
    (goal.iterator-loop-four).is_finite l.four-iterator
