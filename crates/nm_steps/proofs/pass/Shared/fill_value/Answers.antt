use Rattle.std.proofs.Common.{rules, subst}
use Rattle.nm_steps.specs.Steps.{PassView}
use Rattle.nm_steps.specs.Values.{OnlySees}
use Rattle.nm_steps.proofs.Noting.{standing}
use Rattle.nm_steps.proofs.ValueSteps.{looked_tied, looks_only}
use Rattle.nm_steps.proofs.pass.Shared.fill_value.Goals as goal

pub store_value-requires-clause-can : goal.store_value-requires-clause-can
store_value-requires-clause-can c = record {
  table = search rules;
  values = c.requires.values;
  empty = c.pass.invariant.empty;
  alive = c.pass.invariant.alive;
  layout = search rules;
  is_slot = c.requires.slot;
  word = c.value_word-word.ensures;
}

pub store_value-requires-clause-may : goal.store_value-requires-clause-may
store_value-requires-clause-may c = rw (← c.pass.view_is) at c.requires.private

pub store_value-requires-clause-once : goal.store_value-requires-clause-once
store_value-requires-clause-once c = rw (← c.pass.view_is) at c.requires.once

pub invariant_of-pass : goal.invariant_of-pass
invariant_of-pass c = looked_tied _ _ _ _ _ c.pass.invariant c.store_value.ensures.put.0 c.store_value.ensures.put.1

pub returns-clause-looks : goal.returns-clause-looks
returns-clause-looks c = subst (λ (p : PassView). OnlySees p (standing c.store_value.new.seat)) c.pass.view_is
    (looks_only c.pass.inside.seat c.store_value.new.seat c.store_value.ensures.table c.store_value.ensures.seat
    c.store_value.ensures.put.1)
