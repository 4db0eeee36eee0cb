use Rattle.std.proofs.Common.{rules, subst}
use Rattle.nm_steps.specs.Steps.{PassView}
use Rattle.nm_steps.specs.Values.{OnlySees}
use Rattle.nm_steps.proofs.Noting.{standing}
use Rattle.nm_steps.proofs.ValueSteps.{looked_tied, looks_only}
use Rattle.nm_steps.proofs.pass.Shared.look_value.Goals as goal

pub look_at_value-requires-clause-can : goal.look_at_value-requires-clause-can
look_at_value-requires-clause-can c = record {
  table = search rules;
  values = c.requires.values;
  empty = c.pass.invariant.empty;
  alive = c.pass.invariant.alive;
  layout = search rules;
  is_slot = c.requires.slot;
  word = c.value_word-word.ensures;
}

pub invariant_of-pass : goal.invariant_of-pass
invariant_of-pass c = looked_tied _ _ _ _ _ c.pass.invariant c.look_at_value.ensures.saw.0 c.look_at_value.ensures.saw.1

pub returns-clause-looks : goal.returns-clause-looks
returns-clause-looks c = subst (λ (p : PassView). OnlySees p (standing c.look_at_value.new.seat)) c.pass.view_is
    (looks_only c.pass.inside.seat c.look_at_value.new.seat c.look_at_value.ensures.table
    c.look_at_value.ensures.seat c.look_at_value.ensures.saw.1)
