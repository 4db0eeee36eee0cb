use Rattle.std.proofs.Common.{rules, subst, ap, ◌∙◌}
use Rattle.std.specs.Prelude.{nat_lt}
use Rattle.nm_edge.specs.Words.{at_edge, word}
use Rattle.nm_edge.specs.declared.edge.Side.TheVariants.{Left}
use Rattle.nm_steps.specs.Steps.{PassView, TreeView}
use Rattle.nm_steps.specs.Values.{SeesLeft}
use Rattle.nm_steps.proofs.Noting.{standing}
use Rattle.nm_steps.proofs.ValueSteps.{looked_tied, looks_only}
use Rattle.nm_steps.proofs.pass.Shared.look_bare.Goals as goal

pub look_at_left-requires-clause-can : goal.look_at_left-requires-clause-can
look_at_left-requires-clause-can c = record {
  table = search rules;
  values = c.requires.values;
  empty = c.pass.invariant.empty;
  alive = c.pass.invariant.alive;
  layout = search rules;
  is_slot = c.requires.slot;
  word = c.edge-word.ensures ∙ ap (λ (b : TreeView). word b.layout (at_edge c.args.slot Left)) c.self.view_is;
}

pub invariant_of-pass : goal.invariant_of-pass
invariant_of-pass c = looked_tied _ _ _ _ _ c.pass.invariant c.look_at_left.ensures.saw.0 c.look_at_left.ensures.saw.1

pub returns : goal.returns
returns c = subst (λ (p : PassView). SeesLeft p (standing c.look_at_left.new.seat) c.args.slot
    (nat_lt c.look_at_left.result 4)) c.pass.view_is (record {
      sees = looks_only c.pass.inside.seat c.look_at_left.new.seat c.look_at_left.ensures.table
          c.look_at_left.ensures.seat c.look_at_left.ensures.saw.1;
      is = c.look_at_left.ensures.saw.2;
    })
