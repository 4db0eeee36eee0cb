use Rattle.std.proofs.Common.{ap, ◌∙◌, ◌++◌, rules}
use Rattle.std.specs.Prelude.{option_to_list}
use Rattle.nm_model.specs.Runs.{State}
use Rattle.nm_model.proofs.SetKeys.{none_there, skipped, visited, whole, finished, popped_less, visited_less}
use Rattle.nm_core.proofs.machine.Machine.keys.Goals as goal

pub loop-part-init : goal.loop-part-init
loop-part-init c = whole c.args.self.now.memory c.args.self.now.layout.nodes c.nodes.result c.new-found.result.items
    c.push.new.self.items c.new-waiting.result.items c.new-found.ensures.items c.new-waiting.ensures.items
    c.in_ok-push.ensures.items (c.nodes.ensures.nodes ∙ ap (λ (s : State). s.layout.nodes) c.self.view_is)

pub loop-part-smaller-then-part-ne0-2 : goal.loop-part-smaller-then-part-ne0-2
loop-part-smaller-then-part-ne0-2 c = visited_less c.args.self.now.memory c.loop-part.waiting.items
    c.pop.new.self.items c.put_below.new.waiting.items c.in-Some.part c.in-Some.ensures.items c.if-part-ne0.true
    c.if-part-ne0-2.true c.in_ok-put_below.ensures

pub loop-part-preserved-then-part-ne0-2 : goal.loop-part-preserved-then-part-ne0-2
loop-part-preserved-then-part-ne0-2 c = visited c.args.self.now.memory c.loop-part.found.items
    c.put_key.new.found.items _ c.loop-part.waiting.items c.pop.new.self.items c.put_below.new.waiting.items
    c.in-Some.part c.in-Some.ensures.items
    c.if-part-ne0.true c.if-part-ne0-2.true (c.in_ok-put_key.ensures
    ∙ ap (λ o. c.loop-part.found.items ++ option_to_list o) c.key_at.ensures) c.in_ok-put_below.ensures
    c.loop-part.invariant

pub loop-part-smaller : goal.loop-part-smaller
loop-part-smaller c = popped_less c.args.self.now.memory c.loop-part.waiting.items c.pop.new.self.items
    c.in-Some.part c.in-Some.ensures.items

pub loop-part-preserved : goal.loop-part-preserved
loop-part-preserved c = skipped c.args.self.now.memory c.loop-part.found.items _ c.loop-part.waiting.items
    c.pop.new.self.items c.in-Some.part c.in-Some.ensures.items
    (none_there c.in-Some.part.slot c.in-Some.part.depth c.else-part-ne0.either) c.loop-part.invariant

pub returns : goal.returns
returns c = finished c.args.self.now.memory c.loop-part.found.items _ c.loop-part.waiting.items (search rules)
    c.loop-part.invariant
