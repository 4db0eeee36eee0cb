use Rattle.std.proofs.Common.{rules, ◌≡◌, [], ◌∷◌, ap, ◌∙◌, arith}
use Rattle.nm_edge.specs.Layouts.{Layout}
use Rattle.nm_steps.specs.Rules.{knowledge}
use Rattle.nm_pool.specs.Claims.{PassedOver}
use Rattle.nm_steps.proofs.Seeing.{continues_then}
use Rattle.nm_pool.proofs.PrivateSlots.{learns_both}
use Rattle.nm_pool.proofs.Looks.{learns_nothing}
use Rattle.nm_pool.proofs.claims.claim_shown.Goals as goal

pub returns-in_default : goal.returns-in_default
returns-in_default c =
    let nodes : c.nodes-nodes.result ≡ c.args.shared.now.layout.nodes = c.nodes-nodes.ensures.nodes
    ∙ ap (λ (l : Layout). l.nodes) c.layout.ensures in
    let slot = c.in_ok-slot.slot in
    let mid = c.slot_to_try.new.pass.view in
    let new = c.try_slot.new.pass.view in
    let over : PassedOver slot mid.log new.log = search rules in
    record {
      on = continues_then _ _ _ c.slot_to_try.ensures.on c.try_slot.ensures.on;
      part = (slot ∷ [], omega arith, (mid.log, c.slot_to_try.ensures.log, (omega arith, omega (arith, nodes), over)));
      made = tt;
      new = tt;
      learned = learns_both (knowledge c.args.pass.now.view) (knowledge mid) (knowledge new)
          (learns_nothing _ _ c.slot_to_try.ensures.learned) c.try_slot.ensures.learned;
      fit = search rules;
    }
