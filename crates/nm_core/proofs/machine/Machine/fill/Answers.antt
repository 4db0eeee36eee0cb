use Rattle.std.proofs.Common.{◌≡◌, ◌<◌, ◌≤◌, ◌^◌, ℕ, true, None, ap, arith, rules}
use Rattle.nm_edge.specs.Layouts.{IsLayout}
use Rattle.nm_model.specs.declared.event.Event.TheVariants.{Fill}
use Rattle.nm_model.specs.declared.event.Field.{Field}
use Rattle.nm_model.specs.Step.{refusal, is_edge}
use Rattle.nm_model.specs.Runs.{State, refusal_of}
use Rattle.nm_core.specs.Admission.{IsAdmitted}
use Rattle.nm_core.proofs.machine.Machine.fill.Goals as goal

-- an edge is filled with a slot
module _ (s : State) (w x v : ℕ) (f : Field) where
  below_nodes : refusal_of s w (Fill x f v) ≡ None → is_edge f ≡ true → v ≤ s.layout.nodes
  unfolding refusal
  below_nodes h is = search rules

  is_slot : (t : State) → t ≡ s → IsLayout t.layout → IsAdmitted s w (Fill x f v) → is_edge f ≡ true → v < 2 ^ 32
  is_slot t same fits a is =
      let nodes = ap (λ (s : State). s.layout.nodes) same in
      let most = fits.most in
      let below = below_nodes a.allowed is in
      omega arith

pub filled-node-requires : goal.filled-node-requires
filled-node-requires c = is_slot c.args.self.now c.args.worker _ _ _ _ c.self.view_is c.nodes.ensures.fits c.requires

pub fill-requires-clause-fits : goal.fill-requires-clause-fits
fill-requires-clause-fits c = is_slot c.args.self.now c.args.worker _ _ _ _ c.self.view_is c.nodes.ensures.fits
    c.requires
