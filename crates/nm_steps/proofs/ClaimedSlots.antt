-- A slot that is claimed is in none of the worker's hands.
use Rattle.std.proofs.Common.{◌≡◌, ℕ, ◌≤◌, List, ap, arith}
use Rattle.nm_edge.specs.Layouts.{Layout}
use Rattle.nm_model.specs.declared.event.Event.TheVariants.{Claim}
use Rattle.nm_model.specs.declared.reply.Reply.{Reply}
use Rattle.nm_model.specs.declared.reply.Reply.TheVariants.{Claimed}
use Rattle.nm_model.specs.Walks.{Entry}
use Rattle.nm_order.specs.Logs.{known_by}
use Rattle.nm_order.specs.OwnBirths.{births_by}
use Rattle.nm_order.specs.Told.{IsNew}
use Rattle.nm_order.proofs.ToldClaims.{claims_are_new}
use Rattle.nm_steps.specs.Told.{told}
use Rattle.nm_steps.specs.Rules.{IsFound}
use Rattle.nm_steps.specs.Steps.{May}
use Rattle.nm_steps.proofs.Noting.{log_grows}

pub claimed_new : (L : Layout) (w : ℕ) (log : List Entry) (s n : ℕ) → IsFound L w log (Claim s) n
    → May L w log (Claim s) → told L (known_by L w log) (births_by L w log) (Claim s) n ≡ Claimed s → IsNew L w log s
claimed_new L w log s n f may is = (claims_are_new L enough w log
    (Claim s, told L (known_by L w log) (births_by L w log) (Claim s) n) (log_grows L w log (Claim s) n f may) s s
    (ap (λ (r : Reply). (Claim s, r)) is)).3
  where
    enough : 5 ≤ L.nodes
    enough = let least = f.fits.least in omega arith
