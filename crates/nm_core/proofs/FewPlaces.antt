-- Counts that add up are below 2^32, each.
use Rattle.std.proofs.Common.{◌≡◌, ◌<◌, ◌^◌, sym, subst, arith}
use Rattle.nm_edge.specs.Layouts.{IsLayout}
use Rattle.nm_model.specs.Reports.{counts}
use Rattle.nm_model.specs.Runs.{State}
use Rattle.nm_model.specs.Lawful.{CountsAddUp}

pub record FewPlaces (s : State) : Type 0 where
  pub pool : (counts s).pool < 2 ^ 32
  pub private : (counts s).private < 2 ^ 32
  pub queued : (counts s).queued < 2 ^ 32

few : (s : State) → IsLayout s.layout → CountsAddUp s → FewPlaces s
few s fits sum =
    let most = fits.most in
    record {
      pool = omega arith;
      private = omega arith;
      queued = omega arith;
    }

-- of a state that is seen as another
pub few_places : (s t : State) → s ≡ t → IsLayout t.layout → CountsAddUp t → FewPlaces s
few_places s t is fits sum = subst FewPlaces (sym is) (few t fits sum)
