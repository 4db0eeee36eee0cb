-- A call that walks under a plain pin and is busy, and a scan that ends early.
use Rattle.std.proofs.Common.{◌≡◌, ◌≤◌, ◌+◌, ◌*◌, ℕ, zero, suc, inl, inr, List, ◌++◌, [], ◌∷◌, refl, arith}
use Rattle.nm_model.specs.declared.event.Event.TheVariants.{Sight, Leave}
use Rattle.nm_model.specs.declared.reply.Reply.TheVariants.{Departed}
use Rattle.nm_model.specs.Walks.{Entry}
use Rattle.nm_steps.specs.Steps.{PassView, IsSamePass, HasSeen, HasSeenAllOf}
use Rattle.nm_walks.specs.Walks.{IsTooLong}
use Rattle.nm_progress.specs.Walked.{NearWasBusy, BusyManyMetInterference, BusyNearMetInterference, ShortScansMetInterference}
use Rattle.nm_progress.proofs.WalkInterference.{Strays, long_interference, strays_longer}
use Rattle.nm_progress.proofs.LostLookups.{was_reshaped}
use Rattle.nm_progress.proofs.LostPins.{lost_pins_were_moved_past}
use Rattle.nm_progress.proofs.NearInterference.{nears_interference}
use Rattle.nm_progress.proofs.Parts.{Longer, longer_none, pin_longer}
use Rattle.nm_progress.proofs.TurnInterference.{pinned_since, short_interference, turns_interference}

pub busy_many_met_interference : BusyManyMetInterference
busy_many_met_interference ks zero p q seen_p seen_q enough same on missed = inl refl
busy_many_met_interference ks (suc t) p q seen_p seen_q enough same on (inl moved) = inr
    (inl (lost_pins_were_moved_past p q seen_p seen_q enough same on Sight refl t moved))
busy_many_met_interference ks (suc t) p q seen_p seen_q enough same on
    (inr (pinned, walked, epoch, pin, gives, leaves)) = inr (inr (
      gives.1,
      was_reshaped 1 p q seen_p seen_q enough same on pinned walked
          (pin_longer Sight (suc t) p.view.log pinned epoch pin) (
            pinned,
            longer_none pinned pinned refl,
            turns_interference p.view.layout enough p.view.number ks pinned walked
                (pinned_since (suc t) p.view.log pinned epoch pin) gives,
          ) leaves,
    ))

pub short_scans_met_interference : ShortScansMetInterference
short_scans_met_interference tries p q seen_p seen_q enough same on (pinned, walked, epoch, pin, short, leaves) =
    was_reshaped 1 p q seen_p seen_q enough same on pinned walked (pin_longer Sight tries p.view.log pinned epoch pin) (
      pinned,
      longer_none pinned pinned refl,
      short_interference p.view.layout enough p.view.number pinned walked
          (pinned_since tries p.view.log pinned epoch pin) short,
    ) leaves

-- ---- the nearest key

-- of a call whose walks went on under its pin
module _ (tries : ℕ) (p q : PassView) (seen_p : HasSeen p.view) (seen_q : HasSeen q.view)
    (enough : 5 ≤ p.view.layout.nodes) (same : IsSamePass p q) (on : HasSeenAllOf q p) (pinned walked : List Entry)
    (begun : Longer p.view.log pinned) (leaves : q.view.log ≡ walked ++ (Leave, Departed) ∷ []) where
  -- as many of them as there may be have found none
  of_twos : (m : ℕ) × (tries ≤ 2 * m + 1) × Strays p.view.layout enough p.view.number m pinned walked
      → NearWasBusy p q tries
  of_twos (m, half, strays) = inr (
    m,
    half,
    was_reshaped m p q seen_p seen_q enough same on pinned walked begun
        strays leaves,
  )

  -- or fewer, and then one was too long
  of_long : (k : ℕ) (mid : List Entry) → Longer pinned mid → IsTooLong p.view.layout k mid walked
      → NearWasBusy p q tries
  of_long k mid first long = inl (inr (inr (
    long.0,
    was_reshaped 1 p q seen_p seen_q enough same on pinned walked
        begun (mid, first, long_interference p.view.layout enough p.view.number k mid walked long) leaves,
  )))

pub busy_near_met_interference : BusyNearMetInterference
busy_near_met_interference side k zero p q seen_p seen_q enough same on missed = inl (inl refl)
busy_near_met_interference side k (suc t) p q seen_p seen_q enough same on (inl moved) = inl
    (inr (inl (lost_pins_were_moved_past p q seen_p seen_q enough same on Sight refl t moved)))
busy_near_met_interference side k (suc t) p q seen_p seen_q enough same on
    (inr (pinned, walked, epoch, pin, (next, is_key, key, inl all), leaves)) =
    of_twos (suc t) p q seen_p seen_q enough same on pinned walked
    (pin_longer Sight (suc t) p.view.log pinned epoch pin) leaves
    (nears_interference p.view.layout enough p.view.number side (suc t) k next is_key key pinned walked all)
busy_near_met_interference side k (suc t) p q seen_p seen_q enough same on
    (inr (pinned, walked, epoch, pin, (next, is_key, key, inr (n, mid, few, first, long)), leaves)) =
    let strays = nears_interference p.view.layout enough p.view.number side n k next is_key key pinned mid first in
    of_long (suc t) p q seen_p seen_q enough same on pinned walked
    (pin_longer Sight (suc t) p.view.log pinned epoch pin) leaves next mid
    (strays_longer p.view.layout enough p.view.number strays.0 pinned mid strays.2) long
