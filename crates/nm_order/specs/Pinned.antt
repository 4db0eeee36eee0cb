-- The pin of a worker, by its own log alone.
use Rattle.std.specs.Prelude.{◌≡◌, ℕ, ◌≤◌, List, [], ◌∷◌, Option, Some, None}
use Rattle.nm_edge.specs.Layouts.{Layout}
use Rattle.nm_model.specs.declared.event.Event.{Event}
use Rattle.nm_model.specs.declared.event.Event.TheVariants.{Sight, SightFor, Leave, LeaveWith}
use Rattle.nm_model.specs.declared.reply.Reply.TheVariants.{Pinned, Departed}
use Rattle.nm_model.specs.Runs.{of, start, after, trace}
use Rattle.nm_model.specs.Walks.{Entry, log_of}

-- a sight that was answered `pinned`, with or without a call, pins at that epoch; a leave, with or
-- without an answer, unpins (Fraser, section 5, critical region)
abbrev pub pinned_by : Option ℕ → Entry → Option ℕ
pinned_by pin (Sight, Pinned e) = Some e
pinned_by pin (SightFor op key, Pinned e) = Some e
pinned_by pin (Leave, Departed) = None
pinned_by pin (LeaveWith answer, Departed) = None
pinned_by pin _ = pin

-- the epoch at which a worker is pinned after its log, if it is (Fraser, section 5, critical
-- region)
abbrev pub pinned_after : Option ℕ → List Entry → Option ℕ
pinned_after pin [] = pin
pinned_after pin (entry ∷ entries) = pinned_after (pinned_by pin entry) entries

-- in every run, a worker is pinned at an epoch exactly if its last sight that was answered `pinned`
-- is at that epoch, and no leave of it came after
abbrev pub PinsAreTold : Type 0
PinsAreTold = (L : Layout) → 5 ≤ L.nodes → (turns : List (ℕ × Event)) (w : ℕ)
    → (of (after (start L) turns) w).brief.pin
    ≡ pinned_after None (log_of w (trace (start L) turns))
