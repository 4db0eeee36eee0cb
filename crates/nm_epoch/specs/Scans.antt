-- The log of a look at all workers' announcements, oldest entry first.
use Rattle.std.specs.Prelude.{◌≡◌, ◌≢◌, ◌+◌, ◌⊎◌, ◌<◌, ◌==◌, ℕ, zero, suc, Bool, true, List, [], ◌∷◌, ◌++◌, Option, Some, None}
use Rattle.nm_model.specs.declared.event.Event.TheVariants as event
use Rattle.nm_model.specs.declared.reply.Reply.{Reply}
use Rattle.nm_model.specs.declared.reply.Reply.TheVariants as reply
use Rattle.nm_model.specs.Step.{last_number, reply_scan}
use Rattle.nm_model.specs.Walks.{Entry}
use Rattle.nm_epoch.specs.declared.answers.Advance.{Advance}
use Rattle.nm_epoch.specs.declared.answers.Advance.TheVariants.{Moved, Held, Lost, Spent}
use Rattle.nm_order.specs.Reads.{sight_epoch}

-- one sight, which found the epoch e
abbrev pub IsSightOf : ℕ → List Entry → List Entry → Type 0
IsSightOf e old new = (r : Reply) × (sight_epoch r ≡ Some e) × (new ≡ old ++ (event.Sight, r) ∷ [])

-- worker v was found so: by one scan, or, if it is worker me itself, by its own pin and no step
abbrev pub LooksAt : ℕ → Option ℕ → ℕ → Option ℕ → List Entry → List Entry → Type 0
LooksAt me pin v found old new =
    ((v ≡ me) × (found ≡ pin) × (new ≡ old))
    ⊎ ((v ≢ me) × (new ≡ old ++ (event.Scan v, reply_scan found) ∷ []))

-- a worker that was found so, idle or at an epoch, does not hold the epoch e back
abbrev pub lets_pass : Option ℕ → ℕ → Bool
lets_pass None e = true
lets_pass (Some a) e = e == a

-- the workers below n were looked at in their order, and none holds e back
abbrev pub AllLetPass : ℕ → Option ℕ → ℕ → ℕ → List Entry → List Entry → Type 0
AllLetPass me pin e zero old new = new ≡ old
AllLetPass me pin e (suc n) old new =
    (mid : List Entry) × (found : Option ℕ) × AllLetPass me pin e n old mid
    × LooksAt me pin n found mid new × (lets_pass found e ≡ true)

-- a sight of the epoch e, and then looks at the workers below n, none of which holds it back
abbrev pub SightThenScans : ℕ → Option ℕ → ℕ → ℕ → List Entry → List Entry → Type 0
SightThenScans me pin e n old new =
    (mid : List Entry) × IsSightOf e old mid × AllLetPass me pin e n mid new

-- the log of an advance of worker me, with that pin, among m workers, by its result. There is a
-- sight, and then scans up to the first worker that is at another epoch; or scans of all workers,
-- and then the move of the epoch to the next (Fraser, section 5)
abbrev pub IsAdvance : ℕ → ℕ → Option ℕ → List Entry → List Entry → Advance → Type 0
IsAdvance m me pin old new (Moved next) =
    (e : ℕ) × (mid : List Entry) × SightThenScans me pin e m old mid × (next ≡ e + 1)
    × (new ≡ mid ++ (event.Advance, reply.Moved next) ∷ [])
IsAdvance m me pin old new (Lost found) =
    (e : ℕ) × (mid : List Entry) × SightThenScans me pin e m old mid × (found ≢ e)
    × (new ≡ mid ++ (event.Advance, reply.Behind found) ∷ [])
IsAdvance m me pin old new (Held w at) =
    (e : ℕ) × (mid : List Entry) × SightThenScans me pin e w old mid × (w < m) × (at ≢ e)
    × LooksAt me pin w (Some at) mid new
IsAdvance m me pin old new Spent = SightThenScans me pin last_number m old new
