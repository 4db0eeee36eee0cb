-- What a run keeps, by the states before each of its turns and by its trace.
use Rattle.std.specs.Prelude.{◌≡◌, ℕ, ◌<◌, List, ◌++◌, take, Some}
use Rattle.nm_model.specs.declared.trace.Turn.{Turn}
use Rattle.nm_model.specs.declared.ledger.Ledger.{Ledger}
use Rattle.nm_model.specs.Ledgers.{held}
use Rattle.nm_model.specs.Places.{EachSlotInOnePlace}
use Rattle.nm_model.specs.Runs.{State, of}
use Rattle.nm_model.specs.Laws.{PinsAreNear, OneHolder, NoNodeTwice, GrewByTheCuts, IsFreedThenQueue, freed_among}
use Rattle.nm_model.specs.Lawful.{LabelsDoNotFall, NoLabelIsAboveTheEpoch, BriefsAreRight, QueuedNodesAreFrozen, TaggedEdgesHaveFlaggedTwins, FlaggedEdgesLeadToLeaves, OnlyThePinnedKnow, ReachIsShared, ReachIsGuarded, EpochsAgree, CountsAddUp, EachReadStands, KnownLeavesAreLeaves, EachBirthStands}

-- in every ledger, the retired nodes are the freed ones followed by those that wait
abbrev pub LedgersAreSplit : State → Type 0
LedgersAreSplit s = (w origin : ℕ) (l : Ledger) → held (of s w).ledgers origin ≡ Some l
    → IsFreedThenQueue l

-- each ledger grew by the cuts of the turns so far, whichever worker holds it
abbrev pub LedgersGrowByTheCuts : (ℕ → State) → List Turn → Type 0
LedgersGrowByTheCuts states turns =
    (i w v origin : ℕ) (l m : Ledger) → held (of (states 0) w).ledgers origin ≡ Some l
    → held (of (states i) v).ledgers origin ≡ Some m
    → GrewByTheCuts origin (take i turns) l m

-- the freed nodes of each ledger grew by those of its retired nodes that gives freed in those turns
abbrev pub LedgersFreeWhatGivesFreed : (ℕ → State) → List Turn → Type 0
LedgersFreeWhatGivesFreed states turns =
    (i w v origin : ℕ) (l m : Ledger) → held (of (states 0) w).ledgers origin ≡ Some l
    → held (of (states i) v).ledgers origin ≡ Some m
    → m.freed ≡ l.freed ++ freed_among m.retired (take i turns)

-- ---- the laws of one state, and of one run

-- the ledger of each origin has one holder
abbrev pub EachHasOneHolder : State → Type 0
EachHasOneHolder s = (origin : ℕ) → origin < s.layout.workers → OneHolder s origin

-- what every state keeps: places and counts, epochs and scans, holders, ledgers and labels, frozen
-- edges, reach, and what was read
pub record IsLawfulState (s : State) : Type 0 where
  -- each slot is in one place, and the counts of the places add up
  pub places : EachSlotInOnePlace s
  pub counts : CountsAddUp s
  -- pins are near the epoch; announcements, pins, sights and scans agree with it
  pub near : PinsAreNear s
  pub epochs : EpochsAgree s
  -- each ledger has one holder and is what was freed followed by the queue, and no node was retired
  -- twice
  pub holders : EachHasOneHolder s
  pub split : LedgersAreSplit s
  pub once : NoNodeTwice s
  -- labels in a queue do not fall, none is above the epoch, and only a worker's own queue has
  -- entries without a label
  pub rising : LabelsDoNotFall s
  pub below : NoLabelIsAboveTheEpoch s
  pub briefs : BriefsAreRight s
  -- frozen edges
  pub queued : QueuedNodesAreFrozen s
  pub twins : TaggedEdgesHaveFlaggedTwins s
  pub leaves : FlaggedEdgesLeadToLeaves s
  -- what a worker can reach, and what it has read
  pub pinned : OnlyThePinnedKnow s
  pub shared : ReachIsShared s
  pub guarded : ReachIsGuarded s
  pub marks : EachReadStands s
  pub known : KnownLeavesAreLeaves s
  pub births : EachBirthStands s

-- what the states of one run keep, and how its turns change their ledgers
pub record IsLawfulRun (states : ℕ → State) (turns : List Turn) : Type 0 where
  pub each : (i : ℕ) → IsLawfulState (states i)
  pub growing : LedgersGrowByTheCuts states turns
  pub freed : LedgersFreeWhatGivesFreed states turns
