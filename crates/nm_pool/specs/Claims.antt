-- What claims of new nodes leave in the log, oldest entry first.
use Rattle.std.specs.Prelude.{◌≡◌, ℕ, ◌+◌, ◌≤◌, ◌<◌, ◌⊎◌, ◌==◌, if◌then◌else◌, true, length, List, [], ◌∷◌, ◌++◌, Option, Some, None, Result, Ok, Err}
use Rattle.nm_edge.specs.declared.node.NodeId.{NodeId}
use Rattle.nm_model.specs.declared.event.Event.TheVariants.{Claim, Give, Look, Fill}
use Rattle.nm_model.specs.declared.event.Field.TheVariants.{Birth}
use Rattle.nm_model.specs.declared.reply.Reply.TheVariants.{Claimed, Returned, BirthIs, Filled}
use Rattle.nm_model.specs.Maps.{get}
use Rattle.nm_model.specs.Knowledge.{Knowledge, is_private, unfilled}
use Rattle.nm_model.specs.Step.{last_number}
use Rattle.nm_model.specs.Walks.{Entry}
use Rattle.nm_pool.specs.declared.nodes.Tried.{Tried}
use Rattle.nm_pool.specs.declared.nodes.Tried.TheVariants as tried
use Rattle.nm_edge.specs.declared.placement.Fit.{Fit}
use Rattle.nm_edge.specs.declared.placement.Fit.TheVariants as fit
pub use Rattle.nm_steps.specs.Rows.{Doing, DoneInTurn, DoneBelow, FoundTaken}

-- the slot was claimed, was found exhausted (it has the greatest birth), and was given back
abbrev pub FoundExhausted : Doing
FoundExhausted s old new = new ≡ old ++ (Claim s, Claimed s) ∷ (Look s Birth, BirthIs last_number)
    ∷ (Give s, Returned s) ∷ []

-- the slot was claimed, and the birth that was found there was raised by one, to that of the node
pub record MadeNew (n : NodeId) (old new : List Entry) : Type 0 where
  pub birth : ℕ
  pub below : birth < last_number
  pub raised : n.birth ≡ birth + 1
  pub entries : new ≡ old ++ (Claim n.slot, Claimed n.slot) ∷ (Look n.slot Birth, BirthIs birth)
      ∷ (Fill n.slot Birth (birth + 1), Filled) ∷ []

-- the slot was found taken, or exhausted and given back
abbrev pub PassedOver : Doing
PassedOver s old new = FoundTaken s old new ⊎ FoundExhausted s old new

-- the node was made at the end, and each lower slot above 5 was passed over
pub record Claims (nodes : ℕ) (old new : List Entry) (n : NodeId) : Type 0 where
  pub least : 6 ≤ n.slot
  pub most : n.slot ≤ nodes
  pub before : List Entry
  pub passed : DoneBelow PassedOver 6 n.slot old before
  pub made : MadeNew n before new

-- what a claim leaves in the log, by its result. Each lower slot above 5 was found taken, or
-- exhausted and given back; then the slot of the result was claimed, and its birth raised. With no
-- node, each slot above 5 was passed over
abbrev pub IsClaim : ℕ → List Entry → List Entry → Option NodeId → Type 0
IsClaim nodes old new (Some n) = Claims nodes old new n
IsClaim nodes old new None = DoneBelow PassedOver 6 (nodes + 1) old new

-- the node of a result in which birth 0 means that there is none
abbrev pub node_in : NodeId → Option NodeId
node_in n = if n.birth == 0 then None else Some n

-- the node's slot is private, its birth is stored there, and nothing else is
abbrev pub IsNewNode : Knowledge → NodeId → Type 0
IsNewNode k n = get k.drafts n.slot ≡ Some (record unfilled { birth = Some n.birth })

-- only private slots were learned: epochs, scans, known nodes and ledgers are unchanged, and each
-- slot that was private still is, with what was stored there
pub record LearnsSlots (before after : Knowledge) : Type 0 where
  pub brief : after.brief ≡ before.brief
  pub scanned : after.scanned ≡ before.scanned
  pub known : after.known ≡ before.known
  pub ledgers : after.ledgers ≡ before.ledgers
  pub gone : after.gone ≡ before.gone
  pub kept : (s : ℕ) → is_private before s ≡ true → get after.drafts s ≡ get before.drafts s

-- ---- claims of a range

-- the node was made at the end, and each lower slot, from the first on, was passed over
pub record ClaimsBetween (from to : ℕ) (old new : List Entry) (n : NodeId) : Type 0 where
  pub least : from ≤ n.slot
  pub below : n.slot < to
  pub before : List Entry
  pub passed : DoneBelow PassedOver from n.slot old before
  pub made : MadeNew n before new

-- a claim of a slot from `from` on and below `to`, by its result
abbrev pub IsClaimBetween : ℕ → ℕ → List Entry → List Entry → Option NodeId → Type 0
IsClaimBetween from to old new (Some n) = ClaimsBetween from to old new n
IsClaimBetween from to old new None = DoneBelow PassedOver from to old new

-- what a look at a row and a try leave: a node, or each slot below the next one was passed over
abbrev pub IsTriedRow : ℕ → ℕ → List Entry → List Entry → Result NodeId ℕ → Type 0
IsTriedRow from to old new (Ok n) = ClaimsBetween from to old new n
IsTriedRow from to old new (Err next) =
    (from < next) × (next ≤ to) × DoneBelow PassedOver from next old new

-- ---- claims in any order

-- this was done at each of these slots, the last one first
abbrev pub DoneAt : Doing → List ℕ → List Entry → List Entry → Type 0
DoneAt Done [] old new = new ≡ old
DoneAt Done (s ∷ ss) old new = (mid : List Entry) × DoneAt Done ss old mid × Done s mid new

-- a slot above 5, and not above the number of nodes, was passed over
abbrev pub PassedWithin : ℕ → Doing
PassedWithin nodes s old new = (6 ≤ s) × (s ≤ nodes) × PassedOver s old new

-- the slot is one of these
abbrev pub IsOneOfSlots : ℕ → List ℕ → Type 0
IsOneOfSlots s [] = ⊥
IsOneOfSlots s (x ∷ xs) = (x ≡ s) ⊎ IsOneOfSlots s xs

-- the node was made at the end, and fewer slots than the limit were passed over before
pub record ClaimsPast (limit nodes : ℕ) (old new : List Entry) (n : NodeId) : Type 0 where
  pub least : 6 ≤ n.slot
  pub most : n.slot ≤ nodes
  pub slots : List ℕ
  pub few : length slots < limit
  pub before : List Entry
  pub passed : DoneAt (PassedWithin nodes) slots old before
  pub made : MadeNew n before new

-- each slot above 5 was passed over, with at most as many tries as there are nodes
pub record PassesAll (nodes : ℕ) (old new : List Entry) : Type 0 where
  pub slots : List ℕ
  pub few : length slots ≤ nodes
  pub all : (s : ℕ) → 6 ≤ s → s ≤ nodes → IsOneOfSlots s slots
  pub passed : DoneAt (PassedWithin nodes) slots old new

-- what a near claim leaves in the log, by its result. With a node, slots above 5 were passed over,
-- in any order, and then one slot was claimed and its birth raised. With no node, each slot above 5
-- was passed over (next fit: Knuth, The Art of Computer Programming, volume 1, section 2.5)
abbrev pub IsNearClaim : ℕ → List Entry → List Entry → Option NodeId → Type 0
IsNearClaim nodes old new (Some n) = ClaimsPast nodes nodes old new n
IsNearClaim nodes old new None = PassesAll nodes old new

-- what a claim leaves, by its result, if at most `limit` slots above 5 were passed over: fewer than
-- that before a node was made, and at most that with no node
abbrev pub IsClaimOfFew : ℕ → ℕ → List Entry → List Entry → Option NodeId → Type 0
IsClaimOfFew limit nodes old new (Some n) = ClaimsPast limit nodes old new n
IsClaimOfFew limit nodes old new None =
    (slots : List ℕ) × (length slots ≤ limit) × DoneAt (PassedWithin nodes) slots old new

-- what a claim by a placement leaves: for first fit as `IsClaim`, for next fit as `IsNearClaim`
-- (next fit: Knuth, The Art of Computer Programming, volume 1, section 2.5)
abbrev pub IsClaimBy : Fit → ℕ → List Entry → List Entry → Option NodeId → Type 0
IsClaimBy fit.FirstFit nodes old new r = IsClaim nodes old new r
IsClaimBy fit.NextFit nodes old new r = IsNearClaim nodes old new r

-- ---- a try of one slot

-- one slot was tried, by the result
abbrev pub IsTried : ℕ → List Entry → List Entry → Tried → Type 0
IsTried s old new tried.Taken = FoundTaken s old new
IsTried s old new tried.Exhausted = FoundExhausted s old new
IsTried s old new (tried.Got b) = MadeNew (record { slot = s; birth = b }) old new

-- if the slot was got, it holds for the node, which then has that birth
abbrev pub IfGot : ℕ → Tried → (NodeId → Type 0) → Type 0
IfGot s (tried.Got b) P = P (record { slot = s; birth = b })
IfGot s _ P = Unit {0}
