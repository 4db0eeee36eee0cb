-- A worked schedule to which each statement of the two pages applies, and statements that are false
-- for it.
use Rattle.std.specs.Prelude.{◌≡◌, ℕ, true, false, List, [], ◌∷◌, ◌++◌, map, take, Contains, Some, Ok, Err}
use Rattle.nm_edge.specs.Layouts.{Layout, dense}
use Rattle.nm_edge.specs.declared.edge.Side.TheVariants.{Left, Right}
use Rattle.nm_edge.specs.declared.node.NodeId.{NodeId}
use Rattle.nm_model.specs.declared.event.Field.TheVariants.{Key, Edge as EdgeOn}
use Rattle.nm_model.specs.declared.event.Op.TheVariants.{Insert, Delete}
use Rattle.nm_model.specs.declared.event.Event.TheVariants.{Sight, SightFor, Announce, Leave, LeaveWith, Scan, Advance, Claim, Give, Look, Link, Flag, Tag, Splice}
use Rattle.nm_model.specs.declared.reply.Reply.TheVariants.{Saw, Labelled, Pinned, Announced, Departed, Idle, In, Moved, Claimed, Freed, KeyIs, EdgeIs, Linked, Flagged, Was, Cut}
use Rattle.nm_model.specs.declared.reply.Refused.TheVariants.{NotReady, TooYoung}
use Rattle.nm_model.specs.declared.trace.Turn.{Turn}
use Rattle.nm_model.specs.Memory.{opening}
use Rattle.nm_model.specs.Ordered.{ordered, trace_in, turn_of}
use Rattle.nm_model.specs.Paths.{IsCut}
use Rattle.nm_model.specs.Shorthands.{t, e, n, makes, pins}
use Rattle.nm_model.specs.Acts.{Act, IsAmong, HasInARow}
use Rattle.nm_model.specs.Headline.{words_after, after_turn, nodes_cut_of, nodes_freed_of, cuts_of, freed_of, waits_of, IsPinned, HasLeft, StandsAt, has_after, edge_told, WasTold, IsStill}
use Rattle.nm_model.specs.Headline.Place.{InPool, InHands, OnPath, Waits}
use Rattle.nm_model.specs.Histories.{IsHistory, HasAct, IsInCall, HasFlaggedOneOf, AnswerStands}

abbrev pub layout : Layout
layout = dense 8 2

-- worker 1 is pinned, and stays pinned while worker 0 inserts 10
abbrev pub inserting : List Turn
inserting =
    pins 1 ++
    t 0 Sight (Ok (Saw 0)) ∷
    t 0 Announce (Ok (Announced 0)) ∷
    t 0 (SightFor Insert 10) (Ok (Pinned 0)) ∷
    t 0 (Look 2 (EdgeOn Left)) (Ok (EdgeIs (e 3 false false))) ∷
    t 0 (Look 3 Key) (Ok (KeyIs 18446744073709551613)) ∷
    t 0 (Look 3 (EdgeOn Left)) (Ok (EdgeIs (e 0 false false))) ∷
    makes 0 6 7 18446744073709551613 7 3 10 ++
    t 0 (Link 2 Left 3 6) (Ok (Linked (n 6 1))) ∷
    []

-- worker 0 begins to delete 10, and worker 1 comes to the leaf
abbrev pub deleting : List Turn
deleting =
    t 0 (LeaveWith true) (Ok Departed) ∷
    t 0 Announce (Ok (Announced 0)) ∷
    t 0 (SightFor Delete 10) (Ok (Pinned 0)) ∷
    t 0 (Look 2 (EdgeOn Left)) (Ok (EdgeIs (e 6 false false))) ∷
    t 0 (Look 6 Key) (Ok (KeyIs 18446744073709551613)) ∷
    t 0 (Look 6 (EdgeOn Left)) (Ok (EdgeIs (e 7 false false))) ∷
    t 0 (Look 7 Key) (Ok (KeyIs 10)) ∷
    t 0 (Look 7 (EdgeOn Right)) (Ok (EdgeIs (e 0 false false))) ∷
    t 0 (Flag 6 Left 7) (Ok (Flagged (n 7 1))) ∷
    t 0 (Tag 6 Right) (Ok (Was (e 3 false false))) ∷
    t 1 (Look 2 (EdgeOn Left)) (Ok (EdgeIs (e 6 false false))) ∷
    t 1 (Look 6 (EdgeOn Left)) (Ok (EdgeIs (e 7 true false))) ∷
    []

-- the splice of worker 0 cuts two nodes
abbrev pub cut : Turn
cut = t 0 (Splice 2 Left 6 6 Right) (Ok (Cut (n 6 1 ∷ n 7 1 ∷ [])))

-- worker 1 reads one of them. Worker 0 advances the epoch once, and no further, and can free
-- nothing
abbrev pub waiting : List Turn
waiting =
    t 0 Sight (Ok (Labelled 0)) ∷
    t 0 (LeaveWith true) (Ok Departed) ∷
    t 1 (Look 7 Key) (Ok (KeyIs 10)) ∷
    t 0 (Scan 1) (Ok (In 0)) ∷
    t 0 Advance (Ok (Moved 1)) ∷
    t 0 (Scan 1) (Ok (In 0)) ∷
    t 0 Advance (Err NotReady) ∷
    t 0 (Give 6) (Err TooYoung) ∷
    []

-- worker 1 leaves, and worker 0 advances the epoch again
abbrev pub leaving : List Turn
leaving =
    t 1 Leave (Ok Departed) ∷
    t 0 (Scan 1) (Ok Idle) ∷
    t 0 Advance (Ok (Moved 2)) ∷
    []

abbrev pub free_turn : Turn
free_turn = t 0 (Give 6) (Ok (Freed (n 6 1)))

abbrev pub claim_turn : Turn
claim_turn = t 0 (Claim 8) (Ok (Claimed 8))

-- the turns before the cut, and all of them
abbrev pub before : List Turn
before = inserting ++ deleting

abbrev pub worked_turns : List Turn
worked_turns = before ++ cut ∷ ((waiting ++ leaving) ++ free_turn ∷ claim_turn ∷ [])

-- the turns before worker 1 looks at node 6, and that look
abbrev pub before_look : List Turn
before_look = inserting ++ take 11 deleting

abbrev pub look_turn : Turn
look_turn = t 1 (Look 6 (EdgeOn Left)) (Ok (EdgeIs (e 7 true false)))

-- the turns before the pin of the insert, those up to its answer, and those up to the answer of the
-- delete
abbrev pub before_pin : List Turn
before_pin = take 5 inserting

abbrev pub inserted : List Turn
inserted = inserting ++ take 1 deleting

abbrev pub deleted_too : List Turn
deleted_too = before ++ cut ∷ take 2 waiting

-- the turns before worker 1 reads the edge to node 6, that look, and the turns from there up to its
-- leave
abbrev pub before_told : List Turn
before_told = inserting ++ take 10 deleting

abbrev pub told_turn : Turn
told_turn = t 1 (Look 2 (EdgeOn Left)) (Ok (EdgeIs (e 6 false false)))

abbrev pub since_told : List Turn
since_told = look_turn ∷ cut ∷ waiting

-- the statements of the two pages for this schedule
pub record IsWorked : Type 0 where
  -- it is a run of an ordered core
  pub is_run : trace_in (ordered layout) (map turn_of worked_turns) ≡ worked_turns
  -- the splice cuts node 6, and nothing but 6 and 7
  pub cuts : (x : ℕ) → IsCut (words_after layout before)
      (after_turn (words_after layout before) cut) x → Contains (6 ∷ 7 ∷ []) x
  pub cut_6 : IsCut (words_after layout before) (after_turn (words_after layout before) cut) 6
  -- node 6 is freed, and node 7 waits
  pub all : cuts_of 0 worked_turns ≡ n 6 1 ∷ n 7 1 ∷ []
  pub freed : freed_of 0 worked_turns ≡ n 6 1 ∷ []
  pub waits : waits_of 0 worked_turns ≡ n 7 1 ∷ []
  -- both workers are pinned at the cut. Worker 1 leaves between the cut and the free, but not
  -- before the epoch was to be advanced a second time
  pub remover : IsPinned 0 before
  pub reader : IsPinned 1 before
  pub left : HasLeft 1 (waiting ++ leaving)
  pub stayed : HasLeft 1 waiting → ⊥
  -- worker 1 has learned of node 6 before it looked at it. The slot is still that node until the
  -- worker leaves, although it is cut
  pub told : WasTold layout 1 6 before_look
  pub still : IsStill layout before_told (before_told ++ told_turn ∷ since_told) 6
  -- there is a slot in each kind of place
  pub on_path : StandsAt layout inserting 6 (OnPath (Left ∷ Left ∷ []))
  pub in_pool : StandsAt layout worked_turns 6 InPool
  pub waiting_there : StandsAt layout worked_turns 7 (Waits 0 0)
  pub in_hands : StandsAt layout worked_turns 8 (InHands 0)
  pub let_go : StandsAt layout worked_turns 6 (InHands 0) → ⊥
  -- each history of it has an act of the insert, and one of the delete
  pub inserts : (acts : List Act) → IsHistory layout worked_turns acts
      → HasAct acts 0 (record { pin = 5; op = Insert; key = 10 }) true
  pub deletes : (acts : List Act) → IsHistory layout worked_turns acts
      → HasAct acts 0 (record { pin = 22; op = Delete; key = 10 }) true
  -- the act of the insert is at the moment of the link. The act of the delete is at the moment of
  -- the cut, alone, for the key of the cut leaf
  pub linked : (acts : List Act) → IsHistory layout worked_turns acts
      → (a : Act) × IsAmong acts a × (a.worker ≡ 0) × (a.moment ≡ 20)
      × IsInCall (take 19 inserting) Insert a
  pub deleted : (acts : List Act) → IsHistory layout worked_turns acts
      → HasInARow acts (10 ∷ []) 33
      (λ a. IsInCall before Delete a × HasFlaggedOneOf before a.worker (n 6 1 ∷ n 7 1 ∷ []))
  -- the insert's call began after the turns before its pin, and the delete's call after the
  -- insert's answer; both answers are in each history
  pub insert_stands : AnswerStands layout before_pin inserted 0 Insert 10 true
  pub delete_stands : AnswerStands layout inserted deleted_too 0 Delete 10 true

-- ---- false statements

-- what waits comes first
abbrev pub WaitsComeFirst : List Turn → Type 0
WaitsComeFirst turns = (w : ℕ) → waits_of w turns ++ freed_of w turns ≡ cuts_of w turns

-- every worker leaves between a cut and a free, pinned or not
abbrev pub EverybodyLeaves : List Turn → Type 0
EverybodyLeaves turns = (before between rest : List Turn) (cut free : Turn) (n : NodeId)
    → turns ≡ before ++ cut ∷ (between ++ free ∷ rest) → Contains (nodes_cut_of cut.outcome) n
    → Contains (nodes_freed_of free.outcome) n → (w : ℕ) → HasLeft w between

-- each worker that was pinned at a cut leaves within two turns after it, if the node is freed later
abbrev pub LeavesAtOnce : List Turn → Type 0
LeavesAtOnce turns = (before between rest : List Turn) (cut free : Turn) (n : NodeId)
    → turns ≡ before ++ cut ∷ (between ++ free ∷ rest) → Contains (nodes_cut_of cut.outcome) n
    → Contains (nodes_freed_of free.outcome) n → (w : ℕ) → IsPinned w before
    → HasLeft w (take 2 between)

-- a node is freed as soon as it is cut
abbrev pub NothingWaits : List Turn → Type 0
NothingWaits turns = (so_far rest : List Turn) (w : ℕ) → turns ≡ so_far ++ rest
    → waits_of w so_far ≡ []

-- no turn cuts anything
abbrev pub NothingIsCut : List Turn → Type 0
NothingIsCut turns = (before rest : List Turn) (t : Turn) → turns ≡ before ++ t ∷ rest
    → nodes_cut_of t.outcome ≡ []

-- a slot that was claimed stays in its worker's hands
abbrev pub ClaimsStay : List Turn → Type 0
ClaimsStay turns = (before rest : List Turn) (w s : ℕ)
    → turns ≡ before ++ record { worker = w; event = Claim s; outcome = Ok (Claimed s) } ∷ rest
    → StandsAt layout turns s (InHands w)

-- a slot that a worker has learned of stays the same node for ever
abbrev pub StaysForEver : List Turn → Type 0
StaysForEver turns = (before since : List Turn) (t : Turn) (from x : ℕ)
    → turns ≡ before ++ t ∷ since → edge_told t.event t.outcome ≡ Some (from, x)
    → has_after (opening layout) t.worker from false before ≡ false → IsPinned t.worker before
    → IsStill layout before turns x

-- all of these are false
pub record AreWrong : Type 0 where
  pub waits_first : WaitsComeFirst worked_turns → ⊥
  pub everybody : EverybodyLeaves worked_turns → ⊥
  pub at_once : LeavesAtOnce worked_turns → ⊥
  pub nothing_waits : NothingWaits worked_turns → ⊥
  pub nothing_cut : NothingIsCut worked_turns → ⊥
  pub stay : ClaimsStay worked_turns → ⊥
  pub for_ever : StaysForEver worked_turns → ⊥
  -- `AnswerStands` is false if the earlier turns have the call's own pin, and with another answer,
  -- worker or key
  pub behind_pin : AnswerStands layout (take 6 inserting) inserted 0 Insert 10 true → ⊥
  pub turned : AnswerStands layout before_pin inserted 0 Insert 10 false → ⊥
  pub other_worker : AnswerStands layout before_pin inserted 1 Insert 10 true → ⊥
  pub other_key : AnswerStands layout before_pin inserted 0 Insert 11 true → ⊥
  -- the insert's answer is not that of the delete
  pub earlier : AnswerStands layout inserted deleted_too 0 Insert 10 true → ⊥
