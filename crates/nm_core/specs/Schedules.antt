-- Worked schedules: the events with the outcome of each, and the ledgers, the epoch and the counts
-- at the end.
use Rattle.std.specs.Prelude.{◌≡◌, ℕ, true, false, List, [], ◌∷◌, ◌++◌, map, Option, Some, None, Ok, Err}
use Rattle.nm_edge.specs.Layouts.{Layout, dense, in_radix}
use Rattle.nm_edge.specs.declared.node.NodeId.{NodeId}
use Rattle.nm_edge.specs.declared.edge.Side.TheVariants.{Left, Right}
use Rattle.nm_model.specs.declared.event.Field.TheVariants.{Key, Edge as EdgeOn, Birth}
use Rattle.nm_model.specs.declared.event.Op.TheVariants.{Insert, Delete}
use Rattle.nm_model.specs.declared.event.Event.TheVariants.{Sight, SightFor, Announce, Leave, LeaveWith, Scan, Advance, Claim, Give, Look, Fill, Link, Flag, Tag, Splice, Join}
use Rattle.nm_model.specs.declared.reply.Reply.TheVariants.{Saw, Labelled, Pinned, Missed, Announced, Departed, Idle, In, Moved, Behind, Claimed, Taken, Returned, Freed, KeyIs, BirthIs, EdgeIs, Filled, Linked, Flagged, Was, Cut, Lost, Joined}
use Rattle.nm_model.specs.declared.reply.Refused.TheVariants.{NoWorker, NoSlot, NotPinned, NotHeld, NotPrivate, NotReady, NotFront, TooYoung, NotFrozen, NotOrdered, NoAnswer}
use Rattle.nm_model.specs.declared.trace.Turn.{Turn}
use Rattle.nm_model.specs.declared.ledger.Queued.{Queued}
use Rattle.nm_model.specs.declared.ledger.Ledger.{Ledger}
use Rattle.nm_model.specs.declared.places.Places.{Places}
use Rattle.nm_model.specs.Reports.{report, ordered_report}
use Rattle.nm_model.specs.Shorthands.{t, e, n, makes, pins}

-- a worked schedule
pub record Worked : Type 0 where
  pub layout : Layout
  pub turns : List Turn
  pub ledgers : List (Option Ledger)
  pub epoch : ℕ
  pub counts : Places

-- a run of the events from the opening has these outcomes, and leads to these ledgers, this epoch
-- and these counts
abbrev pub IsAsWorked : Worked → Type 0
IsAsWorked x = report x.layout (map (λ t. (t.worker, t.event)) x.turns)
    ≡ record { trace = x.turns; ledgers = x.ledgers; epoch = x.epoch; counts = x.counts }

-- the same in an ordered core, with these keys at the end
abbrev pub IsAsWorkedInOrder : Worked → List ℕ → Type 0
IsAsWorkedInOrder x keys = ordered_report x.layout (map (λ t. (t.worker, t.event)) x.turns)
    ≡ record {
      report = record {
        trace = x.turns;
        ledgers = x.ledgers;
        epoch = x.epoch;
        counts = x.counts;
      };
      keys = keys;
    }

-- `q`, `l`: a queued node and a ledger, in short
abbrev pub q : NodeId → Option ℕ → Queued
q node label = record { node = node; label = label }

abbrev pub l : List NodeId → List NodeId → List Queued → Option Ledger
l retired freed queue = Some (record { retired = retired; freed = freed; queue = queue })

-- worker 0 pins the epoch and inserts 10
abbrev pub ten : List Turn
ten =
    pins 0 ++
    t 0 (Look 2 (EdgeOn Left)) (Ok (EdgeIs (e 3 false false))) ∷
    t 0 (Look 3 (EdgeOn Left)) (Ok (EdgeIs (e 0 false false))) ∷
    makes 0 6 7 18446744073709551613 7 3 10 ++
    t 0 (Link 2 Left 3 6) (Ok (Linked (n 6 1))) ∷
    t 0 (Look 6 (EdgeOn Left)) (Ok (EdgeIs (e 7 false false))) ∷
    t 0 (Look 7 (EdgeOn Left)) (Ok (EdgeIs (e 0 false false))) ∷
    []

-- then worker 0 inserts 20
abbrev pub ten_and_twenty : List Turn
ten_and_twenty = ten ++ makes 0 8 9 20 7 9 20 ++ t 0 (Link 6 Left 7 8) (Ok (Linked (n 8 1))) ∷ []

-- a worker that stays pinned holds the epoch back
abbrev pub held_back : Worked
held_back = record {
  layout = dense 7 2;
  turns =
      pins 1 ++
      t 0 Sight (Ok (Saw 0)) ∷
      t 0 (Scan 1) (Ok (In 0)) ∷
      t 0 Advance (Ok (Moved 1)) ∷
      t 0 (Scan 1) (Ok (In 0)) ∷
      t 0 Advance (Err NotReady) ∷
      [];
  ledgers =
      l ([]) ([]) ([]) ∷
      l ([]) ([]) ([]) ∷
      [];
  epoch = 1;
  counts = record { pool = 2; private = 0; reached = 0; queued = 0 };
}

-- two workers scan one epoch, and one of them advances it
abbrev pub two_scanners : Worked
two_scanners = record {
  layout = dense 7 2;
  turns =
      t 0 Sight (Ok (Saw 0)) ∷
      t 1 Sight (Ok (Saw 0)) ∷
      t 0 (Scan 1) (Ok Idle) ∷
      t 1 (Scan 0) (Ok Idle) ∷
      t 0 Advance (Ok (Moved 1)) ∷
      t 1 Advance (Ok (Behind 1)) ∷
      t 1 Advance (Err NotReady) ∷
      [];
  ledgers =
      l ([]) ([]) ([]) ∷
      l ([]) ([]) ([]) ∷
      [];
  epoch = 1;
  counts = record { pool = 2; private = 0; reached = 0; queued = 0 };
}

-- an announcement of an epoch that has passed confirms no pin
abbrev pub stale_announcement : Worked
stale_announcement = record {
  layout = dense 7 2;
  turns =
      t 0 Sight (Ok (Saw 0)) ∷
      t 1 Sight (Ok (Saw 0)) ∷
      t 1 (Scan 0) (Ok Idle) ∷
      t 1 Advance (Ok (Moved 1)) ∷
      t 0 Announce (Ok (Announced 0)) ∷
      t 0 Sight (Ok (Missed 1)) ∷
      t 0 (Look 2 (EdgeOn Left)) (Err NotPinned) ∷
      t 0 Announce (Ok (Announced 1)) ∷
      t 0 Sight (Ok (Pinned 1)) ∷
      t 0 (Look 2 (EdgeOn Left)) (Ok (EdgeIs (e 3 false false))) ∷
      [];
  ledgers =
      l ([]) ([]) ([]) ∷
      l ([]) ([]) ([]) ∷
      [];
  epoch = 1;
  counts = record { pool = 2; private = 0; reached = 0; queued = 0 };
}

-- a pin is lost because the epoch was advanced, and won at the second attempt
abbrev pub lost_pin : Worked
lost_pin = record {
  layout = dense 7 2;
  turns =
      t 0 Sight (Ok (Saw 0)) ∷
      t 1 Sight (Ok (Saw 0)) ∷
      t 1 (Scan 0) (Ok Idle) ∷
      t 1 Advance (Ok (Moved 1)) ∷
      t 0 Announce (Ok (Announced 0)) ∷
      t 0 Sight (Ok (Missed 1)) ∷
      t 0 Announce (Ok (Announced 1)) ∷
      t 0 Sight (Ok (Pinned 1)) ∷
      [];
  ledgers =
      l ([]) ([]) ([]) ∷
      l ([]) ([]) ([]) ∷
      [];
  epoch = 1;
  counts = record { pool = 2; private = 0; reached = 0; queued = 0 };
}

-- a slot is claimed, filled and given back
abbrev pub words_and_places : Worked
words_and_places = record {
  layout = dense 7 1;
  turns =
      t 0 (Look 2 (EdgeOn Left)) (Err NotPinned) ∷
      t 0 (Claim 6) (Ok (Claimed 6)) ∷
      t 0 (Look 6 Birth) (Ok (BirthIs 0)) ∷
      t 0 (Fill 6 Key 10) (Err NotReady) ∷
      t 0 (Fill 6 Birth 2) (Err NotReady) ∷
      t 0 (Fill 6 Birth 1) (Ok Filled) ∷
      t 0 (Fill 6 Key 10) (Ok Filled) ∷
      t 0 (Look 6 Key) (Ok (KeyIs 10)) ∷
      t 0 (Claim 6) (Ok Taken) ∷
      t 0 (Claim 5) (Err NoSlot) ∷
      pins 0 ++
      t 0 (Look 3 Key) (Err NotHeld) ∷
      t 0 (Look 2 (EdgeOn Left)) (Ok (EdgeIs (e 3 false false))) ∷
      t 0 (Look 3 Key) (Ok (KeyIs 18446744073709551613)) ∷
      t 0 (Look 3 (EdgeOn Left)) (Ok (EdgeIs (e 0 false false))) ∷
      t 0 (Give 6) (Ok (Returned 6)) ∷
      t 0 (Fill 6 Key 11) (Err NotPrivate) ∷
      t 0 (Look 6 Key) (Err NotHeld) ∷
      [];
  ledgers =
      l ([]) ([]) ([]) ∷
      [];
  epoch = 0;
  counts = record { pool = 2; private = 0; reached = 0; queued = 0 };
}

-- one splice cuts a chain of two internal nodes
abbrev pub long_chain : Worked
long_chain = record {
  layout = dense 16 2;
  turns =
      ten_and_twenty ++
      t 0 (Look 8 (EdgeOn Right)) (Ok (EdgeIs (e 9 false false))) ∷
      t 0 (Look 9 (EdgeOn Left)) (Ok (EdgeIs (e 0 false false))) ∷
      makes 0 10 11 30 9 11 30 ++
      t 0 (Link 8 Right 9 10) (Ok (Linked (n 10 1))) ∷
      t 0 (Flag 8 Left 7) (Ok (Flagged (n 7 1))) ∷
      t 0 (Tag 8 Right) (Ok (Was (e 10 false false))) ∷
      pins 1 ++
      t 1 (Look 2 (EdgeOn Left)) (Ok (EdgeIs (e 6 false false))) ∷
      t 1 (Look 6 (EdgeOn Left)) (Ok (EdgeIs (e 8 false false))) ∷
      t 1 (Look 8 (EdgeOn Left)) (Ok (EdgeIs (e 7 true false))) ∷
      t 1 (Look 8 (EdgeOn Right)) (Ok (EdgeIs (e 10 false true))) ∷
      t 1 (Look 10 (EdgeOn Left)) (Ok (EdgeIs (e 9 false false))) ∷
      t 1 (Look 9 (EdgeOn Left)) (Ok (EdgeIs (e 0 false false))) ∷
      t 1 (Flag 10 Left 9) (Ok (Flagged (n 9 1))) ∷
      t 1 (Tag 10 Right) (Ok (Was (e 11 false false))) ∷
      t 1 (Splice 6 Left 8 10 Right) (Ok (Cut ((n 8 1) ∷ (n 7 1) ∷ (n 10 1) ∷ (n 9 1) ∷ []))) ∷
      t 1 Sight (Ok (Labelled 0)) ∷
      [];
  ledgers =
      l ([]) ([]) ([]) ∷
      l ((n 8 1) ∷ (n 7 1) ∷ (n 10 1) ∷ (n 9 1) ∷ []) ([])
      ((q (n 8 1) (Some 0)) ∷ (q (n 7 1) (Some 0)) ∷ (q (n 10 1) (Some 0))
      ∷ (q (n 9 1) (Some 0)) ∷ []) ∷
      [];
  epoch = 0;
  counts = record { pool = 5; private = 0; reached = 2; queued = 4 };
}

-- both leaves of one parent are flagged
abbrev pub both_flagged : Worked
both_flagged = record {
  layout = dense 16 2;
  turns =
      ten_and_twenty ++
      t 0 (Flag 8 Left 7) (Ok (Flagged (n 7 1))) ∷
      pins 1 ++
      t 1 (Look 2 (EdgeOn Left)) (Ok (EdgeIs (e 6 false false))) ∷
      t 1 (Look 6 (EdgeOn Left)) (Ok (EdgeIs (e 8 false false))) ∷
      t 1 (Look 8 (EdgeOn Right)) (Ok (EdgeIs (e 9 false false))) ∷
      t 1 (Look 9 (EdgeOn Left)) (Ok (EdgeIs (e 0 false false))) ∷
      t 1 (Flag 8 Right 9) (Ok (Flagged (n 9 1))) ∷
      t 0 (Tag 8 Right) (Ok (Was (e 9 true false))) ∷
      t 1 (Tag 8 Left) (Ok (Was (e 7 true false))) ∷
      t 0 (Splice 6 Left 8 8 Right) (Ok (Cut ((n 8 1) ∷ (n 7 1) ∷ []))) ∷
      t 1 (Splice 6 Left 8 8 Left) (Ok (Lost (e 9 true false))) ∷
      t 0 Sight (Ok (Labelled 0)) ∷
      t 1 (Tag 6 Right) (Ok (Was (e 3 false false))) ∷
      t 1 (Splice 2 Left 6 6 Right) (Ok (Cut ((n 6 1) ∷ (n 9 1) ∷ []))) ∷
      t 1 Leave (Err NotReady) ∷
      t 1 Sight (Ok (Labelled 0)) ∷
      [];
  ledgers =
      l ((n 8 1) ∷ (n 7 1) ∷ []) ([]) ((q (n 8 1) (Some 0)) ∷ (q (n 7 1) (Some 0)) ∷ []) ∷
      l ((n 6 1) ∷ (n 9 1) ∷ []) ([]) ((q (n 6 1) (Some 0)) ∷ (q (n 9 1) (Some 0)) ∷ []) ∷
      [];
  epoch = 0;
  counts = record { pool = 7; private = 0; reached = 0; queued = 4 };
}

-- a link is lost to a flag, and the worker helps to cut
abbrev pub helping : Worked
helping = record {
  layout = dense 16 2;
  turns =
      ten_and_twenty ++
      t 0 (Look 8 (EdgeOn Left)) (Ok (EdgeIs (e 7 false false))) ∷
      makes 0 10 11 15 7 11 15 ++
      pins 1 ++
      t 1 (Look 2 (EdgeOn Left)) (Ok (EdgeIs (e 6 false false))) ∷
      t 1 (Look 6 (EdgeOn Left)) (Ok (EdgeIs (e 8 false false))) ∷
      t 1 (Look 8 (EdgeOn Left)) (Ok (EdgeIs (e 7 false false))) ∷
      t 1 (Look 7 (EdgeOn Left)) (Ok (EdgeIs (e 0 false false))) ∷
      t 1 (Flag 8 Left 7) (Ok (Flagged (n 7 1))) ∷
      t 0 (Link 8 Left 7 10) (Ok (Lost (e 7 true false))) ∷
      t 0 (Tag 8 Right) (Ok (Was (e 9 false false))) ∷
      t 0 (Splice 6 Left 8 8 Right) (Ok (Cut ((n 8 1) ∷ (n 7 1) ∷ []))) ∷
      t 0 Sight (Ok (Labelled 0)) ∷
      t 0 (Look 6 (EdgeOn Left)) (Ok (EdgeIs (e 9 false false))) ∷
      t 0 (Look 9 (EdgeOn Left)) (Ok (EdgeIs (e 0 false false))) ∷
      t 0 (Fill 10 Key 20) (Ok Filled) ∷
      t 0 (Fill 10 (EdgeOn Left) 11) (Ok Filled) ∷
      t 0 (Fill 10 (EdgeOn Right) 9) (Ok Filled) ∷
      t 0 (Link 6 Left 9 10) (Ok (Linked (n 10 1))) ∷
      [];
  ledgers =
      l ((n 8 1) ∷ (n 7 1) ∷ []) ([]) ((q (n 8 1) (Some 0)) ∷ (q (n 7 1) (Some 0)) ∷ []) ∷
      l ([]) ([]) ([]) ∷
      [];
  epoch = 0;
  counts = record { pool = 5; private = 0; reached = 4; queued = 2 };
}

-- nodes are freed in order, and only if they are not too young
abbrev pub order_and_age : Worked
order_and_age = record {
  layout = dense 7 1;
  turns =
      ten ++
      t 0 (Splice 2 Left 6 6 Right) (Err NotFrozen) ∷
      t 0 (Flag 6 Left 7) (Ok (Flagged (n 7 1))) ∷
      t 0 (Tag 6 Right) (Ok (Was (e 3 false false))) ∷
      t 0 (Splice 2 Left 6 6 Right) (Ok (Cut ((n 6 1) ∷ (n 7 1) ∷ []))) ∷
      t 0 (Give 6) (Err NotReady) ∷
      t 0 Sight (Ok (Labelled 0)) ∷
      t 0 (Give 7) (Err NotFront) ∷
      t 0 (Give 6) (Err TooYoung) ∷
      t 0 Leave (Ok Departed) ∷
      t 0 Advance (Ok (Moved 1)) ∷
      t 0 (Give 6) (Err TooYoung) ∷
      t 0 Advance (Ok (Moved 2)) ∷
      t 0 (Give 6) (Ok (Freed (n 6 1))) ∷
      t 0 (Give 7) (Ok (Freed (n 7 1))) ∷
      t 0 (Give 7) (Err NotPrivate) ∷
      t 0 (Claim 6) (Ok (Claimed 6)) ∷
      t 0 (Fill 6 Birth 1) (Err NotReady) ∷
      t 0 (Fill 6 Birth 2) (Ok Filled) ∷
      t 0 (Give 6) (Ok (Returned 6)) ∷
      [];
  ledgers =
      l ((n 6 1) ∷ (n 7 1) ∷ []) ((n 6 1) ∷ (n 7 1) ∷ []) ([]) ∷
      [];
  epoch = 2;
  counts = record { pool = 2; private = 0; reached = 0; queued = 0 };
}

-- events that are refused because of what they name
abbrev pub refusals : Worked
refusals = record {
  layout = dense 16 2;
  turns =
      ten_and_twenty ++
      t 0 (Scan 2) (Err NoWorker) ∷
      t 1 Advance (Err NotReady) ∷
      t 1 Announce (Err NotReady) ∷
      t 0 Announce (Err NotReady) ∷
      t 0 (Look 9 Key) (Err NotHeld) ∷
      t 0 (Flag 8 Right 9) (Err NotHeld) ∷
      t 0 (Link 8 Right 9 10) (Err NotHeld) ∷
      t 0 (Link 2 Left 6 10) (Err NotHeld) ∷
      t 0 (Tag 8 Right) (Err NotFrozen) ∷
      t 0 (Splice 6 Left 8 8 Right) (Err NotFrozen) ∷
      t 0 (Splice 6 Left 3 8 Right) (Err NoSlot) ∷
      t 0 (Flag 2 Left 3) (Err NoSlot) ∷
      t 0 (Give 9) (Err NotPrivate) ∷
      t 0 (Give 5) (Err NoSlot) ∷
      t 1 (Tag 8 Left) (Err NotPinned) ∷
      t 0 (Fill 8 Key 1) (Err NotPrivate) ∷
      t 0 (Fill 8 (EdgeOn Left) 17) (Err NoSlot) ∷
      t 0 (Claim 17) (Err NoSlot) ∷
      t 0 (Claim 10) (Ok (Claimed 10)) ∷
      t 0 (Link 8 Left 7 10) (Err NotReady) ∷
      t 0 Leave (Ok Departed) ∷
      t 0 (Look 10 Birth) (Ok (BirthIs 0)) ∷
      t 0 (Look 8 Key) (Err NotPinned) ∷
      t 0 (Give 10) (Ok (Returned 10)) ∷
      [];
  ledgers =
      l ([]) ([]) ([]) ∷
      l ([]) ([]) ([]) ∷
      [];
  epoch = 0;
  counts = record { pool = 7; private = 0; reached = 4; queued = 0 };
}

-- a worker with a private slot cannot resign; once it has given the slot back it does, and makes no
-- step any more
abbrev pub resigning_schedule : Worked
resigning_schedule = record {
  layout = dense 7 2;
  turns =
      t 0 (Join 2) (Err NoWorker) ∷
      t 0 (Join 0) (Err NoWorker) ∷
      t 1 (Claim 6) (Ok (Claimed 6)) ∷
      t 0 (Join 1) (Err NotReady) ∷
      t 1 (Give 6) (Ok (Returned 6)) ∷
      t 0 (Join 1) (Ok (Joined (None ∷ l [] [] [] ∷ []))) ∷
      t 1 Sight (Err NoWorker) ∷
      [];
  ledgers =
      l [] [] [] ∷
      l [] [] [] ∷
      [];
  epoch = 0;
  counts = record { pool = 2; private = 0; reached = 0; queued = 0 };
}

-- an insert in an ordered core: no link of a leaf with another key, and no leave without the answer
abbrev pub insert_in_order : Worked
insert_in_order = record {
  layout = dense 7 1;
  turns =
      t 0 Sight (Ok (Saw 0)) ∷
      t 0 Announce (Ok (Announced 0)) ∷
      t 0 (SightFor Insert 5) (Ok (Pinned 0)) ∷
      t 0 (Look 2 (EdgeOn Left)) (Ok (EdgeIs (e 3 false false))) ∷
      t 0 (Look 3 Key) (Ok (KeyIs 18446744073709551613)) ∷
      t 0 (Look 3 (EdgeOn Left)) (Ok (EdgeIs (e 0 false false))) ∷
      t 0 (LeaveWith false) (Err NoAnswer) ∷
      makes 0 6 7 18446744073709551613 7 3 4 ++
      t 0 (Link 2 Left 3 6) (Err NotOrdered) ∷
      t 0 (Fill 7 Key 5) (Ok Filled) ∷
      t 0 (Link 2 Left 3 6) (Ok (Linked (n 6 1))) ∷
      t 0 Leave (Err NoAnswer) ∷
      t 0 (LeaveWith false) (Err NoAnswer) ∷
      t 0 (LeaveWith true) (Ok Departed) ∷
      [];
  ledgers = l [] [] [] ∷ [];
  epoch = 0;
  counts = record { pool = 0; private = 0; reached = 2; queued = 0 };
}

-- a delete in an ordered core: it flags only one leaf, and its own splice shows the answer
abbrev pub delete_in_order : Worked
delete_in_order = record {
  layout = dense 7 1;
  turns =
      t 0 Sight (Ok (Saw 0)) ∷
      t 0 Announce (Ok (Announced 0)) ∷
      t 0 (SightFor Insert 5) (Ok (Pinned 0)) ∷
      t 0 (SightFor Insert 5) (Err NotReady) ∷
      t 0 (Look 2 (EdgeOn Left)) (Ok (EdgeIs (e 3 false false))) ∷
      t 0 (Look 3 Key) (Ok (KeyIs 18446744073709551613)) ∷
      t 0 (Look 3 (EdgeOn Left)) (Ok (EdgeIs (e 0 false false))) ∷
      makes 0 6 7 18446744073709551613 7 3 5 ++
      t 0 (Link 2 Left 3 6) (Ok (Linked (n 6 1))) ∷
      t 0 (LeaveWith true) (Ok Departed) ∷
      t 0 Announce (Ok (Announced 0)) ∷
      t 0 (SightFor Delete 5) (Ok (Pinned 0)) ∷
      t 0 (Look 2 (EdgeOn Left)) (Ok (EdgeIs (e 6 false false))) ∷
      t 0 (Look 6 Key) (Ok (KeyIs 18446744073709551613)) ∷
      t 0 (Look 6 (EdgeOn Left)) (Ok (EdgeIs (e 7 false false))) ∷
      t 0 (Look 7 (EdgeOn Right)) (Ok (EdgeIs (e 0 false false))) ∷
      t 0 (Flag 6 Left 7) (Err NotOrdered) ∷
      t 0 (Look 7 Key) (Ok (KeyIs 5)) ∷
      t 0 (Look 7 (EdgeOn Left)) (Ok (EdgeIs (e 0 false false))) ∷
      t 0 (Flag 6 Left 7) (Err NotOrdered) ∷
      t 0 (Look 7 (EdgeOn Right)) (Ok (EdgeIs (e 0 false false))) ∷
      t 0 (LeaveWith false) (Err NoAnswer) ∷
      t 0 (Flag 6 Left 7) (Ok (Flagged (n 7 1))) ∷
      t 0 (Flag 6 Left 7) (Err NotOrdered) ∷
      t 0 (LeaveWith true) (Err NoAnswer) ∷
      t 0 (Look 2 (EdgeOn Left)) (Ok (EdgeIs (e 6 false false))) ∷
      t 0 (Look 6 Key) (Ok (KeyIs 18446744073709551613)) ∷
      t 0 (Look 6 (EdgeOn Left)) (Ok (EdgeIs (e 7 true false))) ∷
      t 0 (Look 7 Key) (Ok (KeyIs 5)) ∷
      t 0 (Look 7 (EdgeOn Right)) (Ok (EdgeIs (e 0 false false))) ∷
      t 0 (LeaveWith true) (Err NoAnswer) ∷
      t 0 (Tag 6 Right) (Ok (Was (e 3 false false))) ∷
      t 0 (Splice 2 Left 6 6 Right) (Ok (Cut (n 6 1 ∷ n 7 1 ∷ []))) ∷
      t 0 Sight (Ok (Labelled 0)) ∷
      t 0 (LeaveWith true) (Ok Departed) ∷
      [];
  ledgers = l (n 6 1 ∷ n 7 1 ∷ []) [] (q (n 6 1) (Some 0) ∷ q (n 7 1) (Some 0) ∷ []) ∷ [];
  epoch = 0;
  counts = record { pool = 0; private = 0; reached = 0; queued = 2 };
}

-- ---- a radix tree

-- worker 0 inserts 5, then 6 beside it and 100 over the internal node 8, whose range is from 4 to
-- 7. It comes to slot 8 again to insert 12, by the edge of the internal node 10. Worker 1 deletes
-- 100, and so cuts 10 off. The link over 8 is lost, and is won at the next edge that leads to 8
abbrev pub parent_cut : Worked
parent_cut = record {
  layout = in_radix (dense 16 2);
  turns =
      t 0 Sight (Ok (Saw 0)) ∷
      t 0 Announce (Ok (Announced 0)) ∷
      t 0 (SightFor Insert 5) (Ok (Pinned 0)) ∷
      t 0 (Look 2 (EdgeOn Left)) (Ok (EdgeIs (e 3 false false))) ∷
      t 0 (Look 3 Key) (Ok (KeyIs 18446744073709551613)) ∷
      t 0 (Look 3 (EdgeOn Left)) (Ok (EdgeIs (e 0 false false))) ∷
      makes 0 6 7 9223372036854775808 7 3 5 ++
      t 0 (Link 2 Left 3 6) (Ok (Linked (n 6 1))) ∷
      t 0 (LeaveWith true) (Ok Departed) ∷
      t 0 Announce (Ok (Announced 0)) ∷
      t 0 (SightFor Insert 6) (Ok (Pinned 0)) ∷
      t 0 (Look 2 (EdgeOn Left)) (Ok (EdgeIs (e 6 false false))) ∷
      t 0 (Look 6 Key) (Ok (KeyIs 9223372036854775808)) ∷
      t 0 (Look 6 (EdgeOn Left)) (Ok (EdgeIs (e 7 false false))) ∷
      t 0 (Look 7 Key) (Ok (KeyIs 5)) ∷
      t 0 (Look 7 (EdgeOn Right)) (Ok (EdgeIs (e 0 false false))) ∷
      makes 0 8 9 6 7 9 6 ++
      t 0 (Link 6 Left 7 8) (Ok (Linked (n 8 1))) ∷
      t 0 (LeaveWith true) (Ok Departed) ∷
      t 0 Announce (Ok (Announced 0)) ∷
      t 0 (SightFor Insert 100) (Ok (Pinned 0)) ∷
      t 0 (Look 2 (EdgeOn Left)) (Ok (EdgeIs (e 6 false false))) ∷
      t 0 (Look 6 Key) (Ok (KeyIs 9223372036854775808)) ∷
      t 0 (Look 6 (EdgeOn Left)) (Ok (EdgeIs (e 8 false false))) ∷
      t 0 (Look 8 Key) (Ok (KeyIs 6)) ∷
      makes 0 10 11 64 8 11 100 ++
      t 0 (Link 6 Left 8 10) (Ok (Linked (n 10 1))) ∷
      t 0 (LeaveWith true) (Ok Departed) ∷
      t 0 Announce (Ok (Announced 0)) ∷
      t 0 (SightFor Insert 12) (Ok (Pinned 0)) ∷
      t 0 (Look 2 (EdgeOn Left)) (Ok (EdgeIs (e 6 false false))) ∷
      t 0 (Look 6 Key) (Ok (KeyIs 9223372036854775808)) ∷
      t 0 (Look 6 (EdgeOn Left)) (Ok (EdgeIs (e 10 false false))) ∷
      t 0 (Look 10 Key) (Ok (KeyIs 64)) ∷
      t 0 (Look 10 (EdgeOn Left)) (Ok (EdgeIs (e 8 false false))) ∷
      t 0 (Look 8 Key) (Ok (KeyIs 6)) ∷
      makes 0 12 13 8 8 13 12 ++
      t 1 Sight (Ok (Saw 0)) ∷
      t 1 Announce (Ok (Announced 0)) ∷
      t 1 (SightFor Delete 100) (Ok (Pinned 0)) ∷
      t 1 (Look 2 (EdgeOn Left)) (Ok (EdgeIs (e 6 false false))) ∷
      t 1 (Look 6 Key) (Ok (KeyIs 9223372036854775808)) ∷
      t 1 (Look 6 (EdgeOn Left)) (Ok (EdgeIs (e 10 false false))) ∷
      t 1 (Look 10 Key) (Ok (KeyIs 64)) ∷
      t 1 (Look 10 (EdgeOn Right)) (Ok (EdgeIs (e 11 false false))) ∷
      t 1 (Look 11 Key) (Ok (KeyIs 100)) ∷
      t 1 (Look 11 (EdgeOn Right)) (Ok (EdgeIs (e 0 false false))) ∷
      t 1 (Flag 10 Right 11) (Ok (Flagged (n 11 1))) ∷
      t 1 (Tag 10 Left) (Ok (Was (e 8 false false))) ∷
      t 1 (Splice 6 Left 10 10 Left) (Ok (Cut (n 10 1 ∷ n 11 1 ∷ []))) ∷
      t 1 Sight (Ok (Labelled 0)) ∷
      t 1 (LeaveWith true) (Ok Departed) ∷
      t 0 (Link 10 Left 8 12) (Ok (Lost (e 8 false true))) ∷
      t 0 (Look 2 (EdgeOn Left)) (Ok (EdgeIs (e 6 false false))) ∷
      t 0 (Look 6 (EdgeOn Left)) (Ok (EdgeIs (e 8 false false))) ∷
      t 0 (Look 8 Key) (Ok (KeyIs 6)) ∷
      t 0 (Link 6 Left 8 12) (Ok (Linked (n 12 1))) ∷
      t 0 (LeaveWith true) (Ok Departed) ∷
      [];
  ledgers = l [] [] []
      ∷ l (n 10 1 ∷ n 11 1 ∷ []) [] (q (n 10 1) (Some 0) ∷ q (n 11 1) (Some 0) ∷ []) ∷ [];
  epoch = 0;
  counts = record { pool = 3; private = 0; reached = 6; queued = 2 };
}
