-- Worked schedules of ordered cores with their histories: the calls in the order of their moments
-- (linearization points).
use Rattle.std.specs.Prelude.{ℕ, true, false, List, [], ◌∷◌, ◌++◌, map, Some, Ok, Contains}
use Rattle.nm_edge.specs.Layouts.{dense}
use Rattle.nm_edge.specs.declared.edge.Side.TheVariants.{Left, Right}
use Rattle.nm_model.specs.declared.event.Field.TheVariants.{Key, Edge as EdgeOn}
use Rattle.nm_model.specs.declared.event.Op.TheVariants.{Has, Insert, Delete}
use Rattle.nm_model.specs.declared.event.Event.{Event}
use Rattle.nm_model.specs.declared.event.Event.TheVariants.{Sight, SightFor, Announce, LeaveWith, Look, Link, Flag, Tag, Splice}
use Rattle.nm_model.specs.declared.reply.Reply.TheVariants.{Saw, Labelled, Pinned, Announced, Departed, KeyIs, EdgeIs, Linked, Flagged, Was, Cut}
use Rattle.nm_model.specs.declared.trace.Turn.{Turn}
use Rattle.nm_model.specs.Ordered.{turn_of}
use Rattle.nm_model.specs.Shorthands.{t, e, n, makes}
use Rattle.nm_core.specs.Schedules.{Worked, IsAsWorkedInOrder, q, l}
use Rattle.nm_model.specs.Acts.{Act, IsAmong, Replays, nothing}
use Rattle.nm_order.specs.History.{InOrderOfMoments, EachOnce, IsActOfRun, HasActOfCall, IsRunHistory}

-- the acts that were worked out by hand, and the keys of the set at the end
pub record Told : Type 0 where
  pub schedule : Worked
  pub acts : List Act
  pub keys : List ℕ

abbrev pub events_of : Told → List (ℕ × Event)
events_of x = map turn_of x.schedule.turns

-- the schedule is as worked. Its acts are of calls of the run, each at a moment of its call, in
-- order and each once. One plain set, empty at first, gives each its answer and has those keys at
-- the end. Every history of the run has acts of exactly these calls
pub record IsAsTold (x : Told) : Type 0 where
  pub schedule : IsAsWorkedInOrder x.schedule x.keys
  pub replays : Replays nothing x.acts (Contains x.keys)
  pub in_order : InOrderOfMoments 0 false x.acts
  pub once : EachOnce x.acts
  pub each : (a : Act) → IsAmong x.acts a → IsActOfRun x.schedule.layout (events_of x) a
  pub found : (acts : List Act) → IsRunHistory x.schedule.layout (events_of x) acts → (a : Act)
      → IsAmong x.acts a → HasActOfCall acts a.worker a.pin a.op a.key a.answer
  pub only : (acts : List Act) → IsRunHistory x.schedule.layout (events_of x) acts → (a : Act)
      → IsAmong acts a → HasActOfCall x.acts a.worker a.pin a.op a.key a.answer

-- worker 0 inserts 5, alone
abbrev pub inserted : List Turn
inserted =
    t 0 Sight (Ok (Saw 0)) ∷
    t 0 Announce (Ok (Announced 0)) ∷
    t 0 (SightFor Insert 5) (Ok (Pinned 0)) ∷
    t 0 (Look 2 (EdgeOn Left)) (Ok (EdgeIs (e 3 false false))) ∷
    t 0 (Look 3 Key) (Ok (KeyIs 18446744073709551613)) ∷
    t 0 (Look 3 (EdgeOn Left)) (Ok (EdgeIs (e 0 false false))) ∷
    makes 0 6 7 18446744073709551613 7 3 5 ++
    t 0 (Link 2 Left 3 6) (Ok (Linked (n 6 1))) ∷
    t 0 (LeaveWith true) (Ok Departed) ∷
    []

-- worker 0 flags the leaf of 5 to delete it
abbrev pub flagged : List Turn
flagged =
    t 0 Announce (Ok (Announced 0)) ∷
    t 0 (SightFor Delete 5) (Ok (Pinned 0)) ∷
    t 0 (Look 2 (EdgeOn Left)) (Ok (EdgeIs (e 6 false false))) ∷
    t 0 (Look 6 Key) (Ok (KeyIs 18446744073709551613)) ∷
    t 0 (Look 6 (EdgeOn Left)) (Ok (EdgeIs (e 7 false false))) ∷
    t 0 (Look 7 Key) (Ok (KeyIs 5)) ∷
    t 0 (Look 7 (EdgeOn Right)) (Ok (EdgeIs (e 0 false false))) ∷
    t 0 (Flag 6 Left 7) (Ok (Flagged (n 7 1))) ∷
    []

-- worker 0 inserts 5, and flags its leaf to delete it. Worker 1, which inserts 6, comes to the
-- flagged leaf, cuts it off and links. The delete is never answered, and its moment is the splice
-- of worker 1
abbrev pub helped : Told
helped = record {
  schedule = record {
    layout = dense 9 2;
    turns =
        inserted ++
        flagged ++
        t 1 Sight (Ok (Saw 0)) ∷
        t 1 Announce (Ok (Announced 0)) ∷
        t 1 (SightFor Insert 6) (Ok (Pinned 0)) ∷
        t 1 (Look 2 (EdgeOn Left)) (Ok (EdgeIs (e 6 false false))) ∷
        t 1 (Look 6 Key) (Ok (KeyIs 18446744073709551613)) ∷
        t 1 (Look 6 (EdgeOn Left)) (Ok (EdgeIs (e 7 true false))) ∷
        t 1 (Look 7 Key) (Ok (KeyIs 5)) ∷
        t 1 (Look 7 (EdgeOn Right)) (Ok (EdgeIs (e 0 false false))) ∷
        t 1 (Tag 6 Right) (Ok (Was (e 3 false false))) ∷
        t 1 (Splice 2 Left 6 6 Right) (Ok (Cut (n 6 1 ∷ n 7 1 ∷ []))) ∷
        t 1 Sight (Ok (Labelled 0)) ∷
        t 1 (Look 2 (EdgeOn Left)) (Ok (EdgeIs (e 3 false false))) ∷
        t 1 (Look 3 Key) (Ok (KeyIs 18446744073709551613)) ∷
        t 1 (Look 3 (EdgeOn Left)) (Ok (EdgeIs (e 0 false false))) ∷
        makes 1 8 9 18446744073709551613 9 3 6 ++
        t 1 (Link 2 Left 3 8) (Ok (Linked (n 8 1))) ∷
        t 1 (LeaveWith true) (Ok Departed) ∷
        [];
    ledgers = l [] [] [] ∷ l (n 6 1 ∷ n 7 1 ∷ []) [] (q (n 6 1) (Some 0) ∷ q (n 7 1) (Some 0) ∷ [])
        ∷ [];
    epoch = 0;
    counts = record { pool = 0; private = 0; reached = 2; queued = 2 };
  };
  acts =
      record { worker = 0; pin = 2; op = Insert; key = 5; answer = true; moment = 17 } ∷
      record { worker = 0; pin = 19; op = Delete; key = 5; answer = true; moment = 36 } ∷
      record { worker = 1; pin = 28; op = Insert; key = 6; answer = true; moment = 51 } ∷
      [];
  keys = 6 ∷ [];
}

-- worker 0 inserts 5. Worker 1 looks for 5 and comes to the edge of its leaf; then worker 0 deletes
-- 5, and answers. Worker 1 reads the leaf, which is cut, and answers that 5 is in the set. This was
-- true at a moment of its call, before the splice
abbrev pub stale : Told
stale = record {
  schedule = record {
    layout = dense 7 2;
    turns =
        inserted ++
        t 1 Sight (Ok (Saw 0)) ∷
        t 1 Announce (Ok (Announced 0)) ∷
        t 1 (SightFor Has 5) (Ok (Pinned 0)) ∷
        t 1 (Look 2 (EdgeOn Left)) (Ok (EdgeIs (e 6 false false))) ∷
        t 1 (Look 6 Key) (Ok (KeyIs 18446744073709551613)) ∷
        t 1 (Look 6 (EdgeOn Left)) (Ok (EdgeIs (e 7 false false))) ∷
        flagged ++
        t 0 (Tag 6 Right) (Ok (Was (e 3 false false))) ∷
        t 0 (Splice 2 Left 6 6 Right) (Ok (Cut (n 6 1 ∷ n 7 1 ∷ []))) ∷
        t 0 Sight (Ok (Labelled 0)) ∷
        t 0 (LeaveWith true) (Ok Departed) ∷
        t 1 (Look 7 Key) (Ok (KeyIs 5)) ∷
        t 1 (Look 7 (EdgeOn Right)) (Ok (EdgeIs (e 0 false false))) ∷
        t 1 (LeaveWith true) (Ok Departed) ∷
        [];
    ledgers = l (n 6 1 ∷ n 7 1 ∷ []) [] (q (n 6 1) (Some 0) ∷ q (n 7 1) (Some 0) ∷ []) ∷ l [] [] []
        ∷ [];
    epoch = 0;
    counts = record { pool = 0; private = 0; reached = 0; queued = 2 };
  };
  acts =
      record { worker = 0; pin = 2; op = Insert; key = 5; answer = true; moment = 17 } ∷
      record { worker = 1; pin = 20; op = Has; key = 5; answer = true; moment = 21 } ∷
      record { worker = 0; pin = 25; op = Delete; key = 5; answer = true; moment = 34 } ∷
      [];
  keys = [];
}
