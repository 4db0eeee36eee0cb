-- A worked schedule: a link is lost to a flag, and its worker then helps the delete.
use Rattle.std.specs.Prelude.{◌≡◌, true, false, List, [], ◌∷◌, ◌++◌, map, Ok}
use Rattle.nm_edge.specs.Layouts.{Layout, dense}
use Rattle.nm_edge.specs.declared.edge.Side.TheVariants.{Left, Right}
use Rattle.nm_model.specs.declared.event.Field.TheVariants.{Key, Edge as EdgeOn}
use Rattle.nm_model.specs.declared.event.Op.TheVariants.{Insert, Delete}
use Rattle.nm_model.specs.declared.event.Event.TheVariants.{Sight, SightFor, Announce, LeaveWith, Look, Link, Flag, Tag, Splice, Scan, Advance}
use Rattle.nm_model.specs.declared.reply.Reply.TheVariants.{Saw, Labelled, Pinned, Missed, Announced, Departed, Idle, Moved, KeyIs, EdgeIs, Linked, Flagged, Was, Cut, Lost}
use Rattle.nm_model.specs.declared.trace.Turn.{Turn}
use Rattle.nm_model.specs.Ordered.{ordered, trace_in, turn_of}
use Rattle.nm_model.specs.Shorthands.{t, e, n, makes}
use Rattle.nm_order.specs.Logs.{part_of}
use Rattle.nm_progress.specs.Moves.{number_of, moves, moves_of_others}
use Rattle.nm_progress.specs.Paid.{links_in, flags_in, cuts_in, tags_in}
use Rattle.nm_progress.specs.Tries.{changes_of_others, LosesTries}

abbrev pub layout : Layout
layout = dense 9 2

-- worker 0 inserts 10. Worker 1 reads epoch 0, which worker 0 then advances, and announces it; so
-- its pin is missed once
abbrev pub inserting : List Turn
inserting =
    t 0 Sight (Ok (Saw 0)) ∷
    t 0 Announce (Ok (Announced 0)) ∷
    t 0 (SightFor Insert 10) (Ok (Pinned 0)) ∷
    t 0 (Look 2 (EdgeOn Left)) (Ok (EdgeIs (e 3 false false))) ∷
    t 0 (Look 3 Key) (Ok (KeyIs 18446744073709551613)) ∷
    t 0 (Look 3 (EdgeOn Left)) (Ok (EdgeIs (e 0 false false))) ∷
    makes 0 6 7 18446744073709551613 7 3 10 ++
    t 0 (Link 2 Left 3 6) (Ok (Linked (n 6 1))) ∷
    t 0 (LeaveWith true) (Ok Departed) ∷
    t 1 Sight (Ok (Saw 0)) ∷
    t 0 (Scan 1) (Ok Idle) ∷
    t 0 Advance (Ok (Moved 1)) ∷
    t 1 Announce (Ok (Announced 0)) ∷
    t 1 (SightFor Insert 5) (Ok (Missed 1)) ∷
    t 1 Announce (Ok (Announced 1)) ∷
    t 1 (SightFor Insert 5) (Ok (Pinned 1)) ∷
    []

-- worker 1 reads the edge of 6 to leaf 7, and makes two nodes; then worker 0 flags that edge
abbrev pub reads : List Turn
reads =
    t 1 (Look 2 (EdgeOn Left)) (Ok (EdgeIs (e 6 false false))) ∷
    t 1 (Look 6 Key) (Ok (KeyIs 18446744073709551613)) ∷
    t 1 (Look 6 (EdgeOn Left)) (Ok (EdgeIs (e 7 false false))) ∷
    t 1 (Look 7 Key) (Ok (KeyIs 10)) ∷
    t 1 (Look 7 (EdgeOn Left)) (Ok (EdgeIs (e 0 false false))) ∷
    makes 1 8 9 10 9 7 5 ++
    t 0 Sight (Ok (Saw 1)) ∷
    t 0 Announce (Ok (Announced 1)) ∷
    t 0 (SightFor Delete 10) (Ok (Pinned 1)) ∷
    t 0 (Look 2 (EdgeOn Left)) (Ok (EdgeIs (e 6 false false))) ∷
    t 0 (Look 6 Key) (Ok (KeyIs 18446744073709551613)) ∷
    t 0 (Look 6 (EdgeOn Left)) (Ok (EdgeIs (e 7 false false))) ∷
    t 0 (Look 7 Key) (Ok (KeyIs 10)) ∷
    t 0 (Look 7 (EdgeOn Right)) (Ok (EdgeIs (e 0 false false))) ∷
    t 0 (Flag 6 Left 7) (Ok (Flagged (n 7 1))) ∷
    []

-- worker 1 loses its link, and helps the delete: it tags the other edge of 6, and cuts off 6 and 7
abbrev pub helps : List Turn
helps =
    t 1 (Link 6 Left 7 8) (Ok (Lost (e 7 true false))) ∷
    t 1 (Tag 6 Right) (Ok (Was (e 3 false false))) ∷
    t 1 (Splice 2 Left 6 6 Right) (Ok (Cut (n 6 1 ∷ n 7 1 ∷ []))) ∷
    t 1 Sight (Ok (Labelled 1)) ∷
    []

abbrev pub worked : List Turn
worked = inserting ++ (reads ++ helps)

-- there are one link, one flag, one splice and one tag. Worker 1 loses one try, and worker 0 makes
-- one change after worker 1's pin. The epoch was advanced once, by worker 0
pub record IsWorked : Type 0 where
  pub is_run : trace_in (ordered layout) (map turn_of worked) ≡ worked
  pub links : links_in worked ≡ 1
  pub flags : flags_in worked ≡ 1
  pub cuts : cuts_in worked ≡ 1
  pub tags : tags_in worked ≡ 1
  pub moved : number_of moves worked ≡ 1
  pub by_another : number_of (moves_of_others 1) worked ≡ 1
  pub changes : number_of (changes_of_others 1) (reads ++ helps) ≡ 1
  pub loses : LosesTries layout 1 (part_of 1 inserting) (part_of 1 (reads ++ helps)) 1
