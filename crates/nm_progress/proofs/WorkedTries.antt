-- The worked schedule, by computation.
use Rattle.std.proofs.Common.{◌≡◌, true, false, ◌++◌, map, refl}
use Rattle.std.specs.Prelude.{take, drop}
use Rattle.nm_edge.specs.declared.edge.Side.TheVariants.{Left}
use Rattle.nm_model.specs.declared.event.Event.TheVariants.{Link}
use Rattle.nm_model.specs.Knowledge.{knows}
use Rattle.nm_model.specs.Learning.{learn}
use Rattle.nm_model.specs.Ordered.{ordered, trace_in, turn_of, outcome_in, next_in, refused_in, applied_in}
use Rattle.nm_model.specs.Runs.{refused, applied}
use Rattle.nm_model.specs.Searches.{searched}
use Rattle.nm_model.specs.Step.{refusal, reply, write}
use Rattle.nm_model.specs.Shorthands.{e}
use Rattle.nm_order.specs.Logs.{part_of, known_by}
use Rattle.nm_progress.specs.Changes.Expects.{ToLink}
use Rattle.nm_progress.specs.Tries.{LosesTries}
use Rattle.nm_progress.specs.Tries.LosesTries.{NoTry, OneTry}
use Rattle.nm_progress.specs.Worked.{layout, inserting, reads, helps, worked, IsWorked}

is_run : trace_in (ordered layout) (map turn_of worked) ≡ worked
unfolding trace_in outcome_in next_in refused_in applied_in refused applied refusal reply write learn searched
is_run = refl

known : knows (known_by layout 1 (part_of 1 inserting ++ take 2 (part_of 1 reads))) 6 ≡ true
unfolding learn
known = refl

loses : LosesTries layout 1 (part_of 1 inserting) (part_of 1 (reads ++ helps)) 1
loses = OneTry 0 6 Left 7 (take 2 (part_of 1 reads)) (drop 3 (part_of 1 reads)) (drop 1 (part_of 1 helps))
    (Link 6 Left 7 8) (e 7 true false) known (ToLink 8) refl refl NoTry

pub is_worked : IsWorked
is_worked = record {
  is_run = is_run;
  links = refl;
  flags = refl;
  cuts = refl;
  tags = refl;
  moved = refl;
  by_another = refl;
  changes = refl;
  loses = loses;
}
