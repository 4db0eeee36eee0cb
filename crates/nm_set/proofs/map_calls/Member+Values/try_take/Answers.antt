use Rattle.std.proofs.Common.{rules}
use Rattle.nm_set.proofs.map_calls.Member+Values.try_take.Goals as goal

pub returns-clause-says : goal.returns-clause-says
returns-clause-says c = record {
  says = search rules;
  busy = search rules;
  unfinished = search rules;
  alone = search
      rules;
}
