use Rattle.nm_set.proofs.SetEnds.{map_said_ended}
use Rattle.nm_set.proofs.set.Set+Values.close.Goals as goal

pub into_map_report-requires-clause-all : goal.into_map_report-requires-clause-all
into_map_report-requires-clause-all c = (c.in-Ok.ensures.values c.know_values.ensures.values).ends.all

pub into_map_report-requires-clause-laid : goal.into_map_report-requires-clause-laid
into_map_report-requires-clause-laid c = (c.in-Ok.ensures.values c.know_values.ensures.values).ends.laid

pub into_map_report-requires-clause-within : goal.into_map_report-requires-clause-within
into_map_report-requires-clause-within c = (c.in-Ok.ensures.values c.know_values.ensures.values).ends.within

pub returns-in-Ok-clause-says : goal.returns-in-Ok-clause-says
returns-in-Ok-clause-says c =
    map_said_ended c.args.self c.in-Ok.ended c.into_map_report.result c.into_map_report.ensures.report
    c.into_map_report.ensures.keyed c.into_map_report.ensures.slots c.into_map_report.ensures.bare
    (c.in-Ok.ensures.values c.know_values.ensures.values)
