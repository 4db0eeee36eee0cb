use Rattle.nm_set.specs.Ends.{set_of}
use Rattle.nm_set.proofs.SetEnds.{map_said_ended}
use Rattle.nm_set.proofs.ending.Member+Values.end.Goals as goal

pub into_map_report-requires-clause-all : goal.into_map_report-requires-clause-all
into_map_report-requires-clause-all c = (c.in-Ok.ensures.values c.end_tree.ensures.contents).ends.all

pub into_map_report-requires-clause-laid : goal.into_map_report-requires-clause-laid
into_map_report-requires-clause-laid c = (c.in-Ok.ensures.values c.end_tree.ensures.contents).ends.laid

pub into_map_report-requires-clause-within : goal.into_map_report-requires-clause-within
into_map_report-requires-clause-within c = (c.in-Ok.ensures.values c.end_tree.ensures.contents).ends.within

pub returns-in-Ok-clause-says : goal.returns-in-Ok-clause-says
returns-in-Ok-clause-says c =
    map_said_ended (set_of c.args.self) c.in-Ok.ended c.into_map_report.result c.into_map_report.ensures.report
    c.into_map_report.ensures.keyed c.into_map_report.ensures.slots c.into_map_report.ensures.bare
    (c.in-Ok.ensures.values c.end_tree.ensures.contents)
