use Rattle.std.proofs.Common.{append_assoc, rules}
use Rattle.nm_files.proofs.write.last_lines.put_places.Goals as goal

pub returns : goal.returns
unfolding Rattle.nm_files.specs.LastLines.places_line
returns c = search (rules, append_assoc)
