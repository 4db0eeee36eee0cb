use Rattle.std.proofs.Common.{◌≤◌, All, length}
use Rattle.nm_files.specs.Entries.{script_of, IsEntryOf}
use Rattle.nm_files.proofs.AllowedLemmas.{if_given, script_is}
use Rattle.nm_files.proofs.read.file.script_of.Goals as goal

pub returns-clause-allowed : goal.returns-clause-allowed
returns-clause-allowed c =
    if_given _ (script_of c.args.command c.args.bytes.now) (λ s. All (IsEntryOf s.header) s.entries.items)
    c.file_of.result c.file_of.ensures.says (λ s is. (script_is c.args.command c.args.bytes.now _ is).0)

pub returns-clause-few : goal.returns-clause-few
returns-clause-few c =
    if_given _ (script_of c.args.command c.args.bytes.now) (λ s. length s.entries.items ≤ 100000) c.file_of.result
    c.file_of.ensures.says (λ s is. (script_is c.args.command c.args.bytes.now _ is).1)
