-- The first line of a file: its command and version, its numbers of nodes and workers, and the
-- number of tries of each call.
use Rattle.nm_files.specs.Chain.{◌>>=◌}
use Rattle.std.specs.Prelude.{◌≡◌, ℕ, List, [], ◌∷◌, codes, Bool, true, false, Result, Ok, Err, if◌then◌else◌}
use Rattle.std.specs.Str.{bytes_eq}
use Rattle.nm_edge.specs.Layouts.{Layout, dense, in_radix}
use Rattle.nm_files.specs.declared.read.fault.Reason.{Reason}
use Rattle.nm_files.specs.declared.read.fault.Reason.TheVariants as reason
use Rattle.nm_files.specs.declared.read.header.Command.{Command}
use Rattle.nm_files.specs.declared.read.header.Command.TheVariants.{Replay, Serial, Stress}
use Rattle.nm_files.specs.declared.read.header.Limits.{Limits}
use Rattle.nm_files.specs.declared.read.header.Forms.{Forms}
use Rattle.nm_files.specs.declared.read.header.Header.{Header}
use Rattle.nm_files.specs.Lines.{number}
use Rattle.nm_model.specs.Step.{outside}

-- the word of each command
abbrev pub command_word : Command → List ℕ
command_word Replay = codes "schedule"
command_word Serial = codes "serial"
command_word Stress = codes "stress"

-- `without_swaps`, `with_swaps`: the forms of lines of a version without swaps, and of one with them
abbrev pub without_swaps : Bool → Forms
without_swaps is_extended = record { is_extended = is_extended; has_swaps = false }

abbrev pub with_swaps : Forms
with_swaps = record { is_extended = true; has_swaps = true }

-- the limits with as many nodes and workers as a layout can have
abbrev pub greatest : Forms → Bool → Limits
greatest forms is_radix = record {
  nodes = 1048576;
  workers = 64;
  forms = forms;
  is_radix = is_radix;
}

-- `later_limits`, `limits_by`: the greatest sizes that a version of the format allows, the forms of
-- its lines, and whether its tree is a radix tree; for versions 2 and later, and for all versions
abbrev pub later_limits : Command → List ℕ → Result Limits Reason
later_limits Replay version =
    if bytes_eq version (codes "2") then Ok (greatest (without_swaps false) false)
    else if bytes_eq version (codes "3") then Ok (greatest (without_swaps true) false)
    else if bytes_eq version (codes "4") then Ok (greatest (without_swaps true) true)
    else if bytes_eq version (codes "5") then Ok (greatest with_swaps true)
    else Err reason.Header
later_limits Serial version =
    if bytes_eq version (codes "2") then Ok (greatest (without_swaps true) false)
    else if bytes_eq version (codes "3") then Ok (greatest (without_swaps true) true)
    else Err reason.Header
later_limits Stress version =
    if bytes_eq version (codes "2") then Ok (greatest (without_swaps false) false)
    else if bytes_eq version (codes "3") then Ok (greatest (without_swaps false) true)
    else Err reason.Header

abbrev pub limits_by : Command → List ℕ → Result Limits Reason
limits_by command version =
    if bytes_eq version (codes "1")
    then Ok (record { nodes = 65536; workers = 32; forms = without_swaps false; is_radix = false })
    else later_limits command version

-- what a version of the command's format allows
abbrev pub limits_of : Command → List ℕ → List ℕ → Result Limits Reason
limits_of command given version =
    if bytes_eq given (command_word command) then limits_by command version
    else Err reason.Header

-- any fault of a number here is a fault of the header
abbrev pub in_header : Result ℕ Reason → Result ℕ Reason
in_header (Ok n) = Ok n
in_header (Err r) = Err reason.Header

-- a number of the header in its one spelling
abbrev pub count : List ℕ → Result ℕ Reason
count field = in_header (number field)

-- the number of tries from the fields after the sizes: one field in a script, and none in a
-- schedule, whose events have one try each
abbrev pub tries_of : Command → List (List ℕ) → Result ℕ Reason
tries_of Replay [] = Ok 1
tries_of Serial (tries ∷ []) = count tries
tries_of Stress (tries ∷ []) = count tries
tries_of command fields = Err reason.Header

-- the layout of these sizes, for a radix tree or not
abbrev pub shaped : Bool → Layout → Layout
shaped is_radix layout = if is_radix then in_radix layout else layout

-- 7 nodes or more, 1 worker or more, no more than the version allows, and 1 to 1,000,000 tries
abbrev pub header_within : Limits → ℕ → ℕ → ℕ → Result Header Reason
header_within limits nodes workers tries =
    if outside 7 limits.nodes nodes then Err reason.Nodes
    else if outside 1 limits.workers workers then Err reason.Workers
    else if outside 1 1000000 tries then Err reason.Tries
    else Ok (record {
      layout = shaped limits.is_radix (dense nodes workers);
      tries = tries;
      forms = limits.forms;
    })

-- the header from its fields, in a file for that command
unfoldable pub header_of : Command → List (List ℕ) → Result Header Reason
header_of command (given ∷ version ∷ nodes ∷ workers ∷ tries) = do
  limits ← limits_of command given version
  nodes ← count nodes
  workers ← count workers
  tries ← tries_of command tries
  header_within limits nodes workers tries
header_of command _ = Err reason.Header

-- workers may resign only in files of `serial`, not in those of `stress`
abbrev pub SerialAlone : Command → Bool → Type 0
SerialAlone Stress is_extended = is_extended ≡ false
SerialAlone command is_extended = Unit {0}
