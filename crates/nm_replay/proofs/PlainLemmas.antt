-- What a plain core's run says, by its state alone.
use Rattle.std.proofs.Common.{◌≡◌, ℕ, List, ap, refl}
use Rattle.std.proofs.lemmas.List.{append-nil}
use Rattle.nm_edge.specs.Layouts.{Layout}
use Rattle.nm_model.specs.declared.event.Event.{Event}
use Rattle.nm_model.specs.Runs.{start, after, trace}
use Rattle.nm_model.specs.Ordered.{Configuration, plain, after_in, trace_in}
use Rattle.nm_model.specs.Reports.{counts}
use Rattle.nm_laws.proofs.Configurations.{plain_runs}
use Rattle.nm_files.specs.LastLines.{places_line}
use Rattle.nm_replay.specs.LastState.{last_lines}
use Rattle.nm_replay.specs.Output.{PlainFilesAreRuns}

pub plain_trace : (L : Layout) (ts : List (ℕ × Event)) → trace_in (plain L) ts ≡ trace (start L) ts
plain_trace L ts = (plain_runs (start L) ts).1

pub plain_state : (L : Layout) (ts : List (ℕ × Event)) → (after_in (plain L) ts).state ≡ after (start L) ts
plain_state L ts = ap (λ (c : Configuration). c.state) (plain_runs (start L) ts).0

-- a file that is not ordered is told by a run of states, and has no line of keys
pub plain_files : PlainFilesAreRuns
unfolding last_lines
plain_files L ts lines =
    let s = after (start L) ts in
    rw (plain_trace L ts, plain_state L ts, append-nil (places_line (counts s))) refl
