-- What a run tells of its input, by the bytes that it read.
use Rattle.std.proofs.Common.{◌≡◌, ℕ, List, take, Ok, Err, refl, sym, ap, ◌∙◌}
use Rattle.std.specs.Prelude.{Option, Some, None, IfSome, IsOk}
use Rattle.std.specs.Io.KnownBytes.{Appends}
use Rattle.nm_files.specs.declared.read.fault.RunFault.{RunFault}
use Rattle.nm_files.specs.declared.read.fault.RunFault.TheVariants as run
use Rattle.nm_files.specs.Files.{Fails, IfLine}
use Rattle.nm_files.specs.declared.read.header.Command.TheVariants.{Replay}
use Rattle.nm_files.specs.Entries.{line_of, first_line_of}
use Rattle.nm_files.specs.Kinds.{events}
use Rattle.nm_replay.specs.Output.{output_of, Writes}
use Rattle.nm_files.proofs.LimitLemmas.{both_then, within_limit}

-- what is written for the bytes up to the limit is what is written for all
same_output : (input : List ℕ) → output_of (take 12100122 input) ≡ output_of input
same_output input = within_limit (first_line_of Replay) (line_of events) output_of
    (λ p q both. both_then _ _ _ _ both) input

-- so it may be judged by them
pub enough : (known : Option (List ℕ)) (bytes : List ℕ) → IfSome known (λ input. bytes ≡ take 12100122 input)
    → IfSome known (λ input. output_of bytes ≡ output_of input)
enough None bytes h = tt
enough (Some input) bytes h = ap output_of h ∙ same_output input

-- ---- what a run tells of its input, by the bytes that it read

pub tells_fault : (known : Option (List ℕ)) (bytes : List ℕ) (e : RunFault)
    → IfSome known (λ input. bytes ≡ take 12100122 input) → Fails e (output_of bytes)
    → IfSome known (λ input. IfLine e (λ line reason. output_of input ≡ Err (record { line = line; reason = reason })))
tells_fault None bytes e read fails = tt
tells_fault (Some input) bytes (run.Line line reason) read fails = sym (enough (Some input) bytes read) ∙ fails
tells_fault (Some input) bytes run.NoMemory read fails = tt
tells_fault (Some input) bytes run.Read read fails = tt
tells_fault (Some input) bytes run.Write read fails = tt
tells_fault (Some input) bytes (run.Gate worker line) read fails = tt
tells_fault (Some input) bytes run.Thread read fails = tt

pub tells_text : (known : Option (List ℕ)) (bytes text : List ℕ) (old new : Option (List ℕ))
    → IfSome known (λ input. bytes ≡ take 12100122 input) → output_of bytes ≡ Ok text → Appends old new text
    → IfSome known (λ input. Writes (output_of input) old new)
tells_text None bytes text old new read is wrote = tt
tells_text (Some input) bytes text old new read is wrote = rw (sym (enough (Some input) bytes read) ∙ is) wrote

pub tells_right : (known : Option (List ℕ)) (bytes text : List ℕ)
    → IfSome known (λ input. bytes ≡ take 12100122 input) → output_of bytes ≡ Ok text
    → IfSome known (λ input. IsOk (output_of input))
tells_right None bytes text read is = tt
tells_right (Some input) bytes text read is = rw (sym (enough (Some input) bytes read) ∙ is) refl
