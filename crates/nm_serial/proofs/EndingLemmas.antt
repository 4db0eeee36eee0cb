-- What a run tells of its input, by the bytes of it that it read.
use Rattle.std.proofs.Common.{◌≡◌, ℕ, List, length, take, drop, Result, Ok, Err, refl, sym, ap, subst, inl, inr, arith, ◌∙◌}
use Rattle.std.specs.Prelude.{Option, Some, None, IfSome, IfOk, OnOk, IfErr, IsOk, Vec}
use Rattle.std.specs.Global.{Global}
use Rattle.nm_files.specs.Lines.{parts}
use Rattle.std.specs.Io.KnownBytes.{Appends}
use Rattle.std.proofs.lemmas.Bool.{cases_lt}
use Rattle.std.proofs.lemmas.List.{length-take, take_all}
use Rattle.nm_files.specs.declared.read.fault.RunFault.{RunFault}
use Rattle.nm_files.specs.declared.read.fault.RunFault.TheVariants as run
use Rattle.nm_files.specs.Files.{Fails, IfLine}
use Rattle.nm_files.proofs.LimitLemmas.{same_file, within_limit}
use Rattle.nm_files.specs.declared.read.header.Command.{Command}
use Rattle.nm_files.specs.Entries.{Script, first_line_of, line_of, script_of}
use Rattle.nm_files.specs.Kinds.{calls}
use Rattle.nm_serial.specs.Playing.{FailsSo, EndsSo, IsOfOneThread}
use Rattle.nm_serial.specs.Texts.{IfGate, IsWritten, WritesText}

-- what the bytes up to the limit say is what all say
same_script : (command : Command) (input : List ℕ) → script_of command (take 12100122 input) ≡ script_of command input
same_script command input = within_limit (first_line_of command) (line_of calls) (script_of command)
    (λ p q both. both) input

-- so it may be judged by them
pub enough : (command : Command) (known : Option (List ℕ)) (bytes : List ℕ)
    → IfSome known (λ input. bytes ≡ take 12100122 input)
    → IfSome known (λ input. script_of command bytes ≡ script_of command input)
enough command None bytes h = tt
enough command (Some input) bytes h = ap (script_of command) h ∙ same_script command input

-- ---- how the playing of a script may end

-- where the script's own fault ends it
pub ends_by_fault : (command : Command) (bytes : List ℕ) (e : RunFault) → Fails e (script_of command bytes)
    → FailsSo command bytes e
ends_by_fault command bytes (run.Line line reason) fails = fails
ends_by_fault command bytes run.NoMemory fails = tt
ends_by_fault command bytes run.Read fails = absurd fails
ends_by_fault command bytes run.Write fails = absurd fails
ends_by_fault command bytes (run.Gate worker line) fails = absurd fails
ends_by_fault command bytes run.Thread fails = absurd fails

-- a script that is read is right
pub is_right : (command : Command) (bytes : List ℕ) (script : Script) → script_of command bytes ≡ Ok script
    → IsOk (script_of command bytes)
is_right command bytes script is = rw is refl

-- where only memory can end the rest
pub ends_played : {X : Type 0} (command : Command) (bytes : List ℕ) (script : Script) (r : Result X RunFault)
    → script_of command bytes ≡ Ok script → IfErr r (λ e. e ≡ run.NoMemory) → EndsSo command bytes r
ends_played command bytes script (Ok x) is err = is_right command bytes script is
ends_played command bytes script (Err e) is err = rw err tt

-- ---- what a run tells of its input, by the bytes that it read

pub tells_line : (command : Command) (known : Option (List ℕ)) (bytes : List ℕ) (e : RunFault)
    → IfSome known (λ input. bytes ≡ take 12100122 input) → FailsSo command bytes e
    → IfSome known (λ input. IfLine e (λ line reason. script_of command input
    ≡ Err (record { line = line; reason = reason })))
tells_line command None bytes e read ends = tt
tells_line command (Some input) bytes (run.Line line reason) read ends = sym (enough command (Some input) bytes read)
    ∙ ends
tells_line command (Some input) bytes run.NoMemory read ends = tt
tells_line command (Some input) bytes run.Read read ends = tt
tells_line command (Some input) bytes run.Write read ends = tt
tells_line command (Some input) bytes (run.Gate worker line) read ends = tt
tells_line command (Some input) bytes run.Thread read ends = tt

pub tells_right : (command : Command) (known : Option (List ℕ)) (bytes : List ℕ)
    → IfSome known (λ input. bytes ≡ take 12100122 input) → IsOk (script_of command bytes)
    → IfSome known (λ input. IsOk (script_of command input))
tells_right command None bytes read right = tt
tells_right command (Some input) bytes read right = rw (enough command (Some input) bytes read) at right

pub ok_always : {X E : Type 0} {P : Type 0} (r : Result X E) → P → OnOk r P
ok_always (Ok x) p = p
ok_always (Err e) p = tt

-- ---- texts, and stops at a gate

-- a script that is right is read whole
whole_read : (command : Command) (input : List ℕ) (s : Script) → script_of command (take 12100122 input) ≡ Ok s
    → take 12100122 input ≡ input
whole_read command input s is =
    elim (cases_lt (length input) 12100122) [
      | inl few ↦ take_all 12100122 input (omega arith)
      | inr many ↦
          let p = take 12100122 input in
          let same = same_file (first_line_of command) (line_of calls) p (drop 12100122 input)
          (omega (arith, length-take 12100122 input)) in
          let two : Ok s ≡ Err same.0 = sym is ∙ same.1 in
          let no : ⊥ = cc in
          absurd no
    ]

-- so a text for what was read is one for all
pub tells_text : (IsText : Script → List (List ℕ) → List ℕ → Type 0) (command : Command) (known : Option (List ℕ))
    (bytes text : List ℕ) (old new : Option (List ℕ)) → IfSome known (λ input. bytes ≡ take 12100122 input)
    → IsWritten IsText command bytes text → Appends old new text
    → IfSome known (λ input. WritesText IsText command input old new)
tells_text IsText command None bytes text old new read written wrote = tt
tells_text IsText command (Some input) bytes text old new read written wrote =
    let whole : bytes ≡ input = read ∙ whole_read command input written.0
    (sym (ap (script_of command) read) ∙ written.1) in
    (text, subst (λ (b : List ℕ). IsWritten IsText command b text) whole written, wrote)

pub tells_gate : (IsStopped : Script → ℕ → ℕ → Type 0) (command : Command) (known : Option (List ℕ)) (bytes : List ℕ)
    (e : RunFault) → IfSome known (λ input. bytes ≡ take 12100122 input) → IfGate IsStopped command bytes e
    → IfSome known (λ input. IfGate IsStopped command input e)
tells_gate IsStopped command None bytes e read gate = tt
tells_gate IsStopped command (Some input) bytes (run.Line line reason) read gate = tt
tells_gate IsStopped command (Some input) bytes run.NoMemory read gate = tt
tells_gate IsStopped command (Some input) bytes run.Read read gate = tt
tells_gate IsStopped command (Some input) bytes run.Write read gate = tt
tells_gate IsStopped command (Some input) bytes (run.Gate worker line) read gate =
    (gate.0, sym (enough command (Some input) bytes read) ∙ gate.1, gate.2)
tells_gate IsStopped command (Some input) bytes run.Thread read gate = tt

-- its text is written for it
pub text_of_script : {E : Type 0} (IsText : Script → List (List ℕ) → List ℕ → Type 0) (command : Command)
    (bytes : List ℕ) (s : Script) (rows : List (List ℕ)) (r : Result (Vec ℕ Global) E)
    → script_of command bytes ≡ Ok s → drop 1 (parts bytes) ≡ rows → IfOk r (λ v. IsText s rows v.items)
    → IfOk r (λ v. IsWritten IsText command bytes v.items)
text_of_script IsText command bytes s rows (Ok v) is lines text = (s, is, rw lines text)
text_of_script IsText command bytes s rows (Err e) is lines text = tt

-- ---- one thread

pub alone_by_fault : (command : Command) (bytes : List ℕ) (e : RunFault) → Fails e (script_of command bytes)
    → IsOfOneThread e
alone_by_fault command bytes (run.Line line reason) fails = tt
alone_by_fault command bytes run.NoMemory fails = tt
alone_by_fault command bytes run.Read fails = tt
alone_by_fault command bytes run.Write fails = tt
alone_by_fault command bytes (run.Gate worker line) fails = absurd fails
alone_by_fault command bytes run.Thread fails = absurd fails
