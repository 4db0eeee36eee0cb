use Rattle.std.proofs.Common.{◌≡◌, ◌++◌, ◌-◌, map, take, length}
use Rattle.std.specs.Option.{option_copied}
use Rattle.nm_files.specs.Lines.{fields, further}
use Rattle.nm_files.proofs.read.line.fields_of.Given as goal

abbrev pub invariant-loop : goal.invariant-loop
invariant-loop l = record {
  room : length l.fields.items ≡ l.counter;
  told : map (λ f. f.now) l.fields.items ++ take (8 - l.counter) (further 32 (option_copied l.rest))
      ≡ take 8 (fields l.line);
}
