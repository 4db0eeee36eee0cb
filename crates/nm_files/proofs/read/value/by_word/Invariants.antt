use Rattle.std.proofs.Common.{◌≡◌, drop, map}
use Rattle.nm_files.specs.Values.{by_word}
use Rattle.nm_files.proofs.read.value.by_word.Given as goal

abbrev pub invariant-loop-word : goal.invariant-loop-word
invariant-loop-word g l =
    by_word (map (λ w. (w.0.now, w.1)) (drop l.word-index l.words)) l.given
    ≡ by_word (map (λ w. (w.0.now, w.1)) l.words) l.given
