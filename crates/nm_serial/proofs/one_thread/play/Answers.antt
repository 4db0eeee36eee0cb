use Rattle.std.proofs.Common.{◌≡◌, ◌+◌, ◌++◌, ◌∷◌, [], ◌∙◌, append_assoc, drop, rules, sym, refl, ap, ℕ}
use Rattle.std.proofs.lemmas.List.{drop_more, drop_all, append-nil}
use Rattle.nm_files.specs.declared.read.entry.ScriptCall.{ScriptCall}
use Rattle.nm_serial.specs.Crews.{PlaysAll}
use Rattle.nm_serial.proofs.CrewLemmas.{line_first}
use Rattle.nm_serial.proofs.one_thread.play.Goals as goal

pub loop-entry-preserved : goal.loop-entry-preserved
loop-entry-preserved c =
    let i = c.loop-entry.invariant in
    let rest = drop (c.loop-entry.entry-index + 1) c.args.calls.now in
    let cut : drop c.loop-entry.entry-index c.args.calls.now
    ≡ c.entry-item.result ∷ rest = drop_more c.args.calls.now c.loop-entry.entry-index c.entry-item.result
    c.loop-entry-test.true ∙ ap (λ (e : ℕ × ScriptCall). e ∷ rest) (sym c.entry-item.is) in
    let a = c.in-Some.answer in
    let pushed : c.push.new.self.items ≡ c.loop-entry.answers.items ++ a ∷ [] = search rules in
    record {
      own = c.play_line.ensures.own;
      count = c.play_line.ensures.count ∙ i.count;
      whole = c.play_line.ensures.whole ∙ i.whole;
      goes_on = λ more z next.
          rw (pushed, append_assoc) (i.goes_on (a ∷ more) z
          (line_first c.args.tree.now c.args.header.now.tries _ rest c.entry-item.result a more
          c.loop-entry.crew.items c.play_line.new.crew.items z cut c.in-Some.ensures.did next));
    }

pub returns-clause-did : goal.returns-clause-did
returns-clause-did c =
    let last : PlaysAll c.args.tree.now c.args.header.now.tries (drop c.loop-entry.entry-index c.args.calls.now) []
    c.loop-entry.crew.items c.loop-entry.crew.items = rw
    (drop_all c.loop-entry.entry-index c.args.calls.now c.loop-entry-test.false) refl in
    rw (← append-nil c.loop-entry.answers.items) (c.loop-entry.invariant.goes_on [] c.loop-entry.crew.items last)
