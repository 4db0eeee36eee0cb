use Rattle.std.proofs.Common.{◌≡◌, ◌+◌, ◌++◌, ◌∷◌, [], append_assoc, drop, rules, sym, ◌∙◌, arith, refl, ap, subst, ℕ}
use Rattle.std.proofs.lemmas.List.{drop_more, drop_all, append-nil}
use Rattle.std.proofs.lemmas.Result.{err_from_is_err_and}
use Rattle.nm_files.specs.declared.read.entry.ScriptCall.{ScriptCall}
use Rattle.nm_serial.specs.Makes.{HasStopped, PlaysOwn, StopsOwn}
use Rattle.nm_serial.proofs.PlayLemmas.{own_line, other_line, stops_behind_own, stops_behind_other, stops_here}
use Rattle.nm_serial.proofs.own_lines.play_own.Goals as goal
use Rattle.nm_serial.proofs.own_lines.play_own.Goals.{then-entry-number+in_ok-answer+in_ok-map_err, else-entry-number}

pub loop-entry-preserved : goal.loop-entry-preserved
loop-entry-preserved g c =
    let lets = g.G.Gate.lets c.args.lines.now.gate.now in
    let stops = g.G.Gate.stops c.args.lines.now.gate.now in
    let n = c.number-number.result in
    let rest = drop (c.loop-entry.entry-index + 1) c.args.lines.now.calls.now in
    let cut : drop c.loop-entry.entry-index c.args.lines.now.calls.now
    ≡ c.entry-item.result ∷ rest = drop_more c.args.lines.now.calls.now c.loop-entry.entry-index
    c.entry-item.result c.loop-entry-test.true ∙ ap (λ (e : ℕ × ScriptCall). e ∷ rest) (sym c.entry-item.is) in
    elim c.if-entry-number.branch [
      | then-entry-number+in_ok-answer+in_ok-map_err w ↦
          let a = w.in_ok-answer.answer in
          let me : c.loop-entry.worker.pass.view.number ≡ n = c.loop-entry.invariant.number
          ∙ sym c.number-number.ensures.number in
          let pushed : w.push.new.self.items ≡ c.loop-entry.answers.items ++ a ∷ [] = search rules in
          let let_on : lets n c.loop-entry.line = rw me at w.in_ok-answer.ensures.did.0 in
          record {
            own = rw w.worker-is w.play_line.ensures.own;
            number = rw w.worker-is (w.play_line.ensures.number ∙ c.loop-entry.invariant.number);
            queues = rw w.worker-is (w.play_line.ensures.queues ∙ c.loop-entry.invariant.queues);
            line = omega (arith, c.loop-entry.invariant.line);
            goes_on = λ more z next.
                let after : PlaysOwn lets c.args.lines.now.tree.now c.args.lines.now.tries n (c.loop-entry.line + 1)
                rest more w.play_line.new.worker z = rw w.worker-is at next in
                rw (w.answers-is, pushed, append_assoc) (c.loop-entry.invariant.goes_on (a ∷ more) z
                (own_line lets c.args.lines.now.tree.now c.args.lines.now.tries n c.loop-entry.line _ rest
                c.entry-item.result a more c.loop-entry.worker w.play_line.new.worker z cut w.if-entry-number.true
                let_on w.in_ok-answer.ensures.did.1 after));
            stops_on = λ s z next.
                let after : StopsOwn lets stops c.args.lines.now.tree.now c.args.lines.now.tries n
                (c.loop-entry.line + 1) rest w.play_line.new.worker z s = rw w.worker-is at next in
                c.loop-entry.invariant.stops_on s z (stops_behind_own lets stops c.args.lines.now.tree.now
                c.args.lines.now.tries n c.loop-entry.line _ rest c.entry-item.result a c.loop-entry.worker
                w.play_line.new.worker z s cut w.if-entry-number.true let_on w.in_ok-answer.ensures.did.1 after);
          }
      | else-entry-number w ↦ record {
        own = rw w.worker-is c.loop-entry.invariant.own;
        number = rw w.worker-is c.loop-entry.invariant.number;
        queues = rw w.worker-is c.loop-entry.invariant.queues;
        line = omega (arith, c.loop-entry.invariant.line);
        goes_on = λ more z next.
            let after : PlaysOwn lets c.args.lines.now.tree.now c.args.lines.now.tries n (c.loop-entry.line + 1) rest
            more c.loop-entry.worker z = rw w.worker-is at next in
            rw w.answers-is (c.loop-entry.invariant.goes_on more z
            (other_line lets c.args.lines.now.tree.now c.args.lines.now.tries n c.loop-entry.line _ rest
            c.entry-item.result more c.loop-entry.worker z cut w.if-entry-number.false after));
        stops_on = λ s z next.
            let after : StopsOwn lets stops c.args.lines.now.tree.now c.args.lines.now.tries n
            (c.loop-entry.line + 1) rest c.loop-entry.worker z s = rw w.worker-is at next in
            c.loop-entry.invariant.stops_on s z (stops_behind_other lets stops c.args.lines.now.tree.now
            c.args.lines.now.tries n c.loop-entry.line _ rest c.entry-item.result c.loop-entry.worker z s cut
            w.if-entry-number.false after);
      }
    ]

pub returns-clause-did : goal.returns-clause-did
returns-clause-did g c =
    let lets = g.G.Gate.lets c.args.lines.now.gate.now in
    let n = c.number-number.result in
    let last : PlaysOwn lets c.args.lines.now.tree.now c.args.lines.now.tries n c.loop-entry.line
    (drop c.loop-entry.entry-index c.args.lines.now.calls.now) [] c.loop-entry.worker c.loop-entry.worker = rw
    (drop_all c.loop-entry.entry-index c.args.lines.now.calls.now c.loop-entry-test.false) refl in
    let all : PlaysOwn lets c.args.lines.now.tree.now c.args.lines.now.tries n 2 c.args.lines.now.calls.now
    (c.loop-entry.answers.items ++ []) c.args.worker.now c.loop-entry.worker = c.loop-entry.invariant.goes_on
    [] c.loop-entry.worker last in
    rw (append-nil c.loop-entry.answers.items, c.number-number.ensures.number) at all

pub returns-in_err-answer-clause-queues : goal.returns-in_err-answer-clause-queues
returns-in_err-answer-clause-queues g c = c.play_line.ensures.queues ∙ c.loop-entry.invariant.queues

pub returns-in_err-map_err-clause-queues : goal.returns-in_err-map_err-clause-queues
returns-in_err-map_err-clause-queues g c = c.play_line.ensures.queues ∙ c.loop-entry.invariant.queues

pub returns-clause-queues : goal.returns-clause-queues
returns-clause-queues g c = c.loop-entry.invariant.queues

pub returns-in_err-answer-clause-stopped : goal.returns-in_err-answer-clause-stopped
returns-in_err-answer-clause-stopped g c =
    let lets = g.G.Gate.lets c.args.lines.now.gate.now in
    let stops = g.G.Gate.stops c.args.lines.now.gate.now in
    let n = c.number-number.result in
    let at = c.loop-entry.line in
    let left = drop c.loop-entry.entry-index c.args.lines.now.calls.now in
    let rest = drop (c.loop-entry.entry-index + 1) c.args.lines.now.calls.now in
    let s = c.in_err-answer.field-0.0 in
    let cut : left ≡ c.entry-item.result ∷ rest = drop_more c.args.lines.now.calls.now c.loop-entry.entry-index
    c.entry-item.result c.loop-entry-test.true ∙ ap (λ (e : ℕ × ScriptCall). e ∷ rest) (sym c.entry-item.is) in
    let me : c.loop-entry.worker.pass.view.number ≡ n = c.loop-entry.invariant.number
    ∙ sym c.number-number.ensures.number in
    let stopped : HasStopped (stops n at) at c.loop-entry.worker c.play_line.new.worker s = subst
    (λ k. HasStopped (stops k at) at c.loop-entry.worker c.play_line.new.worker s) me
    c.in_err-answer.ensures.stopped in
    let here : StopsOwn lets stops c.args.lines.now.tree.now c.args.lines.now.tries n at left c.loop-entry.worker
    c.play_line.new.worker s = stops_here lets stops c.args.lines.now.tree.now c.args.lines.now.tries n at left
    rest c.entry-item.result c.loop-entry.worker c.play_line.new.worker s cut c.if-entry-number.true stopped in
    let all = c.loop-entry.invariant.stops_on s c.play_line.new.worker here in
    let p = err_from_is_err_and c.from_residual.result c.from_residual.ensures.1 in
    rw (p.1, p.2) (subst (λ k. StopsOwn lets stops c.args.lines.now.tree.now c.args.lines.now.tries k 2
    c.args.lines.now.calls.now c.args.worker.now c.play_line.new.worker s) c.number-number.ensures.number all)
