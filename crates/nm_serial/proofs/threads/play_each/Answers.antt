use Rattle.std.proofs.Common.{◌≡◌, ◌++◌, ◌∷◌, [], ◌∙◌, sym, rules, length, append_assoc, arith, ap}
use Rattle.std.proofs.lemmas.List.{length_push, append-nil, nil_from_length}
use Rattle.nm_serial.proofs.ThreadLemmas.{each_pushed}
use Rattle.nm_serial.proofs.threads.play_each.Goals as goal

pub loop-worker-preserved : goal.loop-worker-preserved
loop-worker-preserved g c =
    let pushed : c.push.new.self.items ≡ c.loop-worker.handles.items ++ c.in_ok-handle.handle ∷ [] = search rules in
    let same : length c.loop-worker.handles.items ≡ length c.loop-worker.yielded = omega
    (arith, c.loop-worker.invariant.count, c.loop-worker.handles.ok.0) in
    let more : length c.push.new.self.items ≡ length (c.loop-worker.yielded ++ c.in-Some.worker ∷ []) = rw pushed
    (omega (
      arith,
      same,
      length_push c.loop-worker.handles.items c.in_ok-handle.handle,
      length_push
          c.loop-worker.yielded c.in-Some.worker,
    )) in
    let s = c.in-Some.ensures.steps in
    record {
      left = rw append_assoc (rw s.0 at c.loop-worker.invariant.left);
      count = omega (arith, more, c.push.new.self.ok.0);
      each = λ k w d lt. rw pushed (each_pushed (λ u h. (h.promise.gate.now ≡ c.args.lines.now.gate.now)
          × (h.promise.tree.now ≡ c.args.lines.now.tree.now) × (h.promise.tries ≡ c.args.lines.now.tries)
          × (h.promise.calls.now ≡ c.args.lines.now.calls.now) × (h.promise.was.value ≡ u)) c.loop-worker.yielded
          c.loop-worker.handles.items c.in-Some.worker c.in_ok-handle.handle same c.loop-worker.invariant.each
          c.in_ok-handle.ensures.started k w d lt);
    }

pub returns-in-Ok-clause-played : goal.returns-in-Ok-clause-played
returns-in-Ok-clause-played g c =
    let none : c.loop-worker.worker-iterator.rest.items
    ≡ [] = nil_from_length c.loop-worker.worker-iterator.rest.items
    (omega (arith, c.in-None.ensures.steps.0, c.loop-worker.worker-iterator.rest.ok.0)) in
    let whole : c.loop-worker.yielded ≡ c.args.workers.items = sym (append-nil c.loop-worker.yielded)
    ∙ (rw none at c.loop-worker.invariant.left) in
    let counted : length c.loop-worker.yielded ≡ length c.args.workers.items = ap length whole in
    record {
      all = omega (arith, counted, c.loop-worker.invariant.count, c.in-Ok.ensures.len, c.in-Ok.played.ok.0);
      each = λ k w p lt.
          let promised = (c.in-Ok.ensures.each k p (omega (arith, counted, c.loop-worker.invariant.count, lt))).1 in
          let it = c.loop-worker.invariant.each k w promised.handle (omega (arith, counted, lt)) in
          let held = rw (sym promised.handle_is) at it in
          let kept = rw (held.0, held.1, held.2, held.3, held.4, whole) at promised.kept in
          kept;
    }
