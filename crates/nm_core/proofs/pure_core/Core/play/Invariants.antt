use Rattle.std.proofs.Common.{◌≡◌, ◌++◌, ◌≤◌, length, take, drop, vec_len}
use Rattle.std.specs.Prelude.{vec_capacity, All}
use Rattle.nm_model.specs.Ordered.{HasKey, after_in, trace_in}
use Rattle.nm_core.proofs.pure_core.Core.play.Given as goal

-- the trace so far and that of what is left are the trace of all
abbrev pub invariant-loop-done : goal.invariant-loop-done
invariant-loop-done l =
    record {
      trace : l.turns.items ++ trace_in l.self (drop l.done l.events) ≡ trace_in l.fn.self l.events;
      state : l.self ≡ after_in l.fn.self (take l.done l.events);
      len : vec_len l.turns ≡ l.done;
      keys : All (λ t. HasKey t.1) (take l.done l.events);
      room : length l.events ≤ vec_capacity l.turns;
    }
