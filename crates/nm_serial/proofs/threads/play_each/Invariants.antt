use Rattle.std.proofs.Common.{◌≡◌, ◌<◌, ◌++◌, ℕ, vec_len, length, slice_index_or}
use Rattle.nm_tree.specs.Workers.{WorkerView}
use Rattle.nm_serial.proofs.threads.play_each.Given as goal

abbrev pub invariant-loop-worker : goal.invariant-loop-worker
invariant-loop-worker g l = record {
  left : l.yielded ++ l.worker-iterator.rest.items ≡ l.fn.workers.items;
  count : vec_len l.handles ≡ length l.yielded;
  each : (k : ℕ) (w : WorkerView) (d : _) → k < length l.yielded
      → ((slice_index_or l.handles.items k d).promise.gate.now ≡ l.lines.gate.now)
      × ((slice_index_or l.handles.items k d).promise.tree.now ≡ l.lines.tree.now)
      × ((slice_index_or l.handles.items k d).promise.tries ≡ l.lines.tries)
      × ((slice_index_or l.handles.items k d).promise.calls.now ≡ l.lines.calls.now)
      × ((slice_index_or l.handles.items k d).promise.was.value ≡ slice_index_or l.yielded k w);
}
