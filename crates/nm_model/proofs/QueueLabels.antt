-- Labels stay.
use Rattle.std.proofs.Common.{◌≡◌, ℕ, ◌≤◌, Option, Some, None, List, [], ◌∷◌, length, map, refl, arith}
use Rattle.std.proofs.lemmas.List.{length-map}
use Rattle.std.proofs.Math.Seq.{take-length}
use Rattle.nm_edge.specs.declared.node.NodeId.{NodeId}
use Rattle.nm_model.specs.declared.ledger.Queued.{Queued}
use Rattle.nm_model.specs.declared.indices.Indices.{Indices}
use Rattle.nm_model.specs.Queues.{with_label}
use Rattle.nm_model.specs.Indexing.{Covers, IsIndexedQueue}
use Rattle.nm_model.proofs.QueueIndices.{covers_labelled}

label_stays : (a b : ℕ) (node : NodeId) (label : Option ℕ)
    → let x : Queued = record { node = node; label = label } in with_label a (with_label b x) ≡ with_label b x
label_stays a b node None = refl
label_stays a b node (Some l) = refl

-- a second label changes nothing
pub labels_stay : (a b : ℕ) (xs : List Queued) → map (with_label a) (map (with_label b) xs) ≡ map (with_label b) xs
labels_stay a b [] = refl
labels_stay a b (x ∷ xs) = rw (label_stays a b x.node x.label, labels_stay a b xs) refl

-- a queue whose entries all have their label
pub all_labelled : (xs ys : List Queued) (departed done b : ℕ) (indices : List (ℕ × Indices))
    → ys ≡ map (with_label b) xs → departed ≤ length xs → done ≡ length ys → Covers indices xs (length xs)
    → IsIndexedQueue ys departed done indices
all_labelled xs ys departed done b indices same fits all covered = record {
  departed_fits = rw (same, length-map xs (with_label b)) fits;
  done_fits = omega (arith, all);
  stays = λ a. rw (all, take-length ys, same) (labels_stay a b xs);
  covered = rw (same, length-map xs (with_label b)) (covers_labelled b indices xs covered);
}
