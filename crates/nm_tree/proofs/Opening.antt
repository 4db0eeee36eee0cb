-- Workers that have done nothing yet.
use Rattle.std.proofs.Common.{◌≡◌, ℕ, zero, suc, ◌<◌, List, [], ◌∷◌, ◌++◌, length, refl, sym, ap, ◌∙◌, subst, arith}
use Rattle.std.specs.Prelude.{reverse, slice_index_or}
use Rattle.std.proofs.lemmas.List.{reverse-append}
use Rattle.nm_edge.specs.Layouts.{Layout}
use Rattle.nm_steps.specs.declared.view.View.{View}
use Rattle.nm_steps.specs.Steps.{TreeView, PassView, AreFresh, fresh_view}
use Rattle.nm_edge.specs.declared.placement.Fit.{Fit}
use Rattle.nm_tree.specs.Calls.{MayCall}
use Rattle.nm_tree.specs.Workers.{WorkerView, HaveFit, IsFresh, AreAllFresh, IsNewWorker, AreMade, AreNew}

-- ---- one worker

-- ---- all workers

pub fresh_before : (ps : List PassView) (p : PassView) → AreAllFresh (ps ++ p ∷ []) → AreAllFresh ps × IsFresh p
fresh_before [] p are = (tt, are.0)
fresh_before (q ∷ ps) p are = let rest = fresh_before ps p are.1 in ((are.0, rest.0), rest.1)

pub all_fresh : (b : TreeView) (k : ℕ) (ps : List PassView) → AreFresh b k ps → AreAllFresh ps
all_fresh b k [] are = tt
all_fresh b k (p ∷ ps) are = (
  (k, are.1 ∙ ap (λ (L : Layout). fresh_view L k) (sym (ap (λ (v : View). v.layout) are.1))),
  all_fresh b (suc k)
      ps are.2,
)

pub all_new : (f : Fit) (b : TreeView) (k : ℕ) (ps : List PassView) (ws : List WorkerView) → AreFresh b k ps
    → AreMade f ps ws → AreNew b k ws
all_new f b k [] [] fresh made = tt
all_new f b k [] (w ∷ ws) fresh made = absurd made
all_new f b k (p ∷ ps) [] fresh made = absurd made
all_new f b k (p ∷ ps) (w ∷ ws) fresh made =
    let is = made.0 in (
      ap (λ (x : PassView). x.table) is.0 ∙ fresh.0,
      ap (λ (x : PassView). x.view) is.0
          ∙ fresh.1,
      is.1,
      is.2,
      is.3,
      all_new f b (suc k) ps ws fresh.2 made.1,
    )

pub as_many : (f : Fit) (ps : List PassView) (ws : List WorkerView) → AreMade f ps ws → length ws ≡ length ps
as_many f [] [] made = refl
as_many f [] (w ∷ ws) made = absurd made
as_many f (p ∷ ps) [] made = absurd made
as_many f (p ∷ ps) (w ∷ ws) made = ap suc (as_many f ps ws made.1)

-- one worker more, where they are made from the last one on
pub one_made : (f : Fit) (p : PassView) (w : WorkerView) (ps : List PassView) (ws : List WorkerView)
    → IsNewWorker f p w → AreMade f ps (reverse ws) → AreMade f (p ∷ ps) (reverse (ws ++ w ∷ []))
one_made f p w ps ws new made = let P : List WorkerView → Type 0 = λ xs. AreMade f (p ∷ ps) xs in
    subst P (sym (reverse-append ws (w ∷ []))) (new, made)

-- their fit is the one by which they were made
pub all_fit : (f : Fit) (ps : List PassView) (ws : List WorkerView) → AreMade f ps ws → HaveFit f ws
all_fit f [] [] made = tt
all_fit f [] (w ∷ ws) made = absurd made
all_fit f (p ∷ ps) [] made = absurd made
all_fit f (p ∷ ps) (w ∷ ws) made = (made.0.4, all_fit f ps ws made.1)

-- each worker of a new tree is ready for a call
pub new_are_ready : (b : TreeView) (i : ℕ) (ws : List WorkerView) → AreNew b i ws → (k : ℕ) (d : WorkerView)
    → k < length ws → MayCall b (slice_index_or ws k d)
new_are_ready b i [] new k d less = absurd (omega (arith, less))
new_are_ready b i (w ∷ ws) new zero d less = record {
  own =
      record { table = new.0; layout = ap (λ (v : View). v.layout) new.1 };
  free = new.3;
}
new_are_ready b i (w ∷ ws) new (suc k) d less = new_are_ready b (suc i) ws new.5 k d (omega (arith, less))
