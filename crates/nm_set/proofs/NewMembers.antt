-- Members of a new tree, in the order of their numbers.
use Rattle.std.proofs.Common.{◌≡◌, ℕ, suc, ◌+◌, List, [], ◌∷◌, ◌++◌, length, subst, arith}
use Rattle.nm_edge.specs.declared.placement.Fit.{Fit}
use Rattle.nm_steps.specs.Steps.{TreeView, PassView}
use Rattle.nm_set.specs.Filling.{HasWatched, HaveWatched}
use Rattle.nm_set.specs.Seats.{AreNewMembers, IsNewMember, MemberView}

-- one member more
pub one_member : (b : TreeView) (f : Fit) (i : ℕ) (ms : List MemberView) (n : ℕ) (m : MemberView) → n ≡ i + length ms
    → AreNewMembers b f i ms → IsNewMember b f n m → AreNewMembers b f i (ms ++ m ∷ [])
one_member b f i [] n m e are new = let at : n ≡ i = omega (arith, e) in
    (subst (λ (k : ℕ). IsNewMember b f k m) at new, tt)
one_member b f i (x ∷ ms) n m e are new = (are.0, one_member b f (suc i) ms n m (omega (arith, e)) are.1 new)

-- one member more that has watched
pub one_watcher : (b : TreeView) (f : Fit) (p : PassView) (i : ℕ) (ms : List MemberView) (n : ℕ) (m : MemberView)
    → n ≡ i + length ms → HaveWatched b f p i ms → HasWatched b f p n m → HaveWatched b f p i (ms ++ m ∷ [])
one_watcher b f p i [] n m e have new = let at : n ≡ i = omega (arith, e) in
    (subst (λ (k : ℕ). HasWatched b f p k m) at new, tt)
one_watcher b f p i (x ∷ ms) n m e have new = (have.0, one_watcher b f p (suc i) ms n m (omega (arith, e)) have.1 new)
