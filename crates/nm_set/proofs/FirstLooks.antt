-- The last member of a new set, and the others.
use Rattle.std.proofs.Common.{◌≡◌, ◌+◌, ℕ, suc, List, [], ◌∷◌, ◌++◌, length, refl, sym, subst, arith}
use Rattle.nm_edge.specs.declared.placement.Fit.{Fit}
use Rattle.nm_steps.specs.Steps.{TreeView}
use Rattle.nm_tree.specs.Workers.{AreNew}
use Rattle.nm_set.specs.Seats.{AreNewMembers, IsNewMember, MemberView}

last_of : (b : TreeView) (f : Fit) (i : ℕ) (ms : List MemberView) (m : MemberView)
    → AreNewMembers b f i (ms ++ m ∷ []) → AreNewMembers b f i ms × ((n : ℕ) × IsNewMember b f n m)
last_of b f i [] m are = (tt, (i, are.0))
last_of b f i (x ∷ ms) m are = let rest = last_of b f (suc i) ms m are.1 in ((are.0, rest.0), rest.1)

-- where it was taken off
pub taken_off : (b : TreeView) (f : Fit) (all rest : List MemberView) (m : MemberView) → all ≡ rest ++ m ∷ []
    → AreNewMembers b f 0 all → AreNewMembers b f 0 rest × ((n : ℕ) × IsNewMember b f n m)
taken_off b f all rest m is are = last_of b f 0 rest m (subst (AreNewMembers b f 0) is are)

-- by its own board and fit
pub new_itself : (b : TreeView) (f : Fit) (m : MemberView) → (n : ℕ) × IsNewMember b f n m
    → (n : ℕ) × IsNewMember m.tree m.worker.fit n m
new_itself b f m (n, is) = (
  n,
  record {
    tree = refl;
    fit = refl;
    new = subst
        (λ (d : TreeView). AreNew d n (m.worker ∷ [])) (sym is.tree) is.new;
  },
)

-- the last one is of the number of those before it
last_at : (b : TreeView) (f : Fit) (i : ℕ) (ms : List MemberView) (m : MemberView)
    → AreNewMembers b f i (ms ++ m ∷ []) → (n : ℕ) → n ≡ i + length ms → IsNewMember b f n m
last_at b f i [] m are n is = let at : i ≡ n = omega (arith, is) in subst (λ (k : ℕ). IsNewMember b f k m) at are.0
last_at b f i (x ∷ ms) m are n is = last_at b f (suc i) ms m are.1 n (omega (arith, is))

pub last_new : (b : TreeView) (f : Fit) (all rest : List MemberView) (m : MemberView) → all ≡ rest ++ m ∷ []
    → AreNewMembers b f 0 all → IsNewMember b f (length rest) m
last_new b f all rest m is are = last_at b f 0 rest m (subst (AreNewMembers b f 0) is are) (length rest) (omega arith)

pub of_tree : (b : TreeView) (f : Fit) (n : ℕ) (m : MemberView) → IsNewMember b f n m
    → IsNewMember m.tree m.worker.fit n m
of_tree b f n m is = record {
  tree = refl;
  fit = refl;
  new = subst (λ (d : TreeView). AreNew d n (m.worker ∷ []))
      (sym is.tree) is.new;
}

-- the others are of the board of that one
pub others_of : (b : TreeView) (f : Fit) (i : ℕ) (ms : List MemberView) (m : MemberView) → m.tree ≡ b
    → AreNewMembers b f i ms → AreNewMembers m.tree f i ms
others_of b f i ms m is are = subst (λ (d : TreeView). AreNewMembers d f i ms) (sym is) are
