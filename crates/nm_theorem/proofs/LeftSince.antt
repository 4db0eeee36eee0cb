-- What was freed was freed behind its cut: so grace tells of each node that was freed that its
-- readers have left since.
use Rattle.std.proofs.Common.{◌≡◌, ℕ, ◌+◌, Bool, cond, ◌||◌, List, [], ◌∷◌, ◌++◌, length, append_assoc, refl, sym, ap, subst, ◌∙◌, arith}
use Rattle.std.specs.Prelude.{Result, Ok, Some, Contains, slice_get}
use Rattle.std.specs.List.{list_any}
use Rattle.std.proofs.lemmas.Bool.{eq-eqb}
use Rattle.std.proofs.lemmas.Option.{slice_get-get_or}
use Rattle.std.proofs.lemmas.List.{append-nil}
use Rattle.std.proofs.lemmas.List.Folds.{list_any-append}
use Rattle.std.proofs.lemmas.List.Elements.{Contains-append_left, Contains-append_right}
use Rattle.nm_edge.specs.Layouts.{Layout}
use Rattle.nm_edge.specs.declared.node.NodeId.{NodeId}
use Rattle.nm_model.specs.declared.reply.Reply.{Reply}
use Rattle.nm_model.specs.declared.reply.Reply.TheVariants.{Freed}
use Rattle.nm_model.specs.declared.reply.Refused.{Refused}
use Rattle.nm_model.specs.declared.trace.Turn.{Turn}
use Rattle.nm_model.proofs.Lists.{get_right, get_stays}
use Rattle.nm_model.specs.Headline.{Headline, nodes_cut_of, nodes_freed_of, cuts_of, freed_by, leaves, IsPinned, HasLeft}
use Rattle.nm_theorem.specs.EachRun.{ReadersOfFreedNodesHaveLeft}
use Rattle.nm_theorem.proofs.FreedOfRuns.{Freeing, freeing, cuts-append}

-- ---- two elements of one list

-- the second is behind the first, or is it, or is before it
data Meets {X : Type 0} (before : List X) (x : X) (since first : List X) (y : X) : Type 0 where
  IsBehind : (between rest : List X) → since ≡ between ++ y ∷ rest → Meets before x since first y
  IsIt : x ≡ y → Meets before x since first y
  IsBefore : (between : List X) → before ≡ first ++ y ∷ between → Meets before x since first y

same_head : {X : Type 0} (x y : X) (xs ys : List X) → x ∷ xs ≡ y ∷ ys → (x ≡ y) × (xs ≡ ys)
same_head x y xs ys e = (cc, cc)

meets : {X : Type 0} (before : List X) (x : X) (since first : List X) (y : X) (rest : List X)
    → before ++ x ∷ since ≡ first ++ y ∷ rest → Meets before x since first y
meets [] x since [] y rest e = IsIt (same_head x y since rest e).0
meets [] x since (f ∷ fs) y rest e = IsBehind fs rest (same_head x f since (fs ++ y ∷ rest) e).1
meets (b ∷ bs) x since [] y rest e = IsBefore bs (ap (λ z. z ∷ bs) (same_head b y (bs ++ x ∷ since) rest e).0)
meets (b ∷ bs) x since (f ∷ fs) y rest e = further
    (meets bs x since fs y rest (same_head b f (bs ++ x ∷ since) (fs ++ y ∷ rest) e).1)
  where
    further : Meets bs x since fs y → Meets (b ∷ bs) x since (f ∷ fs) y
    further (IsBehind between rest is) = IsBehind between rest is
    further (IsIt is) = IsIt is
    further (IsBefore between is) = IsBefore between
        ((λ i. (same_head b f (bs ++ x ∷ since) (fs ++ y ∷ rest) e).0 i ∷ is i))

-- ---- a cut behind a free

found : {n : NodeId} (ns : List NodeId) → (there : Contains ns n) → slice_get ns there.0 ≡ Some n
found {n} ns there = slice_get-get_or ns there.0 n there.1 ∙ ap (λ (m : NodeId). Some m) there.2

freed_by-append : (xs ys : List Turn) → freed_by (xs ++ ys) ≡ freed_by xs ++ freed_by ys
freed_by-append [] ys = refl
freed_by-append (t ∷ ts) ys = ap (λ (ns : List NodeId). nodes_freed_of t.outcome ++ ns) (freed_by-append ts ys)
    ∙ sym (append_assoc (nodes_freed_of t.outcome) (freed_by ts) (freed_by ys))

freed_there : (o : Result Reply Refused) (n : NodeId) → o ≡ Ok (Freed n) → Contains (nodes_freed_of o) n
freed_there o n is = subst (λ (p : Result Reply Refused). Contains (nodes_freed_of p) n) (sym is) (0, omega arith, refl)

cuts_nothing : (o : Result Reply Refused) (n m : NodeId) → o ≡ Ok (Freed n) → Contains (nodes_cut_of o) m → ⊥
cuts_nothing o n m is there = none (subst (λ (p : Result Reply Refused). Contains (nodes_cut_of p) m) is there)
  where
    none : Contains [] m → ⊥
    none there = let b = there.1 in omega (arith, b)

module _ (L : Layout) (turns : List Turn) (h : Headline L turns) (n : NodeId) (before since : List Turn) (cut : Turn)
    (are : turns ≡ before ++ cut ∷ since) (in_cut : Contains (nodes_cut_of cut.outcome) n) where
  -- a node that was cut before this turn is not cut by it
  not_before : (w : ℕ) → Contains (cuts_of w before) n → ⊥
  not_before w early =
      let here = get_stays (cuts_of w before) (cuts_of w (cut ∷ since)) early.0 n (found (cuts_of w before) early) in
      let there = get_right (cuts_of cut.worker before) (cuts_of cut.worker (cut ∷ since))
      (length (cuts_of cut.worker before) + cut_at.0) (omega arith)
      ∙ (ap (slice_get (cuts_of cut.worker (cut ∷ since))) (omega arith)
      ∙ found (cuts_of cut.worker (cut ∷ since)) cut_at) in
      let once = (h.queues turns [] (sym (append-nil turns))).once w cut.worker early.0
      (length (cuts_of cut.worker before) + cut_at.0) n (at w early.0 here)
      (at cut.worker (length (cuts_of cut.worker before) + cut_at.0) there) in
      let below = early.1 in
      let same = once.1 in
      let sizes = ap (λ (v : ℕ). length (cuts_of v before)) once.0 in
      omega (arith, below, same, sizes)
    where
      cut_at : Contains (cuts_of cut.worker (cut ∷ since)) n
      cut_at = subst (λ (b : Bool). Contains (cond b (nodes_cut_of cut.outcome) [] ++ cuts_of cut.worker since) n)
          (sym (eq-eqb cut.worker cut.worker refl)) (Contains-append_left (nodes_cut_of cut.outcome)
          (cuts_of cut.worker since) n in_cut)

      at : (w i : ℕ) → slice_get (cuts_of w before ++ cuts_of w (cut ∷ since)) i ≡ Some n
          → slice_get (cuts_of w turns) i ≡ Some n
      at w i is = ap (λ (ns : List NodeId). slice_get ns i) (ap (cuts_of w) are ∙ cuts-append w before (cut ∷ since))
          ∙ is

  -- so it is freed by a later one
  left : Freeing turns n → (w : ℕ) → IsPinned w before → HasLeft w since
  left f w pinned = go (meets before cut since f.first f.turn f.rest (sym are ∙ f.all))
    where
      go : Meets before cut since f.first f.turn → HasLeft w since
      go (IsBehind between rest is) = ap (list_any (leaves w)) is ∙ (list_any-append (leaves w) between (f.turn ∷ rest)
          ∙ ap (λ (b : Bool). b || list_any (leaves w) (f.turn ∷ rest))
          (h.grace before between rest cut f.turn n (are ∙ ap (λ (ts : List Turn). before ++ cut ∷ ts) is) in_cut
          (freed_there f.turn.outcome n f.is) w pinned))
      go (IsIt is) = absurd (cuts_nothing cut.outcome n n (ap (λ (t : Turn). t.outcome) is ∙ f.is) in_cut)
      go (IsBefore between is) = absurd (
          let frees_it : Contains (freed_by before) n = subst (λ (ts : List Turn). Contains (freed_by ts) n) (sym is)
          (subst (λ (ns : List NodeId). Contains ns n) (sym (freed_by-append f.first (f.turn ∷ between)))
          (Contains-append_right (freed_by f.first) (freed_by (f.turn ∷ between)) n
          (Contains-append_left (nodes_freed_of f.turn.outcome) (freed_by between) n
          (freed_there f.turn.outcome n f.is)))) in
          let cut_before = (h.queues before (cut ∷ since) are).only n frees_it in
          not_before cut_before.0 cut_before.1)

pub readers_have_left : ReadersOfFreedNodesHaveLeft
readers_have_left L turns h n freed before since cut are in_cut w pinned = left L turns h n before since cut are
    in_cut (freeing turns n freed) w pinned
