-- Each splice takes a flagged leaf out of the tree, and each such leaf was flagged once.
use Rattle.std.proofs.Common.{◌≡◌, ℕ, zero, suc, ◌+◌, ◌≤◌, ◌<◌, inl, inr, ◌⊎◌, Bool, true, false, cond, List, [], ◌∷◌, map, length, refl, sym, ap, subst, ◌∙◌, arith, true≢false, ◌≢◌}
use Rattle.std.specs.Prelude.{Option, Some, None, unwrap_or, Result, Ok, All, Contains, ◌↔◌, slice_get}
use native.Mathlib.Decide.{ℕ_discrete}
use Rattle.std.proofs.lemmas.Bool.{cases_lt}
use Rattle.std.proofs.lemmas.List.{get_or_past}
use Rattle.std.proofs.lemmas.Option.{none-some, slice_get_within, get_or_from_slice_get}
use Rattle.nm_edge.specs.Edges.{Edge, other, is_to}
use Rattle.nm_edge.specs.Layouts.{Layout}
use Rattle.nm_edge.specs.declared.edge.Side.{Side}
use Rattle.nm_edge.specs.declared.node.NodeId.{NodeId}
use Rattle.nm_model.specs.declared.event.Event.{Event}
use Rattle.nm_model.specs.declared.event.Event.TheVariants.{Flag, Splice}
use Rattle.nm_model.specs.declared.reply.Reply.{Reply}
use Rattle.nm_model.specs.declared.reply.Reply.TheVariants.{Flagged, Cut, Lost}
use Rattle.nm_model.specs.declared.reply.Refused.{Refused}
use Rattle.nm_model.specs.Memory.{Memory, edge, child, named}
use Rattle.nm_model.specs.Knowledge.{Knowledge, way, cut_by}
use Rattle.nm_model.specs.Paths.{Reached, IsCut}
use Rattle.nm_model.specs.Laws.{slots_of}
use Rattle.nm_model.specs.Step.{reply, cut_nodes}
use Rattle.nm_model.specs.Runs.{State, of, reply_of}
use Rattle.nm_model.specs.Searches.{Search, idle}
use Rattle.nm_model.specs.Ordered.{Configuration, ordered, search_of, refused_in, next_in, outcome_in, after_in, trace_in}
use Rattle.nm_model.proofs.Numbers.{repeated}
use Rattle.nm_laws.proofs.Configurations.{refused_next, allowed_outcome}
use Rattle.nm_laws.proofs.ListOrders.{In}
use Rattle.nm_laws.proofs.SplicedEdges.{IsFrozenChain}
use Rattle.nm_order.specs.Intervals.{HasKey}
use Rattle.nm_order.specs.Moments.{OfEachOrderedRun}
use Rattle.nm_order.proofs.OrderedLaws.{IsOrdered, ordered_next, each_ordered}
use Rattle.nm_order.proofs.OwnTurns.{own_search}
use Rattle.nm_order.proofs.RunExchanges.{first_keys}
use Rattle.nm_order.proofs.CutTurns.{layout_is, cut_shows, cut_goes_down}
use Rattle.nm_laws.proofs.Stays.{IsSplice}
use Rattle.nm_order.proofs.TurnEdges.{turn_origin, step_down}
use Rattle.nm_order.proofs.EdgeOrigins.EdgeOrigin.{WasThere, IsFlaggedNow, LeadsToNew, LeadsNowhere}
use Rattle.nm_order.proofs.EdgeOrigins.{EdgeOrigin}
use Rattle.nm_order.proofs.PendingLeaves.{flag_leads_high, flag_told, owned}
use Rattle.nm_progress.specs.Moves.{number_of}
use Rattle.nm_progress.specs.Paid.{flags_on, cuts_on, flags_in, cuts_in, SplicesArePaid, SplicesArePaidSince}
use Rattle.nm_progress.proofs.Covers.{NextList, next_list}
use Rattle.nm_progress.proofs.LostTries.{later_keys, answered_so}

-- a leaf at a flagged edge of a reached node
abbrev pub IsFlaggedLeaf : Configuration → ℕ → Type 0
IsFlaggedLeaf c x = (y : ℕ) × (g : Side) × Reached c.state.memory y × ((edge c.state.memory y g).flag ≡ true)
    × (child c.state.memory y g ≡ x)

-- ---- a cut names at least two nodes

some_cut : (m : Memory) (k : Knowledge) (s : ℕ) (sides : List Side) (keep : Side)
    → map (named m) (cut_by k s sides keep) ≡ [] → ⊥
some_cut m k s [] keep e = cc
some_cut m k s (side ∷ sides) keep e = cc

cut_some : (s : State) (w a x p : ℕ) (d keep : Side) (ns : List NodeId) → reply_of s w (Splice a d x p keep) ≡ Cut ns
    → ns ≡ [] → ⊥
unfolding reply
cut_some s w a x p d keep ns told none = by (is_to (edge s.memory a d) x) told
  where
    same : (xs : List NodeId) → Cut xs ≡ Cut ns → xs ≡ ns
    same xs e = cc

    by : (b : Bool) → cond b (Cut (cut_nodes s.layout s.memory (of s w) x p keep)) (Lost (edge s.memory a d))
        ≡ Cut ns → ⊥
    by true e = some_cut s.memory (of s w) x (unwrap_or (way s.layout.nodes (of s w) x p) []) keep (same _ e ∙ none)
    by false e = absurd (differ e)
      where
        differ : Lost (edge s.memory a d) ≡ Cut ns → ⊥
        differ e = cc

cuts_shown : (e : Event) (o : Result Reply Refused) → cuts_on e o ≡ true → (ns : List NodeId) × (o ≡ Ok (Cut ns))
    × IsSplice e
cuts_shown (Splice a d x p keep) (Ok (Cut ns)) is = (ns, refl, (a, d, x, p, keep, refl))
cuts_shown e o is = absurd (true≢false (sym is))

pub flags_shown : (e : Event) (o : Result Reply Refused) → flags_on e o ≡ true
    → (p : ℕ) × (d : Side) × (leaf : ℕ) × (n : NodeId) × (e ≡ Flag p d leaf) × (o ≡ Ok (Flagged n))
flags_shown (Flag p d leaf) (Ok (Flagged n)) is = (p, d, leaf, n, refl, refl)
flags_shown e o is = absurd (true≢false (sym is))

-- ---- one turn

module _ (L : Layout) (enough : 5 ≤ L.nodes) (c : Configuration) (t : ℕ × Event) (has : HasKey t.1)
    (o : IsOrdered L c) where
  after : IsOrdered L (next_in c t)
  after = ordered_next L enough c t has o

  -- the leaf that a cut takes
  record TakesLeaf : Type 0 where
    leaf : ℕ
    parent : ℕ
    side : Side
    reached : Reached c.state.memory parent
    flagged : (edge c.state.memory parent side).flag ≡ true
    leads : child c.state.memory parent side ≡ leaf
    gone : Reached (next_in c t).state.memory leaf → ⊥

  contains_at : (xs : List ℕ) (i x : ℕ) → slice_get xs i ≡ Some x → Contains xs x
  contains_at xs i x at = (i, slice_get_within xs i x at, get_or_from_slice_get xs i x x at)

  takes_leaf : IsSplice t.1 → (ns : List NodeId) → outcome_in c t ≡ Ok (Cut ns) → TakesLeaf
  takes_leaf splice ns is = by (slots_of ns) refl (cut_goes_down L enough c t o ns splice is)
      (cut_shows L enough c t o ns is).0
    where
      no_slots : (ns : List NodeId) → slots_of ns ≡ [] → ns ≡ []
      no_slots [] e = refl
      no_slots (n ∷ ns) e = absurd (differ e)
        where
          differ : n.slot ∷ slots_of ns ≡ [] → ⊥
          differ e = cc

      by : (xs : List ℕ) → slots_of ns ≡ xs → (s : ℕ) × IsFrozenChain c.state.memory s (slots_of ns)
          → ((x : ℕ) → IsCut c.state.memory (next_in c t).state.memory x ↔ Contains (slots_of ns) x) → TakesLeaf
      by [] are chain cut = absurd (cut_some c.state t.0 splice.0 splice.2 splice.3 splice.1 splice.4 ns
          (ap (reply_of c.state t.0) (sym splice.5) ∙ (answered_so c t.0 t.1 (Cut ns) is).1) (no_slots ns are))
      by (x ∷ []) are chain cut = absurd (subst (λ (xs : List ℕ). IsFrozenChain c.state.memory chain.0 xs) are chain.1)
      by (x ∷ l ∷ rest) are chain cut = on (subst (λ (xs : List ℕ). IsFrozenChain c.state.memory chain.0 xs) are
          chain.1)
        where
          of_list : (i y : ℕ) → slice_get (x ∷ l ∷ rest) i ≡ Some y → IsCut c.state.memory (next_in c t).state.memory y
          of_list i y at = (cut y).1 (subst (λ (xs : List ℕ). Contains xs y) (sym are)
              (contains_at (x ∷ l ∷ rest) i y at))

          on : IsFrozenChain c.state.memory chain.0 (x ∷ l ∷ rest) → TakesLeaf
          on f = record {
            leaf = l;
            parent = chain.0;
            side = other f.1;
            reached = subst (Reached c.state.memory) f.0 (of_list 0 x refl).was;
            flagged = f.2;
            leads = f.3;
            gone = (of_list 1 l refl).gone;
          }

  -- where a flagged edge of a reached node comes from
  pub data FlagOrigin (y : ℕ) (g : Side) : Type 0 where
    Before : (p : ℕ) (d : Side) → Reached c.state.memory p → (edge c.state.memory p d).flag ≡ true
        → child c.state.memory p d ≡ child (next_in c t).state.memory y g → FlagOrigin y g
    Now : (leaf : ℕ) → t.1 ≡ Flag y g leaf → child (next_in c t).state.memory y g ≡ leaf
        → flags_on t.1 (outcome_in c t) ≡ true → FlagOrigin y g

  pub flag_origin : (y : ℕ) (g : Side) → Reached (next_in c t).state.memory y
      → (edge (next_in c t).state.memory y g).flag ≡ true → FlagOrigin y g
  flag_origin y g r flag = by (turn_origin L enough c t o y r g)
    where
      by : EdgeOrigin c.state t.0 t.1 (next_in c t).state.memory y g → FlagOrigin y g
      by (WasThere p d reached leads same) = Before p d reached (same ∙ flag) leads
      by (IsFlaggedNow leaf is reached unmarked now) = Now leaf is (ap (λ (e : Edge). e.slot) now)
          (go (refused_in c t.0 t.1) refl)
        where
          go : (q : Option Refused) → refused_in c t.0 t.1 ≡ q → flags_on t.1 (outcome_in c t) ≡ true
          go (Some q) why = absurd (true≢false (sym flag
              ∙ (ap (λ (d : Configuration). (edge d.state.memory y g).flag) (refused_next c t q why)
              ∙ ap (λ (e : Edge). e.flag) unmarked)))
          go None why = (λ i. flags_on (is i) ((allowed_outcome c t why
              ∙ ap (λ (r : Reply). Ok r) (ap (reply_of c.state t.0) is ∙ flag_told c.state t.0 y leaf g unmarked)) i))
      by (LeadsToNew p d leaf new is unmarked held none) = absurd (true≢false (sym flag ∙ none))
      by (LeadsNowhere none) = absurd (let high = flag_leads_high L enough (next_in c t) after y g r flag in
          omega (arith, high, none))

  flags_or_cuts : (e : Event) (r : Result Reply Refused) → flags_on e r ≡ true → cuts_on e r ≡ false
  flags_or_cuts (Flag p d leaf) (Ok (Flagged n)) is = refl
  flags_or_cuts e r is = absurd (true≢false (sym is))

  -- a list that covers what is flagged, behind the turn
  pub next_cover : (slots : List ℕ) → ((x : ℕ) → IsFlaggedLeaf c x → In slots x)
      → NextList (IsFlaggedLeaf c) (IsFlaggedLeaf (next_in c t)) (flags_on t.1 (outcome_in c t))
      (cuts_on t.1 (outcome_in c t)) slots
  next_cover = next_list (IsFlaggedLeaf c) (IsFlaggedLeaf (next_in c t)) (flags_on t.1 (outcome_in c t))
      (cuts_on t.1 (outcome_in c t)) (flags_or_cuts t.1 (outcome_in c t)) adds takes stays
    where
      adds : flags_on t.1 (outcome_in c t) ≡ true → (new : ℕ)
          × ((x : ℕ) → IsFlaggedLeaf (next_in c t) x → (x ≡ new) ⊎ IsFlaggedLeaf c x)
      adds flags = (f.2, λ x is. on x is (flag_origin is.0 is.1 is.2 is.3))
        where
          f : (p : ℕ) × (d : Side) × (leaf : ℕ) × (n : NodeId) × (t.1 ≡ Flag p d leaf)
              × (outcome_in c t ≡ Ok (Flagged n))
          f = flags_shown t.1 (outcome_in c t) flags

          same_leaf : (a b : ℕ) (x y : ℕ) (d g : Side) → Flag x d a ≡ Flag y g b → b ≡ a
          same_leaf a b x y d g e = cc

          on : (x : ℕ) (is : IsFlaggedLeaf (next_in c t) x) → FlagOrigin is.0 is.1 → (x ≡ f.2) ⊎ IsFlaggedLeaf c x
          on x is (Before p d reached flag leads) = inr (p, d, reached, flag, leads ∙ is.4)
          on x is (Now leaf event at won) = inl (sym is.4
              ∙ (at ∙ same_leaf f.2 leaf f.0 is.0 f.1 is.1 (sym f.4 ∙ event)))

      stays : flags_on t.1 (outcome_in c t) ≡ false → (x : ℕ) → IsFlaggedLeaf (next_in c t) x → IsFlaggedLeaf c x
      stays flags x is = on (flag_origin is.0 is.1 is.2 is.3)
        where
          on : FlagOrigin is.0 is.1 → IsFlaggedLeaf c x
          on (Before p d reached was leads) = (p, d, reached, was, leads ∙ is.4)
          on (Now leaf event at won) = absurd (true≢false (sym won ∙ flags))

      takes : flags_on t.1 (outcome_in c t) ≡ false → cuts_on t.1 (outcome_in c t) ≡ true
          → (gone : ℕ) × IsFlaggedLeaf c gone × ((x : ℕ) → IsFlaggedLeaf (next_in c t) x
          → (x ≢ gone) × IsFlaggedLeaf c x)
      takes flags cuts = (
        k.leaf,
        (k.parent, k.side, k.reached, k.flagged, k.leads),
        λ x is.
            (apart x is, stays flags x is),
      )
        where
          k : TakesLeaf
          k = let shown = cuts_shown t.1 (outcome_in c t) cuts in takes_leaf shown.2 shown.0 shown.1

          apart : (x : ℕ) → IsFlaggedLeaf (next_in c t) x → x ≢ k.leaf
          apart x is at = k.gone (subst (Reached (next_in c t).state.memory) (is.4 ∙ at)
              (step_down (next_in c t).state.memory is.0 is.1 is.2
              (λ z. let high = flag_leads_high L enough (next_in c t) after is.0 is.1 is.2 is.3 in
              absurd (omega (arith, high, z)))))

-- ---- over a run

module _ (L : Layout) (enough : 5 ≤ L.nodes) where
  -- what each turn takes of what was flagged, a run takes no more often than it was flagged
  pub paid_over : (Such : Configuration → ℕ → Type 0) (takes : Event → Result Reply Refused → Bool)
      → ((c : Configuration) (t : ℕ × Event) → HasKey t.1 → IsOrdered L c → (slots : List ℕ)
      → ((x : ℕ) → Such c x → In slots x) → NextList (Such c) (Such (next_in c t)) (flags_on t.1 (outcome_in c t))
      (takes t.1 (outcome_in c t)) slots)
      → (turns : List (ℕ × Event)) → All (λ t. HasKey t.1) turns → (c : Configuration) → IsOrdered L c
      → (slots : List ℕ) → ((x : ℕ) → Such c x → In slots x)
      → number_of (λ t. takes t.event t.outcome) (trace_in c turns) ≤ flags_in (trace_in c turns) + length slots
  unfolding trace_in
  paid_over Such takes step [] keys c o slots covers = omega arith
  paid_over Such takes step (t ∷ ts) keys c o slots covers =
      let n = step c t (keys 0 t (omega arith)) o slots covers in
      let rest = paid_over Such takes step ts (λ i d below. keys (suc i) d (omega (arith, below))) (next_in c t)
      (ordered_next L enough c t (keys 0 t (omega arith)) o) n.list n.covers in
      let one = n.paid in omega (arith, rest, one)

  pub paid_from : (turns : List (ℕ × Event)) → All (λ t. HasKey t.1) turns → (c : Configuration) → IsOrdered L c
      → (slots : List ℕ) → ((x : ℕ) → IsFlaggedLeaf c x → In slots x)
      → cuts_in (trace_in c turns) ≤ flags_in (trace_in c turns) + length slots
  paid_from = paid_over IsFlaggedLeaf cuts_on (next_cover L enough)

  pub no_flags : (x : ℕ) → IsFlaggedLeaf (ordered L) x → In [] x
  unfolding after_in
  no_flags x is = let u = owned L enough [] (λ i d below. absurd (omega (arith, below))) is.0 is.1 is.2 is.3 in
      absurd (none-some _ (sym (ap (λ (S : Search). S.flagged) (repeated L.workers u.0 idle)) ∙ u.1))

pub splices_are_paid : OfEachOrderedRun SplicesArePaid
unfolding after_in
splices_are_paid L enough turns keys =
    let all = paid_from L enough turns keys (ordered L)
    (each_ordered L enough [] (λ i d below. absurd (omega (arith, below)))) [] (no_flags L enough) in
    omega (arith, all)

-- ---- since a moment

abbrev pub slot_of : Option NodeId → List ℕ → List ℕ
slot_of None xs = xs
slot_of (Some n) xs = n.slot ∷ xs

-- the leaves that the calls of workers 0 to n - 1 have flagged
abbrev pub pending : Configuration → ℕ → List ℕ
pending c zero = []
pending c (suc n) = slot_of (own_search c n).flagged (pending c n)

pub few_pending : (c : Configuration) (n : ℕ) → length (pending c n) ≤ n
few_pending c zero = omega arith
few_pending c (suc n) = by (own_search c n).flagged (few_pending c n)
  where
    by : (o : Option NodeId) → length (pending c n) ≤ n → length (slot_of o (pending c n)) ≤ suc n
    by None rest = omega (arith, rest)
    by (Some m) rest = omega (arith, rest)

has_pending : (c : Configuration) (u : ℕ) (m : NodeId) → (own_search c u).flagged ≡ Some m → (n : ℕ) → u < n
    → In (pending c n) m.slot
has_pending c u m is zero below = absurd (omega (arith, below))
has_pending c u m is (suc n) below = elim (ℕ_discrete u n) [
  | yes at ↦ subst (λ (o : Option NodeId). In (slot_of o (pending c n)) m.slot)
      (sym is ∙ ap (λ (v : ℕ). (own_search c v).flagged) at) (inl refl)
  | no ne ↦ by (own_search c n).flagged (has_pending c u m is n (omega (arith, below, ne)))
]
  where
    by : (o : Option NodeId) → In (pending c n) m.slot → In (slot_of o (pending c n)) m.slot
    by None there = there
    by (Some k) there = inr there

module _ (L : Layout) (enough : 5 ≤ L.nodes) where
  -- who has flagged a leaf is a worker
  is_worker : (c : Configuration) (o : IsOrdered L c) (u : ℕ) (m : NodeId) → (own_search c u).flagged ≡ Some m
      → u < L.workers
  is_worker c o u m is = elim (cases_lt u L.workers) [
    | inl below ↦ below
    | inr past ↦ absurd (none-some m (sym (ap (λ (S : Search). S.flagged)
        (ap (λ (l : Option (List Search)). search_of (unwrap_or l []) u) o.are
        ∙ get_or_past o.searches u idle (let size = o.law.sized in
        let same = ap (λ (m : Layout). m.workers) (layout_is L enough c o) in omega (arith, size, same, past)))) ∙ is))
  ]

  pub covered : (past : List (ℕ × Event)) → All (λ t. HasKey t.1) past → (x : ℕ)
      → IsFlaggedLeaf (after_in (ordered L) past) x → In (pending (after_in (ordered L) past) L.workers) x
  covered past keys x is =
      let u = owned L enough past keys is.0 is.1 is.2 is.3 in
      subst (In (pending (after_in (ordered L) past) L.workers)) is.4
      (has_pending (after_in (ordered L) past) u.0 (named (after_in (ordered L) past).state.memory
      (child (after_in (ordered L) past).state.memory is.0 is.1)) u.1 L.workers
      (is_worker (after_in (ordered L) past) (each_ordered L enough past keys) u.0 _ u.1))

pub splices_are_paid_since : SplicesArePaidSince
splices_are_paid_since L enough past turns keys =
    let before : All (λ t. HasKey t.1) past = first_keys past turns keys in
    let all = paid_from L enough turns (later_keys past turns keys) (after_in (ordered L) past)
    (each_ordered L enough past before) (pending (after_in (ordered L) past) L.workers)
    (covered L enough past before) in
    let few = few_pending (after_in (ordered L) past) L.workers in
    omega (arith, all, few)
