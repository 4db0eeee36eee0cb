-- Facts are true and stay, in every ordered run.
use Rattle.std.proofs.Common.{◌≡◌, ℕ, ◌≤◌, true, List, [], replicate, refl, sym, ap, subst, ◌∙◌, arith}
use Rattle.std.specs.Prelude.{Some, slice_get, All}
use Rattle.std.proofs.lemmas.Option.{slice_get-get_or}
use Rattle.nm_edge.specs.Edges.{Edge, other}
use Rattle.nm_edge.specs.Layouts.{Layout}
use Rattle.nm_edge.specs.declared.edge.Side.{Side}
use Rattle.nm_model.specs.declared.event.Event.{Event}
use Rattle.nm_model.specs.declared.arrivals.Arrival.{Arrival}
use Rattle.nm_model.specs.Memory.{Memory, node, is_leaf}
use Rattle.nm_model.specs.Knowledge.{Knowledge, knows, knows_leaf}
use Rattle.nm_model.specs.Runs.{of, start}
use Rattle.nm_model.specs.Searches.{Search, idle}
use Rattle.nm_model.specs.Walks.{Entry}
use Rattle.nm_model.specs.Ordered.{Configuration, ordered, search_of, after_in, trace_in}
use Rattle.nm_model.proofs.Numbers.{repeated}
use Rattle.nm_laws.proofs.TreeSteps.{Lawful}
use Rattle.nm_laws.proofs.Pictures.{IsLive}
use Rattle.nm_laws.proofs.Views.{picture}
use Rattle.nm_order.specs.Intervals.{HasKey}
use Rattle.nm_order.specs.Logs.{IsLogOf, known_by, part_of}
use Rattle.nm_laws.proofs.EachState.{known_leaves}
use Rattle.nm_order.specs.Facts.{Since, Fact, Arrived, arrivals, HoldsIn, Holds, IsShared, IsTrueIn, FactsAreTrue, FlaggedSlotsStandHigh, TaggedSlotsStandHigh}
use Rattle.nm_order.specs.Facts.Since.{ThePin, TheFlag}
use Rattle.nm_order.specs.Facts.Fact.{IsPinned, KnowsSlot, KnowsLeaf, IsTagged, IsFlagged, IsFrozen, IsBorn, CallIs, Came, ReadKey, EndedAt}
use Rattle.nm_order.proofs.OrderedSteps.{ForCall}
use Rattle.nm_order.proofs.OrderedLaws.{IsOrdered, law_of_state}
use Rattle.nm_order.proofs.OrderedInduction.{births_of, each_run_keeps}
use Rattle.nm_order.proofs.LastEntries.{ToldBy, told_by_part}
use Rattle.nm_order.proofs.Sentinels.{flags_stand_high}
use Rattle.nm_order.proofs.CallWalks.{WalksKept, kept_step, no_ends}

-- ---- the law of a call's walks, in every ordered run

-- of each worker's walks
abbrev pub AllKept : Configuration → Type 0
AllKept c = (ss : List Search) → c.searches ≡ Some ss → (u : ℕ) → WalksKept c.state ss u

kept_start : (L : Layout) (u : ℕ) → WalksKept (start L) (replicate L.workers idle) u
kept_start L u = by (repeated L.workers u idle)
  where
    by : search_of (replicate L.workers idle) u ≡ idle → WalksKept (start L) (replicate L.workers idle) u
    by is = record { law = λ since. rw is tt; ends = λ since. rw is (none since) }
      where
        none : (since : Since) (i : ℕ) (a : Arrival) → slice_get (arrivals idle since) i ≡ Some a → a.ended ≡ true
            → knows_leaf (of (start L) u) a.slot ≡ true
        none ThePin = no_ends (of (start L) u)
        none TheFlag = no_ends (of (start L) u)

pub all_kept : (L : Layout) → 5 ≤ L.nodes → (turns : List (ℕ × Event)) → All (λ t. HasKey t.1) turns
    → AllKept (after_in (ordered L) turns)
all_kept L enough turns keys = each_run_keeps (λ s ss. (u : ℕ) → WalksKept s ss u) kept_step L enough (kept_start L)
    turns keys

-- ---- facts are true

module _ (L : Layout) (enough : 5 ≤ L.nodes) (c : Configuration) (o : IsOrdered L c) (w : ℕ) where
  abbrev m : Memory
  m = c.state.memory

  holder : ℕ → ℕ
  holder = (law_of_state L enough c o).0

  law : Lawful c.state holder
  unfolding holder
  law = (law_of_state L enough c o).1

  live : (x : ℕ) → knows (of c.state w) x ≡ true → IsLive (picture c.state holder) x
  live x known = law.tree.guarded w x (record {
    from = x;
    known = known;
    path = [];
    ends = refl;
    is_slot = λ z.
        (let r = law.tree.known w x known in absurd (omega arith));
  })

  shared : (x : ℕ) → knows (of c.state w) x ≡ true → IsShared c.state x
  shared x known = let l = live x known in record { not_pooled = l.pooled; not_private = l.shared }

  pub leaf_is : (x : ℕ) → knows_leaf (of c.state w) x ≡ true → is_leaf (node m x) ≡ true
  unfolding holder law
  leaf_is x leaf = known_leaves c.state (record { holder = holder; law = law }) w x leaf

  abbrev search : Search
  search = search_of o.searches w

  -- what is known of an arrival
  record KnownArrival (since : Since) (x : ℕ) (a : Arrival) : Type 0 where
    known : knows (of c.state w) x ≡ true
    key : (n : ℕ) → a.key ≡ Some n → (node c.state.memory x).key ≡ n
    ends : a.ended ≡ true → knows_leaf (of c.state w) x ≡ true

  arrived : WalksKept c.state o.searches w → (since : Since) (k x p : ℕ) (d : Side)
      (a : Arrived (search_of o.searches w) since k x p d) → KnownArrival since x a.arrival
  arrived kept since k x p d a = subst (λ (y : ℕ). KnownArrival since y a.arrival) a.is_slot (record {
    known = walks.1.is_known a.among.0 a.arrival at;
    key = λ n is. walks.1.is_keyed a.among.0 a.arrival n at is;
    ends = λ is. kept.ends since a.among.0 a.arrival at is;
  })
    where
      at : slice_get (arrivals (search_of o.searches w) since) a.among.0 ≡ Some a.arrival
      at = slice_get-get_or (arrivals (search_of o.searches w) since) a.among.0 a.arrival a.among.1 ∙ ap Some a.among.2

      walks : ForCall c.state.layout.radix c.state.memory (knows (of c.state w)) (Some a.call)
          (arrivals (search_of o.searches w) since)
      walks = subst (λ call. ForCall c.state.layout.radix c.state.memory (knows (of c.state w)) call
          (arrivals (search_of o.searches w) since)) a.is_call (kept.law since)

  pub true_in : WalksKept c.state o.searches w → (fact : Fact) → HoldsIn (of c.state w) (search_of o.searches w) fact
      → IsTrueIn c.state w fact
  true_in kept (IsPinned epoch) holds = law.epochs.announced w ∙ law.epochs.noted w epoch holds
  true_in kept (KnowsSlot x) holds = shared x holds
  true_in kept (KnowsLeaf x) holds = leaf_is x holds
  true_in kept (IsTagged x d to) holds = let is = law.tree.tag_read w x d holds.0 holds.1 holds.2 in
      (ap (λ (e : Edge). e.tag) is ∙ holds.2, ap (λ (e : Edge). e.slot) is ∙ holds.3)
  true_in kept (IsFlagged x d to) holds = let is = law.tree.flag_read w x d holds.0 holds.1 holds.2 in
      (is.0, is.1 ∙ holds.3)
  true_in kept (IsFrozen x d e) holds = (law.tree.tag_read w x d e holds.0 holds.1, holds.1)
  true_in kept (IsBorn x b) holds = (births_of L enough c o w).seen x b holds
  true_in kept (CallIs op k) holds = (subst (λ call. ForCall c.state.layout.radix c.state.memory
      (knows (of c.state w)) call (search_of o.searches w).walks) holds (kept.law ThePin)).0
  true_in kept (Came since k x p d) holds = shared x (arrived kept since k x p d holds).known
  true_in kept (ReadKey since k x p d n) holds = (arrived kept since k x p d holds.0).key n holds.1
  true_in kept (EndedAt since k x p d n) holds = let a = arrived kept since k x p d holds.0 in
      (leaf_is x (a.ends holds.2), a.key n holds.1)

-- by what a log tells
pub told_holds : (L : Layout) (w : ℕ) (log : List Entry) (c : Configuration) (t : ToldBy L w log c) (fact : Fact)
    → Holds L w log fact → HoldsIn (of c.state w) (search_of t.is_ordered.searches w) fact
told_holds L w log c t fact holds = subst (λ (k : Knowledge). HoldsIn k (search_of t.is_ordered.searches w) fact)
    (sym t.knows) (subst (λ (s : Search). HoldsIn (known_by L w log) s fact) (sym t.search) holds)

pub facts_are_true : FactsAreTrue
facts_are_true L enough w log l fact holds =
    let t : ToldBy L w log (after_in (ordered L) l.turns) = subst
    (λ (log : List Entry). ToldBy L w log (after_in (ordered L) l.turns)) l.is_part
    (told_by_part L enough w l.worker l.turns l.keys) in
    true_in L enough (after_in (ordered L) l.turns) t.is_ordered w
    (all_kept L enough l.turns l.keys t.is_ordered.searches t.is_ordered.are w) fact
    (told_holds L w log (after_in (ordered L) l.turns) t fact holds)

-- ---- marked edges

-- what a slot has by what a log tells of it, where it has that in each state that knows so much
by_log : (L : Layout) → 5 ≤ L.nodes → (w : ℕ) (log : List Entry) → IsLogOf L w log → (fact : Fact)
    → Holds L w log fact → (P : Type 0)
    → ((c : Configuration) (o : IsOrdered L c) → HoldsIn (of c.state w) (search_of o.searches w) fact → P) → P
by_log L enough w log l fact holds P gives = go (told_by_part L enough w l.worker l.turns l.keys)
  where
    go : ToldBy L w (part_of w (trace_in (ordered L) l.turns)) (after_in (ordered L) l.turns) → P
    go told =
        let t : ToldBy L w log (after_in (ordered L) l.turns) = subst
        (λ (log : List Entry). ToldBy L w log (after_in (ordered L) l.turns)) l.is_part told in
        gives (after_in (ordered L) l.turns) t.is_ordered
        (told_holds L w log (after_in (ordered L) l.turns) t fact holds)

pub flagged_slots_stand_high : FlaggedSlotsStandHigh
flagged_slots_stand_high L enough w log l x to side holds = by_log L enough w log l (IsFlagged x side to) holds
    (6 ≤ x) (λ c o fact. (
    let law = law_of_state L enough c o in
    flags_stand_high L enough c o w x side (law.1.tree.reads w x side fact.0 fact.1)
    (law.1.tree.flag_read w x side fact.0 fact.1 fact.2).0
    ))

pub tagged_slots_stand_high : TaggedSlotsStandHigh
unfolding holder
tagged_slots_stand_high L enough w log l x to side holds = by_log L enough w log l (IsTagged x side to) holds (6 ≤ x)
    (λ c o fact. (
    let law = law_of_state L enough c o in
    let known = law.1.tree.reads w x side fact.0 fact.1 in
    let is = law.1.tree.tag_read w x side fact.0 fact.1 fact.2 in
    flags_stand_high L enough c o w x (other side) known
    (law.1.tree.frozen x side (live L enough c o w x known) (ap (λ (e : Edge). e.tag) is ∙ fact.2))
    ))
