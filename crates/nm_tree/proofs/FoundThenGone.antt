-- A key that was found, and then was not there to be deleted: some turn in between cut its leaf off.
use Rattle.std.proofs.Common.{◌≡◌, ◌∙◌, ◌⊎◌, inl, inr, ℕ, zero, suc, ◌+◌, ◌<◌, ◌≤◌, Bool, true, false, cond, List, [], ◌∷◌, ◌++◌, append_assoc, length, length-append, refl, sym, ap, subst, arith, true≢false}
use Rattle.std.specs.Prelude.{All, unwrap_or, Option, Some, Ok, Result, ◌↔◌}
use Rattle.nm_edge.specs.Layouts.{Layout, IsLayout}
use Rattle.nm_edge.specs.declared.node.NodeId.{NodeId}
use Rattle.nm_model.specs.Acts.{InSet}
use Rattle.nm_model.specs.Headline.{words_after}
use Rattle.nm_model.specs.Histories.{AnswerStands}
use Rattle.nm_model.specs.Memory.{Memory}
use Rattle.nm_model.specs.Ordered.{Configuration, ordered, next_in, outcome_in, after_in, trace_in, search_of}
use Rattle.nm_model.specs.Searches.{Search}
use Rattle.nm_model.specs.declared.event.Event.{Event}
use Rattle.nm_model.specs.declared.event.Event.TheVariants.{LeaveWith}
use Rattle.nm_model.specs.declared.event.Op.TheVariants.{Delete}
use Rattle.nm_model.specs.declared.reply.Reply.{Reply}
use Rattle.nm_model.specs.declared.reply.Reply.TheVariants.{Cut}
use Rattle.nm_model.specs.declared.reply.Refused.{Refused}
use Rattle.nm_model.specs.declared.trace.Turn.{Turn}
use Rattle.nm_laws.proofs.Configurations.{after_in-append}
use Rattle.nm_order.specs.History.{pin_of}
use Rattle.nm_order.specs.Intervals.{HasKey}
use Rattle.nm_order.specs.Legal.{WasLegal}
use Rattle.nm_laws.proofs.Stays.{IsSplice, SpliceOrSwap}
use Rattle.nm_order.proofs.CutTurns.{cut_is, uncut_stays}
use Rattle.nm_order.proofs.SwapTurns.{swap_turn}
use Rattle.nm_order.proofs.OrderedLaws.{IsOrdered, each_ordered}
use Rattle.nm_order.proofs.OrderedMoments.{Lasting}
use Rattle.nm_order.proofs.OwnTurns.{own_search}
use Rattle.nm_order.proofs.PinNumbers.{length_trace, pin_stays, pin_below}
use Rattle.nm_order.proofs.RunExchanges.{first_keys}
use Rattle.nm_order.proofs.SetChanges.{turn_lasts}
use Rattle.nm_order.proofs.WalksOfRuns.{trace_in-append}
use Rattle.nm_theorem.proofs.Runs.{parts_of, enough_of}
use Rattle.nm_theorem.proofs.WrittenWords.{run_words}
use Rattle.nm_steps.specs.Steps.{PassView}
use Rattle.nm_calls.specs.PlainWalks.{WasSo}
use Rattle.nm_progress.specs.Paid.{cuts_in, cuts_on}
use Rattle.nm_progress.proofs.LostTries.{later_keys}
use Rattle.nm_progress.proofs.SplitTurns.{number-append, ordered_after}
use Rattle.nm_tree.proofs.AnswersInRuns.{AnsweredBy, answered_by}

-- ---- lists that begin alike

-- the shorter of two first parts begins the other
pub begins : {X : Type 0} (xs ys us vs : List X) → xs ++ us ≡ ys ++ vs → length xs ≤ length ys
    → (more : List X) × (ys ≡ xs ++ more)
begins {X = X} [] ys us vs e less = (ys, refl)
begins {X = X} (x ∷ xs) [] us vs e less = absurd (omega (arith, less))
begins {X = X} (x ∷ xs) (y ∷ ys) us vs e less =
    let head : x ≡ y = cc in
    let tail : xs ++ us ≡ ys ++ vs = cc in
    let rest = begins xs ys us vs tail (omega (arith, less)) in
    (rest.0, ap (λ (zs : List X). y ∷ zs) rest.1 ∙ ap (λ (z : X). z ∷ (xs ++ rest.0)) (sym head))

-- ---- turns that cut nothing off

abbrev is_cut_outcome : Result Reply Refused → Bool
is_cut_outcome (Ok (Cut ns)) = true
is_cut_outcome _ = false

cut_outcome_is : (o : Result Reply Refused) → is_cut_outcome o ≡ true → (ns : List NodeId) × (o ≡ Ok (Cut ns))
cut_outcome_is (Ok (Cut ns)) is = (ns, refl)
cut_outcome_is o is = absurd (true≢false (sym is))

module _ (L : Layout) (enough : 5 ≤ L.nodes) where
  stays_uncut : (c : Configuration) (t : ℕ × Event) → HasKey t.1 → IsOrdered L c
      → ((ns : List NodeId) → outcome_in c t ≡ Ok (Cut ns) → ⊥) → (k : ℕ) → InSet c.state.memory k
      → InSet (next_in c t).state.memory k
  stays_uncut c t has o uncut k s = record {
    slot = s.slot;
    reached = uncut_stays L enough c t o uncut s.slot s.reached;
    leaf = ap (λ (l : Lasting). l.leaf) (turn_lasts L enough c t has o s.slot s.reached) ∙ s.leaf;
    has_key = ap (λ (l : Lasting). l.key) (turn_lasts L enough c t has o s.slot s.reached) ∙ s.has_key;
  }

  -- a turn that is no won splice cuts nothing, or is a swap, which leaves the set as it is
  pub uncut_or_same : (c : Configuration) (t : ℕ × Event) → IsOrdered L c
      → ((ns : List NodeId) → outcome_in c t ≡ Ok (Cut ns) → IsSplice t.1 → ⊥)
      → ((ns : List NodeId) → outcome_in c t ≡ Ok (Cut ns) → ⊥)
      ⊎ ((k : ℕ) → InSet (next_in c t).state.memory k ↔ InSet c.state.memory k)
  uncut_or_same c t o plain = on (is_cut_outcome (outcome_in c t)) refl
    where
      on : (b : Bool) → is_cut_outcome (outcome_in c t) ≡ b → ((ns : List NodeId) → outcome_in c t ≡ Ok (Cut ns) → ⊥)
          ⊎ ((k : ℕ) → InSet (next_in c t).state.memory k ↔ InSet c.state.memory k)
      on false is = inl (λ ns told. true≢false (sym (ap is_cut_outcome told) ∙ is))
      on true is = let cut = cut_outcome_is (outcome_in c t) is in by cut.0 cut.1 (cut_is L enough c t o cut.0 cut.1)
        where
          by : (ns : List NodeId) → outcome_in c t ≡ Ok (Cut ns) → SpliceOrSwap t.1
              → ((ns : List NodeId) → outcome_in c t ≡ Ok (Cut ns) → ⊥)
              ⊎ ((k : ℕ) → InSet (next_in c t).state.memory k ↔ InSet c.state.memory k)
          by ns told (inl splice) = absurd (plain ns told splice)
          by ns told (inr (p, d, leaf, new, swap)) = inr (swap_turn L enough c t o p d leaf new swap ns told).set

  stays_unspliced : (c : Configuration) (t : ℕ × Event) → HasKey t.1 → IsOrdered L c
      → cuts_on t.1 (outcome_in c t) ≡ false
      → (k : ℕ) → InSet c.state.memory k → InSet (next_in c t).state.memory k
  stays_unspliced c t has o none k s =
      elim (uncut_or_same c t o
      (λ ns told e. true≢false (sym (ap (λ (v : Event). cuts_on v (Ok (Cut ns))) e.5)
      ∙ (ap (cuts_on t.1) (sym told) ∙ none)))) [
        | inl uncut ↦ stays_uncut c t has o uncut k s
        | inr same ↦ (same k).1 s
      ]

  -- if no turn cuts, no key goes
  keeps : (ts : List (ℕ × Event)) (c : Configuration) → IsOrdered L c → All (λ t. HasKey t.1) ts
      → cuts_in (trace_in c ts) ≡ 0 → (k : ℕ) → InSet c.state.memory k → InSet (after_in c ts).state.memory k
  unfolding after_in trace_in
  keeps [] c o keys none k there = there
  keeps (t ∷ ts) c o keys none k there = go (cuts_on t.1 (outcome_in c t)) refl none
      (keeps ts (next_in c t) (ordered_after 0 L enough (t ∷ []) (first_keys (t ∷ []) ts keys) c o)
      (λ i d below. keys (suc i) d (omega (arith, below))))
    where
      has : HasKey t.1
      has = keys 0 t (omega arith)

      go : (b : Bool) → cuts_on t.1 (outcome_in c t) ≡ b → cond b 1 0 + cuts_in (trace_in (next_in c t) ts) ≡ 0
          → (cuts_in (trace_in (next_in c t) ts) ≡ 0 → (j : ℕ) → InSet (next_in c t).state.memory j
          → InSet (after_in (next_in c t) ts).state.memory j) → InSet (after_in (next_in c t) ts).state.memory k
      go true is none rest = absurd (omega (arith, none))
      go false is none rest = rest (omega (arith, none)) k (stays_unspliced c t has o is k there)

-- ---- a moment at which it was found, and one at which it was gone

-- events up to a moment at which the set had the key
pub record WasThere (L : Layout) (events : List (ℕ × Event)) (so_far : List Turn) (k : ℕ) : Type 0 where
  pub early : List (ℕ × Event)
  pub rest : List (ℕ × Event)
  pub all : events ≡ early ++ rest
  pub first_is : so_far ≡ trace_in (ordered L) early
  pub size : length early ≡ length so_far
  pub is : InSet (after_in (ordered L) early).state.memory k

pub was_there : (L : Layout) → IsLayout L → (events : List (ℕ × Event)) (p q : PassView) (k : ℕ) → q.view.layout ≡ L
    → (later : List Turn) → trace_in (ordered L) events ≡ q.view.past ++ later → (was : WasSo p q k true)
    → WasThere L events was.so_far k
was_there L fits events p q k layout later run was =
    let x = parts_of (ordered L) events was.so_far (was.rest ++ later)
    (run ∙ (ap (λ (ts : List Turn). ts ++ later) was.are ∙ append_assoc was.so_far was.rest later)) in
    record {
      early = x.early;
      rest = x.late;
      all = x.all;
      first_is = x.first_is;
      size = x.size;
      is = subst (λ (M : Memory). InSet M k) (ap (words_after L) x.first_is ∙ run_words L fits true x.early)
          (subst (λ (M : Layout). InSet (words_after M was.so_far) k) layout was.gives);
    }

-- events up to a moment of a later call at which the set did not have it
pub record WasGone (L : Layout) (events : List (ℕ × Event)) (was now : List Turn) (k : ℕ) : Type 0 where
  pub before : List (ℕ × Event)
  pub rest : List (ℕ × Event)
  pub all : events ≡ before ++ rest
  pub late : length was < length before
  pub short : length before < length now
  pub is : InSet (after_in (ordered L) before).state.memory k → ⊥

pub was_gone : (L : Layout) → IsLayout L → (events : List (ℕ × Event)) → All (λ t. HasKey t.1) events
    → (was now : List Turn) (w : ℕ) (later : List Turn) → trace_in (ordered L) events ≡ now ++ later → (k : ℕ)
    → AnswerStands L was now w Delete k false → WasGone L events was now k
was_gone L fits events keys was now w later run k answer = record {
  before = m.before;
  rest = rest;
  all = all;
  late = far;
  short = (
      let size = ap (λ (us : List (ℕ × Event)). length us) m.is_run ∙ length-append m.before m.since in
      let short = a.short in
      omega (arith, size, short)
      );
  is = m.gives;
}
  where
    a : AnsweredBy L events was now w Delete k false
    a = answered_by L fits events keys was now later run w Delete k false answer

    m : WasLegal L a.is.before w Delete k false
    m = a.is.moment

    rest : List (ℕ × Event)
    rest = m.since ++ (w, LeaveWith false) ∷ a.is.since

    all : events ≡ m.before ++ rest
    all = a.is.is_run ∙ (ap (λ (us : List (ℕ × Event)). us ++ (w, LeaveWith false) ∷ a.is.since) m.is_run
        ∙ append_assoc m.before m.since ((w, LeaveWith false) ∷ a.is.since))

    call : (own_search (after_in (ordered L) m.before) w).call ≡ Some (record { op = Delete; key = k })
    call = ap (λ (o : Option (List Search)). (search_of (unwrap_or o []) w).call) m.called.are ∙ m.called.is_call

    far : length was < length m.before
    far =
        let begun = a.pinned in
        let stays : pin_of L a.is.before w ≡ pin_of L m.before w = ap (λ (us : List (ℕ × Event)). pin_of L us w)
        m.is_run ∙ pin_stays L m.before m.since w m.stands in
        let below = pin_below L (enough_of L fits) m.before
        (first_keys m.before rest (subst (λ (us : List (ℕ × Event)). All (λ t. HasKey t.1) us) all keys)) w
        (record { op = Delete; key = k }) call in
        omega (arith, begun, stays, below)

-- ---- a turn between the two

module _ (L : Layout) (fits : IsLayout L) (events : List (ℕ × Event)) (keys : All (λ t. HasKey t.1) events)
    (p q : PassView) (k : ℕ) (now later : List Turn) (run : trace_in (ordered L) events ≡ now ++ later)
    (more : List Turn) (goes_on : now ≡ q.view.past ++ more) (layout : q.view.layout ≡ L)
    (was : WasSo p q k true) (w : ℕ) (answer : AnswerStands L q.view.past now w Delete k false) (turns : List Turn)
    (since : now ≡ p.view.past ++ turns) where
  there : WasThere L events was.so_far k
  there = was_there L fits events p q k layout (more ++ later)
      (run ∙ (ap (λ (ts : List Turn). ts ++ later) goes_on ∙ append_assoc q.view.past more later)) was

  gone : WasGone L events q.view.past now k
  gone = was_gone L fits events keys q.view.past now w later run k answer

  -- the moment at which it was found is the earlier one
  between : (mid : List (ℕ × Event)) × (gone.before ≡ there.early ++ mid)
  between = begins there.early gone.before there.rest gone.rest (sym there.all ∙ gone.all)
      (let size = there.size in
      let seen = ap (λ (ts : List Turn). length ts) was.are ∙ length-append was.so_far was.rest in
      let far = gone.late in
      omega (arith, size, seen, far))

  abbrev found_at : Configuration
  found_at = after_in (ordered L) there.early

  before_keys : All (λ t. HasKey t.1) (there.early ++ between.0)
  before_keys = subst (λ (us : List (ℕ × Event)). All (λ t. HasKey t.1) us) between.1
      (first_keys gone.before gone.rest (subst (λ (us : List (ℕ × Event)). All (λ t. HasKey t.1) us) gone.all keys))

  some_cut : 1 ≤ cuts_in (trace_in (after_in (ordered L) there.early) between.0)
  some_cut = by (cuts_in (trace_in (after_in (ordered L) there.early) between.0)) refl
    where
      by : (n : ℕ) → cuts_in (trace_in (after_in (ordered L) there.early) between.0) ≡ n → 1 ≤ n
      by (suc n) is = omega arith
      by zero none = absurd (gone.is (subst (λ (c : Configuration). InSet c.state.memory k)
          (sym (ap (after_in (ordered L)) between.1 ∙ after_in-append (ordered L) there.early between.0))
          (keeps L (enough_of L fits) between.0 (after_in (ordered L) there.early)
          (each_ordered L (enough_of L fits) there.early (first_keys there.early between.0 before_keys))
          (later_keys there.early between.0 before_keys) none k there.is)))

  -- the turns up to the later moment are the first ones that were seen
  told : trace_in (ordered L) gone.before ≡ was.so_far ++ trace_in (after_in (ordered L) there.early) between.0
  told = ap (trace_in (ordered L)) between.1 ∙ (trace_in-append (ordered L) there.early between.0
      ∙ ap (λ (ts : List Turn). ts ++ trace_in (after_in (ordered L) there.early) between.0) (sym there.first_is))

  pub late_cut : 1 ≤ cuts_in turns
  late_cut =
      let cut = some_cut in
      let seen = begins (trace_in (ordered L) gone.before) now
      (trace_in (after_in (ordered L) gone.before) gone.rest) later
      (sym (trace_in-append (ordered L) gone.before gone.rest)
      ∙ (ap (trace_in (ordered L)) (sym gone.all) ∙ run))
      (let size = length_trace (ordered L) gone.before in let short = gone.short in omega (arith, size, short)) in
      let first = begins p.view.past was.so_far (turns) (was.rest ++ more)
      (sym since ∙ (goes_on ∙ (ap (λ (ts : List Turn). ts ++ more) was.are
      ∙ append_assoc was.so_far was.rest more))) (let after = was.later in omega (arith, after)) in
      let whole = ap cuts_in (seen.1 ∙ ap (λ (ts : List Turn). ts ++ seen.0)
      (told ∙ ap (λ (ts : List Turn). ts ++ trace_in (after_in (ordered L) there.early) between.0) first.1)) in
      let three = cuts-append ((p.view.past ++ first.0) ++ trace_in (after_in (ordered L) there.early) between.0)
      seen.0 in
      let two = cuts-append (p.view.past ++ first.0) (trace_in (after_in (ordered L) there.early) between.0) in
      let one = cuts-append p.view.past first.0 in
      let all = ap cuts_in since ∙ cuts-append p.view.past turns in
      omega (arith, cut, whole, three, two, one, all)
    where
      cuts-append : (xs ys : List Turn) → cuts_in (xs ++ ys) ≡ cuts_in xs + cuts_in ys
      cuts-append xs ys = number-append (λ t. cuts_on t.event t.outcome) xs ys
