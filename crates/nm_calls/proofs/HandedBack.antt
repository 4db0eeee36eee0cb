-- While a node that was cut off waits, nobody stores a value for its slot. So the value that is
-- read then is the one that the slot had right before the cut.
use Rattle.std.proofs.Common.{◌≡◌, inl, ℕ, zero, suc, ◌+◌, ◌≤◌, ◌==◌, Bool, true, false, cond, not, List, [], ◌∷◌, ◌++◌, map, append_assoc, length, append-nil, ◌&&◌, ◌||◌, inr, refl, sym, ap, subst, ◌∙◌, arith, true≢false}
use Rattle.std.specs.Prelude.{All, Contains, Option, None, Some, filter, option_map, slice_get, slice_index_or, take, drop}
use Rattle.std.proofs.lemmas.Bool.{eqb-true, eq-eqb}
use Rattle.std.proofs.lemmas.Option.{none-some, same_Some}
use Rattle.std.proofs.lemmas.List.{append_cancel_left, length-append, take-append-drop}
use Rattle.std.proofs.lemmas.List.Elements.{All-contains, All-contains_itself, Contains-append_cases, Contains-append_left, Contains-append_right}
use Rattle.nm_edge.specs.Layouts.{IsLayout, Layout}
use Rattle.nm_edge.specs.declared.edge.Side.TheVariants.{Left, Right}
use Rattle.nm_edge.specs.declared.node.NodeId.{NodeId}
use Rattle.nm_model.specs.declared.event.Event.{Event}
use Rattle.nm_model.specs.declared.ledger.Ledger.{Ledger}
use Rattle.nm_model.specs.declared.ledger.Queued.{Queued}
use Rattle.nm_model.specs.declared.trace.Turn.{Turn}
use Rattle.nm_model.specs.Headline.{Headline, OnePlace, Place, cuts_of, freed_by, has_after, is_among, nodes_cut_of, slots_of, waits_of, words_after}
use Rattle.nm_model.specs.Headline.Place.{InHands, InPool, OnPath, Waits}
use Rattle.nm_model.specs.Knowledge.{Knowledge, is_private}
use Rattle.nm_model.specs.Laws.{node_in}
use Rattle.nm_model.specs.Ledgers.{held as held_ledger}
use Rattle.nm_model.specs.Memory.{Memory, child, in_pool, is_leaf, node, opening}
use Rattle.nm_model.specs.declared.reply.Refused.{Refused}
use Rattle.nm_laws.proofs.Configurations.{after_in-append, allowed_next, refused_next}
use Rattle.nm_laws.proofs.Pictures.{IsLive}
use Rattle.nm_laws.proofs.Steps.{allowed}
use Rattle.nm_laws.proofs.TreeSteps.{Lawful}
use Rattle.nm_laws.proofs.Views.{picture}
use Rattle.nm_model.specs.Ordered.{Configuration, HasKey, after_in, applied_in, disorder_in, next_in, ordered, refused_in, trace_in}
use Rattle.nm_order.proofs.AnswersSince.{later_keys}
use Rattle.nm_order.proofs.FlaggedNodes.{memory_is}
use Rattle.nm_order.proofs.OrderedLaws.{IsOrdered, each_ordered, law_of_state, neither, ordered_next}
use Rattle.nm_order.proofs.OrderedMoments.{Lasting, lasting, lasting_stays}
use Rattle.nm_model.specs.Paths.{Reached}
use Rattle.nm_model.specs.Runs.{of, refused}
use Rattle.nm_order.specs.Hands.{IsPooled}
use Rattle.nm_order.specs.Logs.{known_by, part_of}
use Rattle.nm_order.proofs.PartsOfRuns.{logs_tell}
use Rattle.nm_order.proofs.PinNumbers.{length_trace}
use Rattle.nm_order.proofs.RealTime.{begins_with}
use Rattle.nm_order.proofs.WalksOfRuns.{trace_in-append}
use Rattle.nm_theorem.proofs.FreedOfRuns.{cuts-append, waits_is}
use Rattle.nm_theorem.proofs.Hands.{run_hands}
use Rattle.nm_theorem.proofs.HeadlineOfRuns.{each_run_has_it}
use Rattle.nm_theorem.proofs.WrittenWords.{run_words}
use Rattle.nm_steps.specs.declared.view.Stored.{Stored}
use Rattle.nm_steps.specs.Rules.{Extends, WereHeld, knowledge, value_of}
use Rattle.nm_steps.specs.Steps.{Continues, IsInRun, PassView}
use Rattle.nm_steps.specs.Values.{HasSeenStores, is_bare}
use Rattle.nm_steps.proofs.AfterSteps.{apart_in_run}
use Rattle.nm_steps.proofs.Seeing.{stores_same, stores_through}
use Rattle.nm_steps.proofs.ValueStays.{NobodyHolds, value_stays}
use Rattle.nm_epoch.specs.declared.collecting.Entry.{Entry}
use Rattle.nm_epoch.specs.Collecting.{IsQueueOf, queued}
use Rattle.nm_epoch.proofs.Fronts.{shown_queue}
use Rattle.nm_epoch.specs.Handing.{WasFound, WasRead}
use Rattle.nm_calls.specs.HandedBack.{WasCutInner, WasCutWith}
use Rattle.nm_calls.specs.Maps.{HoldsStores}
use Rattle.nm_calls.proofs.MapMoments.{holds_longer}
use Rattle.nm_calls.proofs.StoresInTurns.{stores_in_turns}
use Rattle.nm_calls.proofs.Unheld.{among_in, freed_longer, in_filter, not_place, not_waiting}

-- ---- lists

head_of : {X : Type 0} (x y : X) (xs ys : List X) → x ∷ xs ≡ y ∷ ys → x ≡ y
head_of x y xs ys e = cc

tail_of : {X : Type 0} (x y : X) (xs ys : List X) → x ∷ xs ≡ y ∷ ys → xs ≡ ys
tail_of x y xs ys e = cc

-- one of those that pass is among all, and passes
pub passed : (p : NodeId → Bool) (ns : List NodeId) (n : NodeId) → Contains (filter p ns) n → Contains ns n
    × (p n ≡ true)
passed p [] n at = absurd (let below = at.1 in omega (arith, below))
passed p (m ∷ ms) n at = by (p m) refl at (passed p ms n)
  where
    by : (b : Bool) → p m ≡ b → Contains (cond b (m ∷ filter p ms) (filter p ms)) n
        → (Contains (filter p ms) n → Contains ms n × (p n ≡ true)) → Contains (m ∷ ms) n × (p n ≡ true)
    by true passes (zero, below, same) later = ((0, omega arith, same), ap p (sym same) ∙ passes)
    by true passes (suc i, below, same) later = further (later (i, omega (arith, below), same))
      where
        further : Contains ms n × (p n ≡ true) → Contains (m ∷ ms) n × (p n ≡ true)
        further r = let less = r.0.1 in ((suc r.0.0, omega (arith, less), r.0.2), r.1)
    by false other there later = let r = later there in let below = r.0.1 in
        ((suc r.0.0, omega (arith, below), r.0.2), r.1)

-- the turn that has cut a node off
pub record CutBy (o : ℕ) (turns : List Turn) (n : NodeId) : Type 0 where
  pub before : List Turn
  pub cut : Turn
  pub since : List Turn
  pub are : turns ≡ before ++ cut ∷ since
  pub own : cut.worker ≡ o
  pub there : Contains (nodes_cut_of cut.outcome) n

-- ---- places of a slot from the cut of its node on

module _ (L : Layout) (turns : List Turn) (h : Headline L turns) (o : ℕ) (n : NodeId) (low : 6 ≤ n.slot)
    (most : n.slot ≤ L.nodes) (c : CutBy o turns n) (kept : Contains (freed_by turns) n → ⊥) where
  -- right before the cut
  reached : Reached (words_after L c.before) n.slot
  reached =
      let cuts = h.cuts c.before c.since c.cut c.are in
      ((cuts.just n.slot).1 (slot_there (nodes_cut_of c.cut.outcome) c.there)).was
    where
      slot_there : (ns : List NodeId) → Contains ns n → Contains (slots_of ns) n.slot
      slot_there [] at = absurd (let below = at.1 in omega (arith, below))
      slot_there (m ∷ ms) (zero, below, at) = (0, omega arith, ap (λ (x : NodeId). x.slot) at)
      slot_there (m ∷ ms) (suc i, below, at) = let r = slot_there ms (i, omega (arith, below), at) in
          let less = r.1 in (suc r.0, omega (arith, less), r.2)

  free_before : (w : ℕ) → has_after (opening L) w n.slot false c.before ≡ false
  free_before w = by (has_after (opening L) w n.slot false c.before) refl
    where
      one : OnePlace L c.before n.slot
      one = h.places c.before (c.cut ∷ c.since) c.are n.slot low most

      by : (b : Bool) → has_after (opening L) w n.slot false c.before ≡ b → b ≡ false
      by true held = absurd (not_place w reached.path
          (one.only (InHands w) held ∙ sym (one.only (OnPath reached.path) reached.ends)))
      by false none' = refl

  free_after : (mid late : List Turn) → c.since ≡ mid ++ late → (w : ℕ)
      → has_after (opening L) w n.slot false (c.before ++ c.cut ∷ mid) ≡ false
  free_after mid late is w = by (has_after (opening L) w n.slot false (c.before ++ c.cut ∷ mid)) refl
    where
      all : turns ≡ (c.before ++ c.cut ∷ mid) ++ late
      all = c.are ∙ (ap (λ (l : List Turn). c.before ++ c.cut ∷ l) is ∙ sym (append_assoc c.before (c.cut ∷ mid) late))

      one : OnePlace L (c.before ++ c.cut ∷ mid) n.slot
      one = h.places (c.before ++ c.cut ∷ mid) late all n.slot low most

      among : Contains (cuts_of o (c.before ++ c.cut ∷ mid)) n
      among =
          subst (λ (ns : List NodeId). Contains ns n) (sym (cuts-append o c.before (c.cut ∷ mid)))
          (Contains-append_right (cuts_of o c.before) (cuts_of o (c.cut ∷ mid)) n
          (subst (λ (b : Bool). Contains (cond b (nodes_cut_of c.cut.outcome) [] ++ cuts_of o mid) n)
          (sym (eq-eqb c.cut.worker o c.own)) (Contains-append_left (nodes_cut_of c.cut.outcome) (cuts_of o mid) n
          c.there)))

      not_freed : is_among (freed_by (c.before ++ c.cut ∷ mid)) n ≡ false
      not_freed = go (is_among (freed_by (c.before ++ c.cut ∷ mid)) n) refl
        where
          go : (b : Bool) → is_among (freed_by (c.before ++ c.cut ∷ mid)) n ≡ b → b ≡ false
          go true is' = absurd (kept (subst (λ (l : List Turn). Contains (freed_by l) n) (sym all)
              (freed_longer (c.before ++ c.cut ∷ mid) late n (among_in (freed_by (c.before ++ c.cut ∷ mid)) n is'))))
          go false is' = refl

      waits : (i : ℕ) × (slice_get (waits_of o (c.before ++ c.cut ∷ mid)) i ≡ Some n)
      waits = in_filter (λ (m : NodeId). not (is_among (freed_by (c.before ++ c.cut ∷ mid)) m))
          (cuts_of o (c.before ++ c.cut ∷ mid)) n among (ap not not_freed)

      by : (b : Bool) → has_after (opening L) w n.slot false (c.before ++ c.cut ∷ mid) ≡ b → b ≡ false
      by true held = absurd (not_waiting w o waits.0
          (one.only (InHands w) held ∙ sym (one.only (Waits o waits.0)
          (ap (option_map (λ (m : NodeId). m.slot)) waits.1))))
      by false none' = refl

pub in_among : (ns : List NodeId) (n : NodeId) → Contains ns n → is_among ns n ≡ true
in_among [] n c = absurd (let below = c.1 in omega (arith, below))
in_among (m ∷ ms) n (zero, below, at) = subst (λ (x : NodeId). is_among (m ∷ ms) x ≡ true) at
    (ap (λ (b : Bool). b || is_among ms m) (both m))
  where
    both : (x : NodeId) → ((x.slot == x.slot) && (x.birth == x.birth)) ≡ true
    both x = rw (eq-eqb x.slot x.slot refl) (eq-eqb x.birth x.birth refl)
in_among (m ∷ ms) n (suc i, below, at) = or_later ((n.slot == m.slot) && (n.birth == m.birth)) (is_among ms n)
    (in_among ms n (i, omega (arith, below), at))
  where
    or_later : (a b : Bool) → b ≡ true → (a || b) ≡ true
    or_later true b is = refl
    or_later false b is = is

-- ---- a leaf

-- two lists that begin alike, for as long as each first part is
pub same_start : {X : Type 0} (xs ys xs' ys' : List X) → xs ++ ys ≡ xs' ++ ys' → length xs ≡ length xs' → xs ≡ xs'
same_start [] ys [] ys' is long = refl
same_start [] ys (z ∷ xs') ys' is long = absurd (omega (arith, long))
same_start (x ∷ xs) ys [] ys' is long = absurd (omega (arith, long))
same_start (x ∷ xs) ys (z ∷ xs') ys' is long =
    let head = head_of x z (xs ++ ys) (xs' ++ ys') is in
    let tail = same_start xs ys xs' ys' (tail_of x z (xs ++ ys) (xs' ++ ys') is) (omega (arith, long)) in
    (λ i. head i ∷ tail i)

pub take_long : {X : Type 0} (n : ℕ) (xs : List X) → n ≤ length xs → length (take n xs) ≡ n
take_long zero xs le = refl
take_long (suc n) [] le = absurd (omega (arith, le))
take_long (suc n) (x ∷ xs) le = ap suc (take_long n xs (omega (arith, le)))

pub first_keys : (xs ys : List (ℕ × Event)) → All (λ t. HasKey t.1) (xs ++ ys) → All (λ t. HasKey t.1) xs
first_keys xs ys all = λ i d below. All-contains (λ (t : ℕ × Event). HasKey t.1) (xs ++ ys) (slice_index_or xs i d)
    all (Contains-append_left xs ys (slice_index_or xs i d) (All-contains_itself xs i d below))

-- ---- what lasts of a slot that nobody has in hands

-- `HasNone`, `NoneHold`: nobody has the slot in hands in this configuration, or from it on over these
-- turns
abbrev HasNone : Configuration → ℕ → Type 0
HasNone c s = (w : ℕ) → is_private (of c.state w) s ≡ false

abbrev NoneHold : Configuration → List (ℕ × Event) → ℕ → Type 0
NoneHold c ts s = (first rest : List (ℕ × Event)) → ts ≡ first ++ rest → HasNone (after_in c first) s

module _ (L : Layout) (enough : 5 ≤ L.nodes) (s : ℕ) where
  turn_lasts_unheld : (c : Configuration) (t : ℕ × Event) → IsOrdered L c → HasNone c s
      → lasting (next_in c t).state.memory s ≡ lasting c.state.memory s
  unfolding refused_in applied_in
  turn_lasts_unheld c t o none' = go (refused_in c t.0 t.1) refl
    where
      go : (q : Option Refused) → refused_in c t.0 t.1 ≡ q
          → lasting (next_in c t).state.memory s ≡ lasting c.state.memory s
      go (Some q) why = ap (λ (d : Configuration). lasting d.state.memory s) (refused_next c t q why)
      go None why =
          let l = law_of_state L enough c o in
          let ok = allowed c.state t.0 t.1 (neither (refused c.state t.0 t.1) (disorder_in c t.0 t.1) why).0 in
          ap (λ (d : Configuration). lasting d.state.memory s) (allowed_next c t why)
          ∙ (ap (λ (m : Memory). lasting m s) (memory_is c.state l.0 l.1 t.0 t.1 ok)
          ∙ lasting_stays c.state l.0 l.1 t.0 t.1 ok s (λ own. true≢false (sym own ∙ none' t.0)))

  lasting_from : (ts : List (ℕ × Event)) (c : Configuration) → All (λ t. HasKey t.1) ts → IsOrdered L c
      → NoneHold c ts s → lasting (after_in c ts).state.memory s ≡ lasting c.state.memory s
  unfolding after_in
  lasting_from [] c keys o none' = refl
  lasting_from (t ∷ ts) c keys o none' =
      let has : HasKey t.1 = keys 0 t (omega arith) in
      lasting_from ts (next_in c t) (λ k d below. keys (suc k) d (omega (arith, below)))
      (ordered_next L enough c t has o)
      (λ first rest is. none' (t ∷ first) rest (ap (λ (us : List (ℕ × Event)). t ∷ us) is))
      ∙ turn_lasts_unheld c t o (none' [] (t ∷ ts) refl)

-- ---- the cut of a node that waits

pub cut_by : (o : ℕ) (ts : List Turn) (n : NodeId) → Contains (cuts_of o ts) n → CutBy o ts n
cut_by o [] n c = absurd (let below = c.1 in omega (arith, below))
cut_by o (t ∷ ts) n c = by (t.worker == o) refl (cut_by o ts n)
  where
    further : CutBy o ts n → CutBy o (t ∷ ts) n
    further r = record {
      before = t ∷ r.before;
      cut = r.cut;
      since = r.since;
      are = ap
          (λ (us : List Turn). t ∷ us) r.are;
      own = r.own;
      there = r.there;
    }

    by : (b : Bool) → (t.worker == o) ≡ b → (Contains (cuts_of o ts) n → CutBy o ts n) → CutBy o (t ∷ ts) n
    by true is later = elim (Contains-append_cases (nodes_cut_of t.outcome) (cuts_of o ts) n
        (subst (λ (d : Bool). Contains (cond d (nodes_cut_of t.outcome) [] ++ cuts_of o ts) n) is c)) [
          | inl here ↦ record {
            before = [];
            cut = t;
            since = ts;
            are = refl;
            own = eqb-true t.worker o is;
            there =
                here;
          }
          | inr there ↦ further (later there)
        ]
    by false is later = further (later (subst (λ (d : Bool). Contains
        (cond d (nodes_cut_of t.outcome) [] ++ cuts_of o ts) n) is c))

pub waiting_passes : (o : ℕ) (ts : List Turn) (n : NodeId) → Contains (waits_of o ts) n → Contains (cuts_of o ts) n
    × (not (is_among (freed_by ts) n) ≡ true)
waiting_passes o ts n waits = passed (λ (m : NodeId). not (is_among (freed_by ts) m)) (cuts_of o ts) n waits

-- by more turns
abbrev pub cut_longer : (o : ℕ) (ts us : List Turn) (n : NodeId) → Extends us ts → CutBy o ts n → CutBy o us n
cut_longer o ts us n more c = record {
  before = c.before;
  cut = c.cut;
  since = c.since ++ more.more;
  are = more.is ∙ (ap (λ (l : List Turn). l ++ more.more) c.are ∙ append_assoc c.before (c.cut ∷ c.since) more.more);
  own = c.own;
  there = c.there;
}

-- ---- a node that waits

module _ (L : Layout) (fits : IsLayout L) (events : List (ℕ × Event)) (keys : All (λ t. HasKey t.1) events) (o : ℕ)
    (n : NodeId) (c : CutBy o (trace_in (ordered L) events) n)
    (waits : Contains (waits_of o (trace_in (ordered L) events)) n) (pooled : IsPooled L n.slot) where
  abbrev turns : List Turn
  turns = trace_in (ordered L) events

  abbrev end : Configuration
  end = after_in (ordered L) events

  enough : 5 ≤ L.nodes
  enough = let least = fits.least in omega arith

  passes : Contains (cuts_of o turns) n × (not (is_among (freed_by turns) n) ≡ true)
  passes = waiting_passes o turns n waits

  h : Headline L turns
  h = each_run_has_it L fits true events keys

  kept : Contains (freed_by turns) n → ⊥
  kept freed = true≢false (sym passes.1 ∙ ap not (in_among (freed_by turns) n freed))

  nobody : NobodyHolds L events (length c.before) n.slot
  nobody now after is le v =
      let long = length_trace (ordered L) now in
      let mid = begins_with c.before (c.cut ∷ c.since) (trace_in (ordered L) now)
      (trace_in (after_in (ordered L) now) after) (sym c.are ∙ traced) (omega (arith, le, long)) in
      sym (run_hands v n.slot L fits true now) ∙ (ap (has_after (opening L) v n.slot false) mid.1
      ∙ by mid.0 (append_cancel_left c.before (c.cut ∷ c.since)
      (mid.0 ++ (trace_in (after_in (ordered L) now) after))
      (sym c.are ∙ (traced ∙ (ap (λ (l : List Turn). l ++ (trace_in (after_in (ordered L) now) after)) mid.1
      ∙ append_assoc c.before mid.0 (trace_in (after_in (ordered L) now) after))))))
    where
      traced : turns ≡ trace_in (ordered L) now ++ (trace_in (after_in (ordered L) now) after)
      traced = ap (trace_in (ordered L)) is ∙ trace_in-append (ordered L) now after

      by : (mid : List Turn) → c.cut ∷ c.since ≡ mid ++ (trace_in (after_in (ordered L) now) after)
          → has_after (opening L) v n.slot false (c.before ++ mid) ≡ false
      by [] rest = subst (λ (l : List Turn). has_after (opening L) v n.slot false l ≡ false)
          (sym (append-nil c.before)) (free_before L turns h o n pooled.0 pooled.1 c kept v)
      by (t ∷ ts) rest =
          subst (λ (x : Turn). has_after (opening L) v n.slot false (c.before ++ x ∷ ts) ≡ false)
          (head_of c.cut t c.since (ts ++ (trace_in (after_in (ordered L) now) after)) rest)
          (free_after L turns h o n pooled.0 pooled.1 c kept ts (trace_in (after_in (ordered L) now) after)
          (tail_of c.cut t c.since (ts ++ (trace_in (after_in (ordered L) now) after)) rest) v)

  pub was_reached : Reached (words_after L c.before) n.slot
  was_reached = reached L turns h o n pooled.0 pooled.1 c kept

  -- the run up to the cut
  abbrev start : List (ℕ × Event)
  start = take (length c.before) events

  parts : start ++ drop (length c.before) events ≡ events
  parts = take-append-drop (length c.before) events

  traced_start : trace_in (ordered L) start ≡ c.before
  traced_start =
      let all = length_trace (ordered L) events in
      let whole : length turns ≡ length (c.before ++ c.cut ∷ c.since) = ap (λ (ts : List Turn). length ts) c.are in
      let sum = length-append c.before (c.cut ∷ c.since) in
      let here = length_trace (ordered L) start in
      let long = take_long (length c.before) events (omega (arith, all, whole, sum)) in
      same_start (trace_in (ordered L) start) (trace_in (after_in (ordered L) start) (drop (length c.before) events))
      c.before (c.cut ∷ c.since)
      (sym (trace_in-append (ordered L) start (drop (length c.before) events))
      ∙ (ap (trace_in (ordered L)) parts ∙ c.are)) (here ∙ long)

  start_long : length c.before ≤ length start
  start_long = let here = length_trace (ordered L) start in let same = ap
      (λ (ts : List Turn). length ts) traced_start in omega (arith, here, same)

  start_words : (after_in (ordered L) start).state.memory ≡ words_after L c.before
  start_words = sym (run_words L fits true start) ∙ ap (words_after L) traced_start

  -- it is a leaf at the end of the run if it was one right before its cut
  pub kind_at_end : is_leaf (node end.state.memory n.slot) ≡ is_leaf (node (words_after L c.before) n.slot)
  kind_at_end =
      ap (λ (l : Lasting). l.leaf)
      (ap (λ (d : Configuration). lasting d.state.memory n.slot)
      (sym (ap (after_in (ordered L)) parts) ∙ after_in-append (ordered L) start (drop (length c.before) events))
      ∙ lasting_from L enough n.slot (drop (length c.before) events) (after_in (ordered L) start)
      (later_keys start (drop (length c.before) events) all_keys)
      (each_ordered L enough start (first_keys start (drop (length c.before) events) all_keys)) free)
      ∙ ap (λ (m : Memory). is_leaf (node m n.slot)) start_words
    where
      all_keys : All (λ t. HasKey t.1) (start ++ drop (length c.before) events)
      all_keys = subst (λ (ts : List (ℕ × Event)). All (λ t. HasKey t.1) ts) (sym parts) keys

      free : NoneHold (after_in (ordered L) start) (drop (length c.before) events) n.slot
      free first rest is w =
          let sum = length-append start first in
          let all : events ≡ (start ++ first) ++ rest = sym parts
          ∙ (ap (λ (ts : List (ℕ × Event)). start ++ ts) is ∙ sym (append_assoc start first rest)) in
          ap (λ (d : Configuration). is_private (of d.state w) n.slot) (sym (after_in-append (ordered L) start first))
          ∙ nobody (start ++ first) rest all (omega (arith, sum, start_long)) w

  -- it is in no pool, and in nobody's hands
  out_of_pool : in_pool end.state.memory n.slot ≡ false
  out_of_pool = by (in_pool end.state.memory n.slot) refl
    where
      one : OnePlace L turns n.slot
      one = h.places turns [] (sym (append-nil turns)) n.slot pooled.0 pooled.1

      index : (i : ℕ) × (slice_get (waits_of o turns) i ≡ Some n)
      index = in_filter (λ (m : NodeId). not (is_among (freed_by turns) m)) (cuts_of o turns) n passes.0 passes.1

      apart : ◌≡◌ {A = Place} InPool (Waits o index.0) → ⊥
      apart e = cc

      by : (b : Bool) → in_pool end.state.memory n.slot ≡ b → b ≡ false
      by true there = absurd (apart (one.only InPool
          (ap (λ (m : Memory). in_pool m n.slot) (run_words L fits true events) ∙ there)
          ∙ sym (one.only (Waits o index.0) (ap (option_map (λ (m : NodeId). m.slot)) index.1))))
      by false none' = refl

  -- its left edge leads to no node exactly if it is a leaf
  pub kind_by_left : (child end.state.memory n.slot Left == 0) ≡ is_leaf (node end.state.memory n.slot)
  kind_by_left = by (child end.state.memory n.slot Left == 0) refl
    where
      l : (g : ℕ → ℕ) × Lawful end.state g
      l = law_of_state L enough end (each_ordered L enough events keys)

      live : IsLive (picture end.state l.0) n.slot
      live = record {
        pooled = out_of_pool;
        shared = λ w. nobody events [] (sym (append-nil events))
            (let long = length_trace (ordered L) events in let are = ap
            (λ (ts : List Turn). length ts) c.are in let sum = length-append c.before (c.cut ∷ c.since) in omega
            (arith, long, are, sum)) w;
      }

      by : (b : Bool) → (child end.state.memory n.slot Left == 0) ≡ b → b ≡ is_leaf (node end.state.memory n.slot)
      by false some' = sym (ap (λ (d : Bool). d && (child end.state.memory n.slot Right == 0)) some')
      by true null =
          let twin : child end.state.memory n.slot Right ≡ 0 = l.1.tree.twins n.slot Left live (eqb-true _ 0 null) in
          sym (ap (λ (d : Bool). d && (child end.state.memory n.slot Right == 0)) null
          ∙ eq-eqb (child end.state.memory n.slot Right) 0 twin)

  -- its slot has the value that it had right before the cut
  pub waits_with_its_value : is_leaf (node (words_after L c.before) n.slot) ≡ true → (stores : List Stored)
      → WereHeld L events stores → ((was : List Turn) → Extends turns was → HoldsStores L was turns stores)
      → WasCutWith L turns stores n (value_of stores n.slot)
  waits_with_its_value was_leaf stores held holds = record {
    before = c.before;
    cut = c.cut;
    since = c.since;
    are = c.are;
    cuts = c.there;
    high = pooled.0;
    reached = was_reached;
    leaf = was_leaf;
    first = stores;
    extends = stores_same stores stores refl;
    stored = holds c.before (record { more = c.cut ∷ c.since; is = c.are });
    has_value = value_stays L events stores (length c.before) n.slot held nobody;
  }

-- ---- a node at the front of a queue

module _ (at : PassView) (run : IsInRun at) (seen : HasSeenStores at.view) (o : ℕ) (e : Entry) (later : List Entry)
    (waits : IsQueueOf (knowledge at.view) o (e ∷ later)) where
  abbrev L' : Layout
  L' = at.view.layout

  abbrev seen_events : List (ℕ × Event)
  seen_events = seen.run.events

  ledger : (l : Ledger) × (held_ledger (knowledge at.view).ledgers o ≡ Some l) × (l.queue ≡ map queued (e ∷ later))
  ledger = go (held_ledger (knowledge at.view).ledgers o) refl waits
    where
      go : (x : Option Ledger) → held_ledger (knowledge at.view).ledgers o ≡ x
          → option_map (λ (l : Ledger). l.queue) x ≡ Some (map queued (e ∷ later))
          → (l : Ledger) × (held_ledger (knowledge at.view).ledgers o ≡ Some l) × (l.queue ≡ map queued (e ∷ later))
      go None is w = absurd (none-some (map queued (e ∷ later)) w)
      go (Some l) is w = (l, is, same_Some l.queue (map queued (e ∷ later)) w)

  known : of (after_in (ordered L') seen_events).state at.view.number ≡ knowledge at.view
  known = logs_tell L' seen_events at.view.number seen.run.worker
      ∙ ap (known_by L' at.view.number) (ap (part_of at.view.number) (sym seen.run.are) ∙ seen.run.is_part)

  waiting_are : waits_of o (trace_in (ordered L') seen_events) ≡ e.node ∷ map node_in (map queued later)
  waiting_are =
      waits_is L' run.fits true seen_events at.view.number o ledger.0
      (ap (λ (k : Knowledge). held_ledger k.ledgers o) known ∙ ledger.1)
      ∙ ap (λ (q : List Queued). map node_in q) ledger.2

  pub first_pooled : IsPooled L' e.node.slot
  first_pooled = (apart_in_run at run).waiting o 0 (queued e)
      (ap (λ (q : List Queued). slice_get q 0) (shown_queue (held_ledger (knowledge at.view).ledgers o)
      (map queued (e ∷ later)) waits))

  pub first_waits : Contains (waits_of o (trace_in (ordered L') seen_events)) e.node
  first_waits = subst (λ (ns : List NodeId). Contains ns e.node) (sym waiting_are) (0, omega arith, refl)

  pub its_cut : CutBy o (trace_in (ordered L') seen_events) e.node
  its_cut = cut_by o (trace_in (ordered L') seen_events) e.node
      (waiting_passes o (trace_in (ordered L') seen_events) e.node first_waits).0

  pub reached_before : Reached (words_after L' its_cut.before) e.node.slot
  reached_before = was_reached L' run.fits seen_events seen.run.keys o e.node its_cut first_waits first_pooled

  pub kind_before : is_leaf (node (words_after L' its_cut.before) e.node.slot) ≡ is_bare at.view seen e.node.slot
  kind_before = sym (kind_by_left L' run.fits seen_events seen.run.keys o e.node its_cut first_waits first_pooled
      ∙ kind_at_end L' run.fits seen_events seen.run.keys o e.node its_cut first_waits first_pooled)

  -- with its value, by a cut that is known
  pub cut_with : (c : CutBy o at.view.past e.node) → is_leaf (node (words_after L' c.before) e.node.slot) ≡ true
      → (v : ℕ) → v ≡ value_of at.view.stores e.node.slot → WasCutWith L' at.view.past at.view.stores e.node v
  cut_with c leaf v is =
      subst (λ (ts : List Turn). WasCutWith L' ts at.view.stores e.node v) (sym seen.run.are)
      (subst (WasCutWith L' (trace_in (ordered L') seen_events) at.view.stores e.node) (sym is)
      (waits_with_its_value L' run.fits seen_events seen.run.keys o e.node
      (record {
        before = c.before;
        cut = c.cut;
        since = c.since;
        are = sym seen.run.are
            ∙ c.are;
        own = c.own;
        there = c.there;
      })
      first_waits first_pooled leaf at.view.stores seen.held
      (λ was from. subst (λ (ts : List Turn). HoldsStores L' was ts at.view.stores) seen.run.are
      (stores_in_turns at.view run.fits seen was (subst (λ (ts : List Turn). Extends ts was) (sym seen.run.are)
      from)))))

-- the cut of an entry that was found at the front of its queue
record HasKind (o : ℕ) (at : PassView) (n : NodeId) (leaf : Bool) : Type 0 where
  cut : CutBy o at.view.past n
  high : 6 ≤ n.slot
  reached : Reached (words_after at.view.layout cut.before) n.slot
  kind : is_leaf (node (words_after at.view.layout cut.before) n.slot) ≡ leaf

kind_found : (p q : PassView) (o : ℕ) (e : Entry) (b : Bool) (r : WasFound o p q e b) → HasKind o r.at e.node b
kind_found p q o e b r =
    let c = its_cut r.at r.after.run r.seen o e r.later r.waits in
    record {
      cut = record {
        before = c.before;
        cut = c.cut;
        since = c.since;
        are = r.seen.run.are
            ∙ c.are;
        own = c.own;
        there = c.there;
      };
      high = (first_pooled r.at r.after.run r.seen o e r.later r.waits).0;
      reached = reached_before r.at r.after.run r.seen o e r.later r.waits;
      kind = kind_before r.at r.after.run r.seen o e r.later r.waits ∙ sym r.is;
    }

same_layouts : (p q : PassView) → Continues p q → q.view.layout ≡ p.view.layout
same_layouts p q on = ap (λ (s : PassView). s.view.layout) on.same

-- what was found to be no leaf was none before its cut
pub found_is_inner : (p q : PassView) (o : ℕ) (e : Entry) → WasFound o p q e false
    → WasCutInner q.view.layout q.view.past e.node
found_is_inner p q o e r =
    let k = kind_found p q o e false r in
    let more = r.until.past.goes_on in
    let c = cut_longer o r.at.view.past q.view.past e.node more k.cut in
    subst (λ (L : Layout). WasCutInner L q.view.past e.node) (sym (same_layouts r.at q r.until)) (record {
      before = c.before;
      cut = c.cut;
      since = c.since;
      are = c.are;
      cuts = c.there;
      high = k.high;
      reached = k.reached;
      inner = k.kind;
    })

-- what was read of a node is what its slot had before the cut, in all that was seen later
pub read_is_cut : (p q : PassView) (o : ℕ) (e : Entry) (v : ℕ) → WasRead o p q e v
    → WasCutWith q.view.layout q.view.past q.view.stores e.node v
read_is_cut p q o e v r =
    let k = kind_found p q o e true (record {
      at = r.found.at;
      after = r.found.after;
      until = r.found.until;
      later = r.found.later;
      waits = r.found.waits;
      seen = r.found.seen;
      is = r.found.is;
    }) in
    let c = cut_longer o r.found.at.view.past r.at.view.past e.node r.after.past.goes_on k.cut in
    let leaf : is_leaf (node (words_after r.at.view.layout c.before) e.node.slot) ≡ true =
    ap (λ (L : Layout). is_leaf (node (words_after L c.before) e.node.slot)) (same_layouts r.found.at r.at r.after)
    ∙ k.kind in
    let was = cut_with r.at r.after.run r.seen o e r.later r.waits c leaf v r.value in
    let more = r.until.past.goes_on in
    subst (λ (L : Layout). WasCutWith L q.view.past q.view.stores e.node v) (sym (same_layouts r.at q r.until))
    (record {
      before = was.before;
      cut = was.cut;
      since = was.since ++ more.more;
      are = more.is ∙ (ap (λ (l : List Turn). l ++ more.more) was.are
          ∙ append_assoc was.before (was.cut ∷ was.since) more.more);
      cuts = was.cuts;
      high = was.high;
      reached = was.reached;
      leaf = was.leaf;
      first = was.first;
      extends = stores_through was.first r.at.view.stores q.view.stores was.extends r.until.stores;
      stored = holds_longer r.at.view.layout was.before r.at.view.past q.view.past was.first more was.stored;
      has_value = was.has_value;
    })
